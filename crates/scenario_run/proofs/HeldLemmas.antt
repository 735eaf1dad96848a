-- Text that is written and held, piece after piece.
use Rattle.std.proofs.Common.{◌≡◌, ◌∙◌, ℕ, ◌+◌, ◌<◌, ◌≤◌, List, [], ◌∷◌, ◌++◌, length, take, drop, get_or, Result, Ok, Err, MatchResult, true, false, arith, refl, sym, ap, subst, inl, inr, append_assoc, append-nil, take-append-drop}
use Rattle.std.specs.Prelude.{is_err}
use Rattle.std.specs.Io.KnownBytes.{Appends}
use Rattle.std.proofs.KnownBytes.{Appends-nil, Appends-trans}
use Rattle.std.proofs.lemmas.Bool.{false≢true}
use Rattle.std.proofs.lemmas.List.{take_all, take_more, drop_more}
use Rattle.std.proofs.lemmas.List.Concat.{flat_map-append}
use Rattle.stream_taps.specs.Tapped.{Rose}
use Rattle.server_core.specs.declared.event.Event.{Event}
use Rattle.scenario_run.specs.Held.{Place, Printed, CutShort, Holds, EventsPrinted}
use Rattle.scenario_run.specs.Texts.{event_line, events_lines}
use Rattle.scenario_run.specs.declared.held.PrintFault.{PrintFault}
use Rattle.scenario_run.specs.declared.held.PrintFault.TheVariants.{Write, Memory}

Rose-after : (a b c : ℕ) → a ≤ b → Rose b c → b ≤ c → Rose a c
Rose-after a b c k (inl h) l = inl (omega arith)
Rose-after a b c k (inr h) l = grind arith

-- nothing was written
pub none_out : (p : Place) (text : List ℕ) → Printed p p text text
none_out p text = record { out = []; whole = refl; written = Appends-nil p.bytes; failures = omega arith }

-- so many bytes of the text were written, and then a call failed
pub cut_at : (a b : Place) (text : List ℕ) (n : ℕ) → Appends a.bytes b.bytes (take n text) → a.failures ≤ b.failures → Rose a.failures b.failures → CutShort a b text
cut_at a b text n written failures failed =
    record { out = take n text; left = drop n text; whole = sym (take-append-drop n text); written = written; failures = failures; failed = failed }

-- all of it was written
pub all_out : (a b : Place) (text : List ℕ) (n : ℕ) → length text ≤ n → Appends a.bytes b.bytes (take n text) → a.failures ≤ b.failures → Printed a b text []
all_out a b text n l written failures =
    record { out = text; whole = sym (append-nil text); written = subst (Appends a.bytes b.bytes) (take_all n text l) written; failures = failures }

module _ (a b c : Place) (text held lines : List ℕ) (p : Printed a b text held) where
  -- what comes behind the text comes behind what is held of it
  split : (out rest : List ℕ) → held ++ lines ≡ out ++ rest → text ++ lines ≡ (p.out ++ out) ++ rest
  split out rest e =
      ap (λ t. t ++ lines) p.whole ∙ append_assoc p.out held lines ∙ ap (λ t. p.out ++ t) e ∙ sym (append_assoc p.out out rest)

  pub then_printed : (now : List ℕ) → Printed b c (held ++ lines) now → Printed a c (text ++ lines) now
  then_printed now q = record {
    out = p.out ++ q.out;
    whole = split q.out now q.whole;
    written = Appends-trans _ _ _ _ _ p.written q.written;
    failures = omega (arith, p.failures, q.failures);
  }

  pub then_cut : CutShort b c (held ++ lines) → CutShort a c (text ++ lines)
  then_cut q = record {
    out = p.out ++ q.out;
    left = q.left;
    whole = split q.out q.left q.whole;
    written = Appends-trans _ _ _ _ _ p.written q.written;
    failures = omega (arith, p.failures, q.failures);
    failed = Rose-after _ _ _ p.failures q.failed q.failures;
  }

-- all that is held is written at last
pub then_out : (a b c : Place) (text held now : List ℕ) → Printed a b text held → Printed b c held now → Printed a c text now
then_out a b c text held now p q =
    subst (λ t. Printed a c t now) (append-nil text)
    (then_printed a b c text held [] p now (subst (λ t. Printed b c t now) (sym (append-nil held)) q))

pub then_broken : (a b c : Place) (text held : List ℕ) → Printed a b text held → CutShort b c held → CutShort a c text
then_broken a b c text held p q =
    subst (CutShort a c) (append-nil text) (then_cut a b c text held [] p (subst (CutShort b c) (sym (append-nil held)) q))

-- a part of a text is a part of a longer one
pub cut_longer : (a b : Place) (text more : List ℕ) → CutShort a b text → CutShort a b (text ++ more)
cut_longer a b text more q = record {
  out = q.out;
  left = q.left ++ more;
  whole = ap (λ t. t ++ more) q.whole ∙ append_assoc q.out q.left more;
  written = q.written;
  failures = q.failures;
  failed = q.failed;
}

-- ---- events

-- the lines up to an event, and its own
pub lines_before : (events : List Event) (i : ℕ) (event : Event) → i < length events → event ≡ get_or events i event
    → events_lines (take i events) ++ event_line event ≡ events_lines (take (i + 1) events)
lines_before events i event h e =
    sym (
    ap events_lines (take_more events i event h) ∙ flat_map-append event_line (take i events) (get_or events i event ∷ [])
    ∙ ap (λ t. events_lines (take i events) ++ t) (append-nil (event_line (get_or events i event)) ∙ ap event_line (sym e))
    )

-- the events around one of them
pub around : (events : List Event) (i : ℕ) (event : Event) → i < length events → event ≡ get_or events i event
    → events ≡ take i events ++ event ∷ drop (i + 1) events
around events i event h e =
    sym (take-append-drop i events) ∙ ap (λ es. take i events ++ es) (drop_more events i event h ∙ ap (λ x. x ∷ drop (i + 1) events) (sym e))

-- there was no room for an event's line, or a write failed
pub stopped : (fault : PrintFault) (a b c : Place) (events passed left : List Event) (event : Event) (held after : List ℕ) → events ≡ passed ++ event ∷ left
    → Printed a b (events_lines passed) held → Holds (Err fault) b c held (event_line event) after → EventsPrinted (Err fault) a c events after
stopped Write a b c events passed left event held after e p q =
    subst (λ es. CutShort a c (events_lines es)) (sym e)
    (subst (CutShort a c) (append_assoc (events_lines passed) (event_line event) (events_lines left) ∙ sym (flat_map-append event_line passed (event ∷ left)))
    (cut_longer a c (events_lines passed ++ event_line event) (events_lines left) (then_cut a b c (events_lines passed) held (event_line event) p q)))
stopped Memory a b c events passed left event held after e p (same, same_held) =
    (passed, event ∷ left, e, subst (λ place. Printed a place (events_lines passed) after) (sym same) (subst (Printed a b (events_lines passed)) (sym same_held) p))

-- ---- the end

-- all that is held was put out, or a write failed
abbrev pub Puts : Result (Unit {0}) PrintFault → Place → Place → List ℕ → List ℕ → Type 0
Puts put old new held now = MatchResult put (λ _. Printed old new held now × (now ≡ [])) (λ fault. (fault ≡ Write) × CutShort old new held)

pub put_short : (put : Result (Unit {0}) PrintFault) (old new : Place) (held now : List ℕ) → is_err put ≡ true → Puts put old new held now → CutShort old new held
put_short (Ok x) old new held now e h = absurd (false≢true e)
put_short (Err fault) old new held now e (is, q) = q

pub put_whole : (put : Result (Unit {0}) PrintFault) (old new : Place) (held now : List ℕ) → is_err put ≡ false → Puts put old new held now → Printed old new held []
put_whole (Ok x) old new held now e (q, none) = subst (Printed old new held) none q
put_whole (Err fault) old new held now e h = absurd (false≢true (sym e))

pub events_ended : (put : Result (Unit {0}) PrintFault) (a b c : Place) (events : List Event) (held now : List ℕ) → Printed a b (events_lines events) held → Puts put b c held now
    → EventsPrinted put a c events []
events_ended (Ok x) a b c events held now p (q, none) = then_out a b c (events_lines events) held [] p (subst (Printed b c held) none q)
events_ended (Err Write) a b c events held now p (is, q) = then_broken a b c (events_lines events) held p q
events_ended (Err Memory) a b c events held now p (is, q) = absurd (cc)

pub events_broken : (a b c : Place) (events passed left : List Event) (held : List ℕ) → events ≡ passed ++ left → Printed a b (events_lines passed) held → CutShort b c held
    → CutShort a c (events_lines events)
events_broken a b c events passed left held e p q =
    subst (λ es. CutShort a c (events_lines es)) (sym e)
    (subst (CutShort a c) (sym (flat_map-append event_line passed left)) (cut_longer a c (events_lines passed) (events_lines left) (then_broken a b c (events_lines passed) held p q)))
