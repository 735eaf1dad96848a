-- One run of a pump after another.
use Rattle.std.proofs.Common.{◌≡◌, ◌≢◌, ℕ, ◌+◌, ◌^◌, ◌<◌, ◌≤◌, ◌||◌, inl, inr, List, [], ◌∷◌, ◌++◌, length, Option, Some, None, Bool, true, false, arith, sym, ap, ◌∙◌, refl, subst, append_assoc, length-append, not, is_ok, is_err, Result, Ok, Err, IfErr, MatchResult}
use Rattle.std.specs.Bool.{MatchBool}
use Rattle.std.specs.Io.KnownBytes.{Appends, Consumes, Keeps, IsAtEnd}
use Rattle.std.specs.List.{list_any}
use Rattle.std.proofs.KnownBytes.{Consumes-nil, Consumes-trans, Consumes-kept, Appends-nil, Appends-trans, Appends-kept}
use Rattle.std.proofs.lemmas.Bool.{false≢true}
use Rattle.std.proofs.lemmas.List.Concat.{flat_map-append}
use Rattle.std.proofs.lemmas.List.Folds.{list_any-append}
use Rattle.ua_types.specs.Answers as answers
use Rattle.stream_taps.specs.Tapped.{Rose, counted}
use Rattle.server_core.specs.declared.event.Event.TheVariants.{Bytes}
use Rattle.server_core.specs.declared.out.Step as core_step
use Rattle.server_core.specs.declared.out.StepFault.{StepFault}
use Rattle.server_core.specs.declared.out.StepFault.TheVariants.{KnownConnection, UnknownConnection, Memory, Halted, Exhausted}
use Rattle.server_core.specs.Effects.{outs_of, shown}
use Rattle.server_core.specs.Running.{Joined, joined_as, heard_run, joined, sent_bytes, closes, is_close}
use Rattle.server_core.specs.Stepping.{WorldStep, step_on, StepsTo, answer_by, server_by}
use Rattle.server_core.proofs.EffectLemmas.{outs_of-append}
use Rattle.server_core.proofs.RecutLemmas.{behind, heard_both, heard_piece}
use Rattle.stream_server.specs.declared.PumpFault.{PumpFault}
use Rattle.stream_server.specs.declared.PumpFault.TheVariants.{Read, Write, Step, Turns}
use Rattle.stream_server.specs.Pumped.{State, outs_to, sends_to, is_closed_by, counting, IsPrefix, Scene, Moved, Fed, Tried, Goes, Done, Stopped, Faulted, Answered}

-- ---- what is heard after what was heard

module _ (conn : ℕ) (s t : State) (r q : List ℕ) (h : (heard_run s conn r).fault ≡ None) (e : t ≡ (heard_run s conn r).server) where
  abbrev First : Joined
  First = heard_run s conn r

  both : heard_run s conn (r ++ q) ≡ behind First.effects (heard_run t conn q)
  both = heard_both s conn r q h ∙ ap (λ (u : State). behind First.effects (heard_run u conn q)) (sym e)

  outs_to-append : outs_to conn s (r ++ q) ≡ outs_to conn s r ++ outs_to conn t q
  outs_to-append = ap (λ (j : Joined). outs_of j.effects) both ∙ outs_of-append First.effects (heard_run t conn q).effects

  pub sends_to-append : sends_to conn s (r ++ q) ≡ sends_to conn s r ++ sends_to conn t q
  sends_to-append = ap joined outs_to-append ∙ flat_map-append sent_bytes (outs_to conn s r) (outs_to conn t q)

  -- where the connection is open after the first, it is closed by both exactly where it is by the second
  pub closed-append : is_closed_by conn s r ≡ false → is_closed_by conn s (r ++ q) ≡ is_closed_by conn t q
  closed-append k =
      ap (closes conn) outs_to-append
      ∙ list_any-append (is_close conn) (outs_to conn s r) (outs_to conn t q)
      ∙ ap (λ b. b || list_any (is_close conn) (outs_to conn t q)) k

counting-more : (a m n : ℕ) → counting (counting a m) n ≡ counting a (m + n)
counting-more a m n = omega arith

counting-none : (a : ℕ) → a < 2 ^ 128 → counting a 0 ≡ a
counting-none a h = omega arith

-- after what went well, what comes next may fail
Moved-trans : (a b c : Scene) (r s x y : List ℕ) (rf wf : Bool) → Moved a b r x false false → Moved b c s y rf wf → Moved a c (r ++ s) (x ++ y) rf wf
Moved-trans a b c r s x y rf wf p q = record {
  taken = Consumes-trans _ _ _ _ _ p.taken q.taken;
  written = Appends-trans _ _ _ _ _ p.written q.written;
  count = q.count ∙ ap (λ n. counting n (length y)) p.count ∙ counting-more a.sent (length x) (length y)
      ∙ ap (counting a.sent) (sym (length-append x y));
  reads = q.reads ∙ ap (λ n. counted n rf) p.reads;
  writes = q.writes ∙ ap (λ n. counted n wf) p.writes;
  interrupted = omega (arith, p.interrupted, q.interrupted);
}

Fed-trans : (conn : ℕ) (a b c : Scene) (r s x y : List ℕ) (rf wf : Bool) → Fed conn a b r x false false → Fed conn b c s y rf wf → Fed conn a c (r ++ s) (x ++ y) rf wf
Fed-trans conn a b c r s x y rf wf p q =
    let e = both conn a.server b.server r s p.answered p.server in
    record {
      moved = Moved-trans a b c _ _ x y rf wf p.moved q.moved;
      answered = ap (λ (j : Joined). j.fault) e ∙ q.answered;
      server = q.server ∙ sym (ap (λ (j : Joined). j.server) e);
    }

-- fed piece after piece, where all that the server sends is out
Fed-after : (conn : ℕ) (a b c : Scene) (r s : List ℕ) (rf wf : Bool) → Fed conn a b r (sends_to conn a.server r) false false → Fed conn b c s (sends_to conn b.server s) rf wf
    → Fed conn a c (r ++ s) (sends_to conn a.server (r ++ s)) rf wf
Fed-after conn a b c r s rf wf p q =
    subst (λ x. Fed conn a c (r ++ s) x rf wf) (sym (sends_to-append conn a.server b.server r s p.answered p.server)) (Fed-trans conn a b c r s _ _ rf wf p q)

Tried-trans : (n : ℕ) (a b c : Scene) (r s : List ℕ) → Tried n a b r → Tried 1 b c s → a.interruptions ≤ b.interruptions → b.interruptions ≤ c.interruptions
    → Tried (n + 1) a c (r ++ s)
Tried-trans n a b c r s (inl h) (inl k) p q = let len = length-append r s in inl (omega arith)
Tried-trans n a b c r s (inl h) (inr k) p q = inr k
Tried-trans n a b c r s (inr h) k p q = inr (omega arith)

pub Goes-none : (conn : ℕ) (a : Scene) → a.sent ≡ 0 → Goes 0 conn a a
Goes-none conn a h = (
  [],
  record {
    moved = record { taken = Consumes-nil _; written = Appends-nil _; count = sym (counting-none a.sent (omega arith)); reads = refl; writes = refl; interrupted = omega arith };
    answered = refl;
    server = refl;
  },
  refl,
  inl (omega arith),
)

pub Goes-more : (n conn : ℕ) (a b c : Scene) → Goes n conn a b → Goes 1 conn b c → Goes (n + 1) conn a c
Goes-more n conn a b c p q = (
  p.0 ++ q.0,
  Fed-after conn a b c _ _ false false p.1 q.1,
  closed-append conn a.server b.server p.0 q.0 p.1.answered p.1.server p.2 ∙ q.2,
  Tried-trans n a b c p.0 q.0 p.3 q.3 p.1.moved.interrupted q.1.moved.interrupted,
)

pub Goes-done : (n conn : ℕ) (a b c : Scene) → Goes n conn a b → Done conn b c → Done conn a c
Goes-done n conn a b c p (read, fed, inl (end, still)) = (
  p.0 ++ read,
  Fed-after conn a b c _ _ false false p.1 fed,
  inl (end, closed-append conn a.server b.server p.0 read p.1.answered p.1.server p.2 ∙ still),
)
Goes-done n conn a b c p (read, fed, inr closed) = (
  p.0 ++ read,
  Fed-after conn a b c _ _ false false p.1 fed,
  inr (record {
    before = p.0 ++ closed.before;
    last = closed.last;
    split = ap (λ l. p.0 ++ l) closed.split ∙ sym (append_assoc p.0 closed.before closed.last);
    size = closed.size;
    open_before = closed-append conn a.server b.server p.0 closed.before p.1.answered p.1.server p.2 ∙ closed.open_before;
    closed = closed-append conn a.server b.server p.0 read p.1.answered p.1.server p.2 ∙ closed.closed;
  }),
)

IsPrefix-after : (a b c : List ℕ) → IsPrefix b c → IsPrefix (a ++ b) (a ++ c)
IsPrefix-after a b c (rest, h) = (rest, ap (λ l. a ++ l) h ∙ sym (append_assoc a b rest))

pub Goes-stopped : (n conn : ℕ) (a b c : Scene) (fault : PumpFault) → fault ≢ Turns → Goes n conn a b → Stopped conn b c fault → Stopped conn a c fault
Goes-stopped n conn a b c Read ne p (read, fed, still) = (
  p.0 ++ read,
  Fed-after conn a b c _ _ true false p.1 fed,
  closed-append conn a.server b.server p.0 read p.1.answered p.1.server p.2 ∙ still,
)
Goes-stopped n conn a b c Write ne p (read, put, fed, front) = (
  p.0 ++ read,
  sends_to conn a.server p.0 ++ put,
  Fed-trans conn a b c _ _ _ _ false true p.1 fed,
  subst (IsPrefix (sends_to conn a.server p.0 ++ put)) (sym (sends_to-append conn a.server b.server p.0 read p.1.answered p.1.server))
      (IsPrefix-after (sends_to conn a.server p.0) put (sends_to conn b.server read) front),
)
Goes-stopped n conn a b c (Step fault) ne p (read, last, moved, answered, still, faulted) =
    let e = both conn a.server b.server p.0 read p.1.answered p.1.server in (
      p.0 ++ read,
      last,
      subst (λ l. Moved a c l (sends_to conn a.server (p.0 ++ read)) false false) (sym (append_assoc p.0 read last))
          (subst (λ x. Moved a c (p.0 ++ (read ++ last)) x false false) (sym (sends_to-append conn a.server b.server p.0 read p.1.answered p.1.server))
          (Moved-trans a b c _ _ _ _ false false p.1.moved moved)),
      ap (λ (j : Joined). j.fault) e ∙ answered,
      closed-append conn a.server b.server p.0 read p.1.answered p.1.server p.2 ∙ still,
      subst (λ w. Faulted conn w c.server last fault) (sym (ap (λ (j : Joined). j.server) e)) faulted,
    )
Goes-stopped n conn a b c Turns ne p q = absurd (ne refl)

-- ---- one turn

-- nothing was read: what stands is as it was, but for the counts
pub Fed-none : (conn : ℕ) (a b : Scene) (rf : Bool) → Keeps a.left b.left → Keeps a.held b.held → b.sent ≡ a.sent → a.sent < 2 ^ 128 → b.read_failures ≡ counted a.read_failures rf
    → b.write_failures ≡ a.write_failures → a.interruptions ≤ b.interruptions → b.server ≡ a.server → Fed conn a b [] [] rf false
Fed-none conn a b rf left held sent small reads writes interrupted server = record {
  moved = record {
    taken = Consumes-kept _ _ _ [] (Consumes-nil a.left) left;
    written = Appends-kept _ _ _ [] (Appends-nil a.held) held;
    count = sent ∙ sym (counting-none a.sent small);
    reads = reads;
    writes = writes;
    interrupted = interrupted;
  };
  answered = refl;
  server = server;
}

-- ---- a piece that the server answers

abbrev Answer : Type 0
Answer = answers.Step core_step.Step StepFault State

-- what the definition says of it
pub record IsAnswered (s t : State) (conn : ℕ) (p : List ℕ) (x : core_step.Step) : Type 0 where
  pub said : WorldStep
  pub is : step_on s (Bytes conn p) ≡ Ok said
  pub given : shown said.effects ≡ x
  pub server : Some said.world ≡ t

answered_by : (s t : State) (conn : ℕ) (p : List ℕ) (x : core_step.Step) (r : Result WorldStep StepFault) → step_on s (Bytes conn p) ≡ r →
    answers.step (Ok x) t ≡ answers.step (answer_by r) (server_by s r) → IsAnswered s t conn p x
answered_by s t conn p x (Ok said) is e = record {
  said = said;
  is = is;
  given = sym (ap (λ (y : Answer). given_or x y.answer) e);
  server = sym (ap (λ (y : Answer). y.state) e);
}
  where
    given_or : core_step.Step → Result core_step.Step StepFault → core_step.Step
    given_or z (Ok y) = y
    given_or z (Err f) = z
answered_by s t conn p x (Err f) is e = absurd (false≢true (sym (ap (λ (y : Answer). is_ok y.answer) e)))

pub is_answered : (s t : State) (conn : ℕ) (p : List ℕ) (x : core_step.Step) → StepsTo (Ok x) s t (step_on s (Bytes conn p)) → IsAnswered s t conn p x
is_answered s t conn p x e = answered_by s t conn p x (step_on s (Bytes conn p)) refl e

-- a piece that isn't empty, and what is heard of it
heard_one : (s t : State) (conn : ℕ) (p : List ℕ) (x : core_step.Step) (a : IsAnswered s t conn p x) → 0 < length p → heard_run s conn p ≡ joined_as a.said.effects None t
heard_one s t conn [] x a low = absurd (omega arith)
heard_one s t conn (byte ∷ p) x a low = heard_piece s conn byte p a.said a.is ∙ ap (λ (u : State). joined_as a.said.effects None u) a.server

outs_one : (s t : State) (conn : ℕ) (p : List ℕ) (x : core_step.Step) → IsAnswered s t conn p x → 0 < length p → x.outs ≡ outs_to conn s p
outs_one s t conn p x a low =
    sym (ap (λ (y : core_step.Step). y.outs) a.given) ∙ sym (ap (λ (j : Joined). outs_of j.effects) (heard_one s t conn p x a low))

Fed-one : (conn : ℕ) (a b : Scene) (p put : List ℕ) (x : core_step.Step) (wf : Bool) → 0 < length p → Moved a b p put false wf → IsAnswered a.server b.server conn p x
    → Fed conn a b p put false wf
Fed-one conn a b p put x wf low moved h =
    let e = heard_one a.server b.server conn p x h low in
    record { moved = moved; answered = ap (λ (j : Joined). j.fault) e; server = sym (ap (λ (j : Joined). j.server) e) }

-- ---- what a turn may come to

Consumes-none : (a b : Option (List ℕ)) → Consumes a b [] → Keeps a b
Consumes-none None b h = tt
Consumes-none (Some x) None h = h
Consumes-none (Some x) (Some y) h = sym h

pub Consumes-empty : (a b : Option (List ℕ)) (p : List ℕ) → Consumes a b p → length p ≡ 0 → Keeps a b
Consumes-empty a b [] h e = Consumes-none a b h
Consumes-empty a b (x ∷ xs) h e = absurd (omega arith)

pub Done-end : (conn : ℕ) (a b : Scene) → Fed conn a b [] [] false false → IsAtEnd b.left → Done conn a b
Done-end conn a b fed end = ([], fed, inl (end, refl))

-- a read was interrupted, and is tried again
pub Goes-again : (conn : ℕ) (a b : Scene) → Fed conn a b [] [] false false → Rose a.interruptions b.interruptions → Goes 1 conn a b
Goes-again conn a b fed (inl h) = ([], fed, refl, inl (omega arith))
Goes-again conn a b fed (inr h) = let up = fed.moved.interrupted in ([], fed, refl, inr (omega arith))

pub Stopped-read : (conn : ℕ) (a b : Scene) → Fed conn a b [] [] true false → Stopped conn a b Read
Stopped-read conn a b fed = ([], fed, refl)

-- the server didn't take the piece that was read
pub Stopped-step : (conn : ℕ) (a b : Scene) (p : List ℕ) (fault : StepFault) → Moved a b p [] false false → Faulted conn a.server b.server p fault → Stopped conn a b (Step fault)
Stopped-step conn a b p fault moved faulted = ([], p, moved, refl, refl, faulted)

-- there was no room for a piece, or for its event
pub Moved-read : (a b : Scene) (p : List ℕ) → Consumes a.left b.left p → b.held ≡ a.held → b.sent ≡ a.sent → a.sent < 2 ^ 128 → b.read_failures ≡ a.read_failures
    → b.write_failures ≡ a.write_failures → a.interruptions ≤ b.interruptions → Moved a b p [] false false
Moved-read a b p taken held sent small reads writes interrupted = record {
  taken = taken;
  written = subst (λ h. Appends a.held h []) (sym held) (Appends-nil a.held);
  count = sent ∙ sym (counting-none a.sent small);
  reads = reads;
  writes = writes;
  interrupted = interrupted;
}

pub Stopped-memory : (conn : ℕ) (a b : Scene) (p : List ℕ) → Moved a b p [] false false → b.server ≡ a.server → Stopped conn a b (Step Memory)
Stopped-memory conn a b p moved same = Stopped-step conn a b p Memory moved (inr same)

not_false : (x : Bool) → false ≡ not x → x ≡ true
not_false true e = refl
not_false false e = e

not_true : (x : Bool) → true ≡ not x → x ≡ false
not_true true e = e
not_true false e = refl

-- a piece was read, the server took it, and its answers are out or a write failed
pub turned : (conn : ℕ) (a b : Scene) (p : List ℕ) (x : core_step.Step) (r : Result Bool PumpFault) → StepsTo (Ok x) a.server b.server (step_on a.server (Bytes conn p))
    → 0 < length p → length p ≤ 4096 → Consumes a.left b.left p → b.read_failures ≡ a.read_failures
    → a.interruptions ≤ b.interruptions → b.write_failures ≡ counted a.write_failures (is_err r) → Answered conn x.outs a.held b.held a.sent b.sent r
    → IfErr r (λ fault. fault ≡ Write)
    → MatchResult r (λ more. MatchBool more (Goes 1 conn a b) (Done conn a b)) (Stopped conn a b)
turned conn a b p x (Ok true) is low high taken reads interrupted writes (written, count, still) h =
    let k = is_answered a.server b.server conn p x is in
    let outs = outs_one a.server b.server conn p x k low in
    let moved : Moved a b p (joined x.outs) false false = record { taken = taken; written = written; count = count; reads = reads; writes = writes; interrupted = interrupted } in (
      p,
      subst (λ os. Fed conn a b p (joined os) false false) outs (Fed-one conn a b p (joined x.outs) x false low moved k),
      subst (λ os. closes conn os ≡ false) outs (not_true _ still),
      inl (omega arith),
    )
turned conn a b p x (Ok false) is low high taken reads interrupted writes (written, count, still) h =
    let k = is_answered a.server b.server conn p x is in
    let outs = outs_one a.server b.server conn p x k low in
    let moved : Moved a b p (joined x.outs) false false = record { taken = taken; written = written; count = count; reads = reads; writes = writes; interrupted = interrupted } in (
      p,
      subst (λ os. Fed conn a b p (joined os) false false) outs (Fed-one conn a b p (joined x.outs) x false low moved k),
      inr (record { before = []; last = p; split = refl; size = high; open_before = refl; closed = subst (λ os. closes conn os ≡ true) outs (not_false _ still) }),
    )
turned conn a b p x (Err fault) is low high taken reads interrupted writes (put, front, written, count) at =
    let k = is_answered a.server b.server conn p x is in
    let moved : Moved a b p put false true = record { taken = taken; written = written; count = count; reads = reads; writes = writes; interrupted = interrupted } in
    subst (Stopped conn a b) (sym at)
    (p, put, Fed-one conn a b p put x true low moved k, subst (λ os. IsPrefix put (joined os)) (outs_one a.server b.server conn p x k low) front)

-- ---- what the server answers where it doesn't take a piece

fault_or : StepFault → Result core_step.Step StepFault → StepFault
fault_or f (Ok x) = f
fault_or f (Err g) = g

refused_by : (s new : State) (fault : StepFault) (r : Result WorldStep StepFault) → answers.step (Err fault) new ≡ answers.step (answer_by r) (server_by s r) → (r ≡ Err fault) × (new ≡ s)
unfolding fault_or
refused_by s new fault (Ok said) e = absurd (false≢true (ap (λ (y : Answer). is_ok y.answer) e))
refused_by s new fault (Err g) e = (sym (ap (λ (y : Answer). Err (fault_or fault y.answer)) e), ap (λ (y : Answer). y.state) e)

pub refused : (conn : ℕ) (s new : State) (p : List ℕ) (fault : StepFault) → StepsTo (Err fault) s new (step_on s (Bytes conn p)) → Faulted conn s new p fault
refused conn s new p KnownConnection h = refused_by s new KnownConnection (step_on s (Bytes conn p)) h
refused conn s new p UnknownConnection h = refused_by s new UnknownConnection (step_on s (Bytes conn p)) h
refused conn s new p Memory h = inl h
refused conn s new p Halted h = refused_by s new Halted (step_on s (Bytes conn p)) h
refused conn s new p Exhausted h = h
