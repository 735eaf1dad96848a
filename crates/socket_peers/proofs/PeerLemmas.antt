-- What goes out in one write, and in several.
use Rattle.std.proofs.Common.{◌≡◌, ℕ, ◌+◌, ◌-◌, ◌<◌, ◌≤◌, ◌==◌, ◌||◌, nat_lt, Bool, true, false, if◌then◌else◌, List, [], ◌∷◌, ◌++◌, length, take, drop, Option, Some, None, refl, sym, ap, ◌∙◌, subst, slice_index_or, append-nil, append_assoc, take-append-drop, length-append, Bor, arith}
use lib.Seq.{drop-cons}
use Rattle.std.proofs.lemmas.Bool.{true≢false, ltb-true, ltb-false, le-ltb}
use Rattle.std.proofs.Math.Seq.{take-append_seam, take-add}
use Rattle.std.proofs.lemmas.List.{drop-drop, length-drop}
use Rattle.std.specs.Io.KnownBytes.{Appends, Keeps}
use Rattle.std.proofs.KnownBytes.{Appends-nil, Appends-trans, Keeps-refl}
use Rattle.bytes.specs.Unread.{IsChunkOf, concat_slices}
use Rattle.socket_peers.specs.declared.socket.Missed.{Missed}
use Rattle.socket_peers.specs.declared.socket.Missed.TheVariants.{Failed}
use Rattle.socket_peers.specs.Socket.{Calls, OneMissed}
use Rattle.socket_peers.specs.Peer.{PeerState, most_unsent, failing, dropped, judged, one_if, is_settled, Tallies, Writes, Drains, Flushes}

-- some bytes at the front
pub front_part : (xs rest all : List ℕ) → all ≡ xs ++ rest → 0 < length xs → IsChunkOf xs all
front_part xs rest all is some = record {
  front = ap (take (length xs)) is ∙ take-append_seam xs rest;
  fits = let len = ap length is ∙ length-append xs rest in omega arith;
  some = λ _. some;
}

map_append : (xs ys : List (Bor (List ℕ))) → concat_slices (xs ++ ys) ≡ concat_slices xs ++ concat_slices ys
map_append [] ys = refl
map_append (x ∷ xs) ys = ap (λ l. x.now ++ l) (map_append xs ys) ∙ sym (append_assoc x.now (concat_slices xs) (concat_slices ys))

-- the first of several slices at the front are at the front
pub first_slices : (slices : List (Bor (List ℕ))) (i : ℕ) (all : List ℕ) → IsChunkOf (concat_slices slices) all → 0 < length (concat_slices (take i slices))
    → IsChunkOf (concat_slices (take i slices)) all
first_slices slices i all h some =
    let n = length (concat_slices slices) in
    let split : concat_slices slices ≡ concat_slices (take i slices) ++ concat_slices (drop i slices) = ap concat_slices (sym (take-append-drop i slices)) ∙ map_append (take i slices) (drop i slices) in
    front_part (concat_slices (take i slices)) (concat_slices (drop i slices) ++ drop n all) all
    (sym (take-append-drop n all) ∙ ap (λ l. l ++ drop n all) (h.front ∙ split) ∙ append_assoc (concat_slices (take i slices)) (concat_slices (drop i slices)) (drop n all)) some

-- one more slice
pub next_slice : (slices : List (Bor (List ℕ))) (i : ℕ) (other : Bor (List ℕ)) → i < length slices
    → concat_slices (take (i + 1) slices) ≡ concat_slices (take i slices) ++ (slice_index_or slices i other).now
next_slice slices i other lt =
    let x = slice_index_or slices i other in
    ap concat_slices (take-add i 1 slices ∙ ap (λ l. take i slices ++ take 1 l) (drop-cons slices i other lt))
    ∙ map_append (take i slices) (x ∷ []) ∙ ap (λ l. concat_slices (take i slices) ++ l) (append-nil x.now)

-- ---- writes

Keeps-again : (a b c : Option (List ℕ)) → Keeps a b → Keeps b c → Keeps a c
Keeps-again None b c p q = tt
Keeps-again (Some x) None c p q = absurd p
Keeps-again (Some x) (Some y) None p q = absurd q
Keeps-again (Some x) (Some y) (Some z) p q = q ∙ p

tallies_none : {S : Type 0} (p : PeerState S) (o : Option Calls) → Tallies p p 0 o o
tallies_none p None = tt
tallies_none p (Some n) = (refl, refl, omega arith)

tallies_trans : {S : Type 0} (a b c : PeerState S) (n : ℕ) (x y z : Option Calls) → Tallies a b 0 x y → Tallies b c n y z → Tallies a c n x z
tallies_trans a b c n None y z p q = tt
tallies_trans a b c n (Some x) None z p q = absurd p
tallies_trans a b c n (Some x) (Some y) None p q = absurd q
tallies_trans a b c n (Some x) (Some y) (Some z) (f, w, i) (f', w', i') = (omega arith, omega arith, omega arith)

keeps_appends : (a b : Option (List ℕ)) → Keeps a b → Appends a b []
keeps_appends None b k = tt
keeps_appends (Some x) None k = absurd k
keeps_appends (Some x) (Some y) k = k ∙ sym (append-nil x)

tallies_failed : {S : Type 0} (old : PeerState S) (stream : S) (a b : Option Calls) → old.has_failed ≡ false → OneMissed Failed a b → Tallies old (failing (record old { stream = stream })) 0 a b
tallies_failed old stream None b none one = tt
tallies_failed old stream (Some x) b none one =
    let before : one_if old.has_failed ≡ 0 = ap one_if none in
    subst (λ (o : Option Calls). Tallies old (failing (record old { stream = stream })) 0 (Some x) o) (sym one) (omega arith, refl, omega arith)

-- ---- a flush, write by write

-- a write that leaves the stream neither full nor failed takes a byte at least
pub one_less : (full failed : Bool) (new old done most : ℕ) → (full || failed || nat_lt new old) ≡ true → old + done ≤ most → (full || failed) ≡ false → new + (done + 1) ≤ most
one_less true failed new old done most moves left none = absurd (true≢false none)
one_less false true new old done most moves left none = absurd (true≢false none)
one_less false false new old done most moves left none = let lt = ltb-true new old moves in omega arith

empty_is : (n : ℕ) → n ≡ 0 → (n == 0) ≡ true
empty_is n e = ap (λ k. k == 0) e

-- after as many writes as there were bytes nothing is left, if it is neither full nor failed
settled_by : (full failed : Bool) (n most : ℕ) → ((full || failed) ≡ false → n + most ≤ most) → (full || failed || (n == 0)) ≡ true
settled_by true failed n most h = refl
settled_by false true n most h = refl
settled_by false false n most h = let fits = h refl in empty_is n (omega arith)

pub settled_at_end : {S : Type 0} (p : PeerState S) (most : ℕ) → ((p.is_full || p.has_failed) ≡ false → length p.owed + most ≤ most) → is_settled p ≡ true
settled_at_end p most h = settled_by p.is_full p.has_failed (length p.owed) most h

-- ---- what a flush leaves

within_by : {S : Type 0} (is_over : Bool) (p : PeerState S) → nat_lt most_unsent (length p.owed) ≡ is_over
    → length (if is_over then dropped p else p).owed ≤ most_unsent
within_by true p e = omega arith
within_by false p e = ltb-false most_unsent (length p.owed) e

-- no more is owed than may stay unsent
judged_within : {S : Type 0} (p : PeerState S) → length (judged p).owed ≤ 4194304
judged_within p = within_by (nat_lt most_unsent (length p.owed)) p refl

pub is_within : {S : Type 0} (written new : PeerState S) → new ≡ judged written → length new.owed ≤ 4194304
is_within written new is = subst (λ p. length p.owed ≤ 4194304) (sym is) (judged_within written)

-- a socket that is owed no more than that stays as it is
spared : {S : Type 0} (p : PeerState S) → length p.owed ≤ 4194304 → judged p ≡ p
spared p fits = ap (λ b. if b then dropped p else p) (le-ltb most_unsent (length p.owed) fits)

module _ {S : Type 0} (remaining contents : S → Option (List ℕ)) (calls : S → Option Calls) where
  pub writes_none : (p : PeerState S) → Writes remaining contents calls p p 0
  writes_none p = record {
    count = 0;
    fits = omega arith;
    taken = Appends-nil (contents p.stream);
    read = Keeps-refl (remaining p.stream);
    owed = refl;
    closes = refl;
    ends = refl;
    ended = refl;
    gone = refl;
    awake = refl;
    served = refl;
    address = refl;
    failed = λ e. e;
    full = λ e. e;
    tallies = tallies_none p (calls p.stream);
  }

  -- a write that failed
  pub writes_failed : (old now : PeerState S) (stream : S) (new : PeerState S) (why : Missed) → old ≡ now → now.has_failed ≡ false → new ≡ failing (record old { stream = stream }) → why ≡ Failed
      → Keeps (contents old.stream) (contents stream) → Keeps (remaining old.stream) (remaining stream) → OneMissed why (calls old.stream) (calls stream)
      → Writes remaining contents calls now new 0
  writes_failed old now stream new why same none e failed took gave one =
      let before : old.has_failed ≡ false = ap (λ (p : PeerState S). p.has_failed) same ∙ none in
      let to : PeerState S = failing (record old { stream = stream }) in
      let wrote : Writes remaining contents calls old to 0 = record {
        count = 0;
        fits = omega arith;
        taken = keeps_appends (contents old.stream) (contents stream) took;
        read = gave;
        owed = refl;
        closes = refl;
        ends = refl;
        ended = refl;
        gone = refl;
        awake = refl;
        served = refl;
        address = refl;
        failed = λ h. refl;
        full = λ h. h;
        tallies = tallies_failed old stream (calls old.stream) (calls stream) before (subst (λ (w : Missed). OneMissed w (calls old.stream) (calls stream)) failed one);
      } in
      subst (λ (p : PeerState S). Writes remaining contents calls p new 0) same
      (subst (λ (p : PeerState S). Writes remaining contents calls old p 0) (sym e) wrote)

  pub writes_trans : (a b c : PeerState S) (n : ℕ) → Writes remaining contents calls a b 0 → Writes remaining contents calls b c n → Writes remaining contents calls a c n
  writes_trans a b c n p q =
      let rest : length b.owed ≡ length a.owed - p.count = ap length p.owed ∙ length-drop p.count a.owed in
      let fits = p.fits in
      let fits' = q.fits in
      record {
        count = p.count + q.count;
        fits = omega arith;
        taken = subst (Appends (contents a.stream) (contents c.stream)) (sym (take-add p.count q.count a.owed ∙ ap (λ l. take p.count a.owed ++ take q.count l) (sym p.owed)))
            (Appends-trans (contents a.stream) (contents b.stream) (contents c.stream) (take p.count a.owed) (take q.count b.owed) p.taken q.taken);
        read = Keeps-again (remaining a.stream) (remaining b.stream) (remaining c.stream) p.read q.read;
        owed = q.owed ∙ ap (drop q.count) p.owed ∙ drop-drop q.count p.count a.owed;
        closes = q.closes ∙ p.closes;
        ends = q.ends ∙ p.ends;
        ended = q.ended ∙ p.ended;
        gone = q.gone ∙ p.gone;
        awake = q.awake ∙ p.awake;
        served = q.served ∙ p.served;
        address = q.address ∙ p.address;
        failed = λ e. q.failed (p.failed e);
        full = λ e. q.full (p.full e);
        tallies = tallies_trans a b c n (calls a.stream) (calls b.stream) (calls c.stream) p.tallies q.tallies;
      }

  -- all that the stream takes was written, and the socket was judged
  pub flushed : (old written new : PeerState S) → Drains remaining contents calls old written false → new ≡ judged written → Flushes remaining contents calls old new false
  flushed old written new drains is = (written, drains, is)

  -- what was owed no more before is not more after
  pub drains_spared : (old written new : PeerState S) → Drains remaining contents calls old written false → new ≡ judged written → length old.owed ≤ 4194304
      → Drains remaining contents calls old new false
  drains_spared old written new (writes, settled) is fits =
      let left : length written.owed ≡ length old.owed - writes.count = ap length writes.owed ∙ length-drop writes.count old.owed in
      subst (λ p. Drains remaining contents calls old p false) (sym (is ∙ spared written (omega arith))) (writes, settled)
