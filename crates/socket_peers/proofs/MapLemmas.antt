-- Sockets that are changed in their places.
use Rattle.std.proofs.Common.{◌≡◌, ℕ, suc, ◌+◌, ◌<◌, List, [], ◌∷◌, ◌++◌, ◌≤◌, length, drop, true, false, Bool, ◌||◌, Option, Some, None, Result, Ok, Err, IfOk, OnOk, OnErr, slice_index_or, refl, sym, ap, ◌∙◌, subst, arith}
use lib.Seq.{drop-cons}
use Rattle.std.proofs.lemmas.List.{drop_all}
use Rattle.socket_peers.specs.declared.peer.Heard.{Heard}
use Rattle.socket_peers.specs.declared.peer.Readiness.{Readiness}
use Rattle.socket_peers.specs.Socket.{Calls}
use Rattle.socket_peers.specs.Peer.{PeerState, ready, awake_if, departs, departed, is_over, Reads, Loses, Flushes}
use Rattle.socket_peers.specs.Peers.{PeersState, at, with_woken_if, listed_if, woken_if, reported, reported_by, is_true_of, changed_by, touching, touching_by, Departs, ReadsBy, ReadsAt, LosesBy, LosesAt, FlushesBy, FlushesAt, FlushesEach, LooksBy, LooksAt}
use Rattle.std.specs.Ordering.{nat_cmp}
use Rattle.std.specs.FinMap.{FinMap, insert}
use Rattle.collections.proofs.NumberMaps.{insert_same}

-- two facts of what went well
pub both_ok : {X E : Type 0} (A B C : Type 0) (r : Result X E) → OnOk r A → OnOk r B → (A → B → C) → OnOk r C
both_ok A B C (Ok x) a b f = f a b
both_ok A B C (Err e) a b f = tt

module _ {S : Type 0} where
  -- a socket that was changed in its place, and is on the list of those to be looked at where this says so
  pub woken_back : (is_woken : Bool) (old : PeersState S) (number : ℕ) (peer after : PeerState S) (connected : FinMap nat_cmp (PeerState S)) (awake : List ℕ)
      → connected ≡ insert old.connected number after → awake ≡ listed_if is_woken old.awake number peer → after ≡ woken_if is_woken peer
      → record old { connected = connected; awake = awake } ≡ with_woken_if is_woken old number peer
  woken_back is_woken old number peer after connected awake e list woken =
      let there : connected ≡ insert old.connected number (woken_if is_woken peer) = e ∙ ap (insert old.connected number) woken in
      ap (λ m. record old { connected = m; awake = awake }) there ∙ ap (λ l. record old { connected = insert old.connected number (woken_if is_woken peer); awake = l }) list

  -- it was reported as ready
  pub reported_back : (old now : PeersState S) (number : ℕ) (readiness : Readiness) (peer found after : PeerState S) (connected : FinMap nat_cmp (PeerState S)) (awake : List ℕ)
      → old ≡ now → at old number ≡ Some found → peer ≡ ready readiness found
      → connected ≡ insert old.connected number after → awake ≡ listed_if true old.awake number peer → after ≡ woken_if true peer
      → record old { connected = connected; awake = awake } ≡ reported now number readiness
  reported_back old now number readiness peer found after connected awake same is e back list woken =
      subst (λ p. record old { connected = connected; awake = awake } ≡ reported p number readiness) same
      (subst (λ o. record old { connected = connected; awake = awake } ≡ reported_by old number readiness o) (sym is)
      (woken_back true old number peer after connected awake back list woken ∙ ap (with_woken_if true old number) e))

  -- the server is told that its connection is no more
  pub departed_back : (old now : PeersState S) (number : ℕ) (found after : PeerState S) (connected : FinMap nat_cmp (PeerState S)) → old ≡ now → at old number ≡ Some found → departs found ≡ true
      → after ≡ departed found → connected ≡ insert old.connected number after → Departs number now (record old { connected = connected }) true
  departed_back old now number found after connected same is news e back =
      subst (λ p. Departs number p (record old { connected = connected }) true) same (
        subst (λ o. is_true_of departs o ≡ true) (sym is) news,
        subst (λ o. record old { connected = connected } ≡ changed_by old number departed o) (sym is) (ap (λ m. record old { connected = m }) (back ∙ ap (insert old.connected number) e)),
      )

  -- or there was nothing to tell
  pub kept_back : (old now : PeersState S) (number : ℕ) (found : PeerState S) (connected : FinMap nat_cmp (PeerState S)) → old ≡ now → at old number ≡ Some found → departs found ≡ false
      → connected ≡ insert old.connected number found → Departs number now (record old { connected = connected }) false
  kept_back old now number found connected same is none back =
      subst (λ p. Departs number p (record old { connected = connected }) false) same (
        subst (λ o. is_true_of departs o ≡ false) (sym is) none,
        ap (λ m. record old { connected = m }) (back ∙ insert_same old.connected number found is),
      )

  -- it is owed more, or closes, and is to be flushed
  pub touched_back : (old now : PeersState S) (number : ℕ) (found after : PeerState S) (change : PeerState S → PeerState S) (connected : FinMap nat_cmp (PeerState S)) (touched : List ℕ)
      → old ≡ now → at old number ≡ Some found → after ≡ change found → connected ≡ insert old.connected number after → touched ≡ old.touched ++ number ∷ []
      → record old { connected = connected; touched = touched } ≡ touching now number change
  touched_back old now number found after change connected touched same is e back more =
      subst (λ p. record old { connected = connected; touched = touched } ≡ touching p number change) same
      (subst (λ o. record old { connected = connected; touched = touched } ≡ touching_by old number change o) (sym is)
      (ap (λ m. record old { connected = m; touched = touched }) (back ∙ ap (insert old.connected number) e) ∙ ap (λ l. record old { connected = insert old.connected number (change found); touched = l }) more))

-- ---- what one socket's part is of all

module _ {S : Type 0} (remaining contents : S → Option (List ℕ)) (calls : S → Option Calls) where
  pub read_at : (old now : PeersState S) (number room : ℕ) (piece : List ℕ) (heard : Heard) (found after : PeerState S) (connected : FinMap nat_cmp (PeerState S)) → old ≡ now → at old number ≡ Some found
      → Reads remaining contents calls found after room piece heard → connected ≡ insert old.connected number after → ReadsAt remaining contents calls number now (record old { connected = connected }) room piece heard
  read_at old now number room piece heard found after connected same is reads back =
      subst (λ p. ReadsAt remaining contents calls number p (record old { connected = connected }) room piece heard) same
      (subst (λ o. ReadsBy remaining contents calls o number old (record old { connected = connected }) room piece heard) (sym is)
      (after, reads, ap (λ m. record old { connected = m }) back))

  -- where there was memory for what came
  pub reads_at : {E : Type 0} (r : Result Heard E) (old now : PeersState S) (number room : ℕ) (piece : List ℕ) (found after : PeerState S) (connected : FinMap nat_cmp (PeerState S)) → old ≡ now → at old number ≡ Some found
      → IfOk r (λ heard. Reads remaining contents calls found after room piece heard) → connected ≡ insert old.connected number after
      → IfOk r (λ heard. ReadsAt remaining contents calls number now (record old { connected = connected }) room piece heard)
  reads_at (Ok heard) old now number room piece found after connected same is reads back = read_at old now number room piece heard found after connected same is reads back
  reads_at (Err e) old now number room piece found after connected same is reads back = tt

  -- where there wasn't
  pub loses_at : {T E : Type 0} (r : Result T E) (old now : PeersState S) (number room : ℕ) (found after : PeerState S) (connected : FinMap nat_cmp (PeerState S)) → old ≡ now → at old number ≡ Some found
      → OnErr r (Loses remaining contents calls found after room) → connected ≡ insert old.connected number after
      → OnErr r (LosesAt remaining contents calls number now (record old { connected = connected }) room)
  loses_at (Ok heard) old now number room found after connected same is loses back = tt
  loses_at (Err e) old now number room found after connected same is loses back =
      subst (λ p. LosesAt remaining contents calls number p (record old { connected = connected }) room) same
      (subst (λ o. LosesBy remaining contents calls o number old (record old { connected = connected }) room) (sym is)
      (after, loses, ap (λ m. record old { connected = m }) back))

  pub flush_at : (old now : PeersState S) (number : ℕ) (found flushed after : PeerState S) (is_interrupted is_woken : Bool) (connected : FinMap nat_cmp (PeerState S)) (awake : List ℕ) → old ≡ now → at old number ≡ Some found
      → Flushes remaining contents calls found flushed is_interrupted → is_woken ≡ (is_interrupted || is_over flushed)
      → connected ≡ insert old.connected number after → awake ≡ listed_if is_woken old.awake number flushed → after ≡ woken_if is_woken flushed
      → FlushesAt remaining contents calls number now (record old { connected = connected; awake = awake })
  flush_at old now number found flushed after is_interrupted is_woken connected awake same is flushes why back list woken =
      let new = record old { connected = connected; awake = awake } in
      subst (λ p. FlushesAt remaining contents calls number p new) same
      (subst (λ o. FlushesBy remaining contents calls o number old new) (sym is)
      (flushed, is_interrupted, flushes, woken_back is_woken old number flushed after connected awake back list woken ∙ ap (λ w. with_woken_if w old number flushed) why))

  pub look_at : (old now : PeersState S) (number : ℕ) (found flushed after : PeerState S) (is_interrupted : Bool) (connected : FinMap nat_cmp (PeerState S)) (awake : List ℕ) → old ≡ now → at old number ≡ Some found
      → Flushes remaining contents calls (awake_if false found) flushed is_interrupted
      → connected ≡ insert old.connected number after → awake ≡ listed_if is_interrupted old.awake number flushed → after ≡ woken_if is_interrupted flushed
      → LooksAt remaining contents calls number now (record old { connected = connected; awake = awake })
  look_at old now number found flushed after is_interrupted connected awake same is flushes back list woken =
      let new = record old { connected = connected; awake = awake } in
      subst (λ p. LooksAt remaining contents calls number p new) same
      (subst (λ o. LooksBy remaining contents calls o number old new) (sym is)
      (flushed, is_interrupted, flushes, woken_back is_interrupted old number flushed after connected awake back list woken))

  -- one more of several
  pub next_flushed : (numbers : List ℕ) (place : ℕ) (other : ℕ) (old mid new : PeersState S) → place < length numbers → FlushesAt remaining contents calls (slice_index_or numbers place other) old mid
      → FlushesEach remaining contents calls (drop (place + 1) numbers) mid new → FlushesEach remaining contents calls (drop place numbers) old new
  next_flushed numbers place other old mid new lt first rest =
      let next : place + 1 ≡ suc place = omega arith in
      subst (λ l. FlushesEach remaining contents calls l old new) (sym (drop-cons numbers place other lt))
      (mid, first, subst (λ n. FlushesEach remaining contents calls (drop n numbers) mid new) next rest)

  touched_by : (number : ℕ) (old new : PeersState S) (o : Option (PeerState S)) → FlushesBy remaining contents calls o number old new → new.touched ≡ old.touched
  touched_by number old new None e = ap (λ (p : PeersState S). p.touched) e
  touched_by number old new (Some peer) (after, is_interrupted, flushes, e) = ap (λ (p : PeersState S). p.touched) e

  -- a flush touches none
  pub flush_touches_none : (number : ℕ) (old new : PeersState S) → FlushesAt remaining contents calls number old new → new.touched ≡ old.touched
  flush_touches_none number old new h = touched_by number old new (at old number) h

  -- all were flushed
  pub none_left : (numbers : List ℕ) (place : ℕ) (p : PeersState S) → length numbers ≤ place → FlushesEach remaining contents calls (drop place numbers) p p
  none_left numbers place p le = subst (λ l. FlushesEach remaining contents calls l p p) (sym (drop_all place numbers le)) refl
