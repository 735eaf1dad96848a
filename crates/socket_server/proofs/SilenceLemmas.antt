-- What leaves a socket silent.
use Rattle.std.proofs.Common.{◌≡◌, ℕ, ℤ, pos, ◌+ℤ◌, ◌*◌, ◌<◌, ◌==◌, ◌&&◌, ◌||◌, nat_lt, int_le, Bool, true, false, cond, List, [], ◌∷◌, Option, Some, None, Result, Ok, Err, MatchResult, OnOk, refl, sym, ap, ◌∙◌, subst, arith}
use Rattle.std.specs.Ordering.{nat_cmp, eq_by_cmp}
use Rattle.std.specs.Cmp.{nat_cmp_total}
use Rattle.std.specs.FinMap.{FinMap, get, find, entries, get-insert, get-remove, get-entries}
use Rattle.std.specs.Map.{keys_of}
use Rattle.std.proofs.lemmas.Bool.{true≢false, ltb-true}
use Rattle.collections.proofs.NumberMaps.{same_number, numbers_same}
use Rattle.server_messages.specs.declared.out.Out.{Out}
use Rattle.server_messages.specs.declared.out.Out.TheVariants.{Send, Close}
use Rattle.server_core.specs.declared.event.Event.{Event}
use Rattle.socket_peers.specs.Peer.{PeerState, owing, is_silent}
use Rattle.socket_peers.specs.Peers.{PeersState, at, is_true_of, is_silent_at, without, without_by, swept_now, numbers_of, touching_by, owed_out, owed_all}
use Rattle.socket_server.specs.declared.serve_fault.ServeFault.{ServeFault}
use Rattle.socket_server.specs.Output.{EventText}
use Rattle.socket_server.specs.Serving.{Scene, Takes, Fails, is_among, AreNoneSilent}

-- who was owed something now isn't silent
later_than : (now : ℤ) (n : ℕ) → 0 < n → int_le (now +ℤ pos n) now ≡ false
later_than now n some = grind (arith, some)

not_just_served : (idle : ℕ) (now : ℤ) (b : Bool) → nat_lt 0 idle ≡ b → (b && int_le (now +ℤ pos (idle * 10000000)) now) ≡ false
not_just_served idle now true e = let some = ltb-true 0 idle e in later_than now (idle * 10000000) (omega arith)
not_just_served idle now false e = refl

same_is : (a b : ℕ) → (a == b) ≡ true → a ≡ b
same_is a b h = grind (arith, h)

is_same : (a b : ℕ) → a ≡ b → (a == b) ≡ true
is_same a b h = grind (arith, h)

or_true : (b : Bool) → (b || true) ≡ true
or_true true = refl
or_true false = refl

-- numbers that differ
told_apart : (q k : ℕ) → eq_by_cmp nat_cmp q k ≡ false → (k == q) ≡ false
told_apart q k apart = by (k == q) refl
  where
    by : (b : Bool) → (k == q) ≡ b → b ≡ false
    by true e = absurd (true≢false (sym (numbers_same q k (sym (same_is k q e))) ∙ apart))
    by false e = refl

module _ {S : Type 0} where
  put_silent : (test : PeerState S → Bool) (m : FinMap nat_cmp (PeerState S)) (k q : ℕ) (x y : PeerState S) (b : Bool) → eq_by_cmp nat_cmp q k ≡ b → get m k ≡ Some x → (test y ≡ true → test x ≡ true)
      → is_true_of test (cond b (Some y) (get m q)) ≡ true → is_true_of test (get m q) ≡ true
  put_silent test m k q x y true same is keeps h = subst (λ (o : Option (PeerState S)). is_true_of test o ≡ true) (sym (ap (get m) (same_number q k same) ∙ is)) (keeps h)
  put_silent test m k q x y false same is keeps h = h

  touched_silent : (p : PeersState S) (conn q : ℕ) (f : PeerState S → PeerState S)
      → ((x : PeerState S) → is_silent p.limits.idle p.clock (f x) ≡ true → is_silent p.limits.idle p.clock x ≡ true) → (o : Option (PeerState S)) → at p conn ≡ o
      → is_silent_at (touching_by p conn f o) q ≡ true → is_silent_at p q ≡ true
  touched_silent p conn q f keeps None is h = h
  touched_silent p conn q f keeps (Some x) is h =
      let test = is_silent p.limits.idle p.clock in
      put_silent test p.connected conn q x (f x) (eq_by_cmp nat_cmp q conn) refl is (keeps x)
      (subst (λ (o : Option (PeerState S)). is_true_of test o ≡ true) (get-insert nat_cmp_total p.connected conn (f x) q) h)

  out_silent : (p : PeersState S) (out : Out) (q : ℕ) → is_silent_at (owed_out p out) q ≡ true → is_silent_at p q ≡ true
  out_silent p (Send conn bytes) q h =
      touched_silent p conn q (owing p.clock bytes) (λ x e. absurd (true≢false (sym e ∙ not_just_served p.limits.idle p.clock.0 (nat_lt 0 p.limits.idle) refl))) (at p conn) refl h
  out_silent p (Close conn) q h = touched_silent p conn q _ (λ x e. e) (at p conn) refl h

  owed_silent : (outs : List Out) (p : PeersState S) (q : ℕ) → is_silent_at (owed_all p outs) q ≡ true → is_silent_at p q ≡ true
  owed_silent [] p q h = h
  owed_silent (out ∷ outs) p q h = out_silent p out q (owed_silent outs (owed_out p out) q h)

  -- one that is let go of is silent no more
  nobody_silent : (p : PeersState S) (conn q : ℕ) (b : Bool) → (conn == q) ≡ b → at p conn ≡ None → is_silent_at p q ≡ true → (b || false) ≡ false
  nobody_silent p conn q true same is h =
      absurd (true≢false (sym h ∙ ap (is_true_of (is_silent p.limits.idle p.clock)) (ap (at p) (sym (same_is conn q same)) ∙ is)))
  nobody_silent p conn q false same is h = refl

  left_silent : (test : PeerState S → Bool) (m : FinMap nat_cmp (PeerState S)) (k q : ℕ) (b : Bool) → eq_by_cmp nat_cmp q k ≡ b → is_true_of test (cond b None (get m q)) ≡ true
      → (is_true_of test (get m q) ≡ true) × ((k == q || false) ≡ false)
  left_silent test m k q true same h = absurd (true≢false (sym h))
  left_silent test m k q false apart h = (h, ap (λ (b : Bool). b || false) (told_apart q k apart))

  without_silent : (p : PeersState S) (conn q : ℕ) (o : Option (PeerState S)) → at p conn ≡ o → is_silent_at (without_by p conn o) q ≡ true
      → (is_silent_at p q ≡ true) × (is_among q (conn ∷ []) ≡ false)
  without_silent p conn q None is h = (h, nobody_silent p conn q (conn == q) refl is h)
  without_silent p conn q (Some x) is h =
      let test = is_silent p.limits.idle p.clock in
      left_silent test p.connected conn q (eq_by_cmp nat_cmp q conn) refl (subst (λ (o : Option (PeerState S)). is_true_of test o ≡ true) (get-remove nat_cmp_total p.connected conn q) h)

  pub one_expired : (conn : ℕ) (old new : PeersState S) → new ≡ without old conn → AreNoneSilent (conn ∷ []) old new
  one_expired conn old new e q h = without_silent old conn q (at old conn) refl (subst (λ (p : PeersState S). is_silent_at p q ≡ true) e h)

  -- one that stays isn't silent
  pub none_expired : (conn : ℕ) (old new : PeersState S) → is_silent_at old conn ≡ false → new ≡ old → AreNoneSilent (conn ∷ []) old new
  none_expired conn old new stays e q h =
      let before = subst (λ (p : PeersState S). is_silent_at p q ≡ true) e h in
      (before, by (conn == q) refl before)
    where
      by : (b : Bool) → (conn == q) ≡ b → is_silent_at old q ≡ true → (b || false) ≡ false
      by true same silent = absurd (true≢false (sym silent ∙ ap (is_silent_at old) (sym (same_is conn q same)) ∙ stays))
      by false same silent = refl

  -- what the server sends then leaves nobody silent who wasn't
  pub handed_silent : {X : Type 0} (text : EventText) (event : Event) (conn : ℕ) (old : PeersState S) (a c : Scene S) (r : Result X ServeFault) → AreNoneSilent (conn ∷ []) old a.peers
      → MatchResult r (λ _. Takes text event a c) (Fails text event a c) → OnOk r (AreNoneSilent (conn ∷ []) old c.peers)
  handed_silent text event conn old a c (Ok x) h (step, steps, owed, events, puts, keys) =
      λ q silent. h q (owed_silent step.outs a.peers q (subst (λ (p : PeersState S). is_silent_at p q ≡ true) owed silent))
  handed_silent text event conn old a c (Err fault) h fails = tt

  -- ---- all of them

  none_some : (x : PeerState S) → None ≡ Some x → ⊥
  none_some x e = true≢false (sym (ap (is_true_of (λ (p : PeerState S). true)) e))

  among_by : (q : ℕ) (e : ℕ × PeerState S) (es : List (ℕ × PeerState S)) (x : PeerState S) (b : Bool) → eq_by_cmp nat_cmp q e.0 ≡ b → cond b (Some e.1) (find nat_cmp q es) ≡ Some x
      → (find nat_cmp q es ≡ Some x → is_among q (keys_of es) ≡ true) → is_among q (keys_of (e ∷ es)) ≡ true
  among_by q e es x true same is rest = ap (λ (b : Bool). b || is_among q (keys_of es)) (is_same e.0 q (sym (same_number q e.0 same)))
  among_by q e es x false apart is rest = ap (λ (b : Bool). (e.0 == q) || b) (rest is) ∙ or_true (e.0 == q)

  key_among : (q : ℕ) (es : List (ℕ × PeerState S)) (x : PeerState S) → find nat_cmp q es ≡ Some x → is_among q (keys_of es) ≡ true
  key_among q [] x h = absurd (none_some x h)
  key_among q (e ∷ es) x h = among_by q e es x (eq_by_cmp nat_cmp q e.0) refl h (λ is. key_among q es x is)

  silent_among : (p : PeersState S) (q : ℕ) (o : Option (PeerState S)) → at p q ≡ o → is_true_of (is_silent p.limits.idle p.clock) o ≡ true → is_among q (numbers_of p) ≡ true
  silent_among p q None is h = absurd (true≢false (sym h))
  silent_among p q (Some x) is h = key_among q (entries p.connected) x (sym (get-entries p.connected q) ∙ is)

  -- after all were looked through, none is silent
  pub all_expired : (p new : PeersState S) → AreNoneSilent (numbers_of p) (swept_now p) new → (q : ℕ) → is_silent_at new q ≡ false
  all_expired p new h q = by (is_silent_at new q) refl
    where
      by : (b : Bool) → is_silent_at new q ≡ b → b ≡ false
      by true e = let found = h q e in absurd (true≢false (sym (silent_among p q (at p q) refl found.0) ∙ found.1))
      by false e = refl

-- those that are left to be looked through
pub still_among : (q n : ℕ) (rest all : List ℕ) → all ≡ n ∷ rest → is_among q (n ∷ []) ≡ false → is_among q all ≡ true → is_among q rest ≡ true
still_among q n rest all e apart h = by (n == q) apart (subst (λ (l : List ℕ). is_among q l ≡ true) e h)
  where
    by : (b : Bool) → (b || false) ≡ false → (b || is_among q rest) ≡ true → is_among q rest ≡ true
    by true differ is = absurd (true≢false differ)
    by false differ is = is

pub none_among : (q : ℕ) (numbers rest : List ℕ) → rest ≡ [] → (is_among q numbers ≡ true → is_among q rest ≡ true) → is_among q numbers ≡ false
none_among q numbers rest e h = by (is_among q numbers) refl
  where
    by : (b : Bool) → is_among q numbers ≡ b → b ≡ false
    by true is = absurd (true≢false (sym (subst (λ (l : List ℕ). is_among q l ≡ true) e (h is))))
    by false is = refl
