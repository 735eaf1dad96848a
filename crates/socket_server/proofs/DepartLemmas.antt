-- The server is told of a connection that is no more in the turn in which that is seen.
use Rattle.std.proofs.Common.{◌≡◌, ℕ, Bool, true, false, cond, List, [], ◌∷◌, Option, Some, None, Result, Ok, Err, MatchResult, OnOk, refl, sym, ap, ◌∙◌, subst, not, ◌&&◌, ◌||◌}
use Rattle.std.specs.Prelude.{⊤}
use Rattle.std.specs.Ordering.{nat_cmp, eq_by_cmp}
use Rattle.std.specs.Cmp.{nat_cmp_total}
use Rattle.std.specs.FinMap.{FinMap, get, get-insert}
use Rattle.collections.proofs.NumberMaps.{same_number, get_inserted, get_removed}
use Rattle.server_messages.specs.declared.out.Out.{Out}
use Rattle.server_messages.specs.declared.out.Out.TheVariants.{Send, Close}
use Rattle.server_core.specs.declared.event.Event.{Event}
use Rattle.server_core.specs.declared.event.Event.TheVariants.{Gone}
use Rattle.socket_peers.specs.Peer.{PeerState, departs, departed, is_over}
use Rattle.socket_peers.specs.Peers.{PeersState, at, is_true_of, departs_at, with_departed, without_by, changed_by, touching_by, owed_out, owed_all, LetsGo}
use Rattle.socket_server.specs.declared.serve_fault.ServeFault.{ServeFault}
use Rattle.rand_core.specs.Stream.{Stream}
use Rattle.socket_server.specs.Output.{EventText}
use Rattle.socket_server.specs.Serving.{Scene, Takes, Fails}

-- any generator: none of this depends on keys
pub empty_stream : Stream
empty_stream = record { u32_after = λ cs. 0; u64_after = λ cs. 0; bytes_after = λ cs n. [] }

module _ {S : Type 0} where
  -- there is no such socket, or the server was told of its connection
  abbrev IsTold : Option (PeerState S) → Type 0
  IsTold None = ⊤
  IsTold (Some p) = p.is_gone ≡ true

  told_departs : (o : Option (PeerState S)) → IsTold o → is_true_of departs o ≡ false
  told_departs None h = refl
  told_departs (Some p) h = ap (λ b. not b && (p.has_ended || is_over p)) h

  put_there : (m : FinMap nat_cmp (PeerState S)) (k q : ℕ) (x y : PeerState S) (b : Bool) → eq_by_cmp nat_cmp q k ≡ b → get m k ≡ Some x → y.is_gone ≡ x.is_gone → IsTold (get m q)
      → IsTold (cond b (Some y) (get m q))
  put_there m k q x y true same is keeps h = keeps ∙ subst IsTold (ap (get m) (same_number q k same) ∙ is) h
  put_there m k q x y false same is keeps h = h

  touched_told : (p : PeersState S) (conn q : ℕ) (f : PeerState S → PeerState S) → ((x : PeerState S) → (f x).is_gone ≡ x.is_gone) → (o : Option (PeerState S)) → at p conn ≡ o → IsTold (at p q)
      → IsTold (at (touching_by p conn f o) q)
  touched_told p conn q f keeps None is h = h
  touched_told p conn q f keeps (Some x) is h =
      subst IsTold (sym (get-insert nat_cmp_total p.connected conn (f x) q)) (put_there p.connected conn q x (f x) (eq_by_cmp nat_cmp q conn) refl is (keeps x) h)

  out_told : (p : PeersState S) (out : Out) (q : ℕ) → IsTold (at p q) → IsTold (at (owed_out p out) q)
  out_told p (Send conn bytes) q h = touched_told p conn q _ (λ x. refl) (at p conn) refl h
  out_told p (Close conn) q h = touched_told p conn q _ (λ x. refl) (at p conn) refl h

  owed_told : (outs : List Out) (p : PeersState S) (q : ℕ) → IsTold (at p q) → IsTold (at (owed_all p outs) q)
  owed_told [] p q h = h
  owed_told (out ∷ outs) p q h = owed_told outs (owed_out p out) q (out_told p out q h)

  departed_told : (p : PeersState S) (q : ℕ) (o : Option (PeerState S)) → at p q ≡ o → IsTold (at (changed_by p q departed o) q)
  departed_told p q None is = subst IsTold (sym is) tt
  departed_told p q (Some x) is = subst IsTold (sym (get_inserted p.connected q (departed x))) refl

  pub with_departed_told : (p : PeersState S) (q : ℕ) → IsTold (at (with_departed p q) q)
  with_departed_told p q = departed_told p q (at p q) refl

  left_told : (p : PeersState S) (conn : ℕ) (o : Option (PeerState S)) → at p conn ≡ o → is_true_of departs (at (without_by p conn o) conn) ≡ false
  left_told p conn None is = ap (is_true_of departs) is
  left_told p conn (Some x) is = ap (is_true_of departs) (get_removed p.connected conn)

  -- letting go of it leaves nothing to be told
  pub released_told : (conn : ℕ) (old new : PeersState S) (is_gone : Bool) → departs_at old conn ≡ false → LetsGo conn old new is_gone → departs_at new conn ≡ false
  released_told conn old new true h (done, e) = subst (λ p. departs_at p conn ≡ false) (sym e) (left_told old conn (at old conn) refl)
  released_told conn old new false h (not_done, e) = subst (λ p. departs_at p conn ≡ false) (sym e) h

module _ {S : Type 0} (text : EventText) where
  -- the event that tells it is handed in, and so it is told
  pub handed_told : {X : Type 0} (conn : ℕ) (event : Event) (a c : Scene S) (r : Result X ServeFault) → IsTold (at a.peers conn)
      → MatchResult r (λ _. Takes text event a c) (Fails text event a c) → OnOk r (departs_at c.peers conn ≡ false)
  handed_told conn event a c (Ok x) h (step, steps, owed, events, puts, keys) =
      told_departs (at c.peers conn) (subst (λ (p : PeersState S). IsTold (at p conn)) (sym owed) (owed_told step.outs a.peers conn h))
  handed_told conn event a c (Err fault) h fails = tt

  pub told_by : {X : Type 0} (conn : ℕ) (a : Scene S) (p : PeersState S) (c : Scene S) (r : Result X ServeFault) → p ≡ with_departed a.peers conn
      → MatchResult r (λ _. Takes text (Gone conn) (record a { peers = p }) c) (Fails text (Gone conn) (record a { peers = p }) c) → OnOk r (departs_at c.peers conn ≡ false)
  told_by conn a p c r e handed =
      handed_told conn (Gone conn) (record a { peers = p }) c r (subst (λ (x : PeersState S). IsTold (at x conn)) (sym e) (with_departed_told a.peers conn)) handed
