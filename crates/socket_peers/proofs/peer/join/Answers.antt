use Rattle.std.proofs.Common.{rules, ◌≡◌, ◌∙◌, ℕ, List, [], ◌++◌, Bor, slice_index_or, ap, sym}
use Rattle.socket_peers.proofs.PeerLemmas.{next_slice}
use Rattle.socket_peers.proofs.peer.join.Goals as goal

pub loop-place-preserved : goal.loop-place-preserved
loop-place-preserved c =
    let none : Bor (List ℕ) = record { ref_ptr = (0, 0); now = [] } in
    let frame = (slice_index_or c.args.frames.now c.loop-place.place none).now in
    let more : c.extend_from_slice.new.self.items ≡ c.loop-place.joint.items ++ frame = search rules in
    more ∙ ap (λ l. l ++ frame) c.loop-place.invariant ∙ sym (next_slice c.args.frames.now c.loop-place.place none c.loop-place-test.true)
