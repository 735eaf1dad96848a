use Rattle.std.proofs.Common.{rules, ◌≡◌, ◌∙◌, ◌<◌, length, take, sym, subst}
use Rattle.bytes.specs.Unread.{IsChunkOf, concat_slices}
use Rattle.socket_peers.proofs.PeerLemmas.{first_slices}
use Rattle.socket_peers.proofs.peer.front.Goals as goal

pub returns : goal.returns
returns c =
    let joint = c.join.new.joint.items in
    let count = c.join.ensures.0 in
    let made : joint ≡ concat_slices (take count (take c.chunks_vectored-count.result c.chunks_vectored-count.new.dst)) = c.join.ensures.1 in
    let some : 0 < length joint = search rules in
    let chunks : IsChunkOf (concat_slices (take c.chunks_vectored-count.result c.chunks_vectored-count.new.dst)) c.args.owed.now = c.chunks_vectored-count.ensures.chunks (search rules) in
    let front = first_slices _ count c.args.owed.now chunks (subst (λ l. 0 < length l) made some) in
    subst (λ l. IsChunkOf l c.args.owed.now) (sym made ∙ sym c.as_slice.ensures.value) front
