use Rattle.std.proofs.Common.{◌≡◌, take}
use Rattle.bytes.specs.Unread.{concat_slices}
use Rattle.socket_peers.proofs.peer.join.Given as goal

abbrev pub invariant-loop-place : goal.invariant-loop-place
invariant-loop-place l = l.joint.items ≡ concat_slices (take l.place l.frames)
