use Rattle.std.proofs.Common.{◌<◌, length, arith}
use borrow.Author.Tests.{ltb-true}
use Rattle.collections.proofs.laid.has_room_at_end.Goals as goal

pub returns-in-Some : goal.returns-in-Some
returns-in-Some g c h =
    let few : length c.in-Some.segment.now.items < 64 =
    let same = c.in-Some.segment.now.ok.0 in let m = ltb-true c.len.result 64 h in omega (arith, same, c.len.ensures, m) in
    rw c.in-Some.ensures.last few
