use Rattle.std.proofs.Common.{◌<◌, ◌^◌, length, ap, to_z, of_z, w64, arith, length-drop}
use Rattle.ua_history.proofs.Keeping.{one_more}
use Rattle.ua_history.proofs.history.NodeHistory.keep.Goals as goal

-- one more came, and one goes
pub invariant_of-self-then-len-most : goal.invariant_of-self-then-len-most
invariant_of-self-then-len-most c =
    let before = c.self.invariant in
    let came = ap length c.in_ok-insert.ensures.ok in
    let more = one_more (to_z w64 (of_z w64 c.args.time)) c.args.value c.self.inside.values in
    let gone = ap length c.pop_first.ensures.rest in
    let fewer = length-drop 1 c.insert.new.self in
    let few : length c.pop_first.new.self < 2 ^ 32 = omega (arith, before, came, more, gone, fewer) in
    few
