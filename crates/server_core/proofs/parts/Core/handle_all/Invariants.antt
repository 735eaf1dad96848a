use Rattle.std.proofs.Common.{◌≡◌, true, drop}
use Rattle.ua_transport.specs.Pieces.{all_handled}
use Rattle.server_core.specs.Effects.{are_spent}
use Rattle.server_core.specs.Handling.{handled, doing_after}
use Rattle.server_core.proofs.parts.Core.handle_all.Given as goal

-- what is done so far and what is left are the whole, and what is spent of what is left is spent of the whole
abbrev pub invariant-loop-frame : goal.invariant-loop-frame
invariant-loop-frame l =
    let left = all_handled (handled l.conn) l.self (drop l.frame-index l.frames) in
    let whole = all_handled (handled l.conn) l.fn.self l.fn.frames in
    record {
      shows : doing_after l.step left ≡ doing_after l.fn.step whole;
      spends : are_spent left.outs ≡ true → are_spent whole.outs ≡ true;
    }
