use Rattle.std.proofs.Common.{◌≡◌, drop}
use Rattle.std.specs.List.{find}
use Rattle.ua_space.specs.Subtypes.{lies_on_loop}
use Rattle.ua_space.proofs.loops.first_on_loop.Given as goal

abbrev pub invariant-loop-triple : goal.invariant-loop-triple
invariant-loop-triple l = find (lies_on_loop l.triples) (drop l.triple-index l.triples) ≡ find (lies_on_loop l.triples) l.triples
