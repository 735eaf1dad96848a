use Rattle.std.proofs.Common.{◌≡◌, ◌-◌}
use Rattle.ua_binary.specs.Arrays.{elements_reading}
use Rattle.ua_views.proofs.Elements.{seen}
use Rattle.ua_views.proofs.Looking.{unseen}
use Rattle.ua_views.proofs.arrays.pass_all.Given as goal

-- behind the elements to come stands what stands behind all of them
abbrev pub invariant-loop : goal.invariant-loop
invariant-loop g l =
    let reading = g.T.Readable.reading in
    seen unseen (elements_reading reading (l.count - l.counter) l.cursor) ≡ seen unseen (elements_reading reading l.count l.fn.cursor)
