use Rattle.std.proofs.Common.{◌≡◌, ◌-◌}
use Rattle.std.specs.Int.{w32}
use Rattle.ua_types.specs.Matrices.{is_shape}
use Rattle.ua_binary.specs.Numbers.{number_reading}
use Rattle.ua_binary.specs.Arrays.{elements_reading}
use Rattle.ua_views.proofs.Elements.{seen}
use Rattle.ua_views.proofs.Shapes.{in_shape}
use Rattle.ua_views.proofs.passing.pass_shape.Given as goal

-- the elements lie in the dimensions to come, as far as the size goes, where they lie in all of them
abbrev pub invariant-loop : goal.invariant-loop
invariant-loop l =
    let reading = number_reading w32 in
    seen (in_shape l.size l.count) (elements_reading reading (l.rank - l.counter) l.cursor) ≡ seen (λ dimensions. is_shape dimensions l.count) (elements_reading reading l.rank l.fn.cursor)
