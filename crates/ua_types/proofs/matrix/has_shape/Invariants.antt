use Rattle.std.proofs.Common.{◌≡◌, ◌-◌, ◌^◌, true, min, take, ltb}
use Rattle.std.specs.List.{list_all}
use Rattle.ua_types.specs.Matrices.{product}
use Rattle.ua_types.proofs.matrix.has_shape.Given as goal

abbrev pub invariant-loop-dimension : goal.invariant-loop-dimension
invariant-loop-dimension l = record {
  size : l.size ≡ min (product (take l.dimension-index l.dimensions)) (2 ^ 64 - 1);
  each : list_all (λ d. ltb d (2 ^ 31)) (take l.dimension-index l.dimensions) ≡ true;
}
