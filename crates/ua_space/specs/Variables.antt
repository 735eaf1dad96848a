-- Variables: what they have beside the attributes of all nodes, and which values they take (IEC 62541-3, 5.6.2).
use Rattle.std.specs.Prelude.{◌≡◌, ℕ, ◌≤◌, ◌<◌, Bool, true, false, ◌==◌, ◌&&◌, Option, Some, None}
use Rattle.ua_types.specs.Variants.{type_number}
use Rattle.ua_types.specs.Shapes.{shape_of}
use Rattle.ua_types.specs.declared.data_value.DataValue.{DataValue}
use Rattle.ua_types.specs.declared.shape.Shape.{Shape}
use Rattle.ua_types.specs.declared.shape.Shape.TheVariants as shapes
use Rattle.ua_types.specs.declared.variant.Variant.{Variant}
use Rattle.ua_space.specs.declared.node.ValueRank.{ValueRank}
use Rattle.ua_space.specs.declared.node.ValueRank.TheVariants as ranks

pub record VariableAttributes : Type 0 where
  pub data_type : ℕ
  pub value_rank : ValueRank
  pub value : DataValue
  pub access : ℕ
  pub historizing : Bool

abbrev pub is_scalar : ValueRank → Bool
is_scalar ranks.Scalar = true
is_scalar ranks.List = false

abbrev pub is_list : ValueRank → Bool
is_list ranks.Scalar = false
is_list ranks.List = true

-- one value, or a list without dimensions, which may be null; a list with dimensions is neither
abbrev pub shape_has_rank : ValueRank → Shape → Bool
shape_has_rank rank shapes.Null = false
shape_has_rank rank shapes.Scalar = is_scalar rank
shape_has_rank rank shapes.List = is_list rank
shape_has_rank rank shapes.Matrix = false

unfoldable pub has_rank : ValueRank → Variant → Bool
has_rank rank value = shape_has_rank rank (shape_of value)

-- a value of this type, one or a list as the rank says
abbrev pub is_of : ℕ → ValueRank → Variant → Bool
is_of data_type rank value = (type_number value == data_type) && has_rank rank value

-- whether a variable takes a value
abbrev pub takes : VariableAttributes → Variant → Bool
takes v value = is_of v.data_type v.value_rank value

abbrev pub takes_if_any : VariableAttributes → Option Variant → Bool
takes_if_any v None = false
takes_if_any v (Some value) = takes v value

-- the type is one of the 22 built-in ones, each of the four access bits may be set, and there always is a value, which
-- the variable takes
pub record IsTyped (v : VariableAttributes) : Type 0 where
  pub lowest : 1 ≤ v.data_type
  pub highest : v.data_type ≤ 22
  pub access : v.access < 16
  pub value : takes_if_any v v.value.value ≡ true
