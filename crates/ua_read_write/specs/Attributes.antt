-- The attributes of nodes: which class has which, and what each is (IEC 62541-3, 5.2 to 5.8).
use Rattle.std.specs.Prelude.{ℕ, ℤ, pos, negsuc, Bool, Option, Some, None, option_map}
use Rattle.ua_types.specs.NodeIds.{numeric_id}
use Rattle.ua_types.specs.declared.content.Content.TheVariants.{Scalar}
use Rattle.ua_types.specs.declared.variant.Variant.{Variant}
use Rattle.ua_types.specs.declared.variant.Variant.TheVariants as variants
use Rattle.ua_types.specs.Parts.{part_of}
use Rattle.ua_space.specs.NodeClasses.{class_of}
use Rattle.ua_space.specs.Variables.{VariableAttributes}
use Rattle.ua_space.specs.declared.node.Node.{Node}
use Rattle.ua_types.specs.NodeClasses.{class_number}
use Rattle.ua_space.specs.declared.node.NodeDetails.{NodeDetails}
use Rattle.ua_space.specs.declared.node.NodeDetails.TheVariants as details
use Rattle.ua_space.specs.declared.node.ValueRank.{ValueRank}
use Rattle.ua_space.specs.declared.node.ValueRank.TheVariants as ranks
use Rattle.ua_read_write.specs.AttributeIds.{attribute_numbered}
use Rattle.ua_read_write.specs.declared.attributes.AttributeId.{AttributeId}
use Rattle.ua_read_write.specs.declared.attributes.AttributeId.TheVariants as ids
use Rattle.ua_read_write.specs.declared.attributes.Attribute.{Attribute}
use Rattle.ua_read_write.specs.declared.attributes.Attribute.TheVariants as attributes
use Rattle.ua_read_write.specs.declared.index_range.IndexRange.{IndexRange}

-- an attribute of a node: the value of a variable, which has a status and times, or one that is a value and nothing else
pub data Attributed : Type 0 where
  ValueOf : VariableAttributes → Attributed
  Plain : Variant → Attributed

abbrev pub byte : ℕ → Attributed
byte number = Plain (variants.Byte (Scalar number))

abbrev pub int32 : ℤ → Attributed
int32 number = Plain (variants.Int32 (Scalar number))

abbrev pub uint32 : ℕ → Attributed
uint32 number = Plain (variants.UInt32 (Scalar number))

abbrev pub boolean : Bool → Attributed
boolean truth = Plain (variants.Boolean (Scalar truth))

-- a built-in type, whose id in namespace 0 is its number
abbrev pub type_id : ℕ → Attributed
type_id number = Plain (variants.NodeId (Scalar (numeric_id 0 number)))

-- one value is -1, and a list is 1, the number of its dimensions
abbrev pub rank_number : ValueRank → ℤ
rank_number ranks.Scalar = negsuc 0
rank_number ranks.List = pos 1

-- ---- which class has which

abbrev pub variable_attribute : VariableAttributes → AttributeId → Option Attributed
variable_attribute v ids.Value = Some (ValueOf v)
variable_attribute v ids.DataType = Some (type_id v.data_type)
variable_attribute v ids.ValueRank = Some (int32 (rank_number v.value_rank))
variable_attribute v ids.AccessLevel = Some (byte v.access)
variable_attribute v ids.UserAccessLevel = Some (byte v.access)
variable_attribute v ids.Historizing = Some (boolean v.historizing)
variable_attribute v other = None

abbrev pub object_attribute : AttributeId → Option Attributed
object_attribute ids.EventNotifier = Some (byte 0)
object_attribute other = None

abbrev pub type_attribute : Bool → AttributeId → Option Attributed
type_attribute is_abstract ids.IsAbstract = Some (boolean is_abstract)
type_attribute is_abstract other = None

abbrev pub variable_type_attribute : ℕ → ValueRank → Bool → AttributeId → Option Attributed
variable_type_attribute data_type rank is_abstract ids.DataType = Some (type_id data_type)
variable_type_attribute data_type rank is_abstract ids.ValueRank = Some (int32 (rank_number rank))
variable_type_attribute data_type rank is_abstract other = type_attribute is_abstract other

-- attributes that not all classes have
abbrev pub own_attribute : NodeDetails → AttributeId → Option Attributed
own_attribute details.Object id = object_attribute id
own_attribute (details.Variable v) id = variable_attribute v id
own_attribute (details.ObjectType a) id = type_attribute a id
own_attribute (details.VariableType t r a) id = variable_type_attribute t r a id
own_attribute (details.ReferenceType a s i) ids.Symmetric = Some (boolean s)
own_attribute (details.ReferenceType a s i) ids.InverseName = Some (Plain (variants.LocalizedText (Scalar i)))
own_attribute (details.ReferenceType a s i) other = type_attribute a other
own_attribute (details.DataType a) id = type_attribute a id

-- all classes have the first seven
abbrev pub attribute_of : Node → AttributeId → Option Attributed
attribute_of node ids.NodeId = Some (Plain (variants.NodeId (Scalar node.id)))
attribute_of node ids.NodeClass = Some (int32 (pos (class_number (class_of node))))
attribute_of node ids.BrowseName = Some (Plain (variants.QualifiedName (Scalar node.browse_name)))
attribute_of node ids.DisplayName = Some (Plain (variants.LocalizedText (Scalar node.display_name)))
attribute_of node ids.Description = Some (Plain (variants.LocalizedText (Scalar node.description)))
attribute_of node ids.WriteMask = Some (uint32 0)
attribute_of node ids.UserWriteMask = Some (uint32 0)
attribute_of node other = own_attribute node.details other

abbrev pub attribute_by : Node → Option AttributeId → Option Attributed
attribute_by node None = None
attribute_by node (Some id) = attribute_of node id

-- the attribute with this number
abbrev pub attribute_at : Node → ℕ → Option Attributed
attribute_at node number = attribute_by node (attribute_numbered number)

-- a variable whose value is a part of a list
abbrev pub with_part_alone : IndexRange → VariableAttributes → VariableAttributes
with_part_alone range v = record v { value = record v.value { value = option_map (part_of range.first range.count) v.value.value } }

-- ---- words of the contracts

-- an attribute of the code, where it stands
abbrev pub seen : Attribute → Attributed
seen (attributes.Value v) = ValueOf v.now
seen (attributes.Part v range) = ValueOf (with_part_alone range v.now)
seen (attributes.Id id) = Plain (variants.NodeId (Scalar id.now))
seen (attributes.Name name) = Plain (variants.QualifiedName (Scalar name.now))
seen (attributes.Words words) = Plain (variants.LocalizedText (Scalar words.now))
seen (attributes.Type number) = type_id number
seen (attributes.Boolean truth) = boolean truth
seen (attributes.Byte number) = byte number
seen (attributes.Int32 number) = int32 number
seen (attributes.UInt32 number) = uint32 number

-- an attribute that isn't a part of one
abbrev pub IsWhole : Attribute → Type 0
IsWhole (attributes.Part v range) = ⊥
IsWhole other = Unit {0}
