-- The numbers of the classes of nodes (NodeClass, IEC 62541-3, section 8).
use Rattle.std.specs.Prelude.{ℕ}
use Rattle.ua_types.specs.declared.node_class.NodeClass.{NodeClass}
use Rattle.ua_types.specs.declared.node_class.NodeClass.TheVariants as classes

abbrev pub class_number : NodeClass → ℕ
class_number classes.Object = 1
class_number classes.Variable = 2
class_number classes.ObjectType = 8
class_number classes.VariableType = 16
class_number classes.ReferenceType = 32
class_number classes.DataType = 64
