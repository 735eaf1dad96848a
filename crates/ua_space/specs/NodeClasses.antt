-- The class of a node, which its details show.
use Rattle.ua_types.specs.declared.node_class.NodeClass.{NodeClass}
use Rattle.ua_types.specs.declared.node_class.NodeClass.TheVariants as classes
use Rattle.ua_space.specs.declared.node.Node.{Node}
use Rattle.ua_space.specs.declared.node.NodeDetails.{NodeDetails}
use Rattle.ua_space.specs.declared.node.NodeDetails.TheVariants as details

abbrev pub class_of_details : NodeDetails → NodeClass
class_of_details details.Object = classes.Object
class_of_details (details.Variable v) = classes.Variable
class_of_details (details.ObjectType a) = classes.ObjectType
class_of_details (details.VariableType t r a) = classes.VariableType
class_of_details (details.ReferenceType a s i) = classes.ReferenceType
class_of_details (details.DataType a) = classes.DataType

abbrev pub class_of : Node → NodeClass
class_of node = class_of_details node.details
