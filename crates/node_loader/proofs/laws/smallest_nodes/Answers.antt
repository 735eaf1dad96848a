use Rattle.node_loader.proofs.Defaults.{smallest_object, smallest_variable, smallest_object_type, smallest_variable_type, smallest_reference_type, smallest_data_type, hangs}
use Rattle.node_loader.proofs.laws.smallest_nodes.Goals as goal

pub returns : goal.returns
returns c = record {
  object = smallest_object;
  variable = smallest_variable;
  object_type = smallest_object_type;
  variable_type = smallest_variable_type;
  reference_type = smallest_reference_type;
  data_type = smallest_data_type;
  hangs = hangs;
}
