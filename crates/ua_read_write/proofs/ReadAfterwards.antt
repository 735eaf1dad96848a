-- What is read of a variable after values were written.
use Rattle.std.proofs.Common.{◌≡◌, true, Option, Some, None, Ok, ap, subst, ◌∙◌}
use Rattle.std.specs.Prelude.{option_map}
use Rattle.ua_types.specs.declared.moment.Moment.{Moment}
use Rattle.ua_types.specs.declared.data_value.DataValue.{DataValue}
use Rattle.ua_space.specs.Nodes.{node_at}
use Rattle.ua_space.specs.Values.{variable_in, variable_of, holding}
use Rattle.ua_space.specs.Variables.{VariableAttributes}
use Rattle.ua_space.specs.declared.node.Node.{Node}
use Rattle.ua_space.specs.declared.node.NodeDetails.{NodeDetails}
use Rattle.ua_space.specs.declared.node.NodeDetails.TheVariants as details
use Rattle.ua_read_write.specs.AttributeIds.{attribute_numbered}
use Rattle.ua_read_write.specs.Attributes.{ValueOf, own_attribute}
use Rattle.ua_read_write.specs.Reading.{is_readable, dated, answered, told_in, told_of, told}
use Rattle.ua_read_write.specs.Writing.{write_of}
use Rattle.ua_read_write.specs.WritingLaws.{revalued, ReadsWhatWasWritten}
use Rattle.ua_read_write.specs.declared.attributes.AttributeId.TheVariants as ids
use Rattle.ua_read_write.specs.declared.timestamps.Timestamps.{Timestamps}
use Rattle.ua_read_write.proofs.WrittenNodes.{changes_values_alone}

module _ (now : Moment) (timestamps : Timestamps) (v : VariableAttributes) (value : DataValue) (may : is_readable (ValueOf v) ≡ true) where
  of_details : (d : NodeDetails) → variable_in d ≡ Some v
      → answered now timestamps (told_in (Ok None) (own_attribute (holding value d) ids.Value)) ≡ dated now timestamps (ValueOf (record v { value = value }))
  of_details (details.Variable w) is =
      let same : v ≡ w = cc in
      let P : VariableAttributes → Type 0 = λ x. is_readable (ValueOf x) ≡ true in
      let may_w : is_readable (ValueOf w) ≡ true = subst P same may in
      rw may_w (ap (λ (x : VariableAttributes). dated now timestamps (ValueOf (record x { value = value }))) (let back : w ≡ v = cc in back))
  of_details details.Object is = absurd cc
  of_details (details.ObjectType a) is = absurd cc
  of_details (details.VariableType t r a) is = absurd cc
  of_details (details.ReferenceType a s i) is = absurd cc
  of_details (details.DataType a) is = absurd cc

  of_found : (found : Option Node) → variable_of found ≡ Some v
      → answered now timestamps (told_of 13 None (option_map (revalued (Some value)) found)) ≡ dated now timestamps (ValueOf (record v { value = value }))
  unfolding attribute_numbered
  of_found None is = absurd cc
  of_found (Some node) is = of_details node.details is

pub reads_what_was_written : ReadsWhatWasWritten
unfolding told
reads_what_was_written clock now timestamps nodes values id v value at may last =
    let there : node_at id (write_of clock nodes values).nodes ≡ option_map (revalued (Some value)) (node_at id nodes) =
    changes_values_alone clock nodes values id ∙ ap (λ (o : Option DataValue). option_map (revalued o) (node_at id nodes)) last in
    ap (λ (found : Option Node). answered now timestamps (told_of 13 None found)) there
    ∙ of_found now timestamps v value may (node_at id nodes) at
