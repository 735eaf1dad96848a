-- What is read of a range of elements after they were written.
use Rattle.std.proofs.Common.{◌≡◌, ℕ, ◌+◌, ◌-◌, ◌<◌, Bool, true, false, cond, eqb, ltb, List, [], ◌∷◌, length, take, drop, length-take, length-drop, Option, Some, None, Result, Ok, Err, refl, sym, ap, subst, ◌∙◌, arith}
use Rattle.std.proofs.lemmas.Bool.{eqb-true, leb-true, lt-ltb, and_parts}
use Rattle.std.specs.Prelude.{option_map, not}
use Rattle.std.specs.List.{position_or_len, before_first, after_first}
use Rattle.ua_types.specs.declared.moment.Moment.{Moment}
use Rattle.ua_types.specs.declared.status.Status.{Status}
use Rattle.ua_types.specs.declared.status.TheConstants.Status as status
use Rattle.ua_types.specs.Parts.{list_len_in, part_in, list_len, flat_len, part_of, flattened, with_part, HasRoom}
use Rattle.ua_types.specs.Variants.{type_number}
use Rattle.ua_types.specs.declared.content.Content.{Content}
use Rattle.ua_types.specs.declared.content.Content.TheVariants.{Scalar, Array, Matrix}
use Rattle.ua_types.specs.declared.variant.Variant.{Variant}
use Rattle.ua_types.specs.declared.variant.Variant.TheVariants as variants
use Rattle.ua_types.proofs.Parting.{len_flattened, type_flattened, part_again}
use Rattle.ua_service_messages.specs.declared.writing.WriteValue.{WriteValue}
use Rattle.ua_space.specs.Nodes.{node_at}
use Rattle.ua_space.specs.Values.{variable_in, variable_of, holding}
use Rattle.ua_space.specs.Variables.{VariableAttributes, has_rank, takes_if_any}
use Rattle.ua_space.specs.declared.node.Node.{Node}
use Rattle.ua_space.specs.declared.node.NodeDetails.{NodeDetails}
use Rattle.ua_space.specs.declared.node.NodeDetails.TheVariants as details
use Rattle.ua_read_write.specs.AttributeIds.{attribute_numbered}
use Rattle.ua_read_write.specs.Attributes.{ValueOf, own_attribute, attribute_by, with_part_alone}
use Rattle.ua_read_write.specs.IndexRanges.{element_number, one_element, from_to, index_range_of, if_said, asked_range, is_colon}
use Rattle.ua_read_write.specs.Reading.{is_readable, dated, answered, part_within, told_in, told_of, told}
use Rattle.ua_read_write.specs.Writing.{has_elements, is_of_type, replaced, part_judged, range_judged, is_writable, node_judged, attribute_judged, judged, holding_of, nodes_after, write_of}
use Rattle.ua_read_write.specs.WritingLaws.{revalued, ReadsThePartThatWasWritten}
use Rattle.ua_read_write.specs.declared.attributes.AttributeId.TheVariants as ids
use Rattle.ua_read_write.specs.declared.index_range.IndexRange.{IndexRange}
use Rattle.ua_read_write.specs.declared.timestamps.Timestamps.{Timestamps}
use Rattle.ua_read_write.proofs.WrittenNodes.{held_at}

-- ---- a range has an element

some_from_to : (first last : Option ℕ) (range : IndexRange) → from_to first last ≡ Some range → 0 < range.count
some_from_to None last range is = absurd cc
some_from_to (Some first) None range is = absurd cc
some_from_to (Some first) (Some last) range is = by (ltb first last) is
  where
    by : (b : Bool) → cond b (Some (record { first = first; count = last - first + 1 })) None ≡ Some range → 0 < range.count
    by true is = let count : last - first + 1 ≡ range.count = cc in omega arith
    by false is = absurd cc

some_alone : (number : Option ℕ) (range : IndexRange) → option_map one_element number ≡ Some range → 0 < range.count
some_alone None range is = absurd cc
some_alone (Some n) range is = let count : 1 ≡ range.count = cc in omega arith

some_said : (text : List ℕ) (range : IndexRange) → index_range_of text ≡ Some range → 0 < range.count
unfolding index_range_of
some_said text range is = by (ltb (position_or_len is_colon text) (length text)) is
  where
    pair : Option IndexRange
    pair = from_to (element_number (before_first is_colon text)) (element_number (after_first is_colon text))

    by : (b : Bool) → cond b pair (option_map one_element (element_number text)) ≡ Some range → 0 < range.count
    by true is = some_from_to (element_number (before_first is_colon text)) (element_number (after_first is_colon text)) range is
    by false is = some_alone (element_number text) range is

some_if_said : (said : Option IndexRange) (range : IndexRange) → if_said said ≡ Ok (Some range) → said ≡ Some range
some_if_said None range is = absurd cc
some_if_said (Some other) range is = cc

some_asked : (text : Option (List ℕ)) (range : IndexRange) → asked_range text ≡ Ok (Some range) → 0 < range.count
some_asked None range is = absurd cc
some_asked (Some []) range is = absurd cc
some_asked (Some (b ∷ bs)) range is = some_said (b ∷ bs) range (some_if_said (index_range_of (b ∷ bs)) range is)

-- ---- what is accepted under a range

record IsPutInto (range : IndexRange) (v : VariableAttributes) (part old new : Variant) : Type 0 where
  room : has_elements range (list_len old) ≡ true
  type : type_number part ≡ v.data_type
  len : flat_len part ≡ Some range.count
  is : new ≡ with_part range.first (flattened part) old

module _ (range : IndexRange) (v : VariableAttributes) (part old new : Variant) where
  of_len : has_elements range (list_len old) ≡ true → type_number part ≡ v.data_type → (len : Option ℕ) → flat_len part ≡ len → replaced range old part len ≡ Ok new → IsPutInto range v part old new
  of_len room type None flat is = absurd cc
  of_len room type (Some len) flat is = by (eqb len range.count) refl is
    where
      by : (b : Bool) → eqb len range.count ≡ b → cond b (Ok (with_part range.first (flattened part) old)) (Err status.BAD_INDEX_RANGE_INVALID) ≡ Ok new → IsPutInto range v part old new
      by true e is = record { room = room; type = type; len = flat ∙ ap (λ (n : ℕ). Some n) (eqb-true len range.count e); is = let same : with_part range.first (flattened part) old ≡ new = cc in sym same }
      by false e is = absurd cc

  of_type : has_elements range (list_len old) ≡ true → (b : Bool) → is_of_type v part ≡ b
      → cond (not b) (Err status.BAD_TYPE_MISMATCH) (replaced range old part (flat_len part)) ≡ Ok new → IsPutInto range v part old new
  of_type room true e is = of_len room (eqb-true (type_number part) v.data_type e) (flat_len part) refl is
  of_type room false e is = absurd cc

  of_room : (b : Bool) → has_elements range (list_len old) ≡ b
      → cond (not b) (Err status.BAD_INDEX_RANGE_NO_DATA) (cond (not (is_of_type v part)) (Err status.BAD_TYPE_MISMATCH) (replaced range old part (flat_len part))) ≡ Ok new
      → IsPutInto range v part old new
  of_room true e is = of_type e (is_of_type v part) refl is
  of_room false e is = absurd cc

  of_part : part_judged range v part (Some old) ≡ Ok new → IsPutInto range v part old new
  of_part is = of_room (has_elements range (list_len old)) refl is

-- ---- and what is read of it

room_of : (range : IndexRange) (len : Option ℕ) → has_elements range len ≡ true → HasRoom range.first (Some range.count) len
room_of range None has = absurd cc
room_of range (Some len) has = leb-true _ _ has

written_part : (range : IndexRange) (v : VariableAttributes) (part old new : Variant) → 0 < range.count → type_number old ≡ v.data_type → IsPutInto range v part old new
    → part_of range.first range.count new ≡ flattened part
written_part range v part old new some type put =
    ap (part_of range.first range.count) put.is
    ∙ part_again range.first range.count (flattened part) old some (type_flattened part ∙ put.type ∙ sym type) (len_flattened part range.count put.len) (room_of range (list_len old) put.room)

-- a list goes on at an element
abbrev Begins : ℕ → Option ℕ → Type 0
Begins first None = ⊥
Begins first (Some len) = first < len

module _ {A : Type 0} where
  begins_in : (content : Content A) (first count len : ℕ) → list_len_in (part_in first count content) ≡ Some len → 0 < len → Begins first (list_len_in content)
  begins_in (Scalar x) first count len is some = absurd cc
  begins_in (Array None) first count len is some = let none : 0 ≡ len = cc in absurd (omega arith)
  begins_in (Array (Some xs)) first count len is some =
      let many : length (take count (drop first xs)) ≡ len = cc in
      omega (arith, many, length-take count (drop first xs), length-drop first xs)
  begins_in (Matrix m) first count len is some = absurd cc

begins : (value : Variant) (first count len : ℕ) → list_len (part_of first count value) ≡ Some len → 0 < len → Begins first (list_len value)
begins variants.Null first count len is some = absurd cc
begins (variants.Boolean content) first count len is some = begins_in content first count len is some
begins (variants.SByte content) first count len is some = begins_in content first count len is some
begins (variants.Byte content) first count len is some = begins_in content first count len is some
begins (variants.Int16 content) first count len is some = begins_in content first count len is some
begins (variants.UInt16 content) first count len is some = begins_in content first count len is some
begins (variants.Int32 content) first count len is some = begins_in content first count len is some
begins (variants.UInt32 content) first count len is some = begins_in content first count len is some
begins (variants.Int64 content) first count len is some = begins_in content first count len is some
begins (variants.UInt64 content) first count len is some = begins_in content first count len is some
begins (variants.Float content) first count len is some = begins_in content first count len is some
begins (variants.Double content) first count len is some = begins_in content first count len is some
begins (variants.String content) first count len is some = begins_in content first count len is some
begins (variants.DateTime content) first count len is some = begins_in content first count len is some
begins (variants.Guid content) first count len is some = begins_in content first count len is some
begins (variants.ByteString content) first count len is some = begins_in content first count len is some
begins (variants.XmlElement content) first count len is some = begins_in content first count len is some
begins (variants.NodeId content) first count len is some = begins_in content first count len is some
begins (variants.ExpandedNodeId content) first count len is some = begins_in content first count len is some
begins (variants.StatusCode content) first count len is some = begins_in content first count len is some
begins (variants.QualifiedName content) first count len is some = begins_in content first count len is some
begins (variants.LocalizedText content) first count len is some = begins_in content first count len is some
begins (variants.ExtensionObject content) first count len is some = begins_in content first count len is some

-- ---- what is read then

module _ (now clock : Moment) (timestamps : Timestamps) (w : WriteValue) (range : IndexRange) (part new : Variant)
    (piece : part_of range.first range.count new ≡ flattened part) (goes_on : Begins range.first (list_len new)) where
  within : (v : VariableAttributes) (len : Option ℕ) → Begins range.first len → part_within range v len ≡ Ok (ValueOf (with_part_alone range v))
  within v None lt = absurd lt
  within v (Some len) lt = rw (lt-ltb _ _ lt) refl

  of_variable : (v : VariableAttributes) → is_readable (ValueOf v) ≡ true
      → answered now timestamps (told_in (Ok (Some range)) (Some (ValueOf (record v { value = holding_of clock w new })))) ≡ dated now timestamps (ValueOf (record v { value = holding_of clock w (flattened part) }))
  of_variable v may =
      let found : part_within range (record v { value = holding_of clock w new }) (list_len new) ≡ Ok (ValueOf (with_part_alone range (record v { value = holding_of clock w new }))) =
      within (record v { value = holding_of clock w new }) (list_len new) goes_on in
      rw (may, found) (ap (λ (p : Variant). dated now timestamps (ValueOf (record v { value = holding_of clock w p }))) piece)

  of_details : (v : VariableAttributes) → is_readable (ValueOf v) ≡ true → (d : NodeDetails) → variable_in d ≡ Some v
      → answered now timestamps (told_in (Ok (Some range)) (own_attribute (holding (holding_of clock w new) d) ids.Value)) ≡ dated now timestamps (ValueOf (record v { value = holding_of clock w (flattened part) }))
  of_details v may (details.Variable a) is =
      let same : a ≡ v = cc in
      let P : VariableAttributes → Type 0 = λ x. answered now timestamps (told_in (Ok (Some range)) (Some (ValueOf (record x { value = holding_of clock w new })))) ≡ dated now timestamps (ValueOf (record v { value = holding_of clock w (flattened part) })) in
      subst P (sym same) (of_variable v may)
  of_details v may details.Object is = absurd cc
  of_details v may (details.ObjectType a) is = absurd cc
  of_details v may (details.VariableType t r a) is = absurd cc
  of_details v may (details.ReferenceType a s i) is = absurd cc
  of_details v may (details.DataType a) is = absurd cc

  of_found : (v : VariableAttributes) → is_readable (ValueOf v) ≡ true → (found : Option Node) → variable_of found ≡ Some v → asked_range w.index_range ≡ Ok (Some range)
      → answered now timestamps (told_of 13 w.index_range (option_map (revalued (Some (holding_of clock w new))) found)) ≡ dated now timestamps (ValueOf (record v { value = holding_of clock w (flattened part) }))
  unfolding attribute_numbered
  of_found v may None is asked = absurd cc
  of_found v may (Some node) is asked = rw asked (of_details v may node.details is)

-- ---- what was judged

module _ (w : WriteValue) (range : IndexRange) (part new : Variant) (asked : asked_range w.index_range ≡ Ok (Some range)) (written : w.value.value ≡ Some part) where
  where_writable : (v : VariableAttributes) (b : Bool) → cond (not b) (Err status.BAD_NOT_WRITABLE) (part_judged range v part v.value.value) ≡ Ok new
      → part_judged range v part v.value.value ≡ Ok new
  where_writable v true is = is
  where_writable v false is = absurd cc

  of_judged_variable : (v : VariableAttributes) → range_judged v w.value.value (asked_range w.index_range) ≡ Ok new → part_judged range v part v.value.value ≡ Ok new
  of_judged_variable v is = where_writable v (is_writable v) (rw (asked, written) at is)

  of_judged_details : (v : VariableAttributes) (d : NodeDetails) → variable_in d ≡ Some v → attribute_judged w (own_attribute d ids.Value) ≡ Ok new → part_judged range v part v.value.value ≡ Ok new
  of_judged_details v (details.Variable a) at is =
      let same : a ≡ v = cc in
      let P : VariableAttributes → Type 0 = λ x. part_judged range x part x.value.value ≡ Ok new in
      subst P same (of_judged_variable a is)
  of_judged_details v details.Object at is = absurd cc
  of_judged_details v (details.ObjectType a) at is = absurd cc
  of_judged_details v (details.VariableType t r a) at is = absurd cc
  of_judged_details v (details.ReferenceType a s i) at is = absurd cc
  of_judged_details v (details.DataType a) at is = absurd cc

  of_judged : (v : VariableAttributes) (found : Option Node) → variable_of found ≡ Some v → w.attribute_id ≡ 13 → node_judged w found ≡ Ok new → part_judged range v part v.value.value ≡ Ok new
  unfolding attribute_numbered
  of_judged v None at value is = absurd cc
  of_judged v (Some node) at value is =
      of_judged_details v node.details at (sym (ap (λ (n : ℕ). attribute_judged w (attribute_by node (attribute_numbered n))) value) ∙ is)

of_old : (range : IndexRange) (v : VariableAttributes) (part new : Variant) (old : Option Variant) → 0 < range.count → takes_if_any v old ≡ true → part_judged range v part old ≡ Ok new
    → (part_of range.first range.count new ≡ flattened part) × (flat_len part ≡ Some range.count)
of_old range v part new None some takes is = absurd cc
of_old range v part new (Some old) some takes is =
    let put = of_part range v part old new is in
    let type = eqb-true (type_number old) v.data_type (and_parts (eqb (type_number old) v.data_type) (has_rank v.value_rank old) takes).0 in
    (written_part range v part old new some type put, put.len)

pub reads_the_part_that_was_written : ReadsThePartThatWasWritten
unfolding judged told
reads_the_part_that_was_written clock now timestamps nodes w v range part new at typed may value asked written is =
    let some : 0 < range.count = some_asked w.index_range range asked in
    let both = of_old range v part new v.value.value some typed.value (of_judged w range part new asked written v (node_at w.node_id nodes) at value is) in
    let many : list_len (part_of range.first range.count new) ≡ Some range.count = ap list_len both.0 ∙ len_flattened part range.count both.1 in
    let goes_on = begins new range.first range.count range.count many some in
    let after : node_at w.node_id (write_of clock nodes (w ∷ [])).nodes ≡ option_map (revalued (Some (holding_of clock w new))) (node_at w.node_id nodes) =
    ap (λ (verdict : Result Variant Status). node_at w.node_id (nodes_after clock w verdict nodes)) is ∙ held_at nodes w.node_id (holding_of clock w new) in
    ap (λ (found : Option Node). answered now timestamps (told_of 13 w.index_range found)) after
    ∙ of_found now clock timestamps w range part new both.0 goes_on v may (node_at w.node_id nodes) at asked
