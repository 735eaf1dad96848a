-- The services Browse and BrowseNext (IEC 62541-4, section 5, View Service Set).
use Rattle.std.specs.Prelude.{ℕ, List, ◌++◌}
use Rattle.std.specs.Int.{w32}
use Rattle.ua_service_messages.specs.declared.browsing.BrowseDirection.{BrowseDirection}
use Rattle.ua_service_messages.specs.declared.browsing.BrowseDescription.{BrowseDescription}
use Rattle.ua_service_messages.specs.declared.browsing.BrowseRequest.{BrowseRequest}
use Rattle.ua_service_messages.specs.declared.browsing.ReferenceDescription.{ReferenceDescription}
use Rattle.ua_service_messages.specs.declared.browsing.BrowseResult.{BrowseResult}
use Rattle.ua_service_messages.specs.declared.browsing.BrowseNextRequest.{BrowseNextRequest}
use Rattle.ua_binary.specs.Reading.{Reading, ◌>>=◌, done}
use Rattle.ua_binary.specs.Enumerations.{enumeration_reading, enumeration_encoding}
use Rattle.ua_binary.specs.Numbers.{boolean_reading, boolean_encoding, number_reading, number_encoding, signed_reading, signed_encoding}
use Rattle.ua_binary.specs.Scalars.{moment_reading, moment_encoding, status_reading, status_encoding}
use Rattle.ua_binary.specs.Texts.{byte_string_reading, byte_string_encoding}
use Rattle.ua_binary.specs.Arrays.{array_reading, array_encoding}
use Rattle.ua_binary.specs.NodeIds.{node_id_reading, node_id_encoding}
use Rattle.ua_binary.specs.ExpandedNodeIds.{expanded_node_id_reading, expanded_node_id_encoding}
use Rattle.ua_binary.specs.QualifiedNames.{qualified_name_reading, qualified_name_encoding}
use Rattle.ua_binary.specs.LocalizedTexts.{localized_text_reading, localized_text_encoding}

abbrev pub browse_direction_reading : Reading BrowseDirection
browse_direction_reading = enumeration_reading (λ n. record { 0 = n })

abbrev pub browse_direction_encoding : BrowseDirection → List ℕ
browse_direction_encoding = enumeration_encoding (λ v. v.0)

unfoldable pub browse_description_reading : Reading BrowseDescription
browse_description_reading = do
  node_id ← node_id_reading
  browse_direction ← browse_direction_reading
  reference_type_id ← node_id_reading
  include_subtypes ← boolean_reading
  node_class_mask ← number_reading w32
  result_mask ← number_reading w32
  done (record {
    node_id = node_id;
    browse_direction = browse_direction;
    reference_type_id = reference_type_id;
    include_subtypes = include_subtypes;
    node_class_mask = node_class_mask;
    result_mask = result_mask;
  })

unfoldable pub browse_description_encoding : BrowseDescription → List ℕ
browse_description_encoding v =
    node_id_encoding v.node_id
    ++ browse_direction_encoding v.browse_direction
    ++ node_id_encoding v.reference_type_id
    ++ boolean_encoding v.include_subtypes
    ++ number_encoding w32 v.node_class_mask
    ++ number_encoding w32 v.result_mask

unfoldable pub browse_request_reading : Reading BrowseRequest
browse_request_reading = do
  view_id ← node_id_reading
  view_timestamp ← moment_reading
  view_version ← number_reading w32
  requested_max_references_per_node ← number_reading w32
  nodes_to_browse ← array_reading browse_description_reading
  done (record {
    view_id = view_id;
    view_timestamp = view_timestamp;
    view_version = view_version;
    requested_max_references_per_node = requested_max_references_per_node;
    nodes_to_browse = nodes_to_browse;
  })

unfoldable pub browse_request_encoding : BrowseRequest → List ℕ
browse_request_encoding v =
    node_id_encoding v.view_id
    ++ moment_encoding v.view_timestamp
    ++ number_encoding w32 v.view_version
    ++ number_encoding w32 v.requested_max_references_per_node
    ++ array_encoding browse_description_encoding v.nodes_to_browse

unfoldable pub reference_description_reading : Reading ReferenceDescription
reference_description_reading = do
  reference_type_id ← node_id_reading
  is_forward ← boolean_reading
  node_id ← expanded_node_id_reading
  browse_name ← qualified_name_reading
  display_name ← localized_text_reading
  node_class ← signed_reading w32
  type_definition ← expanded_node_id_reading
  done (record {
    reference_type_id = reference_type_id;
    is_forward = is_forward;
    node_id = node_id;
    browse_name = browse_name;
    display_name = display_name;
    node_class = node_class;
    type_definition = type_definition;
  })

unfoldable pub reference_description_encoding : ReferenceDescription → List ℕ
reference_description_encoding v =
    node_id_encoding v.reference_type_id
    ++ boolean_encoding v.is_forward
    ++ expanded_node_id_encoding v.node_id
    ++ qualified_name_encoding v.browse_name
    ++ localized_text_encoding v.display_name
    ++ signed_encoding w32 v.node_class
    ++ expanded_node_id_encoding v.type_definition

unfoldable pub browse_result_reading : Reading BrowseResult
browse_result_reading = do
  status_code ← status_reading
  continuation_point ← byte_string_reading
  references ← array_reading reference_description_reading
  done (record {
    status_code = status_code;
    continuation_point = continuation_point;
    references = references;
  })

unfoldable pub browse_result_encoding : BrowseResult → List ℕ
browse_result_encoding v =
    status_encoding v.status_code
    ++ byte_string_encoding v.continuation_point
    ++ array_encoding reference_description_encoding v.references

unfoldable pub browse_next_request_reading : Reading BrowseNextRequest
browse_next_request_reading = do
  release_continuation_points ← boolean_reading
  continuation_points ← array_reading byte_string_reading
  done (record {
    release_continuation_points = release_continuation_points;
    continuation_points = continuation_points;
  })

unfoldable pub browse_next_request_encoding : BrowseNextRequest → List ℕ
browse_next_request_encoding v =
    boolean_encoding v.release_continuation_points
    ++ array_encoding byte_string_encoding v.continuation_points
