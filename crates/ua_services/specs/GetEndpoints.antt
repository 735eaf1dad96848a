-- The service GetEndpoints.
use Rattle.ua_types.specs.declared.node_id.NodeId.{NodeId}
use Rattle.ua_messages.specs.Bodies.{body_encoding}
use Rattle.ua_messages.specs.GetEndpoints.{get_endpoints_response_encoding}
use Rattle.ua_messages.specs.declared.get_endpoints.GetEndpointsRequest.{GetEndpointsRequest}
use Rattle.ua_messages.specs.declared.type_ids.TheConstants.{GET_ENDPOINTS_RESPONSE}
use Rattle.server_messages.specs.declared.setting.Setting.{Setting}
use Rattle.ua_services.specs.EndpointList.{endpoints_response}
use Rattle.ua_services.specs.ServicesState.{Services}
use Rattle.ua_services.specs.Serving.{Serving, answered_at_once}
use Rattle.ua_services.specs.declared.caller.Caller.{Caller}

abbrev pub get_endpoints_meaning : Setting → Caller → NodeId → GetEndpointsRequest → Services → Serving
get_endpoints_meaning setting caller token request state =
    answered_at_once state caller (body_encoding get_endpoints_response_encoding GET_ENDPOINTS_RESPONSE
    (endpoints_response setting.config setting.clock caller.origin.handle request.profile_uris))
