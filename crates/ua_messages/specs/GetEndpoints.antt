-- The service GetEndpoints (IEC 62541-4, section 5, Discovery Service Set).
use Rattle.std.specs.Prelude.{ℕ, List, ◌++◌}
use Rattle.ua_messages.specs.declared.get_endpoints.GetEndpointsRequest.{GetEndpointsRequest}
use Rattle.ua_messages.specs.declared.get_endpoints.GetEndpointsResponse.{GetEndpointsResponse}
use Rattle.ua_binary.specs.Reading.{Reading, ◌>>=◌, done}
use Rattle.ua_binary.specs.Texts.{text_reading, text_encoding}
use Rattle.ua_binary.specs.Arrays.{array_reading, array_encoding}
use Rattle.ua_messages.specs.Descriptions.{endpoint_description_reading, endpoint_description_encoding}
use Rattle.ua_messages.specs.Headers.{response_header_reading, response_header_encoding}

unfoldable pub get_endpoints_request_reading : Reading GetEndpointsRequest
get_endpoints_request_reading = do
  endpoint_url ← text_reading
  locale_ids ← array_reading text_reading
  profile_uris ← array_reading text_reading
  done (record {
    endpoint_url = endpoint_url;
    locale_ids = locale_ids;
    profile_uris = profile_uris;
  })

unfoldable pub get_endpoints_request_encoding : GetEndpointsRequest → List ℕ
get_endpoints_request_encoding v =
    text_encoding v.endpoint_url
    ++ array_encoding text_encoding v.locale_ids
    ++ array_encoding text_encoding v.profile_uris

unfoldable pub get_endpoints_response_reading : Reading GetEndpointsResponse
get_endpoints_response_reading = do
  response_header ← response_header_reading
  endpoints ← array_reading endpoint_description_reading
  done (record { response_header = response_header; endpoints = endpoints })

unfoldable pub get_endpoints_response_encoding : GetEndpointsResponse → List ℕ
get_endpoints_response_encoding v =
    response_header_encoding v.response_header
    ++ array_encoding endpoint_description_encoding v.endpoints
