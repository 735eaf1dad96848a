use Rattle.std.proofs.Common.{◌≡◌}
use Rattle.std.specs.List.{list_any}
use Rattle.ua_views.specs.Views.{or_none}
use Rattle.ua_services.specs.EndpointList.{is_transport}
use Rattle.ua_services.proofs.endpoint_list.names_transport.Given as goal

-- those that are left decide
abbrev pub invariant-loop-uri : goal.invariant-loop-uri
invariant-loop-uri l = list_any is_transport (or_none l.uri-iterator) ≡ list_any is_transport (or_none l.fn.uris)
