-- The service SetTriggering.
use Rattle.std.specs.Prelude.{ℕ, ◌+◌, false, List, length, Some, Result, Ok, Err}
use Rattle.ua_types.specs.declared.status.Status.{Status}
use Rattle.ua_views.specs.Views.{or_none}
use Rattle.ua_messages.specs.Bodies.{body_encoding}
use Rattle.ua_messages.specs.Headers.{plain_header}
use Rattle.ua_messages.specs.declared.type_ids.TheConstants.{SET_TRIGGERING_RESPONSE}
use Rattle.server_messages.specs.declared.setting.Setting.{Setting}
use Rattle.ua_monitored_items.specs.Links.{Linkage, link}
use Rattle.ua_subscription_messages.specs.Triggering.{set_triggering_response_encoding}
use Rattle.ua_subscription_messages.specs.declared.triggering.SetTriggeringRequest.{SetTriggeringRequest}
use Rattle.ua_services.specs.ItemServing.{Itemed, items_refused, items_called}
use Rattle.ua_services.specs.Operations.{count_judged}
use Rattle.ua_services.specs.ServicesState.{Services}
use Rattle.ua_services.specs.Serving.{Serving}
use Rattle.ua_services.specs.declared.caller.Caller.{Caller}

-- what became of each link, in the order of the request
abbrev pub links_body : Setting → Caller → List Status → List Status → List ℕ
links_body setting caller added removed =
    body_encoding set_triggering_response_encoding SET_TRIGGERING_RESPONSE (record {
      response_header = plain_header caller.origin.handle (record { 0 = 0 }) setting.clock;
      add_results = Some added;
      add_diagnostic_infos = record {};
      remove_results = Some removed;
      remove_diagnostic_infos = record {};
    })

abbrev pub linked_by : Setting → Caller → Services → Result Linkage Status → Itemed
linked_by setting caller state (Ok done) = record { items = done.state; body = links_body setting caller done.added done.removed; is_refused = false }
linked_by setting caller state (Err code) = items_refused setting caller state code

abbrev pub linked_counted : Setting → Caller → SetTriggeringRequest → Services → Result (Unit {0}) Status → Itemed
linked_counted setting caller request state (Ok good) =
    linked_by setting caller state (link state.items request.subscription_id request.triggering_item_id (or_none request.links_to_add) (or_none request.links_to_remove))
linked_counted setting caller request state (Err code) = items_refused setting caller state code

-- so many links are asked for, in both lists together
abbrev pub links_asked : SetTriggeringRequest → ℕ
links_asked request = length (or_none request.links_to_add) + length (or_none request.links_to_remove)

-- how many are asked for is judged first, then the triggering item; then links are taken away, and others are added
unfoldable pub items_linked : Setting → Caller → SetTriggeringRequest → Services → Itemed
items_linked setting caller request state = linked_counted setting caller request state (count_judged setting.config (links_asked request))

abbrev pub set_triggering_meaning : Setting → Caller → ℕ → SetTriggeringRequest → Services → Serving
set_triggering_meaning setting caller session request state =
    items_called setting caller session request.subscription_id state (items_linked setting caller request state)
