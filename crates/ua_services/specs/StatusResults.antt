-- Responses that have one status for each thing that their request names.
use Rattle.std.specs.Prelude.{ℕ, List}
use Rattle.ua_types.specs.declared.status.Status.{Status}
use Rattle.ua_binary.specs.Scalars.{status_encoding}
use Rattle.ua_messages.specs.Bodies.{body_encoding}
use Rattle.ua_messages.specs.Headers.{plain_header}
use Rattle.ua_messages.specs.ResultLists.{results_encoding, results_of}
use Rattle.server_messages.specs.declared.setting.Setting.{Setting}
use Rattle.ua_services.specs.declared.caller.Caller.{Caller}

-- what became of each, in the order of the request
abbrev pub statuses_body : ℕ → Setting → Caller → List Status → List ℕ
statuses_body type_id setting caller statuses =
    body_encoding (results_encoding status_encoding) type_id (results_of (plain_header caller.origin.handle (record { 0 = 0 }) setting.clock) statuses)
