-- The first word of a line.
use Rattle.std.specs.Prelude.{ℕ, List, codes, Result, Ok, Err, if◌then◌else◌}
use Rattle.std.specs.Str.{bytes_eq}
use Rattle.scenario_text.specs.declared.fault.Cause.{Cause}
use Rattle.scenario_text.specs.declared.fault.Cause.TheVariants.{Word}
use Rattle.scenario_text.specs.declared.verbs.RequestVerb.{RequestVerb}
use Rattle.scenario_text.specs.declared.verbs.RequestVerb.TheVariants as requests
use Rattle.scenario_text.specs.declared.verbs.Verb.{Verb}
use Rattle.scenario_text.specs.declared.verbs.Verb.TheVariants as verbs

-- what a session asks of monitored items
unfoldable pub item_verb_of : List ℕ → Result RequestVerb Cause
item_verb_of t =
    if bytes_eq t (codes "item") then Ok requests.CreateItem else
    if bytes_eq t (codes "moditem") then Ok requests.ModifyItem else
    if bytes_eq t (codes "itemmode") then Ok requests.SetItemMode else
    if bytes_eq t (codes "trigger") then Ok requests.SetTriggering else
    if bytes_eq t (codes "delitem") then Ok requests.DeleteItems else
    Err Word

-- what a session asks of subscriptions and their items
unfoldable pub subscription_verb_of : List ℕ → Result RequestVerb Cause
subscription_verb_of t =
    if bytes_eq t (codes "sub") then Ok requests.CreateSubscription else
    if bytes_eq t (codes "modsub") then Ok requests.ModifySubscription else
    if bytes_eq t (codes "mode") then Ok requests.SetPublishing else
    if bytes_eq t (codes "delsub") then Ok requests.DeleteSubscriptions else
    if bytes_eq t (codes "publish") then Ok requests.Publish else
    if bytes_eq t (codes "republish") then Ok requests.Republish else
    item_verb_of t

-- what a session asks
unfoldable pub request_verb_of : List ℕ → Result RequestVerb Cause
request_verb_of t =
    if bytes_eq t (codes "activate") then Ok requests.ActivateSession else
    if bytes_eq t (codes "close") then Ok requests.CloseSession else
    if bytes_eq t (codes "read") then Ok requests.Read else
    if bytes_eq t (codes "write") then Ok requests.Write else
    if bytes_eq t (codes "browse") then Ok requests.Browse else
    if bytes_eq t (codes "next") then Ok requests.BrowseNext else
    if bytes_eq t (codes "release") then Ok requests.ReleasePoints else
    if bytes_eq t (codes "history") then Ok requests.ReadHistory else
    subscription_verb_of t

abbrev pub asking : Result RequestVerb Cause → Result Verb Cause
asking (Ok verb) = Ok (verbs.Ask verb)
asking (Err e) = Err e

-- what a line does that tells of bytes and chunks, or asks without a session or as one
unfoldable pub sent_verb_of : List ℕ → Result Verb Cause
sent_verb_of t =
    if bytes_eq t (codes "raw") then Ok verbs.Raw else
    if bytes_eq t (codes "cut") then Ok verbs.Cut else
    if bytes_eq t (codes "chunk") then Ok verbs.Chunk else
    if bytes_eq t (codes "abort") then Ok verbs.Abort else
    if bytes_eq t (codes "range") then Ok verbs.Range else
    if bytes_eq t (codes "endpoints") then Ok verbs.GetEndpoints else
    if bytes_eq t (codes "session") then Ok verbs.CreateSession else
    asking (request_verb_of t)

-- what a line does
unfoldable pub verb_of : List ℕ → Result Verb Cause
verb_of t =
    if bytes_eq t (codes "open") then Ok verbs.Open else
    if bytes_eq t (codes "hel") then Ok verbs.Hello else
    if bytes_eq t (codes "opn") then Ok verbs.OpenChannel else
    if bytes_eq t (codes "clo") then Ok verbs.CloseChannel else
    if bytes_eq t (codes "gone") then Ok verbs.Gone else
    if bytes_eq t (codes "tick") then Ok verbs.Tick else
    if bytes_eq t (codes "shutdown") then Ok verbs.Shutdown else
    sent_verb_of t
