-- Words of which one of two has to stand in its place.
use Rattle.std.specs.Prelude.{ℕ, List, codes, Result, Ok, Err, if◌then◌else◌}
use Rattle.std.specs.Str.{bytes_eq}
use Rattle.scenario_text.specs.Readings.{Reading, ◌>>=◌, judged}
use Rattle.scenario_text.specs.Words.{word}
use Rattle.scenario_text.specs.declared.choices.ChannelRequest.{ChannelRequest}
use Rattle.scenario_text.specs.declared.choices.ChannelRequest.TheVariants.{Issue, Renew}
use Rattle.scenario_text.specs.declared.choices.Discard.{Discard}
use Rattle.scenario_text.specs.declared.choices.Discard.TheVariants.{Oldest, Newest}
use Rattle.scenario_text.specs.declared.choices.Publishing.{Publishing}
use Rattle.scenario_text.specs.declared.choices.Publishing.TheVariants.{On, Off}
use Rattle.scenario_text.specs.declared.choices.Subscriptions.{Subscriptions}
use Rattle.scenario_text.specs.declared.choices.Subscriptions.TheVariants.{Delete, Keep}
use Rattle.scenario_text.specs.declared.fault.Cause.{Cause}
use Rattle.scenario_text.specs.declared.fault.Cause.TheVariants.{Word}

-- the first or the second, by its word
abbrev pub one_of : {A : Type 0} → List ℕ → A → List ℕ → A → List ℕ → Result A Cause
one_of first x second y t = if bytes_eq t first then Ok x else if bytes_eq t second then Ok y else Err Word

unfoldable pub channel_request_reading : Reading ChannelRequest
channel_request_reading = do
  t ← word
  judged (one_of (codes "issue") Issue (codes "renew") Renew t)

unfoldable pub subscriptions_reading : Reading Subscriptions
subscriptions_reading = do
  t ← word
  judged (one_of (codes "delete") Delete (codes "keep") Keep t)

unfoldable pub discard_reading : Reading Discard
discard_reading = do
  t ← word
  judged (one_of (codes "oldest") Oldest (codes "newest") Newest t)

unfoldable pub publishing_reading : Reading Publishing
publishing_reading = do
  t ← word
  judged (one_of (codes "on") On (codes "off") Off t)
