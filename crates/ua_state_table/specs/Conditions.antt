-- When a condition of the table holds.
use Rattle.std.specs.Prelude.{◌==◌, ◌&&◌, ◌||◌, Bool, not, nat_lt}
use Rattle.ua_state_table.specs.declared.vars.Vars.{Vars}
use Rattle.ua_state_table.specs.declared.event.TableEvent.{TableEvent}
use Rattle.ua_state_table.specs.declared.condition.Condition.{Condition}
use Rattle.ua_state_table.specs.declared.condition.Condition.TheVariants.{Full, Room, EnabledMore, NotEnabledMore, EnabledAvailable, NotEnabledAvailable, Queued, NotQueued, Sent, NotSent, NotSentOrEnabledAvailable, KeepOne, KeepAboveOne, KeepOneOrEnabledAvailable, LifeOne, LifeAboveOne, Kept, NotKept, Deleting, Keeping}
use Rattle.ua_state_table.specs.Events.{is_full, is_kept, is_deleting}

abbrev pub holds : Vars → TableEvent → Condition → Bool
holds v e Full = is_full e
holds v e Room = not (is_full e)
holds v e EnabledMore = v.enabled && v.more
holds v e NotEnabledMore = not (v.enabled && v.more)
holds v e EnabledAvailable = v.enabled && v.available
holds v e NotEnabledAvailable = not (v.enabled && v.available)
holds v e Queued = v.queued
holds v e NotQueued = not v.queued
holds v e Sent = v.sent
holds v e NotSent = not v.sent
holds v e NotSentOrEnabledAvailable = not v.sent || v.enabled && v.available
holds v e KeepOne = v.keep_alive == 1
holds v e KeepAboveOne = nat_lt 1 v.keep_alive
holds v e KeepOneOrEnabledAvailable = v.keep_alive == 1 || v.enabled && v.available
holds v e LifeOne = v.lifetime == 1
holds v e LifeAboveOne = nat_lt 1 v.lifetime
holds v e Kept = is_kept e
holds v e NotKept = not (is_kept e)
holds v e Deleting = is_deleting e
holds v e Keeping = not (is_deleting e)
