-- What comes to a subscription.
use Rattle.std.specs.Prelude.{Bool, false}
use Rattle.ua_state_table.specs.declared.event.TableEvent.{TableEvent}
use Rattle.ua_state_table.specs.declared.event.TableEvent.TheVariants as event
use Rattle.ua_subscriptions.specs.declared.call.Call.{Call}
use Rattle.ua_subscriptions.specs.declared.call.Call.TheVariants.{Create, Publish, Timer, Modify, SetMode, Republish, Delete, Items, SessionEnd, Shutdown}
use Rattle.ua_subscriptions.specs.declared.settings.Settings.{Settings}
use Rattle.ua_subscriptions.specs.Settings.{no_settings}

abbrev pub event_of : Call → TableEvent
event_of (Create full settings enabled) = event.Create full
event_of Publish = event.Publish
event_of Timer = event.Timer
event_of (Modify settings) = event.Modify
event_of (SetMode enabled) = event.SetMode
event_of (Republish kept) = event.Republish kept
event_of Delete = event.Delete
event_of (Items before) = event.Items
event_of (SessionEnd deleting) = event.SessionEnd deleting
event_of Shutdown = event.Shutdown

-- the settings that are asked for
abbrev pub settings_of : Call → Settings
settings_of (Create full settings enabled) = settings
settings_of (Modify settings) = settings
settings_of call = no_settings

-- whether notifications are asked for
abbrev pub asks_enabled : Call → Bool
asks_enabled (Create full settings enabled) = enabled
asks_enabled (SetMode enabled) = enabled
asks_enabled call = false
