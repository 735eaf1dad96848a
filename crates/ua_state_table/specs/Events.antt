-- What happens to a subscription, and to which ones.
use Rattle.std.specs.Prelude.{Bool, true, false, not}
use Rattle.ua_state_table.specs.declared.state.State.{State}
use Rattle.ua_state_table.specs.declared.state.State.TheVariants.{Closed, Normal, Late, KeepAlive}
use Rattle.ua_state_table.specs.declared.event.TableEvent.{TableEvent}
use Rattle.ua_state_table.specs.declared.event.TableEvent.TheVariants.{Create, Publish, Timer, Modify, SetMode, Republish, Delete, Items, SessionEnd, Shutdown}
use Rattle.ua_state_table.specs.declared.event.EventKind.{EventKind}
use Rattle.ua_state_table.specs.declared.event.EventKind.TheVariants as kind

abbrev pub kind_of : TableEvent → EventKind
kind_of (Create full) = kind.Create
kind_of Publish = kind.Publish
kind_of Timer = kind.Timer
kind_of Modify = kind.Modify
kind_of SetMode = kind.SetMode
kind_of (Republish kept) = kind.Republish
kind_of Delete = kind.Delete
kind_of Items = kind.Items
kind_of (SessionEnd deleting) = kind.SessionEnd
kind_of Shutdown = kind.Shutdown

abbrev pub is_full : TableEvent → Bool
is_full (Create full) = full
is_full _ = false

abbrev pub is_kept : TableEvent → Bool
is_kept (Republish kept) = kept
is_kept _ = false

abbrev pub is_deleting : TableEvent → Bool
is_deleting (SessionEnd deleting) = deleting
is_deleting _ = false

abbrev pub is_kind : EventKind → TableEvent → Bool
is_kind kind.Create (Create full) = true
is_kind kind.Publish Publish = true
is_kind kind.Timer Timer = true
is_kind kind.Modify Modify = true
is_kind kind.SetMode SetMode = true
is_kind kind.Republish (Republish kept) = true
is_kind kind.Delete Delete = true
is_kind kind.Items Items = true
is_kind kind.SessionEnd (SessionEnd deleting) = true
is_kind kind.Shutdown Shutdown = true
is_kind _ _ = false

abbrev pub same_state : State → State → Bool
same_state Closed Closed = true
same_state Normal Normal = true
same_state Late Late = true
same_state KeepAlive KeepAlive = true
same_state _ _ = false

abbrev pub is_closed : State → Bool
is_closed Closed = true
is_closed _ = false

-- a closed subscription can be created; to a live one happens anything else
abbrev pub fits : State → TableEvent → Bool
fits s (Create full) = is_closed s
fits s _ = not (is_closed s)
