-- What the rows do to a subscription, as far as the table sees it.
use Rattle.std.specs.Prelude.{◌&&◌, ◌||◌, ◌+◌, ◌-◌, ℕ, min, Bool, true, false, fold, if◌then◌else◌}
use Rattle.std.specs.List.{list_any}
use Rattle.ua_state_table.specs.declared.vars.Vars.{Vars}
use Rattle.ua_state_table.specs.declared.event.TableEvent.TheVariants.{Timer}
use Rattle.ua_state_table.specs.declared.action.Action.{Action}
use Rattle.ua_state_table.specs.declared.action.Action.TheVariants.{RefuseTooMany, Initialise, StartTimer, Answer, DeleteAcknowledged, Enqueue, Dequeue, ResetLife, ResetKeep, CountKeep, SendNotifications, SendKeepAlive, SetSent, DeleteItems, NoteTimeout, Update, LimitKeep, SetEnabled, ClearMore, AnswerKept, RefuseNotKept, CallItems, LimitMore, LeaveSession}
use Rattle.ua_state_table.specs.declared.row.RowId.{RowId}
use Rattle.ua_state_table.specs.Events.{is_kind}
use Rattle.ua_state_table.specs.StateTable.{printed, actions_of, next_of}

-- a subscription: its variables and its revised counts; and beside them two counts that no code keeps, of the timers
-- started since L was last set, and of those that found a request since a message was sent, or one of them found
-- none, or the counts were set
pub record Standing : Type 0 where
  pub vars : Vars
  pub keep_alive_count : ℕ
  pub lifetime_count : ℕ
  pub started : ℕ
  pub answerable : ℕ

-- what the table can't tell of a row: what the items and the queue hold once it is done, and what its client asks
pub record Circumstances : Type 0 where
  -- A, once values were sent or the client's call was done
  pub available : Bool
  -- M, once notifications were sent
  pub left_over : Bool
  -- Q, once requests were taken out of the queue
  pub queued : Bool
  -- E, as asked
  pub enabled : Bool
  -- the counts, as asked and revised
  pub keep_alive_count : ℕ
  pub lifetime_count : ℕ

abbrev pub with_vars : Standing → Vars → Standing
with_vars s v = record s { vars = v }

abbrev pub done : Circumstances → Standing → Action → Standing
done c s Initialise = let v : Vars = s.vars in record s { vars = record v { enabled = c.enabled; more = false; sent = false; keep_alive = c.keep_alive_count; lifetime = c.lifetime_count }; keep_alive_count = c.keep_alive_count; lifetime_count = c.lifetime_count; started = 0 }
done c s StartTimer = let v : Vars = s.vars in record s { vars = record v { lifetime = v.lifetime - 1 }; started = s.started + 1 }
done c s Enqueue = let v : Vars = s.vars in with_vars s (record v { queued = true })
done c s Dequeue = let v : Vars = s.vars in with_vars s (record v { queued = v.queued && c.queued })
done c s ResetLife = let v : Vars = s.vars in record s { vars = record v { lifetime = s.lifetime_count }; started = 0 }
done c s ResetKeep = let v : Vars = s.vars in with_vars s (record v { keep_alive = s.keep_alive_count })
done c s CountKeep = let v : Vars = s.vars in with_vars s (record v { keep_alive = v.keep_alive - 1 })
done c s SendNotifications = let v : Vars = s.vars in with_vars s (record v { available = c.available; more = c.left_over; queued = v.queued && c.queued })
done c s SetSent = let v : Vars = s.vars in with_vars s (record v { sent = true })
done c s DeleteItems = let v : Vars = s.vars in with_vars s (record v { available = false })
done c s Update = record s { keep_alive_count = c.keep_alive_count; lifetime_count = c.lifetime_count }
done c s LimitKeep = let v : Vars = s.vars in with_vars s (record v { keep_alive = min v.keep_alive s.keep_alive_count })
done c s SetEnabled = let v : Vars = s.vars in with_vars s (record v { enabled = c.enabled })
done c s ClearMore = let v : Vars = s.vars in with_vars s (record v { more = false })
done c s CallItems = let v : Vars = s.vars in with_vars s (record v { available = c.available })
done c s LimitMore = let v : Vars = s.vars in with_vars s (record v { more = v.more && v.available })
done c s LeaveSession = let v : Vars = s.vars in with_vars s (record v { queued = false })
done c s RefuseTooMany = s
done c s Answer = s
done c s DeleteAcknowledged = s
done c s SendKeepAlive = s
done c s NoteTimeout = s
done c s AnswerKept = s
done c s RefuseNotKept = s

abbrev pub is_sending : Action → Bool
is_sending SendNotifications = true
is_sending SendKeepAlive = true
is_sending _ = false

abbrev pub is_setting_counts : Action → Bool
is_setting_counts Initialise = true
is_setting_counts Update = true
is_setting_counts _ = false

abbrev pub is_enqueueing : Action → Bool
is_enqueueing Enqueue = true
is_enqueueing _ = false

abbrev pub is_timer_row : RowId → Bool
is_timer_row r = is_kind (printed r).event Timer

abbrev pub enqueues : RowId → Bool
enqueues r = list_any is_enqueueing (actions_of r)

-- whether a row starts the count of answerable timers again
abbrev pub starts_again : RowId → Bool
starts_again r = list_any is_sending (actions_of r) || list_any is_setting_counts (actions_of r)

abbrev pub answerable_after : RowId → Bool → ℕ → ℕ
answerable_after r queued n = if starts_again r then 0 else (if is_timer_row r then (if queued then n + 1 else 0) else n)

-- the subscription after a row
abbrev pub after : Circumstances → RowId → Standing → Standing
after c r s =
    let d : Standing = fold (done c) s (actions_of r) in
    let v : Vars = d.vars in
    record d { vars = record v { state = next_of r s.vars.state }; answerable = answerable_after r s.vars.queued s.answerable }
