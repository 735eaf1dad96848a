-- Exactly one row fires, and a scan of the table finds it.
use Rattle.std.specs.Prelude.{◌≡◌, ◌≢◌, ◌≤◌, ◌==◌, ◌||◌, Bool, true, false, not, nat_lt, ℕ, [], ◌∷◌, find, Option, None, Some, refl}
use Rattle.std.proofs.Common.{arith, ap, ◌∙◌, sym}
use Rattle.std.proofs.Math.Path.{fun_ext}
use Rattle.ua_state_table.specs.declared.state.State.{State}
use Rattle.ua_state_table.specs.declared.state.State.TheVariants.{Closed, Normal, Late, KeepAlive}
use Rattle.ua_state_table.specs.declared.vars.Vars.{Vars}
use Rattle.ua_state_table.specs.declared.event.TableEvent.{TableEvent}
use Rattle.ua_state_table.specs.declared.event.TableEvent.TheVariants.{Create, Publish, Timer, Modify, SetMode, Republish, Delete, Items, SessionEnd, Shutdown}
use Rattle.ua_state_table.specs.declared.condition.Condition.{Condition}
use Rattle.ua_state_table.specs.declared.condition.Condition.TheVariants.{Full, Room, EnabledMore, NotEnabledMore, EnabledAvailable, NotEnabledAvailable, Queued, NotQueued, Sent, NotSent, NotSentOrEnabledAvailable, KeepOne, KeepAboveOne, KeepOneOrEnabledAvailable, LifeOne, LifeAboveOne, Kept, NotKept, Deleting, Keeping}
use Rattle.ua_state_table.specs.declared.row.Row.{Row}
use Rattle.ua_state_table.specs.declared.row.RowId.{RowId}
use Rattle.ua_state_table.specs.Events.{is_full, is_kept, is_deleting, fits}
use Rattle.ua_state_table.specs.Conditions.{holds}
use Rattle.ua_state_table.specs.StateTable.{fired, fires}
use Rattle.ua_state_table.specs.Rows.{row_of, is_fired, first_fired, printed_table}
use Rattle.ua_state_table.specs.Sound.{IsSound, IsLively}
use Rattle.ua_state_table.specs.Chosen.{Answers, answers, row_chosen, chosen}

-- the conditions, as the answers to what the choice asks
abbrev answered : TableEvent → Answers → Condition → Bool
answered e a Full = is_full e
answered e a Room = not (is_full e)
answered e a EnabledMore = a.enabled_more
answered e a NotEnabledMore = not a.enabled_more
answered e a EnabledAvailable = a.enabled_available
answered e a NotEnabledAvailable = not a.enabled_available
answered e a Queued = a.queued
answered e a NotQueued = not a.queued
answered e a Sent = a.sent
answered e a NotSent = not a.sent
answered e a NotSentOrEnabledAvailable = not a.sent || a.enabled_available
answered e a KeepOne = a.last_keep
answered e a KeepAboveOne = not a.last_keep
answered e a KeepOneOrEnabledAvailable = a.last_keep || a.enabled_available
answered e a LifeOne = a.last_life
answered e a LifeAboveOne = not a.last_life
answered e a Kept = is_kept e
answered e a NotKept = not (is_kept e)
answered e a Deleting = is_deleting e
answered e a Keeping = not (is_deleting e)

above_one : (n : ℕ) → 1 ≤ n → nat_lt 1 n ≡ not (n == 1)
above_one n h = grind arith

holds_as_answered : (v : Vars) (e : TableEvent) → IsLively v → holds v e ≡ answered e (answers v)
holds_as_answered v e h = fun_ext by
  where
    by : (c : Condition) → holds v e c ≡ answered e (answers v) c
    by KeepAboveOne = above_one v.keep_alive h.keep_alive
    by LifeAboveOne = above_one v.lifetime h.lifetime
    by Full = refl
    by Room = refl
    by EnabledMore = refl
    by NotEnabledMore = refl
    by EnabledAvailable = refl
    by NotEnabledAvailable = refl
    by Queued = refl
    by NotQueued = refl
    by Sent = refl
    by NotSent = refl
    by NotSentOrEnabledAvailable = refl
    by KeepOne = refl
    by KeepOneOrEnabledAvailable = refl
    by LifeOne = refl
    by Kept = refl
    by NotKept = refl
    by Deleting = refl
    by Keeping = refl

-- the row of the table that a scan finds
unfoldable pub scanned : State → TableEvent → (Condition → Bool) → Option Row
scanned s e is_true = find (is_fired s e is_true) printed_table

-- of these conditions this row fires and no other, and a scan finds it
pub record IsChosen (s : State) (e : TableEvent) (is_true : Condition → Bool) (r : RowId) : Type 0 where
  pub only : fired s e is_true ≡ r ∷ []
  pub found : scanned s e is_true ≡ Some (row_of r)

abbrev IsAnswered : State → TableEvent → Answers → Type 0
IsAnswered s e a = IsChosen s e (answered e a) (row_chosen s e a)

abbrev six : (ea em q se k1 l1 : Bool) → Answers
six ea em q se k1 l1 = record { enabled_available = ea; enabled_more = em; queued = q; sent = se; last_keep = k1; last_life = l1 }

timer_normal : (ea em q se k1 l1 : Bool) → IsAnswered Normal Timer (six ea em q se k1 l1)
unfolding fired scanned printed_table
timer_normal true em true true k1 true = record { only = refl; found = refl }
timer_normal true em true true k1 false = record { only = refl; found = refl }
timer_normal true em true false k1 true = record { only = refl; found = refl }
timer_normal true em true false k1 false = record { only = refl; found = refl }
timer_normal true em false true k1 true = record { only = refl; found = refl }
timer_normal true em false true k1 false = record { only = refl; found = refl }
timer_normal true em false false k1 true = record { only = refl; found = refl }
timer_normal true em false false k1 false = record { only = refl; found = refl }
timer_normal false em true true k1 true = record { only = refl; found = refl }
timer_normal false em true true k1 false = record { only = refl; found = refl }
timer_normal false em true false k1 true = record { only = refl; found = refl }
timer_normal false em true false k1 false = record { only = refl; found = refl }
timer_normal false em false true k1 true = record { only = refl; found = refl }
timer_normal false em false true k1 false = record { only = refl; found = refl }
timer_normal false em false false k1 true = record { only = refl; found = refl }
timer_normal false em false false k1 false = record { only = refl; found = refl }

publish_normal : (ea em q se k1 l1 : Bool) → IsAnswered Normal Publish (six ea em q se k1 l1)
unfolding fired scanned printed_table
publish_normal ea true q se k1 l1 = record { only = refl; found = refl }
publish_normal ea false q se k1 l1 = record { only = refl; found = refl }

timer_late : (ea em q se k1 l1 : Bool) → IsAnswered Late Timer (six ea em q se k1 l1)
unfolding fired scanned printed_table
timer_late ea em q se k1 true = record { only = refl; found = refl }
timer_late ea em q se k1 false = record { only = refl; found = refl }

publish_late : (ea em q se k1 l1 : Bool) → IsAnswered Late Publish (six ea em q se k1 l1)
unfolding fired scanned printed_table
publish_late true em q se k1 l1 = record { only = refl; found = refl }
publish_late false em q se k1 l1 = record { only = refl; found = refl }

timer_keepalive : (ea em q se k1 l1 : Bool) → IsAnswered KeepAlive Timer (six ea em q se k1 l1)
unfolding fired scanned printed_table
timer_keepalive true em true se true true = record { only = refl; found = refl }
timer_keepalive true em true se true false = record { only = refl; found = refl }
timer_keepalive true em true se false true = record { only = refl; found = refl }
timer_keepalive true em true se false false = record { only = refl; found = refl }
timer_keepalive true em false se true true = record { only = refl; found = refl }
timer_keepalive true em false se true false = record { only = refl; found = refl }
timer_keepalive true em false se false true = record { only = refl; found = refl }
timer_keepalive true em false se false false = record { only = refl; found = refl }
timer_keepalive false em true se true true = record { only = refl; found = refl }
timer_keepalive false em true se true false = record { only = refl; found = refl }
timer_keepalive false em true se false true = record { only = refl; found = refl }
timer_keepalive false em true se false false = record { only = refl; found = refl }
timer_keepalive false em false se true true = record { only = refl; found = refl }
timer_keepalive false em false se true false = record { only = refl; found = refl }
timer_keepalive false em false se false true = record { only = refl; found = refl }
timer_keepalive false em false se false false = record { only = refl; found = refl }

publish_keepalive : (ea em q se k1 l1 : Bool) → IsAnswered KeepAlive Publish (six ea em q se k1 l1)
unfolding fired scanned printed_table
publish_keepalive ea em q se k1 l1 = record { only = refl; found = refl }

-- in each live state that an event fits
live : (s : State) (e : TableEvent) (a : Answers) → s ≢ Closed → fits s e ≡ true → IsAnswered s e a
unfolding fired scanned printed_table
live Normal Timer a n h = timer_normal a.enabled_available a.enabled_more a.queued a.sent a.last_keep a.last_life
live Normal Publish a n h = publish_normal a.enabled_available a.enabled_more a.queued a.sent a.last_keep a.last_life
live Normal Modify a n h = record { only = refl; found = refl }
live Normal SetMode a n h = record { only = refl; found = refl }
live Normal Delete a n h = record { only = refl; found = refl }
live Normal Items a n h = record { only = refl; found = refl }
live Normal (Republish true) a n h = record { only = refl; found = refl }
live Normal (Republish false) a n h = record { only = refl; found = refl }
live Normal (SessionEnd true) a n h = record { only = refl; found = refl }
live Normal (SessionEnd false) a n h = record { only = refl; found = refl }
live Normal Shutdown a n h = record { only = refl; found = refl }
live Normal (Create full) a n h = cc
live Late Timer a n h = timer_late a.enabled_available a.enabled_more a.queued a.sent a.last_keep a.last_life
live Late Publish a n h = publish_late a.enabled_available a.enabled_more a.queued a.sent a.last_keep a.last_life
live Late Modify a n h = record { only = refl; found = refl }
live Late SetMode a n h = record { only = refl; found = refl }
live Late Delete a n h = record { only = refl; found = refl }
live Late Items a n h = record { only = refl; found = refl }
live Late (Republish true) a n h = record { only = refl; found = refl }
live Late (Republish false) a n h = record { only = refl; found = refl }
live Late (SessionEnd true) a n h = record { only = refl; found = refl }
live Late (SessionEnd false) a n h = record { only = refl; found = refl }
live Late Shutdown a n h = record { only = refl; found = refl }
live Late (Create full) a n h = cc
live KeepAlive Timer a n h = timer_keepalive a.enabled_available a.enabled_more a.queued a.sent a.last_keep a.last_life
live KeepAlive Publish a n h = publish_keepalive a.enabled_available a.enabled_more a.queued a.sent a.last_keep a.last_life
live KeepAlive Modify a n h = record { only = refl; found = refl }
live KeepAlive SetMode a n h = record { only = refl; found = refl }
live KeepAlive Delete a n h = record { only = refl; found = refl }
live KeepAlive Items a n h = record { only = refl; found = refl }
live KeepAlive (Republish true) a n h = record { only = refl; found = refl }
live KeepAlive (Republish false) a n h = record { only = refl; found = refl }
live KeepAlive (SessionEnd true) a n h = record { only = refl; found = refl }
live KeepAlive (SessionEnd false) a n h = record { only = refl; found = refl }
live KeepAlive Shutdown a n h = record { only = refl; found = refl }
live KeepAlive (Create full) a n h = cc
live Closed e a n h = absurd (n refl)

closed : (v : Vars) (e : TableEvent) → fits Closed e ≡ true → IsChosen Closed e (holds v e) (row_chosen Closed e (answers v))
unfolding fired scanned printed_table
closed v (Create true) h = record { only = refl; found = refl }
closed v (Create false) h = record { only = refl; found = refl }
closed v Timer h = cc
closed v Publish h = cc
closed v Modify h = cc
closed v SetMode h = cc
closed v Delete h = cc
closed v Items h = cc
closed v (Republish kept) h = cc
closed v (SessionEnd deleting) h = cc
closed v Shutdown h = cc

pub is_chosen : (v : Vars) (e : TableEvent) → IsSound v → fits v.state e ≡ true → IsChosen v.state e (holds v e) (chosen v e)
is_chosen v e sound h = by v.state refl h
  where
    of_live : (s : State) → v.state ≡ s → s ≢ Closed → fits s e ≡ true → IsChosen s e (holds v e) (row_chosen s e (answers v))
    of_live s at n h = rw (holds_as_answered v e (sound (λ c. n (sym at ∙ c)))) (live s e (answers v) n h)

    by : (s : State) → v.state ≡ s → fits s e ≡ true → IsChosen s e (holds v e) (row_chosen s e (answers v))
    by Closed at h = closed v e h
    by Normal at h = of_live Normal at (λ c. absurd (cc)) h
    by Late at h = of_live Late at (λ c. absurd (cc)) h
    by KeepAlive at h = of_live KeepAlive at (λ c. absurd (cc)) h

-- exactly one row fires
pub one_row : (v : Vars) (e : TableEvent) → IsSound v → fits v.state e ≡ true → fires v e ≡ chosen v e ∷ []
one_row v e sound h = (is_chosen v e sound h).only

-- and a scan finds it
found_row : (v : Vars) (e : TableEvent) → IsSound v → fits v.state e ≡ true → first_fired v e printed_table ≡ Some (row_of (chosen v e))
unfolding scanned first_fired
found_row v e sound h = (is_chosen v e sound h).found

pub finds_one : (v : Vars) (e : TableEvent) → IsSound v → fits v.state e ≡ true → first_fired v e printed_table ≡ None → ⊥
finds_one v e sound h none = let found = found_row v e sound h in absurd (cc)

id_of : (r : RowId) (row : Row) → Some row ≡ Some (row_of r) → row.id ≡ r
id_of r row e = let same : row ≡ row_of r = cc in ap (λ (x : Row). x.id) same

pub finds_the_row : (v : Vars) (e : TableEvent) (row : Row) → IsSound v → fits v.state e ≡ true → first_fired v e printed_table ≡ Some row → fires v e ≡ row.id ∷ []
finds_the_row v e row sound h some = one_row v e sound h ∙ ap (λ r. r ∷ []) (sym (id_of (chosen v e) row (sym some ∙ found_row v e sound h)))
