-- What comes to subscriptions under their numbers is answered on no connections but those that asked or that waited.
use Rattle.std.proofs.Common.{ℕ, List, [], ◌∷◌, Option, Some, None}
use Rattle.std.specs.BTreeMap.{is_at, insert_entry}
use Rattle.std.specs.Map.{set_value, remove_entry}
use Rattle.std.specs.Ordering.{nat_cmp}
use Rattle.ua_subscriptions.specs.declared.call.Call.{Call}
use Rattle.ua_subscriptions.specs.declared.session_part.SessionSubscriptions.{SessionSubscriptions}
use Rattle.ua_subscriptions.specs.declared.subscription.Subscription.{Subscription}
use Rattle.ua_subscriptions.specs.Firing.{fired}
use Rattle.ua_subscriptions.specs.Owing.{AllBy, QueuedBy, RoundOwesOnly, OwesOnly}
use Rattle.ua_subscriptions.specs.Subscriptions.{no_part}
use Rattle.ua_subscriptions.specs.Tables.{Stage, scene_at, met_by, met, all_met, part_at, part_of, set_part, subscription_at}
use Rattle.ua_subscriptions.proofs.MapEntries.{entries_removed, entries_set, entries_found, entries_inserted}
use Rattle.ua_subscriptions.proofs.OwingRows.{fired_only}

module _ (Such : ℕ → Type 0) where
  -- ---- what sessions have queued

  abbrev WaitsBy : ℕ × SessionSubscriptions → Type 0
  WaitsBy e = AllBy Such e.1.requests

  pub set_only : (session : ℕ) (sessions : List (ℕ × SessionSubscriptions)) (part : SessionSubscriptions) → QueuedBy Such sessions → AllBy Such part.requests → QueuedBy Such (set_value (is_at (nat_cmp session)) sessions part)
  set_only session sessions part h g = entries_set WaitsBy session part sessions g h

  pub removed_only : (session : ℕ) (sessions : List (ℕ × SessionSubscriptions)) → QueuedBy Such sessions → QueuedBy Such (remove_entry (is_at (nat_cmp session)) sessions)
  removed_only session sessions h = entries_removed WaitsBy (is_at (nat_cmp session)) sessions h

  pub inserted_only : (session : ℕ) (sessions : List (ℕ × SessionSubscriptions)) (part : SessionSubscriptions) → QueuedBy Such sessions → AllBy Such part.requests → QueuedBy Such (insert_entry nat_cmp sessions session part)
  inserted_only session sessions part h g = entries_inserted WaitsBy session part sessions g h

  pub part_only : (session : ℕ) (sessions : List (ℕ × SessionSubscriptions)) → QueuedBy Such sessions → AllBy Such (part_at session sessions).requests
  part_only session sessions h = entries_found WaitsBy session no_part sessions tt h

  part_of_only : (session : Option ℕ) (sessions : List (ℕ × SessionSubscriptions)) → QueuedBy Such sessions → AllBy Such (part_of session sessions).requests
  part_of_only None sessions h = tt
  part_of_only (Some session) sessions h = part_only session sessions h

  set_part_only : (session : Option ℕ) (sessions : List (ℕ × SessionSubscriptions)) (part : SessionSubscriptions) → QueuedBy Such sessions → AllBy Such part.requests → QueuedBy Such (set_part session sessions part)
  set_part_only None sessions part h g = h
  set_part_only (Some session) sessions part h g = set_only session sessions part h g

  -- ---- what comes to subscriptions under their numbers

  by_only : (w : Stage) (own : ℕ) (call : Call) (o : Option Subscription) → OwesOnly Such w → OwesOnly Such (met_by w own call o)
  by_only w own call None h = record { round = record { replies = h.round.replies; asked = h.round.asked }; queued = h.queued }
  by_only w own call (Some s) h =
      let c = scene_at w own call s in
      let before : RoundOwesOnly Such c.round = record { replies = h.round.replies; asked = h.round.asked } in
      let after = fired_only Such c (record { round = before; requests = part_of_only s.session w.table.sessions h.queued }) in
      record { round = after.round; queued = set_part_only s.session w.table.sessions (fired c).part h.queued after.requests }

  pub met_only : (w : Stage) (own : ℕ) (call : Call) → OwesOnly Such w → OwesOnly Such (met w own call)
  unfolding met
  met_only w own call h = by_only w own call (subscription_at own w.table.subscriptions) h

  pub all_met_only : (call : Call) (numbers : List ℕ) (w : Stage) → OwesOnly Such w → OwesOnly Such (all_met call w numbers)
  all_met_only call [] w h = h
  all_met_only call (number ∷ numbers) w h = all_met_only call numbers (met w number call) (met_only w number call h)
