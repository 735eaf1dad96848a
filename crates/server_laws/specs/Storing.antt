-- What a store has to keep of a server.
use Rattle.std.specs.Prelude.{◌≡◌, ◌⊎◌, ℤ, List, [], Some}
use Rattle.ua_types.specs.Configuration.{Configuration}
use Rattle.ua_types.specs.declared.node_id.NodeId.{NodeId}
use Rattle.ua_types.specs.declared.data_value.DataValue.{DataValue}
use Rattle.ua_space.specs.Nodes.{SpaceState}
use Rattle.ua_space.specs.Values.{value_at}
use Rattle.ua_history.specs.Histories as history
use Rattle.ua_history.specs.Histories.{history_of}
use Rattle.server_messages.specs.Kept.{Kept, with_all_stored}
use Rattle.server_messages.specs.declared.stored.Stored.{Stored}
use Rattle.ua_services.specs.ServicesState.{no_services_used}
use Rattle.ua_services.specs.declared.services.Services.{Services}
use Rattle.server_core.specs.Coherent.{reached, IfRuns}
use Rattle.server_core.specs.Effects.{stored_of}
use Rattle.server_core.specs.Running.{Running, joined_effects}
use Rattle.server_core.specs.declared.world.World.{World}
use Rattle.server_core.specs.declared.event.Event.{Event}

-- what a run has a store keep, in order
abbrev pub stored_in : Running → List Stored
stored_in r = stored_of (joined_effects r.steps)

-- Of each variable the value is kept that the server has; or nothing was kept of it, and the server has what it began with. So it is at
-- each time of its history
pub record HasWhatChanged (begun services : Services) (before kept : Kept) : Type 0 where
  pub values : (id : NodeId) (value : DataValue) → value_at id services.space.nodes ≡ Some value →
      (kept.values id ≡ Some value) ⊎ ((kept.values id ≡ before.values id) × (value_at id begun.space.nodes ≡ Some value))
  pub histories : (id : NodeId) (time : ℤ) → let has = λ (s : Services). history.value_at time (history_of id s.history) in
      (kept.histories id time ≡ has services) ⊎ ((kept.histories id time ≡ before.histories id time) × (has services ≡ has begun))

-- so it is with whoever keeps what the steps of a server tell, whatever was kept before
abbrev pub StoreHasWhatChanged : Configuration → SpaceState → List Event → Type 0
StoreHasWhatChanged config space events =
    (kept : Kept) → let r = reached config space events in
    IfRuns (λ (world : World). HasWhatChanged (no_services_used config space) world.core.services kept (with_all_stored kept (stored_in r))) r.server

-- nothing is told for a store
abbrev pub NothingIsStored : Configuration → SpaceState → List Event → Type 0
NothingIsStored config space events = stored_in (reached config space events) ≡ []
