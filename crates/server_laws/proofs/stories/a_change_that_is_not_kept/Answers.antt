use Rattle.std.proofs.Common.{◌≡◌, ◌⊎◌, inl, inr, Option, Some, sym, subst, ◌∙◌}
use Rattle.ua_types.specs.declared.data_value.DataValue.{DataValue}
use Rattle.ua_space.specs.Values.{value_at}
use Rattle.server_messages.specs.Kept.{with_all_stored}
use Rattle.ua_services.specs.ServicesState.{no_services_used}
use Rattle.server_core.specs.Coherent.{reached, IfRuns}
use Rattle.server_core.specs.declared.world.World.{World}
use Rattle.server_laws.specs.Storing.{stored_in, HasWhatChanged}
use Rattle.server_laws.proofs.stories.a_change_that_is_not_kept.Goals as goal

pub returns : goal.returns
returns c config space events world kept id value other is there now began has differs =
    let after = with_all_stored kept (stored_in (reached config space events)) in
    let changed : HasWhatChanged (no_services_used config space) world.core.services kept after =
    subst (λ (server : Option World). IfRuns (λ (w : World). HasWhatChanged (no_services_used config space) w.core.services kept after) server) there (c.store_has_what_changed.ensures.all config space events is kept) in
    by (changed.values id value now)
  where
    same : (x y : DataValue) → Some x ≡ Some y → x ≡ y
    same x y e = cc

    by : ((with_all_stored kept (stored_in (reached config space events))).values id ≡ Some value)
        ⊎ (((with_all_stored kept (stored_in (reached config space events))).values id ≡ kept.values id) × (value_at id (no_services_used config space).space.nodes ≡ Some value)) → ⊥
    by (inl kept_so) = differs (same other value (sym has ∙ kept_so))
    by (inr old) = began old.1
