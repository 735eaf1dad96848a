-- What each event has a store keep is what it changed of the nodes' values and of the histories.
use Rattle.std.proofs.Common.{◌≡◌, ◌⊎◌, inl, inr, ℤ, Bool, false, true, cond, List, [], ◌∷◌, ◌++◌, Option, Some, None, refl, sym, ap, subst, ◌∙◌}
use Rattle.std.specs.Ordering.{is_eq, int_cmp}
use Rattle.ua_types.specs.Configuration.{Configuration}
use Rattle.ua_types.specs.Moments.{later}
use Rattle.ua_types.specs.declared.moment.Moment.{Moment}
use Rattle.ua_types.specs.declared.node_id.NodeId.{NodeId}
use Rattle.ua_types.specs.declared.data_value.DataValue.{DataValue}
use Rattle.ua_space.specs.Nodes.{SpaceState}
use Rattle.ua_space.specs.Values.{value_at}
use Rattle.ua_history.specs.Histories as history
use Rattle.ua_history.specs.Histories.{history_of}
use Rattle.server_messages.specs.declared.out.Out.{Out}
use Rattle.server_messages.specs.declared.setting.Setting.{Setting}
use Rattle.server_messages.specs.declared.stored.Stored.{Stored}
use Rattle.server_messages.specs.Kept.{Past, is_same, put_at, dropped_at, past_with, Kept, with_stored, with_all_stored}
use Rattle.server_connections.specs.Delivering.{delivery_of}
use Rattle.ua_history.proofs.Dropping.{AreByTime, begun_by_time}
use Rattle.ua_services.specs.Services.{serving_of, ticking_of, shutting_of}
use Rattle.ua_services.specs.Serving as serving
use Rattle.ua_services.specs.Serving.{Serving}
use Rattle.ua_services.specs.ServicesState.{no_services_used}
use Rattle.ua_services.specs.declared.services.Services.{Services}
use Rattle.server_core.specs.Coherent.{reached}
use Rattle.server_core.specs.Effects.{Effect, doing, stored_of}
use Rattle.server_core.specs.Handling.{closed_on}
use Rattle.server_core.specs.World.{opening}
use Rattle.server_core.specs.declared.event.Event.{Event}
use Rattle.server_core.specs.declared.parts.Core.{Core}
use Rattle.server_core.specs.declared.world.World.{World}
use Rattle.server_core.proofs.EffectLemmas.{stored_of-append, stored_of_doing, stored_of_effects}
use Rattle.server_laws.specs.Dealings.{Dealing, with_clock, dealings_of}
use Rattle.server_laws.specs.Storing.{stored_in, HasWhatChanged, StoreHasWhatChanged, NothingIsStored}
use Rattle.server_laws.proofs.StoredLemmas.{HasAll}
use Rattle.server_laws.proofs.ServicesStored.{Told, still, told_both, serving_tells, ticking_tells, shutting_tells}
use Rattle.server_laws.proofs.Walking.{core_served, effects_served, Follows, HasGone, seen, walked}

module _ (config : Configuration) where
  -- it has this configuration, and its histories are by time
  record Fits (core : Core) : Type 0 where
    config_is : core.setting.config ≡ config
    sorted : let services : Services = core.services in AreByTime services.history

  record Comes (before : Core) (effects : List Effect) (after : Core) : Type 0 where
    config_is : after.setting.config ≡ config
    told : Told config.has_store before.services (stored_of effects) after.services

  quiet : (before after : Core) (outs : List Out) → after.setting.config ≡ before.setting.config → (let a : Services = after.services in let b : Services = before.services in (a.space.nodes ≡ b.space.nodes) × (a.history ≡ b.history)) → Fits before →
      Comes before (doing outs) after
  quiet before after outs c same f = record { config_is = c ∙ f.config_is; told = still config.has_store before.services after.services (stored_of (doing outs)) f.sorted same.0 same.1 (stored_of_doing outs) }

  chain : (a b c : Core) (xs ys : List Effect) → Comes a xs b → Comes b ys c → Comes a (xs ++ ys) c
  chain a b c xs ys p q = record {
    config_is = q.config_is;
    told = subst (λ (ss : List Stored). Told config.has_store a.services ss c.services) (sym (stored_of-append xs ys)) (told_both config.has_store a.services b.services c.services (stored_of xs) (stored_of ys) p.told q.told);
  }

  served_comes : (core : Core) (s : Serving) → core.setting.config ≡ config → Told config.has_store core.services (serving.stored_of s.occurrences) s.state → Comes core (effects_served core s) (core_served core s)
  served_comes core s c p = record {
    config_is = c;
    told = subst (λ (ss : List Stored). Told config.has_store core.services ss s.state) (sym (stored_of_effects s.occurrences (delivery_of core.setting core.connections s.replies))) p;
  }

  abbrev Keeps : Core → List Dealing → List Effect → Core → Type 0
  Keeps before ds effects after = Fits before → Comes before effects after

  follows : Follows Keeps
  follows = record {
    none = λ core. quiet core core [] refl (refl, refl);
    next = λ a b c ds es xs ys p q f. let first = p f in chain a b c xs ys first (q (record { config_is = first.config_is; sorted = first.told.sorted }));
    aside = λ a b outs set.
        quiet a b outs (ap (λ (s : Setting). s.config) set.setting) (ap (λ (services : Services). services.space.nodes) set.services, ap (λ (services : Services). services.history) set.services);
    serves = λ core request f.
        served_comes core (serving_of core.setting request core.services) f.config_is
        (serving_tells config.has_store core.setting (ap (λ (c : Configuration). c.has_store) f.config_is) request core.services f.sorted);
    ticks = λ core brought f.
        let at = with_clock core (later core.setting.clock brought) in
        let c = served_comes at (ticking_of at.setting at.services) f.config_is (ticking_tells config.has_store at.setting at.services f.sorted) in
        record { config_is = c.config_is; told = c.told };
    forgets = λ core conn. quiet core (closed_on conn core) [] refl (refl, refl);
    ends = λ core f. served_comes core (shutting_of core.setting core.services) f.config_is (shutting_tells config.has_store core.setting core.services f.sorted);
  }

  module _ (space : SpaceState) (events : List Event) where
    gone : HasGone Keeps (opening config space).core (dealings_of config space events) (reached config space events)
    gone = walked Keeps follows config space events

    told : Told config.has_store (no_services_used config space) (stored_in (reached config space events)) gone.world.core.services
    told = (gone.goes (record { config_is = refl; sorted = begun_by_time config space.nodes })).told

-- ---- whatever was kept before

-- what is seen of two stores once the same was stored in both: the same, or of each what was seen before
module _ {V : Type 0} (seen_of : Kept → V) where
  abbrev SameOrOld : Kept → Kept → Kept → Kept → Type 0
  SameOrOld a b c d = (seen_of c ≡ seen_of d) ⊎ ((seen_of c ≡ seen_of a) × (seen_of d ≡ seen_of b))

  module _ (one : (a b : Kept) (s : Stored) → SameOrOld a b (with_stored a s) (with_stored b s)) where
    same_all : (ss : List Stored) (a b : Kept) → seen_of a ≡ seen_of b → seen_of (with_all_stored a ss) ≡ seen_of (with_all_stored b ss)
    same_all [] a b e = e
    same_all (s ∷ ss) a b e = same_all ss (with_stored a s) (with_stored b s) (by (one a b s))
      where
        by : SameOrOld a b (with_stored a s) (with_stored b s) → seen_of (with_stored a s) ≡ seen_of (with_stored b s)
        by (inl same) = same
        by (inr (old, other)) = old ∙ e ∙ sym other

    all_stored : (ss : List Stored) (a b : Kept) → SameOrOld a b (with_all_stored a ss) (with_all_stored b ss)
    all_stored [] a b = inr (refl, refl)
    all_stored (s ∷ ss) a b = by (one a b s) (all_stored ss (with_stored a s) (with_stored b s))
      where
        by : SameOrOld a b (with_stored a s) (with_stored b s) → SameOrOld (with_stored a s) (with_stored b s) (with_all_stored (with_stored a s) ss) (with_all_stored (with_stored b s) ss) →
            SameOrOld a b (with_all_stored (with_stored a s) ss) (with_all_stored (with_stored b s) ss)
        by (inl same) rest = inl (same_all ss (with_stored a s) (with_stored b s) same)
        by (inr old) (inl same) = inl same
        by (inr (old, other)) (inr (kept, left)) = inr (kept ∙ old, left ∙ other)

one_value : (id : NodeId) (a b : Kept) (s : Stored) → SameOrOld (λ (k : Kept). k.values id) a b (with_stored a s) (with_stored b s)
one_value id a b s = by (is_same s.node_id id)
  where
    by : (c : Bool) → (cond c (Some s.value) (a.values id) ≡ cond c (Some s.value) (b.values id)) ⊎ ((cond c (Some s.value) (a.values id) ≡ a.values id) × (cond c (Some s.value) (b.values id) ≡ b.values id))
    by true = inl refl
    by false = inr (refl, refl)

module _ (time : ℤ) where
  abbrev PastOr : Past → Past → Past → Past → Type 0
  PastOr p q u v = (u time ≡ v time) ⊎ ((u time ≡ p time) × (v time ≡ q time))

  put_or : (source : Option Moment) (value : DataValue) (p q : Past) → PastOr p q (put_at source value p) (put_at source value q)
  put_or None value p q = inr (refl, refl)
  put_or (Some moment) value p q = by (is_eq (int_cmp moment.0 time))
    where
      by : (c : Bool) → (cond c (Some value) (p time) ≡ cond c (Some value) (q time)) ⊎ ((cond c (Some value) (p time) ≡ p time) × (cond c (Some value) (q time) ≡ q time))
      by true = inl refl
      by false = inr (refl, refl)

  dropped_or : (dropped : Option Moment) (p q u v : Past) → PastOr p q u v → PastOr p q (dropped_at dropped u) (dropped_at dropped v)
  dropped_or None p q u v h = h
  dropped_or (Some moment) p q u v h = by (is_eq (int_cmp moment.0 time))
    where
      by : (c : Bool) → (cond c None (u time) ≡ cond c None (v time)) ⊎ ((cond c None (u time) ≡ p time) × (cond c None (v time) ≡ q time))
      by true = inl refl
      by false = h

  past_or : (s : Stored) (p q : Past) → PastOr p q (past_with s p) (past_with s q)
  past_or s p q = by s.is_historical
    where
      by : (c : Bool) → let u = dropped_at s.dropped (put_at s.value.source_time s.value p) in let v = dropped_at s.dropped (put_at s.value.source_time s.value q) in
          (cond c (u time) (p time) ≡ cond c (v time) (q time)) ⊎ ((cond c (u time) (p time) ≡ p time) × (cond c (v time) (q time) ≡ q time))
      by true = dropped_or s.dropped p q (put_at s.value.source_time s.value p) (put_at s.value.source_time s.value q) (put_or s.value.source_time s.value p q)
      by false = inr (refl, refl)

  one_past : (id : NodeId) (a b : Kept) (s : Stored) → SameOrOld (λ (k : Kept). k.histories id time) a b (with_stored a s) (with_stored b s)
  one_past id a b s = by (is_same s.node_id id)
    where
      by : (c : Bool) → let p = a.histories id in let q = b.histories id in
          (cond c (past_with s p time) (p time) ≡ cond c (past_with s q time) (q time)) ⊎ ((cond c (past_with s p time) (p time) ≡ p time) × (cond c (past_with s q time) (q time) ≡ q time))
      by true = past_or s (a.histories id) (b.histories id)
      by false = inr (refl, refl)

-- a store that has all that the server begins with
abbrev begun : Configuration → SpaceState → Kept
begun config space =
    let services = no_services_used config space in
    record { values = λ id. value_at id services.space.nodes; histories = λ id time. history.value_at time (history_of id services.history) }

pub store_has_what_changed : (config : Configuration) (space : SpaceState) (events : List Event) → config.has_store ≡ true → StoreHasWhatChanged config space events
store_has_what_changed config space events is kept =
    let r = reached config space events in
    let ss = stored_in r in
    let first = begun config space in
    let services : Services = (gone config space events).world.core.services in
    let has : HasAll (with_all_stored first ss) services = (told config space events).all is first (record { values = λ id value e. e; histories = λ id time. refl }) in
    seen (gone config space events) (λ (world : World). HasWhatChanged (no_services_used config space) world.core.services kept (with_all_stored kept ss))
    (record {
      values = λ id value e. of_value id value (has.values id value e) (all_stored (λ (k : Kept). k.values id) (one_value id) ss kept first);
      histories = λ id time. of_past id time (has.histories id time) (all_stored (λ (k : Kept). k.histories id time) (one_past time id) ss kept first);
    })
  where
    all : Kept → Kept
    all k = with_all_stored k (stored_in (reached config space events))

    of_value : (id : NodeId) (value : DataValue) → (all (begun config space)).values id ≡ Some value → SameOrOld (λ (k : Kept). k.values id) kept (begun config space) (all kept) (all (begun config space)) →
        ((all kept).values id ≡ Some value) ⊎ (((all kept).values id ≡ kept.values id) × ((begun config space).values id ≡ Some value))
    of_value id value e (inl same) = inl (same ∙ e)
    of_value id value e (inr (mine, its)) = inr (mine, sym its ∙ e)

    of_past : (id : NodeId) (time : ℤ) {x : Option DataValue} → (all (begun config space)).histories id time ≡ x → SameOrOld (λ (k : Kept). k.histories id time) kept (begun config space) (all kept) (all (begun config space)) →
        ((all kept).histories id time ≡ x) ⊎ (((all kept).histories id time ≡ kept.histories id time) × (x ≡ (begun config space).histories id time))
    of_past id time e (inl same) = inl (same ∙ e)
    of_past id time e (inr (mine, its)) = inr (mine, sym e ∙ its)

pub nothing_is_stored : (config : Configuration) (space : SpaceState) (events : List Event) → config.has_store ≡ false → NothingIsStored config space events
nothing_is_stored config space events is = (told config space events).nothing is
