-- A mode for items, whose samples were made before.
use Rattle.std.proofs.Common.{◌≡◌, ◌≢◌, ℕ, Bool, true, false, cond, List, [], ◌∷◌, ◌++◌, Option, Some, None, refl, sym, ap, subst, ◌∙◌}
use Rattle.std.proofs.lemmas.Bool.{false≢true, eqb-true, eq-eqb}
use Rattle.std.specs.Prelude.{◌==◌}
use Rattle.std.specs.BTreeMap.{is_at}
use Rattle.std.specs.Map.{set_value}
use Rattle.std.specs.Ordering.{nat_cmp}
use Rattle.ua_types.specs.declared.moment.Moment.{Moment}
use Rattle.ua_types.specs.declared.data_value.DataValue.{DataValue}
use Rattle.ua_space.specs.Nodes.{Nodes}
use Rattle.ua_monitored_items.specs.Item.{is_enabled, queued, with_mode, disabled, enabled, moded}
use Rattle.ua_monitored_items.specs.ItemTables.{NumberedItems, item_at, with_found, with_item}
use Rattle.ua_monitored_items.specs.Items.{ItemsState, own_if, own_item, moded_by, mode_one}
use Rattle.ua_monitored_items.specs.Preparing.{IsReady, AreReady, enabled_from, moded_from, mode_status, moded_own}
use Rattle.ua_monitored_items.specs.declared.item.Item.{Item}
use Rattle.ua_monitored_items.specs.declared.kinds.Mode.{Mode}
use Rattle.ua_monitored_items.specs.declared.preparing.Prepared.{Prepared}
use Rattle.ua_monitored_items.proofs.Following.{set_here, set_other}
use Rattle.ua_monitored_items.proofs.Runs.{own_is}

module _ (nodes : Nodes) (clock : Moment) (mode : Mode) where
  -- what is ready makes of an item what the mode does
  moded_same : (item : Item) (first : Option DataValue) → IsReady nodes clock mode (Some item) first → moded_from mode first item ≡ moded nodes clock mode item
  moded_same item first ready = by (is_enabled mode) refl (is_enabled item.mode) refl first ready
    where
      by : (b : Bool) → is_enabled mode ≡ b → (c : Bool) → is_enabled item.mode ≡ c → (first : Option DataValue) → IsReady nodes clock mode (Some item) first
          → cond b (with_mode mode (enabled_from first item)) (disabled item) ≡ cond b (with_mode mode (enabled nodes clock item)) (disabled item)
      by false e c f first ready = refl
      by true e true f None ready = rw f refl
      by true e true f (Some first) ready = rw f refl
      by true e false f None ready = absurd (ready e f)
      by true e false f (Some first) ready = rw f (ap (λ (v : DataValue). with_mode mode (queued v item)) (ready e f))

  module _ (subscription : ℕ) (s : ItemsState) where
    pub served_status : (e : Prepared) → mode_status (own_item s subscription e.number) ≡ (mode_one nodes clock subscription mode s e.number).result
    unfolding mode_one
    served_status e = by (own_item s subscription e.number)
      where
        by : (own : Option Item) → mode_status own ≡ (moded_by nodes clock mode s e.number own).result
        by None = refl
        by (Some item) = refl

    pub served_state : (e : Prepared) → IsReady nodes clock mode (own_item s subscription e.number) e.first
        → moded_own mode s e (own_item s subscription e.number) ≡ (mode_one nodes clock subscription mode s e.number).state
    unfolding mode_one
    served_state e ready = by (own_item s subscription e.number) refl ready
      where
        by : (own : Option Item) → own_item s subscription e.number ≡ own → IsReady nodes clock mode own e.first
            → moded_own mode s e own ≡ (moded_by nodes clock mode s e.number own).state
        by None is ready = refl
        by (Some item) is ready =
            let found : item_at e.number s.items ≡ Some item = own_is subscription (item_at e.number s.items) item is in
            let one : with_item e.number (moded_from mode e.first) s.items ≡ set_value (is_at (nat_cmp e.number)) s.items (moded_from mode e.first item) =
            ap (with_found e.number (moded_from mode e.first) s.items) found in
            let two : with_item e.number (moded nodes clock mode) s.items ≡ set_value (is_at (nat_cmp e.number)) s.items (moded nodes clock mode item) =
            ap (with_found e.number (moded nodes clock mode) s.items) found in
            ap (λ (es : NumberedItems). record s { items = es })
            (one ∙ ap (set_value (is_at (nat_cmp e.number)) s.items) (moded_same item e.first ready) ∙ sym two)

    -- an item that got the mode wants nothing more
    enabled_now : (v : Item) (first : Option DataValue) → IsReady nodes clock mode (own_if subscription (Some (moded nodes clock mode v))) first
    enabled_now v first = own ((moded nodes clock mode v).subscription == subscription)
      where
        by : (b : Bool) → b ≡ true → is_enabled (cond b (with_mode mode (enabled nodes clock v)) (disabled v)).mode ≡ false → is_enabled mode ≡ true → ⊥
        by true e off on = false≢true (sym off ∙ on)
        by false e off on = false≢true e

        own : (b : Bool) → IsReady nodes clock mode (cond b (Some (moded nodes clock mode v)) None) first
        own true = λ on off. absurd (by (is_enabled mode) on off on)
        own false = tt

    one_kept : (k : ℕ) (n : ℕ) (first : Option DataValue) → IsReady nodes clock mode (own_item s subscription n) first
        → IsReady nodes clock mode (own_item (mode_one nodes clock subscription mode s k).state subscription n) first
    unfolding mode_one
    one_kept k n first ready = by (own_item s subscription k) refl
      where
        by : (own : Option Item) → own_item s subscription k ≡ own → IsReady nodes clock mode (own_item (moded_by nodes clock mode s k own).state subscription n) first
        by None is = ready
        by (Some v) is = here (k == n) refl
          where
            found : item_at k s.items ≡ Some v
            found = own_is subscription (item_at k s.items) v is

            new : NumberedItems
            new = set_value (is_at (nat_cmp k)) s.items (moded nodes clock mode v)

            after : with_item k (moded nodes clock mode) s.items ≡ new
            after = ap (with_found k (moded nodes clock mode) s.items) found

            in_new : (b : Bool) → (k == n) ≡ b → IsReady nodes clock mode (own_if subscription (item_at n new)) first
            in_new true e =
                let same : k ≡ n = eqb-true k n e in
                let there : item_at n new ≡ Some (moded nodes clock mode v) = ap (λ (m : ℕ). item_at m new) (sym same) ∙ set_here k v (moded nodes clock mode v) s.items found in
                subst (λ (o : Option Item). IsReady nodes clock mode (own_if subscription o) first) (sym there) (enabled_now v first)
            in_new false e =
                let other : n ≢ k = λ same. false≢true (sym e ∙ eq-eqb k n (sym same)) in
                subst (λ (o : Option Item). IsReady nodes clock mode (own_if subscription o) first) (sym (set_other k n (moded nodes clock mode v) other s.items)) ready

            here : (b : Bool) → (k == n) ≡ b → IsReady nodes clock mode (own_if subscription (item_at n (with_item k (moded nodes clock mode) s.items))) first
            here b e = subst (λ (es : NumberedItems). IsReady nodes clock mode (own_if subscription (item_at n es)) first) (sym after) (in_new b e)

    pub ready_kept : (k : ℕ) (es : List Prepared) → AreReady nodes clock subscription mode s es → AreReady nodes clock subscription mode (mode_one nodes clock subscription mode s k).state es
    ready_kept k [] ready = tt
    ready_kept k (e ∷ es) ready = (one_kept k e.number e.first ready.0, ready_kept k es ready.1)

    pub ready_more : (es : List Prepared) (e : Prepared) → AreReady nodes clock subscription mode s es → IsReady nodes clock mode (own_item s subscription e.number) e.first
        → AreReady nodes clock subscription mode s (es ++ e ∷ [])
    ready_more [] e ready one = (one, tt)
    ready_more (f ∷ fs) e ready one = (ready.0, ready_more fs e ready.1 one)
