-- The queue of a disabled item is empty, whatever is done.
use Rattle.std.proofs.Common.{◌≡◌, ℕ, Bool, true, false, cond, List, [], ◌∷◌, ◌-◌, length, take, drop, Option, Some, refl, sym, ap, ◌∙◌}
use Rattle.std.proofs.Math.Seq.{take-nil, drop-nil}
use Rattle.std.proofs.lemmas.Bool.{false≢true}
use Rattle.std.specs.BTreeMap.{insert_entry, is_at}
use Rattle.std.specs.Map.{set_value, remove_entry}
use Rattle.std.specs.Ordering.{nat_cmp, match_ordering}
use Rattle.std.specs.Prelude.{◌==◌, ◌&&◌, IfSome, fold, nat_le, nat_lt}
use Rattle.std.specs.declared.cmp.Ordering.{Ordering}
use Rattle.std.specs.declared.cmp.Ordering.TheVariants.{Less, Equal, Greater}
use Rattle.ua_types.specs.declared.data_value.DataValue.{DataValue}
use Rattle.ua_item_queue.specs.ItemQueue.{changed, queue_after}
use Rattle.ua_item_queue.specs.ItemQueue.QueueChange.{FrontCleared, BackCleared}
use Rattle.ua_item_queue.specs.ItemQueue.QueueMove.{Resize}
use Rattle.ua_item_queue.specs.declared.entry.Entry.{Entry}
use Rattle.ua_monitored_items.specs.Item.{is_enabled, is_sampling, is_change_since, queued, seen, with_mode, disabled, gave, released_in}
use Rattle.ua_monitored_items.specs.ItemTables.{NumberedItems, item_at, DisabledIsEmpty, DisabledAreEmpty}
use Rattle.ua_monitored_items.specs.Editing.{modified_with}
use Rattle.ua_monitored_items.specs.Preparing.{enabled_from, moded_from}
use Rattle.ua_monitored_items.specs.declared.item.Item.{Item}
use Rattle.ua_monitored_items.specs.declared.kinds.Mode.{Mode}
use Rattle.ua_monitored_items.specs.declared.edit.Modification.{Modification}

-- ---- items under their numbers

pub empty_set : (number : ℕ) (w : Item) → DisabledIsEmpty w → (es : NumberedItems) → DisabledAreEmpty es → DisabledAreEmpty (set_value (is_at (nat_cmp number)) es w)
empty_set number w one [] all = tt
empty_set number w one (e ∷ es) all = by (empty_set number w one es all.1) (is_at (nat_cmp number) e.0)
  where
    by : DisabledAreEmpty (set_value (is_at (nat_cmp number)) es w) → (b : Bool) → DisabledAreEmpty (cond b ((e.0, w) ∷ es) (e ∷ set_value (is_at (nat_cmp number)) es w))
    by rest true = (one, all.1)
    by rest false = (all.0, rest)

pub empty_put : (number : ℕ) (v : Item) → DisabledIsEmpty v → (es : NumberedItems) → DisabledAreEmpty es → DisabledAreEmpty (insert_entry nat_cmp es number v)
empty_put number v one [] all = (one, tt)
empty_put number v one (e ∷ es) all = by (empty_put number v one es all.1) (nat_cmp number e.0)
  where
    by : DisabledAreEmpty (insert_entry nat_cmp es number v) → (o : Ordering) → DisabledAreEmpty (match_ordering o ((number, v) ∷ e ∷ es) ((e.0, v) ∷ es) (e ∷ insert_entry nat_cmp es number v))
    by rest Less = (one, all)
    by rest Equal = (one, all.1)
    by rest Greater = (all.0, rest)

pub empty_removed : (number : ℕ) (es : NumberedItems) → DisabledAreEmpty es → DisabledAreEmpty (remove_entry (is_at (nat_cmp number)) es)
empty_removed number [] all = tt
empty_removed number (e ∷ es) all = by (empty_removed number es all.1) (is_at (nat_cmp number) e.0)
  where
    by : DisabledAreEmpty (remove_entry (is_at (nat_cmp number)) es) → (b : Bool) → DisabledAreEmpty (cond b es (e ∷ remove_entry (is_at (nat_cmp number)) es))
    by rest true = all.1
    by rest false = (all.0, rest)

pub empty_found : (number : ℕ) (es : NumberedItems) → DisabledAreEmpty es → IfSome (item_at number es) DisabledIsEmpty
empty_found number [] all = tt
empty_found number (e ∷ es) all = by (empty_found number es all.1) (is_at (nat_cmp number) e.0)
  where
    by : IfSome (item_at number es) DisabledIsEmpty → (b : Bool) → IfSome (cond b (Some e.1) (item_at number es)) DisabledIsEmpty
    by rest true = all.0
    by rest false = rest

-- ---- what is done with an item

-- a change after which a disabled item's queue is empty, if it was before
abbrev pub KeepsEmpty : (Item → Item) → Type 0
KeepsEmpty change = (item : Item) → DisabledIsEmpty item → DisabledIsEmpty (change item)

pub empty_seen : (v : DataValue) → KeepsEmpty (seen v)
empty_seen v item none = by (is_enabled item.mode) refl (is_change_since item.trigger item.queue.last v)
  where
    by : (enabled : Bool) → is_enabled item.mode ≡ enabled → (b : Bool) → DisabledIsEmpty (cond (enabled && b) (queued v item) item)
    by true is true = λ off. absurd (false≢true (sym off ∙ is))
    by true is false = none
    by false is b = none

pub empty_moded : (mode : Mode) (first : Option DataValue) → KeepsEmpty (moded_from mode first)
empty_moded mode first item none = by (is_enabled mode) refl
  where
    by : (b : Bool) → is_enabled mode ≡ b → DisabledIsEmpty (cond b (with_mode mode (enabled_from first item)) (disabled item))
    by true is = λ off. absurd (false≢true (sym off ∙ is))
    by false is = λ off. refl

nothing_cut : (q : List (Entry DataValue)) (size : ℕ) (oldest : Bool) → q ≡ [] → queue_after q (Resize size oldest) ≡ []
nothing_cut q size oldest none = by (nat_le (length q) size) oldest
  where
    by : (fits oldest : Bool) → fold changed q (cond fits [] (cond oldest (FrontCleared (length q - size) ∷ []) (BackCleared size ∷ []))) ≡ []
    by true oldest = none
    by false true = ap (drop (length q - size)) none ∙ drop-nil (length q - size)
    by false false = ap (take size) none ∙ take-nil size

pub empty_modified : (modification : Modification) → KeepsEmpty (modified_with modification)
empty_modified modification item none off = nothing_cut item.queue.entries modification.size modification.discard_oldest (none off)

pub empty_gave : (n : ℕ) → KeepsEmpty (gave n)
empty_gave n item none off = ap (drop n) (none off) ∙ drop-nil n

pub empty_released : (subscription : ℕ) → KeepsEmpty (released_in subscription)
empty_released subscription item none = by ((item.subscription == subscription && is_sampling item.mode) && nat_lt 0 (length item.queue.entries))
  where
    by : (b : Bool) → DisabledIsEmpty (cond b (record item { released = true }) item)
    by true = none
    by false = none
