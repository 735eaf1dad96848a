-- Whether the items of a subscription have values to send, while those of another change, and while values are shown.
use Rattle.std.proofs.Common.{◌≡◌, ◌≢◌, ◌⊎◌, inl, inr, ℕ, arith, Bool, true, false, cond, ◌||◌, List, [], ◌∷◌, ◌++◌, length, Option, Some, None, refl, sym, ap, ◌∙◌, subst}
use Rattle.std.proofs.lemmas.Bool.{ne_eqb, eqb-true, or_right}
use Rattle.std.proofs.lemmas.List.Sums.{fold-append}
use Rattle.std.specs.BTreeMap.{is_at}
use Rattle.std.specs.Map.{set_value}
use Rattle.std.specs.Ordering.{nat_cmp}
use Rattle.std.specs.Prelude.{◌==◌, ◌&&◌, fold, nat_lt}
use Rattle.collections.proofs.NumberMaps.{same_number}
use Rattle.ua_types.specs.Configuration.{Configuration}
use Rattle.ua_types.specs.declared.data_value.DataValue.{DataValue}
use Rattle.ua_read_write.specs.declared.writing.Change.{Change}
use Rattle.ua_item_queue.specs.ItemQueue.{changed, queue_after, marked_front}
use Rattle.ua_item_queue.specs.ItemQueue.QueueChange.{Queued, FrontDropped, NewestReplaced, OnlyReplaced}
use Rattle.ua_item_queue.specs.ItemQueue.QueueMove.{Sample}
use Rattle.ua_item_queue.specs.declared.entry.Entry.{Entry}
use Rattle.ua_monitored_items.specs.Item.{is_reporting, is_sampling, tells, takes, queued, seen, released_in}
use Rattle.ua_monitored_items.specs.ItemTables.{NumberedItems, item_at, is_of, numbers_of, with_found, with_item, AreRising}
use Rattle.ua_monitored_items.specs.Items.{ItemsState, no_items, is_available, any_waits, waits_in, Visit, visits_of, visited, sampled_items}
use Rattle.ua_monitored_items.specs.Moves.{Move, Moved, moved, moved_on, run, OthersStay, IsOfSubscription}
use Rattle.ua_monitored_items.specs.Moves.Move.{Show}
use Rattle.ua_monitored_items.specs.Releases.{with_release, all_released, sample_releases, shown_one, shown}
use Rattle.ua_monitored_items.specs.declared.item.Item.{Item}
use Rattle.ua_monitored_items.specs.declared.releases.Release.{Release}
use Rattle.ua_monitored_items.proofs.Apart.{subscriptions_stay_apart}
use Rattle.ua_monitored_items.proofs.Runs.{run_step}
use Rattle.ua_monitored_items.proofs.Releasing.{there_released}
use Rattle.ua_monitored_items.proofs.Tables.{there_seen}
use Rattle.subscription_laws.specs.Calm.{AreReached}
use Rattle.ua_subscriptions.proofs.Choosing.{either}
use Rattle.subscription_laws.proofs.Entries.{AreFound, all_found, same_or_not, set_here, set_other}
use Rattle.subscription_laws.proofs.Folds.{fold_keeps}

-- an item of a subscription that has a value to send
pub record Waiting (items : NumberedItems) (subscription : ℕ) : Type 0 where
  pub number : ℕ
  pub item : Item
  pub found : item_at number items ≡ Some item
  pub own : is_of subscription item ≡ true
  pub waits : waits_in (Some item) ≡ true

-- one whose number is among those that are asked
waits_among : (items es : NumberedItems) (subscription number : ℕ) (item : Item) → item_at number es ≡ Some item → is_of subscription item ≡ true → waits_in (item_at number items) ≡ true →
    any_waits items (numbers_of subscription es) ≡ true
waits_among items [] subscription number item found own waits = absurd (cc)
waits_among items (e ∷ es) subscription number item found own waits = by (is_at (nat_cmp number) e.0) refl found (λ it. waits_among items es subscription number item it own waits)
  where
    rest : (b : Bool) → any_waits items (numbers_of subscription es) ≡ true → any_waits items (cond b (e.0 ∷ numbers_of subscription es) (numbers_of subscription es)) ≡ true
    rest true h = or_right (waits_in (item_at e.0 items)) _ h
    rest false h = h

    here : (b : Bool) → is_of subscription e.1 ≡ b → b ≡ true → waits_in (item_at e.0 items) ≡ true → any_waits items (cond b (e.0 ∷ numbers_of subscription es) (numbers_of subscription es)) ≡ true
    here true is said h = rw h refl
    here false is said h = absurd (cc)

    by : (b : Bool) → is_at (nat_cmp number) e.0 ≡ b → cond b (Some e.1) (item_at number es) ≡ Some item → (item_at number es ≡ Some item → any_waits items (numbers_of subscription es) ≡ true) → any_waits items (numbers_of subscription (e ∷ es)) ≡ true
    by true is it more =
        let same : e.1 ≡ item = cc in
        here (is_of subscription e.1) refl (ap (is_of subscription) same ∙ own)
        (ap (λ (n : ℕ). waits_in (item_at n items)) (sym (same_number number e.0 is)) ∙ waits)
    by false is it more = rest (is_of subscription e.1) (more it)

pub is_there : (s : ItemsState) (subscription : ℕ) → Waiting s.items subscription → is_available s subscription ≡ true
is_there s subscription w = waits_among s.items s.items subscription w.number w.item w.found w.own (ap waits_in w.found ∙ w.waits)

-- and the other way round
among_waits : (items es : NumberedItems) (subscription : ℕ) → AreFound items es → any_waits items (numbers_of subscription es) ≡ true → Waiting items subscription
among_waits items [] subscription found h = absurd (cc)
among_waits items (e ∷ es) subscription found h = by (is_of subscription e.1) refl h (among_waits items es subscription found.1)
  where
    here : (b : Bool) → waits_in (item_at e.0 items) ≡ b → is_of subscription e.1 ≡ true → (b || any_waits items (numbers_of subscription es)) ≡ true → (any_waits items (numbers_of subscription es) ≡ true → Waiting items subscription) → Waiting items subscription
    here true is own k more = record { number = e.0; item = e.1; found = found.0; own = own; waits = sym (ap waits_in found.0) ∙ is }
    here false is own k more = more k

    by : (b : Bool) → is_of subscription e.1 ≡ b → any_waits items (cond b (e.0 ∷ numbers_of subscription es) (numbers_of subscription es)) ≡ true → (any_waits items (numbers_of subscription es) ≡ true → Waiting items subscription) → Waiting items subscription
    by true own k more = here (waits_in (item_at e.0 items)) refl own k more
    by false own k more = more k

pub waiting : (s : ItemsState) (subscription : ℕ) → AreRising s.items → is_available s subscription ≡ true → Waiting s.items subscription
waiting s subscription rising h = among_waits s.items s.items subscription (all_found s.items rising) h

-- ---- the items of another subscription change

not_own : (a b : ℕ) (item : Item) → a ≢ b → is_of a item ≡ true → is_of b item ≡ false
not_own a b item other own = ne_eqb item.subscription b (λ is. other (sym (eqb-true item.subscription a own) ∙ is))

pub stays_available : (other subscription : ℕ) (before after : ItemsState) → subscription ≢ other → AreRising before.items → OthersStay other before.items after.items →
    is_available before subscription ≡ true → is_available after subscription ≡ true
stays_available other subscription before after apart rising stay h =
    let w = waiting before subscription rising h in
    is_there after subscription (record { number = w.number; item = w.item; found = stay.0 w.number w.item w.found (not_own subscription other w.item apart w.own); own = w.own; waits = w.waits })

-- ---- items that were reached

rising_of : (config : Configuration) (moves : List Move) (items : ItemsState) → items ≡ (run config moves).state → AreRising items.items
rising_of config moves items left = subst (λ (s : ItemsState). AreRising s.items) (sym left) (run_step config moves).sound.rising

pub reached_rise : (items : ItemsState) → AreReached items → AreRising items.items
reached_rise items r = rising_of r.config r.moves items r.left

one_more : (config : Configuration) (moves : List Move) (m : Move) → (run config (moves ++ m ∷ [])).state ≡ (moved (run config moves).state m).state
one_more config moves m = ap (λ (x : Moved). x.state) (fold-append moved_on (record { state = no_items config; queue_moves = [] }) moves (m ∷ []))

pub reached_on : (items : ItemsState) (m : Move) → AreReached items → AreReached (moved items m).state
reached_on items m r = record {
  config = r.config;
  moves = r.moves ++ m ∷ [];
  left = ap (λ (s : ItemsState). (moved s m).state) r.left ∙ sym (one_more r.config r.moves m);
}

pub reached_stay : (subscription : ℕ) (items : ItemsState) (m : Move) → IsOfSubscription subscription m → AreReached items → OthersStay subscription items.items (moved items m).state.items
reached_stay subscription items m of r =
    let after : (moved items m).state ≡ (run r.config (r.moves ++ m ∷ [])).state = ap (λ (s : ItemsState). (moved s m).state) r.left ∙ sym (one_more r.config r.moves m) in
    subst (λ (s : ItemsState). OthersStay subscription s.items (moved items m).state.items) (sym r.left)
    (subst (λ (s : ItemsState). OthersStay subscription (run r.config r.moves).state.items s.items) (sym after) (subscriptions_stay_apart r.config r.moves m subscription of))

-- ---- values that are shown

filled : {V : Type 0} (es : List (Entry V)) (e : Entry V) → nat_lt 0 (length (es ++ e ∷ [])) ≡ true
filled [] e = refl
filled (x ∷ es) e = grind arith

marked_filled : {V : Type 0} (es : List (Entry V)) → nat_lt 0 (length es) ≡ true → nat_lt 0 (length (marked_front es)) ≡ true
marked_filled [] h = h
marked_filled (e ∷ es) h = h

-- a queue with a value has one after another is queued
sample_fills : {V : Type 0} (q : List (Entry V)) (size : ℕ) (oldest : Bool) (v : V) → nat_lt 0 (length q) ≡ true → nat_lt 0 (length (queue_after q (Sample size oldest v))) ≡ true
sample_fills [] size oldest v h = absurd (cc)
sample_fills (e ∷ es) size oldest v h = by (nat_lt (length (e ∷ es)) size) (nat_lt 1 size) oldest
  where
    by : (a b c : Bool) → nat_lt 0 (length (fold changed (e ∷ es) (cond a (Queued v ∷ []) (cond b (cond c (Queued v ∷ FrontDropped ∷ []) (NewestReplaced v ∷ [])) (OnlyReplaced v ∷ []))))) ≡ true
    by true b c = filled (e ∷ es) _
    by false true true = marked_filled (es ++ _ ∷ []) (filled es _)
    by false true false = filled _ _
    by false false c = refl

queued_waits : (v : DataValue) (item : Item) → waits_in (Some item) ≡ true → waits_in (Some (queued v item)) ≡ true
queued_waits v item h = by (tells item) h
  where
    by : (b : Bool) → nat_lt 0 (cond b (length item.queue.entries) 0) ≡ true → nat_lt 0 (cond b (length (queue_after item.queue.entries (Sample item.queue.size item.queue.discard_oldest v))) 0) ≡ true
    by true k = sample_fills item.queue.entries item.queue.size item.queue.discard_oldest v k
    by false k = k

seen_waits : (v : DataValue) (item : Item) → waits_in (Some item) ≡ true → waits_in (Some (seen v item)) ≡ true
seen_waits v item h = either (λ (x : Item). waits_in (Some x) ≡ true) (takes item v) (queued v item) item (queued_waits v item h) h

-- a release makes no value wait less
released_waits : (own : ℕ) (item : Item) → waits_in (Some item) ≡ true → waits_in (Some (released_in own item)) ≡ true
released_waits own item h =
    either (λ (x : Item). waits_in (Some x) ≡ true) ((item.subscription == own && is_sampling item.mode) && nat_lt 0 (length item.queue.entries)) (record item { released = true }) item (told (is_reporting item.mode) item.released h) h
  where
    told : (a b : Bool) → nat_lt 0 (cond (a || b) (length item.queue.entries) 0) ≡ true → nat_lt 0 (cond (a || true) (length item.queue.entries) 0) ≡ true
    told true b k = k
    told false true k = k
    told false false k = absurd (cc)

-- something is done with one item that takes no value away
module _ (at : ℕ) (change : Item → Item) (waits : (item : Item) → waits_in (Some item) ≡ true → waits_in (Some (change item)) ≡ true) (stays : (item : Item) → (change item).subscription ≡ item.subscription) where
  change_waits : (items : NumberedItems) (subscription : ℕ) → Waiting items subscription → Waiting (with_item at change items) subscription
  change_waits items subscription w = by (item_at at items) refl
    where
      there : (old : Item) → item_at at items ≡ Some old → (at ≡ w.number) ⊎ (at ≢ w.number) → Waiting (set_value (is_at (nat_cmp at)) items (change old)) subscription
      there old found (inl same) =
          let again : Some old ≡ Some w.item = sym found ∙ ap (λ (n : ℕ). item_at n items) same ∙ w.found in
          let it : old ≡ w.item = cc in
          record {
            number = at;
            item = change old;
            found = set_here at old (change old) items found;
            own = ap (λ (s : ℕ). s == subscription) (stays old ∙ ap (λ (i : Item). i.subscription) it) ∙ w.own;
            waits = waits old (ap (λ (i : Item). waits_in (Some i)) it ∙ w.waits);
          }
      there old found (inr other) = record {
        number = w.number;
        item = w.item;
        found = set_other at w.number (change old) (λ same. other (sym same)) items ∙ w.found;
        own = w.own;
        waits = w.waits;
      }

      by : (o : Option Item) → item_at at items ≡ o → Waiting (with_found at change items o) subscription
      by None found = w
      by (Some old) found = there old found (same_or_not at w.number)

all_visits_wait : (items : NumberedItems) (subscription : ℕ) (visits : List Visit) → Waiting items subscription → Waiting (sampled_items items visits) subscription
all_visits_wait items subscription visits =
    fold_keeps (λ (es : NumberedItems). Waiting es subscription) visited (λ es v. change_waits v.number (seen v.value) (seen_waits v.value) (λ item. (there_seen v.value item).subscription) es subscription) visits items

all_releases_wait : (items : NumberedItems) (subscription : ℕ) (releases : List Release) → Waiting items subscription → Waiting (all_released items releases) subscription
all_releases_wait items subscription releases =
    fold_keeps (λ (es : NumberedItems). Waiting es subscription) with_release
    (λ es r. change_waits r.number (released_in r.subscription) (released_waits r.subscription) (λ item. (there_released r.subscription item).subscription) es subscription) releases items

all_shown_wait : (items : NumberedItems) (subscription : ℕ) (changed : List Change) → Waiting items subscription → Waiting (shown items changed) subscription
all_shown_wait items subscription changed =
    fold_keeps (λ (es : NumberedItems). Waiting es subscription) shown_one
    (λ es c w. let visits = visits_of es c in all_releases_wait (sampled_items es visits) subscription (sample_releases es visits) (all_visits_wait es subscription visits w)) changed items

-- values that are shown take none away
pub shown_available : (items : ItemsState) (changed : List Change) (subscription : ℕ) → AreRising items.items → is_available items subscription ≡ true → is_available (moved items (Show changed)).state subscription ≡ true
shown_available items changed subscription rising h =
    is_there (moved items (Show changed)).state subscription (all_shown_wait items.items subscription changed (waiting items subscription rising h))
