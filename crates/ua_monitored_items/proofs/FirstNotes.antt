-- What a message takes is the first of all that there is to tell.
use Rattle.std.proofs.Common.{◌≡◌, ℕ, zero, suc, ◌-◌, ◌≤◌, arith, Bool, true, false, cond, leb, List, [], ◌∷◌, ◌++◌, length, take, Option, Some, None, refl, sym, ap, ◌∙◌, append_assoc, append-nil}
use Rattle.std.proofs.lemmas.Bool.{leb-true, leb-false}
use Rattle.std.proofs.lemmas.List.{length-map, take_all}
use Rattle.std.specs.Prelude.{⊤, fold}
use Rattle.std.specs.Ordering.{nat_cmp}
use Rattle.std.specs.declared.cmp.Ordering.TheVariants.{Greater}
use Rattle.ua_subscription_messages.specs.declared.publishing.MonitoredItemNotification.{MonitoredItemNotification}
use Rattle.ua_monitored_items.specs.Item.{tells, gave, notes_of, note_of, waiting_in}
use Rattle.ua_monitored_items.specs.ItemTables.{NumberedItems, item_at, numbers_of, is_of, with_found, with_item, AreRising}
use Rattle.ua_monitored_items.specs.Items.{Taking, nat_least, taken_from, with_taken, nothing_taken, taken_of}
use Rattle.ua_monitored_items.specs.Taking.{told_at, told_by}
use Rattle.ua_monitored_items.specs.Moves.{told_notes, all_notes, run, NotesAreTheFirst}
use Rattle.ua_monitored_items.specs.declared.item.Item.{Item}
use Rattle.ua_monitored_items.proofs.Following.{set_other}
use Rattle.ua_monitored_items.proofs.Runs.{run_step}
use Rattle.ua_monitored_items.proofs.Tables.{greater, at_itself}
use Rattle.ua_monitored_items.proofs.Apart.{AllGreater, numbers_greater}

abbrev Notes : Type 0
Notes = List MonitoredItemNotification

abbrev no_notes : Notes
no_notes = []

-- ---- the first of two lists

take_nothing : (n : ℕ) → (take n [] ≡ no_notes)
take_nothing zero = refl
take_nothing (suc n) = refl

take_split : (n : ℕ) (xs ys : Notes) → take n (xs ++ ys) ≡ take n xs ++ take (n - length xs) ys
take_split n [] ys =
    let same : n - 0 ≡ n = omega arith in
    rw (take_nothing n, same) refl
take_split zero (x ∷ xs) ys =
    let none : 0 - length (x ∷ xs) ≡ 0 = omega arith in
    rw none refl
take_split (suc n) (x ∷ xs) ys =
    let same : suc n - length (x ∷ xs) ≡ n - length xs = omega arith in
    rw same (ap (λ (zs : Notes). x ∷ zs) (take_split n xs ys))

-- ---- what one item gives

record IsGiven (left k : ℕ) (notes told : Notes) : Type 0 where
  first : take k notes ≡ take left told
  rest : left - k ≡ left - length told

all_told : (left : ℕ) (notes : Notes) (n : ℕ) → n ≡ length notes → IsGiven left (nat_least left n) notes notes
all_told left notes n is = by (leb left n) refl
  where
    by : (b : Bool) → leb left n ≡ b → IsGiven left (cond b left n) notes notes
    by true e = record { first = refl; rest = omega (arith, leb-true left n e, is) }
    by false e =
        let few : length notes ≤ left = omega (arith, leb-false left n e, is) in
        let enough : length notes ≤ n = omega (arith, is) in
        record { first = take_all n notes enough ∙ sym (take_all left notes few); rest = omega (arith, is) }

none_told : (left : ℕ) (notes : Notes) → IsGiven left (nat_least left 0) notes []
none_told left notes = by (leb left 0) refl
  where
    by : (b : Bool) → leb left 0 ≡ b → IsGiven left (cond b left 0) notes []
    by true e =
        let none : left ≡ 0 = omega (arith, leb-true left 0 e) in
        record { first = rw none refl; rest = omega (arith, none) }
    by false e = record { first = sym (take_nothing left); rest = omega arith }

given : (left : ℕ) (item : Item) → IsGiven left (nat_least left (waiting_in item)) (notes_of item) (told_notes item)
given left item = by (tells item)
  where
    by : (b : Bool) → IsGiven left (nat_least left (cond b (length item.queue.entries) 0)) (notes_of item) (cond b (notes_of item) [])
    by true = all_told left (notes_of item) (length item.queue.entries) (sym (length-map item.queue.entries (note_of item.client_handle item.timestamps)))
    by false = none_told left (notes_of item)

-- as many as wait of what an item holds, or fewer, are the first of what it has to tell
pub told_first : (left : ℕ) (found : Option Item) (item : Item) → found ≡ Some item → take (nat_least left (waiting_in item)) (notes_of item) ≡ take left (told_at found)
told_first left found item is = (given left item).first ∙ ap (λ (o : Option Item). take left (told_at o)) (sym is)

pub told_rest : (left : ℕ) (found : Option Item) (item : Item) → found ≡ Some item → left - nat_least left (waiting_in item) ≡ left - length (told_at found)
told_rest left found item is = (given left item).rest ∙ ap (λ (o : Option Item). left - length (told_at o)) (sym is)

-- ---- what the items of some numbers tell

-- the first of them tells, and then the others
pub tells_more : (items : NumberedItems) (front : Notes) (left : ℕ) (number : ℕ) (numbers rest : List ℕ) → rest ≡ number ∷ numbers
    → (front ++ take left (told_at (item_at number items))) ++ take (left - length (told_at (item_at number items))) (told_by items numbers) ≡ front ++ take left (told_by items rest)
tells_more items front left number numbers rest is =
    append_assoc front (take left (told_at (item_at number items))) (take (left - length (told_at (item_at number items))) (told_by items numbers))
    ∙ ap (λ (ns : Notes). front ++ ns) (sym (take_split left (told_at (item_at number items)) (told_by items numbers)))
    ∙ ap (λ (ks : List ℕ). front ++ take left (told_by items ks)) (sym is)

-- nothing is wanted any more, or nobody is left
pub tells_end : (items : NumberedItems) (front all : Notes) (left : ℕ) (rest : List ℕ) → front ++ take left (told_by items rest) ≡ all → take left (told_by items rest) ≡ [] → front ≡ all
tells_end items front all left rest is none = sym (append-nil front) ∙ ap (λ (ns : Notes). front ++ ns) (sym none) ∙ is

pub nobody_tells : (items : NumberedItems) (left : ℕ) (rest : List ℕ) → rest ≡ [] → take left (told_by items rest) ≡ no_notes
nobody_tells items left rest none = ap (λ (ks : List ℕ). take left (told_by items ks)) none ∙ take_nothing left

abbrev IsRisingList : List ℕ → Type 0
IsRisingList [] = ⊤
IsRisingList (k ∷ ks) = AllGreater k ks × IsRisingList ks

others_told : (items : NumberedItems) (k : ℕ) (change : Item → Item) (ks : List ℕ) → AllGreater k ks → told_by (with_item k change items) ks ≡ told_by items ks
others_told items k change [] above = refl
others_told items k change (n ∷ ns) above = rw (same (item_at k items), others_told items k change ns above.1) refl
  where
    same : (found : Option Item) → item_at n (with_found k change items found) ≡ item_at n items
    same None = refl
    same (Some v) = set_other k n (change v) (λ e. omega (arith, above.0, e)) items

first_told : (t : Taking) (ks : List ℕ) → IsRisingList ks → (fold with_taken t ks).notes ≡ t.notes ++ take t.left (told_by t.items ks)
first_told t [] rising = rw (take_nothing t.left) (sym (append-nil t.notes))
first_told t (k ∷ ks) rising = by (item_at k t.items) (λ u. first_told u ks rising.1)
  where
    by : (found : Option Item) → ((u : Taking) → (fold with_taken u ks).notes ≡ u.notes ++ take u.left (told_by u.items ks))
        → (fold with_taken (taken_from t k found) ks).notes ≡ t.notes ++ take t.left (told_at found ++ told_by t.items ks)
    by None more = more t
    by (Some item) more =
        let m = nat_least t.left (waiting_in item) in
        let rest = told_by t.items ks in
        let one = given t.left item in
        more (taken_from t k (Some item))
        ∙ ap (λ (ns : Notes). (t.notes ++ take m (notes_of item)) ++ take (t.left - m) ns) (others_told t.items k (gave m) ks rising.0)
        ∙ append_assoc t.notes (take m (notes_of item)) (take (t.left - m) rest)
        ∙ ap (λ (ns : Notes). t.notes ++ (ns ++ take (t.left - m) rest)) one.first
        ∙ ap (λ (l : ℕ). t.notes ++ (take t.left (told_notes item) ++ take l rest)) one.rest
        ∙ ap (λ (ns : Notes). t.notes ++ ns) (sym (take_split t.left (told_notes item) rest))

-- ---- the numbers of a subscription

numbers_rise : (subscription : ℕ) (es : NumberedItems) → AreRising es → IsRisingList (numbers_of subscription es)
numbers_rise subscription [] rising = tt
numbers_rise subscription (e ∷ es) rising = by (is_of subscription e.1) (numbers_rise subscription es rising.1)
  where
    by : (b : Bool) → IsRisingList (numbers_of subscription es) → IsRisingList (cond b (e.0 ∷ numbers_of subscription es) (numbers_of subscription es))
    by true rest = (numbers_greater subscription e.0 es rising.0, rest)
    by false rest = rest

behind_told : (e : ℕ × Item) (es : NumberedItems) (ks : List ℕ) → AllGreater e.0 ks → told_by (e ∷ es) ks ≡ told_by es ks
behind_told e es [] above = refl
behind_told e es (k ∷ ks) above =
    let behind : nat_cmp k e.0 ≡ Greater = greater k e.0 above.0 in
    let skip : item_at k (e ∷ es) ≡ item_at k es = rw behind refl in
    rw (skip, behind_told e es ks above.1) refl

all_are_made_of : (subscription : ℕ) (es : NumberedItems) → AreRising es → told_by es (numbers_of subscription es) ≡ all_notes subscription es
all_are_made_of subscription [] rising = refl
all_are_made_of subscription (e ∷ es) rising =
    by (is_of subscription e.1) (behind_told e es (numbers_of subscription es) (numbers_greater subscription e.0 es rising.0) ∙ all_are_made_of subscription es rising.1)
  where
    by : (b : Bool) → told_by (e ∷ es) (numbers_of subscription es) ≡ all_notes subscription es
        → told_by (e ∷ es) (cond b (e.0 ∷ numbers_of subscription es) (numbers_of subscription es)) ≡ cond b (told_notes e.1 ++ all_notes subscription es) (all_notes subscription es)
    by true rest =
        let here : item_at e.0 (e ∷ es) ≡ Some e.1 = rw (at_itself e.0) refl in
        ap (λ (o : Option Item). told_at o ++ told_by (e ∷ es) (numbers_of subscription es)) here ∙ ap (λ (ns : Notes). told_notes e.1 ++ ns) rest
    by false rest = rest

-- what is taken of a subscription's items is the first of what they had to tell
pub taken_are_told : (items : NumberedItems) (subscription n : ℕ) → AreRising items → (taken_of items n (numbers_of subscription items)).notes ≡ take n (told_by items (numbers_of subscription items))
taken_are_told items subscription n rising = first_told (nothing_taken items n) (numbers_of subscription items) (numbers_rise subscription items rising)

pub notes_are_the_first : NotesAreTheFirst
notes_are_the_first config moves subscription n =
    let items = (run config moves).state.items in
    let rising = (run_step config moves).sound.rising in
    first_told (nothing_taken items n) (numbers_of subscription items) (numbers_rise subscription items rising)
    ∙ ap (take n) (all_are_made_of subscription items rising)
