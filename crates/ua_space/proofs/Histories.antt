-- Going through values from before one after the other, as the loop does.
use Rattle.std.proofs.Common.{◌≡◌, ℕ, ℤ, int_lt, ◌+◌, ◌≤◌, ◌<◌, Bool, true, false, ◌&&◌, List, [], ◌∷◌, length, get_or, drop, Option, Some, None, refl, sym, ◌∙◌, inl, inr, arith}
use Rattle.std.proofs.lemmas.Bool.{cases_Bool, and_parts, false≢true}
use Rattle.std.proofs.lemmas.List.{drop_more, drop_all}
use Rattle.ua_types.specs.declared.moment.Moment.{Moment}
use Rattle.ua_types.specs.declared.data_value.DataValue.{DataValue}
use Rattle.ua_space.specs.Histories.{follows, is_later, are_later, rises}

-- the values that are left rise, and come after the last one
abbrev pub rises_on : Option Moment → List DataValue → Bool
rises_on None vs = rises vs
rises_on (Some last) vs = are_later (Some last) vs && rises vs

less_trans : (a b c : ℤ) → int_lt a b ≡ true → int_lt b c ≡ true → int_lt a c ≡ true
less_trans a b c one two = grind arith

one_later : (a b : Moment) (time : Option Moment) → int_lt a.0 b.0 ≡ true → is_later (Some b) time ≡ true → is_later (Some a) time ≡ true
one_later a b None lt later = later
one_later a b (Some t) lt later = less_trans a.0 b.0 t.0 lt later

pub still_later : (a b : Moment) (vs : List DataValue) → int_lt a.0 b.0 ≡ true → are_later (Some b) vs ≡ true → are_later (Some a) vs ≡ true
still_later a b [] lt all = refl
still_later a b (v ∷ vs) lt all =
    let both = and_parts (is_later (Some b) v.source_time) (are_later (Some b) vs) all in
    rw (one_later a b v.source_time lt both.0, still_later a b vs lt both.1) refl

nothing : (x : Bool) → (x && false) ≡ false
nothing true = refl
nothing false = refl

pub untimed : (last : Option Moment) (vs : List DataValue) (i : ℕ) (v : DataValue) (total : Bool) → i < length vs → v ≡ get_or vs i v → v.source_time ≡ None → rises_on last (drop i vs) ≡ total → total ≡ false
unfolding rises
untimed None vs i v total lt item none so_far = sym so_far ∙ rw (drop_more vs i v lt, ← item, none) refl
untimed (Some last) vs i v total lt item none so_far = sym so_far ∙ rw (drop_more vs i v lt, ← item, none) refl

pub too_early : (last : Option Moment) (vs : List DataValue) (i : ℕ) (v : DataValue) (time : Moment) (total : Bool) → i < length vs → v ≡ get_or vs i v → v.source_time ≡ Some time → follows last time ≡ false → rises_on last (drop i vs) ≡ total → total ≡ false
unfolding rises
too_early None vs i v time total lt item some early so_far = absurd (false≢true (sym early))
too_early (Some last) vs i v time total lt item some early so_far = sym so_far ∙ rw (drop_more vs i v lt, ← item, some, early) refl

goes_on : (last time : Moment) (vs : List DataValue) → int_lt last.0 time.0 ≡ true → (are_later (Some last) vs && (are_later (Some time) vs && rises vs)) ≡ (are_later (Some time) vs && rises vs)
goes_on last time vs lt =
    elim (cases_Bool (are_later (Some time) vs)) [
      | inl later ↦ rw (later, still_later last time vs lt later) refl
      | inr not ↦ rw not (nothing (are_later (Some last) vs))
    ]

pub rises_more : (last : Option Moment) (vs : List DataValue) (i : ℕ) (v : DataValue) (time : Moment) (total : Bool) → i < length vs → v ≡ get_or vs i v → v.source_time ≡ Some time → follows last time ≡ true → rises_on last (drop i vs) ≡ total → rises_on (Some time) (drop (i + 1) vs) ≡ total
unfolding rises
rises_more None vs i v time total lt item some later so_far =
    let one : rises_on None (drop i vs) ≡ rises_on (Some time) (drop (i + 1) vs) = rw (drop_more vs i v lt, ← item, some) refl in
    sym one ∙ so_far
rises_more (Some last) vs i v time total lt item some later so_far =
    let one : rises_on (Some last) (drop i vs) ≡ rises_on (Some time) (drop (i + 1) vs) = rw (drop_more vs i v lt, ← item, some, later) (goes_on last time (drop (i + 1) vs) later) in
    sym one ∙ so_far

pub all_rise : (last : Option Moment) (vs : List DataValue) (i : ℕ) (total : Bool) → length vs ≤ i → rises_on last (drop i vs) ≡ total → total ≡ true
unfolding rises
all_rise None vs i total le so_far = sym so_far ∙ rw (drop_all i vs le) refl
all_rise (Some last) vs i total le so_far = sym so_far ∙ rw (drop_all i vs le) refl
