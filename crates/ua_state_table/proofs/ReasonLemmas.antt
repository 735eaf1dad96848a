-- Each row of the state and event but the one that fires has a false condition.
use Rattle.std.proofs.Common.{◌≡◌, ◌≢◌, ◌⊎◌, Bool, true, false, not, ◌&&◌, cond, List, [], ◌∷◌, Option, None, Some, refl, inl, inr, sym, ap, ◌∙◌}
use Rattle.std.specs.Prelude.{filter, find, IsSome}
use Rattle.std.specs.List.{list_all}
use Rattle.ua_state_table.specs.declared.vars.Vars.{Vars}
use Rattle.ua_state_table.specs.declared.event.TableEvent.{TableEvent}
use Rattle.ua_state_table.specs.declared.condition.Condition.{Condition}
use Rattle.ua_state_table.specs.declared.row.RowId.{RowId}
use Rattle.ua_state_table.specs.declared.row.RowId.TheVariants.{C1, C2, N1, N2, N3, N4, N5, N6, L1, L2, L3, K1, K2, K3, K4, K5, G1, G2, G3, G4, G5, G6, G7, G8, G9, G10}
use Rattle.ua_state_table.specs.StateTable.{printed, rows, concerns, conditions_of, fired, fires, first_false}
use Rattle.ua_state_table.specs.Conditions.{holds}

-- where no condition is false, all are true
none_false : (is_true : Condition → Bool) (cs : List Condition) → find (λ c. not (is_true c)) cs ≡ None → list_all is_true cs ≡ true
none_false is_true [] h = refl
none_false is_true (c ∷ cs) h = by (is_true c) refl h (none_false is_true cs)
  where
    by : (b : Bool) → is_true c ≡ b → cond (not b) (Some c) (find (λ c. not (is_true c)) cs) ≡ None → (find (λ c. not (is_true c)) cs ≡ None → list_all is_true cs ≡ true) → (b && list_all is_true cs) ≡ true
    by true e h rest = rest h
    by false e h rest = absurd (cc)

Among : RowId → List RowId → Type 0
Among r [] = ⊥
Among r (x ∷ xs) = (x ≡ r) ⊎ Among r xs

-- what passes a test that nothing passes
none_passes : (p : RowId → Bool) (xs : List RowId) (r : RowId) → filter p xs ≡ [] → Among r xs → p r ≡ true → ⊥
unfolding Among
none_passes p [] r e among passes = among
none_passes p (y ∷ ys) r e among passes = by (p y) refl e among (none_passes p ys r)
  where
    by : (b : Bool) → p y ≡ b → cond b (y ∷ filter p ys) (filter p ys) ≡ [] → (y ≡ r) ⊎ Among r ys → (filter p ys ≡ [] → Among r ys → p r ≡ true → ⊥) → ⊥
    by true at e among rest = absurd (cc)
    by false at e (inl same) rest = absurd (cc (ap p same))
    by false at e (inr among) rest = rest e among passes

-- what passes a test that one thing passes is that
one_passes : (p : RowId → Bool) (xs : List RowId) (x r : RowId) → filter p xs ≡ x ∷ [] → Among r xs → p r ≡ true → r ≡ x
unfolding Among
one_passes p [] x r e among passes = absurd among
one_passes p (y ∷ ys) x r e among passes = by (p y) refl e among (one_passes p ys x r)
  where
    by : (b : Bool) → p y ≡ b → cond b (y ∷ filter p ys) (filter p ys) ≡ x ∷ [] → (y ≡ r) ⊎ Among r ys → (filter p ys ≡ x ∷ [] → Among r ys → p r ≡ true → r ≡ x) → r ≡ x
    by true at e (inl same) rest = let head : y ≡ x = cc in sym same ∙ head
    by true at e (inr among) rest = let tail : filter p ys ≡ [] = cc in absurd (none_passes p ys r tail among passes)
    by false at e (inl same) rest = absurd (cc (ap p same))
    by false at e (inr among) rest = rest e among passes

each_among : (r : RowId) → Among r rows
unfolding Among
each_among C1 = inl refl
each_among C2 = inr (inl refl)
each_among N1 = inr (inr (inl refl))
each_among N2 = inr (inr (inr (inl refl)))
each_among N3 = inr (inr (inr (inr (inl refl))))
each_among N4 = inr (inr (inr (inr (inr (inl refl)))))
each_among N5 = inr (inr (inr (inr (inr (inr (inl refl))))))
each_among N6 = inr (inr (inr (inr (inr (inr (inr (inl refl)))))))
each_among L1 = inr (inr (inr (inr (inr (inr (inr (inr (inl refl))))))))
each_among L2 = inr (inr (inr (inr (inr (inr (inr (inr (inr (inl refl)))))))))
each_among L3 = inr (inr (inr (inr (inr (inr (inr (inr (inr (inr (inl refl))))))))))
each_among K1 = inr (inr (inr (inr (inr (inr (inr (inr (inr (inr (inr (inl refl)))))))))))
each_among K2 = inr (inr (inr (inr (inr (inr (inr (inr (inr (inr (inr (inr (inl refl))))))))))))
each_among K3 = inr (inr (inr (inr (inr (inr (inr (inr (inr (inr (inr (inr (inr (inl refl)))))))))))))
each_among K4 = inr (inr (inr (inr (inr (inr (inr (inr (inr (inr (inr (inr (inr (inr (inl refl))))))))))))))
each_among K5 = inr (inr (inr (inr (inr (inr (inr (inr (inr (inr (inr (inr (inr (inr (inr (inl refl)))))))))))))))
each_among G1 = inr (inr (inr (inr (inr (inr (inr (inr (inr (inr (inr (inr (inr (inr (inr (inr (inl refl))))))))))))))))
each_among G2 = inr (inr (inr (inr (inr (inr (inr (inr (inr (inr (inr (inr (inr (inr (inr (inr (inr (inl refl)))))))))))))))))
each_among G3 = inr (inr (inr (inr (inr (inr (inr (inr (inr (inr (inr (inr (inr (inr (inr (inr (inr (inr (inl refl))))))))))))))))))
each_among G4 = inr (inr (inr (inr (inr (inr (inr (inr (inr (inr (inr (inr (inr (inr (inr (inr (inr (inr (inr (inl refl)))))))))))))))))))
each_among G5 = inr (inr (inr (inr (inr (inr (inr (inr (inr (inr (inr (inr (inr (inr (inr (inr (inr (inr (inr (inr (inl refl))))))))))))))))))))
each_among G6 = inr (inr (inr (inr (inr (inr (inr (inr (inr (inr (inr (inr (inr (inr (inr (inr (inr (inr (inr (inr (inr (inl refl)))))))))))))))))))))
each_among G7 = inr (inr (inr (inr (inr (inr (inr (inr (inr (inr (inr (inr (inr (inr (inr (inr (inr (inr (inr (inr (inr (inr (inl refl))))))))))))))))))))))
each_among G8 = inr (inr (inr (inr (inr (inr (inr (inr (inr (inr (inr (inr (inr (inr (inr (inr (inr (inr (inr (inr (inr (inr (inr (inl refl)))))))))))))))))))))))
each_among G9 = inr (inr (inr (inr (inr (inr (inr (inr (inr (inr (inr (inr (inr (inr (inr (inr (inr (inr (inr (inr (inr (inr (inr (inr (inl refl))))))))))))))))))))))))
each_among G10 = inr (inr (inr (inr (inr (inr (inr (inr (inr (inr (inr (inr (inr (inr (inr (inr (inr (inr (inr (inr (inr (inr (inr (inr (inr (inl refl)))))))))))))))))))))))))

pub others_have_a_reason : (v : Vars) (e : TableEvent) (x r : RowId) → fires v e ≡ x ∷ [] → concerns (printed r).scope (printed r).event v.state e ≡ true → r ≢ x → IsSome (first_false v e r)
unfolding fired first_false
others_have_a_reason v e x r one of_them other = by (first_false v e r) refl
  where
    only : first_false v e r ≡ None → r ≡ x
    only none = one_passes (λ r. concerns (printed r).scope (printed r).event v.state e && list_all (holds v e) (conditions_of r)) rows x r one (each_among r) (rw (of_them, none_false (holds v e) (conditions_of r) none) refl)

    by : (o : Option Condition) → first_false v e r ≡ o → IsSome o
    by (Some c) at = refl
    by None at = absurd (other (only at))
