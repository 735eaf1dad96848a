-- What a row leaves of the counts that the rows tell.
use Rattle.std.proofs.Common.{◌≡◌, ◌≢◌, ℕ, ◌+◌, Bool, true, false, cond, List, [], ◌∷◌, ◌++◌, fold, refl, sym, ap, ◌∙◌}
use Rattle.std.proofs.lemmas.Bool.{ne_eqb, eq-eqb, cond-true, cond-false}
use Rattle.std.proofs.lemmas.List.Sums.{fold-append}
use Rattle.std.specs.Prelude.{◌==◌}
use Rattle.server_messages.specs.declared.fired.Fired.{Fired}
use Rattle.ua_state_table.specs.Doing as table
use Rattle.ua_state_table.specs.Doing.{Standing, Circumstances, answerable_after}
use Rattle.ua_state_table.specs.StateTable.{actions_of}
use Rattle.ua_state_table.specs.declared.action.Action.{Action}
use Rattle.ua_state_table.specs.declared.action.Action.TheVariants.{Initialise}
use Rattle.ua_state_table.specs.declared.row.RowId.{RowId}
use Rattle.ua_state_table.specs.declared.row.RowId.TheVariants.{C1, C2, N1, N2, N3, N4, N5, N6, L1, L2, L3, K1, K2, K3, K4, K5, G1, G2, G3, G4, G5, G6, G7, G8, G9, G10}
use Rattle.ua_subscriptions.specs.Firing.{vars_in}
use Rattle.subscription_laws.specs.Histories.{started_by, counts_after, no_counts, counted_for, counts_at, sets_life, life_after, life_for, life_at}
use Rattle.ua_subscriptions.specs.Scenes.{Scene, row_done}
use Rattle.subscription_laws.specs.Standings.{Counts, standing_in, circumstances, row_counts}

-- ---- one row more

pub counts_own : (n : ℕ) (rows : List Fired) (f : Fired) → f.subscription ≡ n → counts_at n (rows ++ f ∷ []) ≡ counts_after (counts_at n rows) f
counts_own n rows f is = fold-append (counted_for n) no_counts rows (f ∷ []) ∙ cond-true (f.subscription == n) _ _ (eq-eqb f.subscription n is)

pub counts_other : (n : ℕ) (rows : List Fired) (f : Fired) → n ≢ f.subscription → counts_at n (rows ++ f ∷ []) ≡ counts_at n rows
counts_other n rows f other = fold-append (counted_for n) no_counts rows (f ∷ []) ∙ cond-false (f.subscription == n) _ _ (ne_eqb f.subscription n (λ e. other (sym e)))

pub life_own : (n : ℕ) (rows : List Fired) (f : Fired) → f.subscription ≡ n → life_at n (rows ++ f ∷ []) ≡ life_after (life_at n rows) f
life_own n rows f is = fold-append (life_for n) 0 rows (f ∷ []) ∙ cond-true (f.subscription == n) _ _ (eq-eqb f.subscription n is)

pub life_other : (n : ℕ) (rows : List Fired) (f : Fired) → n ≢ f.subscription → life_at n (rows ++ f ∷ []) ≡ life_at n rows
life_other n rows f other = fold-append (life_for n) 0 rows (f ∷ []) ∙ cond-false (f.subscription == n) _ _ (ne_eqb f.subscription n (λ e. other (sym e)))

-- ---- the counts are those that the table tells

one_started : (c : Circumstances) (s : Standing) (action : Action) → (table.done c s action).started ≡ started_by s.started action
one_started c s Initialise = refl
one_started c s action = refl

all_started : (actions : List Action) (c : Circumstances) (s : Standing) → (fold (table.done c) s actions).started ≡ fold started_by s.started actions
all_started [] c s = refl
all_started (a ∷ actions) c s = all_started actions c (table.done c s a) ∙ ap (λ (n : ℕ). fold started_by n actions) (one_started c s a)

pub counts_of_row : (r : RowId) (c : Scene) (counts : Counts) →
    row_counts r c counts ≡ record { started = fold started_by counts.started (actions_of r); answerable = answerable_after r (vars_in c).queued counts.answerable }
counts_of_row r c counts =
    ap (λ (n : ℕ). record { started = n; answerable = answerable_after r (vars_in c).queued counts.answerable })
    (all_started (actions_of r) (circumstances r c (row_done r c)) (standing_in c.round.own c counts))

-- ---- what the life counter was set to

-- a row that sets it counts the timers that it started itself
started_again : (r : RowId) (n : ℕ) → sets_life r ≡ true → fold started_by n (actions_of r) ≡ fold started_by 0 (actions_of r)
started_again C2 n e = refl
started_again N2 n e = refl
started_again N3 n e = refl
started_again N4 n e = refl
started_again L1 n e = refl
started_again L2 n e = refl
started_again K2 n e = refl
started_again K3 n e = refl
started_again G1 n e = refl
started_again G2 n e = refl
started_again G3 n e = refl
started_again G4 n e = refl
started_again G7 n e = refl
started_again r n e = absurd (cc)

-- and no other row changes the lifetime count
same_count : (r : RowId) (c : Scene) → sets_life r ≡ false → (row_done r c).subscription.lifetime_count ≡ c.subscription.lifetime_count
unfolding row_done
same_count C1 c e = refl
same_count N1 c e = refl
same_count N5 c e = refl
same_count N6 c e = refl
same_count L3 c e = refl
same_count K1 c e = refl
same_count K4 c e = refl
same_count K5 c e = refl
same_count G5 c e = refl
same_count G6 c e = refl
same_count G8 c e = refl
same_count G9 c e = refl
same_count G10 c e = refl
same_count r c e = absurd (cc)

pub life_of_row : (c : Scene) (f : Fired) (counts : Counts) (lifetime : ℕ) → f.after.lifetime ≡ (row_done f.row c).subscription.lifetime → (sets_life f.row ≡ false → lifetime ≡ c.subscription.lifetime_count) →
    (row_done f.row c).subscription.lifetime + (counts_after counts f).started ≡ (row_done f.row c).subscription.lifetime_count → life_after lifetime f ≡ (row_done f.row c).subscription.lifetime_count
life_of_row c f counts lifetime is set counted = by (sets_life f.row) refl
  where
    by : (b : Bool) → sets_life f.row ≡ b → cond b (f.after.lifetime + (counts_after no_counts f).started) lifetime ≡ (row_done f.row c).subscription.lifetime_count
    by true e =
        let again : (counts_after counts f).started ≡ (counts_after no_counts f).started = started_again f.row counts.started e in
        ap (λ (n : ℕ). n + (counts_after no_counts f).started) is ∙ ap (λ (n : ℕ). (row_done f.row c).subscription.lifetime + n) (sym again) ∙ counted
    by false e = set e ∙ sym (same_count f.row c e)
