-- What each step keeps, all steps keep; and what comes of calls behind others.
use Rattle.std.proofs.Common.{◌≡◌, List, [], ◌∷◌, ◌++◌, append_assoc, append-nil, fold, refl, sym, ap, subst, ◌∙◌}
use Rattle.std.specs.List.{AllByRecursion}
use Rattle.subscription_laws.specs.Runs.{Move, Ran, moved, of_run}

pub fold_keeps : {A B : Type 0} (P : B → Type 0) (f : B → A → B) → ((b : B) (x : A) → P b → P (f b x)) → (xs : List A) (b : B) → P b → P (fold f b xs)
fold_keeps P f step [] b h = h
fold_keeps P f step (x ∷ xs) b h = fold_keeps P f step xs (f b x) (step b x h)

-- and what follows of each follows of all
pub all_so : {X : Type 0} (P Q : X → Type 0) → ((x : X) → P x → Q x) → (xs : List X) → AllByRecursion P xs → AllByRecursion Q xs
all_so P Q so [] h = tt
all_so P Q so (x ∷ xs) h = (so x h.0, all_so P Q so xs h.1)

-- what holds of some holds with none behind them
pub alone : {A : Type 0} (P : List A → Type 0) (xs : List A) → P xs → P (xs ++ [])
alone P xs h = subst P (sym (append-nil xs)) h

-- what comes of later calls comes behind
pub of_run-append : {A : Type 0} (each : Ran → Move → List A) (moves more : List Move) (r : Ran) → of_run each r (moves ++ more) ≡ of_run each r moves ++ of_run each (fold moved r moves) more
of_run-append each [] more r = refl
of_run-append {A} each (m ∷ ms) more r =
    ap (λ (xs : List A). each r m ++ xs) (of_run-append each ms more (moved r m)) ∙ sym (append_assoc (each r m) (of_run each (moved r m) ms) (of_run each (fold moved (moved r m) ms) more))
