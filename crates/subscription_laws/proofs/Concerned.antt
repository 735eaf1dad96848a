-- One row fires for each subscription that a call concerns.
use Rattle.std.proofs.Common.{◌≡◌, ℕ, List, [], ◌∷◌, ◌++◌, map, append_assoc, append-nil, fold, refl, sym, ap, ◌∙◌}
use Rattle.std.proofs.lemmas.List.{map-append}
use Rattle.std.specs.List.{flat_map}
use Rattle.ua_types.specs.Configuration.{Configuration}
use Rattle.ua_subscriptions.specs.Calls.{event_of}
use Rattle.ua_subscriptions.specs.Firing.{before_of}
use Rattle.subscription_laws.specs.Concern.{Concern, concern, concern_of, concerns_at, concerned, all_concerned}
use Rattle.subscription_laws.specs.Encounters.{Encounter, Meets, Does, encounters, row_at, rows_at, rows_of}
use Rattle.subscription_laws.specs.Runs.{Move, Ran, start, moved, run, of_run}
use Rattle.subscription_laws.proofs.CallRows.{one_row_each}
use Rattle.subscription_laws.proofs.Firings.{fired_number}

rows_told : (es : List Encounter) → map concern_of (flat_map rows_at es) ≡ flat_map concerns_at es
rows_told [] = refl
rows_told (Meets c ∷ es) =
    ap (λ (xs : List Concern). concern_of (row_at c) ∷ xs) (rows_told es)
    ∙ ap (λ (own : ℕ). concern own (event_of c.round.call) (before_of c) ∷ flat_map concerns_at es) (fired_number c)
rows_told (Does w b ∷ es) = rows_told es

-- what a call adds to what the rows tell
pub one_told : (r : Ran) (m : Move) → map concern_of (moved r m).rows ≡ map concern_of r.rows ++ concerned r m
one_told r m = ap (map concern_of) (one_row_each r m) ∙ map-append concern_of r.rows (rows_of r m) ∙ ap (λ (cs : List Concern). map concern_of r.rows ++ cs) (rows_told (encounters r m))

pub all_from : (moves : List Move) (r : Ran) → map concern_of (fold moved r moves).rows ≡ map concern_of r.rows ++ of_run concerned r moves
all_from [] r = sym (append-nil (map concern_of r.rows))
all_from (m ∷ ms) r =
    all_from ms (moved r m) ∙ ap (λ (cs : List Concern). cs ++ of_run concerned (moved r m) ms) (one_told r m) ∙ append_assoc (map concern_of r.rows) (concerned r m) (of_run concerned (moved r m) ms)

pub one_row_for_each : (config : Configuration) (moves : List Move) → map concern_of (run config moves).rows ≡ all_concerned config moves
one_row_for_each config moves = all_from moves (start config)
