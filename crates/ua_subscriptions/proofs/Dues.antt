-- Subscriptions of which none is due.
use Rattle.std.proofs.Common.{◌≡◌, ℕ, Bool, true, false, ◌||◌, List, [], ◌∷◌, Some, None, fold, refl, cond, ap, ◌∙◌}
use Rattle.std.specs.Prelude.{map}
use Rattle.ua_types.specs.declared.moment.Moment.{Moment}
use Rattle.ua_subscriptions.specs.declared.ranks.Rank.{Rank}
use Rattle.ua_subscriptions.specs.declared.subscription.Subscription.{Subscription}
use Rattle.ua_subscriptions.specs.Ranks.{with_rank, rank_of, is_due, with_due, due_numbers, is_any_due, number_of}

none_by : (due rest : Bool) (ranks : List Rank) (rank : Rank) → (due || rest) ≡ false → with_rank ranks (cond due (Some rank) None) ≡ ranks
unfolding with_rank
none_by true rest ranks rank h = absurd (cc)
none_by false rest ranks rank h = refl

rest_by : (due rest : Bool) → (due || rest) ≡ false → rest ≡ false
rest_by true rest h = absurd (cc)
rest_by false rest h = h

none_more : (clock : Moment) (subscriptions : List (ℕ × Subscription)) (ranks : List Rank) → is_any_due clock subscriptions ≡ false → fold (with_due clock) ranks subscriptions ≡ ranks
none_more clock [] ranks h = refl
none_more clock (e ∷ es) ranks h =
    ap (λ rs. fold (with_due clock) rs es) (none_by (is_due clock e.1) (is_any_due clock es) ranks (rank_of e.0 e.1) h)
    ∙ none_more clock es ranks (rest_by (is_due clock e.1) (is_any_due clock es) h)

pub none_due : (clock : Moment) (subscriptions : List (ℕ × Subscription)) → is_any_due clock subscriptions ≡ false → due_numbers clock subscriptions ≡ []
none_due clock subscriptions h = ap (map number_of) (none_more clock subscriptions [] h)
