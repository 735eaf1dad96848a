-- What holds after any calls.
use Rattle.std.proofs.Common.{◌≡◌, ◌<◌, ◌+◌, ℕ, true, false, ◌&&◌, List, [], ◌∷◌, Option, Some, refl, sym, ap, ◌∙◌}
use Rattle.std.proofs.lemmas.Bool.{false_from_ne_true, false≢true}
use Rattle.std.specs.Option.{is_some}
use Rattle.ua_types.specs.Configuration.{Configuration}
use Rattle.ua_state_table.proofs.SteadyLemmas.{patient}
use Rattle.ua_subscriptions.specs.declared.publish_call.PublishCall.{PublishCall}
use Rattle.ua_subscriptions.specs.declared.subscription.Subscription.{Subscription}
use Rattle.subscription_laws.specs.Calm.{IsListed, ListsItsOwn, AreLists, standing_at, AreSteady}
use Rattle.subscription_laws.specs.Histories.{counts_at, life_at, AreLawful}
use Rattle.ua_subscriptions.specs.Ranks.{is_waiting}
use Rattle.subscription_laws.specs.Runs.{Move, run}
use Rattle.ua_subscriptions.specs.Subscriptions.{is_any}
use Rattle.ua_subscriptions.specs.Tables.{part_at, part_of, subscription_at}
use Rattle.subscription_laws.proofs.RunsKept.{run_kept}

pub rows_are_lawful : (config : Configuration) (moves : List Move) → AreLawful (run config moves).rows
rows_are_lawful config moves = (run_kept config moves).calm.lawful

pub all_steady : (config : Configuration) (moves : List Move) → let r = run config moves in AreSteady r.subscriptions.table r.items r.rows
all_steady config moves = (run_kept config moves).calm.steady

pub sessions_list : (config : Configuration) (moves : List Move) → IsListed (run config moves).subscriptions.table
sessions_list config moves = (run_kept config moves).calm.listed

pub lists_numbers : (config : Configuration) (moves : List Move) → let subs = (run config moves).subscriptions in AreLists subs.made subs.table
lists_numbers config moves = (run_kept config moves).within

pub lists_own : (config : Configuration) (moves : List Move) (session : ℕ) → ListsItsOwn (run config moves).subscriptions.table session
lists_own config moves session = (run_kept config moves).own session

-- ---- none waits beside a request

none_left : (calls : List PublishCall) → is_any calls ≡ false → calls ≡ []
none_left [] e = refl
none_left (call ∷ calls) e = absurd (cc)

pub none_beside : (config : Configuration) (moves : List Move) (number session : ℕ) (s : Subscription) → let r = run config moves in subscription_at number r.subscriptions.table.subscriptions ≡ Some s → s.session ≡ Some session →
    is_waiting s ≡ true → (part_at session r.subscriptions.table.sessions).requests ≡ []
none_beside config moves number session s found own waits =
    let t = (run config moves).subscriptions.table in
    none_left (part_at session t.sessions).requests (false_from_ne_true (is_any (part_at session t.sessions).requests) (λ e.
    let queued : (is_some s.session && is_any (part_of s.session t.sessions).requests) ≡ true = ap (λ (o : Option ℕ). is_some o && is_any (part_of o t.sessions).requests) own ∙ e in
    false≢true (sym ((all_steady config moves number s found).calm queued) ∙ waits)))

-- ---- the counts

pub lives_count : (config : Configuration) (moves : List Move) (number : ℕ) (s : Subscription) → let r = run config moves in subscription_at number r.subscriptions.table.subscriptions ≡ Some s →
    (life_at number r.rows ≡ s.lifetime_count) × (s.lifetime + (counts_at number r.rows).started ≡ s.lifetime_count)
lives_count config moves number s found = ((run_kept config moves).calm.lives number s found, (all_steady config moves number s found).life_counted)

pub none_skipped : (config : Configuration) (moves : List Move) (number : ℕ) (s : Subscription) → let r = run config moves in subscription_at number r.subscriptions.table.subscriptions ≡ Some s →
    (counts_at number r.rows).answerable < s.keep_alive_count
none_skipped config moves number s found = patient (standing_at (run config moves).subscriptions.table (run config moves).items (run config moves).rows number s) (all_steady config moves number s found)
