-- The services go on by calls of the subscriptions and their items.
use Rattle.std.proofs.Common.{◌≡◌, ◌⊎◌, inl, inr, ℕ, List, [], ◌∷◌, ◌++◌, fold, Ok, refl, sym, ap, subst, ◌∙◌, append-nil, append_assoc}
use Rattle.std.proofs.lemmas.List.Sums.{fold-append}
use Rattle.ua_messages.specs.declared.type_ids.TheConstants.{WRITE_RESPONSE}
use Rattle.server_messages.specs.declared.fired.Fired.{Fired}
use Rattle.server_messages.specs.declared.reply.Reply.{Reply}
use Rattle.server_messages.specs.declared.request.Request.{Request}
use Rattle.server_messages.specs.declared.setting.Setting.{Setting}
use Rattle.ua_service_messages.specs.declared.writing.WriteValue.{WriteValue}
use Rattle.ua_read_write.specs.Writing.{write_of}
use Rattle.subscription_laws.specs.Runs.{Move, Ran, ran_by, moved}
use Rattle.ua_subscriptions.specs.SubscriptionCalls.{Said}
use Rattle.server_laws.specs.Moving.{ran_at, StandIn, ComesOn, ComesOnWith, ComesOnBy}
use Rattle.server_laws.specs.EventMoves.{serving_moves, ticking_moves, forgetting_moves, shutting_moves}
use Rattle.ua_services.specs.Services.{serving_of, ticking_of, shutting_of, forgotten}
use Rattle.ua_services.specs.declared.services.Services.{Services}
use Rattle.ua_services.specs.Serving.{Serving, Given, rows_of, reply_of}
use Rattle.ua_services.specs.StatusResults.{statuses_body}
use Rattle.ua_services.specs.SubServing.{called}
use Rattle.ua_services.specs.Write.{stored_written, with_written, write_listed}
use Rattle.ua_services.specs.declared.caller.Caller.{Caller}
use Rattle.ua_services.proofs.WriteLemmas.{stores_given}
use Rattle.ua_services.proofs.SubLemmas.{rows_joined, no_rows, rows_of_round}
use Rattle.server_laws.proofs.WalkingServices.{FollowsServices, served, ticking, shutting}

stand_joined : (xs gs ys hs : List Reply) → StandIn xs gs → StandIn ys hs → StandIn (xs ++ ys) (gs ++ hs)
stand_joined [] [] ys hs p q = q
stand_joined [] (g ∷ gs) [] hs p q = tt
stand_joined [] (g ∷ gs) (y ∷ ys) hs p q = inr (stand_joined [] gs (y ∷ ys) hs tt q)
stand_joined (x ∷ xs) [] ys hs p q = absurd p
stand_joined (x ∷ xs) (g ∷ gs) ys hs p q = by p (λ rest. stand_joined xs gs ys hs rest q) (λ rest. stand_joined (x ∷ xs) gs ys hs rest q)
  where
    by : ((x ≡ g) × StandIn xs gs) ⊎ StandIn (x ∷ xs) gs → (StandIn xs gs → StandIn (xs ++ ys) (gs ++ hs)) → (StandIn (x ∷ xs) gs → StandIn (x ∷ xs ++ ys) (gs ++ hs)) →
        ((x ≡ g) × StandIn (xs ++ ys) (gs ++ hs)) ⊎ StandIn (x ∷ xs ++ ys) (gs ++ hs)
    by (inl (same, rest)) f g = inl (same, f rest)
    by (inr rest) f g = inr (g rest)

all_stand : (xs : List Reply) → StandIn xs xs
all_stand [] = tt
all_stand (x ∷ xs) = inl (refl, all_stand xs)

-- answers behind other replies
stand_behind : (front xs : List Reply) → StandIn xs (front ++ xs)
stand_behind front xs = stand_joined [] front xs xs tt (all_stand xs)

nothing_more : (state : Services) (so_far : List Fired) (replies : List Reply) → ran_at state so_far replies ≡ ran_at state (so_far ++ []) (replies ++ [])
nothing_more state so_far replies = ap (λ (rows : List Fired). ran_at state rows replies) (sym (append-nil so_far)) ∙ ap (ran_at state (so_far ++ [])) (sym (append-nil replies))

-- no call
pub still : (state : Services) {given : List Reply} → ComesOnWith state [] state [] given
still state so_far replies = record { answers = []; left = nothing_more state so_far replies; among = tt }

-- calls behind others
pub then_with : (before mid after : Services) (first_moves later : List Move) (xs ys : List Fired) (given more : List Reply) → ComesOnWith before first_moves mid xs given → ComesOnWith mid later after ys more → ComesOnWith before (first_moves ++ later) after (xs ++ ys) (given ++ more)
then_with before mid after first_moves later xs ys given more p q so_far replies =
    let first = p so_far replies in
    let second = q (so_far ++ xs) (replies ++ first.answers) in
    record {
      answers = first.answers ++ second.answers;
      left = fold-append moved (ran_at before so_far replies) first_moves later
          ∙ ap (λ (r : Ran). fold moved r later) first.left
          ∙ second.left
          ∙ ap (λ (rows : List Fired). ran_at after rows ((replies ++ first.answers) ++ second.answers)) (append_assoc so_far xs ys)
          ∙ ap (ran_at after (so_far ++ (xs ++ ys))) (append_assoc replies first.answers second.answers);
      among = stand_joined first.answers given second.answers more first.among second.among;
    }

-- and without it
pub goes_on : (before : Services) (moves : List Move) (after : Services) (rows : List Fired) (given : List Reply) → ComesOnWith before moves after rows given → ComesOn before moves after rows
goes_on before moves after rows given p so_far replies = let w = p so_far replies in record { replied = replies ++ w.answers; left = w.left }

-- one call of the subscriptions
one_call : {A : Type 0} (state : Services) (own : A → List Reply) (s : Said A) (move : Move) →
    ((so_far : List Fired) (replies : List Reply) → moved (ran_at state so_far replies) move ≡ ran_by (ran_at state so_far replies) s) → ComesOnBy state (move ∷ []) (called state own s)
one_call state own s move f so_far replies =
    let round = s.outcome.stage.round in
    record {
      answers = round.replies;
      left = f so_far replies ∙ ap (λ (rows : List Fired). ran_at (called state own s).state (so_far ++ rows) (replies ++ round.replies)) (sym (rows_of_round state.subscriptions.halted round));
      among = stand_behind (own s.outcome.answer) round.replies;
    }

follows : (setting : Setting) → FollowsServices setting ComesOnBy
follows setting = record {
  still = λ state replies spends is_refused. subst (λ (rows : List Fired). ComesOnWith state [] state rows replies) (sym (no_rows spends)) (still state);
  steps = λ state step moves s p. p;
  calls = λ A state own s move e. one_call state own s move e;
  next = λ state moves later s more p q.
      let t : Serving = more s.state in
      subst (λ (rows : List Fired). ComesOnWith state (moves ++ later) t.state rows (s.replies ++ t.replies)) (sym (rows_joined s.occurrences t.occurrences))
      (then_with state s.state t.state moves later (rows_of s.occurrences) (rows_of t.occurrences) s.replies t.replies p q);
  ends = λ state moves s p. p;
}

pub serving_on : (setting : Setting) (request : Request) (state : Services) → ComesOnBy state (serving_moves setting request state) (serving_of setting request state)
serving_on setting = served setting ComesOnBy (follows setting) writes
  where
    writes : (caller : Caller) (state : Services) (values : List WriteValue) → ComesOnBy state (Move.Show (write_of setting.clock state.space.nodes values).changed ∷ []) (write_listed setting caller state (Ok values))
    writes caller state values =
        let writing = write_of setting.clock state.space.nodes values in
        let reply = reply_of caller (statuses_body WRITE_RESPONSE setting caller writing.statuses) in
        subst (λ (rows : List Fired). ComesOnWith state (Move.Show writing.changed ∷ []) (with_written state writing) rows (reply ∷ []))
        (ap (λ (g : Given). g.served.rows) (stores_given state reply (stored_written setting.config.has_store state writing)))
        (λ so_far replies. record { answers = []; left = nothing_more (with_written state writing) so_far replies; among = tt })

pub shutting_on : (setting : Setting) (state : Services) → ComesOnBy state (shutting_moves setting) (shutting_of setting state)
shutting_on setting = shutting setting ComesOnBy (follows setting)

pub ticking_on : (setting : Setting) (state : Services) → ComesOnBy state (ticking_moves setting state) (ticking_of setting state)
ticking_on setting = ticking setting ComesOnBy (follows setting)

-- a connection that is forgotten is one call
pub forgotten_on : (state : Services) (conn : ℕ) → ComesOn state (forgetting_moves conn) (forgotten state conn) []
forgotten_on state conn so_far replies = record {
  replied = replies;
  left = ap (λ (rows : List Fired). ran_at (forgotten state conn) rows replies) (sym (append-nil so_far));
}
