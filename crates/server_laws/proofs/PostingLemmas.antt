-- The answers of a run are posted, and all that is posted goes out.
use Rattle.std.proofs.Common.{◌≡◌, ℕ, List, [], ◌∷◌, ◌++◌, map, append-nil, append_assoc, fold, refl, sym, ap, subst, ◌∙◌}
use Rattle.std.proofs.lemmas.List.{map-append}
use Rattle.std.proofs.lemmas.List.Concat.{flat_map-append}
use Rattle.std.proofs.lemmas.List.Sums.{fold-append}
use Rattle.std.specs.List.{flat_map}
use Rattle.ua_types.specs.Configuration.{Configuration}
use Rattle.ua_types.specs.Moments.{later}
use Rattle.ua_space.specs.Nodes.{SpaceState}
use Rattle.server_messages.specs.declared.fired.Fired.{Fired}
use Rattle.server_messages.specs.declared.out.Out.{Out}
use Rattle.server_messages.specs.declared.reply.Reply.{Reply}
use Rattle.server_messages.specs.declared.setting.Setting.{Setting}
use Rattle.server_connections.specs.Delivering.{delivered, delivery_of}
use Rattle.server_connections.specs.Connecting.{Connections}
use Rattle.subscription_laws.specs.Runs.{Move, Ran, start, moved}
use Rattle.subscription_laws.proofs.TellingRuns.{all_are_told}
use Rattle.ua_services.specs.Services.{serving_of, ticking_of, shutting_of, forgotten}
use Rattle.ua_services.specs.Serving.{Serving, rows_of}
use Rattle.ua_services.specs.declared.services.Services.{Services}
use Rattle.server_core.specs.Coherent.{reached}
use Rattle.server_core.specs.Effects.{Effect, doing, fired_of, outs_of}
use Rattle.server_core.specs.World.{opening}
use Rattle.server_core.specs.declared.event.Event.{Event}
use Rattle.server_core.specs.declared.out.Step.{Step}
use Rattle.server_core.specs.declared.parts.Core.{Core}
use Rattle.server_core.proofs.EffectLemmas.{fired_of-append, fired_of_doing, fired_of_effects, outs_of-append, shown_effects}
use Rattle.server_laws.specs.Dealings.{Dealing, with_clock, dealings_of}
use Rattle.server_laws.specs.EventMoves.{serving_moves, ticking_moves, shutting_moves, forgetting_moves, moves_at, moves_of}
use Rattle.server_laws.specs.Moving.{ran_at, StandIn, ComesOn, ComesOnWith}
use Rattle.server_laws.specs.Postings.{Posting, reply_posted, postings, posted_at, posted, GoOut, AnswersGoOut}
use Rattle.server_laws.proofs.ApartLemmas.{CameBy, stays_fresh, tick_fresh, end_fresh}
use Rattle.server_laws.proofs.MovingLemmas.{still, then_with, goes_on, serving_on, ticking_on, shutting_on}
use Rattle.server_laws.proofs.OtherSessions.{IsFresh}
use Rattle.server_laws.proofs.Walking.{effects_served, Follows, HasGone, walked}

-- ---- going out

go_behind : (ps : List Posting) (before outs : List Out) → GoOut ps outs → GoOut ps (before ++ outs)
go_behind [] before outs h = tt
go_behind (p ∷ ps) before outs h = (before ++ h.0, h.1, ap (λ (os : List Out). before ++ os) h.2 ∙ sym (append_assoc before h.0 (p.outs ++ h.1)), h.3)

go_both : (ps qs : List Posting) (xs ys : List Out) → GoOut ps xs → GoOut qs ys → GoOut (ps ++ qs) (xs ++ ys)
go_both [] qs xs ys h g = go_behind qs xs ys g
go_both (p ∷ ps) qs xs ys h g = (
  h.0,
  h.1 ++ ys,
  ap (λ (os : List Out). os ++ ys) h.2 ∙ append_assoc h.0 (p.outs ++ h.1) ys ∙ ap (λ (os : List Out). h.0 ++ os) (append_assoc p.outs h.1 ys),
  go_both ps qs h.1 ys h.3 g,
)

-- what is delivered goes out
pub posted_go_out : (setting : Setting) (replies : List Reply) (connections : Connections) → GoOut (postings setting connections replies) (delivery_of setting connections replies).outs
posted_go_out setting [] connections = tt
posted_go_out setting (reply ∷ replies) connections =
    let d = delivered setting connections reply in
    ([], (delivery_of setting d.connections replies).outs, refl, posted_go_out setting replies d.connections)

all_are_posted : (setting : Setting) (replies : List Reply) (connections : Connections) → map reply_posted (postings setting connections replies) ≡ replies
all_are_posted setting [] connections = refl
all_are_posted setting (reply ∷ replies) connections = ap (λ (rs : List Reply). reply ∷ rs) (all_are_posted setting replies (delivered setting connections reply).connections)

-- ---- calls whose answers are posted, and what is posted goes out among the effects

-- and where no session had a number that wasn't given, none has
pub record Posts (before : Services) (moves : List Move) (after : Services) (ps : List Posting) (effects : List Effect) : Type 0 where
  pub answers : ComesOnWith before moves after (fired_of effects) (map reply_posted ps)
  pub out : GoOut ps (outs_of effects)
  pub fresh : CameBy before.subscriptions before.items → IsFresh before.sessions → IsFresh after.sessions

-- where they lead
pub goes : (before : Services) (moves : List Move) (after : Services) (ps : List Posting) (effects : List Effect) → Posts before moves after ps effects → ComesOn before moves after (fired_of effects)
goes before moves after ps effects h = goes_on before moves after (fired_of effects) (map reply_posted ps) h.answers

came_on : (before : Services) (moves : List Move) (after : Services) (rows : List Fired) → ComesOn before moves after rows → CameBy before.subscriptions before.items → CameBy after.subscriptions after.items
came_on before moves after rows p from =
    let next = p from.rows from.came.replied in
    record {
      config = from.config;
      rows = from.rows ++ rows;
      moves = from.moves ++ moves;
      came = record {
        replied = next.replied;
        left = fold-append moved (start from.config) from.moves moves ∙ ap (λ (r : Ran). fold moved r moves) from.came.left ∙ next.left;
      };
    }

both_post : (before mid after : Services) (ms ns : List Move) (ps qs : List Posting) (xs ys : List Effect) → Posts before ms mid ps xs → Posts mid ns after qs ys → Posts before (ms ++ ns) after (ps ++ qs) (xs ++ ys)
both_post before mid after ms ns ps qs xs ys h g = record {
  answers = subst (λ (rows : List Fired). ComesOnWith before (ms ++ ns) after rows (map reply_posted (ps ++ qs))) (sym (fired_of-append xs ys))
      (subst (λ (rs : List Reply). ComesOnWith before (ms ++ ns) after (fired_of xs ++ fired_of ys) rs) (sym (map-append reply_posted ps qs))
      (then_with before mid after ms ns (fired_of xs) (fired_of ys) (map reply_posted ps) (map reply_posted qs) h.answers g.answers));
  out = subst (λ (outs : List Out). GoOut (ps ++ qs) outs) (sym (outs_of-append xs ys)) (go_both ps qs (outs_of xs) (outs_of ys) h.out g.out);
  fresh = λ from fresh. g.fresh (came_on before ms mid (fired_of xs) (goes before ms mid ps xs h) from) (h.fresh from fresh);
}

-- nothing more of either
as_one : (before : Services) (ms : List Move) (after : Services) (ps : List Posting) (effects : List Effect) → Posts before ms after ps effects → Posts before (ms ++ []) after (ps ++ []) effects
as_one before ms after ps effects h =
    subst (λ (moves : List Move). Posts before moves after (ps ++ []) effects) (sym (append-nil ms)) (subst (λ (posts : List Posting). Posts before ms after posts effects) (sym (append-nil ps)) h)

-- what was served is posted
served_post : (core : Core) (moves : List Move) (s : Serving) → ComesOnWith core.services moves s.state (rows_of s.occurrences) s.replies →
    (CameBy core.services.subscriptions core.services.items → IsFresh core.services.sessions → IsFresh s.state.sessions) →
    Posts core.services (moves ++ []) s.state (postings core.setting core.connections s.replies ++ []) (effects_served core s)
served_post core moves s p fresh =
    let d = delivery_of core.setting core.connections s.replies in
    let ps = postings core.setting core.connections s.replies in
    as_one core.services moves s.state ps (effects_served core s)
    (record {
      answers = subst (λ (rows : List Fired). ComesOnWith core.services moves s.state rows (map reply_posted ps)) (sym (fired_of_effects s.occurrences d))
          (subst (λ (rs : List Reply). ComesOnWith core.services moves s.state (rows_of s.occurrences) rs) (sym (all_are_posted core.setting s.replies core.connections)) p);
      out = subst (λ (os : List Out). GoOut ps os) (sym (ap (λ (shown : Step). shown.outs) (shown_effects s.occurrences d))) (posted_go_out core.setting s.replies core.connections);
      fresh = fresh;
    })

-- other effects than rows and answers
none_post : (before after : Services) (outs : List Out) → after ≡ before → Posts before [] after [] (doing outs)
none_post before after outs same =
    subst (λ (services : Services). Posts before [] services [] (doing outs)) (sym same)
    (record { answers = subst (λ (rows : List Fired). ComesOnWith before [] before rows []) (sym (fired_of_doing outs)) (still before); out = tt; fresh = λ from fresh. fresh })

abbrev pub Goes : Core → List Dealing → List Effect → Core → Type 0
Goes before ds effects after = Posts before.services (flat_map moves_at ds) after.services (flat_map posted_at ds) effects

pub follows : Follows Goes
follows = record {
  none = λ core. none_post core.services core.services [] refl;
  next = λ a b c ds es xs ys h g.
      subst (λ (moves : List Move). Posts a.services moves c.services (flat_map posted_at (ds ++ es)) (xs ++ ys)) (sym (flat_map-append moves_at ds es))
      (subst (λ (ps : List Posting). Posts a.services (flat_map moves_at ds ++ flat_map moves_at es) c.services ps (xs ++ ys)) (sym (flat_map-append posted_at ds es))
      (both_post a.services b.services c.services (flat_map moves_at ds) (flat_map moves_at es) (flat_map posted_at ds) (flat_map posted_at es) xs ys h g));
  aside = λ a b outs set. none_post a.services b.services outs set.services;
  serves = λ core request.
      served_post core (serving_moves core.setting request core.services) (serving_of core.setting request core.services) (serving_on core.setting request core.services) (stays_fresh core.setting request core.services);
  ticks = λ core brought.
      let at = with_clock core (later core.setting.clock brought) in
      served_post at (ticking_moves at.setting at.services) (ticking_of at.setting at.services) (ticking_on at.setting at.services) (λ from fresh. tick_fresh at.setting at.services fresh);
  forgets = λ core conn. forgets core.services conn;
  ends = λ core. served_post core (shutting_moves core.setting) (shutting_of core.setting core.services) (shutting_on core.setting core.services) (λ from fresh. end_fresh core.setting core.services);
}
  where
    forgets : (services : Services) (conn : ℕ) → Posts services (forgetting_moves conn ++ []) (forgotten services conn) [] []
    forgets services conn = record {
      answers = λ so_far replies. record {
        answers = [];
        left = ap (λ (rows : List Fired). ran_at (forgotten services conn) rows replies) (sym (append-nil so_far)) ∙ ap (ran_at (forgotten services conn) (so_far ++ [])) (sym (append-nil replies));
        among = tt;
      };
      out = tt;
      fresh = λ from fresh. fresh;
    }

module _ (config : Configuration) (space : SpaceState) (events : List Event) where
  pub gone : HasGone Goes (opening config space).core (dealings_of config space events) (reached config space events)
  gone = walked Goes follows config space events

  -- the answers to Publish requests are posted, in order, and all that is posted goes out
  pub answers_go_out : AnswersGoOut config space events
  answers_go_out = record {
    are_posted =
        let went = gone.goes.answers [] [] in
        subst (λ (rs : List Reply). StandIn rs (map reply_posted (posted config space events))) (sym (ap (λ (r : Ran). r.replies) went.left) ∙ all_are_told config (moves_of config space events)) went.among;
    go_out = gone.goes.out;
  }
