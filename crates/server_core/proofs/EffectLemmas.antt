-- What of the effects the code gives.
use Rattle.std.proofs.Common.{◌≡◌, Bool, true, false, Err, List, [], ◌∷◌, ◌++◌, refl, sym, ◌∙◌, ap, append-nil, append_assoc}
use Rattle.std.specs.Prelude.{◌||◌}
use Rattle.std.proofs.lemmas.Bool.{false≢true}
use Rattle.std.specs.List.{list_any}
use Rattle.server_messages.specs.declared.fired.Fired.{Fired}
use Rattle.server_messages.specs.declared.reply.Reply.{Reply}
use Rattle.server_messages.specs.declared.out.Out.{Out}
use Rattle.server_messages.specs.declared.stored.Stored.{Stored}
use Rattle.server_connections.specs.Delivering.{Delivery}
use Rattle.ua_services.specs.Serving as serving
use Rattle.ua_services.specs.Serving.{Occurrence, Fire, Store, Spent, rows_of, is_spent}
use Rattle.ua_transport.specs.Pieces.{Done, after_outs, and_then}
use Rattle.server_core.specs.declared.out.Step.{Step}
use Rattle.server_core.specs.Effects.{Effect, Do, Occurred, Lost, doing, occurring, losing, effects_of, outs_of, fired_of, stored_of, is_spending, are_spent, step, no_step, shown, after_step}
use Rattle.server_messages.specs.declared.halt.Halt.{Halt}
use Rattle.server_messages.specs.declared.halt.Halt.TheVariants.{Memory, Exhausted}
use Rattle.server_core.specs.Handling.{Doing, doing_so, doing_after, Shows, Handles}
use Rattle.server_core.specs.World.{Core}

-- ---- the outs

pub outs_of-append : (xs ys : List Effect) → outs_of (xs ++ ys) ≡ outs_of xs ++ outs_of ys
outs_of-append [] ys = refl
outs_of-append (Do out ∷ xs) ys = ap (λ (os : List Out). out ∷ os) (outs_of-append xs ys)
outs_of-append (Occurred occurrence ∷ xs) ys = outs_of-append xs ys
outs_of-append (Lost reply ∷ xs) ys = outs_of-append xs ys

outs_of_doing : (outs : List Out) → outs_of (doing outs) ≡ outs
outs_of_doing [] = refl
outs_of_doing (out ∷ outs) = ap (λ (os : List Out). out ∷ os) (outs_of_doing outs)

outs_of_acting : (occurrences : List Occurrence) → outs_of (occurring occurrences) ≡ []
outs_of_acting [] = refl
outs_of_acting (occurrence ∷ occurrences) = outs_of_acting occurrences

outs_of_losing : (replies : List Reply) → outs_of (losing replies) ≡ []
outs_of_losing [] = refl
outs_of_losing (reply ∷ replies) = outs_of_losing replies

outs_of_effects : (occurrences : List Occurrence) (d : Delivery) → outs_of (effects_of occurrences d) ≡ d.outs
outs_of_effects occurrences d =
    outs_of-append (occurring occurrences) (doing d.outs ++ losing d.lost)
    ∙ ap (λ (os : List Out). os ++ outs_of (doing d.outs ++ losing d.lost)) (outs_of_acting occurrences)
    ∙ outs_of-append (doing d.outs) (losing d.lost)
    ∙ ap (λ (os : List Out). os ++ outs_of (losing d.lost)) (outs_of_doing d.outs)
    ∙ ap (λ (os : List Out). d.outs ++ os) (outs_of_losing d.lost)
    ∙ append-nil d.outs

-- ---- the rows

pub fired_of-append : (xs ys : List Effect) → fired_of (xs ++ ys) ≡ fired_of xs ++ fired_of ys
fired_of-append [] ys = refl
fired_of-append (Do out ∷ xs) ys = fired_of-append xs ys
fired_of-append (Occurred (Fire fired) ∷ xs) ys = ap (λ (fs : List Fired). fired ∷ fs) (fired_of-append xs ys)
fired_of-append (Occurred (Store stored) ∷ xs) ys = fired_of-append xs ys
fired_of-append (Occurred Spent ∷ xs) ys = fired_of-append xs ys
fired_of-append (Lost reply ∷ xs) ys = fired_of-append xs ys

pub fired_of_doing : (outs : List Out) → fired_of (doing outs) ≡ []
fired_of_doing [] = refl
fired_of_doing (out ∷ outs) = fired_of_doing outs

fired_of_acting : (occurrences : List Occurrence) → fired_of (occurring occurrences) ≡ rows_of occurrences
fired_of_acting [] = refl
fired_of_acting (Fire fired ∷ occurrences) = ap (λ (fs : List Fired). fired ∷ fs) (fired_of_acting occurrences)
fired_of_acting (Store stored ∷ occurrences) = fired_of_acting occurrences
fired_of_acting (Spent ∷ occurrences) = fired_of_acting occurrences

fired_of_losing : (replies : List Reply) → fired_of (losing replies) ≡ []
fired_of_losing [] = refl
fired_of_losing (reply ∷ replies) = fired_of_losing replies

pub fired_of_effects : (occurrences : List Occurrence) (d : Delivery) → fired_of (effects_of occurrences d) ≡ rows_of occurrences
fired_of_effects occurrences d =
    fired_of-append (occurring occurrences) (doing d.outs ++ losing d.lost)
    ∙ ap (λ (fs : List Fired). fs ++ fired_of (doing d.outs ++ losing d.lost)) (fired_of_acting occurrences)
    ∙ ap (λ (fs : List Fired). rows_of occurrences ++ fs)
    (fired_of-append (doing d.outs) (losing d.lost)
    ∙ ap (λ (fs : List Fired). fs ++ fired_of (losing d.lost)) (fired_of_doing d.outs) ∙ fired_of_losing d.lost)
    ∙ append-nil (rows_of occurrences)

-- ---- what a store has to keep

pub stored_of-append : (xs ys : List Effect) → stored_of (xs ++ ys) ≡ stored_of xs ++ stored_of ys
stored_of-append [] ys = refl
stored_of-append (Do out ∷ xs) ys = stored_of-append xs ys
stored_of-append (Occurred (Fire fired) ∷ xs) ys = stored_of-append xs ys
stored_of-append (Occurred (Store stored) ∷ xs) ys = ap (λ (ss : List Stored). stored ∷ ss) (stored_of-append xs ys)
stored_of-append (Occurred Spent ∷ xs) ys = stored_of-append xs ys
stored_of-append (Lost reply ∷ xs) ys = stored_of-append xs ys

pub stored_of_doing : (outs : List Out) → stored_of (doing outs) ≡ []
stored_of_doing [] = refl
stored_of_doing (out ∷ outs) = stored_of_doing outs

stored_of_acting : (occurrences : List Occurrence) → stored_of (occurring occurrences) ≡ serving.stored_of occurrences
stored_of_acting [] = refl
stored_of_acting (Fire fired ∷ occurrences) = stored_of_acting occurrences
stored_of_acting (Store stored ∷ occurrences) = ap (λ (ss : List Stored). stored ∷ ss) (stored_of_acting occurrences)
stored_of_acting (Spent ∷ occurrences) = stored_of_acting occurrences

stored_of_losing : (replies : List Reply) → stored_of (losing replies) ≡ []
stored_of_losing [] = refl
stored_of_losing (reply ∷ replies) = stored_of_losing replies

pub stored_of_effects : (occurrences : List Occurrence) (d : Delivery) → stored_of (effects_of occurrences d) ≡ serving.stored_of occurrences
stored_of_effects occurrences d =
    stored_of-append (occurring occurrences) (doing d.outs ++ losing d.lost)
    ∙ ap (λ (ss : List Stored). ss ++ stored_of (doing d.outs ++ losing d.lost)) (stored_of_acting occurrences)
    ∙ ap (λ (ss : List Stored). serving.stored_of occurrences ++ ss)
    (stored_of-append (doing d.outs) (losing d.lost)
    ∙ ap (λ (ss : List Stored). ss ++ stored_of (losing d.lost)) (stored_of_doing d.outs) ∙ stored_of_losing d.lost)
    ∙ append-nil (serving.stored_of occurrences)

-- ---- all of it

three : {os ps : List Out} {rs qs : List Fired} {ss ts : List Stored} → os ≡ ps → rs ≡ qs → ss ≡ ts → step os rs ss ≡ step ps qs ts
three {os} {ps} {rs} {qs} {ss} {ts} e f g = ap (λ (x : List Out). step x rs ss) e ∙ ap (λ (x : List Fired). step ps x ss) f ∙ ap (step ps qs) g

pub shown_doing : (outs : List Out) → shown (doing outs) ≡ step outs [] []
shown_doing outs = three (outs_of_doing outs) (fired_of_doing outs) (stored_of_doing outs)

pub shown_effects : (occurrences : List Occurrence) (d : Delivery) → shown (effects_of occurrences d) ≡ step d.outs (rows_of occurrences) (serving.stored_of occurrences)
shown_effects occurrences d = three (outs_of_effects occurrences d) (fired_of_effects occurrences d) (stored_of_effects occurrences d)

pub after_doing : (before : Step) (outs : List Out) → after_step before (doing outs) ≡ step (before.outs ++ outs) before.rows before.stored
after_doing before outs =
    three (ap (λ (os : List Out). before.outs ++ os) (outs_of_doing outs)) (ap (λ (fs : List Fired). before.rows ++ fs) (fired_of_doing outs) ∙ append-nil before.rows)
    (ap (λ (ss : List Stored). before.stored ++ ss) (stored_of_doing outs) ∙ append-nil before.stored)

pub after_both : (before : Step) (xs ys : List Effect) → after_step before (xs ++ ys) ≡ after_step (after_step before xs) ys
after_both before xs ys =
    three (ap (λ (os : List Out). before.outs ++ os) (outs_of-append xs ys) ∙ sym (append_assoc before.outs (outs_of xs) (outs_of ys)))
    (ap (λ (fs : List Fired). before.rows ++ fs) (fired_of-append xs ys) ∙ sym (append_assoc before.rows (fired_of xs) (fired_of ys)))
    (ap (λ (ss : List Stored). before.stored ++ ss) (stored_of-append xs ys) ∙ sym (append_assoc before.stored (stored_of xs) (stored_of ys)))

-- what was served, and sent after these outs
pub after_answered : (before : Step) (outs : List Out) (occurrences : List Occurrence) (d : Delivery) →
    after_step before (doing outs ++ effects_of occurrences d) ≡ step (before.outs ++ outs ++ d.outs) (before.rows ++ rows_of occurrences) (before.stored ++ serving.stored_of occurrences)
after_answered before outs occurrences d =
    after_both before (doing outs) (effects_of occurrences d)
    ∙ ap (λ (s : Step). after_step s (effects_of occurrences d)) (after_doing before outs)
    ∙ three (ap (λ (os : List Out). before.outs ++ outs ++ os) (outs_of_effects occurrences d)) (ap (λ (fs : List Fired). before.rows ++ fs) (fired_of_effects occurrences d))
    (ap (λ (ss : List Stored). before.stored ++ ss) (stored_of_effects occurrences d))

-- what was served and sent, and then the connections that are closed
pub shown_ending : (occurrences : List Occurrence) (d : Delivery) (outs : List Out) → shown (effects_of occurrences d ++ doing outs) ≡ step (d.outs ++ outs) (rows_of occurrences) (serving.stored_of occurrences)
shown_ending occurrences d outs =
    after_both no_step (effects_of occurrences d) (doing outs)
    ∙ after_doing (shown (effects_of occurrences d)) outs
    ∙ ap (λ (s : Step). step (s.outs ++ outs) s.rows s.stored) (shown_effects occurrences d)

-- ---- spent serials

or_true : (a b : Bool) → b ≡ true → (a || b) ≡ true
or_true true b e = refl
or_true false b e = e

or_first : (a b c : Bool) → (b ≡ true → c ≡ true) → (a || b) ≡ true → (a || c) ≡ true
or_first true b c f e = refl
or_first false b c f e = f e

pub spent_before : (xs ys : List Effect) → are_spent xs ≡ true → are_spent (xs ++ ys) ≡ true
spent_before [] ys e = absurd (false≢true e)
spent_before (x ∷ xs) ys e = or_first (is_spending x) (are_spent xs) (are_spent (xs ++ ys)) (spent_before xs ys) e

pub spent_behind : (xs ys : List Effect) → are_spent ys ≡ true → are_spent (xs ++ ys) ≡ true
spent_behind [] ys e = e
spent_behind (x ∷ xs) ys e = or_true (is_spending x) _ (spent_behind xs ys e)

spent_acting : (occurrences : List Occurrence) → are_spent (occurring occurrences) ≡ list_any is_spent occurrences
spent_acting [] = refl
spent_acting (occurrence ∷ occurrences) = ap (λ b. is_spent occurrence || b) (spent_acting occurrences)

pub spent_effects : (occurrences : List Occurrence) (d : Delivery) → list_any is_spent occurrences ≡ true → are_spent (effects_of occurrences d) ≡ true
spent_effects occurrences d e = spent_before (occurring occurrences) (doing d.outs ++ losing d.lost) (spent_acting occurrences ∙ e)

pub spent_answered : (outs : List Out) (occurrences : List Occurrence) (d : Delivery) → list_any is_spent occurrences ≡ true → are_spent (doing outs ++ effects_of occurrences d) ≡ true
spent_answered outs occurrences d e = spent_behind (doing outs) (effects_of occurrences d) (spent_effects occurrences d e)

-- ---- none spent

neither : (a b c d : Bool) → (b ≡ false → c ≡ d) → (a || b) ≡ false → (a || c) ≡ d
neither true b c d f e = absurd (false≢true (sym e))
neither false b c d f e = f e

pub none_before : (xs ys : List Effect) → are_spent xs ≡ false → are_spent (xs ++ ys) ≡ are_spent ys
none_before [] ys e = refl
none_before (x ∷ xs) ys e = neither (is_spending x) (are_spent xs) (are_spent (xs ++ ys)) (are_spent ys) (none_before xs ys) e

pub doing_spends_none : (outs : List Out) → are_spent (doing outs) ≡ false
doing_spends_none [] = refl
doing_spends_none (out ∷ outs) = doing_spends_none outs

losing_spends_none : (replies : List Reply) → are_spent (losing replies) ≡ false
losing_spends_none [] = refl
losing_spends_none (reply ∷ replies) = losing_spends_none replies

pub effects_spend_none : (occurrences : List Occurrence) (d : Delivery) → list_any is_spent occurrences ≡ false → are_spent (effects_of occurrences d) ≡ false
effects_spend_none occurrences d e =
    none_before (occurring occurrences) (doing d.outs ++ losing d.lost) (spent_acting occurrences ∙ e)
    ∙ none_before (doing d.outs) (losing d.lost) (doing_spends_none d.outs)
    ∙ losing_spends_none d.lost

pub answered_spends_none : (outs : List Out) (occurrences : List Occurrence) (d : Delivery) → list_any is_spent occurrences ≡ false → are_spent (doing outs ++ effects_of occurrences d) ≡ false
answered_spends_none outs occurrences d e = none_before (doing outs) (effects_of occurrences d) (doing_spends_none outs) ∙ effects_spend_none occurrences d e

pub ending_spends_none : (occurrences : List Occurrence) (d : Delivery) (outs : List Out) → list_any is_spent occurrences ≡ false → are_spent (effects_of occurrences d ++ doing outs) ≡ false
ending_spends_none occurrences d outs e = none_before (effects_of occurrences d) (doing outs) (effects_spend_none occurrences d e) ∙ doing_spends_none outs

-- ---- one thing done after another, as the code has it

module _ (more : Core → Done Core Effect) where
  behind : (before : Step) (state : Core) (effects : List Effect) → are_spent effects ≡ false →
      doing_after before (after_outs effects (more state)) ≡ doing_after (after_step before effects) (more state)
  behind before state effects none =
      let rest = more state in
      ap (λ (s : Step). let x : Doing = record (doing_after before (after_outs effects rest)) { step = s } in x) (after_both before effects rest.outs)
      ∙ ap (λ (b : Bool). let x : Doing = record (doing_after (after_step before effects) rest) { spends = b } in x) (none_before effects rest.outs none)

  next_by : (before : Step) (state : Core) (effects : List Effect) (b : Bool) → b ≡ true → are_spent effects ≡ false →
      doing_after before (and_then (record { state = state; outs = effects; goes_on = b }) more) ≡ doing_after (after_step before effects) (more state)
  next_by before state effects true e none = behind before state effects none
  next_by before state effects false e none = absurd (false≢true e)

  -- where the first goes on, what comes next comes behind it
  pub shows_next : (new : Core) (before after : Step) (d : Done Core Effect) → Shows new before after true d →
      doing_after before (and_then d more) ≡ doing_after after (more new)
  shows_next new before after d e =
      next_by before d.state d.outs d.goes_on (sym (ap (λ (x : Doing). x.goes_on) e)) (sym (ap (λ (x : Doing). x.spends) e))
      ∙ ap (λ (x : Doing). doing_after x.step (more x.core)) (sym e)

  end_by : (before : Step) (state : Core) (effects : List Effect) (b : Bool) → b ≡ false → are_spent effects ≡ false →
      doing_after before (and_then (record { state = state; outs = effects; goes_on = b }) more) ≡ doing_so state (after_step before effects) b
  end_by before state effects true e none = absurd (false≢true (sym e))
  end_by before state effects false e none = ap (λ (b : Bool). let x : Doing = record (doing_so state (after_step before effects) false) { spends = b } in x) none

  -- where it doesn't, that is all
  pub shows_end : (new : Core) (before after : Step) (d : Done Core Effect) → Shows new before after false d →
      Shows new before after false (and_then d more)
  shows_end new before after d e =
      let none = sym (ap (λ (x : Doing). x.spends) e) in
      e
      ∙ ap (λ (b : Bool). let x : Doing = record (doing_after before d) { spends = b } in x) none
      ∙ sym (end_by before d.state d.outs d.goes_on (sym (ap (λ (x : Doing). x.goes_on) e)) none)

  first_by : (state : Core) (effects : List Effect) (b : Bool) → are_spent effects ≡ true →
      are_spent (and_then (record { state = state; outs = effects; goes_on = b }) more).outs ≡ true
  first_by state effects true e = spent_before effects (more state).outs e
  first_by state effects false e = e

  pub spent_at_first : (d : Done Core Effect) → are_spent d.outs ≡ true → are_spent (and_then d more).outs ≡ true
  spent_at_first d e = first_by d.state d.outs d.goes_on e

  later_by : (state : Core) (effects : List Effect) (b : Bool) → b ≡ true → are_spent (more state).outs ≡ true →
      are_spent (and_then (record { state = state; outs = effects; goes_on = b }) more).outs ≡ true
  later_by state effects true e s = spent_behind effects (more state).outs s
  later_by state effects false e s = absurd (false≢true e)

  pub spent_next : (new : Core) (before after : Step) (d : Done Core Effect) → Shows new before after true d → are_spent (more new).outs ≡ true →
      are_spent (and_then d more).outs ≡ true
  spent_next new before after d e s =
      later_by d.state d.outs d.goes_on (sym (ap (λ (x : Doing). x.goes_on) e))
      (ap (λ (x : Doing). are_spent (more x.core).outs) (sym e) ∙ s)

-- a call that halts inside of a larger one
pub halts : (halt : Halt) (s s' : Core) (b b' a a' : Step) (d whole : Done Core Effect) → (are_spent d.outs ≡ true → are_spent whole.outs ≡ true) →
    Handles (Err halt) s b a d → Handles (Err halt) s' b' a' whole
halts Memory s s' b b' a a' d whole f h = tt
halts Exhausted s s' b b' a a' d whole f h = f h
