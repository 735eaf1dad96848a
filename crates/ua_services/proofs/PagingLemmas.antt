-- Things that are asked for, done one after the other with a session's continuation points.
use Rattle.std.proofs.Common.{◌≡◌, ℕ, ◌≤◌, ◌^◌, ◌+◌, length, Bool, true, false, if◌then◌else◌, List, [], ◌∷◌, ◌++◌, Option, Some, None, is_some, Result, Ok, Err, refl, sym, ap, subst, ◌∙◌, arith, append_assoc}
use Rattle.std.specs.Int.{w32}
use Rattle.std.proofs.lemmas.List.{length-append, append-nil}
use Rattle.std.proofs.lemmas.Grind.{flat_map-append}
use Rattle.std.specs.List.{fold, flat_map, list_any}
use Rattle.std.specs.Prelude.{◌&&◌, not}
use Rattle.std.proofs.lemmas.Bool.{false≢true, leb-true, le-leb}
use Rattle.std.specs.Borrow.{MutBor}
use Rattle.std.specs.Option.{option_copied_mut, unwrap_or}
use Rattle.std.specs.Ordering.{nat_cmp}
use Rattle.std.specs.FinMap.{FinMap, get, insert}
use Rattle.collections.proofs.NumberMaps.{insert_removed, remove_given, get_inserted}
use Rattle.ua_types.specs.Answers.{Step}
use Rattle.ua_types.specs.NodeIds.{numeric_id}
use Rattle.ua_binary.specs.Arrays.{array_encoding}
use Rattle.ua_binary.specs.NodeIds.{node_id_encoding}
use Rattle.ua_binary.specs.Numbers.{number_encoding}
use Rattle.ua_messages.specs.Diagnostics.{diagnostic_infos_encoding}
use Rattle.ua_messages.specs.Headers.{plain_header, response_header_encoding}
use Rattle.ua_messages.specs.ResultLists.{results_encoding}
use Rattle.ua_types.specs.declared.refusal.Refusal.{Refusal}
use Rattle.ua_types.specs.declared.refusal.Refusal.TheVariants as refusals
use Rattle.ua_types.specs.declared.status.Status.{Status}
use Rattle.ua_session.specs.Points.{PointsState, TakesSerial, GivesInRange, is_overspent}
use Rattle.ua_session.specs.Sessions.{SessionsState, points_of, with_points}
use Rattle.server_messages.specs.Halts.{refusal_of}
use Rattle.server_messages.specs.declared.halt.Halt.{Halt}
use Rattle.server_messages.specs.declared.halt.Halt.TheVariants.{Memory, Exhausted}
use Rattle.server_messages.specs.declared.served.Served.{Served}
use Rattle.server_messages.specs.declared.stored.Stored.{Stored}
use Rattle.server_messages.specs.declared.setting.Setting.{Setting}
use Rattle.ua_services.specs.Paging.{Done, AllDone, told_as, with_one, all_done, Rises, paged, results_head_of, results_body_of, spent_by_points, Tells, Halts, DoesOne}
use Rattle.ua_services.specs.Serving.{Given, Judges, refusal_by, given, given_of, is_spent, replied, reply_of, rows_of, served}
use Rattle.ua_services.specs.Serving.Occurrence.{Spent}
use Rattle.ua_services.specs.ServicesState.{Services}
use Rattle.ua_services.specs.SessionServing.{with_sessions}
use Rattle.ua_services.proofs.SubLemmas.{no_rows, none_stored}
use Rattle.ua_services.specs.declared.caller.Caller.{Caller}

-- ---- one thing

module _ {P R : Type 0} (encoding : R → List ℕ) (tell : Result P Status → R) (before after : List ℕ) where
  -- a status is told, and a halt is no result
  pub tells_status : (refusal : Refusal) (code : Status) → refusal ≡ refusal_by (Ok code) → after ≡ before ++ encoding (tell (Err code)) → Tells encoding tell (Ok tt) before after (Err refusal)
  tells_status refusal code is e = subst (λ (r : Refusal). Tells encoding tell (Ok tt) before after (Err r)) (sym is) e

  pub tells_halt : (halt : Halt) (refusal : Refusal) → refusal ≡ refusal_by (Err halt) → Tells encoding tell (Err halt) before after (Err refusal)
  tells_halt Memory refusal is = tt
  tells_halt Exhausted refusal is = ap (λ (r : Refusal). let answer : Result P Refusal = Err r in answer) is

  told_alike : (a b : Result P Status) → a ≡ b → after ≡ before ++ encoding (tell a) → after ≡ before ++ encoding (tell b)
  told_alike a b e h = h ∙ ap (λ (x : Result P Status). before ++ encoding (tell x)) e

  -- what a call answered, told as a result
  pub does_one : (told : Result (Unit {0}) Halt) (answer : Result P Refusal) (old new : PointsState) (said : Step P Status PointsState) → Tells encoding tell told before after answer → TakesSerial answer old new said → DoesOne encoding told before after old new (told_as tell said)
  does_one (Ok done) (Ok page) old new said t h = (told_alike (Ok page) said.answer (ap (λ (s : Step P Status PointsState). s.answer) (sym h.0)) t, ap (λ (s : Step P Status PointsState). s.state) (sym h.0), h.1)
  does_one (Ok done) (Err (refusals.Service code)) old new said t h = (told_alike (Err code) said.answer (ap (λ (s : Step P Status PointsState). s.answer) (sym h.0)) t, ap (λ (s : Step P Status PointsState). s.state) (sym h.0), h.1)
  does_one (Ok done) (Err refusals.Memory) old new said t h = absurd t
  does_one (Ok done) (Err refusals.Exhausted) old new said t h = absurd t
  does_one (Err Memory) answer old new said t h = tt
  does_one (Err Exhausted) answer old new said t h = let spent = subst (λ (a : Result P Refusal). TakesSerial a old new said) t h in (spent.1, spent.0)

-- ---- all things

not_true : (b : Bool) → (b ≡ true → ⊥) → b ≡ false
not_true true f = absurd (f refl)
not_true false f = refl

module _ {A R : Type 0} (f : PointsState → A → Done R) where
  fold_rises : Rises f → (xs : List A) (b : AllDone R) → b.points.made ≤ (fold (with_one f) b xs).points.made
  fold_rises rises [] b = omega arith
  fold_rises rises (x ∷ xs) b = let one = rises b.points x in let rest = fold_rises rises xs (with_one f b x) in omega (arith, one, rest)

  fold_joined : (xs ys : List A) (b : AllDone R) → fold (with_one f) b (xs ++ ys) ≡ fold (with_one f) (fold (with_one f) b xs) ys
  fold_joined [] ys b = refl
  fold_joined (x ∷ xs) ys b = fold_joined xs ys (with_one f b x)

  overspent_later : (old later : PointsState) → old.made ≤ later.made → is_overspent old ≡ true → is_overspent later ≡ true
  overspent_later old later rises spent = let n = leb-true (2 ^ 64) old.made spent in le-leb (2 ^ 64) later.made (omega (arith, n, rises))

  earlier_in_range : (old later : PointsState) → old.made ≤ later.made → is_overspent later ≡ false → is_overspent old ≡ false
  earlier_in_range old later rises in_range = not_true (is_overspent old) (λ spent. false≢true (sym in_range ∙ overspent_later old later rises spent))

  -- each has its result
  fold_counted : (xs : List A) (b : AllDone R) → length (fold (with_one f) b xs).results ≡ length b.results + length xs
  fold_counted [] b = omega arith
  fold_counted (x ∷ xs) b =
      let rest = fold_counted xs (with_one f b x) in
      let one = length-append b.results ((f b.points x).result ∷ []) in
      omega (arith, rest, one)

  pub all_counted : (points : PointsState) (xs : List A) → length (all_done f points xs).results ≡ length xs
  all_counted points xs = let n = fold_counted xs (record { results = []; points = points }) in omega (arith, n)

  -- what is written of those so far, and then of one more
  pub written_more : (encoding : R → List ℕ) (points : PointsState) (before : List A) (x : A) (front : List ℕ) →
      (front ++ flat_map encoding (all_done f points before).results) ++ encoding (f (all_done f points before).points x).result
      ≡ front ++ flat_map encoding (all_done f points (before ++ x ∷ [])).results
  written_more encoding points before x front =
      let b = all_done f points before in
      let r = (f b.points x).result in
      append_assoc front (flat_map encoding b.results) (encoding r)
      ∙ ap (λ bytes. front ++ (flat_map encoding b.results ++ bytes)) (sym (append-nil (encoding r)))
      ∙ ap (λ bytes. front ++ bytes) (sym (flat_map-append encoding b.results (r ∷ [])))
      ∙ ap (λ (after : AllDone R). front ++ flat_map encoding after.results) (sym (fold_joined before (x ∷ []) (record { results = []; points = points })))

  pub points_after : (points : PointsState) (before : List A) (x : A) → (f (all_done f points before).points x).points ≡ (all_done f points (before ++ x ∷ [])).points
  points_after points before x = ap (λ (after : AllDone R). after.points) (sym (fold_joined before (x ∷ []) (record { results = []; points = points })))

  -- a halt at one thing, after those before it, is one of all
  pub halts_all : Rises f → (halt : Halt) (points : PointsState) (before : List A) (x : A) (rest all : List A) → before ++ x ∷ rest ≡ all →
      Halts halt (all_done f points before).points (f (all_done f points before).points x).points → Halts halt points (all_done f points all).points
  halts_all rises Memory points before x rest all is h = tt
  halts_all rises Exhausted points before x rest all is h =
      let b = all_done f points before in
      let later = fold_rises rises rest (with_one f b x) in (
        earlier_in_range points b.points (fold_rises rises before (record { results = []; points = points })) h.0,
        overspent_later (f b.points x).points (all_done f points all).points
            (subst (λ (after : AllDone R). (f b.points x).points.made ≤ after.points.made) (sym (fold_joined before (x ∷ rest) (record { results = []; points = points })) ∙ ap (all_done f points) is) later) h.1,
      )

-- ---- the answer

-- a key that is set once more has the value that it was set to last
insert_again : {V : Type 0} (m : FinMap nat_cmp V) (k : ℕ) (v w : V) → insert (insert m k v) k w ≡ insert m k w
insert_again m k v w = sym (insert_removed (insert m k v) k w) ∙ ap (λ n. insert n k w) (remove_given m k v) ∙ insert_removed m k w

-- the points of a session that has a place for them are there
pub points_are_there : {V : Type 0} (m opened : FinMap nat_cmp V) (k : ℕ) (v : V) (found : Option V) → opened ≡ insert m k v → found ≡ get opened k → found ≡ Some v
points_are_there m opened k v found is e = e ∙ ap (λ n. get n k) is ∙ get_inserted m k v

-- those that are lent are the session's
pub lent_points : (sessions opened : SessionsState) (session : ℕ) (before now : PointsState) → opened ≡ with_points sessions session before → get opened.points session ≡ Some now → now ≡ before
lent_points sessions opened session before now is found =
    ap (λ o. unwrap_or o before) (sym found ∙ points_are_there sessions.points opened.points session before _ (ap (λ (s : SessionsState). s.points) is) refl)

-- so a session that has a place for its points lends some
pub some_lent : (sessions opened : SessionsState) (session : ℕ) (before : PointsState) (lent : Option (MutBor PointsState)) → opened ≡ with_points sessions session before
    → option_copied_mut lent ≡ get opened.points session → lent ≡ None → ⊥
some_lent sessions opened session before lent is found none =
    false≢true (ap is_some (sym (ap option_copied_mut none) ∙ points_are_there sessions.points opened.points session before _ (ap (λ (s : SessionsState). s.points) is) found))

-- those that are in range spend none
in_range_spend_none : (before after : Bool) → (before ≡ false → after ≡ false) → list_any is_spent (if not before && after then Spent ∷ [] else []) ≡ false
in_range_spend_none true after h = refl
in_range_spend_none false true h = h refl
in_range_spend_none false false h = refl

past_range_spend_one : (before after : Bool) → before ≡ false → after ≡ true → list_any is_spent (if not before && after then Spent ∷ [] else []) ≡ true
past_range_spend_one true after b a = absurd (false≢true (sym b))
past_range_spend_one false true b a = refl
past_range_spend_one false false b a = a

-- the head, the results and what stands behind them are the whole body
whole : (id header count results infos : List ℕ) → (((id ++ header) ++ count) ++ results) ++ infos ≡ id ++ ((header ++ (count ++ results)) ++ infos)
whole id header count results infos = simp append_assoc

pub body_written : {R : Type 0} (encoding : R → List ℕ) (setting : Setting) (caller : Caller) (type_id count : ℕ) (results : List R) → length results ≡ count →
    (results_head_of setting caller type_id count ++ flat_map encoding results) ++ diagnostic_infos_encoding (record {}) ≡ results_body_of encoding setting caller type_id results
unfolding results_encoding array_encoding
body_written encoding setting caller type_id count results e =
    let header = plain_header caller.origin.handle (record { 0 = 0 }) setting.clock in
    whole (node_id_encoding (numeric_id 0 type_id)) (response_header_encoding header) (number_encoding w32 count) (flat_map encoding results) (diagnostic_infos_encoding (record {}))
    ∙ ap (λ n. node_id_encoding (numeric_id 0 type_id) ++ ((response_header_encoding header ++ (number_encoding w32 n ++ flat_map encoding results)) ++ diagnostic_infos_encoding (record {}))) (sym e)

-- what was answered of all, and a halt in the middle
module _ {R : Type 0} (encoding : R → List ℕ) (setting : Setting) (caller : Caller) (session type_id : ℕ) (state : Services) where
  pub served_all : (opened left : SessionsState) (all_served : Served) (b done : AllDone R)
      → opened ≡ with_points state.sessions session (points_of state.sessions session) → left ≡ with_points opened session b.points
      → all_served ≡ replied (reply_of caller (results_body_of encoding setting caller type_id b.results)) → b ≡ done → GivesInRange (points_of state.sessions session) b.points
      → given (with_sessions state left) all_served ≡ given_of (paged encoding setting caller session type_id state done)
  served_all opened left all_served b done is e answered all in_range =
      let before = points_of state.sessions session in
      let state_is : left ≡ with_points state.sessions session b.points =
      e ∙ ap (λ s. with_points s session b.points) is ∙ ap (λ held. record state.sessions { points = held }) (insert_again state.sessions.points session before b.points) in
      let after : Services = with_sessions state (with_points state.sessions session b.points) in
      let replies = reply_of caller (results_body_of encoding setting caller type_id b.results) ∷ [] in
      ap (λ s. given (with_sessions state s) all_served) state_is
      ∙ ap (given after) answered
      ∙ ap (λ rows. given after (served replies rows)) (sym (no_rows (not (is_overspent before) && is_overspent b.points)))
      ∙ ap (λ (ss : List Stored). let g : Given = given after (record { replies = replies; rows = rows_of (spent_by_points before b.points); stored = ss }) in g)
      (sym (none_stored (not (is_overspent before) && is_overspent b.points)))
      ∙ ap (λ spends. let g : Given = record (given_of (record { state = after; replies = replies; occurrences = spent_by_points before b.points; is_refused = false })) { spends = spends } in g)
      (sym (in_range_spend_none (is_overspent before) (is_overspent b.points) in_range))
      ∙ ap (λ x. given_of (paged encoding setting caller session type_id state x)) all

  pub halted_all : (after : Services) (halt : Halt) (said : AllDone R) → Halts halt (points_of state.sessions session) said.points → Judges setting caller (Err (refusal_of halt)) after (paged encoding setting caller session type_id state said)
  halted_all after Memory said h = refl
  halted_all after Exhausted said h = past_range_spend_one (is_overspent (points_of state.sessions session)) (is_overspent said.points) h.0 h.1
