-- What the services with continuation points share: things that are asked for are done one after the other, with the points that
-- those before them left.
use Rattle.std.specs.Prelude.{◌≡◌, ◌≤◌, ⊤, ℕ, ◌&&◌, not, true, false, List, [], ◌∷◌, ◌++◌, Result, Ok, Err, if◌then◌else◌}
use Rattle.std.specs.List.{fold, flat_map}
use Rattle.ua_types.specs.Answers.{Step}
use Rattle.ua_types.specs.declared.refusal.Refusal.{Refusal}
use Rattle.ua_types.specs.declared.refusal.Refusal.TheVariants as refusals
use Rattle.ua_types.specs.declared.status.Status.{Status}
use Rattle.std.specs.Int.{w32}
use Rattle.ua_types.specs.NodeIds.{numeric_id}
use Rattle.ua_binary.specs.NodeIds.{node_id_encoding}
use Rattle.ua_binary.specs.Numbers.{number_encoding}
use Rattle.ua_messages.specs.Bodies.{body_encoding}
use Rattle.ua_messages.specs.Headers.{plain_header, response_header_encoding}
use Rattle.ua_messages.specs.ResultLists.{results_encoding, results_of}
use Rattle.ua_session.specs.Points.{PointsState, GivesInRange, is_overspent}
use Rattle.ua_session.specs.Sessions.{points_of, with_points}
use Rattle.server_messages.specs.declared.halt.Halt.{Halt}
use Rattle.server_messages.specs.declared.halt.Halt.TheVariants.{Memory, Exhausted}
use Rattle.server_messages.specs.declared.setting.Setting.{Setting}
use Rattle.ua_services.specs.ServicesState.{Services}
use Rattle.ua_services.specs.Serving.{Occurrence, Serving, reply_of}
use Rattle.ua_services.specs.Serving.Occurrence.{Spent}
use Rattle.ua_services.specs.SessionServing.{with_sessions}
use Rattle.ua_services.specs.declared.caller.Caller.{Caller}

-- ---- one thing

-- its result, and the points that are left
pub record Done (R : Type 0) : Type 0 where
  pub result : R
  pub points : PointsState

-- a step of the points, with its answer told as a result
abbrev pub told_as : {P R : Type 0} → (Result P Status → R) → Step P Status PointsState → Done R
told_as tell said = record { result = tell said.answer; points = said.state }

-- ---- all things

-- the results so far, and the points that are left
pub record AllDone (R : Type 0) : Type 0 where
  pub results : List R
  pub points : PointsState

-- one more thing
abbrev pub with_one : {A R : Type 0} → (PointsState → A → Done R) → AllDone R → A → AllDone R
with_one f before x =
    let done = f before.points x in
    record { results = before.results ++ done.result ∷ []; points = done.points }

-- one after the other
abbrev pub all_done : {A R : Type 0} → (PointsState → A → Done R) → PointsState → List A → AllDone R
all_done f points xs = fold (with_one f) (record { results = []; points = points }) xs

-- no serial is given twice: however many were given before, as many or more were given after
abbrev pub Rises : {A R : Type 0} → (PointsState → A → Done R) → Type 0
Rises {A = A} f = (points : PointsState) (x : A) → points.made ≤ (f points x).points.made

-- ---- the answer

-- what stands before the results of so many things, and behind them
abbrev pub results_head_of : Setting → Caller → ℕ → ℕ → List ℕ
results_head_of setting caller type_id count =
    node_id_encoding (numeric_id 0 type_id) ++ response_header_encoding (plain_header caller.origin.handle (record { 0 = 0 }) setting.clock) ++ number_encoding w32 count

abbrev pub results_body_of : {R : Type 0} → (R → List ℕ) → Setting → Caller → ℕ → List R → List ℕ
results_body_of encoding setting caller type_id results =
    body_encoding (results_encoding encoding) type_id (results_of (plain_header caller.origin.handle (record { 0 = 0 }) setting.clock) results)

-- a point takes a serial, and none may be left for it
abbrev pub spent_by_points : PointsState → PointsState → List Occurrence
spent_by_points before after = if not (is_overspent before) && is_overspent after then Spent ∷ [] else []

-- the session has the points that are left, and all results are answered
abbrev pub paged : {R : Type 0} → (R → List ℕ) → Setting → Caller → ℕ → ℕ → Services → AllDone R → Serving
paged encoding setting caller session type_id state done = record {
  state = with_sessions state (with_points state.sessions session done.points);
  replies = reply_of caller (results_body_of encoding setting caller type_id done.results) ∷ [];
  occurrences = spent_by_points (points_of state.sessions session) done.points;
  is_refused = false;
}

-- ---- words of the contracts

-- the result that tells what a call answered is written behind what was, unless memory ran out, or serials did in that call
abbrev pub Tells : {P R : Type 0} → (R → List ℕ) → (Result P Status → R) → Result (Unit {0}) Halt → (before after : List ℕ) → Result P Refusal → Type 0
Tells encoding tell (Ok done) before after (Ok page) = after ≡ before ++ encoding (tell (Ok page))
Tells encoding tell (Ok done) before after (Err (refusals.Service code)) = after ≡ before ++ encoding (tell (Err code))
Tells encoding tell (Ok done) before after (Err refusals.Memory) = ⊥
Tells encoding tell (Ok done) before after (Err refusals.Exhausted) = ⊥
Tells encoding tell (Err Memory) before after answer = ⊤
Tells encoding tell (Err Exhausted) before after answer = answer ≡ Err refusals.Exhausted

-- why nothing more is done: memory ran out, or that is said to give a serial past the last one
abbrev pub Halts : Halt → PointsState → PointsState → Type 0
Halts Memory old said = ⊤
Halts Exhausted old said = (is_overspent old ≡ false) × (is_overspent said ≡ true)

-- one thing is done as it is said, its result is written behind what was, and no serial past the last one is given; or the server
-- halts
abbrev pub DoesOne : {R : Type 0} → (R → List ℕ) → Result (Unit {0}) Halt → (before after : List ℕ) → (old new : PointsState) → Done R → Type 0
DoesOne encoding (Ok done) before after old new said = (after ≡ before ++ encoding said.result) × (new ≡ said.points) × GivesInRange old new
DoesOne encoding (Err halt) before after old new said = Halts halt old said.points

-- all are done as they are said, and their results are written one behind the other
abbrev pub DoesAll : {R : Type 0} → (R → List ℕ) → Result (Unit {0}) Halt → (before after : List ℕ) → (old new : PointsState) → AllDone R → Type 0
DoesAll encoding (Ok done) before after old new said = (after ≡ before ++ flat_map encoding said.results) × (new ≡ said.points) × GivesInRange old new
DoesAll encoding (Err halt) before after old new said = Halts halt old said.points
