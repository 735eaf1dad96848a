-- What the services of sessions share.
use Rattle.std.specs.Prelude.{ℕ, List, [], ◌∷◌, Result, Ok, Err, if◌then◌else◌}
use Rattle.ua_types.specs.Answers.{Step}
use Rattle.ua_types.specs.declared.moment.Moment.{Moment}
use Rattle.ua_types.specs.declared.status.Status.{Status}
use Rattle.ua_session.specs.Sessions.{SessionsState, is_spent}
use Rattle.ua_services.specs.ServicesState.{Services}
use Rattle.ua_services.specs.Serving.{Occurrence, Serving, answered_at_once, faulted}
use Rattle.ua_services.specs.Serving.Occurrence.{Spent}
use Rattle.ua_services.specs.declared.caller.Caller.{Caller}

abbrev pub with_sessions : Services → SessionsState → Services
with_sessions state sessions = record state { sessions = sessions }

-- a nonce takes a serial, and the last one may be spent
abbrev pub spent_by : SessionsState → List Occurrence
spent_by sessions = if is_spent sessions then Spent ∷ [] else []

abbrev pub taken : {A : Type 0} → Services → Caller → Moment → List Occurrence → (A → List ℕ) → Result A Status → SessionsState → Serving
taken state caller clock occurrences body (Ok x) sessions = record (answered_at_once (with_sessions state sessions) caller (body x)) { occurrences = occurrences }
taken state caller clock occurrences body (Err code) sessions = faulted (with_sessions state sessions) caller code clock

-- a step that the sessions take is answered with this body, or refused with its status
abbrev pub stepped : {A : Type 0} → Services → Caller → Moment → List Occurrence → (A → List ℕ) → Step A Status SessionsState → Serving
stepped state caller clock occurrences body step = taken state caller clock occurrences body step.answer step.state
