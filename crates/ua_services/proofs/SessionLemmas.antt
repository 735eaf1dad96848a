-- What a step of the sessions comes to.
use Rattle.std.proofs.Common.{◌≡◌, ℕ, false, List, Result, Ok, Err, IsOk, refl, ap, ◌∙◌}
use Rattle.std.specs.List.{list_any}
use Rattle.std.proofs.lemmas.Bool.{false≢true}
use Rattle.ua_types.specs.Answers.{Step}
use Rattle.ua_types.specs.declared.moment.Moment.{Moment}
use Rattle.ua_types.specs.declared.refusal.Refusal.{Refusal}
use Rattle.ua_types.specs.declared.refusal.Refusal.TheVariants as refusals
use Rattle.ua_types.specs.declared.status.Status.{Status}
use Rattle.server_messages.specs.declared.setting.Setting.{Setting}
use Rattle.ua_session.specs.Sessions.{SessionsState, TakesNonce, is_spent}
use Rattle.ua_services.specs.ServicesState.{Services}
use Rattle.ua_services.specs.Serving.{Occurrence, Judges, is_spent as is_spent_occurrence}
use Rattle.ua_services.specs.SessionServing.{spent_by, with_sessions, taken, stepped}
use Rattle.ua_services.specs.declared.caller.Caller.{Caller}
use Rattle.ua_services.proofs.SubLemmas.{any_spent}

occurrences_of : {A : Type 0} (state : Services) (caller : Caller) (clock : Moment) (occurrences : List Occurrence) (body : A → List ℕ) (answer : Result A Status) (sessions : SessionsState) → IsOk answer → (taken state caller clock occurrences body answer sessions).occurrences ≡ occurrences
occurrences_of state caller clock occurrences body (Ok x) sessions ok = refl
occurrences_of state caller clock occurrences body (Err code) sessions ok = absurd (false≢true ok)

not_refused : {A : Type 0} (state : Services) (caller : Caller) (clock : Moment) (occurrences : List Occurrence) (body : A → List ℕ) (answer : Result A Status) (sessions : SessionsState) → IsOk answer → (taken state caller clock occurrences body answer sessions).is_refused ≡ false
not_refused state caller clock occurrences body (Ok x) sessions ok = refl
not_refused state caller clock occurrences body (Err code) sessions ok = absurd (false≢true ok)

-- a refusal of the sessions is that of the service: a status is told, want of memory comes to a step that is good, and where the
-- nonces are used up, a step that gives one says so
module _ {A : Type 0} (state : Services) (caller : Caller) (setting : Setting) (body : A → List ℕ) (said : Step A Status SessionsState) (sessions : SessionsState) where
  pub refused_as : (refusal : Refusal) → TakesNonce (Err refusal) state.sessions sessions said → Judges setting caller (Err refusal) (with_sessions state sessions) (stepped state caller setting.clock (spent_by state.sessions) body said)
  refused_as (refusals.Service code) h = ap (stepped state caller setting.clock (spent_by state.sessions) body) h
  refused_as refusals.Memory h = not_refused state caller setting.clock (spent_by state.sessions) body said.answer said.state h.1
  refused_as refusals.Exhausted h =
      ap (list_any is_spent_occurrence) (occurrences_of state caller setting.clock (spent_by state.sessions) body said.answer said.state h.1) ∙ any_spent (is_spent state.sessions) h.0
