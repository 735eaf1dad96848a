-- What happens in a scenario, in the order of its lines, or its first bad line with the cause of its leftmost bad word. It knows
-- no frame, and of no byte but those that stand in a line.
use Rattle.std.specs.Prelude.{ℕ, Bool, true, false, List, [], ◌∷◌, Option, Some, None, Result, Ok, Err}
use Rattle.ua_types.specs.declared.moment.Moment.{Moment}
use Rattle.scenario_text.specs.Scenarios.{scenario_of}
use Rattle.scenario_text.specs.declared.choices.ChannelRequest.{ChannelRequest}
use Rattle.scenario_text.specs.declared.fault.AsmFault.{AsmFault}
use Rattle.scenario_text.specs.declared.scenario.Line.{Line}
use Rattle.scenario_text.specs.declared.statement.SessionRequest.{SessionRequest}
use Rattle.scenario_text.specs.declared.statement.Statement.{Statement}
use Rattle.scenario_text.specs.declared.statement.Statement.TheVariants as statements

-- a request: for the endpoints, for a session, or of the session with this number
pub data Asking : Type 0 where
  Endpoints : Asking
  NewSession : Asking
  Service : ℕ → SessionRequest → Asking

-- What happens: on a connection, whose number comes first, or as time passes, or at the server's end. A request may be given up.
pub data Kind : Type 0 where
  Opening : ℕ → List ℕ → Kind
  Closing : ℕ → Kind
  Passing : Moment → Kind
  Ending : Kind
  Greeting : ℕ → Option (List ℕ) → Kind
  ChannelOpening : ℕ → ChannelRequest → Kind
  ChannelEnd : ℕ → Kind
  Asked : ℕ → Bool → Asking → Kind
  Unread : ℕ → List ℕ → Kind

-- it happens in events of so many bytes and in chunks of so many, where 0 is whole
pub record Happening : Type 0 where
  pub cut : ℕ
  pub chunk : ℕ
  pub kind : Kind

-- how later lines are meant
pub record Manner : Type 0 where
  pub cut : ℕ
  pub chunk : ℕ
  pub is_aborting : Bool

abbrev pub plain_manner : Manner
plain_manner = record { cut = 0; chunk = 0; is_aborting = false }

abbrev pub with_happening : Manner → Kind → List Happening → List Happening
with_happening m kind others = record { cut = m.cut; chunk = m.chunk; kind = kind } ∷ others

-- after a request the next one isn't given up
abbrev pub after_asking : Manner → Manner
after_asking m = record m { is_aborting = false }

abbrev pub happens_by : Manner → Statement → (Manner → List Happening) → List Happening
happens_by m (statements.Open connection key) others = with_happening m (Opening connection key) (others m)
happens_by m (statements.Hello connection url) others = with_happening m (Greeting connection url) (others m)
happens_by m (statements.OpenChannel connection request) others = with_happening m (ChannelOpening connection request) (others m)
happens_by m (statements.CloseChannel connection) others = with_happening m (ChannelEnd connection) (others m)
happens_by m (statements.Gone connection) others = with_happening m (Closing connection) (others m)
happens_by m (statements.Tick now) others = with_happening m (Passing now) (others m)
happens_by m statements.Shutdown others = with_happening m Ending (others m)
happens_by m (statements.Raw connection bytes) others = with_happening m (Unread connection bytes) (others m)
happens_by m (statements.Cut size) others = others (record m { cut = size })
happens_by m (statements.Chunk size) others = others (record m { chunk = size })
happens_by m statements.Abort others = others (record m { is_aborting = true })
happens_by m (statements.Range range) others = others m
happens_by m (statements.GetEndpoints connection) others = with_happening m (Asked connection m.is_aborting Endpoints) (others (after_asking m))
happens_by m (statements.CreateSession connection) others = with_happening m (Asked connection m.is_aborting NewSession) (others (after_asking m))
happens_by m (statements.Ask connection session request) others = with_happening m (Asked connection m.is_aborting (Service session request)) (others (after_asking m))

unfoldable pub happenings_of : Manner → List Line → List Happening
happenings_of m [] = []
happenings_of m (l ∷ ls) = happens_by m l.statement (λ after. happenings_of after ls)

abbrev pub unless_bad : Option AsmFault → List Happening → Result (List Happening) AsmFault
unless_bad None happenings = Ok happenings
unless_bad (Some fault) happenings = Err fault

abbrev pub meaning : List ℕ → Result (List Happening) AsmFault
meaning text = let s = scenario_of text in unless_bad s.fault (happenings_of plain_manner s.lines)
