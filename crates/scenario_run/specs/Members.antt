-- What a line comes to: something that happens, or bytes that a client sends.
use Rattle.std.specs.Prelude.{◌≡◌, ◌≢◌, ℕ, ◌-◌, true, false, List, [], ◌∷◌, ◌++◌, length, slice_get, unwrap_or, Option, Some, None, Result, Ok, Err}
use Rattle.std.specs.FinMap.{get, insert, remove, empty}
use Rattle.ua_types.specs.Answers.{◌>>=◌}
use Rattle.ua_types.specs.NodeIds.{numeric_id}
use Rattle.ua_types.specs.declared.node_id.NodeId.{NodeId}
use Rattle.ua_session.specs.Tokens.{secret_of, token_of}
use Rattle.server_core.specs.declared.event.Event.TheVariants as events
use Rattle.scenario_text.specs.declared.choices.ChannelRequest.{ChannelRequest}
use Rattle.scenario_text.specs.declared.choices.ChannelRequest.TheVariants.{Issue, Renew}
use Rattle.scenario_text.specs.declared.fault.Cause.{Cause}
use Rattle.scenario_text.specs.declared.statement.Statement.{Statement}
use Rattle.scenario_text.specs.declared.statement.Statement.TheVariants as statements
use Rattle.scenario_text.specs.Messages.{endpoints_body, create_session_body, request_body}
use Rattle.scenario_text.specs.Structures.{plain_request}
use Rattle.ua_transport.specs.SequenceNumbers.{sequence_number_after}
use Rattle.scenario_run.specs.Sendings.{Sending, new_client, no_client, hello_of, opening_of, closing_of, service_of}
use Rattle.scenario_run.specs.declared.assembler.Assembler.{Assembler}
use Rattle.scenario_run.specs.declared.assembler.Member.{Member}
use Rattle.scenario_run.specs.declared.assembler.Member.TheVariants.{Nothing, Own, Stream}
use Rattle.scenario_run.specs.declared.assembler.Session.{Session}
use Rattle.scenario_run.specs.declared.clients.Client.{Client}

abbrev pub nothing_sent : Assembler
nothing_sent = record { clients = empty; channels = 0; sessions = []; cut = 0; chunk = 0; is_aborting = false }

-- what a line comes to, and what is so after it
abbrev pub Assembled : Type 0
Assembled = Member × Assembler

abbrev pub client_of : Assembler → ℕ → Client
client_of a connection = unwrap_or (get a.clients connection) no_client

abbrev pub with_client : Assembler → ℕ → Client → Assembler
with_client a connection client = record a { clients = insert a.clients connection client }

-- a client sends bytes
abbrev pub sent_on : Assembler → ℕ → Sending → Assembled
sent_on a connection s = (Stream connection s.0, with_client a connection s.1)

unfoldable pub sending : Assembler → ℕ → Result Sending Cause → Result Assembled Cause
sending a connection said = do
  s ← said
  Ok (sent_on a connection s)

-- ---- channels

-- a new channel has the next number
abbrev pub channels_after : Assembler → ChannelRequest → ℕ
channels_after a Issue = sequence_number_after a.channels
channels_after a Renew = a.channels

unfoldable pub assembled_opening : Assembler → ℕ → ChannelRequest → Result Assembled Cause
assembled_opening a connection request =
    let number = channels_after a request in
    sending (record a { channels = number }) connection (opening_of (client_of a connection) number request)

-- ---- services

-- the token that the server gives the session, which is known by its number
abbrev pub token_in : Option Session → NodeId
token_in None = numeric_id 0 0
token_in (Some s) = token_of (secret_of s.key) s.number

abbrev pub token_at : Assembler → ℕ → NodeId
token_at a session = token_in (slice_get a.sessions (session - 1))

-- a session is made on this connection
abbrev pub with_session : Assembler → ℕ → Assembler
with_session a connection =
    record a { sessions = a.sessions ++ record { key = (client_of a connection).key; number = sequence_number_after (length a.sessions) } ∷ [] }

-- a request with this body, aborted where that was said
unfoldable pub assembled_service : Assembler → ℕ → List ℕ → Result Assembled Cause
assembled_service a connection body =
    sending (record a { is_aborting = false }) connection (service_of a.is_aborting a.chunk (client_of a connection) body)

-- ---- lines

unfoldable pub assembled_of : Assembler → Statement → Result Assembled Cause
assembled_of a (statements.Open connection key) = Ok (Own (events.Opened connection key), with_client a connection (new_client key))
assembled_of a (statements.Hello connection url) = sending a connection (hello_of (client_of a connection) url)
assembled_of a (statements.OpenChannel connection request) = assembled_opening a connection request
assembled_of a (statements.CloseChannel connection) = sending a connection (closing_of (client_of a connection))
assembled_of a (statements.Gone connection) = Ok (Own (events.Gone connection), record a { clients = remove a.clients connection })
assembled_of a (statements.Tick now) = Ok (Own (events.Tick now), a)
assembled_of a statements.Shutdown = Ok (Own events.Shutdown, a)
assembled_of a (statements.Raw connection bytes) = Ok (Stream connection bytes, a)
assembled_of a (statements.Cut size) = Ok (Nothing, record a { cut = size })
assembled_of a (statements.Chunk size) = Ok (Nothing, record a { chunk = size })
assembled_of a statements.Abort = Ok (Nothing, record a { is_aborting = true })
assembled_of a (statements.Range range) = Ok (Nothing, a)
assembled_of a (statements.GetEndpoints connection) =
    assembled_service a connection (endpoints_body (plain_request (numeric_id 0 0) (client_of a connection).request_id))
assembled_of a (statements.CreateSession connection) =
    assembled_service (with_session a connection) connection (create_session_body (plain_request (numeric_id 0 0) (client_of a connection).request_id))
assembled_of a (statements.Ask connection session request) =
    assembled_service a connection (request_body (plain_request (token_at a session) (client_of a connection).request_id) request)

-- ---- words of the contracts

-- What a call gave, and the state after it, are what is said, unless memory ran out.
abbrev pub Assembles : {A S E : Type 0} → E → Result A E → S → Result (A × S) E → Type 0
Assembles memory (Ok x) new said = said ≡ Ok (x, new)
Assembles memory (Err e) new said = e ≢ memory → said ≡ Err e
