-- Every header can be written, whatever lines come.
use Rattle.std.proofs.Common.{ℕ, ◌<◌, ◌≤◌, ◌^◌, Bool, true, false, cond, List, Option, Some, None, Result, Ok, Err, sym, arith, subst}
use Rattle.std.specs.Prelude.{unwrap_or}
use Rattle.std.specs.Ordering.{nat_cmp, eq_by_cmp}
use Rattle.std.specs.Cmp.{nat_cmp_total}
use Rattle.std.specs.FinMap.{FinMap, get, insert, remove, get-insert, get-remove, get-empty}
use Rattle.ua_types.specs.Answers.{◌>>=◌}
use Rattle.ua_transport.specs.declared.frame.ChunkType.TheVariants.{Intermediate, Final}
use Rattle.ua_transport.specs.Cutting.{cut_of}
use Rattle.ua_transport.specs.SequenceNumbers.{sequence_number_after}
use Rattle.ua_transport.proofs.HeaderLemmas.{sequence_number_small}
use Rattle.ua_transport.specs.declared.headers.ChunkHeader.{ChunkHeader}
use Rattle.scenario_text.specs.declared.choices.ChannelRequest.{ChannelRequest}
use Rattle.scenario_text.specs.declared.choices.ChannelRequest.TheVariants.{Issue, Renew}
use Rattle.scenario_text.specs.declared.fault.Cause.{Cause}
use Rattle.scenario_text.specs.declared.statement.Statement.{Statement}
use Rattle.scenario_text.specs.declared.statement.Statement.TheVariants as statements
use Rattle.scenario_run.specs.RequestRuns.{request_run}
use Rattle.scenario_run.specs.Sendings.{Sending, room_of, no_client, new_client, header_of, after_request, opened, hello_of, opening_of, closing_of, service_of}
use Rattle.scenario_run.specs.Members.{client_of, sending, assembled_opening, assembled_service, channels_after, with_session, assembled_of, nothing_sent}
use Rattle.scenario_run.specs.Reading.{IsCounted, AllCounted, AfterCounted}
use Rattle.scenario_run.specs.declared.assembler.Assembler.{Assembler}
use Rattle.scenario_run.specs.declared.clients.Client.{Client}

none_counted : IsCounted no_client
none_counted = record { channel_id = omega arith; token_id = omega arith; sequence_number = omega arith; request_id = omega arith }

new_counted : (key : List ℕ) → IsCounted (new_client key)
new_counted key = record { channel_id = omega arith; token_id = omega arith; sequence_number = omega arith; request_id = omega arith }

-- the clients of a map
by_put : (b : Bool) (client : Client) (o : Option Client) → IsCounted client → IsCounted (unwrap_or o no_client) → IsCounted (unwrap_or (cond b (Some client) o) no_client)
by_put true client o here there = here
by_put false client o here there = there

by_taken : (b : Bool) (o : Option Client) → IsCounted (unwrap_or o no_client) → IsCounted (unwrap_or (cond b None o) no_client)
by_taken true o there = none_counted
by_taken false o there = there

put_counted : (m : FinMap nat_cmp Client) (connection : ℕ) (client : Client) → IsCounted client → ((c : ℕ) → IsCounted (unwrap_or (get m c) no_client))
    → (c : ℕ) → IsCounted (unwrap_or (get (insert m connection client) c) no_client)
put_counted m connection client here there c =
    subst (λ (o : Option Client). IsCounted (unwrap_or o no_client)) (sym (get-insert nat_cmp_total m connection client c)) (by_put (eq_by_cmp nat_cmp c connection) client (get m c) here (there c))

taken_counted : (m : FinMap nat_cmp Client) (connection : ℕ) → ((c : ℕ) → IsCounted (unwrap_or (get m c) no_client))
    → (c : ℕ) → IsCounted (unwrap_or (get (remove m connection) c) no_client)
taken_counted m connection there c =
    subst (λ (o : Option Client). IsCounted (unwrap_or o no_client)) (sym (get-remove nat_cmp_total m connection c)) (by_taken (eq_by_cmp nat_cmp c connection) (get m c) (there c))

-- what a client sends leaves it counted
abbrev LeavesCounted : Result Sending Cause → Type 0
LeavesCounted (Ok s) = IsCounted s.1
LeavesCounted (Err cause) = Unit {0}

then_counted : (r : Result (List ℕ) Cause) (f : List ℕ → Sending) → ((b : List ℕ) → IsCounted (f b).1) → LeavesCounted (r >>= λ b. Ok (f b))
then_counted (Ok b) f h = h b
then_counted (Err e) f h = tt

after_counted : (client : Client) (sequence_number : ℕ) → sequence_number ≤ 4294966272 → IsCounted client → IsCounted (after_request client sequence_number)
after_counted client n l w = record {
  channel_id = w.channel_id;
  token_id = w.token_id;
  sequence_number = l;
  request_id = (let s = sequence_number_small client.request_id in omega arith);
}

opened_counted : (number : ℕ) (request : ChannelRequest) (client : Client) → number < 2 ^ 32 → IsCounted client → IsCounted (opened number request client)
opened_counted number Issue client l w = record {
  channel_id = l;
  token_id = omega arith;
  sequence_number = w.sequence_number;
  request_id = w.request_id;
}
opened_counted number Renew client l w = record {
  channel_id = w.channel_id;
  token_id = (let s = sequence_number_small client.token_id in omega arith);
  sequence_number = w.sequence_number;
  request_id = w.request_id;
}

hello_counted : (client : Client) (url : Option (List ℕ)) → IsCounted client → LeavesCounted (hello_of client url)
unfolding hello_of
hello_counted client url w = then_counted _ _ (λ b. w)

opening_counted : (client : Client) (number : ℕ) (request : ChannelRequest) → number < 2 ^ 32 → IsCounted client → LeavesCounted (opening_of client number request)
unfolding opening_of
opening_counted client number request l w =
    then_counted _ _ (λ b. opened_counted number request (after_request client (sequence_number_after client.sequence_number)) l (after_counted client (sequence_number_after client.sequence_number) (sequence_number_small client.sequence_number) w))

closing_counted : (client : Client) → IsCounted client → LeavesCounted (closing_of client)
unfolding closing_of
closing_counted client w = then_counted _ _ (λ b. after_counted client (sequence_number_after client.sequence_number) (sequence_number_small client.sequence_number) w)

-- the chunk behind a run has a number again
request_next : (aborted : Bool) (header : ChunkHeader) (room : ℕ) (body : List ℕ) → (request_run aborted header room body).next.sequence_number ≤ 4294966272
unfolding request_run
request_next false header room body = sequence_number_small (cut_of Final header room body).sent
request_next true header room body = sequence_number_small (sequence_number_after (cut_of Intermediate header room body).sent)

service_counted : (aborted : Bool) (chunk : ℕ) (client : Client) (body : List ℕ) → IsCounted client → LeavesCounted (service_of aborted chunk client body)
unfolding service_of
service_counted aborted chunk client body w =
    then_counted _ _ (λ b. after_counted client (request_run aborted (header_of client) (room_of chunk) b).next.sequence_number (request_next aborted (header_of client) (room_of chunk) b) w)

sent_counted : (a : Assembler) (connection : ℕ) (r : Result Sending Cause) → AllCounted a → LeavesCounted r → AfterCounted (sending a connection r)
unfolding sending
sent_counted a connection (Ok s) w h = record { clients = put_counted a.clients connection s.1 h w.clients; channels = w.channels }
sent_counted a connection (Err e) w h = tt

channels_counted : (a : Assembler) (request : ChannelRequest) → AllCounted a → channels_after a request < 2 ^ 32
channels_counted a Issue w = let s = sequence_number_small a.channels in omega arith
channels_counted a Renew w = w.channels

assembled_opening_counted : (a : Assembler) (connection : ℕ) (request : ChannelRequest) → AllCounted a → AfterCounted (assembled_opening a connection request)
unfolding assembled_opening
assembled_opening_counted a connection request w =
    let number = channels_after a request in
    let l = channels_counted a request w in
    sent_counted (record a { channels = number }) connection (opening_of (client_of a connection) number request) (record { clients = w.clients; channels = l })
    (opening_counted (client_of a connection) number request l (w.clients connection))

assembled_service_counted : (a : Assembler) (connection : ℕ) (body : List ℕ) → AllCounted a → AfterCounted (assembled_service a connection body)
unfolding assembled_service
assembled_service_counted a connection body w =
    sent_counted (record a { is_aborting = false }) connection (service_of a.is_aborting a.chunk (client_of a connection) body) (record { clients = w.clients; channels = w.channels })
    (service_counted a.is_aborting a.chunk (client_of a connection) body (w.clients connection))

pub assembled_counted : (a : Assembler) (statement : Statement) → AllCounted a → AfterCounted (assembled_of a statement)
unfolding assembled_of
assembled_counted a (statements.Open connection key) w = record { clients = put_counted a.clients connection (new_client key) (new_counted key) w.clients; channels = w.channels }
assembled_counted a (statements.Hello connection url) w = sent_counted a connection (hello_of (client_of a connection) url) w (hello_counted (client_of a connection) url (w.clients connection))
assembled_counted a (statements.OpenChannel connection request) w = assembled_opening_counted a connection request w
assembled_counted a (statements.CloseChannel connection) w = sent_counted a connection (closing_of (client_of a connection)) w (closing_counted (client_of a connection) (w.clients connection))
assembled_counted a (statements.Gone connection) w = record { clients = taken_counted a.clients connection w.clients; channels = w.channels }
assembled_counted a (statements.Tick now) w = w
assembled_counted a statements.Shutdown w = w
assembled_counted a (statements.Raw connection bytes) w = w
assembled_counted a (statements.Cut size) w = record { clients = w.clients; channels = w.channels }
assembled_counted a (statements.Chunk size) w = record { clients = w.clients; channels = w.channels }
assembled_counted a statements.Abort w = record { clients = w.clients; channels = w.channels }
assembled_counted a (statements.Range range) w = w
assembled_counted a (statements.GetEndpoints connection) w = assembled_service_counted a connection _ w
assembled_counted a (statements.CreateSession connection) w = assembled_service_counted (with_session a connection) connection _ (record { clients = w.clients; channels = w.channels })
assembled_counted a (statements.Ask connection session request) w = assembled_service_counted a connection _ w

pub nothing_counted : AllCounted nothing_sent
nothing_counted = record {
  clients = λ c. subst (λ (o : Option Client). IsCounted (unwrap_or o no_client)) (sym (get-empty nat_cmp c)) none_counted;
  channels = omega arith;
}
