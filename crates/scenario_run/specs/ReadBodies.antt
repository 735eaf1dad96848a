-- What a line sends is read again: what the structures of a request say of themselves where they were written.
use Rattle.std.specs.Prelude.{◌≡◌, Ok}
use Rattle.ua_transport.specs.Hellos.{hello_reading, hello_encoding}
use Rattle.ua_types.specs.NodeIds.{numeric_id}
use Rattle.scenario_text.specs.declared.statement.Statement.{Statement}
use Rattle.scenario_text.specs.declared.statement.Statement.TheVariants as statements
use Rattle.scenario_text.specs.Messages.{IsServiceBody, IsEndpointsBody, IsSessionBody, IsOpeningBody, IsClosingBody, endpoints_body, create_session_body, opening_body, closing_body, request_body}
use Rattle.scenario_text.specs.Structures.{plain_request}
use Rattle.scenario_run.specs.Members.{client_of, token_at}
use Rattle.scenario_run.specs.Reading.{hello_said}
use Rattle.scenario_run.specs.declared.assembler.Assembler.{Assembler}

abbrev pub IsRead : Assembler → Statement → Type 0
IsRead a (statements.Hello connection url) = hello_reading (hello_encoding (hello_said url).0) ≡ Ok (hello_said url)
IsRead a (statements.OpenChannel connection request) =
    let header = plain_request (numeric_id 0 0) (client_of a connection).request_id in
    IsOpeningBody header request (opening_body header request)
IsRead a (statements.CloseChannel connection) =
    let header = plain_request (numeric_id 0 0) (client_of a connection).request_id in
    IsClosingBody header (closing_body header)
IsRead a (statements.GetEndpoints connection) =
    let header = plain_request (numeric_id 0 0) (client_of a connection).request_id in
    IsEndpointsBody header (endpoints_body header)
IsRead a (statements.CreateSession connection) =
    let header = plain_request (numeric_id 0 0) (client_of a connection).request_id in
    IsSessionBody header (create_session_body header)
IsRead a (statements.Ask connection session request) =
    let header = plain_request (token_at a session) (client_of a connection).request_id in
    IsServiceBody header request (request_body header request)
IsRead a _ = Unit {0}
