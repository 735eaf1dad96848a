-- A line's events are what it tells.
use Rattle.std.proofs.Common.{◌≡◌, ℕ, ◌+◌, ◌<◌, ◌≤◌, ◌^◌, Bool, true, false, cond, List, [], ◌∷◌, ◌++◌, length, Option, Some, None, Result, Ok, Err, refl, sym, ap, ◌∙◌, arith, append-nil, append_assoc, subst}
use Rattle.std.specs.Prelude.{nat_lt, IfOk, OnOk}
use Rattle.std.proofs.lemmas.List.{length-append}
use Rattle.std.proofs.lemmas.Bool.Decides.{nat_tests}
use Rattle.ua_types.specs.Answers.{◌>>=◌}
use Rattle.ua_types.specs.NodeIds.{numeric_id}
use Rattle.ua_types.specs.declared.node_id.NodeId.{NodeId}
use Rattle.ua_binary.specs.Reading.{Reading, IsReadAgain}
use Rattle.ua_transport.specs.Encoding.{frame_encoding}
use Rattle.ua_transport.specs.Hellos.{hello_reading, hello_encoding}
use Rattle.ua_transport.specs.Header.{may_come_in}
use Rattle.ua_transport.specs.declared.frame.ChunkType.TheVariants.{Final}
use Rattle.ua_transport.specs.declared.frame.MessageType.{MessageType}
use Rattle.ua_transport.specs.declared.frame.MessageType.TheVariants as message
use Rattle.ua_transport.specs.Cutting.{opening_header_by}
use Rattle.ua_transport.specs.Headers.{chunk_header_reading, chunk_header_encoding, opening_header_reading, opening_header_encoding}
use Rattle.ua_transport.specs.SequenceNumbers.{sequence_number_after}
use Rattle.ua_transport.proofs.HeaderLemmas.{header_again, encoding_length, opening_encoding_length}
use Rattle.ua_messages.specs.SecurityPolicies.{security_policy_none}
use Rattle.server_core.specs.declared.event.Event.{Event}
use Rattle.scenario_text.specs.declared.choices.ChannelRequest.{ChannelRequest}
use Rattle.scenario_text.specs.declared.choices.ChannelRequest.TheVariants.{Issue, Renew}
use Rattle.scenario_text.specs.declared.fault.Cause.{Cause}
use Rattle.scenario_text.specs.declared.fault.Cause.TheVariants.{Limit}
use Rattle.scenario_text.specs.declared.scenario.Line.{Line}
use Rattle.scenario_text.specs.declared.statement.SessionRequest.{SessionRequest}
use Rattle.scenario_text.specs.declared.statement.Statement.{Statement}
use Rattle.scenario_text.specs.declared.statement.Statement.TheVariants as statements
use Rattle.scenario_text.specs.Messages.{opening_body, closing_body, request_body, IsServiceBody, IsOpeningBody, IsClosingBody}
use Rattle.scenario_text.specs.Structures.{plain_request}
use Rattle.scenario_run.specs.Assembly.{group_of, in_line, stream_events}
use Rattle.scenario_run.specs.Groups.{Counts, nothing_counted, asked_channel, AreGroups, IsGroup, Bring, IsOneFrame, IsNothing, no_limit, greeting, null_header, with_numbers, with_token, after_chunks, first_header, given_token, session_header, with_asking, IsAskingBody, chunks_later}
use Rattle.scenario_run.specs.Meaning.{Manner, Happening, Asked, Asking, Endpoints, NewSession, Service, plain_manner, happens_by, happenings_of}
use Rattle.scenario_run.specs.Members.{Assembled, client_of, channels_after, token_in, token_at, with_client, with_session, nothing_sent, sent_on, sending, assembled_opening, assembled_service, assembled_of}
use Rattle.scenario_run.specs.ReadBodies.{IsRead}
use Rattle.scenario_run.specs.Reading.{hello_said, IsCounted, AllCounted}
use Rattle.scenario_run.specs.RequestRuns.{request_run}
use Rattle.scenario_run.specs.Sendings.{Sending, body_limit, named_channel, opened, after_request, header_of, room_of, run_sent, hello_of, opening_of, closing_of, service_of}
use Rattle.scenario_run.specs.declared.assembler.Assembler.{Assembler}
use Rattle.scenario_run.specs.declared.assembler.Member.{Member}
use Rattle.scenario_run.specs.declared.assembler.Session.{Session}
use Rattle.scenario_run.specs.declared.clients.Client.{Client}
use Rattle.scenario_run.proofs.FrameLemmas.{framed_as, one_frame, fields_again, policy_again, named_small}
use Rattle.scenario_run.proofs.SizeLemmas.{comes_in, request_brought}

-- what is read again whatever follows it is read again alone
pub alone : {A : Type 0} (reading : Reading A) (encoding : A → List ℕ) (v : A) → IsReadAgain reading encoding v → reading (encoding v) ≡ Ok (v, [])
alone reading encoding v again = ap reading (sym (append-nil (encoding v))) ∙ again []

-- ---- what was counted, and how later lines are meant

abbrev pub counts_of : Assembler → Counts
counts_of a = record { clients = a.clients; channels = a.channels; sessions = a.sessions }

abbrev pub manner_of : Assembler → Manner
manner_of a = record { cut = a.cut; chunk = a.chunk; is_aborting = a.is_aborting }

-- what came of a line stands before what happens by the lines behind it
abbrev pub Happens : Assembler → Statement → Assembled → Type 0
Happens a statement r =
    (others : Manner → List Happening) (tail : List Event) → AreGroups (counts_of r.1) (others (manner_of r.1)) tail
    → AreGroups (counts_of a) (happens_by (manner_of a) statement others) (group_of r.1.cut r.0 ++ tail)

group_on : (c after : Counts) (h : Happening) (hs : List Happening) (group tail : List Event) → IsGroup c h.cut h.chunk h.kind group after → AreGroups after hs tail → AreGroups c (h ∷ hs) (group ++ tail)
unfolding AreGroups
group_on c after h hs group tail is rest = (group, tail, after, refl, is, rest)

-- ---- what is sent in one frame

brought : {A : Type 0} (cut connection : ℕ) (message_type : MessageType) (reading : Reading A) (value : A) (IsBehind : List ℕ → Type 0) (front body behind : List ℕ)
    → length front ≤ 120 → length body ≤ body_limit → may_come_in message_type Final ≡ true → reading (front ++ body) ≡ Ok (value, behind) → IsBehind behind
    → Bring cut connection (IsOneFrame message_type reading value IsBehind) (stream_events cut connection (frame_encoding (framed_as message_type (front ++ body))))
brought cut connection message_type reading value IsBehind front body behind few short may read is =
    let fits : 8 + length (front ++ body) ≤ no_limit = omega (arith, length-append front body) in
    let bytes = frame_encoding (framed_as message_type (front ++ body)) in
    record {
      bytes = bytes;
      comes = comes_in cut connection bytes;
      said = record {
        body = front ++ body;
        behind = behind;
        framed = one_frame no_limit (framed_as message_type (front ++ body)) (omega arith) (record { chunk_type = may; size = fits });
        read = read;
        rest = is;
      };
    }

-- a body that is too long is refused
unless_long : (long : Bool) (a b : Assembler) (statement : Statement) (connection : ℕ) (body : List ℕ) (f : List ℕ → Sending) → nat_lt body_limit (length body) ≡ long
    → (length body ≤ body_limit → Happens a statement (sent_on b connection (f body))) → IfOk (sending b connection (cond long (Err Limit) (Ok body) >>= λ x. Ok (f x))) (Happens a statement)
unfolding sending
unless_long true a b statement connection body f e happens = tt
unless_long false a b statement connection body f e happens = happens (grind (arith, nat_tests))

hello_happens : (a : Assembler) (connection : ℕ) (url : Option (List ℕ)) → IsRead a (statements.Hello connection url) → IfOk (assembled_of a (statements.Hello connection url)) (Happens a (statements.Hello connection url))
unfolding assembled_of hello_of
hello_happens a connection url read =
    let body = hello_encoding (hello_said url).0 in
    unless_long (nat_lt body_limit (length body)) a a (statements.Hello connection url) connection body (λ b. (frame_encoding (framed_as message.Hello b), client_of a connection)) refl
    (λ short others tail rest.
    group_on _ _ _ _ _ tail (brought a.cut connection message.Hello hello_reading (greeting url) IsNothing [] body [] (omega arith) short refl read refl, refl) rest)

opening_counts : (a : Assembler) (connection : ℕ) (request : ChannelRequest) →
    (let client = client_of a connection in
    let number = channels_after a request in
    counts_of (with_client (record a { channels = number }) connection (opened number request (after_request client (sequence_number_after client.sequence_number))))
    ≡ with_token (counts_of a) connection request (after_chunks 1 client))
unfolding chunks_later
opening_counts a connection Issue = refl
opening_counts a connection Renew = refl

same_channel : (client : Client) (request : ChannelRequest) → named_channel client request < 2 ^ 32 → named_channel client request ≡ asked_channel client request
same_channel client Issue l = refl
same_channel client Renew l = refl

opening_happens : (a : Assembler) (connection : ℕ) (request : ChannelRequest) → AllCounted a → IsRead a (statements.OpenChannel connection request)
    → IfOk (assembled_of a (statements.OpenChannel connection request)) (Happens a (statements.OpenChannel connection request))
unfolding assembled_of assembled_opening opening_of
opening_happens a connection request w read =
    let client = client_of a connection in
    let number = channels_after a request in
    let named = named_channel client request in
    let header = opening_header_by named client.sequence_number client.request_id in
    let front = opening_header_encoding header in
    let body = opening_body (plain_request (numeric_id 0 0) client.request_id) request in
    let counted : IsCounted client = w.clients connection in
    let small = named_small client request counted in
    let again = fields_again named client.sequence_number client.request_id security_policy_none body small (omega (arith, counted.sequence_number)) counted.request_id policy_again in
    let is = IsOpeningBody (null_header client.request_id) request in
    unless_long (nat_lt body_limit (length body)) a (record a { channels = number }) (statements.OpenChannel connection request) connection body
    (λ b. (frame_encoding (framed_as message.OpenSecureChannel (front ++ b)), opened number request (after_request client (sequence_number_after client.sequence_number)))) refl
    (λ short others tail rest.
    let one = brought a.cut connection message.OpenSecureChannel opening_header_reading header is front body body (omega (arith, opening_encoding_length named client.sequence_number client.request_id)) short refl again read in
    let one' = subst (λ (n : ℕ). Bring a.cut connection (IsOneFrame message.OpenSecureChannel opening_header_reading (opening_header_by n client.sequence_number client.request_id) is) (stream_events a.cut connection (frame_encoding (framed_as message.OpenSecureChannel (front ++ body))))) (same_channel client request small) one in
    group_on _ _ _ _ _ tail (one', opening_counts a connection request) rest)

closing_happens : (a : Assembler) (connection : ℕ) → AllCounted a → IsRead a (statements.CloseChannel connection)
    → IfOk (assembled_of a (statements.CloseChannel connection)) (Happens a (statements.CloseChannel connection))
unfolding assembled_of closing_of chunks_later
closing_happens a connection w read =
    let client = client_of a connection in
    let header = header_of client in
    let front = chunk_header_encoding header in
    let body = closing_body (plain_request (numeric_id 0 0) client.request_id) in
    unless_long (nat_lt body_limit (length body)) a a (statements.CloseChannel connection) connection body
    (λ b. (frame_encoding (framed_as message.CloseSecureChannel (front ++ b)), after_request client (sequence_number_after client.sequence_number))) refl
    (λ short others tail rest.
    group_on _ _ _ _ _ tail
    (brought a.cut connection message.CloseSecureChannel chunk_header_reading (first_header client) (IsClosingBody (null_header client.request_id)) front body body (omega (arith, encoding_length header)) short refl (header_again header body (w.clients connection)) read, refl)
    rest)

-- ---- services

abbrev asking_statement : ℕ → Asking → Statement
asking_statement connection Endpoints = statements.GetEndpoints connection
asking_statement connection NewSession = statements.CreateSession connection
asking_statement connection (Service session request) = statements.Ask connection session request

service_counts : (c : Counts) (connection : ℕ) (client : Client) (n count : ℕ) → n ≡ chunks_later count client.sequence_number
    → with_numbers c connection (after_request client n) ≡ with_numbers c connection (after_chunks count client)
service_counts c connection client n count e = ap (λ (m : ℕ). with_numbers c connection (after_request client m)) e

asking_is : (a : Assembler) (connection : ℕ) (asking : Asking) (others : Manner → List Happening) →
    happens_by (manner_of a) (asking_statement connection asking) others
    ≡ record { cut = a.cut; chunk = a.chunk; kind = Asked connection a.is_aborting asking } ∷ others (record { cut = a.cut; chunk = a.chunk; is_aborting = false })
asking_is a connection Endpoints others = refl
asking_is a connection NewSession others = refl
asking_is a connection (Service session request) others = refl

service_happens : (a : Assembler) (sessions : List Session) (connection : ℕ) (asking : Asking) (body : List ℕ) → AllCounted a → counts_of (record a { sessions = sessions }) ≡ with_asking (counts_of a) connection asking
    → IsAskingBody (counts_of a) (client_of a connection).request_id asking body
    → IfOk (assembled_service (record a { sessions = sessions }) connection body) (Happens a (asking_statement connection asking))
unfolding assembled_service service_of
service_happens a sessions connection asking body w counts is =
    let client = client_of a connection in
    let header = header_of client in
    unless_long (nat_lt body_limit (length body)) a (record a { sessions = sessions; is_aborting = false }) (asking_statement connection asking) connection body
    (λ x. run_sent client (request_run a.is_aborting header (room_of a.chunk) x)) refl
    (λ short others tail rest.
    let run = request_run a.is_aborting header (room_of a.chunk) body in
    let one = request_brought a.is_aborting a.cut a.chunk connection header (IsAskingBody (counts_of a) client.request_id asking) body short (w.clients connection) is in
    let after = ap (λ (c : Counts). with_numbers c connection (after_request client run.next.sequence_number)) counts ∙ service_counts (with_asking (counts_of a) connection asking) connection client run.next.sequence_number one.0 one.2 in
    rw (asking_is a connection asking others) (group_on _ _ _ _ _ tail (one.0, one.1, after) rest))

same_token : (o : Option Session) → token_in o ≡ given_token o
same_token None = refl
same_token (Some s) = refl

ask_read : (a : Assembler) (connection session : ℕ) (request : SessionRequest) → IsRead a (statements.Ask connection session request)
    → (let id = (client_of a connection).request_id in
    IsServiceBody (session_header (counts_of a) session id) request (request_body (plain_request (token_at a session) id) request))
ask_read a connection session request read =
    let id = (client_of a connection).request_id in
    let body = request_body (plain_request (token_at a session) id) request in
    subst (λ (token : NodeId). IsServiceBody (plain_request token id) request body) (same_token _) read

pub line_happens : (a : Assembler) (statement : Statement) → AllCounted a → IsRead a statement → IfOk (assembled_of a statement) (Happens a statement)
unfolding assembled_of
line_happens a (statements.Open connection key) w read = λ others tail rest. group_on _ _ _ _ _ tail (refl, refl) rest
line_happens a (statements.Hello connection url) w read = hello_happens a connection url read
line_happens a (statements.OpenChannel connection request) w read = opening_happens a connection request w read
line_happens a (statements.CloseChannel connection) w read = closing_happens a connection w read
line_happens a (statements.Gone connection) w read = λ others tail rest. group_on _ _ _ _ _ tail (refl, refl) rest
line_happens a (statements.Tick now) w read = λ others tail rest. group_on _ _ _ _ _ tail (refl, refl) rest
line_happens a statements.Shutdown w read = λ others tail rest. group_on _ _ _ _ _ tail (refl, refl) rest
line_happens a (statements.Raw connection bytes) w read = λ others tail rest. group_on _ _ _ _ _ tail (comes_in a.cut connection bytes, refl) rest
line_happens a (statements.Cut size) w read = λ others tail rest. rest
line_happens a (statements.Chunk size) w read = λ others tail rest. rest
line_happens a statements.Abort w read = λ others tail rest. rest
line_happens a (statements.Range range) w read = λ others tail rest. rest
line_happens a (statements.GetEndpoints connection) w read = service_happens a a.sessions connection Endpoints _ w refl read
line_happens a (statements.CreateSession connection) w read = service_happens a (with_session a connection).sessions connection NewSession _ w refl read
line_happens a (statements.Ask connection session request) w read = service_happens a a.sessions connection (Service session request) _ w refl (ask_read a connection session request read)

-- ---- lines one after the other

pub line_grouped : (a : Assembler) (statement : Statement) (r : Assembled) → assembled_of a statement ≡ Ok r → AllCounted a → IsRead a statement → Happens a statement r
line_grouped a statement r is w read = subst (λ (x : Result Assembled Cause). IfOk x (Happens a statement)) is (line_happens a statement w read)

-- from the groups of what is left to those of it all
abbrev pub GoesOn : List Happening → Assembler → List Line → List Event → Type 0
GoesOn all a ls es = (tail : List Event) → AreGroups (counts_of a) (happenings_of (manner_of a) ls) tail → AreGroups nothing_counted all (es ++ tail)

pub begins_grouped : (ls : List Line) → GoesOn (happenings_of plain_manner ls) nothing_sent ls []
begins_grouped ls = λ tail rest. rest

pub goes_on_grouped : (all : List Happening) (a : Assembler) (r : Assembled) (es new : List Event) (l : Line) (ls : List Line) → Happens a l.statement r → new ≡ es ++ group_of r.1.cut r.0
    → GoesOn all a (l ∷ ls) es → GoesOn all r.1 ls new
unfolding happenings_of
goes_on_grouped all a r es new l ls happens put so_far = λ tail rest.
    let group = group_of r.1.cut r.0 in
    let groups : AreGroups nothing_counted all (es ++ (group ++ tail)) = so_far (group ++ tail) (happens (λ m. happenings_of m ls) tail rest) in
    rw put (subst (AreGroups nothing_counted all) (sym (append_assoc es group tail)) groups)

pub all_grouped : (all : List Happening) (a : Assembler) (es : List Event) (ls : List Line) → length ls ≡ 0 → GoesOn all a ls es → AreGroups nothing_counted all es
unfolding happenings_of AreGroups
all_grouped all a es [] left so_far = subst (AreGroups nothing_counted all) (append-nil es) (so_far [] refl)
all_grouped all a es (l ∷ ls) left so_far = absurd (omega arith)

pub of_line : (r : Result Member Cause) (number : ℕ) (m : Member) (P : Type 0) → OnOk r P → Ok m ≡ in_line number r → P
of_line (Ok x) number m P read is = read
of_line (Err e) number m P read is = absurd cc
