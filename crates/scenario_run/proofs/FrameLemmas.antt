-- A Hello, the opening of a channel and its end are read again.
use Rattle.std.proofs.Common.{◌≡◌, ℕ, ◌+◌, ◌<◌, ◌≤◌, ◌^◌, Bool, true, false, cond, List, [], ◌∷◌, ◌++◌, length, Option, Some, None, Ok, Err, refl, sym, ◌∙◌, ap, arith, append-nil}
use Rattle.std.specs.Prelude.{nat_lt, IfSome, IfOk, IsOkAnd}
use Rattle.std.specs.Int.{w32}
use Rattle.std.specs.Str.{IsUtf8}
use Rattle.std.proofs.lemmas.List.{length-append}
use Rattle.std.proofs.lemmas.Bool.Decides.{nat_tests}
use Rattle.ua_types.specs.Answers.{◌>>=◌}
use Rattle.ua_types.specs.NodeIds.{numeric_id}
use Rattle.ua_binary.specs.Reading.{Reading, IsReadAgain}
use Rattle.ua_binary.specs.Enumerations.{enumeration_encoding}
use Rattle.ua_binary.specs.ExtensionObjects.{extension_object_encoding}
use Rattle.ua_binary.specs.NodeIds.{node_id_encoding}
use Rattle.ua_binary.specs.Numbers.{number_encoding, signed_encoding}
use Rattle.ua_binary.specs.Scalars.{moment_encoding}
use Rattle.ua_binary.specs.Texts.{byte_string_reading, byte_string_encoding, text_reading, text_encoding}
use Rattle.ua_binary.proofs.Again.{number32_again, byte_string_again, text_again}
use Rattle.ua_binary.proofs.Fields.{apart6}
use Rattle.ua_messages.specs.Headers.{request_header_encoding}
use Rattle.ua_messages.specs.SecureChannels.{open_secure_channel_request_encoding, close_secure_channel_request_encoding}
use Rattle.ua_transport.specs.Encoding.{frame_encoding, IsFrame}
use Rattle.ua_transport.specs.Frames.{Rest, frames}
use Rattle.ua_transport.specs.Header.{judgement_of, may_come_in}
use Rattle.ua_transport.specs.Hellos.{hello_reading, hello_encoding}
use Rattle.ua_transport.specs.declared.frame.ChunkType.TheVariants.{Final}
use Rattle.ua_transport.specs.declared.frame.Frame.{Frame}
use Rattle.ua_transport.specs.declared.frame.Judgement.TheVariants.{Incomplete}
use Rattle.ua_transport.specs.declared.frame.MessageType.{MessageType}
use Rattle.ua_transport.specs.declared.frame.MessageType.TheVariants as message
use Rattle.ua_transport.specs.declared.hello_message.Hello.{Hello}
use Rattle.ua_transport.proofs.EncodedLemmas.{split_read}
use Rattle.ua_transport.specs.Headers.{chunk_header_reading, chunk_header_encoding, opening_header_reading, opening_header_encoding}
use Rattle.ua_messages.specs.SecurityPolicies.{security_policy_none}
use Rattle.ua_transport.specs.declared.headers.OpeningHeader.{OpeningHeader}
use Rattle.ua_transport.proofs.HeaderLemmas.{header_again, encoding_length, opening_encoding_length}
use Rattle.scenario_text.specs.declared.choices.ChannelRequest.{ChannelRequest}
use Rattle.scenario_text.specs.declared.choices.ChannelRequest.TheVariants.{Issue, Renew}
use Rattle.scenario_text.specs.declared.fault.Cause.TheVariants.{Limit}
use Rattle.scenario_text.specs.declared.statement.Statement.TheVariants as statements
use Rattle.scenario_text.specs.Messages.{opening_body, closing_body}
use Rattle.scenario_text.specs.Structures.{plain_request}
use Rattle.scenario_run.specs.Members.{client_of, channels_after, sent_on, sending, assembled_opening, assembled_of}
use Rattle.scenario_run.specs.Reading.{IsAmple, SendsFrame, hello_said, opening_said, closing_said, IsCounted, AllCounted}
use Rattle.ua_transport.specs.SequenceNumbers.{sequence_number_after}
use Rattle.scenario_run.specs.Sendings.{body_limit, limited, after_request, named_channel, opened, hello_of, opening_of, closing_of}
use Rattle.scenario_run.specs.declared.assembler.Assembler.{Assembler}
use Rattle.scenario_run.specs.declared.clients.Client.{Client}

pub none_yet : (limit : ℕ) → judgement_of limit [] ≡ Incomplete
unfolding judgement_of
none_yet limit = refl

-- a frame alone is read as it
pub one_frame : (limit : ℕ) (f : Frame) → limit < 2 ^ 32 → IsFrame limit f → frames limit (frame_encoding f) ≡ record { frames = f ∷ []; end = Rest [] }
one_frame limit f l is =
    split_read limit (frame_encoding f) (f ∷ []) [] (Rest []) l
    (record { whole = sym (append-nil (frame_encoding f ++ []) ∙ append-nil (frame_encoding f)); each = (is, tt); ends = (refl, none_yet limit) })

-- ---- a body that isn't too long is sent in one frame

abbrev pub framed_as : MessageType → List ℕ → Frame
framed_as message_type body = record { message_type = message_type; chunk_type = Final; body = body }

frame_sent : {A : Type 0} (limit connection : ℕ) (a : Assembler) (message_type : MessageType) (reading : Reading A) (said : A × List ℕ) (front body : List ℕ) (after : Client)
    → IsAmple limit → length front ≤ 120 → may_come_in message_type Final ≡ true → length body ≤ body_limit → reading (front ++ body) ≡ Ok said
    → SendsFrame limit connection message_type reading said (sent_on a connection (frame_encoding (framed_as message_type (front ++ body)), after))
frame_sent limit connection a message_type reading said front body after ample few may short read =
    let fits : 8 + length (front ++ body) ≤ limit = omega (arith, length-append front body, ample.large) in
    record {
      bytes = frame_encoding (framed_as message_type (front ++ body));
      body = front ++ body;
      sent = refl;
      framed = one_frame limit (framed_as message_type (front ++ body)) ample.small (record { chunk_type = may; size = fits });
      read = read;
    }

-- a body may be too long
sent_if : {A : Type 0} (long : Bool) (limit connection : ℕ) (a : Assembler) (message_type : MessageType) (reading : Reading A) (said : A × List ℕ) (front body : List ℕ) (after : Client)
    → IsAmple limit → length front ≤ 120 → may_come_in message_type Final ≡ true → (length body ≤ body_limit → reading (front ++ body) ≡ Ok said) → nat_lt body_limit (length body) ≡ long
    → IfOk (sending a connection (cond long (Err Limit) (Ok body) >>= λ b. Ok (frame_encoding (framed_as message_type (front ++ b)), after))) (SendsFrame limit connection message_type reading said)
unfolding sending
sent_if true limit connection a message_type reading said front body after ample few may read e = tt
sent_if false limit connection a message_type reading said front body after ample few may read e =
    let short : length body ≤ body_limit = grind (arith, nat_tests) in
    frame_sent limit connection a message_type reading said front body after ample few may short (read short)

-- or is known to be short
sent_as : {A : Type 0} (limit connection : ℕ) (a : Assembler) (message_type : MessageType) (reading : Reading A) (said : A × List ℕ) (front body : List ℕ) (after : Client)
    → IsAmple limit → length front ≤ 120 → may_come_in message_type Final ≡ true → length body ≤ body_limit → reading (front ++ body) ≡ Ok said
    → IsOkAnd (sending a connection (limited body >>= λ b. Ok (frame_encoding (framed_as message_type (front ++ b)), after))) (SendsFrame limit connection message_type reading said)
unfolding sending
sent_as limit connection a message_type reading said front body after ample few may short read =
    let fits : nat_lt body_limit (length body) ≡ false = grind (arith, nat_tests) in
    rw fits (frame_sent limit connection a message_type reading said front body after ample few may short read)

-- ---- what stands in the body is read again

null_again : IsReadAgain byte_string_reading byte_string_encoding None
unfolding byte_string_reading byte_string_encoding
null_again x = rw (number32_again 0xffff_ffff x (omega arith)) refl

null_text_again : IsReadAgain text_reading text_encoding None
unfolding text_reading
null_text_again x = rw (null_again x) refl

-- five numbers and a text
numbers_again : (a b c d e : ℕ) (url : Option (List ℕ)) (x : List ℕ) → a < 2 ^ 32 → b < 2 ^ 32 → c < 2 ^ 32 → d < 2 ^ 32 → e < 2 ^ 32 → IsReadAgain text_reading text_encoding url →
    (let h : Hello = record { protocol_version = a; receive_size = b; send_size = c; max_message_size = d; max_chunk_count = e; endpoint_url = url } in hello_reading (hello_encoding h ++ x) ≡ Ok (h, x))
unfolding hello_reading hello_encoding
numbers_again a b c d e url x la lb lc ld le again =
    let m = number_encoding w32 a in
    let n = number_encoding w32 b in
    let o = number_encoding w32 c in
    let p = number_encoding w32 d in
    let q = number_encoding w32 e in
    let t = text_encoding url in
    rw (
      apart6 m n o p q t x,
      number32_again a (n ++ (o ++ (p ++ (q ++ (t ++ x))))) la,
      number32_again b (o ++ (p ++ (q ++ (t ++ x)))) lb,
      number32_again c (p ++ (q ++ (t ++ x))) lc,
      number32_again d (q ++ (t ++ x)) ld,
      number32_again e (t ++ x) le,
      again x,
    ) refl

hello_again : (url : Option (List ℕ)) → IsReadAgain text_reading text_encoding url → hello_reading (hello_encoding (hello_said url).0) ≡ Ok (hello_said url)
hello_again url again =
    ap hello_reading (sym (append-nil (hello_encoding (hello_said url).0)))
    ∙ numbers_again 0 65536 65536 0 0 url [] (omega arith) (omega arith) (omega arith) (omega arith) (omega arith) again

-- a text that a Hello holds isn't longer than it
url_short : (text : List ℕ) → length text ≤ length (hello_encoding (hello_said (Some text)).0)
unfolding hello_encoding byte_string_encoding
url_short text =
    let front = number_encoding w32 0 ++ number_encoding w32 65536 ++ number_encoding w32 65536 ++ number_encoding w32 0 ++ number_encoding w32 0 in
    let count = number_encoding w32 (length text) in
    omega (arith, length-append front (count ++ text), length-append count text)

url_again : (url : Option (List ℕ)) → IfSome url IsUtf8 → length (hello_encoding (hello_said url).0) ≤ body_limit → IsReadAgain text_reading text_encoding url
url_again None utf8 short = null_text_again
url_again (Some text) utf8 short = text_again text (byte_string_again text (omega (arith, url_short text))) utf8

-- a number, a text, two nulls and two numbers
pub fields_again : (c s r : ℕ) (uri part : List ℕ) → c < 2 ^ 32 → s < 2 ^ 32 → r < 2 ^ 32 → IsReadAgain text_reading text_encoding (Some uri) →
    (let h : OpeningHeader = record {
      channel_id = c;
      security_policy_uri = Some uri;
      sender_certificate = None;
      receiver_certificate_thumbprint = None;
      sequence_number = s;
      request_id = r;
    } in opening_header_reading (opening_header_encoding h ++ part) ≡ Ok (h, part))
unfolding opening_header_reading opening_header_encoding
fields_again c s r uri part lc ls lr again =
    let m = number_encoding w32 c in
    let t = text_encoding (Some uri) in
    let n = byte_string_encoding None in
    let o = number_encoding w32 s in
    let p = number_encoding w32 r in
    rw (
      apart6 m t n n o p part,
      number32_again c (t ++ (n ++ (n ++ (o ++ (p ++ part))))) lc,
      again (n ++ (n ++ (o ++ (p ++ part)))),
      null_again (n ++ (o ++ (p ++ part))),
      null_again (o ++ (p ++ part)),
      number32_again s (p ++ part) ls,
      number32_again r part lr,
    ) refl

policy_utf8 : IsUtf8 security_policy_none
unfolding lib.Utf8.encode
policy_utf8 = (security_policy_none, (refl, refl))

pub policy_again : IsReadAgain text_reading text_encoding (Some security_policy_none)
policy_again = text_again security_policy_none (byte_string_again security_policy_none (omega arith)) policy_utf8

-- ---- the lines

opening_short : (handle : ℕ) (request : ChannelRequest) → length (opening_body (plain_request (numeric_id 0 0) handle) request) ≤ body_limit
unfolding opening_body open_secure_channel_request_encoding request_header_encoding node_id_encoding extension_object_encoding moment_encoding byte_string_encoding signed_encoding number_encoding enumeration_encoding
opening_short handle Issue = omega arith
opening_short handle Renew = omega arith

closing_short : (handle : ℕ) → length (closing_body (plain_request (numeric_id 0 0) handle)) ≤ body_limit
unfolding closing_body close_secure_channel_request_encoding request_header_encoding node_id_encoding extension_object_encoding moment_encoding byte_string_encoding signed_encoding number_encoding
closing_short handle = omega arith

pub hello_read : (limit : ℕ) (a : Assembler) (connection : ℕ) (url : Option (List ℕ)) → IsAmple limit → IfSome url IsUtf8
    → IfOk (assembled_of a (statements.Hello connection url)) (SendsFrame limit connection message.Hello hello_reading (hello_said url))
unfolding assembled_of hello_of
hello_read limit a connection url ample utf8 =
    let body = hello_encoding (hello_said url).0 in
    sent_if (nat_lt body_limit (length body)) limit connection a message.Hello hello_reading (hello_said url) [] body (client_of a connection) ample (omega arith) refl
    (λ short. hello_again url (url_again url utf8 short)) refl

pub named_small : (client : Client) (request : ChannelRequest) → IsCounted client → named_channel client request < 2 ^ 32
named_small client Issue w = omega arith
named_small client Renew w = w.channel_id

pub opening_read : (limit : ℕ) (a : Assembler) (connection : ℕ) (request : ChannelRequest) → IsAmple limit → AllCounted a
    → IsOkAnd (assembled_of a (statements.OpenChannel connection request)) (SendsFrame limit connection message.OpenSecureChannel opening_header_reading (opening_said (client_of a connection) request))
unfolding assembled_of assembled_opening opening_of
opening_read limit a connection request ample w =
    let client = client_of a connection in
    let number = channels_after a request in
    let counted : IsCounted client = w.clients connection in
    let named = named_channel client request in
    let said = opening_said client request in
    let front = opening_header_encoding said.0 in
    sent_as limit connection (record a { channels = number }) message.OpenSecureChannel opening_header_reading said front said.1
    (opened number request (after_request client (sequence_number_after client.sequence_number))) ample (omega (arith, opening_encoding_length named client.sequence_number client.request_id)) refl (opening_short client.request_id request)
    (fields_again named client.sequence_number client.request_id security_policy_none said.1 (named_small client request counted) (omega (arith, counted.sequence_number)) counted.request_id policy_again)

pub closing_read : (limit : ℕ) (a : Assembler) (connection : ℕ) → IsAmple limit → AllCounted a
    → IsOkAnd (assembled_of a (statements.CloseChannel connection)) (SendsFrame limit connection message.CloseSecureChannel chunk_header_reading (closing_said (client_of a connection)))
unfolding assembled_of closing_of
closing_read limit a connection ample w =
    let client = client_of a connection in
    let said = closing_said client in
    sent_as limit connection a message.CloseSecureChannel chunk_header_reading said (chunk_header_encoding said.0) said.1
    (after_request client (sequence_number_after client.sequence_number)) ample (omega (arith, encoding_length said.0)) refl (closing_short client.request_id)
    (header_again said.0 said.1 (w.clients connection))
