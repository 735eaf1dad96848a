-- What a frame does to its connection.
use Rattle.std.specs.Prelude.{ℕ, ◌+◌, ◌==◌, Bool, List, [], ◌∷◌, ◌++◌, map, None, Result, Ok, Err, if◌then◌else◌}
use Rattle.ua_types.specs.declared.status.Status.{Status}
use Rattle.ua_types.specs.declared.status.TheConstants.Status as status
use Rattle.ua_messages.specs.Bodies.{body_encoding}
use Rattle.ua_messages.specs.Headers.{plain_header}
use Rattle.ua_messages.specs.SecureChannels.{open_secure_channel_response_encoding}
use Rattle.ua_messages.specs.declared.type_ids.TheConstants.{OPEN_SECURE_CHANNEL_RESPONSE}
use Rattle.ua_transport.specs.Agreements.{Agreement, limits_of, outcome_of_frame, acknowledge_encoding, error_encoding}
use Rattle.ua_transport.specs.declared.frame.Frame.{Frame}
use Rattle.ua_transport.specs.declared.frame.FrameFault.{FrameFault}
use Rattle.ua_transport.specs.declared.frame.FrameFault.TheVariants.{Letters, Size, Failed}
use Rattle.ua_transport.specs.declared.send_fault.SendFault.{SendFault}
use Rattle.ua_transport.specs.declared.taken.Taken.{Taken}
use Rattle.ua_transport.specs.declared.taken.Taken.TheVariants as taken
use Rattle.ua_transport.specs.ChannelStates.{ChannelState, new_channel, token_after, granted_of}
use Rattle.ua_transport.specs.Acceptance.{is_error, take_of}
use Rattle.ua_transport.specs.Cutting.{written_id, send_opening_of}
use Rattle.server_messages.specs.declared.origin.Origin.{Origin}
use Rattle.server_messages.specs.declared.setting.Setting.{Setting}
use Rattle.server_messages.specs.declared.request.Request.{Request}
use Rattle.server_connections.specs.declared.frame_outcome.FrameOutcome.{FrameOutcome}
use Rattle.server_connections.specs.declared.frame_outcome.FrameOutcome.TheVariants as outcome
use Rattle.server_connections.specs.declared.connection.Phase.{Phase}
use Rattle.server_connections.specs.declared.connection.Phase.TheVariants.{Greeting, Talking, Closed}
use Rattle.server_messages.specs.declared.out.Out.{Out}
use Rattle.server_messages.specs.declared.out.Out.TheVariants.{Send, Close}

-- an Error frame with this status, and then the end of the connection
unfoldable pub refusal : ℕ → Status → List Out
refusal conn code = Send conn (error_encoding code) ∷ Close conn ∷ []

-- what a frame comes to: the connection's phase after it, what goes out, and what is left to do
pub record Reaction : Type 0 where
  pub phase : Phase
  pub outs : List Out
  pub asked : FrameOutcome

abbrev pub reaction : Phase → List Out → FrameOutcome → Reaction
reaction phase outs asked = record { phase = phase; outs = outs; asked = asked }

abbrev pub reaction_after : List Out → Reaction → Reaction
reaction_after outs t = reaction t.phase (outs ++ t.outs) t.asked

-- a connection whose outcome is Closed is closed, and any other is as far as it was
abbrev pub left_by : FrameOutcome → Phase → Phase
left_by outcome.Closed phase = Closed
left_by asked phase = phase

-- the connection is closed, with or without an Error frame
abbrev pub refused : ℕ → Status → Reaction
refused conn code = reaction Closed (refusal conn code) outcome.Closed

abbrev pub closed : ℕ → Reaction
closed conn = reaction Closed (Close conn ∷ []) outcome.Closed

-- the number of the channel that was opened last beside it
pub record Counted : Type 0 where
  pub reaction : Reaction
  pub channels : ℕ

abbrev pub counted : ℕ → Reaction → Counted
counted channels t = record { reaction = t; channels = channels }

abbrev pub counted_after : List Out → Counted → Counted
counted_after outs c = counted c.channels (reaction_after outs c.reaction)

-- ---- what is sent by a channel

-- frames, and the channel after them
pub record Sent : Type 0 where
  pub frames : List (List ℕ)
  pub channel : ChannelState

abbrev pub sent_nothing : ChannelState → Sent
sent_nothing s = record { frames = []; channel = s }

-- what was sent, or else this
abbrev pub sent_or : Result (List (List ℕ)) SendFault → ChannelState → Sent → Sent
sent_or (Ok frames) s otherwise = record { frames = frames; channel = s }
sent_or (Err fault) s otherwise = otherwise

abbrev pub sends : ℕ → List (List ℕ) → List Out
sends conn frames = map (Send conn) frames

abbrev pub sent_reaction : ℕ → Sent → Reaction
sent_reaction conn sent = reaction (Talking sent.channel) (sends conn sent.frames) outcome.Nothing

-- ---- the first frame

-- an Acknowledge frame with what is agreed
unfoldable pub acknowledgement : ℕ → Agreement → List Out
acknowledgement conn agreed = Send conn (acknowledge_encoding agreed) ∷ []

-- a Hello is acknowledged or refused
abbrev pub greeted : ℕ → Result Agreement Status → Reaction
greeted conn (Ok agreed) = reaction (Talking (new_channel agreed)) (acknowledgement conn agreed) outcome.Nothing
greeted conn (Err code) = refused conn code

-- an ERR is the client's end of the connection, and isn't answered
unfoldable pub first_reaction : Setting → ℕ → Frame → Reaction
first_reaction setting conn frame =
    if is_error frame.message_type then closed conn
    else greeted conn (outcome_of_frame (limits_of setting.config) frame)

-- ---- requests to open a channel or renew its token

-- the body of the response: the channel, its new token and how long the token is good
unfoldable pub opening_body : Setting → ℕ → ℕ → ℕ → List ℕ
opening_body setting handle channel_id token_id =
    body_encoding open_secure_channel_response_encoding OPEN_SECURE_CHANNEL_RESPONSE (record {
      response_header = plain_header handle (record { 0 = 0 }) setting.clock;
      server_protocol_version = 0;
      channel_id = channel_id;
      token_id = token_id;
      created_at = setting.clock;
      revised_lifetime = setting.config.lifetime_ms;
      server_nonce = None;
    })

unfoldable pub opening_sent : ChannelState → ℕ → List ℕ → Sent
opening_sent s id body =
    let step = send_opening_of s id body in
    sent_or step.answer step.state (sent_nothing step.state)

-- the token is granted, under this number where the channel isn't open yet
unfoldable pub granted : Setting → ChannelState → Origin → ℕ → Sent
granted setting s origin number =
    opening_sent (granted_of s number) origin.id (opening_body setting origin.handle number (token_after s.newest_token))

-- A channel that is opened has the next number, and the numbers end. One that is renewed keeps its own.
unfoldable pub opening_reaction : Setting → ℕ → ChannelState → Origin → Bool → Counted
opening_reaction setting channels s origin renew =
    if renew then counted channels (sent_reaction origin.conn (granted setting s origin (written_id s.channel_id)))
    else if channels == 4294967295 then counted channels (refused origin.conn status.BAD_TCP_NOT_ENOUGH_RESOURCES)
    else counted (channels + 1) (sent_reaction origin.conn (granted setting s origin (channels + 1)))

-- ---- every later frame

abbrev pub request_of : ℕ → List ℕ → ℕ → List ℕ → Request
request_of conn key id body = record { conn = conn; key = key; id = id; body = body }

abbrev pub taken_reaction : Setting → ℕ → ℕ → List ℕ → ChannelState → Result Taken Status → Counted
taken_reaction setting channels conn key s (Ok taken.Nothing) = counted channels (reaction (Talking s) [] outcome.Nothing)
taken_reaction setting channels conn key s (Ok (taken.Aborted id)) = counted channels (reaction (Talking s) [] outcome.Nothing)
taken_reaction setting channels conn key s (Ok taken.Closed) = counted channels (closed conn)
taken_reaction setting channels conn key s (Ok (taken.Opening id handle renew)) = opening_reaction setting channels s (record { conn = conn; id = id; handle = handle }) renew
taken_reaction setting channels conn key s (Ok (taken.Request id body)) = counted channels (reaction (Talking s) [] (outcome.Request (request_of conn key id body)))
taken_reaction setting channels conn key s (Err code) = counted channels (refused conn code)

unfoldable pub later_reaction : Setting → ℕ → ℕ → List ℕ → Frame → ChannelState → Counted
later_reaction setting channels conn key frame s =
    let step = take_of s frame in
    taken_reaction setting channels conn key step.state step.answer

-- ---- any frame

abbrev pub reaction_of : Setting → ℕ → ℕ → List ℕ → Frame → Phase → Counted
reaction_of setting channels conn key frame Greeting = counted channels (first_reaction setting conn frame)
reaction_of setting channels conn key frame (Talking s) = later_reaction setting channels conn key frame s
reaction_of setting channels conn key frame Closed = counted channels (reaction Closed [] outcome.Closed)

-- ---- bytes that are no frame

abbrev pub fault_reaction : ℕ → FrameFault → Reaction
fault_reaction conn Letters = refused conn status.BAD_TCP_MESSAGE_TYPE_INVALID
fault_reaction conn Size = refused conn status.BAD_TCP_MESSAGE_TOO_LARGE
fault_reaction conn Failed = closed conn
