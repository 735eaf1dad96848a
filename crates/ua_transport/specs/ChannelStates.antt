-- What a secure channel is, and its tokens (IEC 62541-6, "OPC UA Secure Conversation").
use Rattle.std.specs.Prelude.{ℕ, ◌+◌, ◌≤◌, ◌==◌, Bool, false, ◌||◌, Option, Some, None, if◌then◌else◌}
use Rattle.ua_types.specs.declared.status.Status.{Status}
use Rattle.ua_transport.specs.Agreements.{Agreement}
use Rattle.ua_transport.specs.Messages.{UnfinishedMessage, AreWithinLimits}

pub record ChannelState : Type 0 where
  pub agreed : Agreement
  -- the channel's number, once it is open
  pub channel_id : Option ℕ
  -- the token that was used last, and the one that was granted last; 0 before the first
  pub used_token : ℕ
  pub newest_token : ℕ
  -- the sequence numbers of the last chunk that was taken, and of the last that was sent, 0 before the first
  pub received : Option ℕ
  pub sent : ℕ
  pub unfinished : Option UnfinishedMessage
  -- with what a frame was refused, which is then the answer for good
  pub refused : Option Status

-- a channel that nothing came by yet
abbrev pub new_channel : Agreement → ChannelState
new_channel agreed = record {
  agreed = agreed;
  channel_id = None;
  used_token = 0;
  newest_token = 0;
  received = None;
  sent = 0;
  unfinished = None;
  refused = None;
}

abbrev pub is_channel : Option ℕ → ℕ → Bool
is_channel None number = false
is_channel (Some channel_id) number = channel_id == number

-- the last used token holds until the newest is used
abbrev pub is_token : ChannelState → ℕ → Bool
is_token s token = token == s.used_token || token == s.newest_token

-- the next token: after 4294967295 comes 1
abbrev pub token_after : ℕ → ℕ
token_after token = if token == 4294967295 then 1 else token + 1

-- a channel that is opened counts its token as used; an open one keeps its number, and the new token waits for its use
abbrev pub granted_by : Option ℕ → ℕ → ChannelState → ChannelState
granted_by None number s =
    record s { channel_id = Some number; used_token = token_after s.newest_token; newest_token = token_after s.newest_token }
granted_by (Some channel_id) number s = record s { newest_token = token_after s.newest_token }

abbrev pub granted_of : ChannelState → ℕ → ChannelState
granted_of s number = granted_by s.channel_id number s

-- what holds of every channel
pub record IsChannel (s : ChannelState) : Type 0 where
  pub sent : s.sent ≤ 4294966272
  pub unfinished : AreWithinLimits s.agreed.limits s.unfinished
