-- To whom replies go, now and later: on the connections by which the requests came.
use Rattle.std.specs.Prelude.{⊤, ℕ, List, Option, Some, None}
use Rattle.std.specs.List.{AllByRecursion}
use Rattle.server_messages.specs.declared.reply.Reply.{Reply}
use Rattle.ua_subscriptions.specs.declared.publish_call.PublishCall.{PublishCall}
use Rattle.ua_subscriptions.specs.declared.session_part.SessionSubscriptions.{SessionSubscriptions}
use Rattle.ua_subscriptions.specs.declared.round.Round.{Round}
use Rattle.ua_subscriptions.specs.SubscriptionCalls.{Said}
use Rattle.ua_subscriptions.specs.Tables.{Stage}

-- each request came by such a connection
abbrev pub AllBy : (ℕ → Type 0) → List PublishCall → Type 0
AllBy Such calls = AllByRecursion (λ (call : PublishCall). Such call.origin.conn) calls

-- each request that waits came by such a connection
abbrev pub QueuedBy : (ℕ → Type 0) → List (ℕ × SessionSubscriptions) → Type 0
QueuedBy Such sessions = AllByRecursion (λ (e : ℕ × SessionSubscriptions). AllBy Such e.1.requests) sessions

-- each reply goes to such a connection
abbrev pub RepliedTo : (ℕ → Type 0) → List Reply → Type 0
RepliedTo Such replies = AllByRecursion (λ (reply : Reply). Such reply.origin.conn) replies

-- the request that is to be answered, if any, came by such a connection
abbrev pub AskedBy : (ℕ → Type 0) → Option PublishCall → Type 0
AskedBy Such None = ⊤
AskedBy Such (Some call) = Such call.origin.conn

-- what a round has answered, and what it has yet to answer
pub record RoundOwesOnly (Such : ℕ → Type 0) (round : Round) : Type 0 where
  pub replies : RepliedTo Such round.replies
  pub asked : AskedBy Such round.asked

-- every connection that is answered, or waits for a reply, is such a one
pub record OwesOnly (Such : ℕ → Type 0) (w : Stage) : Type 0 where
  pub round : RoundOwesOnly Such w.round
  pub queued : QueuedBy Such w.table.sessions

-- a call answers such connections alone, and leaves such alone waiting
pub record SaysOnly {A : Type 0} (Such : ℕ → Type 0) (s : Said A) : Type 0 where
  pub queued : QueuedBy Such s.state.table.sessions
  pub replies : RepliedTo Such s.outcome.stage.round.replies
