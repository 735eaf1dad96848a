-- To whom replies go, now and later.
use Rattle.std.specs.Prelude.{◌≡◌, ℕ, None}
use Rattle.ua_subscriptions.specs.Owing.{QueuedBy, RepliedTo}
use Rattle.ua_services.specs.ServicesState.{Services}
use Rattle.ua_services.specs.Serving.{Serving}

-- every Publish request that waits came by such a connection, and the subscriptions aren't halted
abbrev pub OwesOnly : (ℕ → Type 0) → Services → Type 0
OwesOnly Such state = QueuedBy Such state.subscriptions.table.sessions × (state.subscriptions.halted ≡ None)

-- the connections that are answered, and those that wait, are such
pub record ServesOnly (Such : ℕ → Type 0) (s : Serving) : Type 0 where
  pub state : OwesOnly Such s.state
  pub replies : RepliedTo Such s.replies
