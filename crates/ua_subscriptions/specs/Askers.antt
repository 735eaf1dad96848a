-- By which connections requests of sessions came.
use Rattle.std.specs.Prelude.{◌≡◌, ℕ, Bool, true, List}
use Rattle.std.specs.List.{list_any}
use Rattle.std.specs.BTreeMap.{is_at}
use Rattle.std.specs.declared.cmp.Ordering.{Ordering}
use Rattle.ua_subscriptions.specs.contracts.askers.AskerOrd.TheImpl as order
use Rattle.ua_subscriptions.specs.contracts.askers.AskedOrd.TheImpl as asked_order
use Rattle.ua_subscriptions.specs.declared.askers.Asked.{Asked}
use Rattle.ua_subscriptions.specs.declared.askers.Asker.{Asker}
use Rattle.ua_subscriptions.specs.declared.session_part.SessionSubscriptions.{SessionSubscriptions}
use Rattle.ua_subscriptions.specs.Owing.{AllBy}
use Rattle.ua_subscriptions.specs.Tables.{part_at}

abbrev pub asker_at : ℕ → ℕ → Asker
asker_at conn session = record { conn = conn; session = session }

-- by the connection, then by the session
abbrev pub asker_cmp : Asker → Asker → Ordering
asker_cmp = order.ghosts.cmp

abbrev pub asked_at : ℕ → ℕ → Asked
asked_at session conn = record { session = session; conn = conn }

abbrev pub asked_cmp : Asked → Asked → Ordering
asked_cmp = asked_order.ghosts.cmp

abbrev pub has_asker : List Asker → Asker → Bool
has_asker askers q = list_any (is_at (asker_cmp q)) askers

abbrev pub has_asked : List Asked → Asked → Bool
has_asked pairs q = list_any (is_at (asked_cmp q)) pairs

-- both have the same pairs
abbrev pub AreMirrored : List Asker → List Asked → Type 0
AreMirrored askers pairs = (q : Asker) → has_asked pairs (asked_at q.session q.conn) ≡ has_asker askers q

-- each request that waits in a session came by a connection that stands there with the session
abbrev pub AreAsked : List (ℕ × SessionSubscriptions) → List Asker → Type 0
AreAsked sessions askers = (session : ℕ) → AllBy (λ conn. has_asker askers (asker_at conn session) ≡ true) (part_at session sessions).requests
