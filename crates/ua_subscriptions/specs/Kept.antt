-- Where the messages that are kept stand: by the order in which they were sent, and by their numbers.
use Rattle.std.specs.Prelude.{◌≡◌, ℕ, ◌<◌, Bool, true, false, List, Option, Some, None}
use Rattle.std.specs.List.{list_any}
use Rattle.std.specs.BTreeMap.{is_at}
use Rattle.std.specs.Map.{lookup}
use Rattle.std.specs.Ordering.{nat_cmp}
use Rattle.std.specs.declared.cmp.Ordering.{Ordering}
use Rattle.ua_subscriptions.specs.contracts.kept.PlaceOrd.TheImpl as order
use Rattle.ua_subscriptions.specs.declared.kept.Place.{Place}
use Rattle.ua_subscriptions.specs.declared.messages.KeptMessage.{KeptMessage}
use Rattle.ua_subscriptions.specs.Messages.{has_number}

abbrev pub place_at : ℕ → ℕ → Place
place_at number serial = record { number = number; serial = serial }

-- by the number, then by the order in which they were sent
abbrev pub place_cmp : Place → Place → Ordering
place_cmp = order.ghosts.cmp

abbrev pub has_place : List Place → Place → Bool
has_place places q = list_any (is_at (place_cmp q)) places

abbrev pub is_numbered : ℕ → Option KeptMessage → Bool
is_numbered number None = false
is_numbered number (Some message) = has_number number message

-- the place of each message is known, and no other
abbrev pub ArePlaced : List (ℕ × KeptMessage) → List Place → Type 0
ArePlaced messages places = (q : Place) → has_place places q ≡ is_numbered q.number (lookup (is_at (nat_cmp q.serial)) messages)

-- the first place of a number, if it has any
abbrev pub IsFirstPlace : ℕ → List Place → Option ℕ → Type 0
IsFirstPlace number places None = (s : ℕ) → has_place places (place_at number s) ≡ false
IsFirstPlace number places (Some serial) = (has_place places (place_at number serial) ≡ true) × ((s : ℕ) → s < serial → has_place places (place_at number s) ≡ false)
