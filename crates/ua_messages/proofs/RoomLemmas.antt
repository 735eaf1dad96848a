-- The room before a body.
use Rattle.std.proofs.Common.{◌≡◌, ℕ, ◌≤◌, List, ◌++◌, length, drop}
use Rattle.std.proofs.lemmas.List.{drop-append-le}

-- what is appended stands behind the room too
pub appended : (bytes part : List ℕ) → 24 ≤ length bytes → drop 24 (bytes ++ part) ≡ drop 24 bytes ++ part
appended bytes part room = drop-append-le 24 bytes part room
