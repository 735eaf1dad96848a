-- Nonces of the server.
use Rattle.std.specs.Prelude.{ℕ, List, ◌++◌}
use Rattle.std.specs.Int.{w64, to_le_bytes}
use Rattle.sha2.specs.Sha256.{sha256}

-- the nonce with this serial, for a client on a connection with this key
unfoldable pub nonce_of : List ℕ → ℕ → List ℕ
nonce_of key serial = sha256 (key ++ to_le_bytes w64 serial)
