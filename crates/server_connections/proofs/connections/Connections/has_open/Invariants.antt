use Rattle.std.proofs.Common.{◌≡◌, ◌≤◌, ◌+◌, ◌-◌, ◌^◌, ℕ, false, IfSome}
use Rattle.std.specs.Option.{option_map_or}
use Rattle.server_connections.specs.Coherent.{is_open}
use Rattle.server_connections.proofs.connections.Connections.has_open.Given as goal

-- up to the last number none is open
abbrev pub invariant-loop-conn : goal.invariant-loop-conn
invariant-loop-conn l = IfSome l.last (λ last. (conn : ℕ) → conn ≤ last → is_open l.self conn ≡ false)

-- how many numbers may follow
abbrev pub decreases-loop-conn : goal.decreases-loop-conn
decreases-loop-conn l = 2 ^ 64 - option_map_or (λ last. last + 1) l.last 0
