-- The sequence numbers of chunks (IEC 62541-6, "Sequence header").
use Rattle.std.specs.Prelude.{ℕ, ◌+◌, ◌==◌, Bool, true, ◌&&◌, ◌||◌, nat_lt, Option, Some, None, if◌then◌else◌}

-- Whether a chunk of this number may come next: the first is free, each other has the number after
-- the last one. Near the end of the numbers it may begin again below 1024.
abbrev pub may_follow : Option ℕ → ℕ → Bool
may_follow None n = true
may_follow (Some last) n = n == last + 1 || (nat_lt 4294966271 last && nat_lt n 1024)

-- the number of the next chunk that is sent: after 4294966272 comes 1
abbrev pub sequence_number_after : ℕ → ℕ
sequence_number_after n = if nat_lt n 4294966272 then n + 1 else 1
