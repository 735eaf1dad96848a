-- Guids: the bytes of one, and the one that a text says.
use Rattle.std.specs.Prelude.{ℕ, List, ◌++◌, take, drop, Option, option_map}
use Rattle.std.specs.Int.{w16, w32, to_be_bytes, from_be_bytes}
use Rattle.uuid.specs.Text.{parsed}
use Rattle.ua_types.specs.declared.guid.Guid.{Guid}

-- the bytes of a Guid's text: the numbers with the high byte first, and then the eight bytes
abbrev pub guid_bytes : Guid → List ℕ
guid_bytes g = to_be_bytes w32 g.data1 ++ to_be_bytes w16 g.data2 ++ to_be_bytes w16 g.data3 ++ g.data4

-- the Guid of sixteen such bytes
abbrev pub guid_of : List ℕ → Guid
guid_of bytes = record {
  data1 = from_be_bytes w32 (take 4 bytes);
  data2 = from_be_bytes w16 (take 2 (drop 4 bytes));
  data3 = from_be_bytes w16 (take 2 (drop 6 bytes));
  data4 = drop 8 bytes;
}

-- the Guid that a text says
abbrev pub guid_said : List ℕ → Option Guid
guid_said t = option_map guid_of (parsed t)
