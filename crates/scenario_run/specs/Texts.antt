-- Events, and what is to be done, as lines.
use Rattle.std.specs.Prelude.{ℕ, List, [], ◌∷◌, ◌++◌, codes}
use Rattle.std.specs.Fmt.{decimal, signed_decimal}
use Rattle.std.specs.List.{flat_map}
use Rattle.hex.specs.Hex.{encode_lower}
use Rattle.server_messages.specs.declared.out.Out.{Out}
use Rattle.server_messages.specs.declared.out.Out.TheVariants.{Send, Close}
use Rattle.server_core.specs.declared.event.Event.{Event}
use Rattle.server_core.specs.declared.event.Event.TheVariants.{Opened, Bytes, Gone, Tick, Shutdown}

-- a word, a number, and what ends a line
abbrev pub numbered : List ℕ → ℕ → List ℕ → List ℕ
numbered word conn rest = word ++ decimal conn ++ rest

abbrev pub newline : List ℕ
newline = 10 ∷ []

-- bytes as hex digits behind a space
abbrev pub in_hex : List ℕ → List ℕ
in_hex bytes = codes " " ++ encode_lower bytes ++ newline

unfoldable pub event_line : Event → List ℕ
event_line (Opened conn key) = numbered (codes "open ") conn (in_hex key)
event_line (Bytes conn bytes) = numbered (codes "bytes ") conn (in_hex bytes)
event_line (Gone conn) = numbered (codes "gone ") conn newline
event_line (Tick now) = codes "tick " ++ signed_decimal now.0 ++ newline
event_line Shutdown = codes "shutdown" ++ newline

unfoldable pub out_line : Out → List ℕ
out_line (Send conn bytes) = numbered (codes "send ") conn (in_hex bytes)
out_line (Close conn) = numbered (codes "close ") conn newline

-- ---- one line after the other

abbrev pub events_lines : List Event → List ℕ
events_lines events = flat_map event_line events

abbrev pub outs_lines : List Out → List ℕ
outs_lines outs = flat_map out_line outs
