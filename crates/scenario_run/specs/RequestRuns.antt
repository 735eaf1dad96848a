-- The chunks of a request.
use Rattle.std.specs.Prelude.{ℕ, List, [], ◌∷◌, ◌++◌, Bool, true, false}
use Rattle.std.specs.List.{concat}
use Rattle.ua_transport.specs.declared.frame.ChunkType.TheVariants.{Intermediate, Final, Aborted}
use Rattle.ua_transport.specs.Cutting.{Cut, cut_of, chunk_encoding, next_header}
use Rattle.ua_transport.specs.SequenceNumbers.{sequence_number_after}
use Rattle.ua_transport.specs.declared.headers.ChunkHeader.{ChunkHeader}

-- chunks one behind the other, and the header of the next one
pub record Run : Type 0 where
  pub bytes : List ℕ
  pub next : ChunkHeader

-- these chunks, the first of which has this header
abbrev pub run_by : ChunkHeader → Cut → Run
run_by header cut = record { bytes = concat cut.chunks; next = record header { sequence_number = sequence_number_after cut.sent } }

-- why a message is given up: a status of 0 and a reason that is null
abbrev pub no_reason : List ℕ
no_reason = 0 ∷ 0 ∷ 0 ∷ 0 ∷ 255 ∷ 255 ∷ 255 ∷ 255 ∷ []

-- the chunk that gives it up, behind others
abbrev pub given_up : Run → Run
given_up run = record { bytes = run.bytes ++ chunk_encoding run.next Aborted no_reason; next = next_header run.next }

-- A request is cut as an answer is. One that is aborted has no final chunk: after all its parts comes the chunk that gives it up.
unfoldable pub request_run : Bool → ChunkHeader → ℕ → List ℕ → Run
request_run false header room body = run_by header (cut_of Final header room body)
request_run true header room body = given_up (run_by header (cut_of Intermediate header room body))
