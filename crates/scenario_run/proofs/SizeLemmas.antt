-- The events of bytes have their sizes, and the chunks of a request their headers and parts.
use Rattle.std.proofs.Common.{◌≡◌, ℕ, zero, suc, ◌<◌, ◌≤◌, Bool, true, false, cond, List, [], ◌∷◌, ◌++◌, length, take, drop, None, refl, sym, ◌∙◌, ap, arith, append-nil, subst, inl, inr, ◌⊎◌}
use Rattle.std.specs.Prelude.{nat_lt, ◌==◌}
use Rattle.std.specs.List.{flat_map, AllByRecursion}
use Rattle.std.proofs.lemmas.List.{length-drop, length-take-le}
use Rattle.std.proofs.lemmas.Bool.{cases_lt}
use Rattle.std.proofs.lemmas.Bool.Decides.{nat_tests}
use Rattle.ua_transport.specs.Encoding.{frame_encoding, IsFrame}
use Rattle.ua_transport.specs.Frames.{Framed, Rest}
use Rattle.ua_transport.specs.declared.frame.Frame.{Frame}
use Rattle.ua_transport.specs.declared.frame.ChunkType.{ChunkType}
use Rattle.ua_transport.specs.declared.frame.ChunkType.TheVariants.{Final, Aborted}
use Rattle.ua_transport.proofs.EncodedLemmas.{split_read}
use Rattle.ua_transport.specs.Chunks.{joins}
use Rattle.ua_transport.specs.Cutting.{chunk_frame, next_header}
use Rattle.ua_transport.specs.Headers.{IsWritable}
use Rattle.ua_transport.specs.declared.headers.ChunkHeader.{ChunkHeader}
use Rattle.ua_transport.proofs.HeaderLemmas.{header_again}
use Rattle.ua_transport.proofs.ReadAgainLemmas.{is_frame, next_writable}
use Rattle.scenario_run.specs.Assembly.{stream_events}
use Rattle.scenario_run.specs.Groups.{AreFull, AreSized, ComesIn, AreFrames, no_limit, type_of, Hold, HoldRequest, IsRequest, Bring, chunks_later}
use Rattle.scenario_run.specs.Pieces.{pieces_of, pieces_within}
use Rattle.scenario_run.specs.Reading.{messages_of}
use Rattle.scenario_run.specs.RequestRuns.{Run, request_run, no_reason}
use Rattle.scenario_run.specs.Sendings.{body_limit, room_of}
use Rattle.scenario_run.proofs.FrameLemmas.{none_yet}
use Rattle.scenario_run.proofs.Pieces.{pieces_last, short_pieces, some_within, whole_pieces}
use Rattle.scenario_run.proofs.ReadLemmas.{Fits, one_more, request_read}
use Rattle.scenario_run.proofs.RequestRunLemmas.{run_of, type_before, parts_run, request_is}

-- ---- sizes

full_more : (least size : ℕ) (p : List ℕ) (ps : List (List ℕ)) (q : List ℕ) (qs : List (List ℕ)) → ps ≡ q ∷ qs → length p ≡ size → AreFull 1 size ps → AreFull least size (p ∷ ps)
full_more least size p ps q qs is full rest =
    let rest' : AreFull 1 size (q ∷ qs) = subst (AreFull 1 size) is rest in
    subst (λ (xs : List (List ℕ)). AreFull least size (p ∷ xs)) (sym is) (full, rest')

either_full : (b : Bool) (n least size : ℕ) (bytes : List ℕ) → nat_lt size (length bytes) ≡ b → least ≤ length bytes
    → (0 < length (drop size bytes) → AreFull 1 size (pieces_within n size (drop size bytes)))
    → AreFull least size (cond b (take size bytes ∷ pieces_within n size (drop size bytes)) (bytes ∷ []))
either_full true n least size bytes e l more =
    let long : size < length bytes = grind (arith, nat_tests) in
    let full : length (take size bytes) ≡ size = length-take-le size bytes (omega arith) in
    let left : 0 < length (drop size bytes) = omega (arith, length-drop size bytes) in
    let some = some_within n size (drop size bytes) in
    full_more least size (take size bytes) (pieces_within n size (drop size bytes)) some.0 some.1 some.2 full (more left)
either_full false n least size bytes e l more =
    let short : length bytes ≤ size = grind (arith, nat_tests) in
    (l, short)

full_within : (n least size : ℕ) (bytes : List ℕ) → 0 < size → length bytes ≤ n → least ≤ length bytes → AreFull least size (pieces_within n size bytes)
unfolding pieces_within
full_within zero least size bytes r m l = (l, omega arith)
full_within (suc n) least size bytes r m l =
    let fewer : length (drop size bytes) ≤ n = omega (arith, length-drop size bytes) in
    either_full (nat_lt size (length bytes)) n least size bytes refl l (λ left. full_within n 1 size (drop size bytes) r fewer left)

full_pieces : (size : ℕ) (bytes : List ℕ) → 0 < size → AreFull 0 size (pieces_of size bytes)
unfolding pieces_of
full_pieces size bytes r = full_within (length bytes) 0 size bytes r (omega arith) (omega arith)

pub comes_in : (cut connection : ℕ) (bytes : List ℕ) → ComesIn cut connection bytes (stream_events cut connection bytes)
unfolding stream_events
comes_in zero connection bytes = record { pieces = bytes ∷ []; brought = refl; whole = append-nil bytes; sizes = refl }
comes_in (suc n) connection bytes =
    let some : (suc n == 0) ≡ false = grind (arith, nat_tests) in
    record { pieces = pieces_of (suc n) bytes; brought = rw some refl; whole = whole_pieces (suc n) bytes; sizes = full_pieces (suc n) bytes (omega arith) }

-- a chunk's room
room_small : (n : ℕ) → suc n ≤ body_limit → room_of (suc n) ≡ suc n
room_small n l = grind (arith, nat_tests)

room_large : (n : ℕ) → body_limit < suc n → room_of (suc n) ≡ body_limit
room_large n l = grind (arith, nat_tests)

by_room : (n : ℕ) (body : List ℕ) → length body ≤ body_limit → (body_limit < suc n) ⊎ (suc n ≤ body_limit) → AreFull 0 (suc n) (pieces_of (room_of (suc n)) body)
by_room n body short (inl large) =
    rw (room_large n large, pieces_last body_limit body (omega arith) short) (omega arith, omega arith)
by_room n body short (inr small) = rw (room_small n small) (full_pieces (suc n) body (omega arith))

parts_sized : (chunk : ℕ) (body : List ℕ) → length body ≤ body_limit → AreSized chunk (pieces_of (room_of chunk) body)
parts_sized zero body short = ap (λ (ps : List (List ℕ)). length ps) (pieces_last body_limit body (omega arith) short)
parts_sized (suc n) body short = by_room n body short (cases_lt body_limit (suc n))

by_size : (n : ℕ) → (body_limit < suc n) ⊎ (suc n ≤ body_limit) → (0 < room_of (suc n)) × (room_of (suc n) ≤ body_limit)
by_size n (inl large) = rw (room_large n large) (omega arith, omega arith)
by_size n (inr small) = rw (room_small n small) (omega arith, small)

room_some : (chunk : ℕ) → (0 < room_of chunk) × (room_of chunk ≤ body_limit)
room_some zero = (omega arith, omega arith)
room_some (suc n) = by_size n (cases_lt body_limit (suc n))

-- ---- chunks

same_type : (last : ChunkType) (parts : List (List ℕ)) → type_before last parts ≡ type_of last parts
same_type last [] = refl
same_type last (part ∷ parts) = refl

record Held (last : ChunkType) (header : ChunkHeader) (parts : List (List ℕ)) : Type 0 where
  fs : List Frame
  text : (run_of last header parts).bytes ≡ flat_map frame_encoding fs
  each : AllByRecursion (IsFrame no_limit) fs
  says : Hold last header parts fs
  next : (run_of last header parts).next.sequence_number ≡ chunks_later (length fs) header.sequence_number

held : (last : ChunkType) (header : ChunkHeader) (parts : List (List ℕ)) → AllByRecursion (Fits no_limit) parts → IsWritable header → Held last header parts
unfolding run_of chunks_later
held last header [] few w = record { fs = []; text = refl; each = tt; says = tt; next = refl }
held last header (p ∷ ps) few w =
    let rs = held last (next_header header) ps few.1 (next_writable header w) in
    let f = chunk_frame header (type_before last ps) p in
    record {
      fs = f ∷ rs.fs;
      text = ap (λ (t : List ℕ). frame_encoding f ++ t) rs.text;
      each = (is_frame no_limit header (type_before last ps) p few.0, rs.each);
      says = (refl, same_type last ps, header_again header p w, rs.says);
      next = rs.next;
    }

-- the chunks of a request
record HeldRequest (aborted : Bool) (header : ChunkHeader) (parts : List (List ℕ)) (run : Run) : Type 0 where
  fs : List Frame
  text : run.bytes ≡ flat_map frame_encoding fs
  each : AllByRecursion (IsFrame no_limit) fs
  says : HoldRequest aborted header parts fs
  next : run.next.sequence_number ≡ chunks_later (length fs) header.sequence_number

held_pieces : (aborted : Bool) (header : ChunkHeader) (room : ℕ) (body : List ℕ) → 0 < room → room ≤ body_limit → IsWritable header
    → HeldRequest aborted header (pieces_of room body) (parts_run aborted header (pieces_of room body))
held_pieces false header room body r m w =
    let h = held Final header (pieces_of room body) (short_pieces no_limit room body r (omega arith)) w in
    record { fs = h.fs; text = h.text; each = h.each; says = h.says; next = h.next }
held_pieces true header room body r m w =
    let few = one_more no_limit (pieces_of room body) no_reason (short_pieces no_limit room body r (omega arith)) (omega arith) in
    let h = held Aborted header (pieces_of room body ++ no_reason ∷ []) few w in
    record { fs = h.fs; text = h.text; each = h.each; says = h.says; next = h.next }

held_request : (aborted : Bool) (header : ChunkHeader) (room : ℕ) (body : List ℕ) → 0 < room → room ≤ body_limit → IsWritable header
    → HeldRequest aborted header (pieces_of room body) (request_run aborted header room body)
held_request aborted header room body r m w =
    subst (HeldRequest aborted header (pieces_of room body)) (sym (request_is aborted header room body)) (held_pieces aborted header room body r m w)

pub frames_read : (bytes : List ℕ) (fs : List Frame) → bytes ≡ flat_map frame_encoding fs → AllByRecursion (IsFrame no_limit) fs → AreFrames bytes fs
frames_read bytes fs text each =
    let whole : bytes ≡ flat_map frame_encoding fs ++ [] = text ∙ sym (append-nil (flat_map frame_encoding fs)) in
    split_read no_limit bytes fs [] (Rest []) (omega arith) (record { whole = whole; each = each; ends = (refl, none_yet no_limit) })

-- a request is brought, and its chunks are counted
pub request_brought : (aborted : Bool) (cut chunk connection : ℕ) (header : ChunkHeader) (IsBody : List ℕ → Type 0) (body : List ℕ) → length body ≤ body_limit → IsWritable header → IsBody body →
    let run = request_run aborted header (room_of chunk) body in
    (count : ℕ) × Bring cut connection (IsRequest aborted chunk header IsBody count) (stream_events cut connection run.bytes) × (run.next.sequence_number ≡ chunks_later count header.sequence_number)
request_brought aborted cut chunk connection header IsBody body short w is =
    let room = room_of chunk in
    let some = room_some chunk in
    let h = held_request aborted header room body some.0 some.1 w in
    let run = request_run aborted header room body in
    let read = frames_read run.bytes h.fs h.text h.each in
    let again = request_read aborted no_limit header room body some.0 (omega (arith, some.1)) (omega arith) (omega arith) w in
    let whole = whole_pieces room body in (
      length h.fs,
      record {
        bytes = run.bytes;
        comes = comes_in cut connection run.bytes;
        said = record {
          chunks = h.fs;
          parts = pieces_of room body;
          framed = read;
          held = h.says;
          counted = refl;
          sizes = parts_sized chunk body short;
          body = subst IsBody (sym whole) is;
          joined = sym (ap (λ (x : Framed). joins None x.frames) read) ∙ again.1 ∙ ap (messages_of aborted header.request_id) (sym whole);
        };
      },
      h.next,
    )
