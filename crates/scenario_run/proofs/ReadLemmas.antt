-- A request's run is read again.
use Rattle.std.proofs.Common.{◌≡◌, Bool, true, false, Some, None, eq-eqb, ℕ, ◌+◌, ◌<◌, ◌≤◌, ◌^◌, List, [], ◌∷◌, ◌++◌, length, refl, sym, ◌∙◌, ap, arith, append_assoc, append-nil, subst}
use Rattle.std.specs.List.{concat, flat_map, AllByRecursion}
use Rattle.ua_transport.specs.Encoding.{frame_encoding, IsFrame}
use Rattle.ua_transport.specs.Frames.{Framed, Rest, frames}
use Rattle.ua_transport.specs.declared.frame.Frame.{Frame}
use Rattle.ua_transport.specs.declared.frame.ChunkType.{ChunkType}
use Rattle.ua_transport.specs.declared.frame.ChunkType.TheVariants.{Intermediate, Final, Aborted}
use Rattle.ua_transport.proofs.EncodedLemmas.{split_read}
use Rattle.ua_transport.specs.declared.headers.ChunkHeader.{ChunkHeader}
use Rattle.ua_transport.specs.Headers.{IsWritable}
use Rattle.ua_transport.specs.Chunks.{Begun, Messages, parts_of, is_of, joined_on, joins}
use Rattle.ua_transport.specs.Cutting.{chunk_frame, chunk_encoding, next_header}
use Rattle.ua_transport.proofs.ReadAgainLemmas.{none_yet, is_frame, read_chunk, next_writable}
use Rattle.scenario_run.specs.Pieces.{pieces_of}
use Rattle.scenario_run.specs.RequestRuns.{Run, no_reason}
use Rattle.scenario_run.specs.Reading.{messages_of, IsReadAgain}
use Rattle.scenario_run.proofs.Pieces.{some_piece, short_pieces, whole_pieces}
use Rattle.scenario_run.proofs.RequestRunLemmas.{run_of, parts_run, request_is}

-- what comes of a run that ends so
abbrev outcome : ChunkType → ℕ → List ℕ → Messages
outcome last id body = joined_on last id body (λ b. joins b [])

-- the frames of these bytes: they are let through, and join to what comes of the run
record Reads (limit id : ℕ) (last : ChunkType) (body bytes : List ℕ) : Type 0 where
  fs : List Frame
  text : bytes ≡ flat_map frame_encoding fs
  each : AllByRecursion (IsFrame limit) fs
  message : (begun : Begun) → is_of begun id ≡ true → joins begun fs ≡ outcome last id (parts_of begun ++ body)

last_read : (limit : ℕ) (header : ChunkHeader) (last : ChunkType) (part : List ℕ) → 24 + length part ≤ limit → IsWritable header → Reads limit header.request_id last part (chunk_encoding header last part ++ [])
last_read limit header last part m w =
    record {
      fs = chunk_frame header last part ∷ [];
      text = refl;
      each = (is_frame limit header last part m, tt);
      message = λ begun e. read_chunk header last part begun (λ b. joins b []) w e;
    }

more_read : (limit : ℕ) (header : ChunkHeader) (last : ChunkType) (part rest bytes : List ℕ) → 24 + length part ≤ limit → IsWritable header → Reads limit header.request_id last rest bytes →
    Reads limit header.request_id last (part ++ rest) (chunk_encoding header Intermediate part ++ bytes)
more_read limit header last part rest bytes m w rs =
    let f = chunk_frame header Intermediate part in
    record {
      fs = f ∷ rs.fs;
      text = ap (λ (t : List ℕ). frame_encoding f ++ t) rs.text;
      each = (is_frame limit header Intermediate part m, rs.each);
      message = λ begun e.
          read_chunk header Intermediate part begun (λ b. joins b rs.fs) w e
          ∙ rs.message (Some (header.request_id, parts_of begun ++ part)) (eq-eqb header.request_id header.request_id refl)
          ∙ ap (λ (b : List ℕ). outcome last header.request_id b) (append_assoc (parts_of begun) part rest);
    }

run_read : (limit : ℕ) (header : ChunkHeader) (last : ChunkType) (p : List ℕ) (ps : List (List ℕ)) → AllByRecursion (λ part. 24 + length part ≤ limit) (p ∷ ps) → IsWritable header
    → Reads limit header.request_id last (concat (p ∷ ps)) (run_of last header (p ∷ ps)).bytes
unfolding run_of
run_read limit header last p [] few w = subst (λ (b : List ℕ). Reads limit header.request_id last b (chunk_encoding header last p ++ [])) (sym (append-nil p)) (last_read limit header last p few.0 w)
run_read limit header last p (q ∷ qs) few w =
    more_read limit header last p (concat (q ∷ qs)) (run_of last (next_header header) (q ∷ qs)).bytes few.0 w (run_read limit (next_header header) last q qs few.1 (next_writable header w))

-- the stream is read as its frames
stream_read : (limit id : ℕ) (last : ChunkType) (body bytes : List ℕ) → limit < 2 ^ 32 → Reads limit id last body bytes
    → (let read = frames limit bytes in (read.end ≡ Rest []) × (joins None read.frames ≡ outcome last id body))
stream_read limit id last body bytes l rs =
    let text : bytes ≡ flat_map frame_encoding rs.fs ++ [] = rs.text ∙ sym (append-nil (flat_map frame_encoding rs.fs)) in
    let read : frames limit bytes ≡ record { frames = rs.fs; end = Rest [] } =
    split_read limit bytes rs.fs [] (Rest []) l (record { whole = text; each = rs.each; ends = (refl, none_yet limit) }) in
    (ap (λ (x : Framed). x.end) read, ap (λ (x : Framed). joins None x.frames) read ∙ rs.message None refl)

abbrev pub Fits : ℕ → List ℕ → Type 0
Fits limit part = 24 + length part ≤ limit

parts_read : (limit : ℕ) (header : ChunkHeader) (last : ChunkType) (parts : List (List ℕ)) (p : List ℕ) (ps : List (List ℕ)) → parts ≡ p ∷ ps → AllByRecursion (Fits limit) parts → IsWritable header
    → Reads limit header.request_id last (concat parts) (run_of last header parts).bytes
parts_read limit header last parts p ps is few w =
    let few' : AllByRecursion (Fits limit) (p ∷ ps) = subst (AllByRecursion (Fits limit)) is few in
    subst (λ (qs : List (List ℕ)). Reads limit header.request_id last (concat qs) (run_of last header qs).bytes) (sym is) (run_read limit header last p ps few' w)

pub one_more : (limit : ℕ) (parts : List (List ℕ)) (q : List ℕ) → AllByRecursion (Fits limit) parts → Fits limit q → AllByRecursion (Fits limit) (parts ++ q ∷ [])
one_more limit [] q few fits = (fits, tt)
one_more limit (p ∷ ps) q few fits = (few.0, one_more limit ps q few.1 fits)

-- a run is read as the messages that are to come of a request
abbrev IsRead : Bool → ℕ → ℕ → List ℕ → Run → Type 0
IsRead aborted limit id body run =
    let read = frames limit run.bytes in
    (read.end ≡ Rest []) × (joins None read.frames ≡ messages_of aborted id body)

pieces_read : (aborted : Bool) (limit : ℕ) (header : ChunkHeader) (room : ℕ) (body : List ℕ) → 0 < room → room + 24 ≤ limit → 32 ≤ limit → limit < 2 ^ 32 → IsWritable header
    → IsRead aborted limit header.request_id body (parts_run aborted header (pieces_of room body))
pieces_read false limit header room body r m n l w =
    let some = some_piece room body in
    let few = short_pieces limit room body r m in
    let rs = parts_read limit header Final (pieces_of room body) some.0 some.1 some.2 few w in
    let whole : Reads limit header.request_id Final body (run_of Final header (pieces_of room body)).bytes =
    subst (λ (b : List ℕ). Reads limit header.request_id Final b (run_of Final header (pieces_of room body)).bytes) (whole_pieces room body) rs in
    stream_read limit header.request_id Final body (run_of Final header (pieces_of room body)).bytes l whole
pieces_read true limit header room body r m n l w =
    let some = some_piece room body in
    let few = one_more limit (pieces_of room body) no_reason (short_pieces limit room body r m) (omega arith) in
    let parts = pieces_of room body ++ no_reason ∷ [] in
    let is : parts ≡ some.0 ∷ (some.1 ++ no_reason ∷ []) = ap (λ (ps : List (List ℕ)). ps ++ no_reason ∷ []) some.2 in
    let rs = parts_read limit header Aborted parts some.0 (some.1 ++ no_reason ∷ []) is few w in
    stream_read limit header.request_id Aborted (concat parts) (run_of Aborted header parts).bytes l rs

pub request_read : (aborted : Bool) (limit : ℕ) (header : ChunkHeader) (room : ℕ) (body : List ℕ) → 0 < room → room + 24 ≤ limit → 32 ≤ limit → limit < 2 ^ 32 → IsWritable header
    → IsReadAgain aborted limit header room body
request_read aborted limit header room body r m n l w =
    subst (IsRead aborted limit header.request_id body) (sym (request_is aborted header room body)) (pieces_read aborted limit header room body r m n l w)
