-- The chunks of an answer are read again as one message.
use Rattle.std.specs.Prelude.{◌&&◌}
use Rattle.std.proofs.Common.{◌≡◌, Bool, true, cond, Some, None, eq-eqb, ℕ, zero, suc, ◌+◌, ◌-◌, ◌<◌, ◌≤◌, ◌^◌, List, [], ◌∷◌, ◌++◌, length, drop, take, Result, Ok, refl, sym, ◌∙◌, ap, arith, inl, inr, ◌⊎◌, append_assoc, append-nil, subst}
use Rattle.std.specs.List.{concat, flat_map, AllByRecursion}
use Rattle.std.proofs.lemmas.List.{length-drop, length-take-le, length-append, take-append-drop}
use Rattle.std.proofs.lemmas.Bool.{cases_lt}
use Rattle.ua_binary.specs.declared.fault.TakeFault.{TakeFault}
use Rattle.ua_transport.specs.Encoding.{frame_encoding, IsFrame}
use Rattle.ua_transport.specs.Header.{judgement_of}
use Rattle.ua_transport.specs.Frames.{Framed, Rest, frames}
use Rattle.ua_transport.specs.declared.frame.Frame.{Frame}
use Rattle.ua_transport.specs.declared.frame.Judgement.TheVariants.{Incomplete}
use Rattle.ua_transport.specs.declared.frame.MessageType.TheVariants as message
use Rattle.ua_transport.specs.declared.frame.ChunkType.{ChunkType}
use Rattle.ua_transport.specs.declared.frame.ChunkType.TheVariants.{Intermediate, Final}
use Rattle.ua_transport.proofs.EncodedLemmas.{split_read}
use Rattle.ua_transport.specs.declared.headers.ChunkHeader.{ChunkHeader}
use Rattle.ua_transport.specs.Headers.{chunk_header_reading, chunk_header_encoding, IsWritable}
use Rattle.ua_transport.specs.ChannelStates.{ChannelState}
use Rattle.ua_transport.specs.Chunks.{Begun, Messages, parts_of, is_of, joined_on, joined_to, joined_by, joins}
use Rattle.ua_transport.specs.Cutting.{Cut, cut_of, chunk_frame, chunk_encoding, next_header, send_of, header_of}
use Rattle.ua_transport.proofs.HeaderLemmas.{header_again, encoding_length, part_again, sequence_number_small}
use Rattle.ua_transport.proofs.CuttingLemmas.{cut_more, cut_last, chunks_of_send}

pub none_yet : (limit : ℕ) → judgement_of limit [] ≡ Incomplete
unfolding judgement_of
none_yet limit = refl

-- the frames of these chunks: they are let through, and join to one message
record Reads (limit id : ℕ) (body : List ℕ) (chunks : List (List ℕ)) : Type 0 where
  fs : List Frame
  text : concat chunks ≡ flat_map frame_encoding fs
  each : AllByRecursion (IsFrame limit) fs
  message : (begun : Begun) → is_of begun id ≡ true → joins begun fs ≡ Some ((id, parts_of begun ++ body) ∷ [])

pub is_frame : (limit : ℕ) (header : ChunkHeader) (chunk_type : ChunkType) (part : List ℕ) → 24 + length part ≤ limit → IsFrame limit (chunk_frame header chunk_type part)
is_frame limit header chunk_type part l =
    record { chunk_type = refl; size = omega (arith, encoding_length header, length-append (chunk_header_encoding header) part) }

-- a chunk is read as its header and its part, and joins what has begun of its request
pub read_chunk : (header : ChunkHeader) (chunk_type : ChunkType) (part : List ℕ) (begun : Begun) (more : Begun → Messages) → IsWritable header → is_of begun header.request_id ≡ true →
    (let f = chunk_frame header chunk_type part in joined_by begun f (chunk_header_reading f.body) more)
    ≡ joined_on chunk_type header.request_id (parts_of begun ++ part) more
read_chunk header chunk_type part begun more w e =
    let f = chunk_frame header chunk_type part in
    let whole : Messages = joined_on chunk_type header.request_id (parts_of begun ++ part) more in
    ap (λ (r : Result (ChunkHeader × List ℕ) TakeFault). joined_by begun f r more) (header_again header part w)
    ∙ ap (λ (p : List ℕ). joined_to begun message.Message chunk_type header.request_id p more) (part_again header part)
    ∙ ap (λ (b : Bool). cond (true && b) whole None) e

last_read : (limit : ℕ) (header : ChunkHeader) (body : List ℕ) → 24 + length body ≤ limit → IsWritable header → Reads limit header.request_id body (chunk_encoding header Final body ∷ [])
last_read limit header body m w =
    record {
      fs = chunk_frame header Final body ∷ [];
      text = refl;
      each = (is_frame limit header Final body m, tt);
      message = λ begun e. read_chunk header Final body begun (λ b. joins b []) w e;
    }

more_read : (limit : ℕ) (header : ChunkHeader) (part rest : List ℕ) (chunks : List (List ℕ)) → 24 + length part ≤ limit → IsWritable header → Reads limit header.request_id rest chunks →
    Reads limit header.request_id (part ++ rest) (chunk_encoding header Intermediate part ∷ chunks)
more_read limit header part rest chunks m w rs =
    let f = chunk_frame header Intermediate part in
    record {
      fs = f ∷ rs.fs;
      text = ap (λ (t : List ℕ). frame_encoding f ++ t) rs.text;
      each = (is_frame limit header Intermediate part m, rs.each);
      message = λ begun e.
          read_chunk header Intermediate part begun (λ b. joins b rs.fs) w e
          ∙ rs.message (Some (header.request_id, parts_of begun ++ part)) (eq-eqb header.request_id header.request_id refl)
          ∙ ap (λ (b : List ℕ). Some ((header.request_id, b) ∷ [])) (append_assoc (parts_of begun) part rest);
    }

pub next_writable : (header : ChunkHeader) → IsWritable header → IsWritable (next_header header)
next_writable header w = record {
  channel_id = w.channel_id;
  token_id = w.token_id;
  sequence_number = sequence_number_small header.sequence_number;
  request_id = w.request_id;
}

reads_within : (n limit : ℕ) (header : ChunkHeader) (room : ℕ) (body : List ℕ) → 0 < room → room + 24 ≤ limit → IsWritable header → length body ≤ n → (room < length body) ⊎ (length body ≤ room) →
    Reads limit header.request_id body (cut_of Final header room body).chunks
reads_within n limit header room body r m w l (inr fits) =
    subst (Reads limit header.request_id body) (sym (ap (λ (c : Cut). c.chunks) (cut_last Final header room body r fits)))
    (last_read limit header body (omega arith) w)
reads_within zero limit header room body r m w l (inl long) = absurd (omega arith)
reads_within (suc n) limit header room body r m w l (inl long) =
    let rest = drop room body in
    let next = next_header header in
    let fewer : length rest ≡ length body - room = length-drop room body in
    let full : length (take room body) ≡ room = length-take-le room body (omega arith) in
    let rs : Reads limit header.request_id rest (cut_of Final next room rest).chunks = reads_within n limit next room rest r m (next_writable header w) (omega arith) (cases_lt room (length rest)) in
    subst (λ (b : List ℕ). Reads limit header.request_id b (cut_of Final header room body).chunks) (take-append-drop room body)
    (subst (Reads limit header.request_id (take room body ++ rest)) (sym (ap (λ (c : Cut). c.chunks) (cut_more Final header room body r long)))
    (more_read limit header (take room body) rest (cut_of Final next room rest).chunks (omega arith) w rs))

-- the stream of the chunks is read as frames that join to the one message
pub message_read : (s : ChannelState) (request_id : ℕ) (body : List ℕ) (chunks : List (List ℕ)) → 24 < s.agreed.send_size → s.agreed.send_size < 2 ^ 32 → IsWritable (header_of s request_id) →
    (send_of s request_id body).answer ≡ Ok chunks →
    let read = frames s.agreed.send_size (concat chunks) in
    (read.end ≡ Rest []) × (joins None read.frames ≡ Some ((request_id, body) ∷ []))
message_read s request_id body chunks r l w e =
    let limit = s.agreed.send_size in
    let rs : Reads limit request_id body chunks =
    subst (Reads limit request_id body) (chunks_of_send s request_id body chunks e)
    (reads_within (length body) limit (header_of s request_id) (s.agreed.send_size - 24) body (omega arith) (omega arith) w (omega arith) (cases_lt (s.agreed.send_size - 24) (length body))) in
    let text : concat chunks ≡ flat_map frame_encoding rs.fs ++ [] = rs.text ∙ sym (append-nil (flat_map frame_encoding rs.fs)) in
    let read : frames limit (concat chunks) ≡ record { frames = rs.fs; end = Rest [] } =
    split_read limit (concat chunks) rs.fs [] (Rest []) l (record { whole = text; each = rs.each; ends = (refl, none_yet limit) }) in
    (ap (λ (x : Framed). x.end) read, ap (λ (x : Framed). joins None x.frames) read ∙ rs.message None refl)
