-- A request's run, part by part.
use Rattle.std.proofs.Common.{◌≡◌, ℕ, zero, suc, ◌+◌, ◌<◌, Bool, true, false, cond, List, [], ◌∷◌, ◌++◌, length, take, drop, get_or, refl, sym, ◌∙◌, ap, append_assoc, append-nil}
use Rattle.std.specs.Prelude.{nat_lt}
use Rattle.std.specs.List.{concat}
use Rattle.std.proofs.lemmas.List.{take_more}
use Rattle.std.proofs.lemmas.List.Folds.{concat-append}
use Rattle.ua_transport.specs.declared.frame.ChunkType.{ChunkType}
use Rattle.ua_transport.specs.declared.frame.ChunkType.TheVariants.{Intermediate, Final, Aborted}
use Rattle.ua_transport.specs.Cutting.{Cut, chunk_encoding, next_header, cut_after, last_cut, cut_within, cut_of}
use Rattle.ua_transport.specs.declared.headers.ChunkHeader.{ChunkHeader}
use Rattle.scenario_run.specs.Pieces.{pieces_within, pieces_of}
use Rattle.scenario_run.specs.RequestRuns.{Run, run_by, given_up, request_run, no_reason}
use Rattle.scenario_run.proofs.Pieces.{some_within}

abbrev pub behind : List ℕ → Run → Run
behind front run = record { bytes = front ++ run.bytes; next = run.next }

-- more chunks follow, or none
abbrev pub type_before : ChunkType → List (List ℕ) → ChunkType
type_before last [] = last
type_before last (part ∷ parts) = Intermediate

-- one chunk a part, numbered one after the other, and the last of this type
unfoldable pub run_of : ChunkType → ChunkHeader → List (List ℕ) → Run
run_of last header [] = record { bytes = []; next = header }
run_of last header (part ∷ parts) = behind (chunk_encoding header (type_before last parts) part) (run_of last (next_header header) parts)

abbrev pub parts_run : Bool → ChunkHeader → List (List ℕ) → Run
parts_run false header parts = run_of Final header parts
parts_run true header parts = run_of Aborted header (parts ++ no_reason ∷ [])

-- ---- a body that is cut is a chunk for each of its pieces

further : (last : ChunkType) (ps : List (List ℕ)) (p : List ℕ) (qs : List (List ℕ)) → ps ≡ p ∷ qs → type_before last ps ≡ Intermediate
further last ps p qs is = rw is refl

either : (b : Bool) (last : ChunkType) (header : ChunkHeader) (part body : List ℕ) (cut : Cut) (ps : List (List ℕ)) (p : List ℕ) (qs : List (List ℕ)) → ps ≡ p ∷ qs
    → run_by (next_header header) cut ≡ run_of last (next_header header) ps
    → run_by header (cond b (cut_after (chunk_encoding header Intermediate part ∷ []) cut) (last_cut last header body)) ≡ run_of last header (cond b (part ∷ ps) (body ∷ []))
unfolding run_of
either true last header part body cut ps p qs is rest =
    ap (behind (chunk_encoding header Intermediate part)) rest
    ∙ ap (λ (t : ChunkType). behind (chunk_encoding header t part) (run_of last (next_header header) ps)) (sym (further last ps p qs is))
either false last header part body cut ps p qs is rest = refl

within : (n : ℕ) (last : ChunkType) (header : ChunkHeader) (room : ℕ) (body : List ℕ) → run_by header (cut_within n last header room body) ≡ run_of last header (pieces_within n room body)
unfolding cut_within pieces_within run_of
within zero last header room body = refl
within (suc n) last header room body =
    let rest = drop room body in
    let some = some_within n room rest in
    either (nat_lt room (length body)) last header (take room body) body (cut_within n last (next_header header) room rest) (pieces_within n room rest) some.0 some.1 some.2 (within n last (next_header header) room rest)

-- ---- a request that is given up

always : (ps : List (List ℕ)) → type_before Intermediate ps ≡ Intermediate
always [] = refl
always (p ∷ ps) = refl

followed : (ps : List (List ℕ)) (q : List ℕ) → type_before Aborted (ps ++ q ∷ []) ≡ Intermediate
followed [] q = refl
followed (p ∷ ps) q = refl

gives_up : (header : ChunkHeader) (ps : List (List ℕ)) → given_up (run_of Intermediate header ps) ≡ run_of Aborted header (ps ++ no_reason ∷ [])
unfolding run_of
gives_up header [] = ap (λ (b : List ℕ). record { bytes = b; next = next_header header }) (sym (append-nil (chunk_encoding header Aborted no_reason)))
gives_up header (p ∷ ps) =
    let next = next_header header in
    let run = run_of Intermediate next ps in
    let first = chunk_encoding header (type_before Intermediate ps) p in
    ap (λ (b : List ℕ). record { bytes = b; next = next_header run.next }) (append_assoc first run.bytes (chunk_encoding run.next Aborted no_reason))
    ∙ ap (behind first) (gives_up next ps)
    ∙ ap (λ (t : ChunkType). behind (chunk_encoding header t p) (run_of Aborted next (ps ++ no_reason ∷ []))) (always ps ∙ sym (followed ps no_reason))

pub request_is : (aborted : Bool) (header : ChunkHeader) (room : ℕ) (body : List ℕ) → request_run aborted header room body ≡ parts_run aborted header (pieces_of room body)
unfolding request_run cut_of pieces_of
request_is false header room body = within (length body) Final header room body
request_is true header room body = ap given_up (within (length body) Intermediate header room body) ∙ gives_up header (pieces_within (length body) room body)

-- chunks up to one of them
pub chunks_more : (chunks : List (List ℕ)) (i : ℕ) (x : List ℕ) → i < length chunks → x ≡ get_or chunks i x → concat (take i chunks) ++ x ≡ concat (take (i + 1) chunks)
chunks_more chunks i x h e =
    sym (
    ap concat (take_more chunks i x h)
    ∙ concat-append (take i chunks) (get_or chunks i x ∷ [])
    ∙ ap (λ (t : List ℕ). concat (take i chunks) ++ t) (append-nil (get_or chunks i x) ∙ sym e)
    )
