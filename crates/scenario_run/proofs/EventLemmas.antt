-- Events are put one after the other.
use Rattle.std.proofs.Common.{◌≡◌, ◌≢◌, ℕ, ◌<◌, ◌≤◌, ◌+◌, List, [], ◌∷◌, ◌++◌, length, map, take, drop, sym, ◌∙◌, ap, arith, append_assoc, length-append, Result, Ok, Err}
use Rattle.server_core.specs.declared.event.Event.{Event}
use Rattle.server_core.specs.declared.event.Event.TheVariants.{Bytes}
use Rattle.scenario_run.specs.Pieces.{pieces_of}
use Rattle.scenario_text.specs.declared.fault.Cause.{Cause}
use Rattle.scenario_text.specs.declared.fault.Cause.TheVariants.{Limit, Memory}
use Rattle.scenario_run.specs.Assembly.{Puts, event_limit}
use Rattle.scenario_run.proofs.Pieces.{pieces_more, pieces_last, some_piece}

-- the events of the pieces
abbrev pub pieces_put : ℕ → ℕ → List ℕ → List Event
pieces_put size conn bytes = map (λ piece. Bytes conn piece) (pieces_of size bytes)

pub put_more : (size conn : ℕ) (rest : List ℕ) (out before whole : List Event) → 0 < size → size < length rest
    → out ++ pieces_put size conn rest ≡ before ++ whole → (out ++ Bytes conn (take size rest) ∷ []) ++ pieces_put size conn (drop size rest) ≡ before ++ whole
put_more size conn rest out before whole r l so_far =
    append_assoc out (Bytes conn (take size rest) ∷ []) (pieces_put size conn (drop size rest))
    ∙ ap (λ ps. out ++ map (λ piece. Bytes conn piece) ps) (sym (pieces_more size rest r l)) ∙ so_far

pub put_last : (size conn : ℕ) (rest : List ℕ) (out before whole : List Event) → 0 < size → length rest ≤ size
    → out ++ pieces_put size conn rest ≡ before ++ whole → out ++ Bytes conn rest ∷ [] ≡ before ++ whole
put_last size conn rest out before whole r l so_far =
    ap (λ ps. out ++ map (λ piece. Bytes conn piece) ps) (sym (pieces_last size rest r l)) ∙ so_far

-- counted
pub put_count : (out before whole more : List Event) → out ++ more ≡ before ++ whole → length out + length more ≡ length before + length whole
put_count out before whole more e = simp length-append at (ap length e)

some_put : (size conn : ℕ) (rest : List ℕ) → 0 < length (pieces_put size conn rest)
some_put size conn rest = let some = some_piece size rest in rw some.2 (omega arith)

-- where there is no room for a piece, there is none for the whole
pub put_over : (e : Cause) (size conn : ℕ) (rest : List ℕ) (piece : Event) (out before whole : List Event)
    → (e ≢ Memory → (e ≡ Limit) × (event_limit < length out + length (piece ∷ [])))
    → out ++ pieces_put size conn rest ≡ before ++ whole → e ≢ Memory → (e ≡ Limit) × (event_limit < length before + length whole)
put_over e size conn rest piece out before whole over so_far other =
    let h = over other in
    let count = put_count out before whole (pieces_put size conn rest) so_far in
    let some = some_put size conn rest in
    let many : event_limit < length out + 1 = h.1 in
    (h.0, omega (arith, count, some, many))

pub put_ends : (r : Result (Unit {0}) Cause) (size conn : ℕ) (rest : List ℕ) (out after before whole : List Event) → 0 < size → length rest ≤ size
    → Puts r out after (Bytes conn rest ∷ []) → out ++ pieces_put size conn rest ≡ before ++ whole → Puts r before after whole
put_ends (Ok x) size conn rest out after before whole r l put so_far =
    let count = put_count out before whole (pieces_put size conn rest) so_far in
    let one : length (pieces_put size conn rest) ≡ 1 = ap (λ ps. length (map (λ piece. Bytes conn piece) ps)) (pieces_last size rest r l) in
    let few : length out + 1 ≤ event_limit = put.1 in
    (put.0 ∙ put_last size conn rest out before whole r l so_far, omega (arith, count, one, few))
put_ends (Err e) size conn rest out after before whole r l put so_far =
    put_over e size conn rest (Bytes conn rest) out before whole put so_far
