-- Lemmas on what a pump has written and read so far.
use lib.Seq.{take-append-add, take-append-le, drop-cons}
use Rattle.std.proofs.lemmas.List.Concat.{flat_map-append}
use Rattle.server_core.specs.Running.{joined, sent_bytes}
use Rattle.server_messages.specs.declared.out.Out.{Out}
use Rattle.std.proofs.Common.{suc, ◌∷◌, get_or, length-append, take-append-drop, ◌≡◌, ℕ, ◌+◌, ◌^◌, ◌<◌, ◌≤◌, ◌*◌, List, ◌++◌, length, take, drop, Option, arith, sym, ap, ◌∙◌}
use Rattle.std.specs.Io.KnownBytes.{Appends}
use Rattle.std.proofs.KnownBytes.{Appends-trans}

-- all of these bytes, of `count` sends, are out, and no call has failed
pub record AllPut (bytes : List ℕ) (count done : ℕ) (held now : Option (List ℕ)) (failures failed : ℕ) : Type 0 where
  pub all : done ≡ length bytes
  pub small : done ≤ count * 2 ^ 64
  pub written : Appends held now bytes
  pub well : failed ≡ failures

-- the sends around the one at i
pub joined_at : (outs : List Out) (i : ℕ) (x : Out) → i < length outs → x ≡ get_or outs i x
    → joined outs ≡ joined (take i outs) ++ (sent_bytes x ++ joined (drop (suc i) outs))
joined_at outs i x lt is =
    ap joined (sym (take-append-drop i outs)) ∙ flat_map-append sent_bytes (take i outs) (drop i outs)
    ∙ ap (λ l. joined (take i outs) ++ joined l) (drop-cons outs i x lt ∙ ap (λ y. y ∷ drop (suc i) outs) (sym is))

-- n bytes of the send at i are out, after all of the sends before it
pub part_put : (outs : List Out) (i : ℕ) (x : Out) (done n : ℕ) (held mid now : Option (List ℕ)) (a b : ℕ) → i < length outs → x ≡ get_or outs i x
    → AllPut (joined (take i outs)) i done held mid a b → n ≤ length (sent_bytes x) → Appends mid now (take n (sent_bytes x))
    → (done + n ≤ length (joined outs)) × Appends held now (take (done + n) (joined outs))
part_put outs i x done n held mid now a b lt is s fits w =
    let front = joined (take i outs) in
    let back = joined (drop (suc i) outs) in
    let all = joined_at outs i x lt is in
    let there : take (done + n) (joined outs) ≡ front ++ take n (sent_bytes x) =
    rw (all, s.all) (take-append-add front (sent_bytes x ++ back) n ∙ ap (λ l. front ++ l) (take-append-le n (sent_bytes x) back fits)) in
    (rw (all, s.all) (simp length-append (omega arith)), rw there (Appends-trans held mid now _ _ s.written w))
