-- Lemmas on what was written through a tap so far.
use lib.Seq.{take-add}
use Rattle.std.proofs.Common.{◌≡◌, ◌≢◌, ℕ, ◌+◌, ◌≤◌, ◌==◌, ◌&&◌, Bool, true, false, ◌∙◌, List, length, take, drop, Option, arith, length-drop}
use Rattle.std.specs.Io.KnownBytes.{Appends, Keeps}
use Rattle.std.proofs.KnownBytes.{Appends-trans, Appends-kept}
use Rattle.std.proofs.lemmas.Bool.Decides.{nat_tests}
use Rattle.stream_taps.specs.Tapped.{Rose, counted}

pub counted-le : (a b : ℕ) (failed : Bool) → a ≤ b → a ≤ counted b failed
counted-le a b true h = grind (arith, nat_tests)
counted-le a b false h = h

pub counted-Rose : (a b : ℕ) → a ≤ b → Rose a (counted b true)
counted-Rose a b h = grind (arith, nat_tests)

-- `done` of the bytes are out, and no call has failed
pub record PutSoFar (bytes : List ℕ) (done : ℕ) (held now : Option (List ℕ)) (failures failed : ℕ) : Type 0 where
  pub within : done ≤ length bytes
  pub written : Appends held now (take done bytes)
  pub well : failed ≡ failures

some_taken : (a n : ℕ) (rest : Bool) → n ≢ 0 → counted a (n == 0 && rest) ≡ a
some_taken a n rest some = grind (arith, nat_tests)

-- n more bytes went out, and this write has not failed
pub put_more : (bytes : List ℕ) (done : ℕ) (held mid now : Option (List ℕ)) (a b c n : ℕ) (rest : Bool) → PutSoFar bytes done held mid a b
    → Appends mid now (take n (drop done bytes)) → n ≤ length (drop done bytes) → n ≢ 0 → c ≡ counted b (n == 0 && rest) → PutSoFar bytes (done + n) held now a c
put_more bytes done held mid now a b c n rest s w fits some counts =
    let len = length-drop done bytes in
    record {
      within = omega (arith, s.within);
      written = rw (take-add done n bytes) (Appends-trans held mid now _ _ s.written w);
      well = counts ∙ some_taken b n rest some ∙ s.well;
    }

-- a write was interrupted
pub put_none : (bytes : List ℕ) (done : ℕ) (held mid now : Option (List ℕ)) (a b c : ℕ) → PutSoFar bytes done held mid a b
    → Keeps mid now → c ≡ b → PutSoFar bytes done held now a c
put_none bytes done held mid now a b c s w same = record {
  within = s.within;
  written = Appends-kept held mid now _ s.written w;
  well = same ∙ s.well;
}
