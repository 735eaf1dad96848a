-- Comparisons of times.
use Rattle.std.proofs.Common.{◌≡◌, ℤ, pos, negsuc, int_lt, int_le, true, refl, arith}
use mir.Syntax.{w64}
use mir.Val.{SFits}
use Rattle.std.specs.BTreeMap.Range.{IsLeBy, IsLtBy}
use Rattle.std.specs.Ordering.{int_cmp}
use Rattle.std.specs.declared.cmp.Ordering.TheVariants.{Equal, Greater}

pub same_equal : (a b : ℤ) → a ≡ b → int_cmp a b ≡ Equal
same_equal a b e = grind (arith, e)

pub equal_same : (a b : ℤ) → int_cmp a b ≡ Equal → a ≡ b
equal_same a b e = grind (arith, e)

pub less_flips : (a b : ℤ) → IsLtBy int_cmp a b → int_cmp b a ≡ Greater
less_flips a b h = grind (arith, h)

pub greater_flips : (a b : ℤ) → int_cmp a b ≡ Greater → IsLtBy int_cmp b a
greater_flips a b h = grind (arith, h)

pub less_le : (a b : ℤ) → IsLtBy int_cmp a b → IsLeBy int_cmp a b
less_le a b h = grind (arith, h)

pub lt_le : (a b c : ℤ) → IsLtBy int_cmp a b → IsLeBy int_cmp b c → IsLtBy int_cmp a c
lt_le a b c h k = grind (arith, h, k)

pub le_lt : (a b c : ℤ) → IsLeBy int_cmp a b → IsLtBy int_cmp b c → IsLtBy int_cmp a c
le_lt a b c h k = grind (arith, h, k)

pub le_le : (a b c : ℤ) → IsLeBy int_cmp a b → IsLeBy int_cmp b c → IsLeBy int_cmp a c
le_le a b c h k = grind (arith, h, k)

pub lt_lt : (a b c : ℤ) → IsLtBy int_cmp a b → IsLtBy int_cmp b c → IsLtBy int_cmp a c
lt_lt a b c h k = grind (arith, h, k)

pub le_self : (a : ℤ) → IsLeBy int_cmp a a
le_self a = grind arith

pub lt_is_less : (a b : ℤ) → int_lt a b ≡ true → IsLtBy int_cmp a b
lt_is_less a b h = grind (arith, h)

pub le_is_le : (a b : ℤ) → int_le a b ≡ true → IsLeBy int_cmp a b
le_is_le a b h = grind (arith, h)

-- no time lies before the least of 64 bits
pub least_first : (time : ℤ) → SFits w64 time → IsLeBy int_cmp (negsuc 9223372036854775807) time
least_first (pos n) fits = refl
least_first (negsuc n) fits = grind (arith, fits)
