-- Ids that name types of references.
use Rattle.std.proofs.Common.{◌≡◌, ◌∙◌, ℕ, zero, suc, Bool, true, false, ◌==◌, ◌&&◌, refl, sym, ap, arith}
use Rattle.std.proofs.lemmas.Bool.{false≢true}
use Rattle.std.proofs.lemmas.Bool.Decides.{nat_tests}
use Rattle.ua_types.specs.declared.node_id.Identifier.{Identifier}
use Rattle.ua_types.specs.declared.node_id.Identifier.TheVariants.{Numeric, String, Guid, Opaque}
use Rattle.ua_types.specs.declared.node_id.NodeId.{NodeId}
use Rattle.ua_types.specs.NodeIds.{numeric_id, is_zero, is_null_id}

both : (a b : Bool) → (a && b) ≡ true → (a ≡ true) × (b ≡ true)
both true true h = (refl, refl)
both true false h = absurd (false≢true h)
both false b h = absurd (false≢true h)

null_number : (n : ℕ) → (n == 0) ≡ true → n ≡ 0
null_number zero h = refl
null_number (suc n) h = let some : (suc n == 0) ≡ false = grind (arith, nat_tests) in absurd (false≢true (sym some ∙ h))

null_identifier : (identifier : Identifier) → is_zero identifier ≡ true → identifier ≡ Numeric 0
null_identifier (Numeric n) h = ap (λ (k : ℕ). Numeric k) (null_number n h)
null_identifier (String t) h = absurd (false≢true h)
null_identifier (Guid g) h = absurd (false≢true h)
null_identifier (Opaque b) h = absurd (false≢true h)

null_parts : (namespace : ℕ) (identifier : Identifier) → namespace ≡ 0 → identifier ≡ Numeric 0
    → ◌≡◌ {A = NodeId} (record { namespace = namespace; identifier = identifier }) (numeric_id 0 0)
null_parts namespace identifier n i = rw (n, i) refl

-- only the null id is null
pub null_is_the_null_id : (id : NodeId) → is_null_id id ≡ true → id ≡ numeric_id 0 0
null_is_the_null_id id h =
    let parts = both (id.namespace == 0) (is_zero id.identifier) h in
    null_parts id.namespace id.identifier (null_number id.namespace parts.0) (null_identifier id.identifier parts.1)
