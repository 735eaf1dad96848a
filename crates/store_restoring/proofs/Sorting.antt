-- Values that are sorted out one after the other.
use Rattle.std.proofs.Common.{◌≡◌, Bool, List, [], ◌∷◌, ◌++◌, Option, Some, None, is_none, refl, ◌∙◌, ap}
use Rattle.std.proofs.lemmas.List.Elements.{filter-append, filter_map-append}
use Rattle.ua_space.specs.Nodes.{Nodes}
use Rattle.server_messages.specs.declared.kept_values.KeptValue.{KeptValue}
use Rattle.store_restoring.specs.Fitting.{fitting, left_out, left_out_for, misfit}
use Rattle.store_restoring.specs.declared.left_out.Misfit.{Misfit}

module _ (h : Bool) (nodes : Nodes) (ks : List KeptValue) (k : KeptValue) where
  pub fits_more : misfit h nodes k ≡ None → fitting h nodes (ks ++ k ∷ []) ≡ fitting h nodes ks ++ k ∷ []
  fits_more fits = filter-append (λ (x : KeptValue). is_none (misfit h nodes x)) ks (k ∷ []) ∙ rw fits refl

  pub fits_same : (why : Misfit) → misfit h nodes k ≡ Some why → fitting h nodes (ks ++ k ∷ []) ≡ fitting h nodes ks ++ []
  fits_same why fits = filter-append (λ (x : KeptValue). is_none (misfit h nodes x)) ks (k ∷ []) ∙ rw fits refl

  pub left_more : (why : Misfit) → misfit h nodes k ≡ Some why → left_out h nodes (ks ++ k ∷ []) ≡ left_out h nodes ks ++ record { kept = k; is_historical = h; why = why } ∷ []
  left_more why fits = filter_map-append (λ (x : KeptValue). left_out_for h x (misfit h nodes x)) ks (k ∷ []) ∙ rw fits refl

  pub left_same : misfit h nodes k ≡ None → left_out h nodes (ks ++ k ∷ []) ≡ left_out h nodes ks ++ []
  left_same fits = filter_map-append (λ (x : KeptValue). left_out_for h x (misfit h nodes x)) ks (k ∷ []) ∙ rw fits refl

-- what fits fits again
pub fitting_twice : (h : Bool) (nodes : Nodes) (ks : List KeptValue) → fitting h nodes (fitting h nodes ks) ≡ fitting h nodes ks
fitting_twice h nodes [] = refl
fitting_twice h nodes (k ∷ ks) = by (misfit h nodes k) refl (fitting_twice h nodes ks)
  where
    by : (o : Option Misfit) → o ≡ misfit h nodes k → fitting h nodes (fitting h nodes ks) ≡ fitting h nodes ks → fitting h nodes (fitting h nodes (k ∷ ks)) ≡ fitting h nodes (k ∷ ks)
    by None is rest = rw (← is, ← is) (ap (λ (xs : List KeptValue). k ∷ xs) rest)
    by (Some why) is rest = rw (← is) rest
