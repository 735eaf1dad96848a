-- What is appended field by field is the whole.
use Rattle.std.proofs.Common.{◌≡◌, ℕ, List, ◌++◌, append_assoc}

pub results_joined : (id header results infos : List ℕ) → id ++ ((header ++ results) ++ infos) ≡ ((id ++ header) ++ results) ++ infos
results_joined id header results infos = simp append_assoc
