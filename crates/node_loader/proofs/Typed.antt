-- A value that is read as a type is of it.
use Rattle.std.proofs.Common.{◌≡◌, ℕ, ◌^◌, nat_lt, codes, true, List, Option, Some, None, Result, Ok, Err, refl, subst, inl, inr}
use Rattle.std.proofs.lemmas.Bool.{cases_Bool}
use Rattle.toml.specs.Data.{Items, Members, as_array, get_member}
use Rattle.ua_types.specs.ValueTypes.{type_number}
use Rattle.ua_types.specs.declared.content.Content.{Content}
use Rattle.ua_types.specs.declared.content.Content.TheVariants.{Array}
use Rattle.ua_types.specs.declared.variant.Variant.{Variant}
use Rattle.ua_space.specs.declared.node.ValueRank.{ValueRank}
use Rattle.ua_space.specs.declared.node.ValueRank.TheVariants as ranks
use Rattle.ua_space.specs.Variables.{is_of, has_rank}
use Rattle.node_loader.specs.Value.{value_of, seen, as_list, has_kind, list_of, judged_list, list_value, ranked_value}
use Rattle.node_loader.specs.Keys.{of_kind, required}
use Rattle.node_loader.specs.Lists.{all_items, count}
use Rattle.ua_types.specs.Answers.{◌>>=◌}
use Rattle.node_loader.specs.declared.fault.Cause.{Cause}
use Rattle.ua_types.specs.declared.value_type.ValueType.{ValueType}
use Rattle.ua_types.specs.declared.value_type.ValueType.TheVariants as types

seen_as : {A : Type 0} (n : ℕ) (kind : A → Variant) (read : Result A Cause) (v : Variant) → ((x : A) → is_of n ranks.Scalar (kind x) ≡ true) → seen kind read ≡ Ok v → is_of n ranks.Scalar v ≡ true
seen_as n kind (Ok x) v right e =
    let same : kind x ≡ v = cc in
    let P : Variant → Type 0 = λ w. is_of n ranks.Scalar w ≡ true in
    subst P same (right x)
seen_as n kind (Err c) v right e = absurd cc

value_typed : (kind : ValueType) (highest : ℕ) (ms : Members) (v : Variant) → value_of kind highest ms ≡ Ok v → is_of (type_number kind) ranks.Scalar v ≡ true
unfolding value_of has_rank
value_typed types.Boolean highest ms v e = seen_as 1 _ _ v (λ x. refl) e
value_typed types.SByte highest ms v e = seen_as 2 _ _ v (λ x. refl) e
value_typed types.Byte highest ms v e = seen_as 3 _ _ v (λ x. refl) e
value_typed types.Int16 highest ms v e = seen_as 4 _ _ v (λ x. refl) e
value_typed types.UInt16 highest ms v e = seen_as 5 _ _ v (λ x. refl) e
value_typed types.Int32 highest ms v e = seen_as 6 _ _ v (λ x. refl) e
value_typed types.UInt32 highest ms v e = seen_as 7 _ _ v (λ x. refl) e
value_typed types.Int64 highest ms v e = seen_as 8 _ _ v (λ x. refl) e
value_typed types.UInt64 highest ms v e = seen_as 9 _ _ v (λ x. refl) e
value_typed types.String highest ms v e = seen_as 12 _ _ v (λ x. refl) e
value_typed types.DateTime highest ms v e = seen_as 13 _ _ v (λ x. refl) e
value_typed types.Guid highest ms v e = seen_as 14 _ _ v (λ x. refl) e
value_typed types.ByteString highest ms v e = seen_as 15 _ _ v (λ x. refl) e
value_typed types.NodeId highest ms v e = seen_as 17 _ _ v (λ x. refl) e
value_typed types.StatusCode highest ms v e = seen_as 19 _ _ v (λ x. refl) e

list_as : {A : Type 0} (n : ℕ) (kind : Content A → Variant) (read : Result (List A) Cause) (v : Variant) → ((xs : List A) → is_of n ranks.List (kind (Array (Some xs))) ≡ true) → seen kind (as_list read) ≡ Ok v → is_of n ranks.List v ≡ true
list_as n kind (Ok xs) v right e =
    let same : kind (Array (Some xs)) ≡ v = cc in
    let P : Variant → Type 0 = λ w. is_of n ranks.List w ≡ true in
    subst P same (right xs)
list_as n kind (Err c) v right e = absurd cc

list_typed : (kind : ValueType) (highest : ℕ) (ds : Items) (v : Variant) → list_of kind highest ds ≡ Ok v → is_of (type_number kind) ranks.List v ≡ true
unfolding list_of has_rank
list_typed types.Boolean highest ds v e = list_as 1 _ _ v (λ xs. refl) e
list_typed types.SByte highest ds v e = list_as 2 _ _ v (λ xs. refl) e
list_typed types.Byte highest ds v e = list_as 3 _ _ v (λ xs. refl) e
list_typed types.Int16 highest ds v e = list_as 4 _ _ v (λ xs. refl) e
list_typed types.UInt16 highest ds v e = list_as 5 _ _ v (λ xs. refl) e
list_typed types.Int32 highest ds v e = list_as 6 _ _ v (λ xs. refl) e
list_typed types.UInt32 highest ds v e = list_as 7 _ _ v (λ xs. refl) e
list_typed types.Int64 highest ds v e = list_as 8 _ _ v (λ xs. refl) e
list_typed types.UInt64 highest ds v e = list_as 9 _ _ v (λ xs. refl) e
list_typed types.String highest ds v e = list_as 12 _ _ v (λ xs. refl) e
list_typed types.DateTime highest ds v e = list_as 13 _ _ v (λ xs. refl) e
list_typed types.Guid highest ds v e = list_as 14 _ _ v (λ xs. refl) e
list_typed types.ByteString highest ds v e = list_as 15 _ _ v (λ xs. refl) e
list_typed types.NodeId highest ds v e = list_as 17 _ _ v (λ xs. refl) e
list_typed types.StatusCode highest ds v e = list_as 19 _ _ v (λ xs. refl) e

judged_typed : (kind : ValueType) (highest : ℕ) (ds : Items) (v : Variant) → judged_list kind highest ds ≡ Ok v → is_of (type_number kind) ranks.List v ≡ true
judged_typed kind highest ds v e =
    elim (cases_Bool (all_items (has_kind kind) ds)) [
      | inr bad ↦ absurd (let none : Err _ ≡ Ok v = rw bad at e in cc)
      | inl good ↦
          elim (cases_Bool (nat_lt (count ds) (2 ^ 31))) [
            | inr many ↦ absurd (let none : Err _ ≡ Ok v = rw (good, many) at e in cc)
            | inl few ↦ list_typed kind highest ds v (rw (good, few) at e)
          ]
    ]

required_typed : (kind : ValueType) (highest : ℕ) (found : Result (Option Items) Cause) (v : Variant) → (found >>= λ items. required items >>= λ ds. judged_list kind highest ds) ≡ Ok v → is_of (type_number kind) ranks.List v ≡ true
required_typed kind highest (Ok (Some ds)) v e = judged_typed kind highest ds v e
required_typed kind highest (Ok None) v e = absurd cc
required_typed kind highest (Err c) v e = absurd cc

pub ranked_typed : (kind : ValueType) (rank : ValueRank) (highest : ℕ) (ms : Members) (v : Variant) → ranked_value kind rank highest ms ≡ Ok v → is_of (type_number kind) rank v ≡ true
unfolding list_value
ranked_typed kind ranks.Scalar highest ms v e = value_typed kind highest ms v e
ranked_typed kind ranks.List highest ms v e = required_typed kind highest (of_kind as_array (get_member (codes "value") ms)) v e
