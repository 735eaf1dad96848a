-- A variable takes what a Write makes for it.
use Rattle.std.proofs.Common.{◌≡◌, ℕ, ◌+◌, ◌≤◌, true, false, ◌&&◌, eqb, Option, Some, None, refl, sym, ap, ◌∙◌, arith}
use Rattle.std.proofs.lemmas.Bool.{eqb-true, leb-true, eq-eqb, and_parts}
use Rattle.std.specs.Prelude.{is_none}
use Rattle.ua_types.specs.Parts.{list_len, flat_len, flattened, with_part, HasRoom}
use Rattle.ua_types.specs.Variants.{type_number}
use Rattle.ua_types.specs.declared.variant.Variant.{Variant}
use Rattle.ua_types.proofs.Parting.{len_flattened, shape_flattened, type_flattened, type_with_part, shape_with_part}
use Rattle.ua_space.specs.Variables.{has_rank, is_of}
use Rattle.ua_space.specs.declared.node.ValueRank.{ValueRank}
use Rattle.ua_space.specs.declared.node.ValueRank.TheVariants as ranks
use Rattle.ua_read_write.specs.Writing.{has_elements}
use Rattle.ua_read_write.specs.declared.index_range.IndexRange.{IndexRange}

-- a list variable takes a flat list of its type, without its dimension
flattened_is_of : (data_type : ℕ) (value : Variant) (len : Option ℕ) → flat_len value ≡ len → is_none len ≡ false → type_number value ≡ data_type
    → is_of data_type ranks.List (flattened value) ≡ true
unfolding has_rank
flattened_is_of data_type value None is some same = absurd cc
flattened_is_of data_type value (Some n) is some same = rw (type_flattened value, same, shape_flattened value n is) (ap (λ b. b && true) (eq-eqb data_type data_type refl))

pub takes_flattened : (data_type : ℕ) (rank : ValueRank) (value : Variant) → rank ≡ ranks.List → is_none (flat_len value) ≡ false → type_number value ≡ data_type
    → is_of data_type rank (flattened value) ≡ true
takes_flattened data_type rank value list some same = rw list (flattened_is_of data_type value (flat_len value) refl some same)

-- a variable takes its list with other elements
pub takes_with_part : (data_type : ℕ) (rank : ValueRank) (first : ℕ) (part whole : Variant) → is_of data_type rank whole ≡ true → is_of data_type rank (with_part first part whole) ≡ true
unfolding has_rank
takes_with_part data_type rank first part whole taken = rw (type_with_part first part whole, shape_with_part first part whole) taken

room_by : (first : ℕ) (value : Variant) (len whole : Option ℕ) → flat_len value ≡ len → HasRoom first len whole → HasRoom first (list_len (flattened value)) whole
room_by first value None whole is room = absurd room
room_by first value (Some n) whole is room = rw (len_flattened value n is) room

-- a list has room for what is flat, once it is flattened
pub has_room : (first : ℕ) (value : Variant) (whole : Option ℕ) → HasRoom first (flat_len value) whole → HasRoom first (list_len (flattened value)) whole
has_room first value whole room = room_by first value (flat_len value) whole refl room

-- ---- elements that are put into a list

pub type_is_ready : (data_type : ℕ) (rank : ValueRank) (value whole : Variant) → is_of data_type rank whole ≡ true → type_number value ≡ data_type → type_number value ≡ type_number whole
type_is_ready data_type rank value whole taken same = same ∙ sym (eqb-true (type_number whole) data_type (and_parts (eqb (type_number whole) data_type) (has_rank rank whole) taken).0)

room_of : (range : IndexRange) (len whole : Option ℕ) (n : ℕ) → has_elements range whole ≡ true → len ≡ Some n → n ≡ range.count → HasRoom range.first len whole
room_of range None whole n has is count = absurd cc
room_of range (Some m) None n has is count = absurd cc
room_of range (Some m) (Some k) n has is count = let same : m ≡ n = cc in let le : range.first + range.count ≤ k = leb-true _ _ has in omega arith

pub room_is_ready : (range : IndexRange) (value : Variant) (whole : Option ℕ) (n : ℕ) → has_elements range whole ≡ true → flat_len value ≡ Some n → n ≡ range.count → HasRoom range.first (flat_len value) whole
room_is_ready range value whole n has is count = room_of range (flat_len value) whole n has is count
