-- What a variable is to hold, as the code has it until it is copied.
use Rattle.std.specs.Prelude.{◌≡◌}
use Rattle.ua_types.specs.Parts.{list_len, flat_len, flattened, with_part, HasRoom}
use Rattle.ua_types.specs.Plain.{IsPlainValue}
use Rattle.ua_types.specs.Variants.{type_number}
use Rattle.ua_types.specs.declared.variant.Variant.{Variant}
use Rattle.ua_read_write.specs.declared.judging.NewValue.{NewValue}
use Rattle.ua_read_write.specs.declared.judging.NewValue.TheVariants as news

abbrev pub new_value : NewValue → Variant
new_value (news.Whole value) = value.now
new_value (news.List value) = flattened value.now
new_value (news.Part whole first value) = with_part first (flattened value.now) whole.now

-- elements that are put into a list are of its type, and it has room for them
abbrev pub IsReady : NewValue → Type 0
IsReady (news.Whole value) = Unit {0}
IsReady (news.List value) = Unit {0}
IsReady (news.Part whole first value) = (type_number value.now ≡ type_number whole.now) × HasRoom first (flat_len value.now) (list_len whole.now)

-- one value that holds no text, no bytes and no list
abbrev pub IsPlainNew : NewValue → Type 0
IsPlainNew (news.Whole value) = IsPlainValue value.now
IsPlainNew (news.List value) = ⊥
IsPlainNew (news.Part whole first value) = ⊥
