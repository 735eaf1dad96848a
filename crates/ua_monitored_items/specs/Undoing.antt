-- Items that were made are taken back, the last one first.
use Rattle.std.specs.Prelude.{◌≡◌, ◌≤◌, ℕ, zero, suc, ◌-◌}
use Rattle.std.specs.BTreeMap.{is_at}
use Rattle.std.specs.Map.{remove_entry}
use Rattle.std.specs.Ordering.{nat_cmp}
use Rattle.ua_monitored_items.specs.Items.{ItemsState}

-- the last number is given to no item
abbrev pub last_undone : ItemsState → ItemsState
last_undone s = record s { made = s.made - 1; items = remove_entry (is_at (nat_cmp s.made)) s.items }

-- nor are the last numbers, so many
abbrev pub undone : ℕ → ItemsState → ItemsState
undone zero s = s
undone (suc n) s = last_undone (undone n s)

-- what was is there again once the numbers since then are taken back
abbrev pub CanBeUndone : ItemsState → ItemsState → Type 0
CanBeUndone old new = (old.made ≤ new.made) × (undone (new.made - old.made) new ≡ old)
