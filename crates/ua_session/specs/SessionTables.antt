-- Sessions by their numbers.
use Rattle.std.specs.Prelude.{◌≡◌, ◌≤ℤ◌, ⊤, ℕ, Bool, int_le, List, [], ◌∷◌, length, Option, Some, None, IfSome, IsSomeAnd, slice_index_or, if◌then◌else◌}
use Rattle.std.specs.FinMap.{FinMap, get}
use Rattle.std.specs.Ordering.{nat_cmp}
use Rattle.slab.specs.Slab.{Slab, slab_len}
use Rattle.ua_types.specs.declared.moment.Moment.{Moment}
use Rattle.ua_session.specs.declared.session.Session.{Session}
use Rattle.ua_session.specs.declared.session_table.Slot.{Slot}

-- the clock has reached the session's deadline
abbrev pub is_due : Moment → Session → Bool
is_due clock session = int_le session.deadline.0 clock.0

-- the numbers of the sessions that are due, in the order of these entries
abbrev pub due_in : Moment → List (ℕ × Session) → List ℕ
due_in clock [] = []
due_in clock (e ∷ es) = if is_due clock e.1 then e.0 ∷ due_in clock es else due_in clock es

-- no session is due before that moment
abbrev pub IsNoneDueBefore : Moment → FinMap nat_cmp Session → Type 0
IsNoneDueBefore earliest sessions = (number : ℕ) → IfSome (get sessions number) (λ session. earliest.0 ≤ℤ session.deadline.0)

-- ---- a slab, and the slot of each number

abbrev pub slot_at : List (Option Slot) → ℕ → Option Slot
slot_at slots key = slice_index_or slots key None

abbrev pub held_at : ℕ → Option Slot → List (ℕ × Session) → List (ℕ × Session)
held_at number None rest = rest
held_at number (Some slot) rest = (number, slot.session) ∷ rest

-- the sessions in the slots of these numbers
abbrev pub held_in : List (Option Slot) → List (ℕ × ℕ) → List (ℕ × Session)
held_in slots [] = []
held_in slots (e ∷ es) = held_at e.0 (slot_at slots e.1) (held_in slots es)

-- each slot that a number leads to has a session of that number, so no two numbers share one
abbrev pub AreNumbered : List (Option Slot) → List (ℕ × ℕ) → Type 0
AreNumbered slots [] = ⊤
AreNumbered slots (e ∷ es) = IsSomeAnd (slot_at slots e.1) (λ slot. slot.number ≡ e.0) × AreNumbered slots es

-- and no session lies in a slot that no number leads to
pub record IsTable (slots : Slab Slot) (es : List (ℕ × ℕ)) : Type 0 where
  pub numbered : AreNumbered slots.slots es
  pub full : slab_len slots ≡ length es
