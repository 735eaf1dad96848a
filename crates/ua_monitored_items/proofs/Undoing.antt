-- Items that were made are taken back.
use Rattle.std.proofs.Common.{◌≡◌, ℕ, zero, suc, ◌+◌, ◌-◌, arith, ap, ◌∙◌}
use Rattle.ua_monitored_items.specs.Items.{ItemsState}
use Rattle.ua_monitored_items.specs.Undoing.{last_undone, undone, CanBeUndone}

undone_more : (m n : ℕ) (s : ItemsState) → undone (m + n) s ≡ undone m (undone n s)
undone_more zero n s = let same : 0 + n ≡ n = omega arith in ap (λ (k : ℕ). undone k s) same
undone_more (suc m) n s = let same : suc m + n ≡ suc (m + n) = omega arith in ap (λ (k : ℕ). undone k s) same ∙ ap last_undone (undone_more m n s)

pub undone_none : (s : ItemsState) → CanBeUndone s s
undone_none s = let none : s.made - s.made ≡ 0 = omega arith in (omega arith, ap (λ (k : ℕ). undone k s) none)

pub undone_one : (old new : ItemsState) → new.made ≡ old.made + 1 → last_undone new ≡ old → CanBeUndone old new
undone_one old new made back =
    let one : new.made - old.made ≡ 1 = omega (arith, made) in
    (omega (arith, made), ap (λ (k : ℕ). undone k new) one ∙ back)

pub undone_then : (a b c : ItemsState) → CanBeUndone a b → CanBeUndone b c → CanBeUndone a c
undone_then a b c (le, back) (more, then) =
    let both : c.made - a.made ≡ (b.made - a.made) + (c.made - b.made) = omega (arith, le, more) in (
      omega (arith, le, more),
      ap (λ (k : ℕ). undone k c) both ∙ undone_more (b.made - a.made) (c.made - b.made) c ∙ ap (undone (b.made - a.made)) then ∙ back,
    )
