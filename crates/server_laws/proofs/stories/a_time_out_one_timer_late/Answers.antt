use Rattle.std.proofs.Common.{◌≡◌, ◌+◌, ℕ, arith}
use Rattle.subscription_laws.specs.Histories.{counts_at, life_at}
use Rattle.server_laws.proofs.stories.a_time_out_one_timer_late.Goals as goal

one_more : (n m : ℕ) → n + 1 ≡ m → n ≡ m → ⊥
one_more n m h k = grind (arith, h, k)

pub returns : goal.returns
returns c config space events before row rest is times_out late =
    one_more (counts_at row.subscription before).started (life_at row.subscription before) (((c.table.ensures.exact_time_out config space events).then before row rest is times_out).1) late
