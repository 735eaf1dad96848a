use Rattle.std.proofs.Common.{◌++◌, sym, ap, ◌∙◌, arith}
use Rattle.std.proofs.lemmas.Bool.{leb-true, leb-false}
use Rattle.std.proofs.lemmas.List.{length-take}
use Rattle.std.specs.Ordering.{int_cmp}
use Rattle.std.specs.BTreeMap.Range.{entries_between}
use Rattle.ua_history.specs.Pages.{last_time}
use Rattle.ua_history.proofs.Filling.{ends_within, goes_on}
use Rattle.ua_history.proofs.pages.rising_page.Goals as goal

pub returns-then-not-branch : goal.returns-then-not-branch
returns-then-not-branch c =
    let values = c.loop-run.page.values in
    let so_far = c.loop-run.invariant in
    let is = ap (λ l. values ++ l) (sym c.in-Some.ensures.steps.1) ∙ so_far.4 in
    let few = rw so_far.3 at (leb-false _ _ (sym c.in_ok-take.ensures.all ∙ c.if-not-branch.true)) in
    let ends = ends_within c.args.count values c.in-Some.run'.now c.next.new.self (entries_between int_cmp c.args.low c.args.high c.args.values.now) is few in
    let shown = (rw (so_far.2, so_far.3) at (ap (λ s. s.values) c.in_ok-take.ensures.values)) ∙ ends.values in
    record {
      values = c.cut.ensures.values ∙ shown;
      last_given = rw ends.is_more (c.cut.ensures.last ∙ ap last_time shown);
    }

pub loop-run-preserved : goal.loop-run-preserved
loop-run-preserved c =
    let values = c.loop-run.page.values in
    let so_far = c.loop-run.invariant in
    let is = ap (λ l. values ++ l) (sym c.in-Some.ensures.steps.1) ∙ so_far.4 in
    let few = rw so_far.3 at (leb-true _ _ (sym c.in_ok-take.ensures.all ∙ c.if-not-branch.false)) in
    let shown = rw (so_far.2, so_far.3) at (ap (λ s. s.values) c.in_ok-take.ensures.values) in (
      tt,
      tt,
      ap (λ s. s.is_falling) c.in_ok-take.ensures.values ∙ so_far.2,
      ap (λ s. s.size) c.in_ok-take.ensures.values ∙ so_far.3,
      ap (λ l. l ++ c.next.new.self) shown ∙ goes_on c.args.count values c.in-Some.run'.now c.next.new.self (entries_between int_cmp c.args.low c.args.high c.args.values.now) is few,
      rw (shown, length-take) (omega arith),
    )
