use Rattle.std.proofs.Common.{◌∙◌, ℤ, Some, sym, ap, subst}
use Rattle.std.proofs.lemmas.Int.{to_z-of_z}
use mir.Syntax.{w64}
use Rattle.collections.proofs.Entries.{found_at, set_at, absent_at, inserted_at}
use Rattle.collections.specs.Places.{IsAt, IsGapFor}
use Rattle.collections.proofs.segment.put.Goals as goal

pub returns-in-Ok-clause-old : goal.returns-in-Ok-clause-old
returns-in-Ok-clause-old g c =
    let at = subst (λ (t : ℤ). IsAt t c.args.segment.now.items c.in-Ok.at) (to_z-of_z w64 c.args.time c.ranges.time) c.in-Ok.ensures in
    ap Some (c.replace.ensures.value ∙ ap (λ e. e.1) c.index_mut-entry.ensures.value) ∙ sym (found_at c.args.time c.args.segment.now.items c.in-Ok.at c.index_mut-entry.result.now c.requires at)

pub returns-in-Ok-clause-ok : goal.returns-in-Ok-clause-ok
returns-in-Ok-clause-ok g c =
    let at = subst (λ (t : ℤ). IsAt t c.args.segment.now.items c.in-Ok.at) (to_z-of_z w64 c.args.time c.ranges.time) c.in-Ok.ensures in
    let is = set_at c.args.time c.args.value c.args.segment.now.items c.in-Ok.at c.index_mut-entry.result.now c.requires at in
    let read = c.index_mut-entry.ensures.value in
    let kept = c.replace.ensures.after in
    cc

pub returns-in_ok-insert-in-Err-clause-old : goal.returns-in_ok-insert-in-Err-clause-old
returns-in_ok-insert-in-Err-clause-old g c =
    let at = subst (λ (t : ℤ). IsGapFor t c.args.segment.now.items c.in-Err.at) (to_z-of_z w64 c.args.time c.ranges.time) c.in-Err.ensures in
    sym (absent_at c.args.time c.args.segment.now.items c.in-Err.at at)

pub returns-in_ok-insert-in-Err-clause-ok : goal.returns-in_ok-insert-in-Err-clause-ok
returns-in_ok-insert-in-Err-clause-ok g c =
    let back = to_z-of_z w64 c.args.time c.ranges.time in
    let at = subst (λ (t : ℤ). IsGapFor t c.args.segment.now.items c.in-Err.at) back c.in-Err.ensures in
    let items = rw back at c.in_ok-insert-in-Err.ensures.items in
    items ∙ inserted_at c.args.time c.args.value c.args.segment.now.items c.in-Err.at at
