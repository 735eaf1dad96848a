use Rattle.std.proofs.Common.{ℕ, ◌++◌, ap, ◌∙◌, take}
use Rattle.ua_monitored_items.specs.ItemTables.{item_at}
use Rattle.ua_monitored_items.specs.Taking.{told_at, told_by}
use Rattle.ua_monitored_items.proofs.FirstNotes.{tells_more, tells_end, nobody_tells}
use Rattle.ua_monitored_items.proofs.notes.copy_all.Goals as goal
use Rattle.ua_monitored_items.proofs.notes.copy_all.Goals.{in-None, in-Some+then-left-eq0}

pub loop-number-preserved : goal.loop-number-preserved
loop-number-preserved c =
    let number = c.in-Some.number.now in
    let items = c.args.items.now in
    let notes = c.loop-number.notes.items in
    let left = c.loop-number.left in
    let rest = c.next.new.self in (
      tt,
      tt,
      ap (λ ns. ns ++ take c.in_ok-left.left (told_by items rest)) c.in_ok-left.ensures.notes
          ∙ ap (λ (l : ℕ). (notes ++ take left (told_at (item_at number items))) ++ take l (told_by items rest)) c.in_ok-left.ensures.left
          ∙ tells_more items notes left number rest c.loop-number.number-iterator c.in-Some.ensures.steps
          ∙ c.loop-number.invariant.2,
    )

pub returns : goal.returns
returns c =
    let items = c.args.items.now in
    let notes = c.loop-number.notes.items in
    let all = take c.args.count (told_by items c.args.numbers.now.keys) in
    let rest = c.loop-number.number-iterator in
    elim c.match-next.branch [
      | in-None w ↦ tells_end items notes all c.loop-number.left rest c.loop-number.invariant.2 (nobody_tells items c.loop-number.left rest w.in-None.ensures.steps.0)
      | in-Some+then-left-eq0 w ↦ tells_end items notes all c.loop-number.left rest c.loop-number.invariant.2 (ap (λ (l : ℕ). take l (told_by items rest)) w.if-left-eq0.true)
    ]
