use Rattle.std.proofs.Common.{ℕ, ◌++◌, ◌∷◌, [], ap, sym, refl, ◌∙◌, append_assoc}
use Rattle.ua_monitored_items.specs.Items.{Taking, with_taken, nothing_taken, taken_of}
use Rattle.ua_monitored_items.proofs.Serving.{gives_alike, taken_more, taken_full, taken_end}
use Rattle.ua_monitored_items.proofs.notes.send_all.Goals as goal

pub loop-number-preserved : goal.loop-number-preserved
loop-number-preserved c =
    let front = c.loop-number.invariant.2 in
    let number = c.in-Some.number.now in
    let items = c.args.items.now in
    let count = c.args.count in
    let before = taken_of items count front in
    let here = ap (λ (es : _). with_taken (nothing_taken es c.loop-number.left) number) c.loop-number.invariant.4 ∙ ap (λ (l : ℕ). with_taken (nothing_taken before.items l) number) c.loop-number.invariant.5 in (
      tt,
      tt,
      front ++ number ∷ [],
      append_assoc front (number ∷ []) c.next.new.self ∙ ap (λ xs. front ++ xs) (sym c.in-Some.ensures.steps) ∙ c.loop-number.invariant.3,
      c.send_from-left.ensures.items ∙ ap (λ (t : Taking). t.items) here ∙ (gives_alike before number).0 ∙ ap (λ (t : Taking). t.items) (sym (taken_more items count front number)),
      c.send_from-left.ensures.left ∙ ap (λ (t : Taking). t.left) here ∙ (gives_alike before number).1 ∙ ap (λ (t : Taking). t.left) (sym (taken_more items count front number)),
    )

pub returns-in-None : goal.returns-in-None
returns-in-None c =
    let before = taken_of c.args.items.now c.args.count c.loop-number.invariant.2 in
    c.loop-number.invariant.4
    ∙ ap (λ (t : Taking). t.items) (sym (taken_end c.args.items.now c.args.count c.loop-number.invariant.2 c.loop-number.number-iterator c.args.numbers.now.keys before c.loop-number.invariant.3 refl c.in-None.ensures.steps.0))

pub returns-then-left-eq0 : goal.returns-then-left-eq0
returns-then-left-eq0 c =
    let before = taken_of c.args.items.now c.args.count c.loop-number.invariant.2 in
    c.loop-number.invariant.4
    ∙ ap (λ (t : Taking). t.items) (sym (taken_full c.args.items.now c.args.count c.loop-number.invariant.2 c.loop-number.number-iterator c.args.numbers.now.keys before c.loop-number.invariant.3 refl (sym c.loop-number.invariant.5 ∙ c.if-left-eq0.true)))
