use Rattle.std.proofs.Common.{ℕ, ◌++◌, ◌∷◌, [], ap, sym, refl, ◌∙◌, append_assoc}
use Rattle.ua_subscription_messages.specs.DataChangeMessages.{MessageDraft, with_notes}
use Rattle.ua_monitored_items.specs.Items.{Taking, with_taken, nothing_taken, taken_of}
use Rattle.ua_monitored_items.proofs.Serving.{gives_alike, written_alike, taken_more, taken_full}
use Rattle.ua_monitored_items.proofs.taking.give_all.Goals as goal

pub loop-number-preserved : goal.loop-number-preserved
loop-number-preserved c =
    let front = c.loop-number.invariant.2 in
    let number = c.in-Some.number.now in
    let items = c.args.items.now in
    let count = c.args.count in
    let message = c.args.message.now in
    let before = taken_of items count front in
    let here = ap (λ (es : _). with_taken (nothing_taken es c.loop-number.left) number) c.loop-number.invariant.4 ∙ ap (λ (l : ℕ). with_taken (nothing_taken before.items l) number) c.loop-number.invariant.5 in
    let after = sym (taken_more items count front number) in (
      tt,
      tt,
      front ++ number ∷ [],
      append_assoc front (number ∷ []) c.next.new.self ∙ ap (λ xs. front ++ xs) (sym c.in-Some.ensures.steps) ∙ c.loop-number.invariant.3,
      c.in_ok-left.ensures.items ∙ ap (λ (t : Taking). t.items) here ∙ (gives_alike before number).0 ∙ ap (λ (t : Taking). t.items) after,
      c.in_ok-left.ensures.left ∙ ap (λ (t : Taking). t.left) here ∙ (gives_alike before number).1 ∙ ap (λ (t : Taking). t.left) after,
      c.in_ok-left.ensures.message
          ∙ ap (λ (m : MessageDraft). with_notes m (with_taken (nothing_taken c.loop-number.items c.loop-number.left) number).notes) c.loop-number.invariant.6
          ∙ ap (λ (t : Taking). with_notes (with_notes message before.notes) t.notes) here
          ∙ written_alike message before number
          ∙ ap (λ (t : Taking). with_notes message t.notes) after,
      c.in_ok-left.ensures.counts,
    )

pub returns-then-left-eq0-clause-ok : goal.returns-then-left-eq0-clause-ok
returns-then-left-eq0-clause-ok c =
    let items = c.args.items.now in
    let front = c.loop-number.invariant.2 in
    let before = taken_of items c.args.count front in
    c.loop-number.invariant.4
    ∙ ap (λ (t : Taking). t.items) (sym (taken_full items c.args.count front c.loop-number.number-iterator c.args.numbers.now.keys before c.loop-number.invariant.3 refl (sym c.loop-number.invariant.5 ∙ c.if-left-eq0.true)))

pub returns-then-left-eq0-clause-message : goal.returns-then-left-eq0-clause-message
returns-then-left-eq0-clause-message c =
    let items = c.args.items.now in
    let front = c.loop-number.invariant.2 in
    let before = taken_of items c.args.count front in
    c.loop-number.invariant.6
    ∙ ap (λ (t : Taking). with_notes c.args.message.now t.notes) (sym (taken_full items c.args.count front c.loop-number.number-iterator c.args.numbers.now.keys before c.loop-number.invariant.3 refl (sym c.loop-number.invariant.5 ∙ c.if-left-eq0.true)))
