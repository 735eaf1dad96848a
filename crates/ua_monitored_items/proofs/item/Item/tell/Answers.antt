use Rattle.std.proofs.Common.{◌∷◌, [], ap, sym, ◌∙◌, take}
use Rattle.std.proofs.lemmas.List.Sums.{fold-append}
use Rattle.ua_subscription_messages.specs.DataChangeMessages.{with_note, with_notes}
use Rattle.ua_monitored_items.specs.Item.{notes_of, note_of}
use Rattle.ua_monitored_items.proofs.Giving.{notes_more}
use Rattle.ua_monitored_items.proofs.item.Item.tell.Goals as goal

pub loop-index-preserved : goal.loop-index-preserved
loop-index-preserved c =
    let item = c.args.self.now in
    let index = c.loop-index.index in
    let message = c.args.message.now in
    let told = note_of item.client_handle item.timestamps c.in-Some.entry.now in
    c.in_ok-push.ensures
    ∙ ap (with_note c.loop-index.message) c.note.ensures
    ∙ ap (λ m. with_note m told) c.loop-index.invariant
    ∙ sym (fold-append with_note message (take index (notes_of item)) (told ∷ []))
    ∙ ap (with_notes message) (notes_more index item c.in-Some.entry.now c.in-Some.ensures)
