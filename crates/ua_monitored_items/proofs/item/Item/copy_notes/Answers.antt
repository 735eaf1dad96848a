use Rattle.std.proofs.Common.{◌∷◌, [], ◌++◌, ap, ◌∙◌, take, append_assoc}
use Rattle.ua_monitored_items.specs.Item.{notes_of, note_of}
use Rattle.ua_monitored_items.proofs.Giving.{notes_more}
use Rattle.ua_monitored_items.proofs.item.Item.copy_notes.Goals as goal

pub loop-index-preserved : goal.loop-index-preserved
loop-index-preserved c =
    let item = c.args.self.now in
    let index = c.loop-index.index in
    let told = note_of item.client_handle item.timestamps c.in-Some.entry.now ∷ [] in
    c.in_ok-push.ensures.items
    ∙ ap (λ n. c.loop-index.notes.items ++ n ∷ []) c.in_ok-note.ensures
    ∙ ap (λ ns. ns ++ told) c.loop-index.invariant
    ∙ append_assoc c.args.notes.now.items (take index (notes_of item)) told
    ∙ ap (λ ns. c.args.notes.now.items ++ ns) (notes_more index item c.in-Some.entry.now c.in-Some.ensures)
