use Rattle.std.proofs.Common.{ℕ, List, [], ◌∷◌, ◌++◌, ◌∙◌, ap, append_assoc}
use Rattle.server_connections.specs.Reactions.{refusal}
use Rattle.server_messages.specs.declared.out.Out.{Out}
use Rattle.server_messages.specs.declared.out.Out.TheVariants.{Send, Close}
use Rattle.server_connections.proofs.reactions.put_refusal.Goals as goal

pub returns : goal.returns
unfolding refusal
returns c =
    let conn = c.args.conn in
    let before = c.args.outs.now in
    c.in_ok-push-2.ensures.ok
    ∙ ap (λ (outs : List Out). outs ++ Close conn ∷ []) c.in_ok-push.ensures.ok
    ∙ append_assoc before (Send conn c.in_ok-err.field-0 ∷ []) (Close conn ∷ [])
    ∙ ap (λ (bytes : List ℕ). before ++ Send conn bytes ∷ Close conn ∷ []) c.in_ok-err.ensures.bytes
