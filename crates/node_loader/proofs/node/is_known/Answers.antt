use Rattle.std.proofs.Common.{ℕ, List, Bor, sym, ◌∙◌}
use Rattle.node_loader.proofs.Tables.{uncommon}
use Rattle.node_loader.proofs.node.is_known.Goals as goal

pub returns-else-is_common : goal.returns-else-is_common
returns-else-is_common c =
    c.is_one_of.ensures ∙ sym (uncommon (λ (k : Bor (List ℕ)). k.now) c.args.others.now c.args.key.now (sym c.is_common.ensures ∙ c.if-is_common.false))
