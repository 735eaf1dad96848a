use Rattle.std.proofs.Common.{rules, ◌∙◌, ap, sym}
use Rattle.sqlite.specs.Effect.{Database}
use Rattle.sqlite.specs.Held.{state}
use Rattle.server_messages.specs.Kept.{read_back}
use Rattle.value_store.proofs.Showing.{told}
use Rattle.value_store.proofs.Storing.{begun, anyway}
use Rattle.value_store.proofs.store.restore.Goals as goal

pub returns-clause-read : goal.returns-clause-read
returns-clause-read g c =
    let new = state g.S.Store c.begin.new.conn in
    told c.restored.result _ _ (λ kept h. begun new (read_back kept.values.items kept.histories.items) (λ clean. h new.now.trees (c.in_ok-rows.ensures.all clean))) c.restored.ensures.restored

pub returns-clause-same : goal.returns-clause-same
returns-clause-same g c clean has = anyway c.restored.result (c.in_ok-rows.ensures.same clean has)

pub returns-clause-settled : goal.returns-clause-settled
returns-clause-settled g c =
    anyway c.restored.result (λ trees clean is_open may. g.met.S.Store.settled c.begin.new.conn.store trees is_open may ∙ ap (λ (db : Database). db.trees) (sym (c.is_autocommit.ensures.settled (search rules) is_open)))
