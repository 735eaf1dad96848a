use Rattle.scenario_run.specs.Held.{place}
use Rattle.scenario_run.specs.TraceText.{rows_text}
use Rattle.commands.proofs.ServeLemmas.{lines_put, part_put}
use Rattle.commands.proofs.watching.put_out.Goals as goal

pub returns-in-Ok : goal.returns-in-Ok
returns-in-Ok g c = λ writer. lines_put _ _ _ writer c.in-Ok.ensures

pub returns-in-Err-Write : goal.returns-in-Err-Write
returns-in-Err-Write g c =
    let old = place g.O.Write.contents c.args.output.now in
    let new = place g.O.Write.contents c.put_rows.new.writer in
    let part = rw c.in-Err-Write.field-0-is at c.in-Err-Write.ensures in
    λ writer. part_put (rows_text c.args.event c.args.rows.now) old new writer part
