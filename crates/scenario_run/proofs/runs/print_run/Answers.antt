use Rattle.std.proofs.Common.{◌≡◌, ◌≢◌, ◌∙◌, true, false, [], sym, rules}
use Rattle.std.specs.Prelude.{is_err, string_bytes}
use Rattle.scenario_run.proofs.HeldLemmas.{put_short, put_whole}
use Rattle.scenario_run.proofs.RunLemmas.{broken, let_out}
use Rattle.scenario_run.proofs.runs.print_run.Goals as goal

pub returns-then-is_err : goal.returns-then-is_err
returns-then-is_err g c =
    let failed : is_err c.put_held.result ≡ true = search rules in
    let some : string_bytes c.hold_run-ran.new.held ≢ [] = search rules in
    broken _ _ _ _ _ _ _ _ c.hold_run-ran.result c.hold_run-ran.ensures.rows some (sym c.is_cut_short.ensures ∙ c.if-is_cut_short.false) c.hold_run-ran.ensures.printed
    (put_short c.put_held.result _ _ _ _ failed c.put_held.ensures)

pub returns : goal.returns
returns g c =
    let whole : is_err c.put_held.result ≡ false = search rules in
    let_out _ _ _ _ _ _ _ _ c.hold_run-ran.result (sym c.is_cut_short.ensures ∙ c.if-is_cut_short.false) c.hold_run-ran.ensures.printed
    (put_whole c.put_held.result _ _ _ _ whole c.put_held.ensures)
