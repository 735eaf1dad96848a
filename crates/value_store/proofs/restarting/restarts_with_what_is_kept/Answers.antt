use Rattle.sqlite.specs.Files.{file_state}
use Rattle.value_store.specs.Lasting.{lasts}
use Rattle.value_store.proofs.RestartLemmas.{restarts}
use Rattle.value_store.proofs.restarting.restarts_with_what_is_kept.Goals as goal

pub returns : goal.returns
returns g c = restarts c.args.before.now.conn c.args.after.now (lasts (file_state c.args.before.now.conn) c.args.before.now.settled)
