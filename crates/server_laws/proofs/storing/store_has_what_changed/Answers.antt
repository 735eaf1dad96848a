use Rattle.server_laws.proofs.ServersStored.{store_has_what_changed, nothing_is_stored}
use Rattle.server_laws.proofs.storing.store_has_what_changed.Goals as goal

pub returns : goal.returns
returns c = record { all = store_has_what_changed; nothing = nothing_is_stored }
