-- What comes of what was made.
use Rattle.std.proofs.Common.{Option, Some, None, Err, sym}
use Rattle.std.proofs.lemmas.Option.{none-some}
use Rattle.commands.specs.Said.{MadeBy, OfNodes}
use Rattle.commands.specs.NodeFiles.{Made}
use Rattle.commands.specs.declared.exit_status.ExitStatus.{ExitStatus}
use Rattle.commands.specs.declared.exit_status.ExitStatus.TheVariants.{Done, Usage, File, Nodes, Scenario, Halted, Network, Stream, Store}

-- nothing was made
pub unmade : (Comes : Made → ExitStatus → Type 0) (Stays : Type 0) (said : Option Made) (status : ExitStatus) → MadeBy (Err status) said → Stays → ((made : Made) → Comes made Halted)
    → OfNodes Comes Stays said status
unmade Comes Stays None Nodes by stays halted = stays
unmade Comes Stays None Halted by stays halted = stays
unmade Comes Stays (Some made) Nodes by stays halted = absurd (none-some made (sym by))
unmade Comes Stays (Some made) Halted by stays halted = halted made
unmade Comes Stays said Done by stays halted = absurd by
unmade Comes Stays said Usage by stays halted = absurd by
unmade Comes Stays said File by stays halted = absurd by
unmade Comes Stays said Scenario by stays halted = absurd by
unmade Comes Stays said Network by stays halted = absurd by
unmade Comes Stays said Stream by stays halted = absurd by
unmade Comes Stays said Store by stays halted = absurd by
