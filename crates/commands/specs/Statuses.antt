-- The exit statuses.
use Rattle.std.specs.Prelude.{ℕ}
use Rattle.commands.specs.declared.exit_status.ExitStatus.{ExitStatus}
use Rattle.commands.specs.declared.exit_status.ExitStatus.TheVariants.{Done, Usage, File, Nodes, Scenario, Halted, Network, Stream, Store}

abbrev pub code_of : ExitStatus → ℕ
code_of Done = 0
code_of Usage = 2
code_of File = 3
code_of Nodes = 4
code_of Scenario = 4
code_of Halted = 5
code_of Network = 6
code_of Stream = 7
code_of Store = 8
