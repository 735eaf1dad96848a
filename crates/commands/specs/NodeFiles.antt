-- What a file that was read comes to.
use Rattle.std.specs.Prelude.{◌≡◌, ◌⊎◌, ℕ, List, [], Option, Some, None, Result, Ok, Err}
use Rattle.ua_types.specs.Configuration.{Configuration, standard}
use Rattle.ua_space.specs.Nodes.{SpaceState}
use Rattle.ua_space.specs.Build.{space_of}
use Rattle.ua_space.specs.declared.fault.SpaceFault.{SpaceFault}
use Rattle.node_loader.specs.File.{meaning_of}
use Rattle.node_loader.specs.declared.fault.LoadFault.{LoadFault}
use Rattle.node_loader.specs.declared.file.Loaded.{Loaded}
use Rattle.commands.specs.declared.exit_status.ExitStatus.{ExitStatus}
use Rattle.commands.specs.declared.exit_status.ExitStatus.TheVariants.{File, Halted}

-- a file that was read: its path and its text
pub record ReadFile : Type 0 where
  pub path : List ℕ
  pub text : List ℕ

-- a file that couldn't be read, or for which there was no memory
abbrev pub ReadsNone : ExitStatus → Type 0
ReadsNone status = (status ≡ File) ⊎ (status ≡ Halted)

-- a configuration, and the address space of a server
abbrev pub Made : Type 0
Made = Configuration × SpaceState

abbrev pub built : Configuration → Result SpaceState SpaceFault → Option Made
built config (Ok space) = Some (config, space)
built config (Err fault) = None

abbrev pub made_by : Result Loaded LoadFault → Option Made
made_by (Ok c) = built c.config (space_of c.config c.nodes c.triples)
made_by (Err fault) = None

-- the configuration and the address space that a text means, where nothing is wrong with either
abbrev pub made_in : List ℕ → Option Made
made_in text = made_by (meaning_of text)

-- what is served where no file is given: the standard configuration and the base set
abbrev pub made_of_none : Option Made
made_of_none = built standard (space_of standard [] [])
