-- Files of version 1 mean what they meant, and the same where their `version` says 2.
use Rattle.std.specs.Prelude.{◌≡◌, ℕ, pos, codes, Ok, Some, if◌then◌else◌}
use Rattle.toml.specs.Data.{integer, Members, no_members, member, get_member, same_key}
use Rattle.node_loader.specs.File.{contents_of}
use Rattle.node_loader.specs.VersionOne.{first_contents_of}
use Rattle.node_loader.specs.declared.file.Loaded.{Loaded}

-- a file whose `version` is 1 gives what it gave, or the same fault
abbrev pub VersionOneIsKept : Type 0
VersionOneIsKept = (ms : Members) → get_member (codes "version") ms ≡ Some (integer (pos 1)) → contents_of ms ≡ first_contents_of ms

-- the same table, but for its `version`
abbrev pub of_version : ℕ → Members → Members
of_version n no_members = no_members
of_version n (member key d ms) = member key (if same_key (codes "version") key then integer (pos n) else d) (of_version n ms)

-- a file that version 1 accepted gives the same as a file of version 2
abbrev pub VersionTwoAgrees : Type 0
VersionTwoAgrees = (ms : Members) (loaded : Loaded) → first_contents_of ms ≡ Ok loaded → contents_of (of_version 2 ms) ≡ Ok loaded
