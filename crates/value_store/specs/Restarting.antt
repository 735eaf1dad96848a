-- From one run to the next.
use Rattle.std.specs.Prelude.{IfSome, IsTrue}
use Rattle.server_messages.specs.Kept.{AreAlike}
use Rattle.sqlite_disk.specs.declared.Disk.{Ghosts}
use Rattle.sqlite_wal.specs.Recovery.{Image}
use Rattle.sqlite_store.specs.declared.store.FileStore.{FileStore}
use Rattle.sqlite_store.specs.FileStore as files
use Rattle.sqlite.specs.Held.{Held, AreDatabases}
use Rattle.sqlite.specs.Files.{file_state}
use Rattle.sqlite.specs.Start.{FindsIn}
use Rattle.value_store.specs.Keeping.{kept_at, kept_in}

-- whatever a crash leaves is a database: so the kit has it of the files of each connection
abbrev pub LeavesDatabases : {D : Type 0} {g : Ghosts D} → FileStore D g → Type 0
LeavesDatabases store = IsTrue (files.view store).is_numbered × AreDatabases (files.recovers store)

-- where the second is opened on what a crash may have left of the files of the first, its rows say what the first kept
abbrev pub Restarts : {D E : Type 0} {g : Ghosts D} {h : Ghosts E} → Held (FileStore D g) → Held (FileStore E h) → Type 0
Restarts before after =
    LeavesDatabases before.store → (left : Image) → (files.state before.store).may_leave left → FindsIn left (file_state after)
    → IfSome (kept_in (file_state before)) (λ kept. ∥ AreAlike kept (kept_at (file_state after).committed.trees) ∥₁)
