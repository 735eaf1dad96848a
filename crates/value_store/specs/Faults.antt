-- Why a store can't be opened, or can't keep what is to be kept.
use Rattle.std.specs.Prelude.{⊤}
use Rattle.server_messages.specs.declared.store_fault.StoreFault.{StoreFault}
use Rattle.server_messages.specs.declared.store_fault.StoreFault.TheVariants as told
use Rattle.sqlite.specs.declared.error.ErrorCode.TheVariants as code
use Rattle.sqlite.specs.declared.error.Error.{Error}
use Rattle.sqlite.specs.declared.error.Error.TheVariants.{SqliteFailure}
use Rattle.value_store.specs.declared.fault.Fault.{Fault}
use Rattle.value_store.specs.declared.fault.Fault.TheVariants.{Database, OtherTables, Unreadable, Memory}

-- what the server is told of an error of the database
abbrev pub told_of_database : Error → StoreFault
told_of_database (SqliteFailure code.OutOfMemory) = told.Memory
told_of_database (SqliteFailure code.DiskFull) = told.Full
told_of_database (SqliteFailure code.DatabaseBusy) = told.Locked
told_of_database (SqliteFailure code.CannotOpen) = told.CannotOpen
told_of_database (SqliteFailure code.NotADatabase) = told.NotADatabase
told_of_database error = told.Failed

abbrev pub told_of : Fault → StoreFault
told_of (Database error) = told_of_database error
told_of OtherTables = told.OtherTables
told_of Unreadable = told.Unreadable
told_of Memory = told.Memory

-- ---- which faults a call has

-- a row says no value, or memory ran out
abbrev pub IsOfRow : Fault → Type 0
IsOfRow Unreadable = ⊤
IsOfRow Memory = ⊤
IsOfRow OtherTables = ⊥
IsOfRow (Database error) = ⊥

-- the database refused or failed
abbrev pub IsOfDatabase : Fault → Type 0
IsOfDatabase (Database error) = ⊤
IsOfDatabase Unreadable = ⊥
IsOfDatabase Memory = ⊥
IsOfDatabase OtherTables = ⊥

-- the database has the store's tables
abbrev pub HasTables : Fault → Type 0
HasTables OtherTables = ⊥
HasTables Unreadable = ⊤
HasTables Memory = ⊤
HasTables (Database error) = ⊤
