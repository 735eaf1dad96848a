-- What a store shows of itself.
use Rattle.sqlite_trees.specs.declared.store.Store.{Ghosts}
use Rattle.sqlite.specs.Held.{Held, state}
use Rattle.sqlite.specs.State.{State}
use Rattle.value_store.specs.declared.store.ValueStore.{ValueStore}

-- its connection
abbrev pub connection_of : {S : Type 0} {g : Ghosts S} → ValueStore S g → Held S
connection_of store = store.conn

-- what its connection shows
abbrev pub state_of : {S : Type 0} {g : Ghosts S} → ValueStore S g → State
state_of {S} {g} store = state g store.conn
