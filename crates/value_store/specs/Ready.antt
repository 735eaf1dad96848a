-- A store is ready and settled in one way each, so that these may be facts of a struct.
use Rattle.std.specs.Prelude.{List, IsTrue}
use Rattle.std.specs.List.{AllByRecursion-prop}
use mathlib.Core.Bool.{Bool-set}
use Rattle.std.specs.Coded.{le_prop, Coded-set}
use Rattle.sqlite_schema.specs.contracts.schema.Schema.{the_row}
use Rattle.sqlite.specs.Order.{Row}
use Rattle.sqlite.specs.Tree.{rowid}
use Rattle.sqlite.specs.View.{is_int}
use Rattle.sqlite.specs.Effect.{Database}
use Rattle.sqlite_trees.specs.Props.{Trees-set}
use Rattle.sqlite.specs.State.{State}
use Rattle.value_store.specs.Tables.{store_schema}
use Rattle.value_store.specs.Model.{AreNumbered, IsStore}
use Rattle.value_store.specs.Steps.{IsReady, IsSettled}

AreNumbered-prop : (rows : List Row) → IsProp (AreNumbered rows)
AreNumbered-prop rows x y = λ i. (AllByRecursion-prop (λ r. IsTrue (is_int (rowid r))) (λ r. Bool-set _ _) rows x.0 y.0 i, λ n. le_prop (x.1 n) (y.1 n) i)

IsStore-prop : (db : Database) → IsProp (IsStore db)
IsStore-prop db x y = λ i. (Coded-set the_row.coded db.schema store_schema x.0 y.0 i, AreNumbered-prop (db.trees 0) x.1 y.1 i, AreNumbered-prop (db.trees 2) x.2 y.2 i)

pub IsReady-prop : (s : State) → IsProp (IsReady s)
IsReady-prop s x y = λ i clean is_open. IsStore-prop s.now (x clean is_open) (y clean is_open) i

pub IsSettled-prop : (s : State) → IsProp (IsSettled s)
IsSettled-prop s x y = λ i trees clean is_open may. Trees-set trees s.now.trees (x trees clean is_open may) (y trees clean is_open may) i
