use Rattle.std.proofs.Common.{rules, ◌≡◌, ◌∙◌, sym, ap, length, arith, Bool, true, ◌==◌}
use Rattle.std.proofs.lemmas.Bool.{eqb-true}
use Rattle.sqlite_schema.specs.declared.schema.Schema.{Schema}
use Rattle.value_store.specs.Tables.{store_schema}
use Rattle.value_store.proofs.tables.prepare.Goals as goal

-- the store's schema has two tables
none_apart : (s t : Schema) (none : Bool) → none ≡ true → none ≡ (length s.tables == 0) → t ≡ s → t ≡ store_schema → ⊥
none_apart s t none told says same is = let e : length store_schema.tables ≡ 0 = ap (λ (x : Schema). length x.tables) (sym is ∙ same) ∙ eqb-true (length s.tables) 0 (sym says ∙ told) in omega (arith, e)

pub returns-in_err-make_tables-clause-same : goal.returns-in_err-make_tables-clause-same
returns-in_err-make_tables-clause-same g c has = absurd (none_apart c.schema.result.now _ c.has_no_table.result (search rules) c.has_no_table.ensures (sym c.schema.ensures.value) has)

pub returns-clause-same : goal.returns-clause-same
returns-clause-same g c has = absurd (none_apart c.schema.result.now _ c.has_no_table.result (search rules) c.has_no_table.ensures (sym c.schema.ensures.value) has)
