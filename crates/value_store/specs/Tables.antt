-- The two tables, as SQL text and as the schema that it makes.
use Rattle.std.specs.Prelude.{Bool, true, false, [], ◌∷◌, None, codes, List, ℕ}
use Rattle.sqlite.specs.declared.types.Value.TheVariants.{Null}
use Rattle.sqlite.specs.Collation.TheVariants.{Binary}
use Rattle.sqlite_value.specs.Keys.{plain}
use Rattle.sqlite.specs.Table.{Table}
use Rattle.sqlite.specs.Schema.{Schema}
use Rattle.sqlite.specs.Kind.{Kind}
use Rattle.sqlite.specs.Kind.TheVariants.{Integer, Text, Any}
use Rattle.sqlite_schema.specs.declared.schema.Column.{Column}
use Rattle.sqlite_schema.specs.declared.schema.Index.{Index}

abbrev pub value_text : List ℕ
value_text = codes "CREATE TABLE value (node TEXT PRIMARY KEY NOT NULL, type INTEGER NOT NULL, value ANY, status INTEGER NOT NULL, source_time INTEGER, server_time INTEGER) STRICT"

abbrev pub history_text : List ℕ
history_text = codes "CREATE TABLE history (node TEXT NOT NULL, time INTEGER NOT NULL, type INTEGER NOT NULL, value ANY, status INTEGER NOT NULL, server_time INTEGER, PRIMARY KEY (node, time)) STRICT"

-- a column of a STRICT table
abbrev pub plain_column : List ℕ → Kind → Bool → Column
plain_column name kind not_null = record { name = name; kind = kind; is_strict = true; not_null = not_null; default = Null; collation = Binary }

abbrev pub value_table : Table
value_table = record {
  name = codes "value";
  tree = 0;
  columns = plain_column (codes "node") Text true ∷ plain_column (codes "type") Integer true ∷ plain_column (codes "value") Any false ∷ plain_column (codes "status") Integer true
      ∷ plain_column (codes "source_time") Integer false ∷ plain_column (codes "server_time") Integer false ∷ [];
  key = None;
  primary = 1 ∷ [];
  uniques = (1 ∷ []) ∷ [];
  orders = plain ∷ [];
  checks = [];
  references = [];
  computed = [];
  stamps = record { places = []; terms = []; formats = [] };
  is_counted = false;
}

abbrev pub history_table : Table
history_table = record value_table {
  name = codes "history";
  tree = 2;
  columns = plain_column (codes "node") Text true ∷ plain_column (codes "time") Integer true ∷ plain_column (codes "type") Integer true ∷ plain_column (codes "value") Any false
      ∷ plain_column (codes "status") Integer true ∷ plain_column (codes "server_time") Integer false ∷ [];
  primary = 1 ∷ 2 ∷ [];
  uniques = (1 ∷ 2 ∷ []) ∷ [];
}

-- the index that SQLite makes for the key of each
abbrev pub value_key : Index
value_key = record { name = codes "sqlite_autoindex_value_1"; tree = 1; table = 0; columns = 1 ∷ []; order = plain; is_unique = true }

abbrev pub history_key : Index
history_key = record { name = codes "sqlite_autoindex_history_1"; tree = 3; table = 2; columns = 1 ∷ 2 ∷ []; order = plain; is_unique = true }

abbrev pub no_schema : Schema
no_schema = record { tables = []; indexes = []; views = [] }

abbrev pub store_schema : Schema
store_schema = record { tables = value_table ∷ history_table ∷ []; indexes = value_key ∷ history_key ∷ []; views = [] }
