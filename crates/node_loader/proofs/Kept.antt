-- A file of version 1 means what it meant, and the same where its `version` says 2.
use Rattle.std.proofs.Common.{◌≡◌, ℕ, ℤ, pos, negsuc, ◌+◌, nat_le, codes, Bool, true, false, ◌&&◌, List, [], ◌∷◌, ◌++◌, Option, Some, None, IsSome, Result, Ok, Err, if◌then◌else◌, refl, sym, ap, ◌∙◌, inl, inr, arith}
use Rattle.std.proofs.lemmas.Bool.{cases_Bool, and_parts, false≢true}
use Rattle.std.proofs.lemmas.Map.Lookups.{exact_bytes}
use Rattle.std.specs.List.{list_any}
use Rattle.std.specs.Str.{bytes_eq}
use Rattle.std.specs.Cmp.Lexicographic.{slice_cmp}
use Rattle.std.specs.Ordering.{nat_cmp, match_ordering, is_eq}
use Rattle.std.specs.declared.cmp.Ordering.{Ordering}
use Rattle.std.specs.declared.cmp.Ordering.TheVariants.{Less, Equal, Greater}
use Rattle.toml.specs.Data.{Data, integer, Items, no_items, item, Members, no_members, member, get_member, same_key, as_table}
use Rattle.ua_types.specs.Answers.{◌>>=◌}
use Rattle.ua_types.specs.Configuration.{Configuration}
use Rattle.ua_types.specs.declared.node_class.NodeClass.{NodeClass}
use Rattle.ua_types.specs.declared.node_class.NodeClass.TheVariants as classes
use Rattle.ua_types.specs.declared.node_id.NodeId.{NodeId}
use Rattle.ua_types.specs.declared.number_range.NumberRange.{NumberRange}
use Rattle.ua_types.specs.declared.number_range.TheConstants.NumberRange as ranges
use Rattle.ua_types.specs.ValueTypes.{type_number}
use Rattle.ua_types.specs.declared.value_type.ValueType.{ValueType}
use Rattle.ua_types.specs.declared.variant.Variant.{Variant}
use Rattle.ua_space.specs.declared.node.NodeDetails.TheVariants as details
use Rattle.ua_space.specs.declared.node.ValueRank.TheVariants as ranks
use Rattle.ua_space.specs.declared.node.Node.{Node}
use Rattle.ua_space.specs.declared.triple.Triple.{Triple}
use Rattle.ua_space.specs.declared.triple.Part.{Part}
use Rattle.ua_space.specs.declared.triple.Part.TheVariants as part
use Rattle.node_loader.specs.File.{contents_of, entries_of, in_part, nodes_of, parts_of, references_of, setting_of, table_at, Parts}
use Rattle.node_loader.specs.Ids.{id_at, id_or}
use Rattle.node_loader.specs.Keys.{all_keys, boolean_at, integer_at, is_among, list_at, number_at, number_or, only, required_word, up_to, within}
use Rattle.node_loader.specs.Kept.{of_version, VersionOneIsKept, VersionTwoAgrees}
use Rattle.node_loader.specs.Lists.{each}
use Rattle.node_loader.specs.Node.{class_of, common_keys, entry_of, form_of, keys_of, kind_of, node_of, object_of, plain_kind, reference_type_of, rest_of, type_at, variable_node_of, variable_of, variable_type_of, variable_with}
use Rattle.node_loader.specs.Past.{few_pasts, history_of, most_past}
use Rattle.node_loader.specs.Server as server
use Rattle.node_loader.specs.Server.{messages_of, pages_of, server_keys, server_of, sizes_of, tables_of}
use Rattle.node_loader.specs.Value.{value_of}
use Rattle.node_loader.specs.Versions.{IsPartOf}
use Rattle.node_loader.specs.VersionOne.{FirstParts, first_contents_of, first_entries_of, first_entry_of, first_keys_of, first_kind_of, first_node_of, first_nodes_of, first_pages_of, first_parts_of, first_rest_of, first_server_of, first_tables_of, first_variable_node_of, first_variable_of, first_variable_type_of, first_version_of, from_one_to}
use Rattle.node_loader.specs.declared.fault.Cause.{Cause}
use Rattle.node_loader.specs.declared.fault.LoadFault.{LoadFault}
use Rattle.node_loader.specs.declared.file.Loaded.{Loaded}
use Rattle.node_loader.specs.declared.node.Entry.{Entry}
use Rattle.node_loader.specs.declared.node.Kind.{Kind}
use Rattle.node_loader.specs.declared.past.Setting.{Setting}
use Rattle.node_loader.specs.declared.server.Pages.{Pages}
use Rattle.node_loader.specs.declared.server.Tables.{Tables}
use Rattle.node_loader.specs.declared.value.Form.{Form}
use Rattle.node_loader.specs.declared.version.Version.TheVariants.{One, Two}
use Rattle.node_loader.proofs.Ordering.{ok_same, then_ok, without_part}

-- ---- keys that a part doesn't have

absent_step : (known : List (List ℕ)) (key k : List ℕ) (d : Data) (found : Option Data) (o : Ordering) → slice_cmp nat_cmp key k ≡ o → is_among known k ≡ true → is_among known key ≡ false → found ≡ None
    → match_ordering o found (Some d) found ≡ None
absent_step known key k d found Less is here out rest = rest
absent_step known key k d found Equal is here out rest = absurd (false≢true (sym out ∙ ap (is_among known) (exact_bytes key k is) ∙ here))
absent_step known key k d found Greater is here out rest = rest

absent : (known : List (List ℕ)) (key : List ℕ) (ms : Members) → all_keys (is_among known) ms ≡ true → is_among known key ≡ false → get_member key ms ≡ None
absent known key no_members all out = refl
absent known key (member k d ms) all out =
    let both = and_parts (is_among known k) (all_keys (is_among known) ms) all in
    absent_step known key k d (get_member key ms) (slice_cmp nat_cmp key k) refl both.0 out (absent known key ms both.1 out)

all_of_only : (known : List (List ℕ)) (ms : Members) → only known ms ≡ Ok tt → all_keys (is_among known) ms ≡ true
all_of_only known ms e =
    elim (cases_Bool (all_keys (is_among known) ms)) [
      | inl all ↦ all
      | inr other ↦ absurd (let none : Err _ ≡ Ok tt = rw other at e in cc)
    ]

not_there : (class : NodeClass) (key : List ℕ) (ms : Members) → only (first_keys_of class) ms ≡ Ok tt → is_among (first_keys_of class) key ≡ false → get_member key ms ≡ None
not_there class key ms e out = absent (first_keys_of class) key ms (all_of_only (first_keys_of class) ms e) out

no_list : (ms : Members) → get_member (codes "list") ms ≡ None → boolean_at (codes "list") ms ≡ Ok false
unfolding boolean_at
no_list ms none = rw none refl

no_history : (ms : Members) → get_member (codes "history") ms ≡ None → list_at (codes "history") ms ≡ Ok no_items
unfolding list_at
no_history ms none = rw none refl

at_least_none : (n : ℕ) → nat_le 0 n ≡ true
at_least_none n = grind arith

none_given : (setting : Setting) (form : Form) (historizing : Bool) → few_pasts setting form historizing no_items ≡ Ok []
none_given setting form historizing = rw (at_least_none (most_past setting historizing)) refl

-- ---- a node

with_variable : (setting : Setting) (form : Form) (definition : NodeId) (value : Result Variant Cause) (access : Result ℕ Cause) (historizing : Result Bool Cause)
    → ((value >>= λ v. access >>= λ a. historizing >>= λ h. Ok (variable_with form v setting.start a h)) >>= λ variable.
    few_pasts setting form variable.historizing no_items >>= λ history. Ok (let k : Kind = record { details = details.Variable variable; definition = Some definition; history = history } in k))
    ≡ ((value >>= λ v. access >>= λ a. historizing >>= λ h. Ok (variable_with form v setting.start a h)) >>= λ variable. Ok (plain_kind (details.Variable variable) (Some definition)))
with_variable setting form definition (Err c) access historizing = refl
with_variable setting form definition (Ok v) (Err c) historizing = refl
with_variable setting form definition (Ok v) (Ok a) (Err c) = refl
with_variable setting form definition (Ok v) (Ok a) (Ok h) = rw (none_given setting form h) refl

with_type : (setting : Setting) (ms : Members) (definition : NodeId) (value_type : Result ValueType Cause)
    → ((value_type >>= λ t. Ok (let f : Form = record { value_type = t; rank = ranks.Scalar } in f)) >>= λ form.
    variable_of setting form ms >>= λ variable. few_pasts setting form variable.historizing no_items >>= λ history. Ok (let k : Kind = record { details = details.Variable variable; definition = Some definition; history = history } in k))
    ≡ ((value_type >>= λ t. value_of t setting.highest ms >>= λ v. number_at (codes "access") 1 (up_to 15) ms >>= λ a. boolean_at (codes "historizing") ms >>= λ h.
    Ok (variable_with (record { value_type = t; rank = ranks.Scalar }) v setting.start a h)) >>= λ variable. Ok (plain_kind (details.Variable variable) (Some definition)))
unfolding variable_of
with_type setting ms definition (Err c) = refl
with_type setting ms definition (Ok t) =
    with_variable setting (record { value_type = t; rank = ranks.Scalar }) definition (value_of t setting.highest ms) (number_at (codes "access") 1 (up_to 15) ms) (boolean_at (codes "historizing") ms)

with_definition : (setting : Setting) (ms : Members) (definition : Result NodeId Cause)
    → (definition >>= λ d. (type_at ms >>= λ t. Ok (let f : Form = record { value_type = t; rank = ranks.Scalar } in f)) >>= λ form.
    variable_of setting form ms >>= λ variable. few_pasts setting form variable.historizing no_items >>= λ history. Ok (let k : Kind = record { details = details.Variable variable; definition = Some d; history = history } in k))
    ≡ (definition >>= λ d. first_variable_of setting ms >>= λ variable. Ok (plain_kind (details.Variable variable) (Some d)))
unfolding first_variable_of
with_definition setting ms (Err c) = refl
with_definition setting ms (Ok d) = with_type setting ms d (type_at ms)

variable_same : (setting : Setting) (ms : Members) → get_member (codes "list") ms ≡ None → get_member (codes "history") ms ≡ None → variable_node_of setting ms ≡ first_variable_node_of setting ms
unfolding variable_node_of first_variable_node_of form_of history_of
variable_same setting ms list history = rw (no_list ms list, no_history ms history) (with_definition setting ms (id_or setting.highest (codes "definition") 63 ms))

type_same : (value_type : Result ValueType Cause) (is_abstract : Result Bool Cause)
    → ((value_type >>= λ t. Ok (let f : Form = record { value_type = t; rank = ranks.Scalar } in f)) >>= λ form. is_abstract >>= λ a. Ok (plain_kind (details.VariableType (type_number form.value_type) form.rank a) None))
    ≡ (value_type >>= λ t. is_abstract >>= λ a. Ok (plain_kind (details.VariableType (type_number t) ranks.Scalar a) None))
type_same (Err c) is_abstract = refl
type_same (Ok t) is_abstract = refl

variable_type_same : (ms : Members) → get_member (codes "list") ms ≡ None → variable_type_of ms ≡ first_variable_type_of ms
unfolding variable_type_of first_variable_type_of form_of
variable_type_same ms list = rw (no_list ms list) (type_same (type_at ms) (boolean_at (codes "abstract") ms))

kind_same : (class : NodeClass) (setting : Setting) (ms : Members) → only (first_keys_of class) ms ≡ Ok tt → kind_of class setting ms ≡ first_kind_of class setting ms
kind_same classes.Object setting ms known = refl
kind_same classes.Variable setting ms known = variable_same setting ms (not_there classes.Variable (codes "list") ms known refl) (not_there classes.Variable (codes "history") ms known refl)
kind_same classes.ObjectType setting ms known = refl
kind_same classes.VariableType setting ms known = variable_type_same ms (not_there classes.VariableType (codes "list") ms known refl)
kind_same classes.ReferenceType setting ms known = refl
kind_same classes.DataType setting ms known = refl

same_keys : (class : NodeClass) → keys_of One class ≡ first_keys_of class
same_keys classes.Object = refl
same_keys classes.Variable = refl
same_keys classes.ObjectType = refl
same_keys classes.VariableType = refl
same_keys classes.ReferenceType = refl
same_keys classes.DataType = refl

rest_same : (config : Configuration) (p : Part) (id : NodeId) (class : NodeClass) (ms : Members) → rest_of (setting_of One config) p id class ms ≡ first_rest_of (setting_of One config) p id class ms
unfolding rest_of first_rest_of
rest_same config p id class ms = by (only (first_keys_of class) ms) refl
  where
    by : (r : Result (Unit {0}) Cause) → only (first_keys_of class) ms ≡ r → rest_of (setting_of One config) p id class ms ≡ first_rest_of (setting_of One config) p id class ms
    by (Err c) is = rw (same_keys class, is) refl
    by (Ok x) is = rw (same_keys class, is, kind_same class (setting_of One config) ms is) refl

node_same : (config : Configuration) (p : Part) (ms : Members) (id : Result NodeId Cause) (word : Result (List ℕ) Cause)
    → (id >>= λ i. word >>= λ w. class_of w >>= λ class. rest_of (setting_of One config) p i class ms) ≡ (id >>= λ i. word >>= λ w. class_of w >>= λ class. first_rest_of (setting_of One config) p i class ms)
node_same config p ms (Err c) word = refl
node_same config p ms (Ok i) (Err c) = refl
node_same config p ms (Ok i) (Ok w) = by (class_of w)
  where
    by : (class : Result NodeClass Cause) → (class >>= λ k. rest_of (setting_of One config) p i k ms) ≡ (class >>= λ k. first_rest_of (setting_of One config) p i k ms)
    by (Err c) = refl
    by (Ok k) = rest_same config p i k ms

entry_same : (config : Configuration) (p : Part) (ms : Option Members) → entry_of (setting_of One config) p ms ≡ first_entry_of (setting_of One config) p ms
unfolding node_of first_node_of
entry_same config p None = refl
entry_same config p (Some ms) = node_same config p ms (id_at (setting_of One config).highest (codes "id") ms) (required_word (codes "class") ms)

each_same : {A F : Type 0} (f g : ℕ → Data → Result A F) (n : ℕ) (ds : Items) → ((k : ℕ) (d : Data) → f k d ≡ g k d) → each f n ds ≡ each g n ds
each_same f g n no_items same = refl
each_same f g n (item d ds) same = rw (same n d, each_same f g (n + 1) ds same) refl

nodes_same : (config : Configuration) (ds : Items) → nodes_of (setting_of One config) ds ≡ first_nodes_of (setting_of One config) ds
unfolding nodes_of first_nodes_of
nodes_same config ds =
    let same : entries_of (setting_of One config) ds ≡ first_entries_of (setting_of One config) ds =
    each_same (λ n d. in_part (part.Node n) (entry_of (setting_of One config) (part.Node n) (as_table d))) (λ n d. in_part (part.Node n) (first_entry_of (setting_of One config) (part.Node n) (as_table d))) 1 ds
    (λ k d. ap (in_part (part.Node k)) (entry_same config (part.Node k) (as_table d))) in
    rw same refl

-- ---- a file of version 1

server_same : (ms : Members) → server_of One ms ≡ first_server_of ms
unfolding server_of first_server_of tables_of first_tables_of pages_of first_pages_of
server_same ms = refl

with_config : (nodes references : Items) (config : Result Configuration LoadFault)
    → (config >>= λ c. nodes_of (setting_of One c) nodes >>= λ ns. references_of (setting_of One c).highest references >>= λ rs. Ok (let l : Loaded = record { config = c; nodes = ns.0; triples = ns.1 ++ rs } in l))
    ≡ (config >>= λ c. first_nodes_of (setting_of One c) nodes >>= λ ns. references_of (setting_of One c).highest references >>= λ rs. Ok (let l : Loaded = record { config = c; nodes = ns.0; triples = ns.1 ++ rs } in l))
with_config nodes references (Err f) = refl
with_config nodes references (Ok c) = rw (nodes_same c nodes) refl

with_parts : (known : Result (Unit {0}) Cause) (server : Result Members Cause) (nodes references : Result Items Cause)
    → (in_part part.File (known >>= λ k. server >>= λ s. nodes >>= λ ns. references >>= λ rs. Ok (let p : Parts = record { version = One; server = s; nodes = ns; references = rs } in p)) >>= λ parts.
    in_part part.Server (server_of parts.version parts.server) >>= λ c. nodes_of (setting_of parts.version c) parts.nodes >>= λ ns. references_of (setting_of parts.version c).highest parts.references >>= λ rs.
    Ok (let l : Loaded = record { config = c; nodes = ns.0; triples = ns.1 ++ rs } in l))
    ≡ (in_part part.File (known >>= λ k. server >>= λ s. nodes >>= λ ns. references >>= λ rs. Ok (let p : FirstParts = record { server = s; nodes = ns; references = rs } in p)) >>= λ parts.
    in_part part.Server (first_server_of parts.server) >>= λ c. first_nodes_of (setting_of One c) parts.nodes >>= λ ns. references_of (setting_of One c).highest parts.references >>= λ rs.
    Ok (let l : Loaded = record { config = c; nodes = ns.0; triples = ns.1 ++ rs } in l))
with_parts (Err c) server nodes references = refl
with_parts (Ok k) (Err c) nodes references = refl
with_parts (Ok k) (Ok s) (Err c) references = refl
with_parts (Ok k) (Ok s) (Ok ns) (Err c) = refl
with_parts (Ok k) (Ok s) (Ok ns) (Ok rs) = rw (server_same s) (with_config ns rs (in_part part.Server (first_server_of s)))

abbrev file_keys : List (List ℕ)
file_keys = codes "version" ∷ codes "server" ∷ codes "node" ∷ codes "reference" ∷ []

pub version_one_kept : VersionOneIsKept
unfolding contents_of first_contents_of parts_of first_parts_of
version_one_kept ms version = rw version (with_parts (only file_keys ms) (table_at (codes "server") ms) (list_at (codes "node") ms) (list_at (codes "reference") ms))

-- ---- the same as a file of version 2

-- a wider range
wider_within : (range wider : NumberRange) (n m : ℕ) → IsPartOf range wider → within range (pos n) ≡ Ok m → within wider (pos n) ≡ Ok m
wider_within range wider n m part e =
    elim (cases_Bool (nat_le range.least n && nat_le n range.most)) [
      | inr out ↦ absurd (let none : Err _ ≡ Ok m = rw out at e in cc)
      | inl inside ↦
          let both = and_parts (nat_le range.least n) (nat_le n range.most) inside in
          let least : nat_le wider.least n ≡ true = grind (arith, part.0, both.0) in
          let most : nat_le n wider.most ≡ true = grind (arith, part.1, both.1) in
          let same : Ok n ≡ Ok m = rw inside at e in
          rw (least, most) same
    ]

number_wider : (key : List ℕ) (fallback : ℕ) (range wider : NumberRange) (ms : Members) (n : ℕ) → IsPartOf range wider → number_at key fallback range ms ≡ Ok n → number_at key fallback wider ms ≡ Ok n
unfolding number_at
number_wider key fallback range wider ms n part e = by (integer_at key ms) e
  where
    by : (r : Result (Option ℤ) Cause) → (r >>= λ found. number_or fallback range found) ≡ Ok n → (r >>= λ found. number_or fallback wider found) ≡ Ok n
    by (Err c) e = absurd cc
    by (Ok None) e = e
    by (Ok (Some (pos z))) e = wider_within range wider z n part e
    by (Ok (Some (negsuc z))) e = absurd cc

-- steps that give what they gave
then_as : {A B C F : Type 0} (r s : Result A F) (f : A → Result B F) (g : A → Result C F) (y : B) (z : C) → ((x : A) → r ≡ Ok x → s ≡ Ok x) → ((x : A) → f x ≡ Ok y → g x ≡ Ok z) → (r >>= f) ≡ Ok y → (s >>= g) ≡ Ok z
then_as (Ok x) s f g y z first rest e = rw (first x refl) (rest x e)
then_as (Err c) s f g y z first rest e = absurd cc

then_on : {A B F : Type 0} (r : Result A F) (f g : A → Result B F) (y : B) → ((x : A) → f x ≡ Ok y → g x ≡ Ok y) → (r >>= f) ≡ Ok y → (r >>= g) ≡ Ok y
then_on r f g y rest e = then_as r r f g y y (λ x h. h) rest e

tables_kept : (ms : Members) (tables : Tables) → first_tables_of ms ≡ Ok tables → tables_of Two ms ≡ Ok tables
unfolding tables_of first_tables_of
tables_kept ms tables e =
    then_as (number_at (codes "connections") 100 (from_one_to 10000) ms) (number_at (codes "connections") 100 ranges.CONNECTIONS ms) _ _ tables tables
    (λ n. number_wider (codes "connections") 100 (from_one_to 10000) ranges.CONNECTIONS ms n (omega arith, omega arith))
    (λ connections. then_as (number_at (codes "sessions") 100 (from_one_to 10000) ms) (number_at (codes "sessions") 100 ranges.SESSIONS ms) _ _ tables tables
    (λ n. number_wider (codes "sessions") 100 (from_one_to 10000) ranges.SESSIONS ms n (omega arith, omega arith))
    (λ sessions. then_on (number_at (codes "subscriptions") 100 (from_one_to 100000) ms) _ _ tables
    (λ subscriptions. then_on (number_at (codes "items") 1000 (from_one_to 100000) ms) _ _ tables
    (λ items. then_as (number_at (codes "queue") 100 (from_one_to 100000) ms) (number_at (codes "queue") 100 ranges.QUEUE ms) _ _ tables tables
    (λ n. number_wider (codes "queue") 100 (from_one_to 100000) ranges.QUEUE ms n (omega arith, omega arith))
    (λ queue h. h))))) e

pages_kept : (ms : Members) (pages : Pages) → first_pages_of ms ≡ Ok pages → pages_of Two ms ≡ Ok pages
unfolding pages_of first_pages_of
pages_kept ms pages e =
    then_on (number_at (codes "references") 1000 (from_one_to 100000) ms) _ _ pages
    (λ references. then_on (number_at (codes "operations") 1000 (from_one_to 100000) ms) _ _ pages
    (λ operations. then_on (number_at (codes "history_page") 1000 (from_one_to 100000) ms) _ _ pages
    (λ history_page. then_as (number_at (codes "history") 10000 (from_one_to 1000000) ms) (number_at (codes "history") 10000 ranges.HISTORY ms) _ _ pages pages
    (λ n. number_wider (codes "history") 10000 (from_one_to 1000000) ranges.HISTORY ms n (omega arith, omega arith))
    (λ history h. h)))) e

server_kept : (ms : Members) (config : Configuration) → first_server_of ms ≡ Ok config → server_of Two ms ≡ Ok config
unfolding server_of first_server_of
server_kept ms config e =
    then_on (only server_keys ms) _ _ config
    (λ known. then_on (server.names_of ms) _ _ config
    (λ names. then_on (number_at (codes "start") 0 (up_to 9223372036854775807) ms) _ _ config
    (λ start. then_on (sizes_of ms) _ _ config
    (λ sizes. then_as (first_tables_of ms) (tables_of Two ms) _ _ config config (tables_kept ms)
    (λ tables. then_on (messages_of ms) _ _ config
    (λ messages. then_as (first_pages_of ms) (pages_of Two ms) _ _ config config (pages_kept ms)
    (λ pages h. h))))))) e

-- more keys are known
more_known : (few more : List (List ℕ)) (ms : Members) → ((key : List ℕ) → is_among few key ≡ true → is_among more key ≡ true) → all_keys (is_among few) ms ≡ true → all_keys (is_among more) ms ≡ true
more_known few more no_members wider all = refl
more_known few more (member k d ms) wider all =
    let both = and_parts (is_among few k) (all_keys (is_among few) ms) all in
    rw (wider k both.0, more_known few more ms wider both.1) refl

some_of : {X : Type 0} (p : X → Bool) (more back : List X) → list_any p back ≡ true → list_any p (more ++ back) ≡ true
some_of p [] back some = some
some_of p (x ∷ more) back some =
    elim (cases_Bool (p x)) [ inl here ↦ rw here refl | inr other ↦ rw other (some_of p more back some) ]

-- a list with more in between
some_among : {X : Type 0} (p : X → Bool) (front more back : List X) → list_any p (front ++ back) ≡ true → list_any p (front ++ (more ++ back)) ≡ true
some_among p [] more back some = some_of p more back some
some_among p (x ∷ front) more back some =
    elim (cases_Bool (p x)) [
      | inl here ↦ rw here refl
      | inr other ↦ let rest : list_any p (front ++ back) ≡ true = rw other at some in rw other (some_among p front more back rest)
    ]

all_kept : (class : NodeClass) (key : List ℕ) → is_among (first_keys_of class) key ≡ true → is_among (keys_of Two class) key ≡ true
all_kept classes.Object key known = known
all_kept classes.Variable key known =
    let front = common_keys (codes "definition" ∷ codes "type" ∷ []) in
    let back = codes "value" ∷ codes "access" ∷ codes "historizing" ∷ [] in
    let p : List ℕ → Bool = λ k. bytes_eq k key in
    some_among p (front ++ codes "list" ∷ back) (codes "history" ∷ []) [] (some_among p front (codes "list" ∷ []) back known)
all_kept classes.ObjectType key known = known
all_kept classes.VariableType key known =
    let p : List ℕ → Bool = λ k. bytes_eq k key in
    some_among p (common_keys (codes "type" ∷ [])) (codes "list" ∷ []) (codes "abstract" ∷ []) known
all_kept classes.ReferenceType key known = known
all_kept classes.DataType key known = known

still_known : (class : NodeClass) (ms : Members) → only (first_keys_of class) ms ≡ Ok tt → only (keys_of Two class) ms ≡ Ok tt
still_known class ms known = rw (more_known (first_keys_of class) (keys_of Two class) ms (all_kept class) (all_of_only (first_keys_of class) ms known)) refl

kind_of_either : (class : NodeClass) (config : Configuration) (ms : Members) → first_kind_of class (setting_of Two config) ms ≡ first_kind_of class (setting_of One config) ms
unfolding object_of first_variable_node_of first_variable_of reference_type_of
kind_of_either classes.Object config ms = refl
kind_of_either classes.Variable config ms = refl
kind_of_either classes.ObjectType config ms = refl
kind_of_either classes.VariableType config ms = refl
kind_of_either classes.ReferenceType config ms = refl
kind_of_either classes.DataType config ms = refl

rest_kept : (config : Configuration) (p : Part) (id : NodeId) (class : NodeClass) (ms : Members) (entry : Entry) → first_rest_of (setting_of One config) p id class ms ≡ Ok entry → rest_of (setting_of Two config) p id class ms ≡ Ok entry
unfolding rest_of first_rest_of
rest_kept config p id class ms entry e =
    let known = (then_ok (only (first_keys_of class) ms) _ entry e).1 in
    let same : rest_of (setting_of Two config) p id class ms ≡ first_rest_of (setting_of One config) p id class ms =
    rw (still_known class ms known, known, kind_same class (setting_of Two config) ms known, kind_of_either class config ms) refl in
    same ∙ e

entry_kept : (config : Configuration) (p : Part) (ms : Option Members) (entry : Entry) → first_entry_of (setting_of One config) p ms ≡ Ok entry → entry_of (setting_of Two config) p ms ≡ Ok entry
unfolding node_of first_node_of
entry_kept config p None entry e = absurd cc
entry_kept config p (Some ms) entry e =
    then_on (id_at (setting_of One config).highest (codes "id") ms) _ _ entry
    (λ id. then_on (required_word (codes "class") ms) _ _ entry
    (λ word. then_on (class_of word) _ _ entry
    (λ class. rest_kept config p id class ms entry))) e

each_kept : {A F : Type 0} (f g : ℕ → Data → Result A F) (n : ℕ) (ds : Items) (xs : List A) → ((k : ℕ) (d : Data) (x : A) → f k d ≡ Ok x → g k d ≡ Ok x) → each f n ds ≡ Ok xs → each g n ds ≡ Ok xs
each_kept f g n no_items xs kept e = e
each_kept {A} {F} f g n (item d ds) xs kept e =
    let first = then_ok (f n d) (λ x. each f (n + 1) ds >>= λ ys. Ok (x ∷ ys)) xs e in
    let rest = then_ok (each f (n + 1) ds) (λ ys. Ok (first.0 ∷ ys)) xs first.2 in
    rw (kept n d first.0 first.1, each_kept f g (n + 1) ds rest.0 kept rest.1) rest.2

in_part_kept : {A : Type 0} (p : Part) (r s : Result A Cause) (x : A) → ((y : A) → r ≡ Ok y → s ≡ Ok y) → in_part p r ≡ Ok x → in_part p s ≡ Ok x
in_part_kept p (Ok y) s x kept e = rw (kept y refl) e
in_part_kept p (Err c) s x kept e = absurd cc

nodes_kept : (config : Configuration) (ds : Items) (nodes : List Node × List Triple) → first_nodes_of (setting_of One config) ds ≡ Ok nodes → nodes_of (setting_of Two config) ds ≡ Ok nodes
unfolding nodes_of first_nodes_of
nodes_kept config ds nodes e =
    let entries = then_ok (first_entries_of (setting_of One config) ds) _ nodes e in
    let kept : entries_of (setting_of Two config) ds ≡ Ok entries.0 =
    each_kept (λ n d. in_part (part.Node n) (first_entry_of (setting_of One config) (part.Node n) (as_table d))) (λ n d. in_part (part.Node n) (entry_of (setting_of Two config) (part.Node n) (as_table d))) 1 ds entries.0
    (λ k d x. in_part_kept (part.Node k) (first_entry_of (setting_of One config) (part.Node k) (as_table d)) (entry_of (setting_of Two config) (part.Node k) (as_table d)) x (λ y. entry_kept config (part.Node k) (as_table d) y))
    entries.1 in
    rw kept entries.2

-- the table with another version
keys_kept : (known : List ℕ → Bool) (n : ℕ) (ms : Members) → all_keys known (of_version n ms) ≡ all_keys known ms
keys_kept known n no_members = refl
keys_kept known n (member k d ms) = ap (λ b. known k && b) (keys_kept known n ms)

member_step : (n : ℕ) (key k : List ℕ) (d : Data) (found other : Option Data) (o : Ordering) → slice_cmp nat_cmp key k ≡ o → same_key (codes "version") key ≡ false → found ≡ other
    → match_ordering o found (Some (if same_key (codes "version") k then integer (pos n) else d)) found ≡ match_ordering o other (Some d) other
member_step n key k d found other Less is apart same = same
member_step n key k d found other Equal is apart same =
    let none : same_key (codes "version") k ≡ false = ap (same_key (codes "version")) (sym (exact_bytes key k is)) ∙ apart in
    rw none refl
member_step n key k d found other Greater is apart same = same

member_kept : (n : ℕ) (key : List ℕ) (ms : Members) → same_key (codes "version") key ≡ false → get_member key (of_version n ms) ≡ get_member key ms
member_kept n key no_members apart = refl
member_kept n key (member k d ms) apart = member_step n key k d (get_member key (of_version n ms)) (get_member key ms) (slice_cmp nat_cmp key k) refl apart (member_kept n key ms apart)

version_step : (n : ℕ) (k : List ℕ) (d : Data) (found other : Option Data) (o : Ordering) → slice_cmp nat_cmp (codes "version") k ≡ o → (IsSome other → found ≡ Some (integer (pos n))) → IsSome (match_ordering o other (Some d) other)
    → match_ordering o found (Some (if same_key (codes "version") k then integer (pos n) else d)) found ≡ Some (integer (pos n))
version_step n k d found other Less is later there = later there
version_step n k d found other Equal is later there = let same : same_key (codes "version") k ≡ true = ap is_eq is in rw same refl
version_step n k d found other Greater is later there = later there

version_there : (n : ℕ) (ms : Members) → IsSome (get_member (codes "version") ms) → get_member (codes "version") (of_version n ms) ≡ Some (integer (pos n))
version_there n no_members there = absurd (false≢true there)
version_there n (member k d ms) there = version_step n k d (get_member (codes "version") (of_version n ms)) (get_member (codes "version") ms) (slice_cmp nat_cmp (codes "version") k) refl (version_there n ms) there

has_version : (found : Option Data) → first_version_of found ≡ Ok tt → IsSome found
has_version None e = absurd cc
has_version (Some d) e = refl

abbrev of_second : FirstParts → Parts
of_second p = record { version = Two; server = p.server; nodes = p.nodes; references = p.references }

parts_kept : (ms : Members) (parts : FirstParts) → first_parts_of ms ≡ Ok parts → parts_of (of_version 2 ms) ≡ Ok (of_second parts)
unfolding parts_of first_parts_of table_at list_at
parts_kept ms parts e =
    let version = then_ok (first_version_of (get_member (codes "version") ms)) _ parts e in
    rw (
      version_there 2 ms (has_version (get_member (codes "version") ms) version.1),
      keys_kept (is_among file_keys) 2 ms,
      member_kept 2 (codes "server") ms refl,
      member_kept 2 (codes "node") ms refl,
      member_kept 2 (codes "reference") ms refl,
    )
    (then_as (only file_keys ms) (only file_keys ms) _ _ parts (of_second parts) (λ x h. h)
    (λ known. then_as (table_at (codes "server") ms) (table_at (codes "server") ms) _ _ parts (of_second parts) (λ x h. h)
    (λ server. then_as (list_at (codes "node") ms) (list_at (codes "node") ms) _ _ parts (of_second parts) (λ x h. h)
    (λ nodes. then_as (list_at (codes "reference") ms) (list_at (codes "reference") ms) _ _ parts (of_second parts) (λ x h. h)
    (λ references is.
    let same = ok_same {A = FirstParts} {F = Cause} (record { server = server; nodes = nodes; references = references }) parts is in
    ap (λ (p : FirstParts). Ok (of_second p)) same)))) version.2)

pub version_two_agrees : VersionTwoAgrees
unfolding contents_of first_contents_of
version_two_agrees ms loaded e =
    let parts = then_ok (in_part part.File (first_parts_of ms)) _ loaded e in
    let config = then_ok (in_part part.Server (first_server_of parts.0.server)) _ loaded parts.2 in
    let nodes = then_ok (first_nodes_of (setting_of One config.0) parts.0.nodes) _ loaded config.2 in
    let all = parts_kept ms parts.0 (without_part part.File (first_parts_of ms) parts.0 parts.1) in
    let server = server_kept parts.0.server config.0 (without_part part.Server (first_server_of parts.0.server) config.0 config.1) in
    rw (all, server, nodes_kept config.0 parts.0.nodes nodes.0 nodes.1) nodes.2
