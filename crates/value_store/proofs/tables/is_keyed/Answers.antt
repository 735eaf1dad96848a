use Rattle.std.proofs.Common.{rules, ◌≡◌, None, IsTrue, nat_eq}
use Rattle.std.proofs.lemmas.Bool.{and_parts}
use Rattle.value_store.proofs.tables.is_keyed.Goals as goal

pub returns-clause-keyed : goal.returns-clause-keyed
returns-clause-keyed c all =
    let f = and_parts _ _ all in
    let e = and_parts _ _ f.0 in
    let d = and_parts _ _ e.0 in
    let b = and_parts _ _ d.0 in
    let a = and_parts _ _ b.0 in
    let name : c.args.table.now.name ≡ c.args.name.now = (let named : IsTrue c.eq-named.result = a.0 in search rules) in
    let tree : c.args.table.now.tree ≡ c.args.tree = (let numbered : IsTrue (nat_eq c.args.table.now.tree c.args.tree) = a.1 in search rules) in
    let key : c.args.table.now.key ≡ None = (let none : IsTrue c.is_none-rowid.result = b.1 in search rules) in
    let primary : c.args.table.now.primary ≡ c.args.places.now = (let same : IsTrue c.eq-primary.result = d.1 in search rules) in
    (name, tree, key, primary, c.has_key-unique.ensures.key e.1, c.is_ordered-ordered.ensures.order f.1)
