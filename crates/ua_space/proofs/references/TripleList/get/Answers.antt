use Rattle.std.proofs.Common.{Some, sym, ◌∙◌, ap}
use Rattle.std.specs.List.{slice_get}
use Rattle.ua_space.proofs.Indexing.{pick_some, pick_none}
use Rattle.ua_space.proofs.references.TripleList.get.Goals as goal

pub returns-in-None : goal.returns-in-None
returns-in-None c =
    pick_none c.self.inside.triples.now c.self.inside.places.now c.args.place c.self.invariant c.in-None.ensures.lookup.3 ∙ ap (λ xs. slice_get xs c.args.place) c.self.view_is

pub returns-in-Some : goal.returns-in-Some
returns-in-Some c =
    ap Some (sym c.index-self-i.is)
    ∙ pick_some c.self.inside.triples.now c.self.inside.places.now c.args.place c.in-Some.i.now c.index-self-i.result c.self.invariant c.in-Some.ensures.lookup.3.0 c.in-Some.ensures.lookup.1 c.index-self-i.is
    ∙ ap (λ xs. slice_get xs c.args.place) c.self.view_is
