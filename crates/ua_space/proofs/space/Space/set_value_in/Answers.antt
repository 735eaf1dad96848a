use Rattle.std.proofs.Common.{◌≡◌, ◌∙◌, ap}
use Rattle.ua_space.specs.NodePlaces.{with_value_in}
use Rattle.ua_space.specs.Values.{with_value}
use Rattle.ua_space.proofs.Placing.{takes_there, valued_there}
use Rattle.ua_space.proofs.Soundness.{value_sound}
use Rattle.ua_space.proofs.space.Space.set_value_in.Goals as goal

pub set_value_in-requires : goal.set_value_in-requires
set_value_in-requires c =
    let nodes = ap (λ s. s.nodes) c.self.view_is in
    rw nodes (takes_there c.requires.0 c.args.self.now.nodes c.args.place c.args.value c.requires.1 c.requires.2)

pub invariant_of-self : goal.invariant_of-self
invariant_of-self c =
    let nodes = ap (λ s. s.nodes) c.self.view_is in
    let there : with_value_in c.args.place c.args.value c.self.inside.nodes ≡ with_value c.requires.0 c.args.value c.self.inside.nodes = rw nodes (valued_there c.requires.0 c.args.value c.args.self.now.nodes c.args.place c.requires.1) in
    record {
      sound = rw (c.set_value_in.ensures, there) (value_sound c.self.inside.nodes c.self.inside.triples.items c.requires.0 c.args.value c.self.invariant.sound);
      indexes = c.self.invariant.indexes;
      numbered = c.self.invariant.numbered;
    }

pub returns-clause-nodes : goal.returns-clause-nodes
returns-clause-nodes c = λ id is.
    let nodes = ap (λ s. s.nodes) c.self.view_is in
    (rw nodes at c.set_value_in.ensures) ∙ valued_there id c.args.value c.args.self.now.nodes c.args.place is
