use Rattle.ua_space.proofs.Soundness.{value_sound}
use Rattle.ua_space.proofs.space.Space.set_value.Goals as goal

pub invariant_of-self : goal.invariant_of-self
invariant_of-self c = record {
  sound = rw c.set_value.ensures (value_sound c.self.inside.nodes c.self.inside.triples.items c.args.id.now c.args.value c.self.invariant.sound);
  indexes = c.self.invariant.indexes;
  numbered = c.self.invariant.numbered;
}
