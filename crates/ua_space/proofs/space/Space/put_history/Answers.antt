use Rattle.ua_space.proofs.Emptying.{emptied_sound}
use Rattle.ua_space.proofs.space.Space.put_history.Goals as goal

pub invariant_of-self : goal.invariant_of-self
invariant_of-self c = record {
  sound = rw c.put_history.ensures (emptied_sound c.args.values c.self.inside.nodes c.self.inside.triples.items c.args.place c.self.invariant.sound);
  indexes = c.self.invariant.indexes;
  numbered = c.self.invariant.numbered;
}
