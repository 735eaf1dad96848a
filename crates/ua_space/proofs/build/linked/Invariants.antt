use Rattle.std.proofs.Common.{◌≡◌, [], take, drop}
use Rattle.std.specs.List.{list_any}
use Rattle.std.specs.Ordering.{is_eq}
use Rattle.ua_space.specs.declared.triple.Triple.{Triple}
use Rattle.ua_space.specs.TripleOrder.{same_triple, triple_cmp}
use Rattle.ua_space.specs.Build.{linked}
use Rattle.ua_space.proofs.build.linked.Given as goal

abbrev pub invariant-loop-triple : goal.invariant-loop-triple
invariant-loop-triple l =
    (linked l.nodes.entries (take l.triple-index l.triples) (drop l.triple-index l.triples) ≡ linked l.nodes.entries [] l.triples)
    × ((t : Triple) → list_any (λ k. is_eq (triple_cmp t k.now)) l.seen.keys ≡ list_any (same_triple t) (take l.triple-index l.triples))
