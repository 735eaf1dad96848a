use Rattle.std.proofs.Common.{ℕ, rules, subst, to_z, of_z, w64}
use Rattle.std.proofs.lemmas.Int.{to_z-of_z}
use Rattle.std.proofs.lemmas.List.Sorted.{answers_always}
use Rattle.std.specs.List.Sorted.{IsSearchInRange, IsBinarySearchResult}
use Rattle.std.specs.Ordering.{int_cmp}
use Rattle.collections.proofs.Entries.{searched}
use Rattle.collections.proofs.segment.place.Goals as goal

pub returns : goal.returns
returns g c =
    let facts = c.binary_search_by_key.ensures in
    let range = subst (λ (n : ℕ). IsSearchInRange c.binary_search_by_key.result n) c.args.segment.now.ok.0 facts.bound in
    let read : IsBinarySearchResult (λ e. int_cmp e.0 (to_z w64 (of_z w64 c.args.time))) c.args.segment.now.items c.binary_search_by_key.result =
    facts.position (λ entry. entry.0) (answers_always _ _ _ (λ f a r h called. search rules)) in
    let is = rw (to_z-of_z w64 c.args.time c.ranges.time) at read in
    searched c.args.time c.args.segment.now.items c.requires _ range is
