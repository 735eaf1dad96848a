use Rattle.std.proofs.Common.{◌≤◌, length}
use Rattle.ua_browse.specs.Describing.{described}
use Rattle.ua_browse.specs.Wanted.{IsRight, wanted_from}
use Rattle.ua_browse.proofs.Paging.{IsFront}
use Rattle.ua_browse.proofs.pages.page_from.Given as goal

-- the references so far are the front of those that were left at first, and the rest is still left; the verdicts are right
abbrev pub invariant-loop-place : goal.invariant-loop-place
invariant-loop-place l = record {
  front : IsFront (λ p. described l.space l.asked.result_mask p.reference) (wanted_from l.space l.asked l.start) (wanted_from l.space l.asked l.place) l.references.items;
  few : length l.references.items ≤ l.size;
  right : IsRight l.space.triples l.asked.reference_type_id l.verdicts;
}
