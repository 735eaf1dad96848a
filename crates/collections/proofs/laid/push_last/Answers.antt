use Rattle.std.proofs.Common.{◌∙◌, Result, Ok, Err, OnErr, ap, subst, sym, w64}
use Rattle.std.proofs.lemmas.Int.{to_z-of_z}
use Rattle.collections.proofs.Ends.{some_there, entry_at, room_there, last_kept, last_extended}
use Rattle.collections.specs.Laid.{joined, IsLaid}
use Rattle.collections.proofs.laid.push_last.Goals as goal

at_err : {A E : Type 0} (r : Result A E) (P : Type 0) → P → OnErr r P
at_err (Ok x) P p = tt
at_err (Err e) P p = p

pub unreachable-requires : goal.unreachable-requires
unreachable-requires g c =
    let some = some_there c.args.segments.now.entries c.requires.room in
    let there = c.in_default.ensures.variant.1 some in
    cc

pub returns-in_err-push_back-clause-err : goal.returns-in_err-push_back-clause-err
returns-in_err-push_back-clause-err g c =
    let q = c.into_mut.result.now in
    let p = c.push_back.new.self in
    let at = entry_at c.args.segments.now.entries _ _ q c.in-Some.ensures.key (sym c.into_mut.ensures.value ∙ c.in-Some.ensures.value.0) in
    let written = ap (λ m. m.entries) (c.segments-3-1.given.1 (sym c.in-Some.ensures.same_map)) ∙ c.in-Some.ensures.update.1 p in
    let done = last_kept c.args.segments.now.entries _ q p at c.requires.laid c.in_err-push_back.ensures.items in
    at_err c.from_residual.result _ (ap joined written ∙ done.same)

pub returns-in_err-push_back-clause-laid : goal.returns-in_err-push_back-clause-laid
returns-in_err-push_back-clause-laid g c =
    let q = c.into_mut.result.now in
    let p = c.push_back.new.self in
    let at = entry_at c.args.segments.now.entries _ _ q c.in-Some.ensures.key (sym c.into_mut.ensures.value ∙ c.in-Some.ensures.value.0) in
    let written = ap (λ m. m.entries) (c.segments-3-1.given.1 (sym c.in-Some.ensures.same_map)) ∙ c.in-Some.ensures.update.1 p in
    let done = last_kept c.args.segments.now.entries _ q p at c.requires.laid c.in_err-push_back.ensures.items in
    subst IsLaid (sym written) done.laid

pub returns-clause-ok : goal.returns-clause-ok
returns-clause-ok g c =
    let q = c.into_mut.result.now in
    let p = c.push_back.new.self in
    let at = entry_at c.args.segments.now.entries _ _ q c.in-Some.ensures.key (sym c.into_mut.ensures.value ∙ c.in-Some.ensures.value.0) in
    let written = ap (λ m. m.entries) (c.segments-3-1.given.1 (sym c.in-Some.ensures.same_map)) ∙ c.in-Some.ensures.update.1 p in
    let items = rw (to_z-of_z w64 c.args.time c.ranges.time) at c.in_ok-push_back.ensures.items in
    let few = room_there c.args.segments.now.entries _ at c.requires.room in
    let done = last_extended c.args.segments.now.entries _ q p at c.requires.laid c.args.time c.args.value c.requires.past few items in
    ap joined written ∙ done.ok

pub returns-clause-laid : goal.returns-clause-laid
returns-clause-laid g c =
    let q = c.into_mut.result.now in
    let p = c.push_back.new.self in
    let at = entry_at c.args.segments.now.entries _ _ q c.in-Some.ensures.key (sym c.into_mut.ensures.value ∙ c.in-Some.ensures.value.0) in
    let written = ap (λ m. m.entries) (c.segments-3-1.given.1 (sym c.in-Some.ensures.same_map)) ∙ c.in-Some.ensures.update.1 p in
    let items = rw (to_z-of_z w64 c.args.time c.ranges.time) at c.in_ok-push_back.ensures.items in
    let few = room_there c.args.segments.now.entries _ at c.requires.room in
    let done = last_extended c.args.segments.now.entries _ q p at c.requires.laid c.args.time c.args.value c.requires.past few items in
    subst IsLaid (sym written) done.laid
