use Rattle.std.proofs.Common.{◌∙◌, ◌≤◌, ◌+◌, ◌++◌, ◌∷◌, [], List, length, length-append, refl, subst, ap, sym, arith}
use Rattle.std.specs.Prelude.{slice_get}
use Rattle.ua_service_messages.specs.declared.browsing.ReferenceDescription.{ReferenceDescription}
use Rattle.ua_space.specs.References.{references_of}
use Rattle.ua_browse.specs.Describing.{described}
use Rattle.ua_browse.specs.Wanted.{IsRight, Placed, is_wanted, wanted_from}
use Rattle.ua_space.proofs.Places.{none_past}
use Rattle.ua_browse.proofs.Paging.{IsFront, front_with, front_without, full_page, full_next, last_page, last_next, few_shown}
use Rattle.ua_browse.proofs.pages.page_from.Goals as goal
use Rattle.ua_browse.proofs.pages.page_from.Goals.{in-Some+in_ok-is_wanted+then-branch+else-len-size+in_ok-push, in-Some+in_ok-is_wanted+else-branch, in_default}

pub returns-then-len-size-clause-next : goal.returns-then-len-size-clause-next
returns-then-len-size-clause-next c =
    let space = c.args.space.now in
    let d = c.args.asked.now in
    full_next (λ p. described space d.result_mask p.reference) (is_wanted space d) (references_of d.node_id space.triples) (wanted_from space d c.args.start) c.loop-place.references.items c.loop-place.place
    c.args.size c.in-Some.reference
    (let few = c.loop-place.invariant.few in let long = c.len.ensures in let full = c.if-len-size.true in omega (arith, few, long, full))
    (c.in-Some.ensures ∙ ap (λ rs. slice_get rs c.loop-place.place) c.references-all.ensures) (sym c.in_ok-is_wanted.ensures.wanted ∙ c.if-branch.true) c.loop-place.invariant.front

pub returns-then-len-size-clause-few : goal.returns-then-len-size-clause-few
returns-then-len-size-clause-few c =
    let space = c.args.space.now in
    let d = c.args.asked.now in
    few_shown space d c.args.size c.args.start c.loop-place.references.items c.soundness.ensures
    (full_page (λ p. described space d.result_mask p.reference) (is_wanted space d) (references_of d.node_id space.triples) (wanted_from space d c.args.start) c.loop-place.references.items c.loop-place.place
    c.args.size (let few = c.loop-place.invariant.few in let long = c.len.ensures in let full = c.if-len-size.true in omega (arith, few, long, full)) c.loop-place.invariant.front)

pub loop-place-init : goal.loop-place-init
loop-place-init c =
    let space = c.args.space.now in
    let d = c.args.asked.now in
    let all = wanted_from space d c.args.start in
    let none = ap length c.new-references.ensures.items in
    record {
      front = subst (IsFront (λ p. described space d.result_mask p.reference) all all) (sym c.new-references.ensures.items) (record { front = refl; rest = refl });
      few = omega (arith, none);
      right = c.new-verdicts.ensures space.triples d.reference_type_id;
    }

pub loop-place-preserved : goal.loop-place-preserved
loop-place-preserved c =
    let space = c.args.space.now in
    let d = c.args.asked.now in
    let f : Placed → ReferenceDescription = λ p. described space d.result_mask p.reference in
    let rs = references_of d.node_id space.triples in
    let all = wanted_from space d c.args.start in
    let page = c.loop-place.references.items in
    let i = c.loop-place.place in
    let few = c.loop-place.invariant.few in
    elim c.match-get.branch [
      | in-Some+in_ok-is_wanted+then-branch+else-len-size+in_ok-push w ↦ record {
        front = front_with f (is_wanted space d) rs all page i (i + 1) w.in-Some.reference c.match-get.references.items (omega arith)
            (w.in-Some.ensures ∙ ap (λ list. slice_get list i) c.references-all.ensures) (sym w.in_ok-is_wanted.ensures.wanted ∙ w.if-branch.true)
            (ap (λ v. v.items) w.references-is ∙ w.in_ok-push.ensures.items ∙ ap (λ x. page ++ x ∷ []) w.new.ensures) c.loop-place.invariant.front;
        few =
            let grown = ap length (ap (λ v. v.items) w.references-is ∙ w.in_ok-push.ensures.items) ∙ length-append page (w.new.result ∷ []) in
            let long = w.len.ensures in
            let room = w.if-len-size.false in
            omega (arith, grown, long, room);
        right = subst (IsRight space.triples d.reference_type_id) (sym w.verdicts-is) w.in_ok-is_wanted.ensures.right;
      }
      | in-Some+in_ok-is_wanted+else-branch w ↦ record {
        front = subst (λ (list : List ReferenceDescription). IsFront f all (wanted_from space d (i + 1)) list) (sym (ap (λ v. v.items) w.references-is))
            (front_without f (is_wanted space d) rs all page i (i + 1) w.in-Some.reference (omega arith)
            (w.in-Some.ensures ∙ ap (λ list. slice_get list i) c.references-all.ensures) (sym w.in_ok-is_wanted.ensures.wanted ∙ w.if-branch.false) c.loop-place.invariant.front);
        few = let same = ap length (ap (λ v. v.items) w.references-is) in omega (arith, same, few);
        right = subst (IsRight space.triples d.reference_type_id) (sym w.verdicts-is) w.in_ok-is_wanted.ensures.right;
      }
      | in_default w ↦ absurd (none_past c.references-all.result i w.in_default.ensures (let long = c.len-place-end.ensures in let under = c.loop-place-test.true in omega (arith, long, under)))
    ]

pub returns-clause-references : goal.returns-clause-references
returns-clause-references c =
    let space = c.args.space.now in
    let d = c.args.asked.now in
    let past : length (references_of d.node_id space.triples) ≤ c.loop-place.place =
    let same = ap length c.references-all.ensures in let long = c.len-place-end.ensures in let over = c.loop-place-test.false in omega (arith, same, long, over)
    in
    last_page (λ p. described space d.result_mask p.reference) (is_wanted space d) (references_of d.node_id space.triples) (wanted_from space d c.args.start) c.loop-place.references.items c.loop-place.place
    c.args.size c.loop-place.invariant.few past c.loop-place.invariant.front

pub returns-clause-few : goal.returns-clause-few
returns-clause-few c = few_shown c.args.space.now c.args.asked.now c.args.size c.args.start c.loop-place.references.items c.soundness.ensures (returns-clause-references c)

pub returns-clause-next : goal.returns-clause-next
returns-clause-next c =
    let space = c.args.space.now in
    let d = c.args.asked.now in
    let past : length (references_of d.node_id space.triples) ≤ c.loop-place.place =
    let same = ap length c.references-all.ensures in let long = c.len-place-end.ensures in let over = c.loop-place-test.false in omega (arith, same, long, over)
    in
    last_next (λ p. described space d.result_mask p.reference) (is_wanted space d) (references_of d.node_id space.triples) (wanted_from space d c.args.start) c.loop-place.references.items c.loop-place.place
    c.args.size c.loop-place.invariant.few past c.loop-place.invariant.front
