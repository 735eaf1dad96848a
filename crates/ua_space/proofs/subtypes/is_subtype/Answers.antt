use Rattle.std.proofs.Common.{◌≡◌, true, sym, subst, ◌∙◌, inl, inr}
use Rattle.std.proofs.lemmas.Bool.{cases_Bool, false≢true}
use Rattle.ua_types.proofs.SameIds.{same_id_true, same_id_itself}
use Rattle.ua_types.specs.NodeIdOrder.{same_id}
use Rattle.ua_types.specs.declared.node_id.NodeId.{NodeId}
use Rattle.ua_space.specs.Subtypes.{is_subtype}
use Rattle.ua_space.proofs.Chains.{walk_found, walk_taken}
use Rattle.ua_space.proofs.Marking.{no_subtypes, number_below}
use Rattle.ua_space.proofs.subtypes.is_subtype.Goals as goal

pub returns-then-eq : goal.returns-then-eq
returns-then-eq c =
    let lower = c.args.lower.now in
    let upper = c.args.upper.now in
    sym (walk_found c.args.triples.now 0 lower upper (same_id_true lower upper (sym c.eq.ensures ∙ c.if-eq.true)))

pub reaches_by-requires-clause-upper : goal.reaches_by-requires-clause-upper
reaches_by-requires-clause-upper c = number_below c.args.numbering.now.types.items c.args.numbering.now.numbers.entries c.args.upper.now c.in-Some.number.now c.requires.numbered.each (sym c.in-Some.ensures.value)

pub reaches_by-requires-else-len-clause-upper : goal.reaches_by-requires-else-len-clause-upper
reaches_by-requires-else-len-clause-upper c = number_below c.args.numbering.now.types.items c.args.numbering.now.numbers.entries c.args.upper.now c.in-Some.number.now c.requires.numbered.each (sym c.in-Some.ensures.value)

pub returns-in-None : goal.returns-in-None
returns-in-None c =
    let ts = c.args.triples.now in
    let lower = c.args.lower.now in
    let upper = c.args.upper.now in
    elim (cases_Bool (is_subtype ts lower upper)) [
      | inl is ↦
          let w = walk_taken ts lower upper is in
          let P : NodeId → Type 0 = λ id. same_id lower id ≡ true in
          absurd (no_subtypes ts c.args.numbering.now.types.items c.args.numbering.now.numbers.entries c.requires.numbered w.0 lower upper
          (λ e. false≢true (sym c.if-eq.false ∙ c.eq.ensures ∙ subst P e (same_id_itself lower))) c.in-None.ensures.value w.1)
      | inr other ↦ sym other
    ]
