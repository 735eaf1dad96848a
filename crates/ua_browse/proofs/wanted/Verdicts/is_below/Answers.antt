use Rattle.std.proofs.Common.{◌≡◌, All, subst, sym}
use Rattle.ua_space.specs.Subtypes.{is_subtype}
use Rattle.ua_browse.proofs.wanted.Verdicts.is_below.Goals as goal

pub returns-in-Some-verdict_on-clause-below : goal.returns-in-Some-verdict_on-clause-below
returns-in-Some-verdict_on-clause-below c =
    let triples = c.args.space.now.triples in
    let named = c.args.named.now in
    c.in-Some-verdict_on.ensures (λ id. is_subtype triples id named)
    (subst (All (λ v. v.is_below ≡ is_subtype triples v.id.now named)) (sym c.deref.ensures.value) c.requires.few)
