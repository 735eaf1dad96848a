use Rattle.std.proofs.Common.{sym, ap, ◌≡◌, ◌∙◌, length, Ok, []}
use Rattle.std.specs.List.{find}
use Rattle.ua_space.specs.Numbers.{AreNumbered}
use Rattle.ua_space.specs.Build.{within_limits, linked, no_loop}
use Rattle.ua_space.specs.Subtypes.{lies_on_loop}
use Rattle.ua_space.proofs.Few.{few_made}
use Rattle.ua_space.proofs.Making.{base_count}
use Rattle.ua_space.proofs.Soundness.{made_sound}
use Rattle.ua_space.proofs.space.Space.build.Goals as goal

pub new-requires-5-clause-sound : goal.new-requires-5-clause-sound
new-requires-5-clause-sound c =
    let limits : within_limits c.in_ok-base.base.items c.args.nodes.items c.args.triples.items ≡ Ok tt = rw (← c.as_slice.ensures.value, ← c.as_slice-2.ensures.value) (sym (c.in_ok-within_limits.ensures.limits c.in_ok-base.base.items (ap length c.in_ok-base.ensures.items ∙ base_count c.args.config.now))) in
    let links : linked c.in_ok-known.known.entries [] c.in_ok-all.all.items ≡ Ok tt = rw (← c.as_slice-3.ensures.value) c.in_ok-linked.ensures in
    let free : no_loop (find (lies_on_loop c.in_ok-all.all.items) c.in_ok-all.all.items) ≡ Ok tt = rw (← c.as_slice-7.ensures.value) (sym c.in_ok-no_loop.ensures) in
    rw c.in_ok-nodes.ensures (made_sound c.in_ok-base.base.items c.args.nodes.items c.in_ok-known.known.entries c.args.triples.items c.in_ok-all.all.items limits c.in_ok-known.ensures c.in_ok-all.ensures.all links free)

pub no_loop-requires-clause-few : goal.no_loop-requires-clause-few
no_loop-requires-clause-few c =
    let limits : within_limits c.in_ok-base.base.items c.args.nodes.items c.args.triples.items ≡ Ok tt = rw (← c.as_slice.ensures.value, ← c.as_slice-2.ensures.value) (sym (c.in_ok-within_limits.ensures.limits c.in_ok-base.base.items (ap length c.in_ok-base.ensures.items ∙ base_count c.args.config.now))) in
    let links : linked c.in_ok-known.known.entries [] c.in_ok-all.all.items ≡ Ok tt = rw (← c.as_slice-3.ensures.value) c.in_ok-linked.ensures in
    let are : AreNumbered c.in_ok-all.all.items c.in_ok-numbering.numbering.types.items c.in_ok-numbering.numbering.numbers.entries = rw (← c.as_slice-6.ensures.value) c.in_ok-numbering.ensures in
    few_made c.in_ok-base.base.items c.args.nodes.items c.in_ok-known.known.entries c.args.triples.items c.in_ok-all.all.items c.in_ok-numbering.numbering.types.items c.in_ok-numbering.numbering.numbers.entries limits c.in_ok-known.ensures links are
