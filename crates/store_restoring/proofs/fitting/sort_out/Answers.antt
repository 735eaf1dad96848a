use Rattle.std.proofs.Common.{List, ◌∷◌, [], ◌++◌, sym, ap, ◌∙◌}
use Rattle.std.proofs.lemmas.List.{append-nil, append_assoc}
use Rattle.server_messages.specs.declared.kept_values.KeptValue.{KeptValue}
use Rattle.store_restoring.specs.Fitting.{fitting, left_out}
use Rattle.store_restoring.specs.declared.left_out.LeftOut.{LeftOut}
use Rattle.store_restoring.proofs.Sorting.{fits_more, fits_same, left_more, left_same}
use Rattle.store_restoring.proofs.fitting.sort_out.Goals as goal

pub loop-one-preserved-in-Continue-1 : goal.loop-one-preserved-in-Continue-1
loop-one-preserved-in-Continue-1 c =
    let nodes = c.args.space.now.nodes in
    let so_far = c.loop-one.yielded in
    record {
      fit =
          c.in_ok-push-in-Ok.ensures.items ∙ ap (λ (xs : List KeptValue). xs ++ c.in-Some.one ∷ []) c.loop-one.invariant.fit
          ∙ sym (fits_more c.args.is_historical nodes so_far c.in-Some.one c.in-Ok.ensures.fits);
      others =
          c.loop-one.invariant.others
          ∙ ap (λ (xs : List LeftOut). c.args.others.now.items ++ xs) (sym (left_same c.args.is_historical nodes so_far c.in-Some.one c.in-Ok.ensures.fits ∙ append-nil (left_out c.args.is_historical nodes so_far)));
    }

pub loop-one-preserved : goal.loop-one-preserved
loop-one-preserved c =
    let nodes = c.args.space.now.nodes in
    let so_far = c.loop-one.yielded in
    let it : LeftOut = record { kept = c.in-Some.one; is_historical = c.args.is_historical; why = c.in-Err.why } in
    record {
      fit =
          c.loop-one.invariant.fit
          ∙ sym (fits_same c.args.is_historical nodes so_far c.in-Some.one c.in-Err.why c.in-Err.ensures.misfit ∙ append-nil (fitting c.args.is_historical nodes so_far));
      others =
          c.in_ok-push-in-Err.ensures.items ∙ ap (λ (xs : List LeftOut). xs ++ it ∷ []) c.loop-one.invariant.others
          ∙ append_assoc c.args.others.now.items (left_out c.args.is_historical nodes so_far) (it ∷ [])
          ∙ ap (λ (xs : List LeftOut). c.args.others.now.items ++ xs) (sym (left_more c.args.is_historical nodes so_far c.in-Some.one c.in-Err.why c.in-Err.ensures.misfit));
    }
