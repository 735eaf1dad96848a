use Rattle.std.proofs.Common.{◌≡◌, [], ◌∷◌, ◌++◌, ap, subst, ◌∙◌, arith}
use Rattle.std.specs.Option.{option_or}
use Rattle.ua_history.specs.Histories.{Values}
use Rattle.ua_history.specs.Intervals.{in_order}
use Rattle.ua_history.specs.Pages.{FillingState, last_time, filled_by}
use Rattle.ua_history.specs.Runs.{told}
use Rattle.ua_history.proofs.Filling.{told_by, told_length, told_last}
use Rattle.ua_history.proofs.pages.Filling.take.Goals as goal

pub invariant_of-self-2 : goal.invariant_of-self-2
invariant_of-self-2 c =
    let f = c.self.inside.is_falling in
    let runs = c.self.inside.runs.items in
    let given = c.first_of-given.result in
    let fits = c.first_of-given.ensures.len in
    let before = c.self.invariant.1 in
    rw c.in_ok-push.ensures.items (
      told_length f c.self.inside.size c.self.inside.len runs given c.self.invariant.0,
      omega (arith, fits, before),
      c.or-self-inside.ensures
          ∙ ap (λ o. option_or o c.self.inside.last) c.last_time.ensures
          ∙ ap (λ o. option_or (last_time (in_order f given.now)) o) c.self.invariant.2
          ∙ told_last f runs given,
    )

pub returns-clause-values : goal.returns-clause-values
returns-clause-values c =
    let f = c.self.inside.is_falling in
    let size = c.self.inside.size in
    let more = in_order f c.args.run.now in
    let filled =
    told_by f size c.self.inside.len c.self.inside.runs.items c.first_of-given.result c.self.invariant.0 more c.self.invariant.1 c.first_of-given.ensures.values in
    rw (c.in_ok-push.ensures.items)
    (subst (λ (s : FillingState). record { is_falling = f; size = size; values = told f (c.self.inside.runs.items ++ c.first_of-given.result ∷ []) } ≡ filled_by s (in_order s.is_falling c.args.run.now)) c.self.view_is
    (ap (λ (v : Values). record { is_falling = f; size = size; values = v }) filled))
