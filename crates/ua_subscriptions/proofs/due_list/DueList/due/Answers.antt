use Rattle.std.proofs.Common.{◌≡◌, true, false, arith, ap, ◌∙◌}
use Rattle.std.proofs.lemmas.Int.{ints}
use Rattle.std.proofs.lemmas.List.{map_push}
use Rattle.std.proofs.lemmas.Map.Iter.{rest_so_far, rest_more}
use Rattle.std.specs.Prelude.{map}
use Rattle.std.specs.BTreeSet.{contains}
use Rattle.std.specs.Map.Iter.{deref}
use Rattle.std.specs.Ordering.{nat_cmp}
use Rattle.ua_subscriptions.specs.DueLists.{is_past, past_at}
use Rattle.ua_subscriptions.proofs.DueWalks.{any_push, passed}
use Rattle.ua_subscriptions.proofs.due_list.DueList.due.Goals as goal

pub loop-due-preserved : goal.loop-due-preserved
loop-due-preserved c = λ n.
    let past : is_past c.args.clock c.in-Some.due.now ≡ true = grind (arith, ints, c.gt.ensures, c.if-gt.false) in
    rw (map_push deref c.loop-due.yielded c.in-Some.due)
    (any_push c.args.clock (map deref c.loop-due.yielded) c.in-Some.due.now n (contains nat_cmp c.loop-due.numbers n) (contains nat_cmp c.insert.new.self n) past (c.loop-due.invariant n) (c.in_ok-insert.ensures.updates.0 n))

pub returns-then-gt : goal.returns-then-gt
returns-then-gt c = λ n.
    let late : is_past c.args.clock c.in-Some.due.now ≡ false = grind (arith, ints, c.gt.ensures, c.if-gt.true) in
    let gives = c.into_iter-due-iterator.ensures.into_iter_gives in
    let so_far = rest_so_far deref c.loop-due.yielded c.into_iter-due-iterator.result c.loop-due.due-iterator c.loop-due.yielded_by in
    let next = rest_more deref c.loop-due.due-iterator c.next.new.self c.next.result c.in-Some.due c.in-Some.is c.next.ensures.steps in
    c.loop-due.invariant n
    ∙ passed c.args.clock c.self.inside.dues.keys c.loop-due.yielded c.into_iter-due-iterator.result c.loop-due.due-iterator c.next.new.self c.in-Some.due n gives.0 so_far next gives.4 late
    ∙ ap (λ l. past_at c.args.clock l n) c.self.view_is
