use Rattle.std.proofs.Common.{◌∷◌, [], ◌++◌, arith, length, ap, sym, ◌∙◌, append_assoc}
use Rattle.ua_views.specs.Views.{or_none}
use Rattle.ua_monitored_items.specs.Items.{create_one}
use Rattle.ua_monitored_items.proofs.Serving.{results_then, state_then}
use Rattle.ua_monitored_items.proofs.Undoing.{undone_then}
use Rattle.ua_monitored_items.proofs.items.Items.create_all.Goals as goal

pub loop-request-preserved : goal.loop-request-preserved
loop-request-preserved c =
    let serve = create_one c.args.sampled.now.space.now.nodes c.args.sampled.now.clock c.args.sampled.now.subscription c.args.timestamps in
    let front = c.loop-request.yielded in
    let x = c.in-Some.request in
    let rest = or_none c.next.new.self in
    let before = c.loop-request.invariant in
    let old = c.args.self.now in
    let mid = c.loop-request.self in
    let next = c.in-Some.ensures.steps in
    let count = ap length next in
    record {
      results = c.push_reserved.ensures.items ∙ results_then serve old mid front x c.loop-request.results.items c.in_ok-made.made before.results before.state c.in_ok-made.ensures.result;
      state = state_then serve old mid front x c.create_one.new.self before.state c.in_ok-made.ensures.ok;
      left = append_assoc front (x ∷ []) rest ∙ ap (λ xs. front ++ xs) (sym next) ∙ before.left;
      back = undone_then old mid c.create_one.new.self before.back c.in_ok-made.ensures.back;
      room = omega (arith, before.room, count, c.push_reserved.ensures.len, c.push_reserved.ensures.capacity);
    }
