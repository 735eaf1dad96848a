use Rattle.std.proofs.Common.{◌≡◌, ◌∷◌, [], ◌++◌, List, ℕ, arith, length, map, ap, sym, subst, ◌∙◌, append_assoc}
use Rattle.std.proofs.lemmas.List.{map-append}
use Rattle.std.specs.Vec.Iter.{into_iter_items}
use Rattle.ua_monitored_items.specs.Items.{ItemsState, mode_one, all_served}
use Rattle.ua_monitored_items.specs.Preparing.{AreReady}
use Rattle.ua_monitored_items.specs.declared.preparing.Prepared.{Prepared}
use Rattle.ua_monitored_items.proofs.Readiness.{served_status, served_state, ready_kept}
use Rattle.ua_monitored_items.proofs.Serving.{results_then, state_then}
use Rattle.ua_monitored_items.proofs.items.Items.mode_all.Goals as goal

pub loop-prepared-preserved : goal.loop-prepared-preserved
loop-prepared-preserved c =
    let nodes = c.args.sampled.now.space.now.nodes in
    let clock = c.args.sampled.now.clock in
    let mode = c.args.mode in
    let subscription = c.args.sampled.now.subscription in
    let serve = mode_one nodes clock subscription mode in
    let number = λ (p : Prepared). p.number in
    let front = c.loop-prepared.yielded in
    let e = c.in-Some.prepared in
    let rest = into_iter_items c.next.new.self in
    let before = c.loop-prepared.invariant in
    let old = c.args.self.now in
    let mid = c.loop-prepared.self in
    let next = c.in-Some.ensures.steps.0 in
    let count = ap length next in
    let ready : AreReady nodes clock subscription mode mid (e ∷ rest) = subst (AreReady nodes clock subscription mode mid) next before.ready in
    let result = c.mode_one.ensures.result ∙ served_status nodes clock mode subscription mid e in
    let state = c.mode_one.ensures.state ∙ served_state nodes clock mode subscription mid e ready.0 in
    let names : map number (front ++ e ∷ []) ≡ map number front ++ e.number ∷ [] = map-append number front (e ∷ []) in
    record {
      results =
          c.push_reserved.ensures.items
          ∙ results_then serve old mid (map number front) e.number c.loop-prepared.results.items c.mode_one.result before.results before.state result
          ∙ ap (λ (ns : List ℕ). (all_served serve old ns).results) (sym names);
      state = state_then serve old mid (map number front) e.number c.mode_one.new.self before.state state ∙ ap (λ (ns : List ℕ). (all_served serve old ns).state) (sym names);
      left = ap (map number) (append_assoc front (e ∷ []) rest ∙ ap (λ (es : List Prepared). front ++ es) (sym next)) ∙ before.left;
      ready = subst (λ (s : ItemsState). AreReady nodes clock subscription mode s rest) (sym state) (ready_kept nodes clock mode subscription mid e.number rest ready.1);
      room = omega (arith, before.room, count, c.push_reserved.ensures.len, c.push_reserved.ensures.capacity);
    }
