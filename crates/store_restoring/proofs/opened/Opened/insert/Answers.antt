use Rattle.std.proofs.Common.{◌≡◌, rules, ap, ◌∙◌}
use Rattle.std.proofs.lemmas.Int.{to_z-of_z}
use Rattle.std.specs.Map.{values_of}
use Rattle.server_messages.specs.Kept.{put_at}
use Rattle.store_restoring.specs.Opened.{AreTimed, OpenedState}
use Rattle.store_restoring.specs.Restored.{past_of}
use Rattle.store_restoring.proofs.ByTime.{past_put_in, still_timed, timed_rise}
use Rattle.store_restoring.proofs.opened.Opened.insert.Goals as goal
use mir.Syntax.{w64}
use mir.Val.{SFits, of_z, to_z}

still : (c : goal.Joined-branch-2) → AreTimed c.insert.new.self.entries
still c =
    let f : SFits w64 c.args.time.0 = search rules in
    let key : to_z w64 (of_z w64 c.args.time.0) ≡ c.args.time.0 = to_z-of_z w64 c.args.time.0 f in
    rw (c.in_ok-insert.ensures.entries, key) (still_timed c.self.inside.values.entries c.args.time.0 c.args.value c.requires c.self.invariant.timed)

pub invariant_of-self-2 : goal.invariant_of-self-2
invariant_of-self-2 c = record {
  timed = still c;
  rising = c.insert.ensures.ordered;
}

pub returns-clause-rising : goal.returns-clause-rising
returns-clause-rising c = timed_rise c.insert.new.self.entries (still c) c.insert.ensures.ordered

pub returns-clause-past : goal.returns-clause-past
returns-clause-past c = λ t.
    let f : SFits w64 c.args.time.0 = search rules in
    let key : to_z w64 (of_z w64 c.args.time.0) ≡ c.args.time.0 = to_z-of_z w64 c.args.time.0 f in
    let found = rw key at (c.in_ok-insert.ensures.updates.0 t) in
    past_put_in c.self.inside.values.entries c.insert.new.self.entries c.args.time c.args.value t c.self.invariant.timed (still c) c.requires found
    ∙ ap (λ (s : OpenedState). put_at c.args.value.source_time c.args.value (past_of (values_of s.values)) t) c.self.view_is
