use Rattle.std.proofs.Common.{rules, ◌≡◌, ◌∙◌, ◌<◌, ◌≤◌, length, slice_index_or, subst}
use Rattle.socket_peers.specs.Peers.{FlushesAt}
use Rattle.socket_peers.proofs.MapLemmas.{next_flushed, flush_touches_none, none_left}
use Rattle.socket_peers.proofs.peers.Peers.flush_touched.Goals as goal

pub loop-place-preserved : goal.loop-place-preserved
loop-place-preserved g c =
    let touched = c.loop-place.invariant.0 in
    let lt : c.loop-place.place < length c.args.self.now.touched = search rules in
    let number : c.index-number.result.now ≡ slice_index_or c.args.self.now.touched c.loop-place.place c.index-number.result.now = search rules in
    let flushed : FlushesAt g.S.Socket.remaining g.S.Socket.contents g.S.Socket.calls c.index-number.result.now c.loop-place.self c.flush.new.self = search rules in
    let kept = flush_touches_none g.S.Socket.remaining g.S.Socket.contents g.S.Socket.calls _ c.loop-place.self c.flush.new.self flushed in
    let at = subst (λ n. FlushesAt g.S.Socket.remaining g.S.Socket.contents g.S.Socket.calls n c.loop-place.self c.flush.new.self) {y = slice_index_or c.args.self.now.touched c.loop-place.place c.index-number.result.now} number flushed in (
      kept ∙ touched,
      λ end rest. c.loop-place.invariant.1 end
          (next_flushed g.S.Socket.remaining g.S.Socket.contents g.S.Socket.calls c.args.self.now.touched c.loop-place.place c.index-number.result.now c.loop-place.self c.flush.new.self end lt at rest),
    )

pub returns : goal.returns
returns g c =
    let most : length c.args.self.now.touched ≤ c.loop-place.place = search rules in (
      c.loop-place.self,
      c.loop-place.invariant.1 c.loop-place.self
          (none_left g.S.Socket.remaining g.S.Socket.contents g.S.Socket.calls c.args.self.now.touched c.loop-place.place c.loop-place.self most),
      search rules,
    )
