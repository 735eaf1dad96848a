use Rattle.std.proofs.Common.{◌∷◌, [], ◌++◌, List, ℕ, map, ap, sym, subst, ◌∙◌, append_assoc}
use Rattle.std.proofs.lemmas.List.{map-append}
use Rattle.std.proofs.lemmas.List.Sums.{fold-append}
use Rattle.std.specs.BTreeSet.{insert_key}
use Rattle.ua_views.specs.Views.{or_none}
use Rattle.ua_monitored_items.specs.Items.{own_item}
use Rattle.ua_monitored_items.specs.Preparing.{IsReady, AreReady}
use Rattle.ua_monitored_items.specs.Releases.{release_cmp, with_releases, mode_releases, modes_release}
use Rattle.ua_monitored_items.specs.declared.releases.Release.{Release}
use Rattle.ua_monitored_items.specs.declared.preparing.Prepared.{Prepared}
use Rattle.ua_monitored_items.proofs.Releasing.{modes_more}
use Rattle.ua_monitored_items.proofs.Readiness.{ready_more}
use Rattle.ua_monitored_items.proofs.items.Items.prepare_all.Goals as goal

pub loop-number-preserved : goal.loop-number-preserved
loop-number-preserved c =
    let es = c.loop-number.entries.items in
    let e = c.in_ok-prepared.prepared in
    let done = c.loop-number.yielded in
    let n = c.in-Some.number in
    let nodes = c.args.sampled.now.space.now.nodes in
    let number = λ (p : Prepared). p.number in
    record {
      numbers =
          ap (map number) c.in_ok-push.ensures.items
          ∙ map-append number es (e ∷ [])
          ∙ ap (λ (ns : List ℕ). ns ++ e.number ∷ []) c.loop-number.invariant.numbers
          ∙ ap (λ (n : ℕ). done ++ n ∷ []) c.in_ok-prepared.ensures.number;
      releases =
          let before = c.args.releases.now in
          let one = mode_releases c.args.mode (own_item c.args.self.now c.args.sampled.now.subscription n) in
          c.in_ok-prepared.ensures.releases
          ∙ ap (λ (rs : List Release). with_releases rs one) c.loop-number.invariant.releases
          ∙ sym (fold-append (insert_key release_cmp) before (modes_release c.args.self.now c.args.sampled.now.subscription c.args.mode done) one)
          ∙ ap (with_releases before) (sym (modes_more c.args.self.now c.args.sampled.now.subscription c.args.mode done n));
      ready =
          subst (AreReady nodes c.args.sampled.now.clock c.args.sampled.now.subscription c.args.mode c.args.self.now) (sym c.in_ok-push.ensures.items)
          (ready_more nodes c.args.sampled.now.clock c.args.mode c.args.sampled.now.subscription c.args.self.now es e c.loop-number.invariant.ready
          (subst (λ (n : ℕ). IsReady nodes c.args.sampled.now.clock c.args.mode (own_item c.args.self.now c.args.sampled.now.subscription n) e.first) (sym c.in_ok-prepared.ensures.number) c.in_ok-prepared.ensures.ready));
      left = append_assoc done (n ∷ []) (or_none c.next.new.self) ∙ ap (λ (list : List ℕ). done ++ list) (sym c.in-Some.ensures.steps) ∙ c.loop-number.invariant.left;
    }
