use Rattle.std.proofs.Common.{rules, ◌⊎◌, List, ℕ, sym, ap, subst, ◌∙◌, ◌≡◌, [], ◌∷◌, ◌++◌, ◌≤◌, length, take, arith, inl, inr, IsTrue, Result, OnOk, OnErr}
use Rattle.std.proofs.lemmas.List.{take_more, take_all}
use Rattle.sqlite.specs.Tree.{Trees}
use Rattle.sqlite.specs.Effect.{Database}
use Rattle.sqlite.specs.declared.error.Error.{Error}
use Rattle.sqlite.specs.Steps.{FailsToCommit}
use Rattle.sqlite.specs.State.{HasCleanDisk, Survives, State}
use Rattle.sqlite.specs.Held.{state}
use Rattle.sqlite.proofs.StateLemmas.{survives_then}
use Rattle.value_store.specs.Model.{IsStore, IsAfter}
use Rattle.value_store.specs.declared.rows.RowChange.{RowChange}
use Rattle.value_store.proofs.Settling.{Back, keeps_then, undone_then, rolled_at_commit}
use Rattle.value_store.proofs.Closing.{after_more, after_none, on_ok, whatever, if_err, either_way}
use Rattle.value_store.proofs.turns.make_all.Given as given
use Rattle.value_store.proofs.turns.make_all.Goals as goal

pub each-preserved : goal.each-preserved
each-preserved g c =
    let old = state g.S.Store c.args.conn.now in
    let mid = state g.S.Store c.each.transaction.conn.now in
    let new = state g.S.Store c.make.new.turn.conn.now in
    let it = c.change-item.result in (
      c.make.ensures.same_reference ∙ c.each.invariant.0,
      survives_then old mid new _ _ _ (λ _ db none. none) (λ _ db none. none) c.each.invariant.1 c.make.ensures.survives,
      λ clean.
          let was = c.each.invariant.2 (omega (arith, c.make.ensures.survives.clean)) in
          let made = c.in_ok-make.ensures.made clean was.0 in (
            made.1,
            keeps_then old mid new was.1 (c.make.ensures.kept clean was.0),
            (λ store.
                let before = was.2 store in
                let after = made.2 before.0 in
                let item = c.change-item.is in
                let more = take_more c.args.turn.now c.each.change-index it (omega (arith, c.each-test.true)) in
                let many = after_more (take c.each.change-index c.args.turn.now) it old.now.trees mid.now.trees new.now.trees before.1 after.1 in
                (after.0, subst (λ turn. IsAfter turn old.now.trees new.now.trees) (sym (more ∙ ap (λ x. take c.each.change-index c.args.turn.now ++ x ∷ []) (sym item))) many)),
            inr (was.1 made.0).0,
          ),
    )

-- what the loop has made of the file, where the file could be used or the turn is empty
made_all : (old mid : State) (turn : List RowChange) (k : ℕ) → length turn ≤ k → (IsStore old.now → IsStore mid.now × IsAfter (take k turn) old.now.trees mid.now.trees)
    → ((take k turn ≡ []) × (mid.now.trees ≡ old.now.trees)) ⊎ IsTrue old.is_open → (IsTrue old.is_open → IsStore old.now) → IsAfter turn old.now.trees mid.now.trees
made_all old mid turn k all made (inl none) ready = subst (λ t. IsAfter t old.now.trees mid.now.trees) (sym none.0 ∙ take_all k turn all) (after_none old.now.trees mid.now.trees none.1)
made_all old mid turn k all made (inr is_open) ready = subst (λ t. IsAfter t old.now.trees mid.now.trees) (take_all k turn all) (made (ready is_open)).1

-- what the commit finds made
made : (g : given.Over) (c : goal.After-conn-2-1 g) → HasCleanDisk (state g.S.Store c.commit.new.self.0) → IsAfter c.args.turn.now (state g.S.Store c.args.conn.now).now.trees (state g.S.Store c.each.transaction.conn.now).now.trees
made g c late =
    let was = c.each.invariant.2 (omega (arith, c.commit.ensures.survives.clean)) in
    let ready = c.requires.ready (omega (arith, c.each.invariant.1.clean, c.commit.ensures.survives.clean)) in
    made_all (state g.S.Store c.args.conn.now) (state g.S.Store c.each.transaction.conn.now) c.args.turn.now c.each.change-index (omega (arith, c.each-test.false)) was.2 was.3 ready

-- what is there at the end
abbrev Ends : {T E : Type 0} → State → Result T E → State → Type 0
Ends old r end = HasCleanDisk end → IsTrue end.is_open → IsStore end.now × (end.committed ≡ end.now) × OnErr r ((end.now ≡ old.now) × (end.committed ≡ old.committed))

-- after the commit, which may have failed
commit_ends : (g : given.Over) (c : goal.After-conn-2-1 g) → Ends (state g.S.Store c.args.conn.now) c.commit.result (state g.S.Store c.conn-2-1.given.0)
commit_ends g c =
    let old = state g.S.Store c.args.conn.now in
    let mid = state g.S.Store c.each.transaction.conn.now in
    let end = state g.S.Store c.commit.new.self.0 in
    let same : c.commit.new.self.0 ≡ c.conn-2-1.given.0 = search rules in
    let ended : Ends old c.commit.result end = (λ late still.
    let was = c.each.invariant.2 (omega (arith, c.commit.ensures.survives.clean)) in
    let store = c.requires.ready (omega (arith, c.each.invariant.1.clean, c.commit.ensures.survives.clean)) in
    let back : (e : Error) → FailsToCommit mid end e → Back old end = λ e h. undone_then old mid end was.1 (c.is_autocommit.ensures.settled (search rules)) (rolled_at_commit mid end e was.0 h) still in (
      either_way _ c.commit.result (c.commit.ensures.ok late) (c.commit.ensures.err late) (λ done. subst IsStore (sym done.1.now_is) (was.2 (store (was.1 done.1.was_open).0)).0)
          (λ e h. subst IsStore (sym (back e h).0) (store (back e h).3)),
      either_way _ c.commit.result (c.commit.ensures.ok late) (c.commit.ensures.err late) (λ done. done.1.committed_is ∙ sym done.1.now_is) (λ e h. (back e h).2),
      if_err c.commit.result _ (λ e h. ((back e h).0, (back e h).1)) (c.commit.ensures.err late),
    )) in
    subst (λ h. Ends old c.commit.result (state g.S.Store h)) same ended

pub returns-clause-crash : goal.returns-clause-crash
returns-clause-crash g c =
    let old = state g.S.Store c.args.conn.now in
    let P = λ (trees : Trees). IsAfter c.args.turn.now old.now.trees trees in
    let same : c.commit.new.self.0 ≡ c.conn-2-1.given.0 = search rules in
    subst (λ h. Survives old (state g.S.Store h) P) same
    (survives_then old (state g.S.Store c.each.transaction.conn.now) (state g.S.Store c.commit.new.self.0) _ _ P (λ _ db none. absurd none) (λ clean db is. subst P (sym is) (made g c clean)) c.each.invariant.1 c.commit.ensures.survives)

pub returns-clause-kept : goal.returns-clause-kept
returns-clause-kept g c clean =
    let P = λ (trees : Trees). IsAfter c.args.turn.now (state g.S.Store c.args.conn.now).now.trees trees in
    let same : c.commit.new.self.0 ≡ c.conn-2-1.given.0 = search rules in
    let late : HasCleanDisk (state g.S.Store c.commit.new.self.0) = subst (λ h. HasCleanDisk (state g.S.Store h)) (sym same) clean in
    let rest = on_ok c.commit.result (c.commit.ensures.ok late) (λ done. subst P (sym (ap (λ (d : Database). d.trees) done.1.now_is)) (made g c late)) in
    subst (λ h. OnOk c.commit.result (P (state g.S.Store h).now.trees)) same rest

pub returns-clause-settled : goal.returns-clause-settled
returns-clause-settled g c trees clean is_open may =
    g.met.S.Store.settled c.conn-2-1.given.0.store trees is_open may ∙ ap (λ (d : Database). d.trees) (commit_ends g c clean is_open).1

pub returns-clause-refused : goal.returns-clause-refused
returns-clause-refused g c clean is_open = (commit_ends g c clean is_open).2

pub returns-clause-ready : goal.returns-clause-ready
returns-clause-ready g c clean is_open = (commit_ends g c clean is_open).0

-- after a change that failed
drop_ends : (g : given.Over) (c : goal.After-conn-1 g) → Ends (state g.S.Store c.args.conn.now) c.from_residual.result (state g.S.Store c.conn-1.given.0)
drop_ends g c =
    let old = state g.S.Store c.args.conn.now in
    let mid = state g.S.Store c.each.transaction.conn.now in
    let new = state g.S.Store c.make.new.turn.conn.now in
    let end = state g.S.Store c.drop-transaction.new.self.0 in
    let same : c.drop-transaction.new.self.0 ≡ c.conn-1.given.0 = search rules in
    let ended : Ends old c.from_residual.result end = (λ late still.
    let early : HasCleanDisk new = omega (arith, c.drop-transaction.ensures.survives.clean) in
    let was = c.each.invariant.2 (omega (arith, c.make.ensures.survives.clean)) in
    let store = c.requires.ready (omega (arith, c.each.invariant.1.clean, c.make.ensures.survives.clean, early)) in
    let kept = keeps_then old mid new was.1 (c.make.ensures.kept early was.0) in
    let back = undone_then old new end kept (c.is_autocommit.ensures.settled (search rules)) (c.drop-transaction.ensures.undone late) still in
    (subst IsStore (sym back.0) (store back.3), back.2, whatever c.from_residual.result (back.0, back.1))) in
    subst (λ h. Ends old c.from_residual.result (state g.S.Store h)) same ended

pub returns-in_err-make-clause-refused : goal.returns-in_err-make-clause-refused
returns-in_err-make-clause-refused g c clean is_open = (drop_ends g c clean is_open).2

pub returns-in_err-make-clause-ready : goal.returns-in_err-make-clause-ready
returns-in_err-make-clause-ready g c clean is_open = (drop_ends g c clean is_open).0

pub returns-in_err-make-clause-settled : goal.returns-in_err-make-clause-settled
returns-in_err-make-clause-settled g c trees clean is_open may =
    g.met.S.Store.settled c.conn-1.given.0.store trees is_open may ∙ ap (λ (d : Database). d.trees) (drop_ends g c clean is_open).1
