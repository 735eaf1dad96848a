use Rattle.std.proofs.Common.{◌≡◌, Some, None, length, cond, sym, ap, subst, ◌∙◌, ◌++◌, ◌∷◌, [], List, arith}
use Rattle.ua_types.specs.NodeIdOrder.{same_id}
use Rattle.ua_types.specs.declared.node_id.NodeId.{NodeId}
use Rattle.ua_types.specs.contracts.node_id.NodeIdOrd.TheImpl.Laws.{matches_eq-law}
use Rattle.ua_space.specs.Numbers.{number_at, AreNumbers}
use Rattle.ua_space.proofs.Counting.{AddedAt, added_copy, none_there, numbers_more, still_numbered, only_added}
use Rattle.ua_space.proofs.numbering.add.Goals as goal

-- the map afterwards
added : (c : goal.In_ok-push) → AddedAt c.args.numbers.now.entries c.insert.new.self.entries c.args.id.now (length c.args.types.now.items)
added c =
    let n : c.len.result ≡ length c.args.types.now.items = omega (arith, c.len.ensures, c.args.types.now.ok.0) in
    let old = c.args.numbers.now.entries in
    added_copy old c.insert.new.self.entries c.args.id.now c.in_ok-copy.field-0 (length c.args.types.now.items) c.in_ok-copy.ensures.copy
    (λ q. c.in_ok-insert.ensures.updates.0 q ∙ ap (λ b. cond b (Some c.len.result) (number_at old q)) (sym (matches_eq-law c.in_ok-copy.field-0 q)) ∙ ap (λ m. cond (same_id c.in_ok-copy.field-0 q) (Some m) (number_at old q)) n)

none : (c : goal.In_ok-push) → None ≡ number_at c.args.numbers.now.entries c.args.id.now
none c = none_there (number_at c.args.numbers.now.entries c.args.id.now) (sym c.contains_key.ensures ∙ c.if-not-contains_key.true)

pub returns-in_ok-push-clause-numbers : goal.returns-in_ok-push-clause-numbers
returns-in_ok-push-clause-numbers c =
    let P : List NodeId → Type 0 = λ types. AreNumbers types c.insert.new.self.entries in
    subst P (ap (λ id. c.args.types.now.items ++ id ∷ []) (sym c.in_ok-copy-2.ensures.copy) ∙ sym c.in_ok-push.ensures.items)
    (numbers_more c.args.types.now.items c.args.numbers.now.entries c.insert.new.self.entries c.args.id.now c.requires (none c) (added c))

pub returns-in_ok-push-clause-kept : goal.returns-in_ok-push-clause-kept
returns-in_ok-push-clause-kept c = λ q n had. still_numbered c.args.numbers.now.entries c.insert.new.self.entries c.args.id.now q n (length c.args.types.now.items) (none c) (added c) had

pub returns-in_ok-push-clause-only : goal.returns-in_ok-push-clause-only
returns-in_ok-push-clause-only c = λ q n has. only_added c.args.numbers.now.entries c.insert.new.self.entries c.args.id.now q n (length c.args.types.now.items) (added c) has
