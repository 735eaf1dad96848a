-- Links of items: a result for each entry.
use Rattle.std.proofs.Common.{◌≡◌, ℕ, ◌+◌, List, [], ◌∷◌, length, fold, Option, Some, None, Ok, ap, arith}
use Rattle.std.specs.List.{list_any}
use Rattle.std.specs.BTreeMap.{is_at}
use Rattle.std.specs.Ordering.{nat_cmp}
use Rattle.ua_monitored_items.specs.Items.{ItemsState, own_item}
use Rattle.ua_monitored_items.specs.Links.{Linking, link_status, unlinked, may_link, linked, linked_yet, linked_by, link, IsAnswer}
use Rattle.ua_monitored_items.specs.declared.item.Item.{Item}
use Rattle.ua_monitored_items.specs.declared.links.Linked.{Linked}
use Rattle.ua_services.proofs.SubLemmas.{pushed_length}

unlinked_more : (numbers : List ℕ) (before : Linking) → length (fold unlinked before numbers).statuses ≡ length before.statuses + length numbers
unlinked_more [] before = omega arith
unlinked_more (number ∷ numbers) before =
    let rest = unlinked_more numbers (unlinked before number) in
    let one = pushed_length before.statuses (link_status (list_any (is_at (nat_cmp number)) before.numbers)) in
    omega (arith, rest, one)

module _ (s : ItemsState) (subscription triggering : ℕ) where
  linked_more : (numbers : List ℕ) (before : Linking) → length (fold (linked s subscription triggering) before numbers).statuses ≡ length before.statuses + length numbers
  linked_more [] before = omega arith
  linked_more (number ∷ numbers) before =
      let rest = linked_more numbers (linked s subscription triggering before number) in
      let one = pushed_length before.statuses (link_status (may_link s subscription triggering number)) in
      omega (arith, rest, one)

  by_item : (add remove : List ℕ) (answer : Linked) (item : Option Item) → IsAnswer (Ok answer) (linked_by s subscription triggering add remove item) → (length answer.added.items ≡ length add) × (length answer.removed.items ≡ length remove)
  by_item add remove answer None h = absurd h
  by_item add remove answer (Some item) h =
      let start : Linking = record { statuses = []; numbers = linked_yet s subscription item add remove } in
      let less = fold unlinked start remove in
      let added = ap length h.0 in
      let removed = ap length h.1 in
      let more = linked_more add (record { statuses = []; numbers = less.numbers }) in
      let fewer = unlinked_more remove start in
      (omega (arith, added, more), omega (arith, removed, fewer))

  -- each entry has its result
  pub links_length : (add remove : List ℕ) (answer : Linked) → IsAnswer (Ok answer) (link s subscription triggering add remove) → (length answer.added.items ≡ length add) × (length answer.removed.items ≡ length remove)
  unfolding link
  links_length add remove answer h = by_item add remove answer (own_item s subscription triggering) h
