use Rattle.std.proofs.Common.{◌≡◌, ◌≤◌, ◌<◌, ◌+◌, ◌∙◌, ◌∷◌, ◌++◌, ap, subst, sym, refl, w64, FitsSigned, rules, length, drop, IsOk, deque_len, deque_capacity, arith}
use Rattle.std.proofs.lemmas.List.{take-append-drop}
use Rattle.std.specs.BTreeMap.{insert_entry}
use Rattle.std.specs.Ordering.{int_cmp}
use Rattle.std.proofs.lemmas.Int.{to_z-of_z}
use Rattle.collections.proofs.Changes.{found}
use Rattle.collections.proofs.Splitting.{how_full, set_same, put_back, never_gone, lowered_is, first_and_rest, split_done}
use Rattle.collections.specs.Laid.{joined, IsLaid}
use Rattle.collections.proofs.laid.split.Goals as goal
use Rattle.collections.proofs.laid.split.Goals.{in-Some-get_mut, in_default-get_mut}

pub unreachable-requires : goal.unreachable-requires
unreachable-requires g c =
    let is = rw (to_z-of_z w64 c.args.start c.ranges.start) at c.in_default.ensures.value in
    let there = found c.args.time c.args.segments.now.entries c.args.start c.requires.belongs c.get_mut.ensures.ordered c.requires.laid in
    cc

pub split_off-requires : goal.split_off-requires
split_off-requires g c =
    let is = rw (to_z-of_z w64 c.args.start c.ranges.start) at c.in-Some.ensures.value in
    let size = how_full c.args.time c.args.segments.now.entries c.args.start c.requires.belongs c.get_mut.ensures.ordered c.requires.laid c.requires.full c.in-Some.segment.now is in
    let same = c.in-Some.segment.now.ok.0 in
    omega (arith, size, same)

pub returns-in_err-later-clause-same : goal.returns-in_err-later-clause-same
returns-in_err-later-clause-same g c =
    let is = rw (to_z-of_z w64 c.args.start c.ranges.start) at c.in-Some.ensures.value in
    let set = rw (to_z-of_z w64 c.args.start c.ranges.start) at (c.get_mut.follows.holds c.split_off.new.self).0 in
    ap joined set
    ∙ (set_same c.args.time c.args.segments.now.entries c.args.start c.requires.belongs c.get_mut.ensures.ordered c.requires.laid c.in-Some.segment.now c.split_off.new.self is (ap (λ q. q.items) c.in_err-later.ensures.err)).same

pub returns-in_err-later-clause-laid : goal.returns-in_err-later-clause-laid
returns-in_err-later-clause-laid g c =
    let is = rw (to_z-of_z w64 c.args.start c.ranges.start) at c.in-Some.ensures.value in
    let set = rw (to_z-of_z w64 c.args.start c.ranges.start) at (c.get_mut.follows.holds c.split_off.new.self).0 in
    subst IsLaid (sym set)
    (set_same c.args.time c.args.segments.now.entries c.args.start c.requires.belongs c.get_mut.ensures.ordered c.requires.laid c.in-Some.segment.now c.split_off.new.self is (ap (λ q. q.items) c.in_err-later.ensures.err)).laid

pub index-requires : goal.index-requires
index-requires g c =
    let is = rw (to_z-of_z w64 c.args.start c.ranges.start) at c.in-Some.ensures.value in
    let size = how_full c.args.time c.args.segments.now.entries c.args.start c.requires.belongs c.get_mut.ensures.ordered c.requires.laid c.requires.full c.in-Some.segment.now is in
    let same = c.in-Some.segment.now.ok.0 in
    omega (arith, size, same, c.in_ok-later.ensures.tail_len)

pub returns-in-Ok-clause-belongs : goal.returns-in-Ok-clause-belongs
returns-in-Ok-clause-belongs g c =
    let q = c.in-Some.segment.now in
    let lower = c.split_off.new.self in
    let upper = c.in_ok-later.later in
    let e = c.index.result.now in
    let ss = c.args.segments.now.entries in
    let is = rw (to_z-of_z w64 c.args.start c.ranges.start) at c.in-Some.ensures.value in
    let set = rw (to_z-of_z w64 c.args.start c.ranges.start) at (c.get_mut.follows.holds lower).0 in
    let size = how_full c.args.time ss c.args.start c.requires.belongs c.get_mut.ensures.ordered c.requires.laid c.requires.full q is in
    let some : 0 < length upper.items = let n = q.ok.0 in let m = upper.ok.0 in omega (arith, size, n, m, c.in_ok-later.ensures.tail_len) in
    let few : length lower.items ≡ 32 = let m = lower.ok.0 in omega (arith, m, c.in_ok-later.ensures.len) in
    let up : upper.items ≡ e ∷ drop 1 upper.items = first_and_rest upper.items e some ∙ ap (λ x. x ∷ drop 1 upper.items) (sym c.index.ensures) in
    let whole : q.items ≡ lower.items ++ e ∷ drop 1 upper.items =
    sym (take-append-drop 32 q.items) ∙ ap (λ l. l ++ drop 32 q.items) (sym c.in_ok-later.ensures.items) ∙ ap (λ l. lower.items ++ l) (sym c.in_ok-later.ensures.tail ∙ up) in
    let fits : FitsSigned w64 e.0 = search rules in
    let entries = rw (to_z-of_z w64 e.0 fits) at c.in-Ok.ensures.entries in
    let done = split_done c.args.time ss c.args.start c.requires.belongs c.get_mut.ensures.ordered c.requires.laid q lower upper is size lower.items (drop 1 upper.items) e few whole refl up c.requires.sorted
    c.insert.new.self.entries (entries ∙ ap (λ l. insert_entry int_cmp l e.0 upper) set) c.insert.ensures.ordered in
    let half = rw (to_z-of_z w64 c.args.start c.ranges.start, to_z-of_z w64 c.args.time c.ranges.time, to_z-of_z w64 e.0 fits) at c.half_for.ensures in
    let half_fits : FitsSigned w64 c.half_for.result = search rules in
    rw (to_z-of_z w64 c.half_for.result half_fits, half) done.belongs

pub returns-in-Ok-clause-room : goal.returns-in-Ok-clause-room
returns-in-Ok-clause-room g c =
    let q = c.in-Some.segment.now in
    let lower = c.split_off.new.self in
    let upper = c.in_ok-later.later in
    let e = c.index.result.now in
    let ss = c.args.segments.now.entries in
    let is = rw (to_z-of_z w64 c.args.start c.ranges.start) at c.in-Some.ensures.value in
    let set = rw (to_z-of_z w64 c.args.start c.ranges.start) at (c.get_mut.follows.holds lower).0 in
    let size = how_full c.args.time ss c.args.start c.requires.belongs c.get_mut.ensures.ordered c.requires.laid c.requires.full q is in
    let some : 0 < length upper.items = let n = q.ok.0 in let m = upper.ok.0 in omega (arith, size, n, m, c.in_ok-later.ensures.tail_len) in
    let few : length lower.items ≡ 32 = let m = lower.ok.0 in omega (arith, m, c.in_ok-later.ensures.len) in
    let up : upper.items ≡ e ∷ drop 1 upper.items = first_and_rest upper.items e some ∙ ap (λ x. x ∷ drop 1 upper.items) (sym c.index.ensures) in
    let whole : q.items ≡ lower.items ++ e ∷ drop 1 upper.items =
    sym (take-append-drop 32 q.items) ∙ ap (λ l. l ++ drop 32 q.items) (sym c.in_ok-later.ensures.items) ∙ ap (λ l. lower.items ++ l) (sym c.in_ok-later.ensures.tail ∙ up) in
    let fits : FitsSigned w64 e.0 = search rules in
    let entries = rw (to_z-of_z w64 e.0 fits) at c.in-Ok.ensures.entries in
    let done = split_done c.args.time ss c.args.start c.requires.belongs c.get_mut.ensures.ordered c.requires.laid q lower upper is size lower.items (drop 1 upper.items) e few whole refl up c.requires.sorted
    c.insert.new.self.entries (entries ∙ ap (λ l. insert_entry int_cmp l e.0 upper) set) c.insert.ensures.ordered in
    let half = rw (to_z-of_z w64 c.args.start c.ranges.start, to_z-of_z w64 c.args.time c.ranges.time, to_z-of_z w64 e.0 fits) at c.half_for.ensures in
    let half_fits : FitsSigned w64 c.half_for.result = search rules in
    rw (to_z-of_z w64 c.half_for.result half_fits, half) done.room

pub returns-in-Ok-clause-same : goal.returns-in-Ok-clause-same
returns-in-Ok-clause-same g c =
    let q = c.in-Some.segment.now in
    let lower = c.split_off.new.self in
    let upper = c.in_ok-later.later in
    let e = c.index.result.now in
    let ss = c.args.segments.now.entries in
    let is = rw (to_z-of_z w64 c.args.start c.ranges.start) at c.in-Some.ensures.value in
    let set = rw (to_z-of_z w64 c.args.start c.ranges.start) at (c.get_mut.follows.holds lower).0 in
    let size = how_full c.args.time ss c.args.start c.requires.belongs c.get_mut.ensures.ordered c.requires.laid c.requires.full q is in
    let some : 0 < length upper.items = let n = q.ok.0 in let m = upper.ok.0 in omega (arith, size, n, m, c.in_ok-later.ensures.tail_len) in
    let few : length lower.items ≡ 32 = let m = lower.ok.0 in omega (arith, m, c.in_ok-later.ensures.len) in
    let up : upper.items ≡ e ∷ drop 1 upper.items = first_and_rest upper.items e some ∙ ap (λ x. x ∷ drop 1 upper.items) (sym c.index.ensures) in
    let whole : q.items ≡ lower.items ++ e ∷ drop 1 upper.items =
    sym (take-append-drop 32 q.items) ∙ ap (λ l. l ++ drop 32 q.items) (sym c.in_ok-later.ensures.items) ∙ ap (λ l. lower.items ++ l) (sym c.in_ok-later.ensures.tail ∙ up) in
    let fits : FitsSigned w64 e.0 = search rules in
    let entries = rw (to_z-of_z w64 e.0 fits) at c.in-Ok.ensures.entries in
    let done = split_done c.args.time ss c.args.start c.requires.belongs c.get_mut.ensures.ordered c.requires.laid q lower upper is size lower.items (drop 1 upper.items) e few whole refl up c.requires.sorted
    c.insert.new.self.entries (entries ∙ ap (λ l. insert_entry int_cmp l e.0 upper) set) c.insert.ensures.ordered in
    done.same

pub returns-in-Ok-clause-laid : goal.returns-in-Ok-clause-laid
returns-in-Ok-clause-laid g c =
    let q = c.in-Some.segment.now in
    let lower = c.split_off.new.self in
    let upper = c.in_ok-later.later in
    let e = c.index.result.now in
    let ss = c.args.segments.now.entries in
    let is = rw (to_z-of_z w64 c.args.start c.ranges.start) at c.in-Some.ensures.value in
    let set = rw (to_z-of_z w64 c.args.start c.ranges.start) at (c.get_mut.follows.holds lower).0 in
    let size = how_full c.args.time ss c.args.start c.requires.belongs c.get_mut.ensures.ordered c.requires.laid c.requires.full q is in
    let some : 0 < length upper.items = let n = q.ok.0 in let m = upper.ok.0 in omega (arith, size, n, m, c.in_ok-later.ensures.tail_len) in
    let few : length lower.items ≡ 32 = let m = lower.ok.0 in omega (arith, m, c.in_ok-later.ensures.len) in
    let up : upper.items ≡ e ∷ drop 1 upper.items = first_and_rest upper.items e some ∙ ap (λ x. x ∷ drop 1 upper.items) (sym c.index.ensures) in
    let whole : q.items ≡ lower.items ++ e ∷ drop 1 upper.items =
    sym (take-append-drop 32 q.items) ∙ ap (λ l. l ++ drop 32 q.items) (sym c.in_ok-later.ensures.items) ∙ ap (λ l. lower.items ++ l) (sym c.in_ok-later.ensures.tail ∙ up) in
    let fits : FitsSigned w64 e.0 = search rules in
    let entries = rw (to_z-of_z w64 e.0 fits) at c.in-Ok.ensures.entries in
    let done = split_done c.args.time ss c.args.start c.requires.belongs c.get_mut.ensures.ordered c.requires.laid q lower upper is size lower.items (drop 1 upper.items) e few whole refl up c.requires.sorted
    c.insert.new.self.entries (entries ∙ ap (λ l. insert_entry int_cmp l e.0 upper) set) c.insert.ensures.ordered in
    done.laid

pub returns-clause-same : goal.returns-clause-same
returns-clause-same g c =
    let q = c.in-Some.segment.now in
    let lower = c.split_off.new.self in
    let ss = c.args.segments.now.entries in
    let is = rw (to_z-of_z w64 c.args.start c.ranges.start) at c.in-Some.ensures.value in
    let set = c.in-Err.ensures.err ∙ rw (to_z-of_z w64 c.args.start c.ranges.start) at (c.get_mut.follows.holds lower).0 in
    elim c.match-get_mut-2.branch [
      | in-Some-get_mut w ↦
          let s = w.in-Some-get_mut.segment.now in
          let p = w.append.new.self in
          let got = rw (to_z-of_z w64 c.args.start c.ranges.start) at w.in-Some-get_mut.ensures.value in
          let again = rw (to_z-of_z w64 c.args.start c.ranges.start) at (c.get_mut-in-Err.follows.holds p).0 in
          let upper : c.in-Err.failed.value.1 ≡ c.in_ok-later.later = ap (λ v. v.1) c.in-Err.ensures.value_returned in
          let lowered = lowered_is c.args.time ss c.args.start c.requires.belongs c.get_mut.ensures.ordered c.requires.laid lower s c.insert.new.self.entries set got in
          let room : deque_len s + deque_len c.in-Err.failed.value.1 ≤ deque_capacity s =
          let a = ap deque_len lowered in let b = ap deque_capacity lowered in let d = ap deque_len upper in
          let e = c.in_ok-later.ensures.capacity in let f = c.in_ok-later.ensures.len in let n = c.in_ok-later.ensures.tail_len in let m = q.small.1 in
          omega (arith, a, b, d, e, f, n, m) in
          let ok : IsOk w.append.result = w.append.ensures.succeeds room in
          let items : p.items ≡ s.items ++ c.in_ok-later.later.items = w.append.ensures.items ∙ rw ok refl ∙ ap (λ x. s.items ++ x.items) upper in
          let kept = put_back c.args.time ss c.args.start c.requires.belongs c.get_mut.ensures.ordered c.requires.laid q lower c.in_ok-later.later s p c.insert.new.self.entries (c.get_mut-in-Err.follows.lender p).entries is set got again items
          c.in_ok-later.ensures.items c.in_ok-later.ensures.tail in
          ap (λ m. joined m.entries) w.segments-is ∙ kept.same
      | in_default-get_mut w ↦ absurd (never_gone c.args.time ss c.args.start c.requires.belongs c.get_mut.ensures.ordered c.requires.laid lower c.insert.new.self.entries set (rw (to_z-of_z w64 c.args.start c.ranges.start) at w.in_default-get_mut.ensures.value))
    ]

pub returns-clause-laid : goal.returns-clause-laid
returns-clause-laid g c =
    let q = c.in-Some.segment.now in
    let lower = c.split_off.new.self in
    let ss = c.args.segments.now.entries in
    let is = rw (to_z-of_z w64 c.args.start c.ranges.start) at c.in-Some.ensures.value in
    let set = c.in-Err.ensures.err ∙ rw (to_z-of_z w64 c.args.start c.ranges.start) at (c.get_mut.follows.holds lower).0 in
    elim c.match-get_mut-2.branch [
      | in-Some-get_mut w ↦
          let s = w.in-Some-get_mut.segment.now in
          let p = w.append.new.self in
          let got = rw (to_z-of_z w64 c.args.start c.ranges.start) at w.in-Some-get_mut.ensures.value in
          let again = rw (to_z-of_z w64 c.args.start c.ranges.start) at (c.get_mut-in-Err.follows.holds p).0 in
          let upper : c.in-Err.failed.value.1 ≡ c.in_ok-later.later = ap (λ v. v.1) c.in-Err.ensures.value_returned in
          let lowered = lowered_is c.args.time ss c.args.start c.requires.belongs c.get_mut.ensures.ordered c.requires.laid lower s c.insert.new.self.entries set got in
          let room : deque_len s + deque_len c.in-Err.failed.value.1 ≤ deque_capacity s =
          let a = ap deque_len lowered in let b = ap deque_capacity lowered in let d = ap deque_len upper in
          let e = c.in_ok-later.ensures.capacity in let f = c.in_ok-later.ensures.len in let n = c.in_ok-later.ensures.tail_len in let m = q.small.1 in
          omega (arith, a, b, d, e, f, n, m) in
          let ok : IsOk w.append.result = w.append.ensures.succeeds room in
          let items : p.items ≡ s.items ++ c.in_ok-later.later.items = w.append.ensures.items ∙ rw ok refl ∙ ap (λ x. s.items ++ x.items) upper in
          let kept = put_back c.args.time ss c.args.start c.requires.belongs c.get_mut.ensures.ordered c.requires.laid q lower c.in_ok-later.later s p c.insert.new.self.entries (c.get_mut-in-Err.follows.lender p).entries is set got again items
          c.in_ok-later.ensures.items c.in_ok-later.ensures.tail in
          subst (λ m. IsLaid m.entries) (sym w.segments-is) kept.laid
      | in_default-get_mut w ↦ absurd (never_gone c.args.time ss c.args.start c.requires.belongs c.get_mut.ensures.ordered c.requires.laid lower c.insert.new.self.entries set (rw (to_z-of_z w64 c.args.start c.ranges.start) at w.in_default-get_mut.ensures.value))
    ]
