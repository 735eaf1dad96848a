-- What the points of a session keep.
use Rattle.std.proofs.Common.{◌≡◌, ◌≢◌, ℕ, ◌+◌, ◌-◌, ◌<◌, ◌≤◌, Bool, true, false, cond, Option, Some, None, is_some, Err, refl, sym, ap, subst, ◌∙◌, arith}
use Rattle.std.proofs.lemmas.Bool.{leb-false}
use Rattle.std.specs.Cmp.{nat_cmp_total}
use Rattle.std.specs.FinMap.{FinMap, get, insert, remove, len, len-empty, len-insert, len-remove, contains_key, get-empty, get-insert, get-remove}
use Rattle.std.specs.Ordering.{nat_cmp, eq_by_cmp}
use Rattle.collections.proofs.NumberMaps.{get_inserted_elsewhere}
use Rattle.ua_types.specs.Answers.{step}
use Rattle.ua_types.specs.declared.status.TheConstants.Status as status
use Rattle.ua_session.specs.PointLaws.{IsSound, StaySound}
use Rattle.ua_session.specs.Points.{PointsState, is_full, hold_of, put_of, replace_of, without_point}
use Rattle.ua_session.specs.declared.points.Point.{Point}

one_more : (b : Bool) (n : ℕ) → cond b n (n + 1) ≤ n + 1
one_more true n = omega arith
one_more false n = omega arith

no_more : (b : Bool) (n : ℕ) → cond b (n - 1) n ≤ n
no_more true n = omega arith
no_more false n = omega arith

gone : (b : Bool) (slot : Option Point) → slot ≡ None → cond b None slot ≡ None
gone true slot e = refl
gone false slot e = e

-- a point more has the next serial
fresh_with : (s : PointsState) (point : Point) → IsSound s → (serial : ℕ) → s.made + 1 < serial → get (insert s.held (s.made + 1) point) serial ≡ None
fresh_with s point h serial above =
    let other : serial ≢ s.made + 1 = λ e. omega (arith, above, e) in
    get_inserted_elsewhere s.held (s.made + 1) point serial other ∙ h.fresh serial (omega (arith, above))

len_with : (s : PointsState) (point : Point) → len (insert s.held (s.made + 1) point) ≤ len s.held + 1
len_with s point = subst (λ (n : ℕ). n ≤ len s.held + 1) (sym (len-insert nat_cmp_total s.held (s.made + 1) point)) (one_more (contains_key s.held (s.made + 1)) (len s.held))

held_sound : (s : PointsState) (point : Point) → IsSound s → (b : Bool) → is_full s ≡ b → IsSound (cond b (step (Err status.BAD_NO_CONTINUATION_POINTS) s) (put_of s point)).state
held_sound s point h true e = h
held_sound s point h false e =
    let room = leb-false s.most (len s.held) e in
    let more = len_with s point in
    record { few = omega (arith, room, more); fresh = fresh_with s point h }

hold_sound : (s : PointsState) (point : Point) → IsSound s → IsSound (hold_of s point).state
unfolding hold_of
hold_sound s point h = held_sound s point h (is_full s) refl

without_few : (m : FinMap nat_cmp Point) (serial : ℕ) → len (remove m serial) ≤ len m
without_few m serial = subst (λ (n : ℕ). n ≤ len m) (sym (len-remove nat_cmp_total m serial)) (no_more (contains_key m serial) (len m))

without_sound : (s : PointsState) (serial : ℕ) → IsSound s → IsSound (without_point s serial)
without_sound s serial h =
    let less = without_few s.held serial in
    let few = h.few in
    record { few = omega (arith, less, few); fresh = λ q above. get-remove nat_cmp_total s.held serial q ∙ gone (eq_by_cmp nat_cmp q serial) (get s.held q) (h.fresh q above) }

still_there : (b : Bool) (point : Point) (slot : Option Point) → is_some slot ≡ true → is_some (cond b (Some point) slot) ≡ true
still_there true point slot e = refl
still_there false point slot e = e

-- a point that is taken out again makes as much room as the new one takes
replaced_few : (m : FinMap nat_cmp Point) (serial : ℕ) → is_some (get m serial) ≡ true → len (remove m serial) ≡ len m - 1
replaced_few m serial e = len-remove nat_cmp_total m serial ∙ ap (λ (b : Bool). cond b (len m - 1) (len m)) e

replace_sound : (s : PointsState) (serial : ℕ) (point : Point) → is_some (get s.held serial) ≡ true → IsSound s → IsSound (replace_of s serial point).state
unfolding replace_of
replace_sound s serial point there h =
    let grown = insert s.held (s.made + 1) point in
    let still : is_some (get grown serial) ≡ true =
    ap is_some (get-insert nat_cmp_total s.held (s.made + 1) point serial) ∙ still_there (eq_by_cmp nat_cmp serial (s.made + 1)) point (get s.held serial) there
    in
    let less = replaced_few grown serial still in
    let more = len_with s point in
    let few = h.few in
    record {
      few = omega (arith, less, more, few);
      fresh = λ q above. get-remove nat_cmp_total grown serial q ∙ gone (eq_by_cmp nat_cmp q serial) (get grown q) (fresh_with s point h q above);
    }

pub stay_sound : StaySound
stay_sound = record {
  new = λ most. record { few = subst (λ (n : ℕ). n ≤ most) (sym (len-empty nat_cmp Point)) (omega arith); fresh = λ serial above. get-empty nat_cmp serial };
  held = hold_sound;
  replaced = replace_sound;
  given_up = without_sound;
}
