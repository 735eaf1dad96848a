-- What a subscription meets, under its number.
use Rattle.std.proofs.Common.{◌≡◌, ℕ, Bool, true, false, List, [], ◌∷◌, Option, Some, None, Result, Ok, Err, OnOk, unwrap_or, refl, cond, sym, ap, ◌∙◌}
use Rattle.std.specs.BTreeMap.{is_at}
use Rattle.std.specs.Map.{lookup, set_value}
use Rattle.std.specs.Ordering.{nat_cmp}
use Rattle.server_messages.specs.declared.halt.Halt.{Halt}
use Rattle.ua_monitored_items.specs.Items.{ItemsState}
use Rattle.ua_subscriptions.specs.declared.session_part.SessionSubscriptions.{SessionSubscriptions}
use Rattle.ua_subscriptions.specs.declared.subscription.Subscription.{Subscription}
use Rattle.ua_subscriptions.specs.declared.round.Round.{Round}
use Rattle.ua_subscriptions.specs.Firing.{fired}
use Rattle.ua_subscriptions.specs.Scenes.{Scene, scene, Acts}
use Rattle.ua_subscriptions.specs.Subscriptions.{no_part}
use Rattle.ua_subscriptions.specs.Tables.{part_of, scene_in, set_part}

module _ {K X : Type 0} (test : K → Bool) where
  absent_by : (b : Bool) (e : K × X) (es : List (K × X)) (v : X) → (lookup test es ≡ None → set_value test es v ≡ es) → cond b (Some e.1) (lookup test es) ≡ None → cond b ((e.0, v) ∷ es) (e ∷ set_value test es v) ≡ e ∷ es
  absent_by true e es v rest h = absurd (cc)
  absent_by false e es v rest h = ap (λ (fs : List (K × X)). e ∷ fs) (rest h)

  -- nothing is set where nothing is
  pub set_absent : (es : List (K × X)) (v : X) → lookup test es ≡ None → set_value test es v ≡ es
  set_absent [] v h = refl
  set_absent (e ∷ es) v h = absent_by (test e.0) e es v (set_absent es v) h

-- ---- a row at a subscription whose session has nothing yet

pub absent_scene : (r : Result Unit Halt) (round : Round) (s : Subscription) (k : ℕ) (sessions : List (ℕ × SessionSubscriptions)) (items : ItemsState) (none_yet : SessionSubscriptions) (round2 : Round) (s2 : Subscription) (part2 : SessionSubscriptions) (items2 : ItemsState) →
    none_yet ≡ no_part → s.session ≡ Some k → lookup (is_at (nat_cmp k)) sessions ≡ None → Acts r (scene round2 s2 part2 items2) (fired (scene round s none_yet items)) →
    let after = fired (scene_in round s sessions items) in OnOk r (scene round2 s2 after.part items2 ≡ after)
absent_scene (Ok done) round s k sessions items none_yet round2 s2 part2 items2 new is none left =
    let parts : part_of s.session sessions ≡ none_yet = ap (λ (o : Option ℕ). part_of o sessions) is ∙ ap (λ (o : Option SessionSubscriptions). unwrap_or o no_part) none ∙ sym new in
    let whole : scene round2 s2 part2 items2 ≡ fired (scene_in round s sessions items) = left ∙ ap (λ p. fired (scene round s p items)) (sym parts) in
    ap (λ (c : Scene). scene round2 s2 c.part items2) (sym whole) ∙ whole
absent_scene (Err e) round s k sessions items none_yet round2 s2 part2 items2 new is none left = tt

pub absent_part : (r : Result Unit Halt) (session : Option ℕ) (k : ℕ) (sessions sessions2 : List (ℕ × SessionSubscriptions)) (part : SessionSubscriptions) →
    session ≡ Some k → lookup (is_at (nat_cmp k)) sessions ≡ None → sessions2 ≡ sessions → OnOk r (sessions2 ≡ set_part session sessions part)
absent_part (Ok done) session k sessions sessions2 part is none same =
    same ∙ sym (set_absent (is_at (nat_cmp k)) sessions part none) ∙ ap (λ (o : Option ℕ). set_part o sessions part) (sym is)
absent_part (Err e) session k sessions sessions2 part is none same = tt
