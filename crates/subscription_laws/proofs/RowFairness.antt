-- What the table is told of a row is fair.
use Rattle.std.proofs.Common.{◌≡◌, ℕ, ◌&&◌, Bool, true, false, List, [], ◌∷◌, drop, refl, arith, sym, ap, ◌∙◌, subst}
use Rattle.std.proofs.lemmas.Bool.{both_ways, cond_both}
use Rattle.std.specs.Option.{is_some}
use Rattle.ua_state_table.specs.Steady.{AreFair, AreRevised}
use Rattle.ua_state_table.specs.declared.row.RowId.{RowId}
use Rattle.ua_state_table.specs.declared.row.RowId.TheVariants.{N2, N3, L1, K2}
use Rattle.ua_monitored_items.specs.Items.{is_available}
use Rattle.ua_subscriptions.specs.declared.publish_call.PublishCall.{PublishCall}
use Rattle.ua_subscriptions.specs.Scenes.{Sending, Scene, Noting, noting, note_sent, rest_sent, notes_sent, with_asked, dequeued, started, life_reset, row_done}
use Rattle.ua_subscriptions.specs.Settings.{revised_keep_alive_count, revised_lifetime_count}
use Rattle.subscription_laws.specs.Standings.{circumstances, sends_notes}
use Rattle.ua_subscriptions.specs.Subscriptions.{is_any}
use Rattle.subscription_laws.proofs.Owners.{note_own, rest_keeps}

pub revised : (keep_alive lifetime : ℕ) → AreRevised (revised_keep_alive_count keep_alive) (revised_lifetime_count (revised_keep_alive_count keep_alive) lifetime)
revised keep_alive lifetime = record { keep_alive = grind arith; lifetime = grind arith }

-- values are left over where they are there
abbrev Tells : ℕ → Noting → Type 0
Tells own n = n.subscription.more ≡ is_available n.items own

note_tells : (n : Noting) → Tells n.round.own (note_sent n)
unfolding note_sent
note_tells n = refl

rest_tells : (own : ℕ) (calls : List PublishCall) (n : Noting) → n.round.own ≡ own → Tells own n → Tells own (rest_sent calls n).noting
rest_tells own calls n is h =
    (rest_keeps (λ (m : Noting). (m.round.own ≡ own) × Tells own m)
    (λ m call k. (note_own (with_asked m call) ∙ k.0, subst (λ (o : ℕ). Tells o (note_sent (with_asked m call))) k.0 (note_tells (with_asked m call)))) calls n (is, h)).1

notes_tell : (calls : List PublishCall) (n : Noting) → Tells n.round.own (notes_sent calls n).noting
unfolding notes_sent
notes_tell calls n = rest_tells n.round.own calls (note_sent n) (note_own n) (note_tells n)

-- and then no request is left
rest_left : (calls : List PublishCall) (n : Noting) → (rest_sent calls n).noting.subscription.more ≡ true → (rest_sent calls n).requests ≡ []
rest_left [] n h = refl
rest_left (call ∷ calls) n h =
    cond_both n.subscription.more _ _ (λ (sent : Sending). sent.noting.subscription.more ≡ true → sent.requests ≡ []) (λ more. rest_left calls (note_sent (with_asked n call))) (λ none e. absurd (both_ways n.subscription.more none e)) h

notes_leave : (calls : List PublishCall) (n : Noting) → (notes_sent calls n).noting.subscription.more ≡ true → (notes_sent calls n).requests ≡ []
unfolding notes_sent
notes_leave calls n h = rest_left calls (note_sent n) h

none_queued : (b : Bool) (calls : List PublishCall) → calls ≡ [] → (b && is_any calls) ≡ false
none_queued true calls h = ap is_any h
none_queued false calls h = refl

-- what is told of a row is fair
abbrev Fair : RowId → Scene → Type 0
Fair r c = AreFair (circumstances r c (row_done r c))

fair_N2 : (c : Scene) → Fair N2 c
unfolding row_done
fair_N2 c =
    let n = noting c.round (life_reset c.subscription) c.items in
    let left = notes_sent c.part.requests n in
    record {
      revised = revised _ _;
      left_available = λ h. sym (notes_tell c.part.requests n) ∙ h;
      left_unasked = λ h. none_queued (is_some left.noting.subscription.session) left.requests (notes_leave c.part.requests n h);
    }

fair_N3 : (c : Scene) → Fair N3 c
unfolding row_done
fair_N3 c =
    let n = noting (dequeued c.round c.part).round (started c.round (life_reset c.subscription)) c.items in
    let left = notes_sent (drop 1 c.part.requests) n in
    record {
      revised = revised _ _;
      left_available = λ h. sym (notes_tell (drop 1 c.part.requests) n) ∙ h;
      left_unasked = λ h. none_queued (is_some left.noting.subscription.session) left.requests (notes_leave (drop 1 c.part.requests) n h);
    }

-- a row that sends no notifications leaves none over
silent : (r : RowId) (c : Scene) → sends_notes r ≡ false → Fair r c
silent r c none = record {
  revised = revised _ _;
  left_available = λ h. absurd (never (sends_notes r) _ none h);
  left_unasked = λ h. absurd (never (sends_notes r) _ none h);
}
  where
    never : (a b : Bool) → a ≡ false → (a && b) ≡ true → ⊥
    never true b e f = cc
    never false b e f = cc

-- what is told of any row is fair
pub fair : (r : RowId) (c : Scene) → Fair r c
unfolding row_done
fair N2 c = fair_N2 c
fair L1 c = fair_N2 c
fair N3 c = fair_N3 c
fair K2 c = fair_N3 c
fair r c = silent r c refl
