-- The row that fires keeps a subscription steady, and what follows from that.
use Rattle.std.proofs.Common.{◌≡◌, ◌≢◌, ℕ, ◌+◌, ◌<◌, ◌≤◌, ◌==◌, Bool, true, false, not, ◌&&◌, ◌||◌, cond, [], ◌∷◌, refl, arith, subst, sym, ap, ◌∙◌}
use Rattle.ua_state_table.specs.declared.state.State.{State}
use Rattle.ua_state_table.specs.declared.state.State.TheVariants.{Closed, Normal, Late, KeepAlive}
use Rattle.ua_state_table.specs.declared.event.TableEvent.{TableEvent}
use Rattle.ua_state_table.specs.declared.event.TableEvent.TheVariants.{Create, Publish, Timer, Modify, SetMode, Republish, Delete, Items, SessionEnd, Shutdown}
use Rattle.ua_state_table.specs.declared.row.RowId.{RowId}
use Rattle.ua_state_table.specs.declared.row.RowId.TheVariants.{N1, N2, N3, N4, N5, N6, L1, L2, K2, K3, K4, K5, G6}
use Rattle.ua_state_table.specs.Events.{fits}
use Rattle.ua_state_table.specs.StateTable.{fires, next_of}
use Rattle.ua_state_table.specs.Sound.{IsSound}
use Rattle.ua_state_table.specs.Chosen.{answers, timer_row, publish_row, chosen}
use Rattle.ua_state_table.specs.Doing.{Standing, Circumstances, after}
use Rattle.ua_state_table.specs.Steady.{IsSteady, AreFair, is_waiting}
use Rattle.ua_state_table.specs.Laws.{TimesOut, with_values, with_queued}
use Rattle.ua_state_table.proofs.OneRow.{one_row}
use Rattle.ua_state_table.proofs.KeptLemmas.{begins, keeps_N1, keeps_N2, keeps_N3, keeps_N4, keeps_N5, keeps_N6, keeps_L1, keeps_L2, keeps_L3, keeps_K1, keeps_K2, keeps_K3, keeps_K4, keeps_K5, keeps_G1, keeps_G2, keeps_G3, keeps_G4, keeps_G7, keeps_G9}

-- what a row leaves: closed, or steady
abbrev Leaves : Circumstances → Standing → RowId → Type 0
Leaves c s r = next_of r s.vars.state ≢ Closed → IsSteady (after c r s)

above : (n : ℕ) → 1 ≤ n → (n == 1) ≡ false → 2 ≤ n
above n h e = grind arith

is_one : (n : ℕ) → (n == 1) ≡ true → n ≡ 1
is_one n e = grind arith

timer_normal : (c : Circumstances) (s : Standing) (ea q se : Bool) → s.vars.state ≡ Normal → 2 ≤ s.vars.lifetime → (s.vars.enabled && s.vars.available) ≡ ea → s.vars.queued ≡ q → AreFair c → IsSteady s → Leaves c s (cond q (cond ea N3 (cond se N6 N4)) (cond (not se || ea) N5 N6))
timer_normal c s true true se at l e q f h _ = keeps_N3 c s at l q e f h
timer_normal c s false true true at l e q f h _ = keeps_N6 c s at l e f h
timer_normal c s false true false at l e q f h _ = keeps_N4 c s at l q e f h
timer_normal c s true false true at l e q f h _ = keeps_N5 c s at l q f h
timer_normal c s true false false at l e q f h _ = keeps_N5 c s at l q f h
timer_normal c s false false true at l e q f h _ = keeps_N6 c s at l e f h
timer_normal c s false false false at l e q f h _ = keeps_N5 c s at l q f h

timer_keepalive : (c : Circumstances) (s : Standing) (ea q k1 : Bool) → s.vars.state ≡ KeepAlive → 2 ≤ s.vars.lifetime → (s.vars.enabled && s.vars.available) ≡ ea → s.vars.queued ≡ q → (s.vars.keep_alive == 1) ≡ k1 → AreFair c → IsSteady s → Leaves c s (cond q (cond ea K2 (cond k1 K3 K4)) (cond (k1 || ea) K5 K4))
timer_keepalive c s true true k1 at l e q k f h _ = keeps_K2 c s at l q e f h
timer_keepalive c s false true true at l e q k f h _ = keeps_K3 c s at l q (is_one _ k) e f h
timer_keepalive c s false true false at l e q k f h _ = keeps_K4 c s at l (above _ h.keep_least k) e f h
timer_keepalive c s true false true at l e q k f h _ = keeps_K5 c s at l q f h
timer_keepalive c s true false false at l e q k f h _ = keeps_K5 c s at l q f h
timer_keepalive c s false false true at l e q k f h _ = keeps_K5 c s at l q f h
timer_keepalive c s false false false at l e q k f h _ = keeps_K4 c s at l (above _ h.keep_least k) e f h

timer_above : (c : Circumstances) (s : Standing) (t : State) → s.vars.state ≡ t → 2 ≤ s.vars.lifetime → AreFair c → IsSteady s → Leaves c s (timer_row t (answers s.vars))
timer_above c s Normal at l f h = timer_normal c s (s.vars.enabled && s.vars.available) s.vars.queued s.vars.sent at l refl refl f h
timer_above c s Late at l f h = λ _. keeps_L3 c s at l f h
timer_above c s KeepAlive at l f h = timer_keepalive c s (s.vars.enabled && s.vars.available) s.vars.queued (s.vars.keep_alive == 1) at l refl refl refl f h
timer_above c s Closed at l f h = absurd (h.live at)

timer_any : (c : Circumstances) (s : Standing) (last : Bool) → (s.vars.lifetime == 1) ≡ last → AreFair c → IsSteady s → Leaves c s (cond last G6 (timer_row s.vars.state (answers s.vars)))
timer_any c s true e f h = λ live. absurd (live refl)
timer_any c s false e f h = timer_above c s s.vars.state refl (above _ h.life_least e) f h

publish_normal : (c : Circumstances) (s : Standing) (em : Bool) → s.vars.state ≡ Normal → (s.vars.enabled && s.vars.more) ≡ em → AreFair c → IsSteady s → Leaves c s (cond em N2 N1)
publish_normal c s true at e f h = λ _. keeps_N2 c s at e f h
publish_normal c s false at e f h = λ _. keeps_N1 c s at e f h

publish_late : (c : Circumstances) (s : Standing) (ea : Bool) → s.vars.state ≡ Late → (s.vars.enabled && s.vars.available) ≡ ea → AreFair c → IsSteady s → Leaves c s (cond ea L1 L2)
publish_late c s true at e f h = λ _. keeps_L1 c s at e f h
publish_late c s false at e f h = λ _. keeps_L2 c s at e f h

publish_any : (c : Circumstances) (s : Standing) (t : State) → s.vars.state ≡ t → AreFair c → IsSteady s → Leaves c s (publish_row t (answers s.vars))
publish_any c s Normal at f h = publish_normal c s (s.vars.enabled && s.vars.more) at refl f h
publish_any c s Late at f h = publish_late c s (s.vars.enabled && s.vars.available) at refl f h
publish_any c s KeepAlive at f h = λ _. keeps_K1 c s at f h
publish_any c s Closed at f h = absurd (h.live at)

leaves : (c : Circumstances) (s : Standing) (e : TableEvent) → AreFair c → IsSteady s → Leaves c s (chosen s.vars e)
leaves c s Publish f h = publish_any c s s.vars.state refl f h
leaves c s Timer f h = timer_any c s (s.vars.lifetime == 1) refl f h
leaves c s Modify f h = λ _. keeps_G1 c s f h
leaves c s SetMode f h = λ _. keeps_G2 c s f h
leaves c s (Republish true) f h = λ _. keeps_G3 c s f h
leaves c s (Republish false) f h = λ _. keeps_G4 c s f h
leaves c s Delete f h = λ live. absurd (live refl)
leaves c s Items f h = λ _. keeps_G7 c s f h
leaves c s (SessionEnd true) f h = λ live. absurd (live refl)
leaves c s (SessionEnd false) f h = λ _. keeps_G9 c s f h
leaves c s Shutdown f h = λ live. absurd (live refl)
leaves c s (Create true) f h = λ live. absurd (live refl)
leaves c s (Create false) f h = λ _. begins c s f

-- steady subscriptions are sound
early : (s : Standing) → IsSteady s → s.vars.state ≢ Late → 2 ≤ s.vars.lifetime
early s h not_late = by s.vars.state refl
  where
    by : (t : State) → s.vars.state ≡ t → 2 ≤ s.vars.lifetime
    by Late e = absurd (not_late e)
    by Normal e = grind (arith, h)
    by KeepAlive e = grind (arith, h)
    by Closed e = absurd (h.live e)

more_both : (s : Standing) → IsSteady s → s.vars.more ≡ true → (s.vars.enabled && s.vars.available) ≡ true
more_both s h e = grind (arith, h)

calm_early : (s : Standing) → IsSteady s → s.vars.queued ≡ true → s.vars.state ≢ Late
calm_early s h q at = let waiting : is_waiting s.vars ≡ true = rw at refl in let calm = h.calm q in absurd (cc)

calm_told : (s : Standing) → IsSteady s → s.vars.queued ≡ true → s.vars.more ≡ false
calm_told s h q = by s.vars.state s.vars.more refl refl
  where
    both : s.vars.state ≡ Normal → s.vars.enabled ≡ true → s.vars.more ≡ true → is_waiting s.vars ≡ true
    both e f g = rw (e, f, g) refl

    by : (t : State) (m : Bool) → s.vars.state ≡ t → s.vars.more ≡ m → s.vars.more ≡ false
    by t false e m = m
    by Normal true e m = let waiting = both e (h.more_enabled m) m in let calm = h.calm q in absurd (cc)
    by Late true e m = absurd (calm_early s h q e)
    by KeepAlive true e m = h.alive_told e
    by Closed true e m = absurd (h.live e)

pub steady_is_sound : (s : Standing) → IsSteady s → IsSound s.vars
steady_is_sound s h _ = record { lifetime = h.life_least; keep_alive = h.keep_least; early = early s h; more = more_both s h; asked = λ q. (calm_early s h q, calm_told s h q) }

head_same : (x y : RowId) → x ∷ [] ≡ y ∷ [] → x ≡ y
head_same x y e = cc

fired_is_chosen : (s : Standing) (e : TableEvent) (r : RowId) → IsSteady s → fits s.vars.state e ≡ true → fires s.vars e ≡ r ∷ [] → chosen s.vars e ≡ r
fired_is_chosen s e r h ok fired = head_same (chosen s.vars e) r (sym (one_row s.vars e (steady_is_sound s h) ok) ∙ fired)

-- every row keeps a subscription steady, or closes it
pub stays_steady : (c : Circumstances) (s : Standing) (e : TableEvent) (r : RowId) → AreFair c → IsSteady s → fits s.vars.state e ≡ true → fires s.vars e ≡ r ∷ [] → next_of r s.vars.state ≢ Closed → IsSteady (after c r s)
stays_steady c s e r f h ok fired = subst (Leaves c s) (fired_is_chosen s e r h ok fired) (leaves c s e f h)

-- fewer timers found a request than the keep-alive count says
pub patient : (s : Standing) → IsSteady s → s.answerable < s.keep_alive_count
patient s h = by s.vars.state refl
  where
    other : s.vars.state ≢ KeepAlive → s.answerable < s.keep_alive_count
    other e = let none = h.none_passed e in let counts = h.revised in grind (arith, none, counts)

    alive : s.vars.state ≡ KeepAlive → s.answerable < s.keep_alive_count
    alive e = let passed = h.alive_passed e in let least = h.keep_least in grind (arith, passed, least)

    by : (t : State) → s.vars.state ≡ t → s.answerable < s.keep_alive_count
    by KeepAlive e = alive e
    by Normal e = other (λ at. absurd (cc))
    by Late e = other (λ at. absurd (cc))
    by Closed e = absurd (h.live e)

-- at a timer that isn't the last it doesn't time out
not_last : (t : State) (ea q se k1 em l1 : Bool) → t ≢ Closed → timer_row t (record { enabled_available = ea; enabled_more = em; queued = q; sent = se; last_keep = k1; last_life = l1 }) ≡ G6 → ⊥
not_last Normal true true true true em l1 n e = absurd (cc)
not_last Normal true true true false em l1 n e = absurd (cc)
not_last Normal true true false true em l1 n e = absurd (cc)
not_last Normal true true false false em l1 n e = absurd (cc)
not_last Normal true false true true em l1 n e = absurd (cc)
not_last Normal true false true false em l1 n e = absurd (cc)
not_last Normal true false false true em l1 n e = absurd (cc)
not_last Normal true false false false em l1 n e = absurd (cc)
not_last Normal false true true true em l1 n e = absurd (cc)
not_last Normal false true true false em l1 n e = absurd (cc)
not_last Normal false true false true em l1 n e = absurd (cc)
not_last Normal false true false false em l1 n e = absurd (cc)
not_last Normal false false true true em l1 n e = absurd (cc)
not_last Normal false false true false em l1 n e = absurd (cc)
not_last Normal false false false true em l1 n e = absurd (cc)
not_last Normal false false false false em l1 n e = absurd (cc)
not_last KeepAlive true true true true em l1 n e = absurd (cc)
not_last KeepAlive true true true false em l1 n e = absurd (cc)
not_last KeepAlive true true false true em l1 n e = absurd (cc)
not_last KeepAlive true true false false em l1 n e = absurd (cc)
not_last KeepAlive true false true true em l1 n e = absurd (cc)
not_last KeepAlive true false true false em l1 n e = absurd (cc)
not_last KeepAlive true false false true em l1 n e = absurd (cc)
not_last KeepAlive true false false false em l1 n e = absurd (cc)
not_last KeepAlive false true true true em l1 n e = absurd (cc)
not_last KeepAlive false true true false em l1 n e = absurd (cc)
not_last KeepAlive false true false true em l1 n e = absurd (cc)
not_last KeepAlive false true false false em l1 n e = absurd (cc)
not_last KeepAlive false false true true em l1 n e = absurd (cc)
not_last KeepAlive false false true false em l1 n e = absurd (cc)
not_last KeepAlive false false false true em l1 n e = absurd (cc)
not_last KeepAlive false false false false em l1 n e = absurd (cc)
not_last Late ea q se k1 em l1 n e = absurd (cc)
not_last Closed ea q se k1 em l1 n e = absurd (n refl)

live_fits : (t : State) → t ≢ Closed → fits t Timer ≡ true
live_fits Normal n = refl
live_fits Late n = refl
live_fits KeepAlive n = refl
live_fits Closed n = absurd (n refl)

last_life : (s : Standing) (last : Bool) → (s.vars.lifetime == 1) ≡ last → IsSteady s → cond last G6 (timer_row s.vars.state (answers s.vars)) ≡ G6 → s.vars.lifetime ≡ 1
last_life s true e h at = is_one _ e
last_life s false e h at = absurd (not_last s.vars.state (s.vars.enabled && s.vars.available) s.vars.queued s.vars.sent (s.vars.keep_alive == 1) (s.vars.enabled && s.vars.more) (s.vars.lifetime == 1) h.live at)

publish_is_no_end : (t : State) (em ea q se k1 l1 : Bool) → t ≢ Closed → publish_row t (record { enabled_available = ea; enabled_more = em; queued = q; sent = se; last_keep = k1; last_life = l1 }) ≡ G6 → ⊥
publish_is_no_end Normal true ea q se k1 l1 n e = absurd (cc)
publish_is_no_end Normal false ea q se k1 l1 n e = absurd (cc)
publish_is_no_end Late em true q se k1 l1 n e = absurd (cc)
publish_is_no_end Late em false q se k1 l1 n e = absurd (cc)
publish_is_no_end KeepAlive em ea q se k1 l1 n e = absurd (cc)
publish_is_no_end Closed em ea q se k1 l1 n e = absurd (n refl)

late_at_last : (s : Standing) → IsSteady s → s.vars.lifetime ≡ 1 → s.vars.state ≡ Late
late_at_last s h e = by s.vars.state refl
  where
    two : s.vars.state ≢ Late → s.vars.state ≡ Late
    two n = let left = early s h n in absurd (omega arith)

    by : (t : State) → s.vars.state ≡ t → s.vars.state ≡ Late
    by Late at = at
    by Normal at = two (λ l. absurd (cc))
    by KeepAlive at = two (λ l. absurd (cc))
    by Closed at = absurd (h.live at)

unasked_when_late : (s : Standing) → IsSteady s → s.vars.state ≡ Late → s.vars.queued ≡ false
unasked_when_late s h at = by s.vars.queued refl
  where
    by : (q : Bool) → s.vars.queued ≡ q → s.vars.queued ≡ false
    by false e = e
    by true e = absurd (calm_early s h e at)

times_out : (s : Standing) → IsSteady s → s.vars.lifetime ≡ 1 → TimesOut s Timer
times_out s h e = let counted = h.life_counted in let late = late_at_last s h e in record { at_timer = refl; at_last = omega arith; late = late; unasked = unasked_when_late s h late }

ends : (s : Standing) (e : TableEvent) → IsSteady s → fits s.vars.state e ≡ true → chosen s.vars e ≡ G6 → TimesOut s e
ends s Timer h ok at = times_out s h (last_life s (s.vars.lifetime == 1) refl h at)
ends s Publish h ok at = absurd (publish_is_no_end s.vars.state (s.vars.enabled && s.vars.more) (s.vars.enabled && s.vars.available) s.vars.queued s.vars.sent (s.vars.keep_alive == 1) (s.vars.lifetime == 1) h.live at)
ends s Modify h ok at = absurd (cc)
ends s SetMode h ok at = absurd (cc)
ends s (Republish true) h ok at = absurd (cc)
ends s (Republish false) h ok at = absurd (cc)
ends s Delete h ok at = absurd (cc)
ends s Items h ok at = absurd (cc)
ends s (SessionEnd true) h ok at = absurd (cc)
ends s (SessionEnd false) h ok at = absurd (cc)
ends s Shutdown h ok at = absurd (cc)
ends s (Create true) h ok at = absurd (cc)
ends s (Create false) h ok at = absurd (cc)

-- a subscription times out at its last timer, late and with no request queued
pub ends_at_last : (s : Standing) (e : TableEvent) → IsSteady s → fits s.vars.state e ≡ true → fires s.vars e ≡ G6 ∷ [] → TimesOut s e
ends_at_last s e h ok fired = ends s e h ok (fired_is_chosen s e G6 h ok fired)

-- and at that one it does
pub ends_then : (s : Standing) → IsSteady s → s.started + 1 ≡ s.lifetime_count → fires s.vars Timer ≡ G6 ∷ []
ends_then s h e = one_row s.vars Timer (steady_is_sound s h) (live_fits s.vars.state h.live) ∙ ap (λ r. r ∷ []) at_last
  where
    last : (s.vars.lifetime == 1) ≡ true
    last = let counted = h.life_counted in let least = h.life_least in grind (arith, counted, least)

    at_last : chosen s.vars Timer ≡ G6
    at_last = rw last refl

-- between two rows
pub values_come : (s : Standing) → IsSteady s → IsSteady (with_values s)
values_come s h = grind (arith, h)

pub requests_go : (s : Standing) → IsSteady s → IsSteady (with_queued s false)
requests_go s h = grind (arith, h)

pub requests_come : (s : Standing) → IsSteady s → is_waiting s.vars ≡ false → IsSteady (with_queued s true)
requests_come s h calm = grind (arith, h)
