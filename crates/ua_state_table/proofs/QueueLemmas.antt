-- Which rows queue a request.
use Rattle.std.proofs.Common.{◌≡◌, ◌⊎◌, true, false, refl, inl, inr}
use Rattle.ua_state_table.specs.declared.row.RowId.{RowId}
use Rattle.ua_state_table.specs.declared.row.RowId.TheVariants.{C1, C2, N1, N2, N3, N4, N5, N6, L1, L2, L3, K1, K2, K3, K4, K5, G1, G2, G3, G4, G5, G6, G7, G8, G9, G10}
use Rattle.ua_state_table.specs.Doing.{Standing, Circumstances, after, enqueues, is_timer_row}

pub two_rows : (r : RowId) → enqueues r ≡ true → (r ≡ N1) ⊎ (r ≡ K1)
two_rows C1 h = absurd (cc)
two_rows C2 h = absurd (cc)
two_rows N1 h = inl refl
two_rows N2 h = absurd (cc)
two_rows N3 h = absurd (cc)
two_rows N4 h = absurd (cc)
two_rows N5 h = absurd (cc)
two_rows N6 h = absurd (cc)
two_rows L1 h = absurd (cc)
two_rows L2 h = absurd (cc)
two_rows L3 h = absurd (cc)
two_rows K1 h = inr refl
two_rows K2 h = absurd (cc)
two_rows K3 h = absurd (cc)
two_rows K4 h = absurd (cc)
two_rows K5 h = absurd (cc)
two_rows G1 h = absurd (cc)
two_rows G2 h = absurd (cc)
two_rows G3 h = absurd (cc)
two_rows G4 h = absurd (cc)
two_rows G5 h = absurd (cc)
two_rows G6 h = absurd (cc)
two_rows G7 h = absurd (cc)
two_rows G8 h = absurd (cc)
two_rows G9 h = absurd (cc)
two_rows G10 h = absurd (cc)

pub no_timer_row : (r : RowId) → is_timer_row r ≡ true → enqueues r ≡ false
no_timer_row C1 h = refl
no_timer_row C2 h = refl
no_timer_row N1 h = absurd (cc)
no_timer_row N2 h = refl
no_timer_row N3 h = refl
no_timer_row N4 h = refl
no_timer_row N5 h = refl
no_timer_row N6 h = refl
no_timer_row L1 h = refl
no_timer_row L2 h = refl
no_timer_row L3 h = refl
no_timer_row K1 h = absurd (cc)
no_timer_row K2 h = refl
no_timer_row K3 h = refl
no_timer_row K4 h = refl
no_timer_row K5 h = refl
no_timer_row G1 h = refl
no_timer_row G2 h = refl
no_timer_row G3 h = refl
no_timer_row G4 h = refl
no_timer_row G5 h = refl
no_timer_row G6 h = refl
no_timer_row G7 h = refl
no_timer_row G8 h = refl
no_timer_row G9 h = refl
no_timer_row G10 h = refl

-- a row that queues none leaves an empty queue empty
pub stays_empty : (c : Circumstances) (r : RowId) (s : Standing) → enqueues r ≡ false → s.vars.queued ≡ false → (after c r s).vars.queued ≡ false
stays_empty c C1 s h e = e
stays_empty c C2 s h e = e
stays_empty c N1 s h e = absurd (cc)
stays_empty c N2 s h e = rw e refl
stays_empty c N3 s h e = rw e refl
stays_empty c N4 s h e = rw e refl
stays_empty c N5 s h e = e
stays_empty c N6 s h e = e
stays_empty c L1 s h e = rw e refl
stays_empty c L2 s h e = e
stays_empty c L3 s h e = e
stays_empty c K1 s h e = absurd (cc)
stays_empty c K2 s h e = rw e refl
stays_empty c K3 s h e = rw e refl
stays_empty c K4 s h e = e
stays_empty c K5 s h e = e
stays_empty c G1 s h e = e
stays_empty c G2 s h e = e
stays_empty c G3 s h e = e
stays_empty c G4 s h e = e
stays_empty c G5 s h e = e
stays_empty c G6 s h e = e
stays_empty c G7 s h e = e
stays_empty c G8 s h e = e
stays_empty c G9 s h e = refl
stays_empty c G10 s h e = e
