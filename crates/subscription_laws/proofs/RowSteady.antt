-- A row that fires keeps a subscription steady.
use Rattle.std.proofs.Common.{◌≡◌, ◌≢◌, true, false, [], ◌∷◌, refl, sym, subst}
use Rattle.ua_state_table.specs.Doing.{enqueues}
use Rattle.ua_state_table.specs.Chosen.{chosen}
use Rattle.ua_state_table.specs.Events.{fits, is_closed}
use Rattle.ua_state_table.specs.StateTable.{fires, next_of}
use Rattle.ua_state_table.specs.Steady.{IsSteady}
use Rattle.ua_state_table.specs.declared.event.TableEvent.{TableEvent}
use Rattle.ua_state_table.specs.declared.row.RowId.{RowId}
use Rattle.ua_state_table.specs.declared.row.RowId.TheVariants.{C1, N1, N2, N3, N4, L1, K1, K2, K3, G5, G6, G8, G10}
use Rattle.ua_state_table.specs.declared.state.State.{State}
use Rattle.ua_state_table.specs.declared.state.State.TheVariants.{Closed, Normal, Late, KeepAlive}
use Rattle.ua_state_table.proofs.OneRow.{one_row}
use Rattle.ua_state_table.proofs.SteadyLemmas as table
use Rattle.ua_subscriptions.specs.Calls.{event_of}
use Rattle.ua_subscriptions.specs.Firing.{fired, before_of, vars_in, row_of}
use Rattle.ua_subscriptions.specs.Scenes.{Scene, row_done}
use Rattle.subscription_laws.specs.Standings.{Counts, standing_in, circumstances, row_counts, IsAsked}
use Rattle.subscription_laws.proofs.RowFairness.{fair}
use Rattle.subscription_laws.proofs.RowLinks.{Links, link_N1, link_N2, link_N3, link_N4, link_K1, link_K3}

-- the links of all rows after which the subscription lives
row_link : (r : RowId) (c : Scene) → next_of r c.subscription.state ≢ Closed → (enqueues r ≡ true → IsAsked c) → Links r c (row_done r c)
unfolding row_done
row_link C1 c live asked = absurd (live refl)
row_link G5 c live asked = absurd (live refl)
row_link G6 c live asked = absurd (live refl)
row_link G8 c live asked = absurd (live refl)
row_link G10 c live asked = absurd (live refl)
row_link N1 c live asked = link_N1 c (asked refl)
row_link K1 c live asked = link_K1 c (asked refl)
row_link N2 c live asked = link_N2 c
row_link L1 c live asked = link_N2 c
row_link N3 c live asked = link_N3 c
row_link K2 c live asked = link_N3 c
row_link N4 c live asked = link_N4 c
row_link K3 c live asked = link_K3 c
row_link r c live asked = λ counts. refl

pub row_stays_steady : (c : Scene) (counts : Counts) (e : TableEvent) (r : RowId) → IsSteady (standing_in c.round.own c counts) → fits c.subscription.state e ≡ true → fires (standing_in c.round.own c counts).vars e ≡ r ∷ [] →
    next_of r c.subscription.state ≢ Closed → (enqueues r ≡ true → IsAsked c) → IsSteady (standing_in c.round.own (row_done r c) (row_counts r c counts))
row_stays_steady c counts e r steady fit fire live asked =
    subst IsSteady (sym (row_link r c live asked counts))
    (table.stays_steady (circumstances r c (row_done r c)) (standing_in c.round.own c counts) e r (fair r c) steady fit fire live)

not_closed : (s : State) → is_closed s ≡ false → s ≢ Closed
not_closed Closed h e = absurd (cc)
not_closed Normal h e = absurd (cc)
not_closed Late h e = absurd (cc)
not_closed KeepAlive h e = absurd (cc)

closes : (r : RowId) (c : Scene) → (row_done r c).subscription.state ≡ next_of r c.subscription.state
unfolding row_done
closes r c = refl

pub one_row_fires : (c : Scene) (counts : Counts) → before_of c ≡ vars_in c → fits c.subscription.state (event_of c.round.call) ≡ true → IsSteady (standing_in c.round.own c counts) →
    fires (before_of c) (event_of c.round.call) ≡ row_of c ∷ []
one_row_fires c counts own fit steady =
    subst (λ v. fires v (event_of c.round.call) ≡ chosen v (event_of c.round.call) ∷ []) (sym own)
    (one_row (vars_in c) (event_of c.round.call) (table.steady_is_sound (standing_in c.round.own c counts) steady) fit)

pub stays_steady : (c : Scene) (counts : Counts) → before_of c ≡ vars_in c → fits c.subscription.state (event_of c.round.call) ≡ true → IsSteady (standing_in c.round.own c counts) →
    (enqueues (row_of c) ≡ true → IsAsked c) → is_closed (fired c).subscription.state ≡ false → IsSteady (standing_in c.round.own (fired c) (row_counts (row_of c) c counts))
unfolding fired
stays_steady c counts own fit steady asked live =
    row_stays_steady c counts (event_of c.round.call) (row_of c) steady fit
    (subst (λ v. fires v (event_of c.round.call) ≡ row_of c ∷ []) own (one_row_fires c counts own fit steady))
    (subst (λ s. s ≢ Closed) (closes (row_of c) c) (not_closed _ live)) asked
