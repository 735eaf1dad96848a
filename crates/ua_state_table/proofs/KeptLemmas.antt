-- Each row keeps a subscription steady.
use Rattle.std.proofs.Common.{◌≡◌, ◌≤◌, true, false, ◌&&◌, arith}
use Rattle.ua_state_table.specs.declared.state.State.TheVariants.{Normal, Late, KeepAlive}
use Rattle.ua_state_table.specs.declared.row.RowId.TheVariants.{C2, N1, N2, N3, N4, N5, N6, L1, L2, L3, K1, K2, K3, K4, K5, G1, G2, G3, G4, G7, G9}
use Rattle.ua_state_table.specs.Doing.{Standing, Circumstances, after}
use Rattle.ua_state_table.specs.Steady.{IsSteady, AreFair}

pub begins : (c : Circumstances) (s : Standing) → AreFair c → IsSteady (after c C2 s)
begins c s f = grind (arith, f)

pub keeps_N1 : (c : Circumstances) (s : Standing) → s.vars.state ≡ Normal → (s.vars.enabled && s.vars.more) ≡ false → AreFair c → IsSteady s → IsSteady (after c N1 s)
keeps_N1 c s at em0 f h = grind (arith, f, h)

pub keeps_N2 : (c : Circumstances) (s : Standing) → s.vars.state ≡ Normal → (s.vars.enabled && s.vars.more) ≡ true → AreFair c → IsSteady s → IsSteady (after c N2 s)
keeps_N2 c s at em1 f h = grind (arith, f, h)

pub keeps_N3 : (c : Circumstances) (s : Standing) → s.vars.state ≡ Normal → 2 ≤ s.vars.lifetime → s.vars.queued ≡ true → (s.vars.enabled && s.vars.available) ≡ true → AreFair c → IsSteady s → IsSteady (after c N3 s)
keeps_N3 c s at l2 q1 ea1 f h = grind (arith, f, h)

pub keeps_N4 : (c : Circumstances) (s : Standing) → s.vars.state ≡ Normal → 2 ≤ s.vars.lifetime → s.vars.queued ≡ true → (s.vars.enabled && s.vars.available) ≡ false → AreFair c → IsSteady s → IsSteady (after c N4 s)
keeps_N4 c s at l2 q1 ea0 f h = grind (arith, f, h)

pub keeps_N5 : (c : Circumstances) (s : Standing) → s.vars.state ≡ Normal → 2 ≤ s.vars.lifetime → s.vars.queued ≡ false → AreFair c → IsSteady s → IsSteady (after c N5 s)
keeps_N5 c s at l2 q0 f h = grind (arith, f, h)

pub keeps_N6 : (c : Circumstances) (s : Standing) → s.vars.state ≡ Normal → 2 ≤ s.vars.lifetime → (s.vars.enabled && s.vars.available) ≡ false → AreFair c → IsSteady s → IsSteady (after c N6 s)
keeps_N6 c s at l2 ea0 f h = grind (arith, f, h)

pub keeps_L1 : (c : Circumstances) (s : Standing) → s.vars.state ≡ Late → (s.vars.enabled && s.vars.available) ≡ true → AreFair c → IsSteady s → IsSteady (after c L1 s)
keeps_L1 c s at ea1 f h = grind (arith, f, h)

pub keeps_L2 : (c : Circumstances) (s : Standing) → s.vars.state ≡ Late → (s.vars.enabled && s.vars.available) ≡ false → AreFair c → IsSteady s → IsSteady (after c L2 s)
keeps_L2 c s at ea0 f h = grind (arith, f, h)

pub keeps_L3 : (c : Circumstances) (s : Standing) → s.vars.state ≡ Late → 2 ≤ s.vars.lifetime → AreFair c → IsSteady s → IsSteady (after c L3 s)
keeps_L3 c s at l2 f h = grind (arith, f, h)

pub keeps_K1 : (c : Circumstances) (s : Standing) → s.vars.state ≡ KeepAlive → AreFair c → IsSteady s → IsSteady (after c K1 s)
keeps_K1 c s at f h = grind (arith, f, h)

pub keeps_K2 : (c : Circumstances) (s : Standing) → s.vars.state ≡ KeepAlive → 2 ≤ s.vars.lifetime → s.vars.queued ≡ true → (s.vars.enabled && s.vars.available) ≡ true → AreFair c → IsSteady s → IsSteady (after c K2 s)
keeps_K2 c s at l2 q1 ea1 f h = grind (arith, f, h)

pub keeps_K3 : (c : Circumstances) (s : Standing) → s.vars.state ≡ KeepAlive → 2 ≤ s.vars.lifetime → s.vars.queued ≡ true → s.vars.keep_alive ≡ 1 → (s.vars.enabled && s.vars.available) ≡ false → AreFair c → IsSteady s → IsSteady (after c K3 s)
keeps_K3 c s at l2 q1 k1 ea0 f h = grind (arith, f, h)

pub keeps_K4 : (c : Circumstances) (s : Standing) → s.vars.state ≡ KeepAlive → 2 ≤ s.vars.lifetime → 2 ≤ s.vars.keep_alive → (s.vars.enabled && s.vars.available) ≡ false → AreFair c → IsSteady s → IsSteady (after c K4 s)
keeps_K4 c s at l2 k2 ea0 f h = grind (arith, f, h)

pub keeps_K5 : (c : Circumstances) (s : Standing) → s.vars.state ≡ KeepAlive → 2 ≤ s.vars.lifetime → s.vars.queued ≡ false → AreFair c → IsSteady s → IsSteady (after c K5 s)
keeps_K5 c s at l2 q0 f h = grind (arith, f, h)

pub keeps_G1 : (c : Circumstances) (s : Standing) → AreFair c → IsSteady s → IsSteady (after c G1 s)
keeps_G1 c s f h = grind (arith, f, h)

pub keeps_G2 : (c : Circumstances) (s : Standing) → AreFair c → IsSteady s → IsSteady (after c G2 s)
keeps_G2 c s f h = grind (arith, f, h)

pub keeps_G3 : (c : Circumstances) (s : Standing) → AreFair c → IsSteady s → IsSteady (after c G3 s)
keeps_G3 c s f h = grind (arith, f, h)

pub keeps_G4 : (c : Circumstances) (s : Standing) → AreFair c → IsSteady s → IsSteady (after c G4 s)
keeps_G4 c s f h = grind (arith, f, h)

pub keeps_G7 : (c : Circumstances) (s : Standing) → AreFair c → IsSteady s → IsSteady (after c G7 s)
keeps_G7 c s f h = grind (arith, f, h)

pub keeps_G9 : (c : Circumstances) (s : Standing) → AreFair c → IsSteady s → IsSteady (after c G9 s)
keeps_G9 c s f h = grind (arith, f, h)
