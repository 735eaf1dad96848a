-- So many connections are open at once, and no more.
use Rattle.std.proofs.Common.{◌≡◌, ℕ, ◌+◌, ◌-◌, ◌≤◌, Bool, true, false, cond, List, Option, Some, None, is_some, refl, ◌∙◌, ap, arith}
use Rattle.std.proofs.lemmas.Bool.Decides.{nat_tests}
use Rattle.std.specs.Ordering.{nat_cmp}
use Rattle.std.specs.Cmp.{nat_cmp_total}
use Rattle.std.specs.FinMap.{FinMap, get, insert, remove, empty, len, contains_key, len-empty, len-insert, len-remove}
use Rattle.ua_types.specs.Configuration.{Configuration}
use Rattle.ua_space.specs.Nodes.{SpaceState}
use Rattle.ua_transport.specs.Feeding.{Framing, unfed}
use Rattle.collections.proofs.NumberMaps.{insert_removed}
use Rattle.server_core.specs.Stepping.{with_held, fed_to, fed, has_room, greeted, forgotten}
use Rattle.server_core.specs.World.{World, opening}
use Rattle.server_core.proofs.ApartLemmas.{fed_apart}

-- no more connections are open at once than there may be
abbrev IsWithinRoom : World → Type 0
IsWithinRoom world = len world.framers ≤ world.core.setting.config.connections

-- ---- how many framers there are

removed_len : (m : FinMap nat_cmp Framing) (conn : ℕ) → len (remove m conn) ≤ len m
removed_len m conn = by (contains_key m conn) (len-remove nat_cmp_total m conn)
  where
    by : (b : Bool) → len (remove m conn) ≡ cond b (len m - 1) (len m) → len (remove m conn) ≤ len m
    by true e = omega (arith, e)
    by false e = omega (arith, e)

inserted_len : (m : FinMap nat_cmp Framing) (conn : ℕ) (f : Framing) → len (insert m conn f) ≤ len m + 1
inserted_len m conn f = by (contains_key m conn) (len-insert nat_cmp_total m conn f)
  where
    by : (b : Bool) → len (insert m conn f) ≡ cond b (len m) (len m + 1) → len (insert m conn f) ≤ len m + 1
    by true e = omega (arith, e)
    by false e = omega (arith, e)

set_len : (m : FinMap nat_cmp Framing) (conn : ℕ) (f : Framing) → contains_key m conn ≡ true → len (insert (remove m conn) conn f) ≤ len m
set_len m conn f has =
    let e : len (insert (remove m conn) conn f) ≡ len m =
    ap len (insert_removed m conn f) ∙ len-insert nat_cmp_total m conn f ∙ ap (λ (b : Bool). cond b (len m) (len m + 1)) has in
    omega (arith, e)

held_len : (m : FinMap nat_cmp Framing) (conn limit : ℕ) (held : Option (List ℕ)) → contains_key m conn ≡ true → len (with_held conn limit held (remove m conn)) ≤ len m
held_len m conn limit None has = removed_len m conn
held_len m conn limit (Some held) has = set_len m conn (record { limit = limit; held = Some held }) has

-- ---- events

fed_len : (world : World) (conn : ℕ) (piece : List ℕ) (found : Option Framing) → get world.framers conn ≡ found → len (fed_to world conn piece found).world.framers ≤ len world.framers
fed_len world conn piece None e = omega arith
fed_len world conn piece (Some framing) e = held_len world.framers conn framing.limit _ (ap is_some e)

pub fed_room : (world : World) (conn : ℕ) (piece : List ℕ) → IsWithinRoom world → IsWithinRoom (fed world conn piece).world
unfolding fed
fed_room world conn piece p =
    let config : (fed world conn piece).world.core.setting.config.connections ≡ world.core.setting.config.connections =
    ap (λ (w : World). w.core.setting.config.connections) (fed_apart world conn piece).rest in
    omega (arith, config, p, fed_len world conn piece (get world.framers conn) refl)

pub greeted_room : (world : World) (conn : ℕ) (key : List ℕ) → has_room world ≡ true → IsWithinRoom (greeted world conn key)
greeted_room world conn key e = grind (arith, nat_tests, inserted_len world.framers conn (unfed world.core.setting.config.receive_size))

pub forgotten_room : (world : World) (conn : ℕ) → IsWithinRoom world → IsWithinRoom (forgotten world conn)
forgotten_room world conn p = omega (arith, p, removed_len world.framers conn)

pub opening_room : (config : Configuration) (space : SpaceState) → IsWithinRoom (opening config space)
opening_room config space = omega (arith, len-empty nat_cmp Framing)

-- none is open once all were closed
pub none_within : (n : ℕ) → len {X = Framing} {R = nat_cmp} empty ≤ n
none_within n = omega (arith, len-empty nat_cmp Framing)
