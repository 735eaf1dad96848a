-- What holds of the variables of every subscription that a server reaches.
use Rattle.std.specs.Prelude.{◌≢◌, ◌≡◌, ◌≤◌, ◌&&◌, IsTrue, false}
use Rattle.ua_state_table.specs.declared.state.State.TheVariants.{Closed, Late}
use Rattle.ua_state_table.specs.declared.vars.Vars.{Vars}

-- of a live one: the counters are at least 1, that of its lifetime at 1 only when it is late; values are left over
-- only where they are there and wanted; no request is queued beside one that waits for it
pub record IsLively (v : Vars) : Type 0 where
  pub lifetime : 1 ≤ v.lifetime
  pub keep_alive : 1 ≤ v.keep_alive
  pub early : v.state ≢ Late → 2 ≤ v.lifetime
  pub more : IsTrue v.more → IsTrue (v.enabled && v.available)
  pub asked : IsTrue v.queued → (v.state ≢ Late) × (v.more ≡ false)

-- sound variables
abbrev pub IsSound : Vars → Type 0
IsSound v = v.state ≢ Closed → IsLively v
