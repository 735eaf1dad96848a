-- What the code does as the server shuts down is what is said of it.
use Rattle.std.proofs.Common.{◌≡◌, Bool, true, false, if◌then◌else◌, [], Some, Result, Ok, Err, IfOk, refl, sym, subst, ◌∙◌, ap}
use Rattle.server_core.specs.declared.out.StepFault.{StepFault}
use Rattle.std.specs.Ordering.{nat_cmp}
use Rattle.std.specs.FinMap.{FinMap, empty}
use Rattle.ua_transport.specs.Feeding.{Framing}
use Rattle.server_messages.specs.declared.halt.Halt.{Halt}
use Rattle.server_messages.specs.declared.halt.Halt.TheVariants.{Memory, Exhausted}
use Rattle.server_core.specs.Effects.{no_step, are_spent}
use Rattle.server_core.specs.Handling.{Doing, Ends, shut_core}
use Rattle.server_core.specs.Faults.{fault_of}
use Rattle.server_core.specs.Stepping.{WorldStep, StepsTo, left_by, IsUnspent, world_step, ended, shut_down}
use Rattle.server_core.proofs.HandlingLemmas.{steps_to}
use Rattle.server_core.specs.World.{World, Core}
use Rattle.server_core.specs.declared.out.Step.{Step}

module _ (world : World) where
  -- what the call gives and leaves
  abbrev pub Ended : Result Step StepFault → World → WorldStep → Type 0
  Ended answer new s = StepsTo answer (Some world) (left_by answer new) (Ok s) × IfOk answer (λ step. IsUnspent (Ok s))

  so_far : (b : Bool) → world.core.is_shut ≡ b → (if b then world_step world [] else ended world) ≡ shut_down world
  unfolding shut_down
  so_far b is = ap (λ (b : Bool). if b then world_step world [] else ended world) (sym is)

  -- a second time does nothing
  pub nothing_more : world.core.is_shut ≡ true → (given : Step) → no_step ≡ given → Ended (Ok given) world (shut_down world)
  nothing_more is given none = subst (Ended (Ok given) world) (so_far true is) (steps_to world world given (world_step world []) refl none refl)

  pub all_ends : world.core.is_shut ≡ false → (given : Step) (core : Core) (framers : FinMap nat_cmp Framing) → Ends (Ok given) core (shut_core world.core) → empty ≡ framers →
      let new : World = record world { framers = framers; core = core } in Ended (Ok given) new (shut_down world)
  all_ends is given core framers ends none =
      let new : World = record world { framers = framers; core = core } in
      subst (Ended (Ok given) new) (so_far false is)
      (steps_to world new given (ended world)
      (ap (λ (x : Doing). let w : World = record world { framers = empty; core = x.core } in w) (sym ends) ∙ ap (λ (f : FinMap nat_cmp Framing). let w : World = record world { framers = f; core = core } in w) none)
      (ap (λ (x : Doing). x.step) (sym ends)) (ap (λ (x : Doing). x.spends) (sym ends)))

  -- where it can't, it halts
  pub all_halts : world.core.is_shut ≡ false → (halt : Halt) (core : Core) (new : World) → Ends (Err halt) core (shut_core world.core) → Ended (Err (fault_of halt)) new (shut_down world)
  all_halts is Memory core new ends = (refl, tt)
  all_halts is Exhausted core new ends = ((refl, subst (λ (s : WorldStep). are_spent s.effects ≡ true) (so_far false is) ends), tt)
