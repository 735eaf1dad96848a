-- What each frame keeps, every piece keeps, and what each event keeps, every run has.
use Rattle.std.proofs.Common.{◌≡◌, ℕ, Bool, true, false, cond, List, [], ◌∷◌, ◌++◌, Option, Some, None, is_some, Result, Ok, Err, refl, subst}
use Rattle.std.specs.Prelude.{⊤}
use Rattle.std.specs.List.{AllByRecursion}
use Rattle.ua_transport.specs.Frames.{End, Rest, Broken}
use Rattle.ua_transport.specs.Pieces.{Done, and_then, all_handled, at_end}
use Rattle.ua_transport.specs.declared.frame.Frame.{Frame}
use Rattle.ua_transport.specs.declared.frame.FrameFault.{FrameFault}
use Rattle.server_core.specs.declared.event.Event.{Event}
use Rattle.server_core.specs.declared.out.StepFault.{StepFault}
use Rattle.server_core.specs.Coherent.{IfRuns}
use Rattle.server_core.specs.Effects.{Effect}
use Rattle.server_core.specs.Handling.{handled, broken}
use Rattle.server_core.specs.Running.{Running, then_run, run_of}
use Rattle.server_core.specs.Stepping.{WorldStep, step_of}
use Rattle.server_core.specs.World.{World, Core}

-- ---- frames and pieces: P is kept of the rest of the server while the connection goes on, or once it doesn't, and Q is said of the effects

module _ (conn : ℕ) (P : Bool → Core → Type 0) (Q : List Effect → Type 0) (none : Q []) (both : (xs ys : List Effect) → Q xs → Q ys → Q (xs ++ ys))
    (by_frame : (core : Core) (frame : Frame) → P true core → (let d = handled conn core frame in P d.goes_on d.state × Q d.outs))
    (by_fault : (core : Core) (fault : FrameFault) → P true core → (let d = broken conn core fault in P false d.state × Q d.outs)) where
  then_by : (core : Core) (effects : List Effect) (b : Bool) (more : Core → Done Core Effect) → P b core → Q effects → (P true core → P (more core).goes_on (more core).state × Q (more core).outs) →
      (let d = and_then (record { state = core; outs = effects; goes_on = b }) more in P d.goes_on d.state × Q d.outs)
  then_by core effects true more p q f = let r = f p in (r.0, both effects (more core).outs q r.1)
  then_by core effects false more p q f = (p, q)

  pub frames_keep : (frames : List Frame) (core : Core) → P true core → (let d = all_handled (handled conn) core frames in P d.goes_on d.state × Q d.outs)
  frames_keep [] core p = (p, none)
  frames_keep (frame ∷ frames) core p =
      let d = handled conn core frame in
      let k = by_frame core frame p in
      then_by d.state d.outs d.goes_on (λ s. all_handled (handled conn) s frames) k.0 k.1 (frames_keep frames d.state)

  ended_by : (core : Core) (effects : List Effect) (b : Bool) (fault : FrameFault) → P b core → Q effects →
      (let d = and_then (record { state = core; outs = effects; goes_on = b }) (λ s. broken conn s fault) in P false d.state × Q d.outs)
  ended_by core effects true fault p q = let r = by_fault core fault p in (r.0, both effects (broken conn core fault).outs q r.1)
  ended_by core effects false fault p q = (p, q)

  is_held : (bytes : List ℕ) (b : Bool) → b ≡ is_some (cond b (Some bytes) None)
  is_held bytes true = refl
  is_held bytes false = refl

  pub end_keeps : (end : End) (d : Done Core Effect) → P d.goes_on d.state → Q d.outs →
      (let s = at_end (broken conn) end d in P (is_some s.stream.held) s.stream.state × Q s.outs)
  end_keeps (Rest bytes) d p q = (subst (λ (b : Bool). P b d.state) (is_held bytes d.goes_on) p, q)
  end_keeps (Broken fault) d p q = ended_by d.state d.outs d.goes_on fault p q

-- ---- runs

-- what an event leaves, unless it is refused
abbrev pub Kept : (World → Type 0) → (List Effect → Type 0) → Result WorldStep StepFault → Type 0
Kept P Q (Ok s) = P s.world × Q s.effects
Kept P Q (Err fault) = ⊤

module _ (P : World → Type 0) (Q : List Effect → Type 0) (by_event : (world : World) (event : Event) → P world → Kept P Q (step_of world event)) where
  run_by : (world : World) (r : Result WorldStep StepFault) (more : Option World → Running) → P world → Kept P Q r →
      ((next : World) → P next → IfRuns P (more (Some next)).server × AllByRecursion Q (more (Some next)).steps) →
      (let r = then_run (Some world) r more in IfRuns P r.server × AllByRecursion Q r.steps)
  run_by world (Ok s) more p k f = let rest = f s.world k.0 in (rest.0, (k.1, rest.1))
  run_by world (Err fault) more p k f = (p, tt)

  -- what the opening has and each event keeps, every run has
  pub lift : (events : List Event) (world : World) → P world → (let r = run_of (Some world) events in IfRuns P r.server × AllByRecursion Q r.steps)
  lift [] world p = (p, tt)
  lift (event ∷ events) world p =
      run_by world (step_of world event) (λ s. run_of s events) p (by_event world event p) (λ next q. lift events next q)
