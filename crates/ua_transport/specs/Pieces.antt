-- What a server does with the pieces of a stream, for any state and any way to handle a frame.
use Rattle.std.specs.Prelude.{ℕ, Bool, true, List, [], ◌∷◌, ◌++◌, Option, Some, None, if◌then◌else◌}
use Rattle.ua_transport.specs.Frames.{End, Rest, Broken, frames}
use Rattle.ua_transport.specs.declared.frame.Frame.{Frame}
use Rattle.ua_transport.specs.declared.frame.FrameFault.{FrameFault}

-- what was done: the state after it, what is sent, and whether the connection goes on
pub record Done (S O : Type 0) : Type 0 where
  pub state : S
  pub outs : List O
  pub goes_on : Bool

-- the bytes held for a connection that goes on, and the rest of the state
pub record Stream (S : Type 0) : Type 0 where
  pub state : S
  pub held : Option (List ℕ)

pub record Stepped (S O : Type 0) : Type 0 where
  pub stream : Stream S
  pub outs : List O

module _ {S O : Type 0} where
  abbrev pub after_outs : List O → Done S O → Done S O
  after_outs outs done = record { state = done.state; outs = outs ++ done.outs; goes_on = done.goes_on }

  -- what comes next is done where the connection goes on
  abbrev pub and_then : Done S O → (S → Done S O) → Done S O
  and_then done more = if done.goes_on then after_outs done.outs (more done.state) else done

  -- frames are handled in order, up to the one that closes the connection
  abbrev pub all_handled : (S → Frame → Done S O) → S → List Frame → Done S O
  all_handled handled state [] = record { state = state; outs = []; goes_on = true }
  all_handled handled state (frame ∷ frames) = and_then (handled state frame) (λ s. all_handled handled s frames)

  -- a fault closes the connection
  abbrev pub at_end : (S → FrameFault → Done S O) → End → Done S O → Stepped S O
  at_end refused (Rest bytes) done =
      record { stream = record { state = done.state; held = if done.goes_on then Some bytes else None }; outs = done.outs }
  at_end refused (Broken fault) done =
      let last = and_then done (λ s. refused s fault) in
      record { stream = record { state = last.state; held = None }; outs = last.outs }

  -- what a fault does, if there is one
  abbrev pub refused_if : (S → FrameFault → Done S O) → Option FrameFault → S → Done S O
  refused_if refused None state = record { state = state; outs = []; goes_on = true }
  refused_if refused (Some fault) state = refused state fault

  abbrev pub piece_on : (S → Frame → Done S O) → (S → FrameFault → Done S O) → ℕ → S → Option (List ℕ) → List ℕ → Stepped S O
  piece_on handled refused limit state None piece = record { stream = record { state = state; held = None }; outs = [] }
  piece_on handled refused limit state (Some held) piece =
      let framed = frames limit (held ++ piece) in
      at_end refused framed.end (all_handled handled state framed.frames)

  -- what a piece does to a connection's stream. Nothing once it is closed
  abbrev pub piece_served : (S → Frame → Done S O) → (S → FrameFault → Done S O) → ℕ → Stream S → List ℕ → Stepped S O
  piece_served handled refused limit stream piece = piece_on handled refused limit stream.state stream.held piece

  -- one step after another
  abbrev pub then_step : Stepped S O → (Stream S → Stepped S O) → Stepped S O
  then_step step more = record { stream = (more step.stream).stream; outs = step.outs ++ (more step.stream).outs }
