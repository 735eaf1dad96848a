-- What a framer does with the pieces that it is fed.
use Rattle.std.specs.Prelude.{ℕ, List, [], ◌∷◌, ◌++◌, Option, Some, None}
use Rattle.std.specs.Option.{option_or}
use Rattle.ua_transport.specs.Frames.{Framed, Broken, frames, held_at, fault_at}
use Rattle.ua_transport.specs.declared.frame.FrameFault.TheVariants.{Failed}
use Rattle.ua_transport.specs.declared.framer.Fed.{Fed}

-- what a framer is: its limit, and the bytes that it holds, or none once it has failed
pub record Framing : Type 0 where
  pub limit : ℕ
  pub held : Option (List ℕ)

-- a framer that was fed nothing
abbrev pub unfed : ℕ → Framing
unfed limit = record { limit = limit; held = Some [] }

-- what was brought, and the framer after it
pub record Feeding : Type 0 where
  pub fed : Fed
  pub framing : Framing

abbrev pub feeding : Fed → Framing → Feeding
feeding fed framing = record { fed = fed; framing = framing }

abbrev pub feeding_by : ℕ → Framed → Feeding
feeding_by limit framed =
    feeding (record { frames = framed.frames; fault = fault_at framed.end }) (record { limit = limit; held = held_at framed.end })

-- the frames of the bytes held and the piece; after a fault none, and the fault is Failed
abbrev pub framed_of : ℕ → Option (List ℕ) → List ℕ → Framed
framed_of limit (Some held) piece = frames limit (held ++ piece)
framed_of limit None piece = record { frames = []; end = Broken Failed }

abbrev pub feeding_of : Framing → List ℕ → Feeding
feeding_of framing piece = feeding_by framing.limit (framed_of framing.limit framing.held piece)

-- the frames of both, the first fault, and the framer after both
abbrev pub joined : Feeding → Feeding → Feeding
joined first second =
    feeding (record { frames = first.fed.frames ++ second.fed.frames; fault = option_or first.fed.fault second.fed.fault }) second.framing

-- a piece, and then another
abbrev pub feeding_of_two : Framing → List ℕ → List ℕ → Feeding
feeding_of_two framing a b = let first = feeding_of framing a in joined first (feeding_of first.framing b)

-- piece by piece
abbrev pub feeding_of_all : Framing → List (List ℕ) → Feeding
feeding_of_all framing [] = feeding (record { frames = []; fault = None }) framing
feeding_of_all framing (piece ∷ pieces) = let first = feeding_of framing piece in joined first (feeding_of_all first.framing pieces)
