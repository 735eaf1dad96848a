-- The frames of a stream.
use Rattle.std.specs.Prelude.{ℕ, zero, suc, List, [], ◌∷◌, ◌++◌, length, take, drop, Option, Some, None}
use Rattle.ua_transport.specs.Header.{judgement_of}
use Rattle.ua_transport.specs.declared.frame.Frame.{Frame}
use Rattle.ua_transport.specs.declared.frame.FrameFault.{FrameFault}
use Rattle.ua_transport.specs.declared.frame.Header.{Header}
use Rattle.ua_transport.specs.declared.frame.Judgement.{Judgement}
use Rattle.ua_transport.specs.declared.frame.Judgement.TheVariants.{Incomplete, Faulty, Whole}

-- what comes after the whole frames: less than a whole one, or a fault
pub data End : Type 0 where
  Rest : (bytes : List ℕ) → End
  Broken : (fault : FrameFault) → End

-- frames in order, and what comes after them
pub record Framed : Type 0 where
  pub frames : List Frame
  pub end : End

abbrev pub frame_of : Header → List ℕ → Frame
frame_of header bytes = record { message_type = header.message_type; chunk_type = header.chunk_type; body = drop 8 (take header.size bytes) }

abbrev pub with_front : List Frame → Framed → Framed
with_front front framed = record { frames = front ++ framed.frames; end = framed.end }

-- a whole frame, and then the frames behind it
abbrev pub frames_by : Judgement → List ℕ → (ℕ → Framed) → Framed
frames_by Incomplete bytes behind = record { frames = []; end = Rest bytes }
frames_by (Faulty fault) bytes behind = record { frames = []; end = Broken fault }
frames_by (Whole header) bytes behind = with_front (frame_of header bytes ∷ []) (behind header.size)

-- at most so many frames
unfoldable pub framed_within : ℕ → ℕ → List ℕ → Framed
framed_within zero limit bytes = record { frames = []; end = Rest bytes }
framed_within (suc n) limit bytes = frames_by (judgement_of limit bytes) bytes (λ size. framed_within n limit (drop size bytes))

-- the frames of a stream, of which there are no more than bytes
unfoldable pub frames : ℕ → List ℕ → Framed
frames limit stream = framed_within (length stream) limit stream

-- where no fault came, these bytes are left
abbrev pub end_of : List ℕ → Option FrameFault → End
end_of bytes None = Rest bytes
end_of bytes (Some fault) = Broken fault

abbrev pub held_at : End → Option (List ℕ)
held_at (Rest bytes) = Some bytes
held_at (Broken fault) = None

abbrev pub fault_at : End → Option FrameFault
fault_at (Rest bytes) = None
fault_at (Broken fault) = Some fault

-- what further bytes bring after these frames
abbrev pub continuation_of : ℕ → End → List ℕ → Framed
continuation_of limit (Rest bytes) piece = frames limit (bytes ++ piece)
continuation_of limit (Broken fault) piece = record { frames = []; end = Broken fault }

abbrev pub frames_then : ℕ → Framed → List ℕ → Framed
frames_then limit framed piece = with_front framed.frames (continuation_of limit framed.end piece)
