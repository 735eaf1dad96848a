-- A piece cut in two does the same.
use Rattle.std.proofs.Common.{◌≡◌, ℕ, Bool, true, false, List, [], ◌∷◌, ◌++◌, Option, Some, None, refl, sym, ◌∙◌, ap, append_assoc, append-nil}
use Rattle.std.specs.Prelude.{if◌then◌else◌}
use Rattle.ua_transport.specs.Frames.{Framed, End, Rest, Broken, frames, with_front, continuation_of, held_at, fault_at}
use Rattle.ua_transport.specs.Pieces.{Done, Stream, after_outs, and_then, all_handled, at_end, piece_on, piece_served, then_step, refused_if}
use Rattle.ua_transport.specs.declared.frame.Frame.{Frame}
use Rattle.ua_transport.specs.declared.frame.FrameFault.{FrameFault}
use Rattle.ua_transport.proofs.FramesLemmas.{frames-append}

module _ {S O : Type 0} where
  done_as : S → List O → Bool → Done S O
  done_as state outs b = record { state = state; outs = outs; goes_on = b }

  same_then : (state : S) (outs : List O) (b : Bool) (f g : S → Done S O) → f state ≡ g state → and_then (record { state = state; outs = outs; goes_on = b }) f ≡ and_then (record { state = state; outs = outs; goes_on = b }) g
  same_then state outs true f g e = ap (after_outs outs) e
  same_then state outs false f g e = refl

  and_then-same : (d : Done S O) (f g : S → Done S O) → ((s : S) → f s ≡ g s) → and_then d f ≡ and_then d g
  and_then-same d f g e = same_then d.state d.outs d.goes_on f g (e d.state)

  after_outs_then : (outs more : List O) (state : S) (b : Bool) (g : S → Done S O) → and_then (record { state = state; outs = outs ++ more; goes_on = b }) g ≡ after_outs outs (and_then (record { state = state; outs = more; goes_on = b }) g)
  after_outs_then outs more state true g = ap (λ (os : List O). record { state = (g state).state; outs = os; goes_on = (g state).goes_on }) (append_assoc outs more (g state).outs)
  after_outs_then outs more state false g = refl

  assoc : (state : S) (outs : List O) (b : Bool) (f g : S → Done S O) → and_then (and_then (record { state = state; outs = outs; goes_on = b }) f) g ≡ and_then (record { state = state; outs = outs; goes_on = b }) (λ s. and_then (f s) g)
  assoc state outs true f g = after_outs_then outs (f state).outs (f state).state (f state).goes_on g
  assoc state outs false f g = refl

  and_then-assoc : (d : Done S O) (f g : S → Done S O) → and_then (and_then d f) g ≡ and_then d (λ s. and_then (f s) g)
  and_then-assoc d f g = assoc d.state d.outs d.goes_on f g

module _ {S O : Type 0} (handled : S → Frame → Done S O) (refused : S → FrameFault → Done S O) where
  all_handled-append : (state : S) (xs ys : List Frame) → all_handled handled state (xs ++ ys) ≡ and_then (all_handled handled state xs) (λ s. all_handled handled s ys)
  all_handled-append state [] ys = refl
  all_handled-append state (x ∷ xs) ys =
      and_then-same (handled state x) _ _ (λ s. all_handled-append s xs ys) ∙ sym (and_then-assoc (handled state x) (λ s. all_handled handled s xs) (λ s. all_handled handled s ys))

  outs_before : (end : End) (outs : List O) (d : Done S O) → at_end refused end (after_outs outs d) ≡ record { stream = (at_end refused end d).stream; outs = outs ++ (at_end refused end d).outs }
  outs_before (Rest bytes) outs d = refl
  outs_before (Broken fault) outs d =
      ap (λ (last : Done S O). record { stream = record { state = last.state; held = None }; outs = last.outs }) (after_outs_then outs d.outs d.state d.goes_on (λ s. refused s fault))

  closed_at : (end : End) (state : S) (outs : List O) → at_end refused end (record { state = state; outs = outs; goes_on = false }) ≡ record { stream = record { state = state; held = None }; outs = outs }
  closed_at (Rest bytes) state outs = refl
  closed_at (Broken fault) state outs = refl

  and_then-none : (state : S) (outs : List O) (b : Bool) → and_then (record { state = state; outs = outs; goes_on = b }) (refused_if refused None) ≡ record { state = state; outs = outs; goes_on = b }
  and_then-none state outs true = ap (λ (os : List O). record { state = state; outs = os; goes_on = true }) (append-nil outs)
  and_then-none state outs false = refl

  kept_if : (b : Bool) (n : Option (List ℕ)) → (if b then n else n) ≡ n
  kept_if true n = refl
  kept_if false n = refl

  -- the end, as the code has it: a fault or none, and what is held
  pub at_end_by_fault : (end : End) (d : Done S O) →
      let last = and_then d (refused_if refused (fault_at end)) in
      at_end refused end d ≡ record { stream = record { state = last.state; held = if last.goes_on then held_at end else None }; outs = last.outs }
  at_end_by_fault (Rest bytes) d =
      ap (λ (last : Done S O). record { stream = record { state = last.state; held = if last.goes_on then Some bytes else None }; outs = last.outs }) (sym (and_then-none d.state d.outs d.goes_on))
  at_end_by_fault (Broken fault) d =
      let last = and_then d (λ s. refused s fault) in
      ap (λ (h : Option (List ℕ)). record { stream = record { state = last.state; held = h }; outs = last.outs }) (sym (kept_if last.goes_on None))

  -- after frames that were handled, a further piece
  pub further : (limit : ℕ) (state : S) (outs : List O) (b : Bool) (bytes piece : List ℕ) →
      let framed = frames limit (bytes ++ piece) in
      at_end refused framed.end (and_then (record { state = state; outs = outs; goes_on = b }) (λ s. all_handled handled s framed.frames))
      ≡ then_step (at_end refused (Rest bytes) (record { state = state; outs = outs; goes_on = b })) (λ s. piece_served handled refused limit s piece)
  further limit state outs true bytes piece =
      outs_before (frames limit (bytes ++ piece)).end outs (all_handled handled state (frames limit (bytes ++ piece)).frames)
  further limit state outs false bytes piece =
      closed_at (frames limit (bytes ++ piece)).end state outs
      ∙ ap (λ (os : List O). record { stream = record { state = state; held = None }; outs = os }) (sym (append-nil outs))

  pub cut_at : (limit : ℕ) (state : S) (framed : Framed) (end : End) (piece : List ℕ) →
      let all = with_front framed.frames (continuation_of limit end piece) in
      at_end refused all.end (all_handled handled state all.frames)
      ≡ then_step (at_end refused end (all_handled handled state framed.frames)) (λ s. piece_served handled refused limit s piece)
  cut_at limit state framed (Rest bytes) piece =
      let d = all_handled handled state framed.frames in
      ap (at_end refused (frames limit (bytes ++ piece)).end) (all_handled-append state framed.frames (frames limit (bytes ++ piece)).frames)
      ∙ further limit d.state d.outs d.goes_on bytes piece
  cut_at limit state framed (Broken fault) piece =
      let last = and_then (all_handled handled state framed.frames) (λ s. refused s fault) in
      ap (λ (fs : List Frame). at_end refused (Broken fault) (all_handled handled state fs)) (append-nil framed.frames)
      ∙ ap (λ (os : List O). record { stream = record { state = last.state; held = None }; outs = os }) (sym (append-nil last.outs))

  pub cut_held : (limit : ℕ) (state : S) (held : Option (List ℕ)) (a b : List ℕ) → piece_on handled refused limit state held (a ++ b) ≡ then_step (piece_on handled refused limit state held a) (λ s. piece_served handled refused limit s b)
  cut_held limit state None a b = refl
  cut_held limit state (Some held) a b =
      ap (λ (framed : Framed). at_end refused framed.end (all_handled handled state framed.frames)) (ap (frames limit) (sym (append_assoc held a b)) ∙ frames-append limit (held ++ a) b)
      ∙ cut_at limit state (frames limit (held ++ a)) (frames limit (held ++ a)).end b

  -- a piece cut in two does the same, joined
  pub piece-cut : (limit : ℕ) (stream : Stream S) (a b : List ℕ) → piece_served handled refused limit stream (a ++ b) ≡ then_step (piece_served handled refused limit stream a) (λ s. piece_served handled refused limit s b)
  piece-cut limit stream a b = cut_held limit stream.state stream.held a b
