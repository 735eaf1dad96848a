use Rattle.std.proofs.Common.{true, false, ◌≡◌, ◌<◌, ◌≤◌, [], length, arith, refl, ap, ◌∙◌}
use Rattle.std.proofs.KnownBytes.{Keeps-refl, Consumes-nil}
use Rattle.stream_taps.proofs.TapLemmas.{counted-le, counted-Rose}
use Rattle.stream_server.proofs.RunLemmas.{Stopped-memory, Moved-read, Done-end, Goes-again, Stopped-read, Stopped-step, Fed-none, Consumes-empty, turned, refused}
use Rattle.stream_server.proofs.Pump.turn.Goals as goal

pub returns-in_default-clause-went : goal.returns-in_default-clause-went
returns-in_default-clause-went g c = Stopped-memory _ _ _ [] (Moved-read _ _ [] (Consumes-nil _) refl refl c.requires.room refl refl (omega arith)) refl

pub returns-in-Ok-eq0-clause-went : goal.returns-in-Ok-eq0-clause-went
returns-in-Ok-eq0-clause-went g c =
    let none = c.in-Ok-eq0.ensures.piece in
    let empty : length c.read_piece.new.piece.items ≡ 0 = none.0 ∙ c.in-Ok-eq0.field-0-test in
    let end = c.in-Ok-eq0.ensures.end c.in-Ok-eq0.field-0-test (omega (arith, c.in-Ok.ensures.len)) in
    let counts = c.in-Ok-eq0.ensures.counts in
    Done-end _ _ _ (Fed-none _ _ _ false (Consumes-empty _ _ _ none.2 empty) (Keeps-refl _) refl c.requires.room counts.0 refl (omega (arith, counts.1)) refl) end

pub returns-then-is_interruption-clause-went : goal.returns-then-is_interruption-clause-went
returns-then-is_interruption-clause-went g c =
    let counts = c.in-Err.ensures.counts.0 (c.is_interruption.ensures.yes c.if-is_interruption.true) in
    Goes-again _ _ _
    (Fed-none _ _ _ false c.in-Err.ensures.err (Keeps-refl _) refl c.requires.room counts.0 refl (rw counts.1 (counted-le c.args.reader.now.interruptions c.args.reader.now.interruptions true (omega arith))) refl)
    (rw counts.1 (counted-Rose c.args.reader.now.interruptions c.args.reader.now.interruptions (omega arith)))

pub returns-in-Err-clause-went : goal.returns-in-Err-clause-went
returns-in-Err-clause-went g c =
    let counts = c.in-Err.ensures.counts.1 (c.is_interruption.ensures.no c.if-is_interruption.false) in
    Stopped-read _ _ _
    (Fed-none _ _ _ true c.in-Err.ensures.err (Keeps-refl _) refl c.requires.room counts.0 refl (omega (arith, counts.1)) refl)

pub returns-in_default-from_vec-clause-went : goal.returns-in_default-from_vec-clause-went
returns-in_default-from_vec-clause-went g c =
    let read = c.in-Ok-read_piece.ensures in
    Stopped-memory _ _ _ c.read_piece.new.piece.items
    (Moved-read _ _ _ read.piece.2 refl refl c.requires.room read.counts.0 refl (omega (arith, read.counts.1))) refl

pub returns-in-Ok-step-clause-went : goal.returns-in-Ok-step-clause-went
returns-in-Ok-step-clause-went g c =
    let read = c.in-Ok-read_piece.ensures in
    let same : c.in-Ok-from_vec.bytes ≡ c.read_piece.new.piece.items = c.in-Ok-from_vec.ensures.ok in
    let count : length c.in-Ok-from_vec.bytes ≡ c.in-Ok-read_piece.field-0 = ap length same ∙ read.piece.0 in
    let some = c.in-Ok-read_piece.field-0-test in
    let low : 0 < length c.in-Ok-from_vec.bytes = omega arith in
    let high : length c.in-Ok-from_vec.bytes ≤ 4096 = omega (arith, read.piece.1, c.in-Ok.ensures.len) in
    turned _ _ _ c.in-Ok-from_vec.bytes c.in-Ok-step.step _ c.in-Ok-step.ensures.step low high (rw same read.piece.2) read.counts.0 (omega (arith, read.counts.1))
    c.answer.ensures.failures (rw c.as_slice.ensures at c.answer.ensures.answered) c.answer.ensures.write

pub returns-clause-went : goal.returns-clause-went
returns-clause-went g c =
    let read = c.in-Ok-read_piece.ensures in
    let same : c.in-Ok-from_vec.bytes ≡ c.read_piece.new.piece.items = c.in-Ok-from_vec.ensures.ok in
    Stopped-step _ _ _ c.in-Ok-from_vec.bytes _
    (Moved-read _ _ _ (rw same read.piece.2) refl refl c.requires.room read.counts.0 refl (omega (arith, read.counts.1)))
    (refused _ _ _ _ _ c.in-Err-step.ensures.step)
