use Rattle.std.proofs.Common.{◌≡◌, ◌++◌, ◌<◌, ◌∙◌, ap, sym, arith, length, Some}
use Rattle.ua_transport.specs.Header.{judgement_of}
use Rattle.ua_transport.specs.Feeding.{Framing}
use Rattle.ua_transport.specs.declared.frame.Judgement.TheVariants.{Incomplete}
use Rattle.ua_transport.proofs.FeedingLemmas.{feeding_incomplete, incomplete_short}
use Rattle.ua_transport.proofs.framer.Framer.feed.Goals as goal

-- what is held, with the piece, is less than a frame
waits : (c : goal.After-without_frames-then-len-missing) → judgement_of c.self.inside.limit (c.in-Some.held ++ c.args.piece.now) ≡ Incomplete
waits c =
    let fewer : length c.args.piece.now < c.missing-missing.result = omega arith in
    let e : judgement_of c.self.inside.limit (c.as_slice.result.now ++ c.args.piece.now) ≡ Incomplete = c.missing-missing.ensures c.args.piece.now fewer in
    rw (sym c.as_slice.ensures) e

same : (c : goal.After-without_frames-then-len-missing) → c.args.self.now ≡ record { limit = c.self.inside.limit; held = Some c.in-Some.held }
same c = sym c.self.view_is ∙ ap (λ (h : _). record { limit = c.self.inside.limit; held = h }) c.in-Some.is

pub returns-then-len-missing-clause-fed : goal.returns-then-len-missing-clause-fed
returns-then-len-missing-clause-fed c =
    let e = feeding_incomplete c.self.inside.limit c.args.self.now c.in-Some.held c.args.piece.now (same c) (waits c) in
    rw (c.without_frames-then-len-missing.ensures, c.in_ok-append.ensures.ok, c.as_slice-then-len-missing.ensures) e

pub returns-then-len-missing-clause-bounded : goal.returns-then-len-missing-clause-bounded
returns-then-len-missing-clause-bounded c =
    rw (c.in_ok-append.ensures.ok, c.as_slice-then-len-missing.ensures, ap (λ (f : Framing). f.limit) (same c)) (incomplete_short c.self.inside.limit (c.in-Some.held ++ c.args.piece.now) (waits c))
