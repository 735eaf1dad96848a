use Rattle.std.proofs.Common.{◌≡◌, ◌++◌}
use Rattle.ua_transport.specs.Frames.{end_of, held_at}
use Rattle.ua_transport.proofs.FeedingLemmas.{taken_short}
use Rattle.ua_transport.proofs.framer.cut_frames.Goals as goal

pub returns-clause-bounded : goal.returns-clause-bounded
returns-clause-bounded c =
    let held : c.in_ok-held.held ≡ held_at (end_of c.in_ok-rest.rest c.in_ok-rest.fault) = rw c.as_slice.ensures at c.in_ok-held.ensures in
    taken_short c.args.limit (c.args.front ++ c.args.behind) c.in_ok-rest.rest c.in_ok-rest.fault c.in_ok-held.held c.in_ok-rest.ensures.end held
