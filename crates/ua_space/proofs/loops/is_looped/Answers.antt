use Rattle.std.proofs.Common.{sym, ◌∙◌}
use Rattle.ua_space.specs.Ranks.{rank_at}
use Rattle.ua_space.proofs.Ranking.{no_loop_above}
use Rattle.ua_space.proofs.loops.is_looped.Goals as goal

pub returns-then-raises_rank : goal.returns-then-raises_rank
returns-then-raises_rank c =
    sym (no_loop_above (rank_at c.args.hints.now.numbers.entries c.args.hints.now.ranks.items) c.args.triples.now c.args.triple.now (sym c.requires.sound ∙ c.if-sound.true) (sym c.raises_rank.ensures ∙ c.if-raises_rank.true))
