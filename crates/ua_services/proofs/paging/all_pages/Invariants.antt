use Rattle.std.proofs.Common.{◌≡◌, ◌++◌}
use Rattle.std.specs.List.{flat_map}
use Rattle.ua_views.specs.Views.{or_none}
use Rattle.ua_session.specs.Points.{GivesInRange}
use Rattle.ua_services.specs.Paging.{all_done}
use Rattle.ua_services.proofs.paging.all_pages.Given as goal

-- what was taken so far is done and written, and the rest is left
abbrev pub invariant-loop-asked : goal.invariant-loop-asked
invariant-loop-asked g l = record {
  written : l.body ≡ l.fn.body ++ flat_map g.P.Answer.Wire.encoding (all_done (g.P.Pages.meaning l.wanted l.shown.space.now l.shown.history.now) l.fn.points l.yielded).results;
  points : l.points ≡ (all_done (g.P.Pages.meaning l.wanted l.shown.space.now l.shown.history.now) l.fn.points l.yielded).points;
  in_range : GivesInRange l.fn.points l.points;
  left : l.yielded ++ or_none l.asked-iterator ≡ or_none l.fn.list;
}
