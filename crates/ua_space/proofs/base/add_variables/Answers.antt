use Rattle.std.proofs.Common.{append_assoc, refl}
use Rattle.ua_space.proofs.base.add_variables.Goals as goal

pub returns : goal.returns
returns c =
    rw (c.in_ok-push-3.ensures.items, c.in_ok-push-2.ensures.items, c.in_ok-push.ensures.items, c.in_ok-servers.ensures, c.in_ok-spaces.ensures, c.in_ok-state.ensures, c.in_ok-server_array.ensures, c.in_ok-namespace_array.ensures, c.state.ensures)
    (simp append_assoc refl)
