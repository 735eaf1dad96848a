use Rattle.std.proofs.Common.{◌≡◌, length, arith, ap, refl, ◌∙◌}
use Rattle.ua_subscription_messages.proofs.DataChangeLemmas.{begins}
use Rattle.ua_subscription_messages.proofs.data_change_messages.DataChangeMessage.new.Goals as goal

pub returns : goal.returns
returns c =
    let fields = rw (c.in_ok-encode-4.ensures.ok, c.numeric.ensures, c.in_ok-encode-3.ensures.ok, c.in_ok-encode-2.ensures.ok, c.in_ok-encode.ensures.ok, c.in_ok-bytes.ensures.items) at c.in_ok-encode-5.ensures.ok in
    let long : c.len-at.result ≡ length c.encode-5.new.out.items = omega arith in
    begins c.args.sequence_number c.args.publish_time c.extend_from_slice.new.self.items _ c.len-at.result (long ∙ ap length fields) (rw fields at c.in_ok-extend_from_slice.ensures.items) refl
