use Rattle.std.proofs.Common.{◌∙◌, ◌++◌, ◌∷◌, [], List, length, length-append, append_assoc, ap, sym, arith}
use Rattle.ua_views.specs.Views.{or_none}
use Rattle.ua_types.specs.declared.status.Status.{Status}
use Rattle.server_messages.specs.declared.stored.Stored.{Stored}
use Rattle.ua_service_messages.specs.declared.writing.WriteValue.{WriteValue}
use Rattle.ua_read_write.specs.Writing.{judged, accepted_of, status_of, write_of}
use Rattle.ua_services.specs.ServicesState.{Services}
use Rattle.ua_services.specs.Write.{with_judged, stored_written, stored_judged}
use Rattle.ua_services.proofs.WriteLemmas.{written_more, stored_more, statuses_more}
use Rattle.ua_services.proofs.write.write_all.Goals as goal

pub loop-value-preserved : goal.loop-value-preserved
loop-value-preserved c =
    let state = c.args.services.now in
    let clock = c.args.setting.now.clock in
    let has_store = c.args.setting.now.config.has_store in
    let noted = c.args.stored.now in
    let done = c.loop-value.yielded in
    let w = c.in-Some.value in
    let before = c.loop-value.invariant in
    let statuses = c.loop-value.statuses.items in
    record {
      written =
          c.in_ok-status.ensures.services
          ∙ ap (λ (s : Services). with_judged s (accepted_of clock w (judged s.space.nodes w))) before.written
          ∙ written_more clock state done w;
      stored =
          let now = c.loop-value.services in
          let all = stored_written has_store state (write_of clock state.space.nodes done) in
          c.in_ok-status.ensures.stored
          ∙ ap (λ (ss : List Stored). ss ++ stored_judged has_store now (accepted_of clock w (judged now.space.nodes w))) before.stored
          ∙ ap (λ (s : Services). (noted ++ all) ++ stored_judged has_store s (accepted_of clock w (judged s.space.nodes w))) before.written
          ∙ append_assoc noted all _
          ∙ ap (λ (ss : List Stored). noted ++ ss) (stored_more has_store clock state done w);
      statuses =
          c.in_ok-push.ensures.items
          ∙ ap (λ (s : Status). statuses ++ s ∷ []) (c.in_ok-status.ensures.status ∙ ap (λ (s : Services). status_of (judged s.space.nodes w)) before.written)
          ∙ ap (λ (list : List Status). list ++ status_of (judged (write_of clock state.space.nodes done).nodes w) ∷ []) before.statuses
          ∙ statuses_more clock state.space.nodes done w;
      count =
          let grown = ap length c.in_ok-push.ensures.items ∙ length-append statuses (c.in_ok-status.status ∷ []) in
          let more = length-append done (w ∷ []) in
          let same = before.count in
          omega (arith, grown, more, same);
      left = append_assoc done (w ∷ []) (or_none c.next.new.self) ∙ ap (λ (list : List WriteValue). done ++ list) (sym c.in-Some.ensures.steps) ∙ before.left;
    }
