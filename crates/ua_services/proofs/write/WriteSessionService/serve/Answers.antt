use Rattle.std.proofs.Common.{◌∙◌, ◌++◌, ◌∷◌, [], List, ℕ, Result, ap}
use Rattle.ua_types.specs.declared.status.Status.{Status}
use Rattle.ua_messages.specs.declared.type_ids.TheConstants.{WRITE_RESPONSE}
use Rattle.ua_service_messages.specs.declared.writing.WriteRequest.{WriteRequest}
use Rattle.ua_service_messages.specs.declared.writing.WriteValue.{WriteValue}
use Rattle.ua_views.specs.Views.{or_none}
use Rattle.ua_read_write.specs.Writing.{write_of}
use Rattle.server_messages.specs.declared.served.Served.{Served}
use Rattle.server_messages.specs.declared.stored.Stored.{Stored}
use Rattle.ua_services.specs.ServicesState.{Services}
use Rattle.ua_services.specs.Serving.{given, given_of, reply_of}
use Rattle.ua_services.specs.StatusResults.{statuses_body}
use Rattle.ua_services.specs.Write.{stored_written, with_written, write_listed, write_meaning}
use Rattle.ua_services.proofs.WriteLemmas.{stores_given}
use Rattle.ua_services.proofs.write.WriteSessionService.serve.Goals as goal

pub returns : goal.returns
returns c =
    let setting = c.args.setting.now in
    let caller = c.args.caller.now in
    let state = c.args.services.now in
    let after = c.write_all.new.services in
    let writing = write_of setting.clock state.space.nodes (or_none c.in_ok-values.values) in
    let stored = stored_written setting.config.has_store state writing in
    let answer = statuses_body WRITE_RESPONSE setting caller in
    let reply = reply_of caller (answer writing.statuses) in
    let shown : List ℕ → List Stored → Served = λ body ss. record { replies = reply_of caller body ∷ []; rows = []; stored = ss } in
    ap (λ (s : Served). given after (record s { stored = c.write_all.new.stored })) c.in_ok-served.ensures
    ∙ ap (λ (body : List ℕ). given after (shown body c.write_all.new.stored)) (c.in_ok-body.ensures ∙ ap answer (c.deref.ensures.value ∙ c.in_ok-statuses.ensures.statuses))
    ∙ ap (λ (ss : List Stored). given after (shown (answer writing.statuses) ss)) (c.in_ok-statuses.ensures.stored ∙ ap (λ (ss : List Stored). ss ++ stored) c.new-stored.ensures)
    ∙ ap (λ (s : Services). given s (shown (answer writing.statuses) stored)) c.in_ok-statuses.ensures.services
    ∙ stores_given (with_written state writing) reply stored
    ∙ ap (λ (r : Result (List WriteValue) Status). given_of (write_listed setting caller state r)) c.in_ok-values.ensures.entries
    ∙ ap (λ (r : WriteRequest). given_of (write_meaning setting caller c.args._session r state)) c.request.view_is
