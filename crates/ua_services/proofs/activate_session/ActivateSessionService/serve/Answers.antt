use Rattle.std.proofs.Common.{subst, Err}
use Rattle.std.proofs.lemmas.Result.{err_from_is_err_and}
use Rattle.ua_service_messages.specs.declared.sessions.ActivateSessionRequest.{ActivateSessionRequest}
use Rattle.ua_session.specs.Sessions.{activate_of, TakesNonce}
use Rattle.ua_services.specs.ActivateSession.{activate_session_body, activate_session_meaning, is_anonymous}
use Rattle.ua_services.specs.Serving.{Judges}
use Rattle.ua_services.specs.SessionServing.{with_sessions}
use Rattle.ua_services.proofs.SessionLemmas.{refused_as}
use Rattle.ua_services.proofs.activate_session.ActivateSessionService.serve.Goals as goal

pub returns-in_err-nonce : goal.returns-in_err-nonce
returns-in_err-nonce c =
    let state = c.args.services.now in
    let setting = c.args.setting.now in
    let caller = c.args.caller.now in
    let token = c.args.token.now in
    let refusal = c.in_err-nonce.field-0.0 in
    let takes = subst (λ flag. TakesNonce (Err refusal) state.sessions c.activate.new.self (activate_of state.sessions token caller.origin.conn caller.key flag)) c.is_anonymous-is_anonymous.ensures c.in_err-nonce.ensures.taken in
    let p = err_from_is_err_and c.from_residual.result c.from_residual.ensures.1 in
    rw (p.1, p.2) (subst (λ (request : ActivateSessionRequest). Judges setting caller (Err refusal) (with_sessions state c.activate.new.self) (activate_session_meaning setting caller token request state)) c.request.view_is
    (refused_as state caller setting (activate_session_body setting caller) (activate_of state.sessions token caller.origin.conn caller.key (is_anonymous c.request.inside.user_identity_token)) c.activate.new.self refusal takes))
