use Rattle.std.proofs.Common.{rules}
use Rattle.ua_binary.specs.Reading.{Extends}
use Rattle.ua_binary.proofs.Extending.{extends_more}
use Rattle.ua_service_messages.proofs.sessions.CreateSessionRequestWire.encode.Goals as goal

pub returns-in_err-encode-8-clause-err : goal.returns-in_err-encode-8-clause-err
returns-in_err-encode-8-clause-err c =
    let far : Extends c.args.out.now.items c.encode-8.new.out.items = extends_more _ _ _ _ c.in_ok-encode.ensures.ok (extends_more _ _ _ _ c.in_ok-encode-2.ensures.ok (extends_more _ _ _ _ c.in_ok-encode-3.ensures.ok (extends_more _ _ _ _ c.in_ok-encode-4.ensures.ok (extends_more _ _ _ _ c.in_ok-encode-5.ensures.ok (extends_more _ _ _ _ c.in_ok-encode-6.ensures.ok (extends_more _ _ _ _ c.in_ok-encode-7.ensures.ok c.in_err-encode-8.ensures.err)))))) in
    search (rules, far)
