use Rattle.commands.proofs.watching.TracingObserver.saw.Goals as goal

pub returns : goal.returns
returns g c = c.put_out.ensures c.args.self.now.output.ghost_name
