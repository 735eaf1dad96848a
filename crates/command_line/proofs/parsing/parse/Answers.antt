use Rattle.command_line.proofs.ProgramLemmas.{check_comes, pipe_comes, pipe_nodes_comes}
use Rattle.command_line.proofs.parsing.parse.Goals as goal

pub returns-clause-pipe : goal.returns-clause-pipe
returns-clause-pipe c = pipe_comes c.args.words.now c.answer.result c.answer.ensures.ok c.answer.ensures.err

pub returns-clause-pipe_nodes : goal.returns-clause-pipe_nodes
returns-clause-pipe_nodes c = pipe_nodes_comes c.args.words.now c.answer.result c.answer.ensures.ok c.answer.ensures.err

pub returns-clause-check : goal.returns-clause-check
returns-clause-check c = check_comes c.args.words.now c.answer.result c.answer.ensures.ok c.answer.ensures.err
