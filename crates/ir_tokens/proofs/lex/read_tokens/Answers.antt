use Rattle.ir_tokens.specs.Laws.{found, only}
use Rattle.ir_tokens.proofs.lex.read_tokens.Goals as goal

pub returns-clause-found : goal.returns-clause-found
returns-clause-found c = found c.args.bytes.now c.lex.result c.lex.ensures

pub returns-clause-only : goal.returns-clause-only
returns-clause-only c = only c.args.bytes.now c.lex.result c.lex.ensures
