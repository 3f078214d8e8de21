-- Where nothing is explained the text is empty.
use Rattle.std.proofs.Common.{[], append-nil, sym}
use Rattle.commands.proofs.command.explain_outcome.Goals as goal

pub returns-in-None : goal.returns-in-None
returns-in-None c = ([], sym (append-nil c.args.err.now.items))
