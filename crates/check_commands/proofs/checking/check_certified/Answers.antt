use Rattle.check_commands.proofs.checking.check_certified.Goals as goal

pub returns-in-First : goal.returns-in-First
returns-in-First g c = rw c.in-First.is c.check_first.ensures

pub returns-in-OfBlocks : goal.returns-in-OfBlocks
returns-in-OfBlocks g c = rw c.in-OfBlocks.is c.check_blocks.ensures
