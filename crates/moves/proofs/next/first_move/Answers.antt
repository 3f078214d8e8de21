-- An alloc's first move is that of its layout.
use Rattle.moves.proofs.next.first_move.Goals as goal

pub returns-in-Alloc : goal.returns-in-Alloc
returns-in-Alloc c s stage roots old e = rw c.in-Alloc.is (c.alloc_move.ensures s stage roots old e)
