-- What the address of a session stands for: the memory of the session, and the right to free it.
use base.Fml.{Fml}
use base.Stored.{Coded}
use denote.RawPtr.{Ptr}
use Rattle.std.specs.Box.Ownership.{box_owns}
use Rattle.std.specs.Global.{Global}
use Rattle.std_heap.specs.contracts.GlobalAllocator.TheImpl.{ghosts}
use Rattle.dgc_c.specs.contracts.kept.Kept.{the_row}

-- ownership of the session at an address
abbrev pub kept_owns : Global → Ptr → the_row.Denot → Fml
kept_owns alloc = box_owns (ghosts.dealloc_token alloc) the_row

-- how a session is stored in a ghost field
abbrev pub kept_coded : Coded the_row.Denot
kept_coded = the_row.coded
