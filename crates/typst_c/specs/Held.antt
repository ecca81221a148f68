-- What a handle owns: what a box of a source does.
use base.Fml.{Fml}
use base.Stored.{Coded}
use denote.RawPtr.{Ptr}
use Rattle.std.specs.Box.Ownership.{box_owns}
use Rattle.std.specs.Global.{Global}
use Rattle.std_heap.specs.contracts.GlobalAllocator.TheImpl.{ghosts}
use Rattle.typst_c.specs.contracts.kept.Kept.{the_row}

-- the block that the pointer points to, the value in it, and the right to free it
abbrev pub handle_owns : Global → Ptr → the_row.Denot → Fml
handle_owns alloc = box_owns (ghosts.dealloc_token alloc) the_row

-- a source is stored as the logic stores it
abbrev pub kept_code : Coded the_row.Denot
kept_code = the_row.coded
