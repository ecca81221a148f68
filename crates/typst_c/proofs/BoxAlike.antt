-- The handle and its parts own what a box at the same types owns.
use Rattle.typst_c.proofs.Cited.{impl, tnil, dnil, [], Slot, plain, Bx}
use Rattle.std_heap.specs.contracts.Global as Heap
use Rattle.std_heap.specs.contracts.GlobalAllocator.TheImpl.{ghosts, dict}
use Rattle.std_heap.proofs.Global.TheLaws as heap
use Rattle.typst_c.specs.contracts.kept.Kept as Home
use Rattle.typst_c.proofs.kept.Kept.TheLaws as home
use Rattle.typst_c.specs.contracts.opened.Opened as Parts
use Rattle.typst_c.specs.contracts.handle.Handle as Handle

abbrev pub E : Bx
E = record { row = Home.the_row; laws = home.the_row_laws; al = record { row = Heap.the_row; laws = heap.the_row_laws; g = ghosts; d = dict; drops = impl [] tnil dnil } }

abbrev pub FromOpened : Slot 0
FromOpened = plain (λ _. Parts.the_row Home.the_row Heap.the_row ghosts)

abbrev pub FromHandle : Slot 0
FromHandle = plain (λ _. Handle.the_row)
