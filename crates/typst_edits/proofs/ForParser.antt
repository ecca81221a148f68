-- What proofs of `typst_parser` cite, passed on from one place. Declares nothing.
pub use Rattle.typst_edits.proofs.AnswerTree.{answer-tree-law, chosen-of}
pub use Rattle.typst_edits.proofs.BlockPart.{part-fits-law}
pub use Rattle.typst_edits.proofs.BlockTest.{block-test-law}
pub use Rattle.typst_edits.proofs.CandidatePlaces.{begins-at, candidate-places-law}
pub use Rattle.typst_edits.proofs.CandidateWorth.{in-order, tree-inner}
pub use Rattle.typst_edits.proofs.Edit.{among, onto}
pub use Rattle.typst_edits.proofs.InOrder.{in-order-law}
pub use Rattle.typst_edits.proofs.Nested.{nested-law}
pub use Rattle.typst_edits.proofs.Rising.{rising-law}
pub use Rattle.typst_edits.proofs.RunOver.{over-law}
pub use Rattle.typst_edits.proofs.RunTest.{inner-run-test-law, run-test-law}
pub use Rattle.typst_edits.proofs.RunTrees.{tree-is}
pub use Rattle.typst_edits.proofs.Served.{served-law}
pub use Rattle.typst_edits.proofs.Unique.{unique-law}
pub use Rattle.typst_grammar.proofs.Whole.{leaves}
pub use Rattle.typst_edits.proofs.Widths.{width-append, width-moved, width-none, width-onto}
