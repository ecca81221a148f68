use Rattle.typst_edits.proofs.AnswerTree.{answer-tree-law, gives-tree-law}
use Rattle.typst_edits.proofs.Unique.{one-answer-law, unique-law}
use Rattle.typst_edits.proofs.laws.answer_law.Goals as goal

pub returns : goal.returns
returns c = record { gives = gives-tree-law; tree = answer-tree-law; unique = unique-law; one = one-answer-law }
