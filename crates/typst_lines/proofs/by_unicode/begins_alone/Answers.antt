use Rattle.typst_lines.proofs.Cited.{rules, tests, YieldsList-from_chars, YieldsList-from_take, all_from_yields_List, is_ascii}
use Rattle.typst_lines.proofs.by_unicode.begins_alone.Goals as goal

pub returns : goal.returns
returns c =
    all_from_yields_List is_ascii _ _ _ c.all.ensures.ran (YieldsList-from_take 2 (YieldsList-from_chars c.args.line.now c.utf8.line cc) cc) (λ x b q w. search (rules, tests))
