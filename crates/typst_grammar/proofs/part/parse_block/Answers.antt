use Rattle.typst_grammar.proofs.Cited.{subst, apart, peek, ◌>>◌, Reading, content_block, code_block, does-next, does-look, place_at, View, IsGiven, guessing_at, fills-apart}
use Rattle.typst_language.specs.declared.reading.AtNewline.TheVariants as newline
use Rattle.typst_grammar.proofs.AtLevels.{knot-fills}
use Rattle.typst_grammar.proofs.Parts.{part-is}
use Rattle.typst_grammar.proofs.part.parse_block.Goals as goal
use Rattle.typst_grammar.proofs.part.parse_block.Goals.{in-Content+in_ok-content_block-in-Content, in-Code+in_ok-code_block-in-Code}

pub returns : goal.returns
returns g c =
    let k = g.C.Classes.classes c.args.classes.now in
    let n = c.args.levels in
    let l = apart (guessing_at k n) in
    let z = place_at c.args.text.now c.args.at in
    let reading : Reading = record { mode = c.args.mode; at_newline = newline.Continue } in
    let look = does-look (c.in_ok-look.ensures l (fills-apart (knot-fills k n))) in
    elim c.match-block.branch [
      | in-Content+in_ok-content_block-in-Content w ↦
          (let d = does-next look (w.in_ok-content_block-in-Content.ensures l (fills-apart (knot-fills k n))) in
          rw w.in-Content.is (part-is k n (peek >> content_block) tt reading z _ _ c.finish.result c.resume-p.ensures d (subst (λ (v : View). IsGiven v c.finish.result) w.p-is c.finish.ensures)))
      | in-Code+in_ok-code_block-in-Code w ↦
          (let d = does-next look (w.in_ok-code_block-in-Code.ensures l (fills-apart (knot-fills k n))) in
          rw w.in-Code.is (part-is k n (peek >> code_block) tt reading z _ _ c.finish.result c.resume-p.ensures d (subst (λ (v : View). IsGiven v c.finish.result) w.p-is c.finish.ensures)))
    ]
