use Rattle.typst_tree.proofs.Cited.{common_steps, ◌+◌, ◌-◌, arith, sym, ◌∙◌, nat_tests, forest, count, IsFit}
use Rattle.typst_tree.proofs.Stretches.{cut, count-append, exchanged_some, from_ok}
use Rattle.typst_tree.proofs.replace.exchange.Goals as goal

pub number_part-requires-clause-fits : goal.number_part-requires-clause-fits
number_part-requires-clause-fits c =
    let f : IsFit c.args.kids.now.items c.args.from c.args.to (count (forest c.args.fresh.items)) c.in-Some.stretch = rw (c.as_slice.ensures.value, c.as_slice-2.ensures.value) at c.in-Some.ensures.fits in
    let k =
    cut c.args.kids.now.items c.splice.new.all.items c.args.fresh.items c.in-Some.stretch.left c.args.from c.args.to c.in-Some.stretch.right (c.args.from + c.len.result + (c.in-Some.stretch.right - c.args.to)) f.before c.requires.order f.behind f.within
    (from_ok c.splice.result _ c.splice.ensures.ok (sym c.is_err.ensures.value ∙ c.if-is_err.false))
    (omega (arith, c.len.ensures, c.args.fresh.ok.0)) in
    rw (k.part, count-append, count-append) (omega (arith, f.fits))

pub returns-clause-ok : goal.returns-clause-ok
returns-clause-ok c =
    let f : IsFit c.args.kids.now.items c.args.from c.args.to (count (forest c.args.fresh.items)) c.in-Some.stretch = rw (c.as_slice.ensures.value, c.as_slice-2.ensures.value) at c.in-Some.ensures.fits in
    let k =
    cut c.args.kids.now.items c.splice.new.all.items c.args.fresh.items c.in-Some.stretch.left c.args.from c.args.to c.in-Some.stretch.right (c.args.from + c.len.result + (c.in-Some.stretch.right - c.args.to)) f.before c.requires.order f.behind f.within
    (from_ok c.splice.result _ c.splice.ensures.ok (sym c.is_err.ensures.value ∙ c.if-is_err.false))
    (omega (arith, c.len.ensures, c.args.fresh.ok.0)) in
    grind (arith, common_steps, nat_tests, exchanged_some)
