use Rattle.typst_language.proofs.Cited.{◌∙◌, ap, sym, arith, chars, place, token_so, len_by, Log, wanted, made_expected, text-is, view_of}
use Rattle.typst_language.proofs.ReadSo.{does-eat_so, eaten-so, end-so}
use Rattle.typst_language.proofs.parser.Parser.eat_wanted_so.Goals as goal

pub returns : goal.returns
returns g c l h =
    let i = c.self.inside in
    let found = c.in_ok-found.found in
    let k = h.classes ∙ g.met.L.Levels.same _ in
    let thing = c.args.thing.now in
    let node = c.in_ok-expected.ensures.ok ∙ ap (made_expected thing) c.in_ok-node.ensures in
    let log = ap (λ (x : Log). record (view_of i) { log = x }) c.look.ensures in
    rw (sym c.self.view_is)
    (does-eat_so (eaten-so l _ c.args.way (wanted thing) (view_of i) _ _ (place i.ahead.start) (place found.after) found.token found.hull (chars c.since-text.result.now) c.expected.new.self k c.self.invariant.stands.start
    c.in_ok-found.ensures.scans.reads c.in_ok-found.ensures.scans.hull c.since-text.ensures node log c.in_ok-take_so.ensures)
    (c.in_ok-read.ensures l k))

pub since-text-requires-clause-after : goal.since-text-requires-clause-after
since-text-requires-clause-after g c =
    let k = g.L.Classes.classes c.args.g.now in
    let from = place c.self.inside.ahead.start in
    (len_by (token_so k c.args.way) from, end-so k c.args.way from _ _ c.in_ok-found.ensures.scans.reads)

pub take_so-requires : goal.take_so-requires
take_so-requires g c = grind (arith, text-is)
