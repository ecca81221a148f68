use Rattle.typst_language.proofs.Cited.{◌∙◌, ap, sym, place, Log, view_of}
use Rattle.typst_language.proofs.ReadSo.{found-so, so-is}
use Rattle.typst_language.proofs.parser.Parser.kind_so.Goals as goal

pub returns : goal.returns
returns g c l h =
    let i = c.self.inside in
    let found = c.in_ok-found.found in
    let is = found-so {l = l} _ c.args.way (view_of i) (place i.ahead.start) (place found.after) found.token found.hull (h.classes ∙ g.met.L.Levels.same _) c.self.invariant.stands.start c.in_ok-found.ensures.scans.reads c.in_ok-found.ensures.scans.hull in
    rw (sym c.self.view_is) (so-is l c.args.way _ _ found.token (place found.after) found.hull is (ap (λ (x : Log). record (view_of i) { log = x }) c.look.ensures))
