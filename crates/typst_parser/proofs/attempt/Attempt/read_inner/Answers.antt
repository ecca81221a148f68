use Rattle.typst_parser.proofs.Cited.{◌-◌, subst, place_at, Decides, at_path, HasBlock, ServesOr, Settles, ReparsedPart, Option}
use Rattle.typst_parser.proofs.Answering.{places-fit}
use Rattle.typst_parser.proofs.ReadSteps.{inner-reads}
use Rattle.typst_parser.proofs.RunSteps.{block-decides, if-ok, inner-boundary, inner-bounds, new-few, passing-few, passing-more, passing-part, passing-start, says-inner}
use Rattle.typst_parser.proofs.Runs.{from-within}
use Rattle.typst_parser.proofs.attempt.Attempt.read_inner.Goals as goal

pub passing-requires : goal.passing-requires
passing-requires g c = (c.requires.0, c.requires.1, inner-reads (g.C.Classes.classes c.args.self.now.asked.now.classes.now) c.args.self.now c.requires.0 c.requires.1 c.args.candidate c.args.run c.args.serving.now c.requires.2)

pub returns-in_default : goal.returns-in_default
returns-in_default g c = λ ch path inner.
    let h = inner-reads _ c.args.self.now ch path c.args.candidate c.args.run c.args.serving.now inner in
    let found = c.in_ok-passing.ensures ch path h in
    (subst (Settles _ ch c.args.self.now.root.now path c.args.candidate c.args.run h.found) c.in_default.is found.0, found.1)

pub has_both-requires : goal.has_both-requires
has_both-requires g c =
    let k = g.C.Classes.classes c.args.self.now.asked.now.classes.now in
    let root = c.args.self.now.root.now in
    let run = c.args.run in
    let h = inner-reads k c.args.self.now _ _ c.args.candidate run c.args.serving.now c.requires.2 in
    let found = subst (Settles k _ root _ c.args.candidate run h.found) c.in-Some.is (c.in_ok-passing.ensures _ _ h).0 in
    from-within k _ (at_path _ c.args.candidate) run.kind run.levels run.first_entry h.found c.in-Some.passing.bounds.from found.from

pub part_of_pieces-requires-clause-start : goal.part_of_pieces-requires-clause-start
part_of_pieces-requires-clause-start g c =
    let k = g.C.Classes.classes c.args.self.now.asked.now.classes.now in
    let ch = c.requires.0 in
    let path = c.requires.1 in
    let root = c.args.self.now.root.now in
    let units = c.args.self.now.records.now.units in
    let run = c.args.run in
    let r = c.requires.2 in
    let h = inner-reads k c.args.self.now ch path c.args.candidate run c.args.serving.now r in
    let found = subst (Settles k ch root path c.args.candidate run h.found) c.in-Some.is (c.in_ok-passing.ensures ch path h).0 in
    passing-start k ch c.args.self.now.asked.now root units r.ready path c.args.candidate run h.found c.in-Some.passing found

pub part_of_pieces-requires-clause-fits : goal.part_of_pieces-requires-clause-fits
part_of_pieces-requires-clause-fits g c =
    let k = g.C.Classes.classes c.args.self.now.asked.now.classes.now in
    let ch = c.requires.0 in
    let path = c.requires.1 in
    let root = c.args.self.now.root.now in
    let units = c.args.self.now.records.now.units in
    let run = c.args.run in
    let r = c.requires.2 in
    let h = inner-reads k c.args.self.now ch path c.args.candidate run c.args.serving.now r in
    let found = subst (Settles k ch root path c.args.candidate run h.found) c.in-Some.is (c.in_ok-passing.ensures ch path h).0 in
    passing-few k ch c.args.self.now.asked.now root units r.ready path c.args.candidate run h.found c.in-Some.passing found

pub returns-then-has_both : goal.returns-then-has_both
returns-then-has_both g c = λ ch path inner.
    let asked = c.args.self.now.asked.now in
    let root = c.args.self.now.root.now in
    let units = c.args.self.now.records.now.units in
    let run = c.args.run in
    let h = inner-reads _ c.args.self.now ch path c.args.candidate run c.args.serving.now inner in
    let all = c.in_ok-passing.ensures ch path h in
    let found = subst (Settles _ ch root path c.args.candidate run h.found) c.in-Some.is all.0 in
    let both = c.has_both.ensures.0 c.if-has_both.true in (
      passing-part _ ch asked root units inner.ready path c.args.candidate run h.found _ found
          c.in_ok-part.part c.in_ok-part.ensures.nodes c.in_ok-part.ensures.first c.in_ok-part.ensures.end c.in_ok-part.ensures.bounds c.in_ok-part.ensures.entries
          (λ kind. passing-more _ ch asked root units inner.ready path c.args.candidate run h.found _ found both.0 both.1),
      all.1,
    )

pub with_block-requires : goal.with_block-requires
with_block-requires g c =
    let r = c.requires.2 in
    let asked = c.args.self.now.asked.now in
    let root = c.args.self.now.root.now in
    let units = c.args.self.now.records.now.units in
    record {
      text = r.ready.text;
      fits = new-few _ _ asked root units r.ready _ c.args.candidate _ c.args.run r.is;
      places = places-fit _ _ root units r.ready.holds asked.new.now asked.edit r.ready.makes;
      boundary = inner-boundary _ _ asked root units r.ready _ c.args.candidate _ c.args.run r.is;
      first = inner-bounds _ _ asked root units r.ready _ c.args.candidate _ c.args.run r.is;
      block = (r.found.to, r.found.levels, r.found.mode, says-inner _ _ asked root units r.ready _ c.args.candidate _ c.args.run r.is);
    }

pub returns : goal.returns
returns g c = λ ch path inner.
    let asked = c.args.self.now.asked.now in
    let root = c.args.self.now.root.now in
    let units = c.args.self.now.records.now.units in
    let run = c.args.run in
    let p = c.in-Some.passing in
    let h = inner-reads _ c.args.self.now ch path c.args.candidate run c.args.serving.now inner in
    let all = c.in_ok-passing.ensures ch path h in
    let found = subst (Settles _ ch root path c.args.candidate run h.found) c.in-Some.is all.0 in
    let i = inner.found in
    if-ok c.with_block.result (HasBlock _ (place_at asked.new.now run.at) run.at i.levels i.mode (run.first_entry - 1) i.to p.first_candidate.from p.pieces) (λ o. Decides _ ch root (at_path path c.args.candidate) o × ServesOr _ ch root path c.args.candidate.depth c.passing.new.serving)
    (λ (o : Option ReparsedPart) w. (block-decides _ ch asked root units inner.ready path c.args.candidate i run inner.is h.found p found o w, all.1)) (c.with_block.ensures i.to i.levels i.mode (says-inner _ ch asked root units inner.ready path c.args.candidate i run inner.is))
