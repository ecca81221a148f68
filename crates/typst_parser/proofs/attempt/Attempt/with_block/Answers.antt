use Rattle.typst_parser.proofs.Cited.{subst, ◌∙◌, refl, arith, same_Some, place_at, block_alone, IsReadBlock}
use Rattle.typst_edits.specs.Block.TheVariants as block
use Rattle.typst_parser.proofs.Blocks.{says-closes}
use Rattle.typst_parser.proofs.Places.{part-fits, place-sides}
use Rattle.typst_parser.proofs.attempt.Attempt.with_block.Goals as goal

pub returns-in_default : goal.returns-in_default
returns-in_default g c = λ to levels mode says.
    let e = says-closes c.args.self.now.records.now.units.entries c.args.run.first_entry to levels block.Content mode c.requires.first.0 says in
    let n = c.in_default.ensures in
    absurd (cc)

pub returns-in_default-2 : goal.returns-in_default-2
returns-in_default-2 g c = λ to levels mode says.
    absurd (subst (IsReadBlock (g.C.Classes.classes c.args.self.now.asked.now.classes.now) levels block.Content mode (place_at c.args.self.now.asked.now.new.now c.args.run.at)) c.in_default-2.is (c.in_ok-read.ensures to levels block.Content mode says))

pub entries_of_block-requires-clause-start : goal.entries_of_block-requires-clause-start
entries_of_block-requires-clause-start g c = let b = c.requires.boundary.0 in let f = c.requires.fits in omega (arith, b, f)

pub entries_of_block-requires-clause-fits : goal.entries_of_block-requires-clause-fits
entries_of_block-requires-clause-fits g c =
    let k = g.C.Classes.classes c.args.self.now.asked.now.classes.now in
    let z = place_at c.args.self.now.asked.now.new.now c.args.run.at in
    let b = c.requires.block in
    let read = subst (IsReadBlock k b.1 block.Content b.2 z) c.in-Some-2.is (c.in_ok-read.ensures b.0 b.1 block.Content b.2 b.3) in
    let o = block_alone k b.1 block.Content b.2 z in
    let sides = place-sides c.args.self.now.asked.now.new.now c.requires.text c.args.run.at c.requires.boundary in
    let fits = c.requires.fits in
    part-fits b.1 z o.nodes o.taken o.asks c.in-Some-2.read (omega (arith, sides, fits)) read

pub returns : goal.returns
returns g c = λ to levels mode says.
    let k = g.C.Classes.classes c.args.self.now.asked.now.classes.now in
    let z = place_at c.args.self.now.asked.now.new.now c.args.run.at in
    record {
      nodes = refl;
      first_is = refl;
      end = refl;
      from_is = refl;
      to_is = same_Some c.in-Some.to_entry to (c.in-Some.ensures ∙ says-closes c.args.self.now.records.now.units.entries c.args.run.first_entry to levels block.Content mode c.requires.first.0 says);
      read = c.in-Some-2.read;
      is_read = subst (IsReadBlock k levels block.Content mode z) c.in-Some-2.is (c.in_ok-read.ensures to levels block.Content mode says);
      entries = c.in_ok-entries.ensures;
    }
