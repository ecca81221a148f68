use Rattle.typst_parser.proofs.Cited.{◌+◌, sym, ap, ◌∙◌, refl, arith, at_path}
use Rattle.typst_parser.proofs.Blocks.{unopened}
use Rattle.typst_parser.proofs.BlockSteps.{end-no, looks-no, no-end, none-read, part-of, read-few, read-fits, start-boundary, starts-few}
use Rattle.typst_parser.proofs.Answering.{places-fit}
use Rattle.typst_parser.proofs.Numbers.{opening-within}
use Rattle.typst_parser.proofs.attempt.Attempt.read_block.Goals as goal

pub returns-in_default : goal.returns-in_default
returns-in_default g c = λ path ch ready chosen.
    unopened (g.C.Classes.classes c.args.self.now.asked.now.classes.now) ch c.args.self.now.root.now c.args.self.now.records.now.units (at_path path c.args.candidate) ready.holds c.args.self.now.asked.now.new.now c.args.self.now.asked.now.edit
    ready.makes chosen c.requires.block (sym c.in_default.ensures)

pub after-requires : goal.after-requires
after-requires g c = grind (arith, opening-within)

pub closing-requires-clause-within : goal.closing-requires-clause-within
closing-requires-clause-within g c = grind (arith, opening-within)

pub closing-requires-clause-fits : goal.closing-requires-clause-fits
closing-requires-clause-fits g c =
    let q = c.requires.tries.1 in
    places-fit (g.C.Classes.classes c.args.self.now.asked.now.classes.now) q.change c.args.self.now.root.now c.args.self.now.records.now.units q.ready.holds c.args.self.now.asked.now.new.now c.args.self.now.asked.now.edit q.ready.makes

pub returns-in_default-closing : goal.returns-in_default-closing
returns-in_default-closing g c = λ path ch ready chosen ts gives.
    no-end (g.C.Classes.classes c.args.self.now.asked.now.classes.now) ch c.args.self.now.asked.now c.args.self.now.root.now c.args.self.now.records.now.units ready (at_path path c.args.candidate) chosen c.requires.block c.in-Some.from_entry c.in-Some.ensures
    c.after.result c.after.ensures c.in_default-closing.ensures

pub returns-then-not-looks_pass : goal.returns-then-not-looks_pass
returns-then-not-looks_pass g c = λ path ch ready chosen.
    looks-no (g.C.Classes.classes c.args.self.now.asked.now.classes.now) ch c.args.self.now.asked.now c.args.self.now.root.now c.args.self.now.records.now.units ready (at_path path c.args.candidate) chosen c.requires.block c.in-Some.from_entry c.in-Some.ensures
    c.after.result c.after.ensures c.in-Some-closing.to_entry c.in-Some-closing.ensures (λ p. (let yes = c.looks_pass.ensures.1 p in let no = c.if-not-looks_pass.true in absurd (cc)))

pub block_at-requires : goal.block_at-requires
block_at-requires g c =
    let q = c.requires.tries.1 in
    start-boundary (g.C.Classes.classes c.args.self.now.asked.now.classes.now) q.change c.args.self.now.asked.now c.args.self.now.root.now c.args.self.now.records.now.units q.ready (at_path c.requires.tries.0 c.args.candidate) q.among c.requires.block
    c.in-Some.from_entry c.in-Some.ensures

pub returns-in_default-2 : goal.returns-in_default-2
returns-in_default-2 g c = λ path ch ready chosen ts gives.
    none-read (g.C.Classes.classes c.args.self.now.asked.now.classes.now) ch c.args.self.now.asked.now c.args.self.now.root.now c.args.self.now.records.now.units ready (at_path path c.args.candidate) chosen c.requires.block c.in-Some.from_entry c.in-Some.ensures
    c.after.result c.after.ensures c.in-Some-closing.to_entry c.in-Some-closing.ensures c.in_ok-read.field-0 c.in_ok-read.ensures c.in_default-2.is

pub entries_of_block-requires-clause-start : goal.entries_of_block-requires-clause-start
entries_of_block-requires-clause-start g c =
    let q = c.requires.tries.1 in
    starts-few (g.C.Classes.classes c.args.self.now.asked.now.classes.now) q.change c.args.self.now.asked.now c.args.self.now.root.now c.args.self.now.records.now.units q.ready (at_path c.requires.tries.0 c.args.candidate) q.among c.requires.block
    c.in-Some.from_entry c.in-Some.ensures

pub returns-in_default-new_end : goal.returns-in_default-new_end
returns-in_default-new_end g c = λ path ch ready chosen.
    let few = read-few (g.C.Classes.classes c.args.self.now.asked.now.classes.now) ch c.args.self.now.asked.now c.args.self.now.root.now c.args.self.now.records.now.units ready (at_path path c.args.candidate) chosen c.requires.block c.in-Some.from_entry c.in-Some.ensures
    c.after.result c.after.ensures c.in-Some-closing.to_entry c.in-Some-closing.ensures c.in_ok-read.field-0 c.in_ok-read.ensures c.in-Some-2.read c.in-Some-2.is in
    end-no (g.C.Classes.classes c.args.self.now.asked.now.classes.now) ch c.args.self.now.asked.now c.args.self.now.root.now c.args.self.now.records.now.units ready (at_path path c.args.candidate) chosen c.requires.block c.in-Some.from_entry c.in-Some.ensures
    c.after.result c.after.ensures c.in-Some-closing.to_entry c.in-Some-closing.ensures c.in_ok-read.field-0 c.in_ok-read.ensures c.in-Some-2.read c.in-Some-2.is (λ e. c.in_default-new_end.ensures.none refl c.in-Some-2.read.end few e)

pub returns-then-read-end : goal.returns-then-read-end
returns-then-read-end g c = λ path ch ready chosen.
    let s = c.in-Some-new_end.ensures.some in
    end-no (g.C.Classes.classes c.args.self.now.asked.now.classes.now) ch c.args.self.now.asked.now c.args.self.now.root.now c.args.self.now.records.now.units ready (at_path path c.args.candidate) chosen c.requires.block c.in-Some.from_entry c.in-Some.ensures
    c.after.result c.after.ensures c.in-Some-closing.to_entry c.in-Some-closing.ensures c.in_ok-read.field-0 c.in_ok-read.ensures c.in-Some-2.read c.in-Some-2.is (λ e. c.if-read-end.true (omega (arith, e, s)))

pub entries_of_block-requires-clause-fits : goal.entries_of_block-requires-clause-fits
entries_of_block-requires-clause-fits g c =
    let q = c.requires.tries.1 in
    read-fits (g.C.Classes.classes c.args.self.now.asked.now.classes.now) q.change c.args.self.now.asked.now c.args.self.now.root.now c.args.self.now.records.now.units q.ready (at_path c.requires.tries.0 c.args.candidate) q.among c.requires.block c.in-Some.from_entry c.in-Some.ensures
    c.after.result c.after.ensures c.in-Some-closing.to_entry c.in-Some-closing.ensures c.in_ok-read.field-0 c.in_ok-read.ensures c.in-Some-2.read c.in-Some-2.is

pub returns : goal.returns
returns g c = λ path ch ready chosen.
    let test = c.looks_pass.ensures.0 c.if-not-looks_pass.false in
    let shifted = ap (λ n. n + c.args.self.now.asked.now.edit.old_end) c.if-read-end.false ∙ c.in-Some-new_end.ensures.some in
    part-of (g.C.Classes.classes c.args.self.now.asked.now.classes.now) ch c.args.self.now.asked.now c.args.self.now.root.now c.args.self.now.records.now.units ready (at_path path c.args.candidate) chosen c.requires.block c.in-Some.from_entry c.in-Some.ensures
    c.after.result c.after.ensures c.in-Some-closing.to_entry c.in-Some-closing.ensures c.in_ok-read.field-0 c.in_ok-read.ensures c.in-Some-2.read c.in-Some-2.is
    test.0 test.1 shifted (record { nodes = c.in-Some-2.read.nodes; first_child = c.args.candidate.from; end = c.in-Some-new_end.end; entries = c.in_ok-entries.entries; from_entry = c.in-Some.from_entry; to_entry = c.in-Some-closing.to_entry })
    refl (sym c.if-read-end.false) refl refl c.in_ok-entries.ensures refl
