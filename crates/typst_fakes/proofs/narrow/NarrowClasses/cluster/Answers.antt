use Rattle.std.proofs.Common.{◌∙◌, ap, length, arith}
use Rattle.std.proofs.lemmas.Iterator.{YieldsList-from_chars}
use Rattle.std.specs.Str.{chars}
use Rattle.typst_lines.proofs.CharsLemmas.{after_first, after_last}
use Rattle.typst_lines.proofs.ClusterLemmas.{first_character, more}
use Rattle.typst_fakes.proofs.narrow.NarrowClasses.cluster.Goals as goal

pub returns-in-Some : goal.returns-in-Some
returns-in-Some c =
    let line = c.args.line.now in
    let r = after_first {s = c.chars.result} (chars line) c.next.new.self c.in-Some.c (YieldsList-from_chars line c.utf8.line cc) c.in-Some.ensures.steps in
    c.len_utf8.ensures.value ∙ first_character line c.utf8.line c.requires.some c.in-Some.c r.0 r.1

pub returns-in-None : goal.returns-in-None
returns-in-None c =
    let line = c.args.line.now in
    let none = after_last {s = c.chars.result} (chars line) c.next.new.self (YieldsList-from_chars line c.utf8.line cc) c.in-None.ensures.steps in
    let some = more line c.utf8.line c.requires.some in
    absurd (omega (arith, ap length none))
