use Rattle.std.proofs.Common.{rules, ◌≡◌, Some, map}
use Rattle.std.proofs.lemmas.Str.{IsUtf8-string_bytes}
use Rattle.std.specs.String.{string_bytes}
use Rattle.std.specs.Io.KnownBytes.{Appends}
use Rattle.typst_cli.specs.Asked.{asked_by, asked_in}
use Rattle.typst_cli.proofs.FaultLemmas.{answered_by}
use Rattle.typst_cli.proofs.program.answer.Goals as goal

pub returns-in-Ok-clause-answered : goal.returns-in-Ok-clause-answered
returns-in-Ok-clause-answered g c =
    let is : Some (asked_in c.in_ok-request.request) ≡ asked_by (map (λ word. word.now) c.args.words.now) = search rules in
    let all : Appends (g.W.Write.contents c.args.output.now) (g.W.Write.contents c.deliver.new.output) (string_bytes c.in_ok-printed.printed) = search rules in
    answered_by (asked_in c.in_ok-request.request) _ (string_bytes c.in_ok-text.text) (string_bytes c.in_ok-printed.printed) _ _ _ is (IsUtf8-string_bytes c.in_ok-text.text) c.in_ok-text.ensures.text c.in_ok-printed.ensures.printed all
