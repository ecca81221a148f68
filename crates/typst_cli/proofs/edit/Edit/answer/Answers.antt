use Rattle.std.proofs.Common.{◌≡◌, ◌≤◌, ℕ, List, length, Option, None, Some, Err, inr, ap, subst, ◌∙◌, refl}
use Rattle.std.specs.Str.{chars}
use Rattle.std.specs.String.{string_bytes}
use Rattle.typst_parser.specs.UnicodeTables.{unicode_classes}
use Rattle.typst_parser.specs.Grammar.{tree}
use Rattle.typst_parser.specs.Headline.{edited, file_of, numbered_in}
use Rattle.typst_parser.proofs.Fresh.{fresh-file}
use Rattle.typst_cli.specs.Asked.{edits, range_in}
use Rattle.typst_cli.specs.PrintedEdit.{IsRange}
use Rattle.typst_cli.proofs.FaultLemmas.{edit-refused}
use Rattle.typst_cli.proofs.SpansAside.{whole-answer}
use Rattle.typst_cli.proofs.edit.Edit.answer.Goals as goal

pub returns-clause-printed : goal.returns-clause-printed
returns-clause-printed c =
    let with_text = c.args.self.with_text.now in
    let wanted = edited (string_bytes c.args.text) (range_in c.args.self) with_text in
    let new : c.edit.new.self.text ≡ wanted = c.in_ok-parsed.ensures.text ∙ ap (λ t. edited t (range_in c.args.self) with_text) c.in_ok-source.ensures.made.1 in
    record {
      fits = subst (IsRange (range_in c.args.self)) c.as_str.ensures.value (c.if-not-fits.ensures.0 refl);
      parsed = c.in_ok-parsed.parsed;
      anew = record {
        before = c.in_ok-source.source;
        after = c.edit.new.self;
        made = record {
          text_is = c.in_ok-source.ensures.made.1;
          root_is = c.in_ok-source.ensures.root;
          recorded = c.in_ok-source.ensures.made.3;
        };
        answer = c.in_ok-parsed.ensures.answer;
      };
      ordered = c.in_ok-parsed.ensures.within.0;
      within = subst (λ t. c.in_ok-parsed.parsed.end ≤ length t) new c.in_ok-parsed.ensures.within.1;
      printed =
          whole-answer c.in_ok-parsed.parsed c.edit.new.self.text wanted _ _ _ _ c.edit.new.self.root new c.in_ok-parsed.ensures.headline.tree c.root.ensures.value
          c.new-printed.ensures.bytes c.in_ok-push_range.ensures c.in_ok-print_node.ensures;
    }

pub returns-in_err-parsed-clause-fault : goal.returns-in_err-parsed-clause-fault
returns-in_err-parsed-clause-fault c =
    let range = range_in c.args.self in
    let with_text = c.args.self.with_text.now in
    let text = string_bytes c.args.text in
    let made = c.in_ok-source.source in
    let file = fresh-file (Some 1) (tree unicode_classes (chars made.text)) made.root c.in_ok-source.ensures.root in
    edit-refused c.from_residual-in_err-parsed.result c.in_err-parsed.field-0.0 (edits range with_text) text c.from_residual-in_err-parsed.ensures.1
    (λ e. (
      subst (IsRange range) c.as_str.ensures.value (c.if-not-fits.ensures.0 refl),
      inr
          (subst (λ (f : Option ℕ). numbered_in f (tree unicode_classes (chars (edited text range with_text))) ≡ None) file
          (subst (λ (t : List ℕ). numbered_in (file_of made.root) (tree unicode_classes (chars (edited t range with_text))) ≡ None) c.in_ok-source.ensures.made.1
          (c.in_err-parsed.ensures.refused (ap Err e)))),
    ))
