use Rattle.typst_report.proofs.Cited.{◌≡◌, ◌++◌, ap, codes, subst, ◌∙◌, OnOk, hints_member, text_member, severity_word}
use Rattle.typst_report.proofs.TokenLemmas.{written, written_last}
use Rattle.typst_report.proofs.ndjson.write_reported.Goals as goal

pub returns-clause-tokens : goal.returns-clause-tokens
returns-clause-tokens c =
    let d = c.args.finding.now.diagnostic.now in
    let file = text_member (codes "file") c.args.name.now in
    let severity = text_member (codes "severity") (severity_word d.severity) in
    let message = text_member (codes "message") d.message in
    let t1 = c.write_text.new.writer.tokens in
    let t2 = c.write_text-2.new.writer.tokens in
    let t3 = c.write_text-3.new.writer.tokens in
    let second : t2 ≡ t1 ++ severity = c.in_ok-write_text-2.ensures.tokens ∙ ap (λ w. t1 ++ text_member (codes "severity") w) c.severity.ensures in
    let third : t3 ≡ t2 ++ message = c.in_ok-write_text-3.ensures.tokens ∙ ap (λ w. t2 ++ text_member (codes "message") w) c.message.ensures in
    let last = subst (λ hs. OnOk c.write_hints.result (c.write_hints.new.writer.tokens ≡ t3 ++ hints_member hs)) c.hints.ensures c.write_hints.ensures.tokens in
    let two = written _ t1 t2 file severity c.in_ok-write_text.ensures.tokens second in
    written_last c.write_hints.result _ t3 _ (file ++ severity ++ message) (hints_member d.hints) (written _ t2 t3 (file ++ severity) message two third) last
