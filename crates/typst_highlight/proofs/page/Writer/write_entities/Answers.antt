use Rattle.typst_highlight.proofs.Cited.{common_steps, ◌≡◌, ◌+◌, ◌<◌, ◌++◌, ◌∙◌, refl, ap, arith, length, get_or, IsCharBoundary-start, IsCharBoundary-after_ascii}
use Rattle.typst_highlight.proofs.Escapes.{plain_more, plain_none, entity_more}
use Rattle.typst_highlight.proofs.page.Writer.write_entities.Goals as goal
use Rattle.typst_highlight.proofs.page.Writer.write_entities.Goals.{in-Some+in_ok-push+in_ok-push-2, in_default}

pub loop-at-init : goal.loop-at-init
loop-at-init c = record { written = refl; plain = refl; before = omega arith; boundary = IsCharBoundary-start c.args.text.now c.utf8.text }

pub loop-at-preserved : goal.loop-at-preserved
loop-at-preserved c =
    let text = c.args.text.now in
    let at = c.loop-at.at in
    let bytes = c.as_bytes-bytes.result.now in
    let same : bytes ≡ text = c.as_bytes-bytes.ensures.value in
    let byte : get_or bytes at 0 ≡ get_or text at 0 = ap (λ t. get_or t at 0) same in
    let within : at < length text = omega (arith, ap length same) in
    let so_far = c.loop-at.invariant in elim c.match-entity.branch [
      | in-Some+in_ok-push+in_ok-push-2 w ↦
          let front = w.in_ok-push.ensures ∙ ap (λ bs. c.loop-at.self ++ bs) w.range.ensures.value in
          let behind = w.self-is ∙ (w.in_ok-push-2.ensures ∙ ap (λ bs. w.push.new.self ++ bs) w.in-Some.ensures.0) in
          record {
            written = entity_more text c.loop-at.self _ _ c.match-entity.self c.loop-at.done at c.match-entity.done (get_or bytes at 0) so_far.before within byte w.done-is front behind so_far.plain so_far.written;
            plain = plain_none text c.match-entity.done (at + 1) w.done-is;
            before = omega (arith, w.done-is);
            boundary = rw w.done-is (IsCharBoundary-after_ascii text at c.utf8.text within (omega (arith, byte, w.in-Some.ensures.1)));
          }
      | in_default w ↦
          record {
            written = rw (w.self-is, w.done-is) so_far.written;
            plain = rw w.done-is (plain_more text c.loop-at.done at (at + 1) (get_or bytes at 0) so_far.before within byte refl w.in_default.ensures so_far.plain);
            before = omega (arith, w.done-is);
            boundary = rw w.done-is so_far.boundary;
          }
    ]

pub returns : goal.returns
returns c = grind (arith, common_steps)
