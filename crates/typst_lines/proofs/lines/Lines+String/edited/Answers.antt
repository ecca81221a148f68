use Rattle.typst_lines.proofs.Cited.{common_steps, ◌≡◌, ◌+◌, ◌-◌, ◌∙◌, length, refl, ap, sym, subst, arith, string_bytes, slice_range, IsUtf8, IsEdit, line_table, line_of, lines_after, AddsStarts}
use Rattle.typst_lines.proofs.Edited.{kept-front, start-boundary, end-boundary}
use Rattle.typst_lines.proofs.Pending.{edit-of, back-is, restored, sizes, pending}
use Rattle.typst_lines.proofs.lines.Lines+String.edited.Goals as goal

pub invariant_of-result : goal.invariant_of-result
invariant_of-result c = grind (arith, common_steps)

pub add_starts-requires : goal.add_starts-requires
add_starts-requires c =
    let s = c.args.self in
    let new = c.as_str.result.now in
    let end = c.args.start + length c.args.with.now in
    let u = subst IsUtf8 c.text.ensures c.text.utf8 in
    let v : IsUtf8 new = c.as_str.utf8 in
    let e : IsEdit s new c.args.start c.args.end end =
    edit-of s new c.args.with.now (string_bytes c.reserve.new.self) c.args.start c.args.end end u c.utf8.with c.requires.start c.requires.end c.requires.ordered (c.reserve.ensures.bytes ∙ c.self.view_is) (c.as_str.ensures.value ∙ c.put_text.ensures.bytes) refl in
    let k = kept-front s new u v c.args.start c.args.end end e (line_of s c.saturating_sub-before.result) c.line_before-first.result c.line_before-first.ensures.at (omega (arith, c.line_before-first.ensures.before, c.saturating_sub-before.ensures)) in
    record { boundary = k.boundary; counted = k.unit }

pub put_text-requires-in_default-add_starts-clause-start : goal.put_text-requires-in_default-add_starts-clause-start
put_text-requires-in_default-add_starts-clause-start c =
    let s = c.args.self in
    let new = string_bytes c.put_text.new.text in
    let end = c.args.start + length c.args.with.now in
    let u = subst IsUtf8 c.text.ensures c.text.utf8 in
    let v : IsUtf8 new = subst IsUtf8 c.as_str.ensures.value c.as_str.utf8 in
    let e : IsEdit s new c.args.start c.args.end end =
    edit-of s new c.args.with.now (string_bytes c.reserve.new.self) c.args.start c.args.end end u c.utf8.with c.requires.start c.requires.end c.requires.ordered (c.reserve.ensures.bytes ∙ c.self.view_is) (c.put_text.ensures.bytes) refl in
    start-boundary s new u v c.args.start c.args.end end e

pub invariant_of-result-in_default-add_starts : goal.invariant_of-result-in_default-add_starts
invariant_of-result-in_default-add_starts c =
    let s = c.args.self in
    let new = string_bytes c.put_text.new.text in
    let end = c.args.start + length c.args.with.now in
    let u = subst IsUtf8 c.text.ensures c.text.utf8 in
    let v : IsUtf8 new = subst IsUtf8 c.as_str.ensures.value c.as_str.utf8 in
    let e : IsEdit s new c.args.start c.args.end end =
    edit-of s new c.args.with.now (string_bytes c.reserve.new.self) c.args.start c.args.end end u c.utf8.with c.requires.start c.requires.end c.requires.ordered (c.reserve.ensures.bytes ∙ c.self.view_is) (c.put_text.ensures.bytes) refl in
    let cut : string_bytes c.in-Ok.removed ≡ slice_range s c.args.start c.args.end = c.in-Ok.ensures.ok ∙ c.range.ensures.value ∙ ap (λ t. slice_range t c.args.start c.args.end) c.text.ensures in
    let back = restored s new u v c.args.start c.args.end end e (string_bytes c.put_text.new.text) c.as_str-in_default-add_starts.result.now (string_bytes c.put_text-in_default-add_starts.new.text) refl (c.as_str-in_default-add_starts.ensures.value ∙ cut) c.put_text-in_default-add_starts.ensures.bytes in
    c.in_default-add_starts.ensures.err ∙ c.self.invariant ∙ ap line_table (c.self.view_is ∙ sym back)

pub returns-in_default-add_starts-clause-err : goal.returns-in_default-add_starts-clause-err
returns-in_default-add_starts-clause-err c =
    let s = c.args.self in
    let new = string_bytes c.put_text.new.text in
    let end = c.args.start + length c.args.with.now in
    let u = subst IsUtf8 c.text.ensures c.text.utf8 in
    let v : IsUtf8 new = subst IsUtf8 c.as_str.ensures.value c.as_str.utf8 in
    let e : IsEdit s new c.args.start c.args.end end =
    edit-of s new c.args.with.now (string_bytes c.reserve.new.self) c.args.start c.args.end end u c.utf8.with c.requires.start c.requires.end c.requires.ordered (c.reserve.ensures.bytes ∙ c.self.view_is) (c.put_text.ensures.bytes) refl in
    let cut : string_bytes c.in-Ok.removed ≡ slice_range s c.args.start c.args.end = c.in-Ok.ensures.ok ∙ c.range.ensures.value ∙ ap (λ t. slice_range t c.args.start c.args.end) c.text.ensures in
    restored s new u v c.args.start c.args.end end e (string_bytes c.put_text.new.text) c.as_str-in_default-add_starts.result.now (string_bytes c.put_text-in_default-add_starts.new.text) refl (c.as_str-in_default-add_starts.ensures.value ∙ cut) c.put_text-in_default-add_starts.ensures.bytes

pub returns-clause-before : goal.returns-clause-before
returns-clause-before c =
    let s = c.args.self in
    let new = string_bytes c.put_text.new.text in
    let end = c.args.start + length c.args.with.now in
    let u = subst IsUtf8 c.text.ensures c.text.utf8 in
    let v : IsUtf8 new = subst IsUtf8 c.as_str.ensures.value c.as_str.utf8 in
    let e : IsEdit s new c.args.start c.args.end end =
    edit-of s new c.args.with.now (string_bytes c.reserve.new.self) c.args.start c.args.end end u c.utf8.with c.requires.start c.requires.end c.requires.ordered (c.reserve.ensures.bytes ∙ c.self.view_is) (c.put_text.ensures.bytes) refl in
    let cut : string_bytes c.in-Ok.removed ≡ slice_range s c.args.start c.args.end = c.in-Ok.ensures.ok ∙ c.range.ensures.value ∙ ap (λ t. slice_range t c.args.start c.args.end) c.text.ensures in
    back-is s new u v c.args.start c.args.end end e (string_bytes c.in-Ok.removed) cut

pub invariant_of-result-2 : goal.invariant_of-result-2
invariant_of-result-2 c =
    let s = c.args.self in
    let new = string_bytes c.put_text.new.text in
    let end = c.args.start + length c.args.with.now in
    let u = subst IsUtf8 c.text.ensures c.text.utf8 in
    let v : IsUtf8 new = subst IsUtf8 c.as_str.ensures.value c.as_str.utf8 in
    let e : IsEdit s new c.args.start c.args.end end =
    edit-of s new c.args.with.now (string_bytes c.reserve.new.self) c.args.start c.args.end end u c.utf8.with c.requires.start c.requires.end c.requires.ordered (c.reserve.ensures.bytes ∙ c.self.view_is) (c.put_text.ensures.bytes) refl in
    let cut : string_bytes c.in-Ok.removed ≡ slice_range s c.args.start c.args.end = c.in-Ok.ensures.ok ∙ c.range.ensures.value ∙ ap (λ t. slice_range t c.args.start c.args.end) c.text.ensures in
    let n = line_of s c.saturating_sub-before.result in
    let table : c.self.inside.lines.items ≡ line_table s = c.self.invariant ∙ ap line_table c.self.view_is in
    let all = ap length table in
    let size = sizes s new u v c.args.start c.args.end end e in
    let gone = ap length cut in
    let was = ap length (c.reserve.ensures.bytes ∙ c.self.view_is) in
    let long = ap length c.as_str.ensures.value in
    let text = ap length c.text.ensures in
    let added = subst (λ t. AddsStarts (lines_after t c.line_before-first.result.byte_idx) end c.in-Ok-add_starts.utf16_idx c.self.inside.lines.items c.add_starts.new.lines.items) c.as_str.ensures.value c.in-Ok-add_starts.ensures.ok in (
      record {
        start = start-boundary s new u v c.args.start c.args.end end e;
        end = end-boundary s new u v c.args.start c.args.end end e;
        ordered = omega arith;
        room = omega (arith, c.in-Ok-reserve.ensures.ok, c.put_text.ensures.capacity, size, gone, was);
      },
      pending s new u v c.args.start c.args.end end e _ (back-is s new u v c.args.start c.args.end end e (string_bytes c.in-Ok.removed) cut) (omega (arith, text)) (omega (arith, long)) n c.line_before-first.result c.line_before-first.ensures.at (ap (line_of s) c.saturating_sub-before.ensures)
          (omega (arith, c.line_before-first.ensures.before, c.saturating_sub-before.ensures)) (omega (arith, c.line_holding-kept.ensures.value, c.line_holding-kept.ensures.within)) (omega (arith, c.line_holding-behind.ensures.value, c.line_holding-behind.ensures.within)) c.self.inside.lines.items c.add_starts.new.lines.items c.in-Ok-add_starts.utf16_idx _ _ _ table added
          (omega (arith, c.line_holding-kept.ensures.value)) (omega (arith, c.line_holding-behind.ensures.value)) (omega (arith, all)),
    )
