-- An edit in bytes and in characters.
use Rattle.typst_parser.proofs.Cited.{◌≡◌, ℕ, ◌+◌, ◌-◌, ◌<◌, ◌≤◌, ◌^◌, List, ◌++◌, length, take, drop, length-append, length-take-le, length-drop, append_assoc, ap, sym, subst, ◌∙◌, arith, chars, IsCharBoundary, IsUtf8, Range, drop-take, chars-append, IsUtf8-append, IsUtf8-drop, IsUtf8-take, bytes-text, chars-split, chars-range, width, width-append, TextReplacement, text_before, text_after, Makes, Replacement, IsEdited, change_by, bytes}

bytes-width : (cs : List ℕ) → width cs ≡ bytes cs
unfolding width
bytes-width cs = grind arith

-- a text's bytes are those of its characters
pub width-chars : (s : List ℕ) → IsUtf8 s → width (chars s) ≡ length s
width-chars s u = bytes-width (chars s) ∙ bytes-text s u

-- a text in the place of a range of bytes is an edit
abbrev pub edited-by : (held was text now with : List ℕ) (r : Range ℕ) (behind long new_end : ℕ) → held ≡ was → text ≡ was → IsUtf8 text → IsUtf8 with → IsCharBoundary was r.start → IsCharBoundary was r.end → r.start ≤ r.end
    → now ≡ take r.start held ++ with ++ drop r.end held → behind ≡ length text - r.end → long ≡ length now → new_end ≡ long - behind → IsEdited was now (record { start = r.start; old_end = r.end; new_end = new_end })
edited-by held was text now with r behind long new_end at of utf8_old utf8 start end ordered made is_after is_long is_end =
    let is : now ≡ take r.start was ++ (with ++ drop r.end was) = made ∙ ap (λ t. take r.start t ++ with ++ drop r.end t) at ∙ append_assoc (take r.start was) with (drop r.end was) in
    record {
      with = with;
      utf8_old = subst IsUtf8 of utf8_old;
      utf8 = utf8;
      start = start;
      end = end;
      ordered = ordered;
      is = is;
      new_end = omega (arith, end.0, start.0, ordered, is_end, is_after, is_long, ap length of, ap length is, length-append (take r.start was) (with ++ drop r.end was), length-append with (drop r.end was), length-take-le r.start was start.0, length-drop r.end was);
    }

module _ (was now : List ℕ) (e : Replacement) (h : IsEdited was now e) where
  abbrev c : TextReplacement
  c = change_by h

  -- the characters up to the stretch's end
  up-to : chars (take e.old_end was) ≡ c.front ++ c.old
  up-to = let more : e.start + (e.old_end - e.start) ≡ e.old_end = omega (arith, h.ordered) in grind (arith, drop-take, chars-range)

  pub before : text_before c ≡ chars was
  before = sym (append_assoc c.front c.old c.rest) ∙ ap (λ s. s ++ c.rest) (sym up-to) ∙ sym (chars-split was h.utf8_old e.old_end h.end)

  pub after : chars now ≡ text_after c
  after =
      ap chars h.is ∙ chars-append (take e.start was) (h.with ++ drop e.old_end was) (IsUtf8-take was e.start h.utf8_old h.start)
      ∙ ap (λ s. c.front ++ s) (chars-append h.with (drop e.old_end was) h.utf8)

  pub utf8-now : IsUtf8 now
  utf8-now =
      subst IsUtf8 (sym h.is)
      (IsUtf8-append (take e.start was) (h.with ++ drop e.old_end was) (IsUtf8-take was e.start h.utf8_old h.start)
      (IsUtf8-append h.with (drop e.old_end was) h.utf8 (IsUtf8-drop was e.old_end h.utf8_old h.end)))

  pub long-now : width (text_after c) ≡ length now
  long-now = ap width (sym after) ∙ width-chars now utf8-now

  front-long : width c.front ≡ e.start
  front-long = width-chars (take e.start was) (IsUtf8-take was e.start h.utf8_old h.start) ∙ omega (arith, length-take-le e.start was h.start.0)

  end-long : width (c.front ++ c.old) ≡ e.old_end
  end-long = ap width (sym up-to) ∙ width-chars (take e.old_end was) (IsUtf8-take was e.old_end h.utf8_old h.end) ∙ omega (arith, length-take-le e.old_end was h.end.0)

  -- it is the edit of the characters
  pub makes : length was < 2 ^ 64 - 1 → length now < 2 ^ 64 - 1 → Makes c now e
  makes fits fits_now = record {
    is = after;
    start = sym front-long;
    old_end = sym end-long;
    new_end = omega (arith, h.new_end, front-long, width-append c.front c.new, width-chars h.with h.utf8);
    fits = omega (arith, fits, ap width before, width-chars was h.utf8_old);
    fits_now = omega (arith, fits_now, long-now);
  }
