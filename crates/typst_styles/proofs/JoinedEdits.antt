-- Two edits of a root's children in a row are one edit.
use Rattle.typst_styles.proofs.Cited.{◌≡◌, ℕ, ◌+◌, ◌-◌, ◌≤◌, List, [], ◌∷◌, ◌++◌, length, refl, ap, sym, subst, ◌∙◌, arith, inl, inr, append_assoc, append-nil, min, Range, Tree, bare_forest, bytes_of, first_bytes, last_bytes, IsOfBoth}
use Rattle.typst_styles.proofs.EditedKids.{Edited, IsOf, bare_twice, bytes_append, bytes_is, edited, last_append, last_later, parted, same_kids}

-- ---- what both edits leave

-- at the front
record Fronts (f1 f2 n2 : List Tree) (start : ℕ) : Type 0 where
  front : List Tree
  first : List Tree
  second : List Tree
  of_first : f1 ≡ front ++ first
  of_second : f2 ≡ front ++ second
  starts : bytes_of front ≤ start
  begins : (ending : List Tree) → start ≤ bytes_of front + first_bytes (second ++ (n2 ++ ending))

-- at the end
record Backs (b1 b2 n2 : List Tree) (len end : ℕ) : Type 0 where
  back : List Tree
  first : List Tree
  second : List Tree
  of_first : b1 ≡ first ++ back
  of_second : b2 ≡ second ++ back
  ends : (less : List Tree) → len ≤ bytes_of back + (end + last_bytes (less ++ (n2 ++ second)))

first_front : (xs ys : List Tree) → first_bytes xs ≤ first_bytes (xs ++ ys)
first_front xs ys = grind arith

begins_both : (f1 n1 b1 f2 n2 ending rest between : List Tree) (s1 s2 : ℕ) → n1 ++ b1 ≡ between ++ rest → bytes_of f2 ≡ bytes_of f1 + bytes_of between → s1 ≤ bytes_of f1 + first_bytes n1 → s2 ≤ bytes_of f2 + first_bytes n2
    → min s1 s2 ≤ bytes_of f1 + first_bytes (between ++ (n2 ++ ending))
begins_both f1 n1 b1 f2 n2 ending rest between s1 s2 e long first second = grind (arith, first_front)

fronts : {one two three : List ℕ} {a b c : Tree} {r1 r2 : Range ℕ} (w : Edited two one a b r1) (v : Edited three two b c r2) → Fronts w.front v.front v.new (min r1.start r2.start)
fronts {r1 = r1} {r2 = r2} w v =
    elim (parted w.front (w.new ++ w.back) v.front (v.old ++ v.back) (same_kids w.after v.before)) [
      | inl on ↦
          let long : bytes_of v.front ≡ bytes_of w.front + bytes_of on.more = ap bytes_of on.front ∙ bytes_append w.front on.more in
          record {
            front = w.front;
            first = [];
            second = on.more;
            of_first = sym (append-nil w.front);
            of_second = on.front;
            starts = omega (arith, w.starts, v.starts);
            begins = λ ending. begins_both w.front w.new w.back v.front v.new ending (v.old ++ v.back) on.more r1.start r2.start on.back long w.begins v.begins;
          }
      | inr on ↦
          record {
            front = v.front;
            first = on.more;
            second = [];
            of_first = on.front;
            of_second = sym (append-nil v.front);
            starts = omega (arith, w.starts, v.starts, ap bytes_of on.front, bytes_append v.front on.more);
            begins = λ ending. omega (arith, v.begins, first_front v.new ending);
          }
    ]

-- the last of the new trees of the second edit, if nothing comes after them
last_own : (less n2 : List Tree) → last_bytes n2 ≤ last_bytes (less ++ (n2 ++ []))
last_own less n2 = omega (arith, last_append less (n2 ++ []), ap last_bytes (append-nil n2))

-- where the second edit leaves more at the end than the first
ends_first : (f1 n1 b1 f2 o2 n2 b2 between less : List Tree) (e1 e2 before after : ℕ) → f1 ++ n1 ≡ (f2 ++ o2) ++ between → b2 ≡ between ++ b1 → before ≡ bytes_of f1 + (bytes_of n1 + bytes_of b1) → after ≡ bytes_of f2 + (bytes_of n2 + bytes_of b2)
    → bytes_of f1 + bytes_of n1 ≤ e1 + last_bytes n1 → bytes_of f2 + bytes_of n2 ≤ e2 + last_bytes n2 → (end : ℕ) → after - (before - e1) ≤ end → e2 ≤ end → after ≤ bytes_of b1 + (end + last_bytes (less ++ (n2 ++ between)))
ends_first f1 n1 b1 f2 o2 n2 b2 [] less e1 e2 before after front back long_before long_after first second end high_first high_second = omega (arith, last_own less n2, ap bytes_of back)
ends_first f1 n1 b1 f2 o2 n2 b2 (t ∷ between) less e1 e2 before after front back long_before long_after first second end high_first high_second =
    let last : last_bytes (f1 ++ n1) ≡ last_bytes (t ∷ between) = ap last_bytes front ∙ last_later (f2 ++ o2) t between in
    grind (arith, append_assoc, last_later, last_append)

backs : {one two three : List ℕ} {a b c : Tree} {r1 r2 : Range ℕ} (w : Edited two one a b r1) (v : Edited three two b c r2) (end : ℕ) → length three - (length two - r1.end) ≤ end → r2.end ≤ end → Backs w.back v.back v.new (length three) end
backs {two = two} {three = three} {r1 = r1} {r2 = r2} w v end high_first high_second =
    let before_is : length two ≡ bytes_of w.front + (bytes_of w.new + bytes_of w.back) = omega (arith, bytes_is w.after, bytes_append w.front (w.new ++ w.back), bytes_append w.new w.back) in
    let after_is : length three ≡ bytes_of v.front + (bytes_of v.new + bytes_of v.back) = omega (arith, bytes_is v.after, bytes_append v.front (v.new ++ v.back), bytes_append v.new v.back) in
    elim (parted (w.front ++ w.new) w.back (v.front ++ v.old) v.back (append_assoc w.front w.new w.back ∙ (same_kids w.after v.before ∙ sym (append_assoc v.front v.old v.back)))) [
      | inl on ↦ record { back = v.back; first = on.more; second = []; of_first = on.back; of_second = refl; ends = λ less. omega (arith, v.ends, last_own less v.new) }
      | inr on ↦
          record {
            back = w.back;
            first = [];
            second = on.more;
            of_first = refl;
            of_second = on.back;
            ends = λ less. ends_first w.front w.new w.back v.front v.old v.new v.back on.more less r1.end r2.end (length two) (length three) on.front on.back before_is after_is w.ends v.ends end high_first high_second;
          }
    ]

-- ---- both in one

placed : {text : List ℕ} {root : Tree} (f1 n b1 f m y b : List Tree) → IsOf text root (f1 ++ (n ++ b1)) → f1 ≡ f ++ m → b1 ≡ y ++ b → IsOf text root (f ++ ((m ++ (n ++ y)) ++ b))
placed {text} {root} f1 n b1 f m y b w front back = subst (IsOf text root) ((λ i. front i ++ (n ++ back i)) ∙ simp append_assoc) w

pub of_both : (first second : Range ℕ) (before after : ℕ) (both : Range ℕ) → both.start ≡ min first.start second.start → after - (before - first.end) ≤ both.end → second.end ≤ both.end → IsOfBoth first second before after both
of_both first second before after both start_is high_first high_second was_text middle_text text was middle now before_is after_is one two =
    let w = edited one in
    let v = edited two in
    let f = fronts w v in
    let b = backs w v both.end (omega arith) high_second in
    let old : List Tree = f.first ++ (w.old ++ b.first) in
    let new : List Tree = f.second ++ (v.new ++ b.second) in
    let was_is : IsOf was_text was (f.front ++ (old ++ b.back)) = placed w.front w.old w.back f.front f.first b.first b.back w.before f.of_first b.of_first in
    let now_is : IsOf text now (f.front ++ (new ++ b.back)) = placed v.front v.new v.back f.front f.second b.second b.back v.after f.of_second b.of_second in
    record {
      edit = record {
        front = f.front;
        old = old;
        new = new;
        back = b.back;
        kind_was = was_is.kind;
        kind_now = now_is.kind;
        text_was = was_is.own;
        text_now = now_is.own;
        before = sym (bare_twice was.kids) ∙ ap bare_forest was_is.kids;
        after = sym (bare_twice now.kids) ∙ ap bare_forest now_is.kids;
        starts = omega (arith, f.starts, start_is);
        begins = omega (arith, f.begins b.second, start_is);
        ordered = omega (arith, two.edit.ordered, start_is, high_second);
        ends = omega (arith, b.ends f.second, bytes_is now_is, bytes_append f.front (new ++ b.back), bytes_append new b.back);
      };
      whole_was = one.whole_was;
      whole_now = two.whole_now;
      few_was = one.few_was;
      few_now = two.few_now;
    }
