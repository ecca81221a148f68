-- What the steps of a source's calls give, for the answers of their clauses.
use Rattle.typst_parser.proofs.Cited.{◌≡◌, ℕ, ◌+◌, ◌-◌, ◌≤◌, Bool, true, false, List, length, Option, Some, None, refl, sym, ap, subst, ◌∙◌, arith, Result, Err, IsCharBoundary, Range, Bytes, Tree, Held, edited, file_of, numbered_in, top, found, is_in_file, bytes_in, range_of, OnOk, IsErrAnd, not, nat_eq, option_and_then, option_map, slice_range}
use Rattle.std.specs.Option.{option_eq}
use Rattle.typst_kinds.specs.declared.error.SourceError.{SourceError}
use Rattle.typst_lines.specs.Replacement.{Replaces}
use Rattle.typst_tree.specs.Steps.{At, find_span, find_number, offset_of, end_of}

-- ---- a span of the file, or of another one

is-unequal : (b : Bool) → true ≡ not b → b ≡ false
is-unequal b h = grind arith

is-equal : (b : Bool) → false ≡ not b → b ≡ true
is-equal b h = grind arith

compared : (id : ℕ) (span : Option (ℕ × ℕ)) → is_in_file id span ≡ option_eq nat_eq (option_map (λ place. place.0) span) (Some id)
compared id span = grind arith

in-file : (id own : ℕ) (file : Option ℕ) (span : Option (ℕ × ℕ)) → own ≡ id → file ≡ option_map (λ place. place.0) span → is_in_file id span ≡ option_eq nat_eq file (Some own)
in-file id own file span is of = compared id span ∙ ap (λ o. option_eq nat_eq o (Some id)) (sym of) ∙ ap (λ n. option_eq nat_eq file (Some n)) (sym is)

pub not-found : (id own : ℕ) (file : Option ℕ) (span : Option (ℕ × ℕ)) (root : Tree) → own ≡ id → file ≡ option_map (λ place. place.0) span → true ≡ not (option_eq nat_eq file (Some own)) → found id span root ≡ None
not-found id own file span root is of differs = rw (in-file id own file span is of ∙ is-unequal (option_eq nat_eq file (Some own)) differs) refl

pub looked-for : (id own : ℕ) (file : Option ℕ) (span : Option (ℕ × ℕ)) (root : Tree) → own ≡ id → file ≡ option_map (λ place. place.0) span → false ≡ not (option_eq nat_eq file (Some own)) → found id span root ≡ option_and_then (find_span span) (top root)
looked-for id own file span root is of same = rw (in-file id own file span is of ∙ is-equal (option_eq nat_eq file (Some own)) same) refl

-- ---- a range within a node

part-of : (sub : Bytes) (a : At) (range : Range ℕ) → range.start ≡ offset_of a → range.end ≡ end_of a → sub.end ≤ range.end - range.start → Some (record { start = range.start + sub.start; end = range.start + sub.end }) ≡ bytes_in (Some sub) a
part-of sub a range start end fits = grind arith

pub part-given :
    (number : ℕ) (asked : Option Bytes) (sub : Bytes) (root : Tree) (a b : At) (range : Range ℕ) (from to last : ℕ) →
    Some a ≡ top root → Some b ≡ find_number number a → asked ≡ Some sub →
    range.start ≡ offset_of b → range.end ≡ end_of b → last ≤ range.end - range.start → last ≡ sub.end → from ≡ sub.start → to ≡ sub.end →
    Some (record { start = range.start + from; end = range.start + to }) ≡ range_of number asked root
part-given number asked sub root a b range from to last at-top at-node is start end fits is-last is-from is-to = grind arith

-- ---- a refusal

pub on-ok : {T E P Q : Type 0} (r : Result T E) → (P → Q) → OnOk r P → OnOk r Q
on-ok r f p = grind arith

pub error-is : {T : Type 0} (r : Result T SourceError) (e f : SourceError) → IsErrAnd r (λ x. x ≡ e) → r ≡ Err f → e ≡ f
error-is r e f h is = grind arith

-- ---- a text in the place of a range of another one

pub end-kept : (lines text : List ℕ) (n e : ℕ) → lines ≡ text → n ≡ length lines → IsCharBoundary lines (length lines - e) → IsCharBoundary text (n - e)
end-kept lines text n e is of h = subst (λ t. IsCharBoundary t (n - e)) is (subst (λ k. IsCharBoundary lines (k - e)) (sym of) h)

pub replaced : (lines text new with : List ℕ) (n front end : ℕ) → lines ≡ text → n ≡ length lines → with ≡ slice_range new front (length new - end) → Replaces lines new (front, end) → edited text (record { start = front; end = n - end }) with ≡ new
replaced lines text new with n front end is of piece h = grind arith

-- ---- what a source was, from what it holds inside

pub same-file : {D : Type 0} (s old : Held D) (file : Option ℕ) (t root : Tree) (span : Option (ℕ × ℕ)) → s ≡ old → file ≡ option_map (λ place. place.0) span → span ≡ s.root.head.span → numbered_in file t ≡ Some root → file_of root ≡ file_of old.root
same-file {D} s old file t root span is of at numbered = grind arith

pub same-held : {D : Type 0} (s : Held D) (text : List ℕ) (root : Tree) → text ≡ s.text → root ≡ s.root → record { id = s.id; text = text; root = root; classes = s.classes; has_records = s.has_records } ≡ s
same-held {D} s text root is at = ap (λ (t : List ℕ). record s { text = t; root = root }) is ∙ ap (λ (t : Tree). record s { root = t }) at
