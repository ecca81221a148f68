-- What is put on a page.
use Rattle.typst_highlight.proofs.Cited.{rules, ◌≡◌, ℕ, zero, suc, ◌+◌, ◌<◌, ◌≤◌, List, [], ◌∷◌, ◌++◌, Option, None, Some, length, take, drop, ap, refl, sym, subst, ◌∙◌, arith, get_or, append_assoc, length-append, take-suc-set, codes, slice_set, length-take-le, take-append-drop, take-append-le, take_more, Tag, opening, span_start, span_end, IsUtf8, IsUtf8-nil, IsUtf8-append, IsUtf8-from_ascii, take-append-add}
use Rattle.std.proofs.lemmas.Str.Ascii.{IsAscii-from_all}
use Rattle.typst_highlight.specs.declared.tags.Tag.TheVariants as tag

-- the first n bytes of what was put on a page
pub part_put : (page old block : List ℕ) (a n end : ℕ) → end ≡ a + length block → n ≤ length block → a ≤ length old → take end page ≡ take a old ++ block → take (a + n) page ≡ take a old ++ take n block
part_put page old block a n end e h l w =
    let front : length (take a old) ≡ a = length-take-le a old l in
    let count : a + n ≤ length (take end page) = omega (arith, ap length w, length-append (take a old) block, front, h) in
    ap (take (a + n)) (sym (take-append-drop end page))
    ∙ (take-append-le (a + n) (take end page) (drop end page) count
    ∙ (ap (take (a + n)) w
    ∙ (ap (λ m. take (m + n) (take a old ++ block)) (sym front) ∙ take-append-add (take a old) block n)))

-- what stands before a byte that is put on a page
pub before_put : (page : List ℕ) (a n b : ℕ) → a ≤ n → take a (slice_set page n b) ≡ take a page
before_put page zero n b l = refl
before_put [] (suc a) n b l = refl
before_put (x ∷ page) (suc a) zero b l = absurd (omega (arith, l))
before_put (x ∷ page) (suc a) (suc n) b l = ap (λ ys. x ∷ ys) (before_put page a n b (omega (arith, l)))

-- one byte more of a text that is put on a page
pub byte_put : (page front text : List ℕ) (a n b : ℕ) → a + n < length page → n < length text → b ≡ get_or text n 0 → take (a + n) page ≡ front ++ take n text → take (a + (n + 1)) (slice_set page (a + n) b) ≡ front ++ take (n + 1) text
byte_put page front text a n b l m e w = let next : a + (n + 1) ≡ suc (a + n) = omega arith in grind (arith, take-suc-set, append_assoc, take_more)

-- a text between the beginning and the end of a span
pub span_put : (o : Option Tag) (t : Tag) (a b d e text : List ℕ) → o ≡ Some t → b ≡ a ++ opening t → d ≡ b ++ text → e ≡ d ++ codes "</span>" → e ≡ a ++ (span_start o ++ (text ++ span_end o))
span_put o t a b d e text s f g h = grind (arith, append_assoc)

pub utf8_behind : (bs page text : List ℕ) → bs ≡ page ++ text → IsUtf8 page → IsUtf8 text → IsUtf8 bs
utf8_behind bs page text e p q = subst IsUtf8 (sym e) (IsUtf8-append page text p q)

utf8_opening : (t : Tag) → IsUtf8 (opening t)
utf8_opening tag.Comment = search rules
utf8_opening tag.Punctuation = search rules
utf8_opening tag.Escape = search rules
utf8_opening tag.Strong = search rules
utf8_opening tag.Emph = search rules
utf8_opening tag.Link = search rules
utf8_opening tag.Raw = search rules
utf8_opening tag.Label = search rules
utf8_opening tag.Ref = search rules
utf8_opening tag.Heading = search rules
utf8_opening tag.ListMarker = search rules
utf8_opening tag.ListTerm = search rules
utf8_opening tag.MathDelimiter = search rules
utf8_opening tag.MathOperator = search rules
utf8_opening tag.MathGroupingParens = search rules
utf8_opening tag.Keyword = search rules
utf8_opening tag.Operator = search rules
utf8_opening tag.Number = search rules
utf8_opening tag.String = search rules
utf8_opening tag.Function = search rules
utf8_opening tag.Interpolated = search rules
utf8_opening tag.Error = search rules

utf8_start : (o : Option Tag) → IsUtf8 (span_start o)
utf8_start None = IsUtf8-nil
utf8_start (Some t) = utf8_opening t

utf8_end : (o : Option Tag) → IsUtf8 (span_end o)
utf8_end None = IsUtf8-nil
utf8_end (Some t) = search rules

-- a text in a span
pub utf8_span : (o : Option Tag) (text : List ℕ) → IsUtf8 text → IsUtf8 (span_start o ++ (text ++ span_end o))
utf8_span o text u = IsUtf8-append (span_start o) (text ++ span_end o) (utf8_start o) (IsUtf8-append text (span_end o) u (utf8_end o))

pub utf8_byte : (b : ℕ) → b < 128 → IsUtf8 (b ∷ [])
utf8_byte b l = IsUtf8-from_ascii (b ∷ []) (IsAscii-from_all (b ∷ []) (grind (arith, l)))
