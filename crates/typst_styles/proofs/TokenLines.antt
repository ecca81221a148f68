-- One byte more of a stretch that is cut into lines, and one stretch more.
use Rattle.typst_styles.proofs.Cited.{◌≡◌, ℕ, suc, ◌+◌, ◌-◌, ◌<◌, ◌≤◌, true, false, List, ◌∷◌, ◌++◌, length, take, drop, get_or, Option, refl, ap, ◌∙◌, arith, add-one, append_assoc, drop-cons, slice_range, drop-drop, Tagged, Role, style_of, Style, Token, ends_line, first_role, lines, stretch, stretches, token}

-- a stretch is its first byte and the stretch behind it
cut : (text : List ℕ) (at e : ℕ) → at < e → at < length text → slice_range text at e ≡ get_or text at 0 ∷ slice_range text (at + 1) e
cut text at e l m =
    let count : e - at ≡ suc (e - (at + 1)) = omega arith in
    let first : drop at text ≡ get_or text at 0 ∷ drop (at + 1) text = rw (add-one, drop-cons text at 0) refl in
    ap (λ n. take n (drop at text)) count ∙ ap (take (suc (e - (at + 1)))) first

-- at a line end the token ends
pub lines_ended : (s : Style) (a at e : ℕ) (text : List ℕ) → a ≤ at → at < e → at < length text → ends_line (get_or text at 0) ≡ true → lines s a (at - a) (slice_range text at e) ≡ token s a (at - a) ++ lines s (at + 1) (at + 1 - (at + 1)) (slice_range text (at + 1) e)
lines_ended s a at e text o l m ends = grind (arith, cut text at e l m)

-- elsewhere it goes on
pub lines_going : (s : Style) (a at e : ℕ) (text : List ℕ) → a ≤ at → at < e → at < length text → ends_line (get_or text at 0) ≡ false → lines s a (at - a) (slice_range text at e) ≡ lines s a (at + 1 - a) (slice_range text (at + 1) e)
lines_going s a at e text o l m goes = grind (arith, cut text at e l m)

-- ---- one stretch more

-- the tokens of a stretch, by its role
abbrev of : List ℕ → Tagged → Option Role → List Token
of text s role = stretch text s.range.start s.range.end (style_of s.tag role)

-- the tokens of the stretch with a number stand before those after it
next : (text : List ℕ) (ss : List Tagged) (rs : List (Option Role)) (i : ℕ) (d : Tagged) → i < length ss
    → stretches text (drop i ss) (drop i rs) ≡ of text (get_or ss i d) (first_role (drop i rs)) ++ stretches text (drop (i + 1) ss) (drop (i + 1) rs)
next text ss rs i d within =
    cc (drop-cons ss i d within, add-one i, drop-drop 1 i rs)

-- they are added
pub stretch-added : (text : List ℕ) (ss : List Tagged) (rs : List (Option Role)) (i : ℕ) (d : Tagged) (old new : List Token) (role : Option Role) (all : List Token) → i < length ss → role ≡ first_role (drop i rs)
    → new ≡ old ++ stretch text (get_or ss i d).range.start (get_or ss i d).range.end (style_of (get_or ss i d).tag role) → old ++ stretches text (drop i ss) (drop i rs) ≡ all
    → new ++ stretches text (drop (i + 1) ss) (drop (i + 1) rs) ≡ all
stretch-added text ss rs i d old new role all within is added so_far =
    cc
    (added, is, so_far, next text ss rs i d within, append_assoc old (of text (get_or ss i d) role) (stretches text (drop (i + 1) ss) (drop (i + 1) rs)))
