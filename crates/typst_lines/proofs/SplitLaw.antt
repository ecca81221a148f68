-- The stretches between line ends, and that they make the text with the line ends put back.
use Rattle.typst_lines.proofs.Cited.{◌≡◌, Bool, length, ℕ, ◌+◌, ◌&&◌, ◌==◌, if◌then◌else◌, List, [], ◌∷◌, ◌++◌, slice_get, Some, None, refl, sym, ap, ◌∙◌, true, false, arith, take, append_assoc, append-nil, take_at, length-append, map, Bor, chars, is_newline, ends_line, line_end_len, stretches, line_ends, onto_first, woven, all_lack_newlines, Place, moved, moved_from, scout, passes}
use Rattle.typst_lines.proofs.LineTable.{place-end}
use Rattle.typst_lines.proofs.PlaceLemmas.{moved-step}
use Rattle.typst_lines.proofs.CommonEnds.{ahead-step}

-- characters put before the first of some texts
abbrev pub glued : List ℕ → List (List ℕ) → List (List ℕ)
glued xs [] = []
glued xs (text ∷ texts) = (xs ++ text) ∷ texts

glued-onto : (xs : List ℕ) (c : ℕ) (texts : List (List ℕ)) → glued xs (onto_first c texts) ≡ glued (xs ++ c ∷ []) texts
glued-onto xs c texts = grind (arith, append_assoc)

pub glued-none : (texts : List (List ℕ)) → glued [] texts ≡ texts
glued-none texts = grind arith

-- the characters passed since a place
pub record Since (p q : Place) : Type 0 where
  pub passed : List ℕ
  pub ahead : p.ahead ≡ passed ++ q.ahead
  pub moves : q ≡ moved (length passed) p

abbrev pub since-none : (p : Place) → Since p p
since-none p = record { passed = []; ahead = refl; moves = refl }

abbrev pub since-more : (p q r : Place) (c : ℕ) → Since p q → Some c ≡ scout 0 q → r ≡ moved 1 q → Since p r
since-more p q r c h e m =
    let more : length h.passed + 1 ≡ length (h.passed ++ c ∷ []) = omega (arith, length-append h.passed (c ∷ [])) in
    record {
      passed = h.passed ++ c ∷ [];
      ahead = h.ahead ∙ ap (λ t. h.passed ++ t) (ahead-step q c e ∙ ap (λ x. c ∷ x.ahead) (sym m)) ∙ sym (append_assoc h.passed (c ∷ []) r.ahead);
      moves = moved-step (length h.passed) p q r h.moves m ∙ ap (λ n. moved n p) more;
    }

pub since-text : (p q : Place) (h : Since p q) → take (length h.passed) p.ahead ≡ h.passed
since-text p q h = ap (take (length h.passed)) h.ahead ∙ take_at h.passed q.ahead (length h.passed) refl

pub plain-stretch : (c : ℕ) (cs : List ℕ) → is_newline c ≡ false → stretches (c ∷ cs) ≡ onto_first c (stretches cs)
plain-stretch c cs e = rw e refl

pub glued-plain : (xs : List ℕ) (q r : Place) (c : ℕ) → Some c ≡ scout 0 q → r ≡ moved 1 q → is_newline c ≡ false → glued xs (stretches q.ahead) ≡ glued (xs ++ c ∷ []) (stretches r.ahead)
glued-plain xs q r c e m plain = grind (arith, ahead-step, plain-stretch, glued-onto)

-- a carriage return that a line feed follows
abbrev pub crlf : ℕ → List ℕ → Bool
crlf c rest = c == 13 && passes (λ d. d == 10) (slice_get rest 0)

pub lone-stretch : (c : ℕ) (rest : List ℕ) → is_newline c ≡ true → crlf c rest ≡ false → stretches (c ∷ rest) ≡ [] ∷ stretches rest
lone-stretch c rest n e = rw (n, e) refl

-- behind a line end
abbrev behind_end : Bool → List ℕ → List ℕ → List ℕ
behind_end b before ahead = (moved_from (if b then 2 else 1) before ahead).ahead

end-cases : (c : ℕ) (rest before : List ℕ) (b : Bool) → crlf c rest ≡ b → is_newline c ≡ true → stretches (c ∷ rest) ≡ [] ∷ stretches (behind_end b before (c ∷ rest))
end-cases c rest before b e n = grind arith

pub line-end-is : (q : Place) (c : ℕ) (rest : List ℕ) → q.ahead ≡ c ∷ rest → is_newline c ≡ true → line_end_len q ≡ (if crlf c rest then 2 else 1)
line-end-is q c rest e n = rw (e, n) refl

-- over a line end
pub glued-end : (xs : List ℕ) (q r : Place) (c : ℕ) → Some c ≡ scout 0 q → is_newline c ≡ true → r ≡ moved (line_end_len q) q → glued xs (stretches q.ahead) ≡ xs ∷ stretches r.ahead
glued-end xs q r c e n m = grind (arith, ahead-step, line-end-is, end-cases, append-nil)

pub glued-last : (xs : List ℕ) (q : Place) → q.ahead ≡ [] → glued xs (stretches q.ahead) ≡ xs ∷ []
glued-last xs q e = ap (λ t. glued xs (stretches t)) e ∙ ap (λ t. t ∷ []) (append-nil xs)

-- ---- the stretches with the line ends put back

record IsSome_first (texts : List (List ℕ)) : Type 0 where
  pub first : List ℕ
  pub rest : List (List ℕ)
  pub is : texts ≡ first ∷ rest

stretches-some : (cs : List ℕ) → IsSome_first (stretches cs)
stretches-some [] = record { first = []; rest = []; is = refl }
stretches-some (c ∷ cs) = pick-some (ends_line c (slice_get cs 0)) (is_newline c) (stretches cs) (stretches-some cs) c
  where
    pick-some : (t n : Bool) (texts : List (List ℕ)) → IsSome_first texts → (c : ℕ) → IsSome_first (if t then [] ∷ texts else (if n then texts else onto_first c texts))
    pick-some t n texts h c = grind arith

woven-onto : (c : ℕ) (texts ends : List (List ℕ)) → IsSome_first texts → woven (onto_first c texts) ends ≡ c ∷ woven texts ends
woven-onto c texts ends h = grind arith

pub plain-ends : (c : ℕ) (cs : List ℕ) → is_newline c ≡ false → line_ends (c ∷ cs) ≡ line_ends cs
plain-ends c cs e = rw e refl

pub both-ends : (c : ℕ) (left : List ℕ) → is_newline c ≡ true → crlf c (10 ∷ left) ≡ true → line_ends (c ∷ 10 ∷ left) ≡ (c ∷ 10 ∷ []) ∷ line_ends left
both-ends c left n e = rw (n, e) refl

pub lone-ends : (c : ℕ) (rest : List ℕ) → is_newline c ≡ true → crlf c rest ≡ false → line_ends (c ∷ rest) ≡ (c ∷ []) ∷ line_ends rest
lone-ends c rest n e = rw (n, e) refl

abbrev PutBack : List ℕ → Type 0
PutBack cs = woven (stretches cs) (line_ends cs) ≡ cs

lone-back : (c : ℕ) (rest : List ℕ) → is_newline c ≡ true → crlf c rest ≡ false → PutBack rest → PutBack (c ∷ rest)
lone-back c rest n e h = ap (λ s. woven s (line_ends (c ∷ rest))) (lone-stretch c rest n e) ∙ ap (woven ([] ∷ stretches rest)) (lone-ends c rest n e) ∙ ap (λ t. c ∷ t) h

plain-back : (c : ℕ) (rest : List ℕ) → is_newline c ≡ false → PutBack rest → PutBack (c ∷ rest)
plain-back c rest n h = ap (λ s. woven s (line_ends (c ∷ rest))) (plain-stretch c rest n) ∙ ap (woven (onto_first c (stretches rest))) (plain-ends c rest n) ∙ woven-onto c (stretches rest) (line_ends rest) (stretches-some rest) ∙ ap (λ t. c ∷ t) h

-- ---- the split law

back-cases : (c d : ℕ) (cs : List ℕ) (n b : Bool) → is_newline c ≡ n → crlf c (d ∷ cs) ≡ b → PutBack (d ∷ cs) → PutBack cs → PutBack (c ∷ d ∷ cs)
back-cases c d cs true true n b h k = grind arith
back-cases c d cs true false n b h k = lone-back c (d ∷ cs) n b h
back-cases c d cs false b n e h k = plain-back c (d ∷ cs) n h

pub and-none : (b : Bool) → (b && false) ≡ false
and-none b = grind arith

last-back : (c : ℕ) (n : Bool) → is_newline c ≡ n → PutBack (c ∷ [])
last-back c n h = grind arith

-- the stretches with the line ends put back are the text
pub put-back : (cs : List ℕ) → PutBack cs
put-back [] = refl
put-back (c ∷ []) = last-back c (is_newline c) refl
put-back (c ∷ d ∷ cs) = back-cases c d cs (is_newline c) (crlf c (d ∷ cs)) refl refl (put-back (d ∷ cs)) (put-back cs)

lack-cases : (c : ℕ) (texts : List (List ℕ)) (t n : Bool) → is_newline c ≡ n → all_lack_newlines texts ≡ true → all_lack_newlines (if t then [] ∷ texts else (if n then texts else onto_first c texts)) ≡ true
lack-cases c texts t n e h = grind arith

-- no stretch holds a newline character
pub none-inside : (cs : List ℕ) → all_lack_newlines (stretches cs) ≡ true
none-inside [] = refl
none-inside (c ∷ cs) = lack-cases c (stretches cs) (ends_line c (slice_get cs 0)) (is_newline c) refl (none-inside cs)

abbrev pub texts_of : List (Bor (List ℕ)) → List (List ℕ)
texts_of items = map (λ item. chars item.now) items

pub texts-push : (items : List (Bor (List ℕ))) (item : Bor (List ℕ)) → texts_of (items ++ item ∷ []) ≡ texts_of items ++ chars item.now ∷ []
texts-push [] item = refl
texts-push (x ∷ items) item = ap (λ t. chars x.now ∷ t) (texts-push items item)

-- the items and one more, at a line end
pub stretches-more : (items pushed : List (Bor (List ℕ))) (item : Bor (List ℕ)) (p q r : Place) (c : ℕ) (all : List (List ℕ)) (h : Since p q)
    → texts_of items ++ glued h.passed (stretches q.ahead) ≡ all → Some c ≡ scout 0 q → is_newline c ≡ true → r ≡ moved (line_end_len q) q
    → chars item.now ≡ take (length h.passed) p.ahead → pushed ≡ items ++ item ∷ [] → texts_of pushed ++ glued [] (stretches r.ahead) ≡ all
stretches-more items pushed item p q r c all h so e n m is push =
    ap (λ t. texts_of t ++ glued [] (stretches r.ahead)) push ∙ ap (λ t. t ++ glued [] (stretches r.ahead)) (texts-push items item)
    ∙ append_assoc (texts_of items) (chars item.now ∷ []) (glued [] (stretches r.ahead))
    ∙ ap (λ t. texts_of items ++ chars item.now ∷ t) (glued-none (stretches r.ahead))
    ∙ ap (λ t. texts_of items ++ t ∷ stretches r.ahead) (is ∙ since-text p q h)
    ∙ ap (λ t. texts_of items ++ t) (sym (glued-end h.passed q r c e n m)) ∙ so

-- the items and the last
pub stretches-all : (items pushed : List (Bor (List ℕ))) (item : Bor (List ℕ)) (p q : Place) (all : List (List ℕ)) (h : Since p q)
    → texts_of items ++ glued h.passed (stretches q.ahead) ≡ all → None ≡ scout 0 q
    → chars item.now ≡ take (length h.passed) p.ahead → pushed ≡ items ++ item ∷ [] → texts_of pushed ≡ all
stretches-all items pushed item p q all h so e is push =
    ap texts_of push ∙ texts-push items item ∙ ap (λ t. texts_of items ++ t ∷ []) (is ∙ since-text p q h)
    ∙ ap (λ t. texts_of items ++ t) (sym (glued-last h.passed q (place-end q e))) ∙ so
