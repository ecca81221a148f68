-- Links, in one piece.
use Rattle.typst_tokens.proofs.Cited.{◌≡◌, ℕ, suc, Bool, ◌==◌, if◌then◌else◌, List, [], ◌∷◌, length, take, refl, arith, Option, Some, None, plain, faulty, Token, Place, moved, both, widened, spanned, span_look, exec, brackets, Sight, Covers, saw, went, sight, link_turn, in_link, link_end, link}
use Rattle.typst_kinds.specs.declared.kind.SyntaxKind.TheVariants as kind
use Rattle.typst_tokens.specs.declared.token.Fault.TheVariants as fault
use Rattle.typst_lines.proofs.Fronts.{front-taken}
use Rattle.typst_lines.specs.Links.{after, front, without_last_signs, link_prefix}
use Rattle.typst_tokens.proofs.Frame.{turned, turn_look}
use Rattle.typst_tokens.proofs.Sights.{saw-ahead}

-- the front as the next character's turn has it
abbrev front_by : List ℕ → ℕ → List ℕ → Option (List ℕ) → List ℕ × List ℕ
front_by awaited c a o = elim o [ None ↦ ([], awaited) | Some inside ↦ (let r = front inside a in (c ∷ r.0, r.1)) ]

-- what the machine takes is the front
link-front : (awaited b a : List ℕ) → spanned in_link (brackets awaited) b a ≡ ((front awaited a).0, brackets (front awaited a).1)
link-front awaited b [] = refl
link-front awaited b (c ∷ a) = by-turn (after awaited c) (λ inside. link-front inside (c ∷ b) a)
  where
    by-turn : (o : Option (List ℕ)) → ((inside : List ℕ) → spanned in_link (brackets inside) (c ∷ b) a ≡ ((front inside a).0, brackets (front inside a).1))
        → turned in_link (brackets awaited) b c a (link_turn o) ≡ ((front_by awaited c a o).0, brackets (front_by awaited c a o).1)
    by-turn o h = grind arith

-- and it looks at the front and at what ends it
link-look : (awaited b a : List ℕ) → span_look in_link (brackets awaited) b a ≡ record { back = 0; front = suc (length (front awaited a).0) }
link-look awaited b [] = refl
link-look awaited b (c ∷ a) = by-turn (after awaited c) (λ inside. link-look inside (c ∷ b) a)
  where
    by-turn : (o : Option (List ℕ)) → ((inside : List ℕ) → span_look in_link (brackets inside) (c ∷ b) a ≡ record { back = 0; front = suc (length (front inside a).0) })
        → widened 0 1 (both (record { back = 0; front = 1 }) (turn_look in_link b c a (link_turn o))) ≡ record { back = 0; front = suc (length (front_by awaited c a o).0) }
    by-turn o h = grind arith

link-sight : (v : Sight) → Covers v → sight link v ≡ (link_end (brackets (front [] v.place.ahead).1), went (length (without_last_signs (front [] v.place.ahead).0)) (saw (suc (length (front [] v.place.ahead).0)) v))
unfolding link
link-sight v h = grind (arith, link-front, link-look, saw-ahead)

-- a link was read: all of its front was looked at, and its text gone past
link-read : (v u w : Sight) (t : List ℕ) (token : Token) → Covers v → u ≡ saw (suc (length (front [] v.place.ahead).0)) v → t ≡ without_last_signs (front [] v.place.ahead).0 → w ≡ went (length t) u
    → token ≡ link_end (brackets (front [] v.place.ahead).1) → sight link v ≡ (token, w)
link-read v u w t token h e f g k = grind (arith, link-sight)

abbrev pub ended : Bool → Token
ended balanced = if balanced then plain kind.Link else faulty fault.UnbalancedLink

ended-is : (xs : List ℕ) (b : Bool) → b ≡ (length xs == 0) → ended b ≡ link_end (brackets xs)
ended-is xs b e = grind arith

-- a link is read as a scanner reads its front
pub link-is : (v u w : Sight) (start end : Place) (s t : List ℕ) (b : Bool) → Covers v → start ≡ v.place → end ≡ moved (length (front [] start.ahead).0) start → b ≡ (length (front [] start.ahead).1 == 0)
    → ((n : ℕ) → end ≡ moved n v.place → u ≡ saw (suc n) v) → ((n : ℕ) → end ≡ moved n start → s ≡ take n start.ahead) → t ≡ without_last_signs s → w ≡ went (length t) u
    → sight link v ≡ (ended b, w)
link-is v u w start end s t b h p m q look cut f g = grind (arith, link-read, front-taken, ended-is)

-- a link is the one that the characters ahead begin with
pub link-prefix-is : (p : Place) → exec link p ≡ (ended (link_prefix p.ahead).1, moved (length (link_prefix p.ahead).0) p)
unfolding link link_prefix
link-prefix-is p = grind (arith, link-front, ended-is)
