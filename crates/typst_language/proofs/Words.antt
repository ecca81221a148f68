-- The token further on, hints, and names that were expected.
use Rattle.typst_language.proofs.Cited.{◌≡◌, ℕ, ◌+◌, List, [], ◌∷◌, append-nil, refl, ap, sym, ◌∙◌, arith, SyntaxKind, moved, token_at, with_hull, hinted, hinted_last, further, advises, does, Level, run, token_hull, View, Ran, Does, Fits}
use Rattle.typst_language.proofs.Places.{less-none, no-end}
use Rattle.typst_language.proofs.Runs.{asked-same, asked-then, fits-more}

-- the token directly after the token at hand was looked at
abbrev pub further_seen : Level → View → View
further_seen l v = record v { log = with_hull (token_hull l.classes v.state.reading.mode (moved (v.hand.gap + v.hand.len) v.place)) v.log }

ran-further : {l : Level} (v : View) → Fits l v → Ran l (does further) (token_at l.classes v.state.reading.mode (moved (v.hand.gap + v.hand.len) v.place)).kind v (further_seen l v)
unfolding run
ran-further {l = l} v c = grind (arith, asked-same, no-end, asked-then)

pub does-further : {l : Level} (v : View) → Does l (does further) (token_at l.classes v.state.reading.mode (moved (v.hand.gap + v.hand.len) v.place)).kind v (further_seen l v)
does-further v = record { ran = λ c. ran-further v c; ready = λ c. fits-more _ c }

-- the code's answer is its kind
pub further-is : (l : Level) (v w : View) (kind : SyntaxKind) → kind ≡ (token_at l.classes v.state.reading.mode (moved (v.hand.gap + v.hand.len) v.place)).kind → w ≡ further_seen l v → Does l (does further) kind v w
further-is l v w kind e f = rw (e, f) (does-further v)

ran-advises : {l : Level} (hint : List ℕ) (v : View) → Ran l (does (advises hint)) tt v (record v { nodes = hinted_last (hint ∷ []) v.nodes })
unfolding run
ran-advises hint v = record { runs = record { value = refl; place = refl; state = refl; log = refl; nodes = ap (hinted (hint ∷ [])) (sym (less-none v.nodes)) ∙ sym (append-nil _) } }

-- the last node has the hint, where it is an error
pub does-advises : {l : Level} (hint : List ℕ) (v w : View) → w ≡ record v { nodes = hinted_last (hint ∷ []) v.nodes } → Does l (does (advises hint)) tt v w
does-advises hint v w e = rw e (record { ran = λ c. ran-advises hint v; ready = λ c. record { known = c.known; hand = c.hand; own = c.own; here = c.here; there = c.there; log = c.log; knows = c.knows } })
