-- The token at hand, read from its start in another way.
use Rattle.typst_language.proofs.Cited.{◌≡◌, ℕ, ◌+◌, List, [], ◌∷◌, ◌++◌, ap, sym, ◌∙◌, arith, is_error, Place, moved, Tree, text_of, exec, eaten, look, hull_of, Hull, CharClasses, token_node, Token, token_so, Point, Hand, text_ahead, token_by, len_by, with_hull, Making, made, after_node, eat_so, so, takes_so, does, Level, node_by, reader_so, renewed, run, View, Ran, Goes, Does, Fits, Bare, Looked, unasked, end_of, exec-moved}
use Rattle.typst_language.specs.declared.calls.Way.{Way}
use Rattle.typst_language.specs.Ways.{GaveUpTo}
use Rattle.typst_language.proofs.Places.{moved-sum, moved-min, less-none, no-end}
use Rattle.typst_language.proofs.Knowing.{end-moved, knows-at}
use Rattle.typst_language.proofs.Runs.{asked-same, asked-then, fits-more}
use Rattle.typst_language.proofs.Steps.{does-next, does-gives, does-look}

-- where the token at hand begins
abbrev pub start_of : Hand → Place → Place
start_of h z = moved h.gap z

-- what was looked at for the token that is found there in another way, how long it is, and what it becomes
abbrev pub hull_so : Level → Way → Hand → Place → Hull
hull_so l way h z = hull_of (look (reader_so l way) (start_of h z)) (start_of h z)

abbrev pub len_so : Level → Way → Hand → Place → ℕ
len_so l way h z = len_by (reader_so l way) (start_of h z)

abbrev pub node_so : Level → Way → Making → Hand → Place → Tree
node_so l way making h z = node_by l.classes making (token_by (reader_so l way) (start_of h z)) (len_so l way h z) (start_of h z)

-- ---- its kind

-- the view where a token that is read so was looked at
abbrev pub looked_so : Level → Way → View → View
looked_so l way v = record v { log = with_hull (hull_so l way v.hand v.place) v.log }

pub ran-so : {l : Level} (way : Way) (v : View) → Fits l v → Ran l (does (so way)) (token_by (reader_so l way) (start_of v.hand v.place)).kind v (looked_so l way v)
unfolding run
ran-so {l = l} way v c = grind (arith, asked-same, no-end, asked-then)

pub does-so : {l : Level} (way : Way) (v : View) → Does l (does (so way)) (token_by (reader_so l way) (start_of v.hand v.place)).kind v (looked_so l way v)
does-so way v = record { ran = λ c. ran-so way v c; ready = λ c. fits-more _ c }

-- what is found there, up to which place, and what is looked at for it
pub record FoundSo (l : Level) (way : Way) (v : View) (t : Token) (end : Place) (u : Hull) : Type 0 where
  pub reads : exec (reader_so l way) (start_of v.hand v.place) ≡ (t, end)
  pub hull : u ≡ hull_so l way v.hand v.place

-- the code read it by the same classes, at the same place
pub found-so : {l : Level} (q : CharClasses) (way : Way) (v : View) (from end : Place) (t : Token) (u : Hull) → l.classes ≡ q → from ≡ start_of v.hand v.place → exec (token_so q way) from ≡ (t, end)
    → u ≡ hull_of (look (token_so q way) from) from → FoundSo l way v t end u
found-so {l = l} q way v from end t u e f g h = grind arith

-- what the code found there, and looked at
pub so-is : (l : Level) (way : Way) (v w : View) (t : Token) (end : Place) (u : Hull) → FoundSo l way v t end u → w ≡ record v { log = with_hull u v.log } → Does l (does (so way)) t.kind v w
so-is l way v w t end u e f = grind (arith, ap (λ (p : Token × Place). p.0.kind) e.reads, does-so)

-- ---- taking it

-- it was taken, with the trivia before it
pub record EatenSo (l : Level) (way : Way) (making : Making) (v w : View) : Type 0 where
  pub nodes : w.nodes ≡ v.nodes ++ (v.hand.trivia ++ node_so l way making v.hand v.place ∷ [])
  pub place : w.place ≡ moved (v.hand.gap + len_so l way v.hand v.place) v.place
  pub state : w.state ≡ renewed (after_node (is_error (node_so l way making v.hand v.place).head.kind) (text_of (node_so l way making v.hand v.place)) v.state)
  pub log : w.log ≡ with_hull (hull_so l way v.hand v.place) v.log
  pub memo : w.memo ≡ v.memo

pub ran-takes_so : {l : Level} {way : Way} {making : Making} {v w : View} → EatenSo l way making v w → Fits l v → Ran l (does (takes_so way making)) tt v w
unfolding run
ran-takes_so {l = l} {way = way} {making = making} {v = v} {w = w} h c = grind (arith, less-none, asked-then)

pub does-takes_so : {l : Level} {way : Way} {making : Making} {v w : View} → EatenSo l way making v w → Goes l (Fits l) (Bare l) (does (takes_so way making)) tt v w
does-takes_so {v = v} h = record { ran = λ c. ran-takes_so h c; ready = λ c. record { known = ap (λ (s : Point). s.known) h.state; knows = knows-at h.memo (ap end_of h.place ∙ end-moved _ v.place) c.knows } }

pub does-eat_so : {l : Level} {way : Way} {making : Making} {v mid w : View} → EatenSo l way making v mid → Looked l (unasked mid) w → Does l (eat_so way making) tt v w
unfolding eat_so
does-eat_so h k = does-next (does-takes_so h) (does-next (does-look k) does-gives)

-- where the code ends that read it
pub end-so : (k : CharClasses) (way : Way) (z w : Place) (t : Token) → exec (token_so k way) z ≡ (t, w) → w ≡ moved (len_by (token_so k way) z) z
end-so k way z w t e = sym (ap (λ (p : Token × Place). p.1) e) ∙ exec-moved (token_so k way) z ∙ sym (moved-min (eaten (token_so k way) z) z)

-- the code took what it found there, with the text between both places
pub eaten-so : (l : Level) (q : CharClasses) (way : Way) (making : Making) (v x w : View) (from end : Place) (t : Token) (u : Hull) (text : List ℕ) (node : Tree) → l.classes ≡ q → from ≡ start_of v.hand v.place
    → exec (token_so q way) from ≡ (t, end) → u ≡ hull_of (look (token_so q way) from) from → ((n : ℕ) → end ≡ moved n from → text ≡ text_ahead n from) → node ≡ made making (token_node q t text)
    → x ≡ record v { log = with_hull u v.log } → GaveUpTo end node x w → EatenSo l way making v w
eaten-so l q way making v x w from end t u text node same at reads hull cut is logged g =
    let z = start_of v.hand v.place in
    let n = len_so l way v.hand v.place in
    let found = found-so {l = l} q way v from end t u same at reads hull in
    let ends = end-so l.classes way z end t found.reads in
    grind (arith, moved-sum)
