-- After more pieces of a run the next token begins further on.
use Rattle.typst_edits.proofs.Cited.{◌≡◌, ℕ, suc, ◌+◌, ◌<◌, ◌≤◌, Bool, true, List, length, take, ap, sym, arith, ◌-◌, false, ◌&&◌, ◌||◌, ◌==◌, eq-eqb, [], ◌∷◌, ◌++◌, map, append_assoc, Some, refl, ◌∙◌, subst, both_ways, CharClasses, Place, moved, width, gap_of, point_of, Point, peek, Meaning, run, sane-at, ahead-left, moved-sum, markup_turn, rules, max_depth, start_of, log, bracket, run_at, opened_at, inner_end, text_run, token_byte, piece_at, lead, cut_after, of_level, Numbered, SaysOf, AllGo, End, start, made, end_of, turn_of, first_of, first_end, Spot, eqb-true, eqb-false, and_right, Block, Mark, Note, opens_content, starts, up_to_end, after_first, cuts_in, is_closing, is_among, Among, Every, blocks_of_text, goes, listed, if-true, if-false, Run, top, read_as, token_after, root_run, IsRun, is_text_run, is_block_run, Sequence, CutsLaw, InnerCutsLaw, or_right, lt_of_le-ne}
use Rattle.typst_candidates.specs.Units.{is_piece}
use Rattle.typst_edits.proofs.BlockRuns.{within, sane as in-sane}
use Rattle.typst_edits.proofs.Joint.{leads-of}
use Rattle.typst_edits.specs.Frame.{inner as block_inner}
use Rattle.typst_edits.proofs.Every.{not-less}
use Rattle.typst_edits.proofs.Resumed.{further}
use Rattle.typst_edits.proofs.NumberedNotes.{numbered-inner-law, go-fewer, go-next, turns-within}
pub use Rattle.typst_grammar.proofs.Fine.{and-both as both-on}
use Rattle.typst_language.specs.declared.calls.Block.TheVariants as block
use Rattle.typst_language.specs.declared.calls.Mark.TheVariants as mark
use Rattle.typst_edits.proofs.Widths.{take-longer, take-more}
use Rattle.typst_edits.proofs.OpensApart.{opens-apart-law}

pub cut-token : (i : ℕ) (e : End (Bool × ℕ)) → 0 < i → cut_after i e ≡ e.taken + gap_of e.state.known
cut-token i e l = grind arith

cut-most : (i : ℕ) (e : End (Bool × ℕ)) → cut_after i e ≤ e.taken + gap_of e.state.known
cut-most i e = grind arith

-- Where the token after more pieces begins further on, so does their cut.
cut-by : (text : List ℕ) (i j : ℕ) (e f : End (Bool × ℕ)) → i < j → token_byte text e < token_byte text f → width (take (cut_after i e) text) < width (take (cut_after j f) text)
cut-by text i j e f l h = grind (arith, take-more, cut-most, cut-token)

-- Pieces end within the text, with their trivia.
pub ends-within : (k : CharClasses) (text : List ℕ) (i : ℕ) → (let e = first_end i (text_run k (start_of text)) in e.taken + gap_of e.state.known ≤ length text)
unfolding run
ends-within k text i =
    let z = start_of text in
    omega (arith, (sane-at (rules k) k max_depth peek).within z start, turns-within (piece_at k) (within k) i (true, 0) z (lead k z).state)

-- With their trivia those of a content block take no more than the text has after its bracket.
inner-room : (k : CharClasses) (levels : ℕ) (text : List ℕ) (c : Spot (Unit {0})) (j : ℕ) → (let z = start_of text in let e = first_end j (run_at k levels c z) in e.taken + gap_of e.state.known ≤ length text - opened_at k levels c z)
inner-room k levels text c j =
    let z = start_of text in
    let r = run_at k levels c z in
    let a = opened_at k levels c z in
    let most = turns-within (turn_of r) (λ x. (in-sane k levels (markup_turn true r.stops x)).within) j (true, 0) r.place r.point in
    let there : r.place ≡ moved a z = sym (moved-sum c.at (bracket k levels (moved c.at z) (point_of c.start)).taken z) in
    omega (arith, (in-sane k levels peek).within r.place (bracket k levels (moved c.at z) (point_of c.start)).state, most, ahead-left a z, ap (λ (y : Place). length y.ahead) there)

-- So they end in the text.
pub inner-within : (k : CharClasses) (levels : ℕ) (text : List ℕ) (c : Spot (Unit {0})) (j : ℕ) → opened_at k levels c (start_of text) ≤ length text
    → (let e = inner_end k levels j c (start_of text) in e.taken + gap_of e.state.known ≤ length text)
inner-within k levels text c j opened = let most = inner-room k levels text c j in omega (arith, most, opened)

-- After more pieces the next token begins further on, even if none come before: by a bound for where they end.
tokens-by : (k : CharClasses) (text : List ℕ) (r : Sequence) → IsRun k r → (a i j : ℕ) → i < j → AllGo (first_of j r) → (let e = first_end i r in let f = first_end j r in
    f.taken + gap_of f.state.known ≤ length text - a → width (take (a + (e.taken + gap_of e.state.known)) text) < width (take (a + (f.taken + gap_of f.state.known)) text))
tokens-by k text r is a i j l g room =
    let leads = leads-of k r is in
    let e = first_end i r in
    let f = first_end j r in
    let more = further r.level r.stops leads.taking i j (true, 0) r.place r.point leads.known l g in
    take-longer (a + (e.taken + gap_of e.state.known)) (a + (f.taken + gap_of f.state.known)) text (omega (arith, more)) (omega (arith, more, room))

pub tokens-rise : (k : CharClasses) (text : List ℕ) (r : Run k text) (i j : ℕ) → i < j → AllGo (first_of j (read_as r (start_of text))) → token_after r i < token_after r j
tokens-rise k text top i j l g = tokens-by k text (text_run k (start_of text)) (is_text_run (start_of text)) 0 i j l g (let most = ends-within k text j in omega (arith, most))
tokens-rise k text (block_inner c levels a n left) i j l g = let z = start_of text in tokens-by k text (run_at k levels c z) (is_block_run levels (moved c.at z) (point_of c.start)) (opened_at k levels c z) i j l g (inner-room k levels text c j)

pub cuts-law : CutsLaw
cuts-law k text i j l g =
    let e = λ (m : ℕ). first_end m (text_run k (start_of text)) in
    let same : (m : ℕ) → token_after (root_run k text) m ≡ token_byte text (e m) = λ m. ap (λ d. width (take d text)) (omega arith) in
    cut-by text i j (e i) (e j) l (omega (arith, tokens-rise k text top i j l g, same i, same j))

pub inner-cuts-law : InnerCutsLaw
inner-cuts-law k levels text c i j l g =
    let z = start_of text in
    let e = λ (m : ℕ). inner_end k levels m c z in
    let a = opened_at k levels c z in
    let same : (m : ℕ) → width (take (a + ((first_end m (run_at k levels c z)).taken + gap_of (first_end m (run_at k levels c z)).state.known)) text) ≡ token_byte text (e m) = λ m. ap (λ d. width (take d text)) (omega arith) in
    cut-by text i j (e i) (e j) l (omega (arith, tokens-by k text (run_at k levels c z) (is_block_run levels (moved c.at z) (point_of c.start)) a i j l g (inner-room k levels text c j), same i, same j))

-- ---- the cuts of a content block's run are where the tokens after its pieces begin, by the notes of a reading

-- ---- no content block begins there before

-- whether a content block begins at a byte
abbrev pub opens_at : ℕ → Note → Bool
opens_at at n = opens_content n.mark && n.start == at

pub cuts-past : (at : ℕ) (earlier rest : List Note) → Every (λ n. opens_at at n ≡ false) earlier → cuts_in at (earlier ++ rest) ≡ cuts_in at rest
cuts-past at [] rest h = refl
cuts-past at (n ∷ earlier) rest h = if-false (opens_at at n) (after_first (starts n.levels (up_to_end n.levels (earlier ++ rest)))) (cuts_in at (earlier ++ rest)) h.0 ∙ cuts-past at earlier rest h.1

module _ (k : CharClasses) (text : List ℕ) (opens : Note) (own : Block) (is_own : opens.mark ≡ mark.Opens own) (later : List Note) where
  pub opens-before : (done todo : List Note) → listed (log k text).notes ≡ done ++ (todo ++ opens ∷ later) → Every (λ n. opens_at opens.start n ≡ false) todo
  opens-before done [] e = tt
  opens-before done (n ∷ todo) e =
      (by-mark n.mark refl, opens-before (done ++ n ∷ []) todo (e ∙ sym (append_assoc done (n ∷ []) (todo ++ opens ∷ later))))
    where
      by-mark : (m : Mark) → n.mark ≡ m → opens_at opens.start n ≡ false
      by-mark m f = grind (arith, opens-apart-law)

-- ---- the starts of its pieces

abbrev pub starts_of : List Note → List ℕ
starts_of = map (λ (n : Note). n.start)

pub starts-are : (text : List ℕ) (e : ℕ → End (Bool × ℕ)) (levels i : ℕ) (ns : List Note) → Numbered (SaysOf text e) i (of_level levels ns) → starts levels ns ≡ starts_of (of_level levels ns)
starts-are text e levels i [] h = refl
starts-are text e levels i (n ∷ ns) h = by-level (n.levels == levels) refl (λ j g. starts-are text e levels j ns g)
  where
    by-level : (b : Bool) → (n.levels == levels) ≡ b → ((j : ℕ) → Numbered (SaysOf text e) j (of_level levels ns) → starts levels ns ≡ starts_of (of_level levels ns)) → starts levels (n ∷ ns) ≡ starts_of (of_level levels (n ∷ ns))
    by-level true f next = grind arith
    by-level false f next =
        let other : of_level levels (n ∷ ns) ≡ of_level levels ns = if-false (n.levels == levels) _ _ f in
        if-false (is_piece n.mark && n.levels == levels) _ _ (and_right (is_piece n.mark) (n.levels == levels) f)
        ∙ next i (subst (Numbered (SaysOf text e) i) other h)
        ∙ sym (ap starts_of other)

-- up to where the block ends
module _ (text : List ℕ) (e : ℕ → End (Bool × ℕ)) (levels : ℕ) (closes : Note) (later : List Note) (ends : closes.mark ≡ mark.Closes) (there : closes.levels ≡ levels) where
  all-inner : (i : ℕ) (ns : List Note) → Numbered (SaysOf text e) i (of_level levels ns) → up_to_end levels (ns ++ closes ∷ later) ≡ ns
  all-inner i [] h = if-true (is_closing closes.mark && closes.levels == levels) _ _ (both-on (is_closing closes.mark) (closes.levels == levels) (ap is_closing ends) (eq-eqb closes.levels levels there))
  all-inner i (n ∷ ns) h = by-level (n.levels == levels) (λ j r. all-inner j ns r) refl
    where
      by-level : (b : Bool) → ((j : ℕ) → Numbered (SaysOf text e) j (of_level levels ns) → up_to_end levels (ns ++ closes ∷ later) ≡ ns) → (n.levels == levels) ≡ b → up_to_end levels ((n ∷ ns) ++ closes ∷ later) ≡ n ∷ ns
      by-level true next f = grind arith
      by-level false next f =
          let other : of_level levels (n ∷ ns) ≡ of_level levels ns = if-false (n.levels == levels) _ _ f in
          if-false (is_closing n.mark && n.levels == levels) _ _ (and_right (is_closing n.mark) (n.levels == levels) f) ∙ ap (λ us. n ∷ us) (next i (subst (Numbered (SaysOf text e) i) other h))

-- ---- the cuts

-- it is where the token after a given number of pieces begins
pub record CutOf (text : List ℕ) (e : ℕ → End (Bool × ℕ)) (count b : ℕ) : Type 0 where
  pub index : ℕ
  pub some : 0 < index
  pub few : index ≤ count
  pub is : b ≡ width (take (cut_after index (e index)) text)

-- the cuts of a run of a given number of pieces
pub record CutsAre (text : List ℕ) (e : ℕ → End (Bool × ℕ)) (count : ℕ) (cuts : List ℕ) : Type 0 where
  pub each : (b : ℕ) → is_among b cuts ≡ true → CutOf text e count b
  pub has : (j : ℕ) → 0 < j → j ≤ count → is_among (width (take (cut_after j (e j)) text)) cuts ≡ true

module _ (text : List ℕ) (e : ℕ → End (Bool × ℕ)) where
  each-cut : (i count : ℕ) (ns : List Note) → 0 < i → i + length ns ≡ suc count → Numbered (SaysOf text e) i ns → (b : ℕ) → is_among b (starts_of ns) ≡ true → CutOf text e count b
  each-cut i count [] some long h b a = absurd (cc)
  each-cut i count (n ∷ ns) some long h b a = by-test (b == n.start) refl (λ d. each-cut (suc i) count ns (omega arith) (omega (arith, long)) h.1 b d) a
    where
      by-test : (c : Bool) → (b == n.start) ≡ c → (is_among b (starts_of ns) ≡ true → CutOf text e count b) → (c || is_among b (starts_of ns)) ≡ true → CutOf text e count b
      by-test true f next d = record { index = i; some = some; few = omega (arith, long); is = eqb-true b n.start f ∙ h.0.start }
      by-test false f next d = next d

  has-cut : (i count : ℕ) (ns : List Note) → i + length ns ≡ suc count → Numbered (SaysOf text e) i ns → (j : ℕ) → i ≤ j → j ≤ count → is_among (width (take (cut_after j (e j)) text)) (starts_of ns) ≡ true
  has-cut i count [] long h j from to = absurd (omega (arith, long, from, to))
  has-cut i count (n ∷ ns) long h j from to = by-test (j == i) refl (λ d. has-cut (suc i) count ns (omega (arith, long)) h.1 j d to)
    where
      by-test : (c : Bool) → (j == i) ≡ c → (suc i ≤ j → is_among (width (take (cut_after j (e j)) text)) (starts_of ns) ≡ true) → is_among (width (take (cut_after j (e j)) text)) (starts_of (n ∷ ns)) ≡ true
      by-test true f next = grind arith
      by-test false f next =
          or_right (width (take (cut_after j (e j)) text) == n.start) (is_among (width (take (cut_after j (e j)) text)) (starts_of ns)) (next (lt_of_le-ne from (λ s. eqb-false j i f (sym s))))

  -- The starts, without the first, are the cuts.
  pub record Behind (count : ℕ) (starts : List ℕ) : Type 0 where
    pub cuts : List ℕ
    pub are : after_first starts ≡ Some cuts
    pub is : CutsAre text e count cuts

  pub behind-are : (count : ℕ) (ns : List Note) → length ns ≡ suc count → Numbered (SaysOf text e) 0 ns → Behind count (starts_of ns)
  behind-are count [] long h = absurd (omega (arith, long))
  behind-are count (n ∷ ns) long h = record {
    cuts = starts_of ns;
    are = refl;
    is = record { each = λ b a. each-cut 1 count ns (omega arith) (omega (arith, long)) h.1 b a; has = λ j some few. has-cut 1 count ns (omega (arith, long)) h.1 j (omega (arith, some)) few };
  }

-- ---- of a content block

-- No more turns go on than up to the one that ends the loop.
pub few-go : {A : Type 0} (m : A → Meaning (Bool × A)) (count j : ℕ) (x : A) (z : Place) (s : Point) → AllGo (made m j x z s) → (let f = end_of x s (made m count x z s) in goes (m f.value (moved f.taken z) f.state) ≡ false) → j ≤ count
few-go m count j x z s h over = not-less j count (λ less. both_ways _ over (go-next m count x z s (go-fewer m (suc count) j x z s (omega (arith, less)) h)))

pub record BlockCuts (k : CharClasses) (levels : ℕ) (text : List ℕ) (c : Spot (Unit {0})) (at : ℕ) : Type 0 where
  pub count : ℕ
  pub cuts : List ℕ
  pub are : cuts_in at (listed (log k text).notes) ≡ Some cuts
  pub is : CutsAre text (λ i. inner_end k levels i c (start_of text)) count cuts
  pub go : AllGo (first_of count (run_at k levels c (start_of text)))
  -- After the last of its pieces none goes on.
  pub over : (let r = run_at k levels c (start_of text) in let e = first_end count r in goes (turn_of r e.value (moved e.taken r.place) e.state) ≡ false)
  pub all : (j : ℕ) → AllGo (first_of j (run_at k levels c (start_of text))) → j ≤ count

pub cuts-of-block : (k : CharClasses) (levels : ℕ) (text : List ℕ) (c : Spot (Unit {0})) → Among c (blocks_of_text k text) → c.name ≡ block.Content → max_depth - c.fewer ≡ suc levels → BlockCuts k levels text c (width (take c.at text))
cuts-of-block k levels text c chosen name left =
    let n = numbered-inner-law k levels text c chosen name left in
    let e = λ (i : ℕ). inner_end k levels i c (start_of text) in
    let more = n.inner ++ n.closes ∷ n.later in
    let notes : listed (log k text).notes ≡ n.earlier ++ n.opens ∷ more = ap listed n.notes in
    let at = n.opens.start in
    let none_before = opens-before k text n.opens c.name n.name more [] n.earlier notes in
    let here : opens_at at n.opens ≡ true = both-on (opens_content n.opens.mark) (at == at) (ap opens_content (n.name ∙ ap mark.Opens name)) (eq-eqb at at refl) in
    let own : cuts_in at (n.opens ∷ more) ≡ after_first (starts n.opens.levels (up_to_end n.opens.levels more)) = if-true (opens_at at n.opens) _ _ here in
    let level : after_first (starts n.opens.levels (up_to_end n.opens.levels more)) ≡ after_first (starts (suc levels) (up_to_end (suc levels) more)) = ap (λ l. after_first (starts l (up_to_end l more))) n.levels_there in
    let starts_is = ap (starts (suc levels)) (all-inner text e (suc levels) n.closes n.later n.name_end n.levels_end 0 n.inner n.each) ∙ starts-are text e (suc levels) 0 n.inner n.each in
    let b = behind-are text e n.count (of_level (suc levels) n.inner) n.all n.each in
    let at_is : width (take c.at text) ≡ at = sym n.start in
    let r = run_at k levels c (start_of text) in
    record {
      count = n.count;
      cuts = b.cuts;
      are = ap (λ x. cuts_in x (listed (log k text).notes)) at_is ∙ ap (cuts_in at) notes ∙ cuts-past at n.earlier (n.opens ∷ more) none_before ∙ own ∙ level ∙ ap after_first starts_is ∙ b.are;
      is = b.is;
      go = n.go;
      over = n.over;
      all = λ j h. few-go (turn_of r) n.count j (true, 0) r.place r.point h n.over;
    }
