-- A candidate among the nodes of a run begins well, by what the run's pieces give: at the top of a text's tree and in a content block.
use Rattle.typst_edits.proofs.Cited.{◌≡◌, ◌↔◌, ℕ, suc, ◌+◌, ◌<◌, ◌≤◌, true, false, List, length, Option, Some, ap, sym, ◌∙◌, subst, arith, inl, inr, zero, Bool, [], ◌++◌, take, refl, ◌-◌, ◌∷◌, length-append, append_assoc, None, Tree, none, trees, bare, Forest, more, text_of, Trivia, pending, gap_of, Candidate, begins, is_among, of_run, Child, laid, child_at, Every, is_over, first_place, GoesOnWell, StartsWell, StandsAt, AllGo, End, lead, Sequence, turn_of, first_of, first_end, then_of, then_end, CharClasses, width, Outcome, after_first, top_cuts, cuts_in, max_depth, start_of, tree, log, Settles, standing_by, Among, onwards_at, bytes_of, opening_child, of_level, cut_after, goes, listed, inner_head, Note, texts, candidates, opened_at, fill, path_of, under, block_with, inner_end, block_run, Around, kids_in, markup_from, blocks_of_text, Spot, unit_at, Run, top, read_as, opened_by, path_to, token_after, token_past, run_from, kids_of_run, TakesSome, Encloses, IsRun, root_run, TextReplacement, text_before, start_before, candidates_between, text_run}
use Rattle.typst_tree.specs.Tree.{joined}
use Rattle.typst_edits.proofs.Boundary.{looks_in, each-ends, made-add, go-add, known-made}
use Rattle.typst_edits.proofs.CandidateEnds.{stretch, GivesAt, GivesOne, Parted, Quiet, begun, parted, run-quiet}
use Rattle.typst_edits.proofs.Heads.{lead-empties, lone-piece}
use Rattle.typst_edits.proofs.MarkupCandidates.{OfStretch, of-run}
use Rattle.typst_edits.proofs.MarkupPlaces.{InMarkup, at-second, own-run}
use Rattle.typst_edits.proofs.NumberedNotes.{go-fewer, numbered-run-law}
use Rattle.typst_candidates.specs.Candidates as candidate
use Rattle.typst_edits.specs.CandidateEnds.{BeginsWellLaw}
use Rattle.typst_edits.specs.Frame.{inner}
use Rattle.typst_edits.proofs.CandidatePlaces.{bare-candidates-law}
use Rattle.typst_edits.proofs.Children.{behind-back, tree-by-block}
use Rattle.typst_edits.proofs.Edit.{among, trees-of}
use Rattle.typst_edits.proofs.Cuts.{BlockCuts, CutsAre, behind-are, cut-token, cuts-of-block, few-go, starts-are}
use Rattle.typst_edits.proofs.Joint.{is-run, leads-of, onwards-is}
use Rattle.typst_edits.proofs.Leading.{leading-law, no-errors, node-shape}
use Rattle.typst_edits.proofs.RunPieces.{cut-some, take-past, takes-of}
use Rattle.typst_edits.proofs.RunTrees.{tree-is}
use Rattle.typst_edits.proofs.Widths.{width-append, early-by as sooner, late-by as further}
use Rattle.typst_kinds.specs.declared.kind.SyntaxKind.TheVariants as kind
use Rattle.typst_language.specs.declared.calls.Block.TheVariants as block
use Rattle.typst_edits.proofs.Walk.{left_text, length-texts, spot-place, width-encodes}
use Rattle.typst_grammar.proofs.Whole.{leaves}

-- ---- one more piece

module _ (r : Sequence) (i : ℕ) where
  pub more-goes : AllGo (first_of i r) → AllGo (then_of i 1 r) → AllGo (first_of (suc i) r)
  more-goes g h =
      let one : i + 1 ≡ suc i = omega arith in
      subst (λ j. AllGo (first_of j r)) one (go-add (turn_of r) (looks_in r) (each-ends r) i 1 (true, 0) r.place r.point g h)

  pub more-ends : (let f = then_end i 1 r in first_end (suc i) r ≡ record f { taken = (first_end i r).taken + f.taken })
  more-ends =
      let one : suc i ≡ i + 1 = omega arith in
      ap (λ j. first_end j r) one ∙ made-add (turn_of r) (looks_in r) (each-ends r) i 1 (true, 0) r.place r.point

-- ---- pieces among the nodes

-- ---- the candidate

-- The children of a candidate stand where its pieces begin and end.
pub record Well (r : Sequence) (from : ℕ) (kids : List Tree) (c : Candidate) (i n : ℕ) : Type 0 where
  pub starts : StartsWell i n r
  pub goes_on : GoesOnWell i n r
  pub first : 0 < i → StandsAt from kids c.from c.start
  pub next : is_over i n r ≡ false → StandsAt from kids c.to c.end
  pub last : is_over i n r ≡ true → c.to ≡ length kids

pub well : (r : Sequence) (cuts : List ℕ) (from : ℕ) (kids : List Tree) (rs re : ℕ) (path : List ℕ) (c : Candidate) (i n at end : ℕ) → rs ≤ re → OfStretch rs re path from kids cuts c → Parted r cuts from kids i n at end
    → (0 < i ↔ 0 < c.from) → (0 < i → c.start ≡ at) → c.end ≡ end → Well r from kids c i n
well r cuts from kids rs re path c i n at end order o p led start_is end_is =
    let s = stretch cuts from kids rs re o.more order in
    let from_is : c.from ≡ s.from = ap (λ (d : Candidate). d.from) o.is in
    let to_is : c.to ≡ s.to = ap (λ (d : Candidate). d.to) o.is in
    let begins_is : c.start ≡ begins from kids s.from = ap (λ (d : Candidate). d.start) o.is in
    let ends_is : c.end ≡ begins from kids s.to = ap (λ (d : Candidate). d.end) o.is in
    let b = begun cuts from kids rs re o.more order r i n at end p (λ l. subst (λ d. 0 < d) from_is (led.0 l)) (λ l. sym (start_is l) ∙ begins_is) (sym end_is ∙ ends_is) in
    grind arith

-- ---- the cuts of a run

-- the token after some pieces begins at a byte
pub record IsCut (byte : ℕ → ℕ) (count b : ℕ) : Type 0 where
  pub index : ℕ
  pub some : 0 < index
  pub few : index ≤ count
  pub is : b ≡ byte index

pub record RunCuts (k : CharClasses) (text : List ℕ) (r : Run k text) : Type 0 where
  pub count : ℕ
  pub cuts : List ℕ
  pub go : AllGo (first_of count (read_as r (start_of text)))
  -- After the last of its pieces none goes on.
  pub over : (let q = read_as r (start_of text) in let e = first_end count q in goes (turn_of q e.value (first_place count q) e.state) ≡ false)
  pub each : (b : ℕ) → is_among b cuts ≡ true → IsCut (token_after r) count b
  pub has : (j : ℕ) → 0 < j → AllGo (first_of j (read_as r (start_of text))) → is_among (token_after r j) cuts ≡ true

-- where pieces end so, with their trivia, the token after them begins
module _ (k : CharClasses) (text : List ℕ) (r : Run k text) (e : ℕ → End (Bool × ℕ)) (same : (i : ℕ) → (let f = first_end i (read_as r (start_of text)) in (e i).taken + gap_of (e i).state.known ≡ opened_by r (start_of text) + (f.taken + gap_of f.state.known))) where
  cut-byte : (i : ℕ) → 0 < i → width (take (cut_after i (e i)) text) ≡ token_after r i
  cut-byte i some = ap (λ d. width (take d text)) (cut-token i (e i) some ∙ same i)

  abbrev run-cuts : (count : ℕ) (cuts : List ℕ) → CutsAre text e count cuts → AllGo (first_of count (read_as r (start_of text))) → (let q = read_as r (start_of text) in let f = first_end count q in goes (turn_of q f.value (first_place count q) f.state) ≡ false) → RunCuts k text r
  run-cuts count cuts is go over = (let q = read_as r (start_of text) in record {
    count = count;
    cuts = cuts;
    go = go;
    over = over;
    each = λ b h. (let c = is.each b h in record { index = c.index; some = c.some; few = c.few; is = c.is ∙ cut-byte c.index c.some });
    has = λ j some g. subst (λ b. is_among b cuts ≡ true) (cut-byte j some) (is.has j some (few-go (turn_of q) count j (true, 0) q.place q.point g over));
  })

pub record TopCuts (k : CharClasses) (text : List ℕ) : Type 0 where
  pub own : RunCuts k text (root_run k text)
  are : top_cuts (listed (log k text).notes) ≡ Some own.cuts

pub cuts-of-text : (k : CharClasses) (text : List ℕ) → TopCuts k text
cuts-of-text k text =
    let n = numbered-run-law k text in
    let e = λ (i : ℕ). first_end i (text_run k (start_of text)) in
    let ns = listed (log k text).notes in
    let b = behind-are text e n.count (of_level max_depth ns) n.all n.each in
    record { own = run-cuts k text top e (λ i. omega arith) n.count b.cuts b.is n.go n.over; are = ap after_first (starts-are text e max_depth 0 ns n.each) ∙ b.are }

-- ---- pieces among the nodes

pub none-before : (k : CharClasses) (text : List ℕ) (r : Run k text) → TakesSome r → (read_as r (start_of text)).point.empties ≡ 0
none-before k text top takes = lead-empties k (start_of text)
none-before k text (inner c levels chosen name left) takes = no-errors k levels text c chosen name left takes

settles : (k : CharClasses) (text : List ℕ) (r : Run k text) → TakesSome r → (i n : ℕ) → (0 < i → 0 < n) → Settles n (onwards_at i n (read_as r (start_of text)))
settles k text r takes zero zero some = inr (omega (arith, behind-back k (read_as r (start_of text)) (is-run r (start_of text)) 0 0, none-before k text r takes))
settles k text r takes zero (suc n) some = inl (omega arith)
settles k text r takes (suc i) n some = inl (some (omega arith))

module _ (k : CharClasses) (text : List ℕ) (r : Run k text) (takes : TakesSome r) (cuts : RunCuts k text r) (i : ℕ) (go : AllGo (first_of i (read_as r (start_of text)))) where
  abbrev q : Sequence
  q = read_as r (start_of text)

  abbrev is : IsRun k q
  is = is-run r (start_of text)

  gives-at : (n : ℕ) (t : Trivia) → AllGo (then_of i n q) → (then_end i n q).state.known ≡ Some t → (0 < i → 0 < n) → GivesAt q (run_from r) (kids_of_run r) i n t (token_after r i) (token_past r i n)
  gives-at n t h known some =
      let led = leading-law k text r i n t takes go h known (settles k text r takes i n some) in
      record {
        before = standing_by i n q;
        back = (onwards_at i n q).back;
        behind = led.behind;
        children = led.children;
        few = behind-back k q is i n;
        ends = led.ends;
        onwards = ap (λ (o : Outcome (Unit {0})). o.nodes) (sym (onwards-is q i n)) ∙ led.onwards;
        first = led.first;
        next = led.next;
        last = led.last;
      }

  one-goes : (n : ℕ) → AllGo (then_of i n q) → 0 < n → AllGo (then_of i 1 q)
  one-goes n h some = let e = first_end i q in go-fewer (turn_of q) 1 n e.value (first_place i q) e.state (omega (arith, some)) h

  -- One piece more ends at a cut.
  gives-one : (n : ℕ) → AllGo (then_of i n q) → 0 < n → GivesOne q cuts.cuts (run_from r) (kids_of_run r) i (token_after r i)
  gives-one n h some =
      let e = first_end i q in
      let one = one-goes n h some in
      let first = known-made q.level q.stops i (true, 0) q.place q.point (leads-of k q is).known go in
      let t = known-made q.level q.stops 1 e.value (first_place i q) e.state first one in
      let byte = λ (u : End (Bool × ℕ)). width (take (opened_by r (start_of text) + (u.taken + gap_of u.state.known)) text) in
      record {
        trivia = t.trivia;
        end = token_past r i 1;
        gives = gives-at 1 t.trivia one t.is (λ l. omega arith);
        quiet = subst (λ (u : Option Trivia). Every Quiet (pending u)) t.is (run-quiet k q is i 1);
        cut = ap (λ u. is_among (byte u) cuts.cuts) (sym (more-ends q i)) ∙ cuts.has (suc i) (omega arith) (more-goes q i go one);
      }

  pub run-parted : (n : ℕ) (t : Trivia) → AllGo (then_of i n q) → (then_end i n q).state.known ≡ Some t → Parted q cuts.cuts (run_from r) (kids_of_run r) i n (token_after r i) (token_past r i n)
  run-parted n t h known =
      let none : token_past r i 0 ≡ token_after r i = ap (λ d. width (take d text)) (omega arith) in
      parted q cuts.cuts (run_from r) (kids_of_run r) i n (token_after r i) (token_past r i n) t known (gives-at n t h known) (λ l e. ap (token_past r i) e ∙ none) (λ l some. gives-one n h some) (λ l some mind. lone-piece k q is i go (one-goes n h some) mind)

-- ---- the candidate

pub head-none : (k : CharClasses) (text : List ℕ) → length (tree k text).head.text ≡ 0
head-none k text = ap (λ (t : Tree). length t.head.text) (tree-is k text 0 0 tt tt)

pub of-the-root : (k : CharClasses) (text : List ℕ) (rs re : ℕ) (root : Tree) (c : Candidate) (cuts : TopCuts k text) → bare root ≡ bare (tree k text) → Among c (candidate.candidates (listed (log k text).notes) rs re root) → c.is_block ≡ false → c.path ≡ []
    → OfStretch rs re [] 0 (trees (tree k text).kids) cuts.own.cuts c
of-the-root k text rs re root c cuts same chosen pieces path =
    let was = tree k text in
    let ns = listed (log k text).notes in
    let ts = trees was.kids in
    let there : Among c (candidate.candidates ns rs re was) = subst (λ cs. Among c cs) (bare-candidates-law ns rs re root was same) chosen in
    let own = among _ c _ there (own-run ns rs re [] (top_cuts ns) 0 was (ap (λ (t : Tree). t.head.is_inner) (tree-is k text 0 0 tt tt))) pieces path in
    let at : 0 + length was.head.text ≡ 0 = omega (arith, head-none k text) in
    of-run rs re [] 0 ts cuts.own.cuts c (subst (λ run. Among c (of_run rs re [] 0 ts run)) cuts.are (subst (λ b. Among c (of_run rs re [] b ts (top_cuts ns))) at own))

-- ---- where a block's node stands

pub joined-trees : (f : Forest) → joined f ≡ texts (trees f)
joined-trees none = refl
joined-trees (more h ks r) = ap (λ xs. h.text ++ (joined ks ++ xs)) (joined-trees r)

-- A child of several that begin at a byte lies among them.
pub record Lies (at : ℕ) (ts : List Tree) (c : Child) : Type 0 where
  pub from : at ≤ c.start
  pub long : c.end ≡ c.start + length (text_of c.node)
  pub to : c.end ≤ at + length (texts ts)

some-is : {A : Type 0} (P : A → Type 0) (a b : A) → ◌≡◌ {A = Option A} (Some a) (Some b) → P a → P b
some-is P a b e h = subst (λ o. elim o as (λ _. Type 0) [ None ↦ Unit {0} | Some x ↦ P x ]) e h

pub lies : (at : ℕ) (ts : List Tree) (i : ℕ) (c : Child) → child_at (laid at ts) i ≡ Some c → Lies at ts c
lies at [] i c e = absurd (cc)
lies at (t ∷ ts) zero c e = grind (arith, some-is, length-texts)
lies at (t ∷ ts) (suc i) c e = grind (arith, lies (at + length (text_of t)) ts i c e, length-texts)

-- where the node of a block that isn't empty begins and ends, in bytes
pub record Seat (text : List ℕ) (s : Spot (Unit {0})) : Type 0 where
  pub some : 0 < (unit_at s (start_of text)).taken
  pub left_is : length (left_text s.hole) ≡ width (take s.at text)
  pub both : width (take s.at text) + length (text_of s.node) ≡ width (take (s.at + (unit_at s (start_of text)).taken) text)

pub seat-of : (k : CharClasses) (text : List ℕ) (s : Spot (Unit {0})) → Among s (blocks_of_text k text) → 0 < length (text_of s.node) → Seat text s
seat-of k text c chosen full = let p = spot-place k text c chosen in record { some = p.some full; left_is = p.left full; both = p.both full }

-- ---- a candidate among its markup's children

-- The block is around the stretch, and the candidate is one of its run, which has these cuts.
pub record OfBlock (k : CharClasses) (levels : ℕ) (edit : TextReplacement) (s : Spot (Unit {0})) (c : Candidate) : Type 0 where
  pub around : Around edit s
  pub some : 0 < (unit_at s (start_of (text_before edit))).taken
  -- so is its markup
  pub starts : markup_from k levels (text_before edit) s < width edit.front
  pub ends : width (edit.front ++ edit.old) < markup_from k levels (text_before edit) s + bytes_of (kids_in s.node)
  pub own : BlockCuts k levels (text_before edit) s (width (take s.at (text_before edit)))
  pub chosen : Among c (of_run (width edit.front) (width (edit.front ++ edit.old)) c.path (markup_from k levels (text_before edit) s) (kids_in s.node) (Some own.cuts))

-- in a block with such a node, its second child and what stands in that
record InRun (ns : List Note) (rs re at from : ℕ) (inner_kids : List Tree) (c : Candidate) : Type 0 where
  starts : from < rs
  ends : re < from + bytes_of inner_kids
  own : Among c (of_run rs re c.path from inner_kids (cuts_in at ns))

in-markup : (ns : List Note) (rs re at from : ℕ) (closed : Bool) (lead : Tree) (inner_kids closing : List Tree) (c : Candidate) → InMarkup ns rs re at (block_with closed lead inner_kids closing) c → at + length (text_of (opening_child closed lead)) ≡ from
    → InRun ns rs re at from inner_kids c
in-markup ns rs re at from closed lead inner_kids closing c m sum = grind (arith, some-is, trees-of)

pub of-block : (k : CharClasses) (levels : ℕ) (edit : TextReplacement) (root : Tree) (s : Spot (Unit {0})) → Among s (blocks_of_text k (text_before edit)) → s.name ≡ block.Content → max_depth - s.fewer ≡ suc levels
    → (c : Candidate) → bare root ≡ bare (tree k (text_before edit)) → Among c (candidates k edit root) → c.is_block ≡ false → c.path ≡ path_of s.hole ++ 1 ∷ []
    → OfBlock k levels edit s c
of-block k levels edit root s chosen name level c same candidate pieces path =
    let text = text_before edit in
    let ns = listed (log k text).notes in
    let rs = width edit.front in
    let re = width (edit.front ++ edit.old) in
    let was = tree k text in
    let hole = s.hole in
    let deep = under (inner_head kind.Markup) hole.left hole.deep hole.right in
    let own_tree = tree-by-block k edit s chosen s.node refl in
    let there : Among c (candidates_between k text rs re (fill deep s.node)) = subst (λ cs. Among c cs) (bare-candidates-law ns rs re root was same ∙ ap (candidates_between k text rs re) own_tree) candidate in
    let m : InMarkup ns rs re (0 + length (left_text hole)) s.node c = at-second ns rs re deep s.node (top_cuts ns) 0 c refl there pieces path in
    let in_node = lies ((0 + length (left_text hole)) + length s.node.head.text) (trees s.node.kids) 1 m.child m.is in
    let held : length (text_of s.node) ≡ length s.node.head.text + length (texts (trees s.node.kids)) = length-append s.node.head.text _ ∙ ap (λ n. length s.node.head.text + n) (ap length (joined-trees s.node.kids)) in
    let full : 0 < length (text_of s.node) = omega (arith, width-append edit.front edit.old, m.starts, m.ends, in_node.from, in_node.to, held) in
    let seat = seat-of k text s chosen full in
    let shape = node-shape k levels text s chosen name level seat.some in
    let from = markup_from k levels text s in
    let at = width (take s.at text) in
    let here : 0 + length (left_text hole) ≡ at = omega (arith, seat.left_is) in
    let cuts = cuts-of-block k levels text s chosen name level in
    let early : at < rs = omega (arith, here, in_node.from, m.starts) in
    let late : re < width (take (s.at + (unit_at s (start_of text)).taken) text) = omega (arith, here, in_node.to, m.ends, held, seat.both) in
    let apart_text : (edit.front ++ edit.old) ++ edit.rest ≡ text = append_assoc edit.front edit.old edit.rest in
    let behind = further (s.at + (unit_at s (start_of text)).taken) (edit.front ++ edit.old) edit.rest (subst (λ xs. re < width (take (s.at + (unit_at s (start_of text)).taken) xs)) (sym apart_text) late) in
    let in_shape = subst (λ x. InMarkup ns rs re at x c) shape.node (subst (λ a. InMarkup ns rs re a s.node c) here m) in
    let run = in-markup ns rs re at from shape.closed shape.bracket (kids_in s.node) shape.closing c in_shape shape.opening in
    record {
      around = record { starts = sooner s.at edit.front (edit.old ++ edit.rest) early; ends = omega (arith, length-append edit.front edit.old, behind) };
      some = seat.some;
      starts = run.starts;
      ends = run.ends;
      own = cuts;
      chosen = subst (λ o. Among c (of_run rs re c.path from (kids_in s.node) o)) cuts.are run.own;
    }

-- ---- any run

-- Together the children of a text's tree are its bytes.
pub kids-bytes : (k : CharClasses) (text : List ℕ) → bytes_of (trees (tree k text).kids) ≡ width text
kids-bytes k text =
    let t = tree k text in
    omega (arith, ap length (leaves k text), width-encodes text, length-append t.head.text (joined t.kids), head-none k text, ap length (joined-trees t.kids))

-- A candidate is a stretch of a run's nodes, which are around the stretch that is replaced.
pub record OfRun (k : CharClasses) (edit : TextReplacement) (r : Run k (text_before edit)) (c : Candidate) : Type 0 where
  pub encloses : Encloses k edit r
  pub cuts : RunCuts k (text_before edit) r
  pub stretch : OfStretch (width edit.front) (width (edit.front ++ edit.old)) (path_to r) (run_from r) (kids_of_run r) cuts.cuts c
  pub before : opened_by r (start_before edit) ≤ length edit.front
  pub all : width (edit.front ++ edit.old) ≤ run_from r + bytes_of (kids_of_run r)

pub run-of : (k : CharClasses) (edit : TextReplacement) (root : Tree) (r : Run k (text_before edit)) (c : Candidate) → bare root ≡ bare (tree k (text_before edit))
    → Among c (candidates k edit root) → c.is_block ≡ false → c.path ≡ path_to r → OfRun k edit r c
run-of k edit root top c same chosen pieces path =
    let text = text_before edit in
    let cuts = cuts-of-text k text in
    record {
      encloses = tt;
      cuts = cuts.own;
      stretch = of-the-root k text (width edit.front) (width (edit.front ++ edit.old)) root c cuts same chosen pieces path;
      before = omega arith;
      all = omega (arith, kids-bytes k text, ap width (append_assoc edit.front edit.old edit.rest), width-append (edit.front ++ edit.old) edit.rest);
    }
run-of k edit root (inner s levels chosen_too name level) c same chosen pieces path =
    let text = text_before edit in
    let b = of-block k levels edit root s chosen_too name level c same chosen pieces path in
    let kids = kids_in s.node in
    let from = markup_from k levels text s in
    let before = sooner (opened_at k levels s (start_before edit)) edit.front (edit.old ++ edit.rest) b.starts in
    record {
      encloses = b.around;
      cuts = run-cuts k text (block_run s levels chosen_too name level) (λ i. inner_end k levels i s (start_of text)) (λ i. omega arith) b.own.count b.own.cuts b.own.is b.own.go b.own.over;
      stretch = subst (λ p. OfStretch (width edit.front) (width (edit.front ++ edit.old)) p from kids b.own.cuts c) path (of-run (width edit.front) (width (edit.front ++ edit.old)) c.path from kids b.own.cuts c b.chosen);
      before = omega (arith, before);
      all = omega (arith, b.ends);
    }

pub begins-well-law : BeginsWellLaw
begins-well-law k edit root r c i n m past t u same chosen pieces path start led end h =
    let text = text_before edit in
    let z = start_before edit in
    let q = read_as r z in
    let o = run-of k edit root r c same chosen pieces path in
    let stop = opened_by r z + (((first_end i q).taken + (then_end i n q).taken) + gap_of (then_end i n q).state.known) in
    let w = well q o.cuts.cuts (run_from r) (kids_of_run r) (width edit.front) (width (edit.front ++ edit.old)) (path_to r) c i n (token_after r i) (token_past r i n) (omega (arith, width-append edit.front edit.old)) o.stretch
    (run-parted k text r (takes-of k edit r o.encloses) o.cuts i h.first_go n t h.old_go h.known) led (λ l. start ∙ ap (λ d. width (take d text)) (cut-some r i z l))
    (end ∙ sym (ap width (take-past edit.front edit.old edit.rest past stop (omega (arith, ap gap_of h.known, h.ends))))) in
    (o.encloses, record { starts = w.starts; goes_on = w.goes_on; first = w.first; next = w.next; last = w.last })
