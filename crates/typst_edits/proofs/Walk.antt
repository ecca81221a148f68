-- Where a block of a text stands, and that the steps by places lead to each block that covers the stretch strictly.
use Rattle.typst_edits.proofs.Cited.{◌≡◌, ℕ, suc, ◌+◌, ◌-◌, ◌≤◌, Bool, true, false, ◌&&◌, if◌then◌else◌, List, [], ◌∷◌, ◌++◌, length, take, drop, append_assoc, append-nil, refl, ap, sym, ◌∙◌, subst, arith, zero, ◌<◌, max, length-append, encode_utf8, encode_utf8_all, nat_lt, map, length-take, option_map, Some, is_error, Head, Place, moved, Tree, error_of, text_of, trees, CharClasses, Block, Call, utf8_ahead, Point, forgot, point_of, NodeChange, Shape, hinted, is_delimited, stays, turns_wrong, is_not, renamed, unparened, keeps, Parser, flushes, does, Rules, meaning_of, level_of, Outcome, Level, blockless, answered, joined, less, done, run, start_point, Tidy, Stands, Sane, sane-run, sane-meaning, sane-block, sane-plain, texts, texts-append, text-shaped, texts-one, texts-first, text-add, same-hinted, kept-joined, Holds, Deep, Hole, between_parens, changed_deep, first_hole, change_hole, in_node, in_nodes, after_nodes, wrap_in, wrap_hole, plug, fill, path_in, path_of, under, Spot, block_head, after_spot, rehole, ended, unit_at, here_spot, Spots, level_spots, level_seconds, width, ahead-left, markup_reading, rules, max_depth, start_of, whole, parsed, Among, blocks_of_text, block_at, Named, width-positive, and_right, take-append-drop, lawful-block, if-true, if-false, char_width, texts-same, kept-grown, and_from, le-ltb, tidy-grew, length-encode, text_before, start_before}
use Rattle.typst_edits.specs.Hole.Deep.{bare}
use Rattle.typst_edits.proofs.Every.{Every, every-map, every-if}
use Rattle.typst_edits.proofs.Names.{Walks, Steps, each-level, each-second-level, named-level}
use Rattle.typst_edits.proofs.Blocks.{ends}
use Rattle.typst_edits.proofs.Content.{Clear, clear-level, no-front}
use Rattle.typst_edits.proofs.Edit.{among, trees-of}
use Rattle.typst_edits.proofs.Spots.{Lawful}
use Rattle.typst_edits.proofs.Law.{inside-level}
use Rattle.typst_edits.specs.Walk.{Step, over, walk, walk_to, WalkLaw}
use Rattle.typst_edits.proofs.Widths.{width-append, width-before, width-over}

-- ---- where a block of a reading stands: what the nodes before its own hold are the characters before it

-- what the nodes before a hole hold
abbrev pub deep_text : Deep → List ℕ
deep_text bare = []
deep_text (under head left d right) = head.text ++ (texts left ++ deep_text d)

abbrev pub left_text : Hole → List ℕ
left_text h = texts h.left ++ deep_text h.deep

-- ---- what becomes of several nodes

abbrev Alike : List ℕ → List Hole → Type 0
Alike text gs = Every (λ g. left_text g ≡ text) gs

-- The node with the hole changes.
alike-between : (head : Head) (left : List Tree) (d : Deep) (right : List Tree) → Every (λ (e : Deep). deep_text e ≡ head.text ++ (texts left ++ deep_text d)) (between_parens head left d right)
alike-between head left d right = grind arith

alike-deep : (change : NodeChange) (h : Head) (d : Deep) → Every (λ (e : Deep). deep_text e ≡ deep_text d) (changed_deep change h d)
alike-deep stays h d = (refl, tt)
alike-deep (turns_wrong message) h d = tt
alike-deep (is_not thing) h d = tt
alike-deep (renamed kind) h bare = tt
alike-deep (renamed kind) h (under head left d right) = every-if (λ (e : Deep). deep_text e ≡ deep_text (under head left d right)) (is_error kind) [] _ (λ e. tt) (λ e. (refl, tt))
alike-deep unparened h bare = every-if (λ (e : Deep). deep_text e ≡ []) (is_delimited h.kind) [] _ (λ e. tt) (λ e. (refl, tt))
alike-deep unparened h (under head left d right) = grind (arith, every-if, alike-between)

-- The first node changes.
alike-changed : (change : NodeChange) (h : Head) (left : List Tree) (d : Deep) (right : List Tree) → Alike (texts left ++ deep_text d) (change_hole change h left d right)
alike-changed change h (t ∷ left) d right = (ap (λ x. x ++ deep_text d) (text-shaped (keeps change) (t ∷ left)), tt)
alike-changed change h [] d right = every-map (λ (e : Deep). deep_text e ≡ deep_text d) (λ (g : Hole). left_text g ≡ deep_text d) (first_hole right) (λ e i. i) (changed_deep change h d) (alike-deep change h d)

alike-behind : (kept : List Tree) (text : List ℕ) (gs : List Hole) → Alike text gs → Alike (texts kept ++ text) (after_nodes kept gs)
alike-behind kept text gs h = grind (arith, texts-append, append_assoc)

alike-node : (head : Head) (kept : List Tree) (text : List ℕ) (g : Hole) → head.text ≡ [] → left_text g ≡ text → Alike (texts kept ++ text) (in_node head kept g)
alike-node head kept text g e h = every-if (λ (u : Hole). left_text u ≡ texts kept ++ text) (is_error head.kind) [] (record { left = kept; deep = under head g.left g.deep g.right; right = [] } ∷ []) (λ t. tt) (λ t. (ap (λ x. texts kept ++ (x ++ (texts g.left ++ deep_text g.deep))) e ∙ ap (λ x. texts kept ++ x) h, tt))

alike-nodes : (head : Head) (kept : List Tree) (text : List ℕ) (gs : List Hole) → head.text ≡ [] → Alike text gs → Alike (texts kept ++ text) (in_nodes head kept gs)
alike-nodes head kept text gs e h = grind arith

texts-lacking : (count : ℕ) (message : List ℕ) (ts : List Tree) → texts (take count ts ++ error_of message [] ∷ drop count ts) ≡ texts ts
texts-lacking count message ts = texts-append (take count ts) (error_of message [] ∷ drop count ts) ∙ sym (texts-append (take count ts) (drop count ts)) ∙ ap texts (take-append-drop count ts)

alike-lacking : (count : ℕ) (message : List ℕ) (left : List Tree) (d : Deep) (right : List Tree) (b : Bool) → left_text (if b
    then record { left = take count left ++ error_of message [] ∷ drop count left; deep = d; right = right }
    else record { left = left; deep = d; right = take (count - suc (length left)) right ++ error_of message [] ∷ drop (count - suc (length left)) right }) ≡ texts left ++ deep_text d
alike-lacking count message left d right true = ap (λ x. x ++ deep_text d) (texts-lacking count message left)
alike-lacking count message left d right false = refl

alike-in : (shape : Shape) (h : Head) (kept left : List Tree) (d : Deep) (right : List Tree) → Alike (texts kept ++ (texts left ++ deep_text d)) (wrap_in shape h kept left d right)
alike-in shape h kept left d right = grind (arith, alike-behind, alike-changed, alike-nodes, alike-node, alike-lacking)

-- What is before the hole holds the same.
alike-wrapped : (shape : Shape) (h : Head) (k : ℕ) (hole : Hole) → Alike (left_text hole) (wrap_hole shape h k hole)
alike-wrapped shape h k hole =
    let e : texts (take k hole.left) ++ (texts (drop k hole.left) ++ deep_text hole.deep) ≡ left_text hole =
    sym (append_assoc (texts (take k hole.left)) (texts (drop k hole.left)) (deep_text hole.deep)) ∙ ap (λ x. x ++ deep_text hole.deep) (sym (texts-append (take k hole.left) (drop k hole.left)) ∙ ap texts (take-append-drop k hole.left)) in
    grind (arith, every-if, alike-in)

-- ---- a block in a larger whole

pub record Placed {A : Type 0} (z : Place) (s : Point) (c : Spot A) : Type 0 where
  -- It takes back no more errors than stand there.
  pub back : c.back ≤ s.empties
  -- Before its node stand the characters before it, and what it gave before its node.
  pub left : left_text c.hole ≡ utf8_ahead c.at z ++ texts c.front

placed-after : {A B : Type 0} (z : Place) (s : Point) (o : Outcome B) (c : Spot A) → Holds z o → Tidy s o → Placed (moved o.taken z) o.state c → Placed z s (after_spot o c)
placed-after z s o c h t p =
    let stood = less c.back o.nodes in
    record {
      back = omega (arith, p.back, t.back, t.left);
      left = ap (λ x. x ++ deep_text c.hole.deep) (texts-append (hinted c.hints stood) c.hole.left)
          ∙ append_assoc (texts (hinted c.hints stood)) (texts c.hole.left) (deep_text c.hole.deep)
          ∙ ap (λ x. x ++ left_text c.hole) (texts-same (hinted c.hints stood) stood (same-hinted c.hints stood) ∙ h.blank c.back p.back ∙ h.text)
          ∙ ap (λ x. utf8_ahead o.taken z ++ x) p.left
          ∙ sym (append_assoc (utf8_ahead o.taken z) (utf8_ahead c.at (moved o.taken z)) (texts c.front))
          ∙ ap (λ x. x ++ texts c.front) (text-add o.taken c.at z);
    }

-- for each block of a reading, where what is known of the trivia stands
abbrev StandsAt : Place → Point → Type 0
StandsAt z s = Stands z s.known

abbrev pub Places : {A : Type 0} → Spots A → Type 0
Places sp = (z : Place) (s : Point) → StandsAt z s → Every (Placed z s) (sp z s)

-- What is read holds what it takes, and takes back no more than stands there.
abbrev HoldsAll : (A : Type 0) → Place → Point → Outcome A → Type 0
HoldsAll A z s o = Holds z o × Tidy s o

abbrev PlacedAt : (A : Type 0) → ℕ → Place → Point → Spot A → Type 0
PlacedAt A n z s c = Placed z s c

placed-walks : Walks StandsAt HoldsAll PlacedAt
placed-walks = record {
  at_none = λ z s. tt;
  at_entered = λ z s r a. a;
  at_end = λ A z s o g. g.0.known;
  gone_grew = λ A z s i o p g h.
      (let q = kept-joined z o p g.0 h.0 h.1 in
      (kept-grown z i p.value.0 (answered p.value.1 (joined o p)) (record { text = q.text; known = q.known; blank = q.blank }), tidy-grew s i o p g.1 h.1));
  after = λ A B n z s o c g h. placed-after z s o c g.0 g.1 h;
  before_next = λ A B n z s p c h. record { back = h.back; left = h.left };
  with_value = λ A B n z s v c h. record { back = h.back; left = h.left };
  in_shape = λ A n z s shape i c h. every-map (λ (g : Hole). left_text g ≡ left_text c.hole) _ (rehole _ c) (λ g e. record { back = h.back; left = e ∙ h.left }) _ (alike-wrapped shape (block_head c.name) (i + c.back) c.hole);
  in_scope = λ A n z s r c h. record { back = h.back; left = h.left };
  deeper = λ A n z s c h. record { back = h.back; left = h.left };
  in_block = λ n z s b c h. record { back = h.back; left = h.left };
}

module _ (l : Level) (d : (c : Call) → Sane (l.deeper c)) (e : (b : Block) → Sane (l.blocks b)) where
  holds-all : (A : Type 0) (p : Parser A) (z : Place) (s : Point) → StandsAt z s → HoldsAll A z s (run l p z s)
  holds-all A p z s a = let fine = sane-run l d e p in (fine.kept z s a, fine.backs z s)

  flush-holds : (z : Place) (s : Point) → StandsAt z s → HoldsAll (Unit {0}) z s (done l flushes z s)
  unfolding run
  flush-holds z s a = holds-all (Unit {0}) (does flushes) z s a

  placed-steps : Steps StandsAt HoldsAll PlacedAt l
  placed-steps = record {
    reads = holds-all;
    here = λ b t z s a.
        let o = done l flushes z s in
        let g = flush-holds z s a in
        placed-after z s o (here_spot b (l.blocks b) (moved o.taken z) o.state) g.0 g.1 (record { back = ((e b).backs (moved o.taken z) (forgot o.state)).back; left = append-nil (texts (less 1 (l.blocks b (moved o.taken z) (forgot o.state)).nodes)) });
  }

-- ---- by any rules, at every level, where what is known of the trivia ahead stands there

module _ (r : Rules) (k : CharClasses) where
  by-level : (levels : ℕ) → Steps StandsAt HoldsAll PlacedAt (level_of r k levels)
  by-level levels = placed-steps (level_of r k levels) (sane-meaning r k levels) (sane-block r k levels)

  by-block : (levels : ℕ) → Steps StandsAt HoldsAll PlacedAt (blockless k levels (meaning_of r k levels))
  by-block levels = placed-steps (blockless k levels (meaning_of r k levels)) (sane-meaning r k levels) (λ c. sane-plain tt)

  pub placed-level : {A : Type 0} (levels : ℕ) (p : Parser A) → Places (level_spots r k levels p)
  placed-level levels p = each-level StandsAt HoldsAll PlacedAt placed-walks r k by-level by-block levels p

  pub placed-seconds : {A : Type 0} (levels : ℕ) (p : Parser A) → Places (level_seconds r k levels p)
  placed-seconds levels p = each-second-level StandsAt HoldsAll PlacedAt placed-walks r k by-level by-block levels p

-- ---- where a block of a text stands, by its bytes

-- the bytes of a text
pub width-encodes : (xs : List ℕ) → length (encode_utf8_all xs) ≡ width xs
unfolding width char_width
width-encodes [] = refl
width-encodes (c ∷ xs) = omega (arith, length-append (encode_utf8 c) (encode_utf8_all xs), length-encode c, width-encodes xs)

-- A block's node is in its hole, and one that isn't empty begins and ends where the block does.
pub record SpotPlace (k : CharClasses) (text : List ℕ) (s : Spot (Unit {0})) : Type 0 where
  pub nodes : (parsed k max_depth text).nodes ≡ plug s.hole s.node
  pub room : s.at + (unit_at s (start_of text)).taken ≤ max s.at (length text)
  pub some : 0 < length (text_of s.node) → 0 < (unit_at s (start_of text)).taken
  pub left : 0 < length (text_of s.node) → length (left_text s.hole) ≡ width (take s.at text)
  pub left_taken : 0 < (unit_at s (start_of text)).taken → length (left_text s.hole) ≡ width (take s.at text)
  pub both_taken : 0 < (unit_at s (start_of text)).taken → width (take s.at text) + length (text_of s.node) ≡ width (take (s.at + (unit_at s (start_of text)).taken) text)
  pub both : 0 < length (text_of s.node) → width (take s.at text) + length (text_of s.node) ≡ width (take (s.at + (unit_at s (start_of text)).taken) text)
  pub front : 0 < length (text_of s.node) → s.front ≡ []
  pub head : s.node.head ≡ block_head s.name

-- What takes nothing has an empty last node.
some-taken : (n : ℕ) (z : Place) (ts : List Tree) (t : Tree) → texts (ts ++ t ∷ []) ≡ utf8_ahead n z → 0 < length (text_of t) → 0 < n
some-taken zero z ts t e h =
    let nothing : List ℕ = [] in
    let g : length nothing ≡ 0 = omega arith in
    absurd (omega (arith, ap length (texts-append ts (t ∷ [])), length-append (texts ts) (texts (t ∷ [])), ap length (texts-one t), ap length e, g, h))
some-taken (suc n) z ts t e h = omega arith

pub within-is : (a b c : ℕ) → a + b ≤ c → a ≤ c
within-is a b c h = omega (arith, h)

pub spot-place : (k : CharClasses) (text : List ℕ) (s : Spot (Unit {0})) → Among s (blocks_of_text k text) → SpotPlace k text s
unfolding blocks_of_text
spot-place k text c there =
    let z = start_of text in
    let s = start_point markup_reading in
    let o = parsed k max_depth text in
    let u = unit_at c z in
    let y = moved c.at z in
    let p = point_of c.start in
    let l = among (Lawful z z o o) c _ there (inside-level (rules k) k (ends k) max_depth whole z z s) in
    let n = among (Named (block_at k) max_depth) c _ there (named-level (rules k) k max_depth whole z s) in
    let clear = among (Clear k z) c _ there (clear-level (rules k) k max_depth whole z s tt) in
    let placed = among (Placed z s) c _ there (placed-level (rules k) k max_depth whole z s tt) in
    let levels = max_depth - c.fewer in
    let laws = lawful-block k c.name in
    let read : u ≡ ended (block_at k levels c.name y p) = ap (λ r. r y p) n.reads in
    let all : texts (c.front ++ c.node ∷ []) ≡ utf8_ahead u.taken y =
    ap texts (sym l.fits.nodes) ∙ ap (λ (q : Outcome (Unit {0})). texts q.nodes) read ∙ (laws.leaves levels y p tt).text ∙ ap (λ (q : Outcome (Unit {0})). utf8_ahead q.taken y) (sym read) in
    let some = λ (h : 0 < length (text_of c.node)). some-taken u.taken y c.front c.node all h in
    let none = λ (h : 0 < u.taken). no-front k max_depth c z n clear l.fits h in
    let left = λ (h : 0 < u.taken). ap length (placed.left ∙ ap (λ ts. utf8_ahead c.at z ++ texts ts) (none h) ∙ append-nil (utf8_ahead c.at z)) ∙ width-encodes (take c.at text) in
    let both : 0 < u.taken → width (take c.at text) + length (text_of c.node) ≡ width (take (c.at + u.taken) text) = λ h.
    (let held = sym (texts-one c.node) ∙ ap (λ ts. texts (ts ++ c.node ∷ [])) (sym (none h)) ∙ all in
    let f = length-append (utf8_ahead c.at z) (utf8_ahead u.taken y) in
    omega (arith, ap length held, width-encodes (take c.at text), width-encodes (take (c.at + u.taken) text), ap length (text-add c.at u.taken z), f)) in
    let inside : u.taken ≤ max 0 (length y.ahead) = subst (λ (q : Outcome (Unit {0})). q.taken ≤ max 0 (length y.ahead)) (sym read) (within-is _ _ _ (laws.within levels y p)) in
    record {
      nodes = ap (λ (q : Outcome (Unit {0})). q.nodes) l.old;
      room = omega (arith, inside, ahead-left c.at z);
      some = some;
      left = λ h. left (some h);
      left_taken = left;
      both_taken = both;
      both = λ h. both (some h);
      front = λ h. none (some h);
      head = l.fits.head;
    }

-- ---- among several nodes

pub first-if : {A : Type 0} (a b : Bool) (x y : A) → a ≡ true → b ≡ true → (if a && b then x else y) ≡ x
first-if a b x y h k = if-true (a && b) x y (and_from a b h k)

pub length-texts : (t : Tree) (ts : List Tree) → length (texts (t ∷ ts)) ≡ length (text_of t) + length (texts ts)
length-texts t ts = ap length (texts-first t ts) ∙ length-append (text_of t) (texts ts)

module _ (from to : ℕ) (order : from ≤ to) where
  over-at : (at : ℕ) (left : List Tree) (y : Tree) (right : List Tree) → at + length (texts left) < from → to < (at + length (texts left)) + length (text_of y)
      → over from to at (left ++ y ∷ right) ≡ Some (record { index = length left; start = at + length (texts left); node = y })
  over-at at [] y right h i = grind arith
  over-at at (t ∷ left) y right h i =
      let end = at + length (text_of t) in
      let l = length-texts t left in
      let e : end + length (texts left) ≡ at + length (texts (t ∷ left)) = omega (arith, l) in
      if-false (nat_lt at from && nat_lt to end) _ _ (and_right (nat_lt at from) (nat_lt to end) (le-ltb to end (omega (arith, l, h, order))))
      ∙ ap (option_map (λ (s : Step). record s { index = suc s.index })) (over-at end left y right (omega (arith, l, h)) (omega (arith, l, i)))
      ∙ ap (λ n. Some (record { index = suc (length left); start = n; node = y })) e

  -- ---- down to a hole

  abbrev steps_in : Deep → Tree → ℕ → List Step
  steps_in bare x at = []
  steps_in (under head left d right) x at =
      let next = (at + length head.text) + length (texts left) in
      record { index = length left; start = next; node = fill d x } ∷ steps_in d x next

  size-fill : (d : Deep) (x : Tree) → length (deep_text d) + length (text_of x) ≤ length (text_of (fill d x))
  size-fill bare x = omega arith
  size-fill (under head left d right) x =
      let c = length-append (texts left) (texts (fill d x ∷ right)) in
      let e = length-texts (fill d x) right in
      let f = length-append head.text (texts left ++ deep_text d) in
      omega (arith, size-fill d x, length-append head.text (texts (left ++ fill d x ∷ right)), ap length (texts-append left (fill d x ∷ right)), c, e, f, length-append (texts left) (deep_text d))

  walk-over : (n at : ℕ) (left : List Tree) (y : Tree) (right : List Tree) → at + length (texts left) < from → to < (at + length (texts left)) + length (text_of y)
      → walk (suc n) from to at (left ++ y ∷ right) ≡ record { index = length left; start = at + length (texts left); node = y } ∷ walk n from to ((at + length (texts left)) + length y.head.text) (trees y.kids)
  walk-over n at left y right h i = grind (arith, over-at)

  walk-in : (d : Deep) (x : Tree) (at : ℕ) → at + length (deep_text d) < from → to < (at + length (deep_text d)) + length (text_of x)
      → walk (length (path_in d)) from to (at + length (fill d x).head.text) (trees (fill d x).kids) ≡ steps_in d x at
  walk-in bare x at h i = refl
  walk-in (under head left d right) x at h i =
      let y = fill d x in
      let here = at + length head.text in
      let next = here + length (texts left) in
      let f = length-append head.text (texts left ++ deep_text d) in
      let g = length-append (texts left) (deep_text d) in
      ap (walk (suc (length (path_in d))) from to here) (trees-of (left ++ y ∷ right))
      ∙ walk-over (length (path_in d)) here left y right (omega (arith, h, f, g)) (omega (arith, i, f, g, size-fill d x))
      ∙ ap (λ ss. record { index = length left; start = next; node = y } ∷ ss) (walk-in d x next (omega (arith, h, f, g)) (omega (arith, i, f, g)))

  abbrev steps_of : Hole → Tree → List Step
  steps_of h x = let next = length (texts h.left) in record { index = length h.left; start = next; node = fill h.deep x } ∷ steps_in h.deep x next

  walk-hole : (h : Hole) (x : Tree) → length (left_text h) < from → to < length (left_text h) + length (text_of x) → walk (length (path_of h)) from to 0 (plug h x) ≡ steps_of h x
  walk-hole h x i j = grind (arith, length-append, walk-over, size-fill, walk-in)

  -- ---- the steps

  path-in : (d : Deep) (x : Tree) (at : ℕ) → map (λ (s : Step). s.index) (steps_in d x at) ≡ path_in d
  path-in bare x at = refl
  path-in (under head left d right) x at = ap (λ is. length left ∷ is) (path-in d x _)

  record Last (ss : List Step) (start : ℕ) (x : Tree) : Type 0 where
    earlier : List Step
    index : ℕ
    is : ss ≡ earlier ++ record { index = index; start = start; node = x } ∷ []

  last-in : (i : ℕ) (d : Deep) (x : Tree) (at : ℕ) → Last (record { index = i; start = at; node = fill d x } ∷ steps_in d x at) (at + length (deep_text d)) x
  last-in i bare x at = let e : at ≡ at + 0 = omega arith in record { earlier = []; index = i; is = ap (λ n. record { index = i; start = n; node = x } ∷ []) e }
  last-in i (under head left d right) x at =
      let next = (at + length head.text) + length (texts left) in
      let r = last-in (length left) d x next in
      let f = length-append head.text (texts left ++ deep_text d) in
      let e : next + length (deep_text d) ≡ at + length (head.text ++ (texts left ++ deep_text d)) = omega (arith, f, length-append (texts left) (deep_text d)) in
      let first : Step = record { index = i; start = at; node = fill (under head left d right) x } in
      record { earlier = first ∷ r.earlier; index = r.index; is = ap (λ ss. first ∷ ss) r.is ∙ ap (λ n. first ∷ (r.earlier ++ record { index = r.index; start = n; node = x } ∷ [])) e }

-- ---- places in bytes

pub width-some : (xs : List ℕ) → 0 < length xs → 0 < width xs
unfolding width
width-some [] h = absurd (omega arith)
width-some (c ∷ xs) h = omega (arith, width-positive c)

pub walk-law : WalkLaw
walk-law k edit c past among_them starts ends_at goes_on =
    let text = text_before edit in
    let u = unit_at c (start_before edit) in
    let place = spot-place k text c among_them in
    let some : 0 < u.taken = omega (arith, starts, ends_at) in
    let all : past ≤ length edit.rest = omega (arith, place.room, length-append edit.front (edit.old ++ edit.rest), length-append edit.old edit.rest, starts, ends_at) in
    let end_at : c.at + u.taken ≡ length (edit.front ++ edit.old) + past = omega (arith, ends_at, length-append edit.front edit.old) in
    let same_text : (edit.front ++ edit.old) ++ edit.rest ≡ text = append_assoc edit.front edit.old edit.rest in
    let left_is = place.left_taken some in
    let both = place.both_taken some in
    let far : width (take (c.at + u.taken) text) ≡ width (edit.front ++ edit.old) + width (take past edit.rest) =
    ap (λ j. width (take j text)) end_at ∙ ap (λ xs. width (take (length (edit.front ++ edit.old) + past) xs)) (sym same_text) ∙ width-over (edit.front ++ edit.old) past edit.rest in
    let more : 0 < width (take past edit.rest) = width-some (take past edit.rest) (let t = length-take past edit.rest in omega (arith, t, all, goes_on)) in
    let early : length (left_text c.hole) < width edit.front = (let b = width-before c.at edit.front (edit.old ++ edit.rest) starts in omega (arith, left_is, b)) in
    let late : width (edit.front ++ edit.old) < length (left_text c.hole) + length (text_of c.node) = omega (arith, left_is, both, far, more) in
    let order : width edit.front ≤ width (edit.front ++ edit.old) = (let w = width-append edit.front edit.old in omega (arith, w)) in
    let steps : walk_to (length (path_of c.hole)) k edit ≡ steps_of (width edit.front) (width (edit.front ++ edit.old)) order c.hole c.node =
    ap (walk (length (path_of c.hole)) (width edit.front) (width (edit.front ++ edit.old)) 0) place.nodes ∙ walk-hole (width edit.front) (width (edit.front ++ edit.old)) order c.hole c.node early late in
    let last = last-in (width edit.front) (width (edit.front ++ edit.old)) order (length c.hole.left) c.hole.deep c.node (length (texts c.hole.left)) in
    let at_is : length (texts c.hole.left) + length (deep_text c.hole.deep) ≡ width (take c.at text) = (let g = length-append (texts c.hole.left) (deep_text c.hole.deep) in omega (arith, g, left_is)) in
    record {
      path = ap (map (λ (t : Step). t.index)) steps ∙ ap (λ is. length c.hole.left ∷ is) (path-in (width edit.front) (width (edit.front ++ edit.old)) order c.hole.deep c.node (length (texts c.hole.left)));
      earlier = last.earlier;
      last = record { index = last.index; start = length (texts c.hole.left) + length (deep_text c.hole.deep); node = c.node };
      steps = steps ∙ last.is;
      node = refl;
      kind = place.head;
      start = at_is;
      end = omega (arith, at_is, both);
    }
