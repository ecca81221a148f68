-- What comes after parens, by where they go on after the first one.
use Rattle.typst_code.proofs.Cited.{◌≡◌, ◌+◌, ◌-◌, ◌^◌, ◌≤◌, Bool, true, List, [], ◌++◌, refl, ap, sym, ◌∙◌, subst, at_newline, Guess, Level, Outcome, asked, before, entered, hand_asks_of, hand_of, inside, left, run, start_point, after_shape, View, Fits, Found, place_after_paren, guess_at, looked_too, Back, goes-nowhere, here-looks, paren-looks, group, group_rest, group_shape, after_paren, as_group, after_group, guess_of, Hand, eat, eat_making, node, within, Parser, ◌>>◌, gives, next, wraps}
use Rattle.typst_kinds.specs.declared.kind.SyntaxKind.{SyntaxKind}
use Rattle.typst_lines.specs.Place.{Place, moved}
use Rattle.typst_language.specs.hull.Hull.{Hull}
use Rattle.typst_language.specs.declared.calls.AfterName.{AfterName}
use Rattle.typst_language.specs.declared.reading.AtNewline.TheVariants as newline
use Rattle.typst_language.specs.declared.reading.Reading.{Reading}
use Rattle.typst_language.specs.Nodes.{is_leaf}
use Rattle.typst_language.specs.Ask.{only_looks}
use Rattle.typst_language.specs.Log.{logged}
use Rattle.typst_language.specs.Noted.{hull_in}
use Rattle.typst_language.specs.Point.{Point}
use Rattle.typst_language.specs.Remembered.{Comes, LooksIn}
use Rattle.typst_language.specs.Syntax.Begin.{at_token}
use Rattle.typst_language.specs.View.{begun as guess_begun}
use Rattle.typst_language.proofs.Runs.{asked-same, shape-held, shape-known}
use Rattle.typst_language.proofs.Knowing.{looks-in, looks-more, looks-within, same-looks}
use Rattle.typst_language.proofs.Tails.{AllIn, Is, hulls, hulls-looks, in-both, in-first, in-second, is-gives, is-next, is-peek, is-scoped, is-self, is-takes, is-wraps, looks-hulls}

-- ---- after the first paren

module _ (l : Level) (w : Place) (outer : Reading) where
  abbrev inner : Reading
  inner = at_newline newline.Continue outer

  -- with the token after the paren at hand
  abbrev begun : Point
  begun = let s = start_point inner in asked (hand_of l w s) s

  abbrev rest : Outcome (Bool × SyntaxKind)
  rest = run l group_rest w begun

  abbrev end : Place
  end = moved rest.taken w

  -- with the token after the parens at hand
  abbrev ended : Point
  ended = let s = left outer rest.state in asked (hand_of l end s) s

  abbrev first-hulls : List Hull
  first-hulls = hulls w (hand_asks_of l w (start_point inner))

  abbrev rest-hulls : List Hull
  rest-hulls = hulls w rest.asks

  abbrev last-hulls : List Hull
  last-hulls = hulls end (hand_asks_of l end (left outer rest.state))

  abbrev end-hulls : List Hull
  end-hulls = hulls end (hand_asks_of l end ended)

  after-is : Is l after_paren w (record (start_point outer) { held = inner }) (after_group rest.value.1 (hand_of l end ended).kind) end (asked (hand_of l end ended) ended)
      (((first-hulls ++ rest-hulls) ++ (last-hulls ++ [])) ++ (end-hulls ++ []))
  unfolding after_paren within
  after-is =
      is-next (is-next (is-scoped (at_newline newline.Continue) (record (start_point outer) { held = inner }) (is-next (is-peek w (start_point inner)) (is-self l group_rest w begun))) (is-next (is-peek end (left outer rest.state)) (is-gives end ended)))
      (is-next (is-peek end ended) (is-gives end (asked (hand_of l end ended) ended)))

-- ---- from before it

module _ (l : Level) (z : Place) (s : Point) (same : asked (hand_of l z s) s ≡ s) (leaf : is_leaf (hand_of l z s).token ≡ true) where
  abbrev paren-end : Place
  paren-end = moved ((hand_of l z s).gap + (hand_of l z s).len) z

  abbrev paren-hulls : List Hull
  paren-hulls = hulls z (hand_asks_of l z s)

  abbrev all : Parser (Bool × SyntaxKind)
  all = within (at_newline newline.Continue) (eat >> group_rest)

  abbrev w : Place
  w = paren-end

  abbrev r : Reading
  r = s.reading

  all-is : Is l all z s (rest l w r).value (end l w r) (ended l w r) (((paren-hulls ++ (first-hulls l w r ++ [])) ++ rest-hulls l w r) ++ (last-hulls l w r ++ []))
  unfolding within eat eat_making
  all-is =
      is-next (is-scoped (at_newline newline.Continue) s (is-next (is-next (is-takes z (entered (at_newline newline.Continue r) s) leaf) (is-next (is-peek w (start_point (inner l w r))) (is-gives w (begun l w r)))) (is-self l group_rest w (begun l w r))))
      (is-next (is-peek (end l w r) (left r (rest l w r).state)) (is-gives (end l w r) (ended l w r)))

  abbrev shaped_state : Point
  shaped_state = after_shape (group_shape (rest l w r).value) (inside (before at_token s) (run l all z s)) (ended l w r)

  hand-same : hand_of l (end l w r) shaped_state ≡ hand_of l (end l w r) (ended l w r)
  hand-same = let ts = inside (before at_token s) (run l all z s) in let f = group_shape (rest l w r).value in rw (shape-held f ts (ended l w r), shape-known f ts (ended l w r)) refl

  asks-same : hand_asks_of l (end l w r) shaped_state ≡ hand_asks_of l (end l w r) (ended l w r)
  asks-same = let ts = inside (before at_token s) (run l all z s) in let f = group_shape (rest l w r).value in rw (shape-held f ts (ended l w r), shape-known f ts (ended l w r)) refl

  abbrev shaping : Parser (Bool × SyntaxKind)
  shaping = next (wraps group_shape at_token all) (λ a. gives a.0)

  abbrev all-hulls : List Hull
  all-hulls = (((paren-hulls ++ (first-hulls l w r ++ [])) ++ rest-hulls l w r) ++ (last-hulls l w r ++ [])) ++ []

  group-is : Is l group z s (rest l w r).value.1 (end l w r) shaped_state ((paren-hulls ++ all-hulls) ++ [])
  unfolding group node
  group-is =
      is-next
      (is-next (is-peek z s) (subst (λ (t : Point). Is l shaping z t (rest l w r).value (end l w r) shaped_state all-hulls) (sym same) (is-next (is-wraps group_shape at_token all-is) (is-gives (end l w r) shaped_state))))
      (is-gives (end l w r) shaped_state)

  group-end-is : Is l as_group z s (after_group (rest l w r).value.1 (hand_of l (end l w r) shaped_state).kind) (end l w r) (asked (hand_of l (end l w r) shaped_state) shaped_state)
      (((paren-hulls ++ all-hulls) ++ []) ++ (hulls (end l w r) (hand_asks_of l (end l w r) shaped_state) ++ []))
  unfolding as_group
  group-end-is = is-next group-is (is-next (is-peek (end l w r) shaped_state) (is-gives (end l w r) (asked (hand_of l (end l w r) shaped_state) shaped_state)))

  -- the answer is the same after the first paren
  same-value : (run l as_group z s).value ≡ (guess_of l w r).after
  same-value = group-end-is.value ∙ ap (λ (h : Hand). after_group (rest l w r).value.1 h.kind) hand-same ∙ sym (after-is l w r).value

  -- and what is looked at, except for what the first paren was looked at for
  looks-after : (u : Hull) → LooksIn u z (run l as_group z s).asks → LooksIn u w (guess_of l w r).asks
  looks-after u h =
      let y = end l w r in
      let x = hulls y (hand_asks_of l y shaped_state) in
      let f = first-hulls l w r in
      let m = rest-hulls l w r in
      let e = last-hulls l w r in
      let all = subst (AllIn u) group-end-is.looks (looks-hulls u z (run l as_group z s).asks h) in
      let inside = in-second u paren-hulls all-hulls (in-first u (paren-hulls ++ all-hulls) [] (in-first u ((paren-hulls ++ all-hulls) ++ []) (x ++ []) all)) in
      let mid = in-first u (((paren-hulls ++ (f ++ [])) ++ m) ++ (e ++ [])) [] inside in
      let front = in-first u ((paren-hulls ++ (f ++ [])) ++ m) (e ++ []) mid in
      let first = in-first u f [] (in-second u paren-hulls (f ++ []) (in-first u (paren-hulls ++ (f ++ [])) m front)) in
      let rest-in = in-second u (paren-hulls ++ (f ++ [])) m front in
      let last = in-first u e [] (in-second u ((paren-hulls ++ (f ++ [])) ++ m) (e ++ []) mid) in
      let after = subst (λ asks. AllIn u (hulls y asks)) asks-same (in-first u x [] (in-second u ((paren-hulls ++ all-hulls) ++ []) (x ++ []) all)) in
      let g = end-hulls l w r in
      let found = in-both u ((f ++ m) ++ (e ++ [])) (g ++ []) (in-both u (f ++ m) (e ++ []) (in-both u f m first rest-in) (in-both u e [] last tt)) (in-both u g [] after tt) in
      hulls-looks u w (guess_of l w r).asks (subst (AllIn u) (sym (after-is l w r).looks) found)

  looks-before : (u : Hull) → LooksIn u z (hand_asks_of l z s) → LooksIn u w (guess_of l w r).asks → LooksIn u z (run l as_group z s).asks
  looks-before u k h =
      let y = end l w r in
      let x = hulls y (hand_asks_of l y shaped_state) in
      let f = first-hulls l w r in
      let m = rest-hulls l w r in
      let e = last-hulls l w r in
      let g = end-hulls l w r in
      let paren = looks-hulls u z (hand_asks_of l z s) k in
      let all = subst (AllIn u) (after-is l w r).looks (looks-hulls u w (guess_of l w r).asks h) in
      let mid = in-first u ((f ++ m) ++ (e ++ [])) (g ++ []) all in
      let front = in-first u (f ++ m) (e ++ []) mid in
      let first = in-first u f m front in
      let rest-in = in-second u f m front in
      let last = in-second u (f ++ m) (e ++ []) mid in
      let after = subst (λ asks. AllIn u (hulls y asks)) (sym asks-same) (in-first u g [] (in-second u ((f ++ m) ++ (e ++ [])) (g ++ []) all)) in
      let inside = in-both u (((paren-hulls ++ (f ++ [])) ++ m) ++ (e ++ [])) [] (in-both u ((paren-hulls ++ (f ++ [])) ++ m) (e ++ []) (in-both u (paren-hulls ++ (f ++ [])) m (in-both u paren-hulls (f ++ []) paren (in-both u f [] first tt)) rest-in) last) tt in
      let found = in-both u ((paren-hulls ++ all-hulls) ++ []) (x ++ []) (in-both u (paren-hulls ++ all-hulls) [] (in-both u paren-hulls all-hulls paren inside) tt) (in-both u x [] after tt) in
      hulls-looks u z (run l as_group z s).asks (subst (AllIn u) (sym group-end-is.looks) found)

-- ---- what is remembered of parens

-- what is known of first readings is what they find
abbrev pub Tells : Level → Type 0
Tells l = (z : Place) (outer : Reading) → l.guess l.levels z outer ≡ guess_of l z outer

state-same : (l : Level) (v : View) → Fits l v → asked (hand_of l v.place v.state) v.state ≡ v.state
state-same l v f = sym (asked-same l v f ∙ ap (λ (h : Hand). asked h v.state) f.hand)

told-after : (l : Level) (v : View) (w : Place) → Tells l → place_after_paren v ≡ w → guess_at l v ≡ guess_of l w v.state.reading
told-after l v w tells here = tells (place_after_paren v) v.state.reading ∙ ap (λ (z : Place). guess_of l z v.state.reading) here

-- a first reading would find what is remembered, and would look at no more
pub found-back : {l : Level} {v w : View} {b : AfterName} {hull : Hull} → Tells l → Found l v b hull → w ≡ looked_too hull v → v.log.least ≤ 2 ^ 64 - 1 → Fits l v → Back l as_group b v w
found-back {l = l} {v = v} {b = b} {hull = hull} tells found is least f =
    let same = state-same l v f in
    let leaf : is_leaf (hand_of l v.place v.state).token ≡ true = ap (λ (h : Hand). is_leaf h.token) (sym f.hand) ∙ found.leaf in
    let w = paren-end l v.place v.state same leaf in
    let here : place_after_paren v ≡ w = ap (λ (h : Hand). moved (h.gap + h.len) v.place) f.hand in
    let told = told-after l v w tells here in
    let first = run l as_group v.place v.state in
    let after : logged l.levels (place_after_paren v) v.log (only_looks (guess_at l v).asks) ≡ logged l.levels w v.log (only_looks (guess_of l w v.state.reading).asks) = rw (told, here) refl in
    let all = same-looks l.levels v.log v.place w first.asks (guess_of l w v.state.reading).asks (λ u i k. looks-after l v.place v.state same leaf u k)
    (λ u i k. looks-before l v.place v.state same leaf u (looks-more (hull_in v.log) u v.place (hand_asks_of l v.place v.state) i (paren-looks f)) k) in
    goes-nowhere hull (same-value l v.place v.state same leaf ∙ sym (ap (λ (g : Guess). g.after) told) ∙ sym found.after) (found.looks ∙ after ∙ sym all) is least f

-- and what it found may be remembered
pub back-comes : {l : Level} (old : View) {first back : View} {b : AfterName} → Tells l → first ≡ guess_begun old → Fits l first → Back l as_group b first back
    → is_leaf back.hand.token ≡ true → Comes (guess_at l back) back.here (hull_in back.log) (place_after_paren back) b
back-comes {l = l} old {first = first} {back = back} {b = b} tells e fits k plain =
    let v = guess_begun old in
    let f : Fits l v = subst (λ (x : View). Fits l x) e fits in
    let g : Back l as_group b v back = subst (λ (x : View). Back l as_group b x back) e k in
    let same = state-same l v f in
    let token : back.hand ≡ v.hand = ap (λ (x : View). x.hand) g.same in
    let leaf : is_leaf (hand_of l v.place v.state).token ≡ true = ap (λ (h : Hand). is_leaf h.token) (sym f.hand ∙ sym token) ∙ plain in
    let w = paren-end l v.place v.state same leaf in
    let here : place_after_paren v ≡ w = ap (λ (h : Hand). moved (h.gap + h.len) v.place) f.hand in
    let told = told-after l v w tells here in
    let asks = (run l as_group v.place v.state).asks in
    let log = logged l.levels v.place v.log (only_looks asks) in
    let inside : LooksIn (hull_in log) w (guess_of l w v.state.reading).asks = looks-after l v.place v.state same leaf (hull_in log) (looks-in l.levels v.place v.log asks) in
    let comes : Comes (guess_of l w v.state.reading) v.here (hull_in log) w b = record {
      after = sym g.value ∙ same-value l v.place v.state same leaf;
      looks = inside;
      least = λ u i k. looks-within l.levels v.place v.log asks u i (looks-before l v.place v.state same leaf u (looks-more v.here u v.place (hand_asks_of l v.place v.state) i (here-looks f)) k);
    } in
    let there : Comes (guess_at l v) v.here (hull_in log) (place_after_paren v) b = rw (told, here) comes in
    subst (λ (x : View). Comes (guess_at l x) x.here (hull_in x.log) (place_after_paren x) b) (sym g.same) there
