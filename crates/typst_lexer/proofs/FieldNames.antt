-- Names and their fields, in one piece.
use Rattle.typst_lexer.proofs.Cited.{◌≡◌, ◌≤◌, ◌<◌, ◌+◌, ◌==◌, ℕ, suc, Bool, true, false, if◌then◌else◌, List, [], ◌∷◌, length, slice_get, refl, ap, ◌∙◌, arith, Some, prefix_len, CharClasses, moved, moved_from, passes, scout, continues, is_field, in_fields, after_name, covers-saw, covers-went, far-end, far-next, far-on, same-sight, saw-ahead, Sight, Covers, saw, saw_by, went, went_past, sight, Memory, plain, Token, sight-pairs, past-stops, moved-less, answer, skip, and_parts}
use Rattle.typst_kinds.specs.declared.kind.SyntaxKind.TheVariants as kind
use Rattle.typst_tokens.proofs.Spans.{sight-turn, sight-end}
use Rattle.typst_tokens.specs.Pairs.{pairs_len}
use Rattle.typst_tokens.specs.Reader.{place, ask, glimpse, widened, Step, Turn, Reader, eat_span}
use Rattle.typst_tokens.specs.Reader.Step.{turn, see}
use Rattle.typst_tokens.specs.Reader.Turn.{leave, go}
use Rattle.typst_tokens.specs.Memory.Memory.{quoted}

abbrev pub ended : Memory → Reader Memory Token
ended memory = answer (plain kind.MathFieldAccess)

-- what is left of fields
abbrev pub rest : CharClasses → Reader Memory Token
rest k = eat_span (in_fields k) (quoted false) ended

-- ---- looks

pub saw-further : (v : Sight) → saw 2 (saw 1 v) ≡ saw 2 v
saw-further v = same-sight _ _ _ _ _ _ refl (omega (arith, far-next 1 v.place)) refl

saw-at-end : (b : List ℕ) (r l : ℕ) → ◌≡◌ {A = Sight} (saw 1 (record { place = place b []; reach = r; least = l })) (saw 2 (record { place = place b []; reach = r; least = l }))
saw-at-end b r l = same-sight _ _ _ _ _ _ refl (omega (arith, far-end 0 b, far-end 1 b)) refl

-- ---- runs

len-by : (test : ℕ → Bool) (c : ℕ) (cs : List ℕ) (t : Bool) → test c ≡ t → pairs_len (λ c _. test c) cs ≡ prefix_len test cs → pairs_len (λ c _. test c) (c ∷ cs) ≡ prefix_len test (c ∷ cs)
len-by test c cs true e h = let one : 1 + prefix_len test cs ≡ suc (prefix_len test cs) = omega arith in rw (e, one) (ap suc h)
len-by test c cs false e h = rw e refl

len-same : (test : ℕ → Bool) (cs : List ℕ) → pairs_len (λ c _. test c) cs ≡ prefix_len test cs
len-same test [] = refl
len-same test (c ∷ cs) = len-by test c cs (test c) refl (len-same test cs)

-- the turn at a character, by whether it continues a name
abbrev at_char : CharClasses → ℕ → Bool → Step (Turn Memory)
at_char k c b = if b then turn (go (quoted false)) else see 1 (λ d. turn (if is_field k (Some c) d then go (quoted true) else leave))

run-goes : (k : CharClasses) (c : ℕ) (b a : List ℕ) → continues k c ≡ true → ask (in_fields k (quoted false)) (place b (c ∷ a)) ≡ go (quoted false)
run-goes k c b a e = ap (λ t. ask (at_char k c t) (place b (c ∷ a))) e

run-looks : (k : CharClasses) (c : ℕ) (b a : List ℕ) → continues k c ≡ true → (f : ℕ) × ((glimpse (in_fields k (quoted false)) (place b (c ∷ a)) ≡ record { back = 0; front = f }) × (f ≤ 2))
run-looks k c b a e = (1, (ap (λ t. widened 0 1 (glimpse (at_char k c t) (place b (c ∷ a)))) e, omega arith))

-- a name goes on to what doesn't continue it
pub rest-run : (k : CharClasses) (v : Sight) → Covers v → sight (rest k) v ≡ sight (rest k) (went_past (continues k) v)
rest-run k v h =
    sight-pairs (in_fields k) (quoted false) (λ c _. continues k c) ended (run-goes k) (run-looks k) v.place.before v.place.ahead v.reach v.least h
    ∙ ap (λ n. sight (rest k) (went n (saw (suc n) v))) (len-same (continues k) v.place.ahead)

-- ---- turns after a name

stop-asks : (k : CharClasses) (c : ℕ) (b a : List ℕ) → continues k c ≡ false
    → ask (in_fields k (quoted false)) (place b (c ∷ a)) ≡ (if is_field k (Some c) (slice_get a 0) then go (quoted true) else leave)
stop-asks k c b a e = ap (λ t. ask (at_char k c t) (place b (c ∷ a))) e

stop-looks : (k : CharClasses) (c : ℕ) (b a : List ℕ) → continues k c ≡ false → glimpse (in_fields k (quoted false)) (place b (c ∷ a)) ≡ record { back = 0; front = 2 }
stop-looks k c b a e = ap (λ t. widened 0 1 (glimpse (at_char k c t) (place b (c ∷ a)))) e

-- what was looked at at such a character
stopped : (k : CharClasses) (c : ℕ) (b a : List ℕ) (r l : ℕ) → Covers (record { place = place b (c ∷ a); reach = r; least = l }) → continues k c ≡ false
    → saw_by (glimpse (in_fields k (quoted false)) (place b (c ∷ a))) (saw 1 (record { place = place b (c ∷ a); reach = r; least = l })) ≡ saw 2 (record { place = place b (c ∷ a); reach = r; least = l })
stopped k c b a r l h e =
    let v : Sight = record { place = place b (c ∷ a); reach = r; least = l } in
    ap (λ x. saw_by x (saw 1 v)) (stop-looks k c b a e) ∙ saw-ahead 2 (saw 1 v) (covers-saw 1 v h) ∙ saw-further v

-- no field follows
pub rest-end : (k : CharClasses) (v : Sight) → Covers v → passes (continues k) (scout 0 v.place) ≡ false → is_field k (scout 0 v.place) (scout 1 v.place) ≡ false → sight (rest k) v ≡ (plain kind.MathFieldAccess, saw 2 v)
rest-end k v h e f = at-stop v.place.before v.place.ahead v.reach v.least h e f
  where
    at-stop : (b a : List ℕ) (r l : ℕ) → Covers (record { place = place b a; reach = r; least = l }) → passes (continues k) (slice_get a 0) ≡ false → is_field k (slice_get a 0) (slice_get a 1) ≡ false
        → sight (rest k) (record { place = place b a; reach = r; least = l }) ≡ (plain kind.MathFieldAccess, saw 2 (record { place = place b a; reach = r; least = l }))
    at-stop b [] r l h e f = sight-end (in_fields k) (quoted false) ended b r l h ∙ ap (λ x. (plain kind.MathFieldAccess, x)) (saw-at-end b r l)
    at-stop b (c ∷ a) r l h e f =
        sight-turn (in_fields k) (quoted false) ended c b a r l leave (stop-asks k c b a e ∙ ap (λ t. if t then go (quoted true) else leave) f) h
        ∙ ap (λ x. (plain kind.MathFieldAccess, x)) (stopped k c b a r l h e)

-- a dot and what starts a name are taken
field-on : (k : CharClasses) (c d : ℕ) (b a : List ℕ) (r l : ℕ) → Covers (record { place = place b (c ∷ d ∷ a); reach = r; least = l }) → continues k c ≡ false → is_field k (Some c) (Some d) ≡ true
    → sight (rest k) (record { place = place b (c ∷ d ∷ a); reach = r; least = l }) ≡ sight (rest k) (went 2 (saw 2 (record { place = place b (c ∷ d ∷ a); reach = r; least = l })))
field-on k c d b a r l h e f =
    let v : Sight = record { place = place b (c ∷ d ∷ a); reach = r; least = l } in
    let u = went 1 (saw 2 v) in
    let covered = covers-went 1 (saw 2 v) (covers-saw 2 v h) in
    sight-turn (in_fields k) (quoted false) ended c b (d ∷ a) r l (go (quoted true)) (stop-asks k c b (d ∷ a) e ∙ ap (λ t. if t then go (quoted true) else leave) f) h
    ∙ ap (λ x. sight (eat_span (in_fields k) (quoted true) ended) (went 1 x)) (stopped k c b (d ∷ a) r l h e)
    ∙ sight-turn (in_fields k) (quoted true) ended d (c ∷ b) a u.reach l (go (quoted false)) refl covered
    ∙ ap (λ x. sight (rest k) (went 1 x)) (saw-ahead 1 (saw 1 u) (covers-saw 1 u covered))
    ∙ ap (sight (rest k)) (same-sight _ _ _ _ _ _ refl (omega (arith, far-on 1 c b (d ∷ a), far-next 1 (place b (c ∷ d ∷ a)))) refl)

pub rest-field : (k : CharClasses) (v : Sight) → Covers v → passes (continues k) (scout 0 v.place) ≡ false → is_field k (scout 0 v.place) (scout 1 v.place) ≡ true → sight (rest k) v ≡ sight (rest k) (went 2 (saw 2 v))
rest-field k v h e f = on v.place.before v.place.ahead v.reach v.least h e f
  where
    on : (b a : List ℕ) (r l : ℕ) → Covers (record { place = place b a; reach = r; least = l }) → passes (continues k) (slice_get a 0) ≡ false → is_field k (slice_get a 0) (slice_get a 1) ≡ true
        → sight (rest k) (record { place = place b a; reach = r; least = l }) ≡ sight (rest k) (went 2 (saw 2 (record { place = place b a; reach = r; least = l })))
    on b [] r l h e f = absurd (cc)
    on b (c ∷ []) r l h e f = let bad = and_parts (passes (λ c. c == 46) (Some c)) false f in absurd (cc)
    on b (c ∷ d ∷ a) r l h e f = field-on k c d b a r l h e f

-- ---- the whole

name-by : (k : CharClasses) (v : Sight) (b : Bool) → is_field k (scout 0 v.place) (scout 1 v.place) ≡ b → sight (after_name k) v ≡ (if b then sight (rest k) (went 2 (saw 2 v)) else (plain kind.MathIdent, saw 2 v))
unfolding after_name
name-by k v b e =
    ap (λ t. sight (if t then skip 2 (rest k) else answer (plain kind.MathIdent)) (saw 2 (saw 1 v))) e
    ∙ ap (λ x. sight (if b then skip 2 (rest k) else answer (plain kind.MathIdent)) x) (saw-further v)
    ∙ by b
  where
    by : (b : Bool) → sight (if b then skip 2 (rest k) else answer (plain kind.MathIdent)) (saw 2 v) ≡ (if b then sight (rest k) (went 2 (saw 2 v)) else (plain kind.MathIdent, saw 2 v))
    by true = refl
    by false = refl

pub name-alone : (k : CharClasses) (v : Sight) → is_field k (scout 0 v.place) (scout 1 v.place) ≡ false → sight (after_name k) v ≡ (plain kind.MathIdent, saw 2 v)
name-alone k v e = name-by k v false e

pub name-field : (k : CharClasses) (v : Sight) → is_field k (scout 0 v.place) (scout 1 v.place) ≡ true → sight (after_name k) v ≡ sight (rest k) (went 2 (saw 2 v))
name-field k v e = name-by k v true e

pub stops : (k : CharClasses) (v w : Sight) → w ≡ went_past (continues k) v → passes (continues k) (scout 0 w.place) ≡ false
stops k v w e = ap (λ (x : Sight). passes (continues k) (scout 0 x.place)) e ∙ past-stops (continues k) v.place

-- fewer characters are ahead after a field
pub field-shortens : (k : CharClasses) (v w : Sight) → is_field k (scout 0 v.place) (scout 1 v.place) ≡ true → w ≡ went_past (continues k) (went 2 (saw 2 v)) → length w.place.ahead < length v.place.ahead
field-shortens k v w e f =
    let u = moved 2 v.place in
    omega (arith, ap (λ (x : Sight). length x.place.ahead) f, moved-less (prefix_len (continues k) u.ahead) u.before u.ahead, shorter v.place.before v.place.ahead e)
  where
    shorter : (b a : List ℕ) → is_field k (slice_get a 0) (slice_get a 1) ≡ true → length (moved_from 2 b a).ahead < length a
    shorter b a e = grind arith
