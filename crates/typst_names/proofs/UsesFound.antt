-- One name more of those that may use a binding.
use Rattle.typst_names.proofs.Cited.{◌≡◌, ℕ, Bool, true, false, ◌+◌, ◌-◌, ◌<◌, ◌≤◌, List, [], ◌∷◌, ◌++◌, length, take, drop, max, get_or, refl, ap, sym, ◌∙◌, arith, append_assoc, add-one, nat_tests, drop_more, take_more, hidden, hides, hides_up_to, last_hiding, means, stands_if, uses, Name}
use Rattle.std.specs.Prelude.{Some, if◌then◌else◌, nat_lt, slice_get}
use Rattle.std.proofs.lemmas.Option.{slice_get-get_or}
use Rattle.typst_names.specs.declared.bindings.Occurrence.{Occurrence}
use Rattle.typst_names.specs.declared.bindings.OccurrenceKind.TheVariants as stands

pub hidden_push : (text w : List ℕ) (ns : List Name) (n : Name) → hidden text w (ns ++ n ∷ []) ≡ max (hidden text w ns) (hides_up_to text w n)
hidden_push text w [] n = omega arith
hidden_push text w (m ∷ ns) n = omega (arith, hidden_push text w ns n)

-- one name more was looked at
use_more : (text w : List ℕ) (u i : ℕ) (ns : List Name) (n : Name) → i < length ns → n ≡ get_or ns i n
    → uses text w u (take i ns) (drop i ns) ≡ stands_if (means text w u (hidden text w (take i ns)) n) stands.Use n ++ uses text w u (take (i + 1) ns) (drop (i + 1) ns)
use_more text w u i ns n l e = grind (arith, drop_more, take_more)

-- a name that is there is read the same whatever stands for one that isn't
read_same : (ns : List Name) (i : ℕ) (d : Name) → i < length ns → get_or ns i d ≡ get_or ns i (get_or ns i d)
read_same ns i d l = let e : Some (get_or ns i d) ≡ Some (get_or ns i (get_or ns i d)) = sym (slice_get-get_or ns i d l) ∙ slice_get-get_or ns i (get_or ns i d) l in cc

pub uses_step : (text w : List ℕ) (u i h : ℕ) (ns : List Name) (d : Name) (old new all : List Occurrence) (b : Bool) → i < length ns → new ≡ old ++ stands_if b stands.Use (get_or ns i d) → b ≡ means text w u h (get_or ns i d)
    → h ≡ hidden text w (take i ns) → old ++ uses text w u (take i ns) (drop i ns) ≡ all → new ++ uses text w u (take (i + 1) ns) (drop (i + 1) ns) ≡ all
uses_step text w u i h ns d old new all b l added is so_far before = grind (arith, append_assoc, use_more, read_same)

pub hidden_step : (text w : List ℕ) (i h x m : ℕ) (ns : List Name) (d : Name) → i < length ns → m ≡ max h x → x ≡ hides_up_to text w (get_or ns i d) → h ≡ hidden text w (take i ns) → m ≡ hidden text w (take (i + 1) ns)
hidden_step text w i h x m ns d l most is so_far =
    let n : Name = get_or ns i d in
    let front : take (i + 1) ns ≡ take i ns ++ n ∷ [] = take_more ns i d l in
    most ∙ ap (λ k. max k x) so_far ∙ ap (max (hidden text w (take i ns))) is ∙ sym (ap (hidden text w) front ∙ hidden_push text w (take i ns) n)

-- ---- the last name that hides those before it

last_step : (text w : List ℕ) (b n k : ℕ) (names : List Name) → n ≡ k + 1 → last_hiding text w b names n ≡ (if hides text w b (slice_get names k) then Some k else last_hiding text w b names k)
last_step text w b n k names e = rw (e, add-one) refl

hides_is : (text w : List ℕ) (b k x : ℕ) (names : List Name) (d : Name) → k < length names → x ≡ hides_up_to text w (get_or names k d) → hides text w b (slice_get names k) ≡ nat_lt b x
hides_is text w b k x names d l is = ap (hides text w b) (slice_get-get_or names k d l) ∙ ap (nat_lt b) (sym is)

pub last_found : (text w : List ℕ) (b n c x : ℕ) (names : List Name) (d : Name) → 0 < n → n ≤ length names → x ≡ hides_up_to text w (get_or names (n - 1) d) → b < x
    → last_hiding text w b names n ≡ last_hiding text w b names c → Some (n - 1) ≡ last_hiding text w b names c
last_found text w b n c x names d some within is lt same =
    let k : ℕ = n - 1 in
    let e : n ≡ k + 1 = omega (arith, some) in
    let holds : nat_lt b x ≡ true = grind (arith, nat_tests, lt) in
    let hides_it : hides text w b (slice_get names k) ≡ true = hides_is text w b k x names d (omega (arith, some, within)) is ∙ holds in
    sym (last_step text w b n k names e ∙ ap (λ (v : Bool). if v then Some k else last_hiding text w b names k) hides_it) ∙ same

pub last_passed : (text w : List ℕ) (b n c x : ℕ) (names : List Name) (d : Name) → 0 < n → n ≤ length names → x ≡ hides_up_to text w (get_or names (n - 1) d) → x ≤ b
    → last_hiding text w b names n ≡ last_hiding text w b names c → last_hiding text w b names (n - 1) ≡ last_hiding text w b names c
last_passed text w b n c x names d some within is le same =
    let k : ℕ = n - 1 in
    let e : n ≡ k + 1 = omega (arith, some) in
    let fails : nat_lt b x ≡ false = grind (arith, nat_tests, le) in
    let hides_none : hides text w b (slice_get names k) ≡ false = hides_is text w b k x names d (omega (arith, some, within)) is ∙ fails in
    sym (last_step text w b n k names e ∙ ap (λ (v : Bool). if v then Some k else last_hiding text w b names k) hides_none) ∙ same
