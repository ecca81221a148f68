-- Two lists of numbers that begin alike and end alike: those that were sent, and those of the present tokens.
use Rattle.typst_server.proofs.Cited.{◌≡◌, ℕ, ◌+◌, ◌-◌, ◌≤◌, List, ◌++◌, length, take, drop, refl, ap, sym, ◌∙◌, arith, append_assoc, length-append, take-append-drop, drop-drop, take-take, take_at, drop_at, drop_all, SameEnds}

take_less : (xs ys : List ℕ) (f g : ℕ) → f ≤ g → take g xs ≡ take g ys → take f xs ≡ take f ys
take_less xs ys f g le e = sym (take-take f g xs le) ∙ (ap (take f) e ∙ take-take f g ys le)

drop_less : (xs ys : List ℕ) (b c : ℕ) → b ≤ c → c ≤ length xs → c ≤ length ys → drop (length xs - c) xs ≡ drop (length ys - c) ys → drop (length xs - b) xs ≡ drop (length ys - b) ys
drop_less xs ys b c le one two e =
    let here : length xs - c + (c - b) ≡ length xs - b = omega (arith, le, one) in
    let there : length ys - c + (c - b) ≡ length ys - b = omega (arith, le, two) in
    sym (drop-drop (c - b) (length xs - c) xs ∙ ap (λ n. drop n xs) here) ∙ (ap (drop (c - b)) e ∙ (drop-drop (c - b) (length ys - c) ys ∙ ap (λ n. drop n ys) there))

-- fewer are the same too
pub ends_less : (old new : List ℕ) (f b g c : ℕ) → g ≤ f → c ≤ b → SameEnds old new f b → SameEnds old new g c
ends_less old new f b g c low high w = grind (arith, take_less, drop_less)

-- and from one list to the next
pub ends_both : (old mid new : List ℕ) (f b : ℕ) → SameEnds old mid f b → SameEnds mid new f b → SameEnds old new f b
ends_both old mid new f b v w = grind arith

rear : (xs ys : List ℕ) → drop (length (xs ++ ys) - length ys) (xs ++ ys) ≡ ys
rear xs ys = drop_at xs ys (length (xs ++ ys) - length ys) (omega (arith, length-append xs ys))

-- lists whose middles differ
pub ends_of : (old new front middle other back : List ℕ) → old ≡ front ++ (middle ++ back) → new ≡ front ++ (other ++ back) → SameEnds old new (length front) (length back)
ends_of old new front middle other back e f =
    let parts : old ≡ (front ++ middle) ++ back = e ∙ sym (append_assoc front middle back) in
    let other_parts : new ≡ (front ++ other) ++ back = f ∙ sym (append_assoc front other back) in
    grind (arith, length-append, take_at, rear)

-- what is between the ends of the new list, put in the place of what is between those of the old one, makes the new one
pub ends_made : (old new : List ℕ) (f b : ℕ) → f + b ≤ length new → SameEnds old new f b → take f old ++ (take (length new - f - b) (drop f new) ++ drop (length old - b) old) ≡ new
ends_made old new f b fits w =
    let size : ℕ = length new - f - b in
    let there : f + size ≡ length new - b = omega (arith, fits) in
    let rest : drop (length new - b) new ≡ drop size (drop f new) = sym (drop-drop size f new ∙ ap (λ n. drop n new) there) in
    grind (arith, take-append-drop)

-- of one list both ends are the same, and of any two that many numbers: none
pub ends_itself : (xs : List ℕ) (n : ℕ) → n ≤ length xs → SameEnds xs xs n n
ends_itself xs n le = record { first = refl; last = refl; front_old = le; front_new = le; back_old = le; back_new = le }

pub no_ends : (old new : List ℕ) → SameEnds old new 0 0
no_ends old new = grind (arith, drop_all)
