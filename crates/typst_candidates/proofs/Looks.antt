-- What the numbers of records decide.
use Rattle.typst_candidates.proofs.Cited.{◌≡◌, ℕ, suc, ◌+◌, ◌-◌, ◌≤◌, ◌<◌, ◌↔◌, max, nat_le, Bool, true, if◌then◌else◌, List, [], ◌∷◌, ◌++◌, length, refl, ap, sym, subst, arith, nat_tests, Note, Entry, back_of, entry_of, entries_by, last_start, front_of, is_after, rear_of, IsRising, AllEnd, AllBegin, FrontLaw, RearLaw}

-- the token of a note begins where its entry says
here-is : (start : ℕ) (n : Note) → start ≤ n.before → n.before ≤ n.start → (start + (n.before - start)) + (n.start - n.before) ≡ n.start
here-is start n a b = omega arith

-- ---- the front

pub step-front : (at start : ℕ) (n : Note) (es : List Entry) → start ≤ n.before → n.before ≤ n.start
    → front_of at start (entry_of start n ∷ es) ≡ (if nat_le (n.start + (n.reach - n.start)) at then suc (front_of at n.start es) else 0)
step-front at start n es a b = ap (λ here. if nat_le (here + (n.reach - n.start)) at then suc (front_of at here es) else 0) (here-is start n a b)

-- a note's token begins no earlier than that of one before it
rises : (start : ℕ) (ns more : List Note) (n : Note) → IsRising start (ns ++ n ∷ more) → start ≤ n.start
rises start [] more n r = omega arith
rises start (m ∷ ns) more n r = omega (arith, rises m.start ns more n r.2)

counted : (at reach start rest : ℕ) (b : Bool) → nat_le (start + (reach - start)) at ≡ b → start ≤ at → (n : ℕ) → (n < (if b then suc rest else 0) ↔ (reach ≤ at) × (n ≤ rest))
counted at reach start rest b e s n = (λ h. grind (arith, nat_tests), λ h. grind (arith, nat_tests))

front-by : (ns more : List Note) (n : Note) (at start : ℕ) → IsRising start (ns ++ n ∷ more) → n.start ≤ at
    → (length ns < front_of at start (entries_by start (ns ++ n ∷ more)) ↔ AllEnd at (ns ++ n ∷ []))
front-by [] more n at start r h = grind arith
front-by (m ∷ ns) more n at start r h =
    let e = step-front at start m (entries_by m.start (ns ++ n ∷ more)) r.0 r.1 in
    let here : m.start ≤ at = omega (arith, rises m.start ns more n r.2) in
    let c = counted at m.reach m.start (front_of at m.start (entries_by m.start (ns ++ n ∷ more))) _ refl here (suc (length ns)) in
    let i = front-by ns more n at m.start r.2 h in
    ((λ l. (let d = c.0 (subst (λ j. suc (length ns) < j) e l) in (d.0, i.0 d.1))), (λ a. subst (λ j. suc (length ns) < j) (sym e) (c.1 (a.0, i.1 a.1))))

pub front-law : FrontLaw
front-law ns more n at r h = front-by ns more n at 0 r h

-- ---- the rear

-- after a token at a byte or after it looks begin after the byte just where their number is greater
after-is : (at start least : ℕ) → at ≤ start → (is_after at start (back_of start least) ≡ true ↔ at < least)
after-is at start least h = (λ e. grind (arith, nat_tests), λ l. grind (arith, nat_tests))

-- a number that stands for a look that begins too early is more than so many
passes : (b : Bool) (number c : ℕ) → c < number → ((if b then 0 else number) ≤ c ↔ b ≡ true)
passes b number c l = (λ h. grind arith, λ h. grind arith)

step-rear : (at start number : ℕ) (n : Note) (es : List Entry) (back : ℕ) → start ≤ n.before → n.before ≤ n.start
    → rear_of at start number (entry_of start n ∷ es) back ≡ max (if is_after at start (back_of start n.least) then 0 else number) (rear_of at n.start (suc number) es back)
step-rear at start number n es back a b = ap (λ here. max (if is_after at start (back_of start n.least) then 0 else number) (rear_of at here (suc number) es back)) (here-is start n a b)

tail-by : (more : List Note) (at least start number c : ℕ) → c < number → at ≤ start → IsRising start more
    → (rear_of at start number (entries_by start more) (back_of (last_start start more) least) ≤ c ↔ AllBegin at more least)
tail-by [] at least start number c l h r = grind arith
tail-by (n ∷ more) at least start number c l h r =
    let before = r.0 in
    let there = r.1 in
    let e = step-rear at start number n (entries_by n.start more) (back_of (last_start n.start more) least) before there in
    let w = if is_after at start (back_of start n.least) then 0 else number in
    let rest = rear_of at n.start (suc number) (entries_by n.start more) (back_of (last_start n.start more) least) in
    let p = passes (is_after at start (back_of start n.least)) number c l in
    let b = after-is at start n.least h in
    let i = tail-by more at least n.start (suc number) c (omega (arith, l)) (omega (arith, h, before, there)) r.2 in
    grind arith

small : (b : Bool) (number c : ℕ) → number ≤ c → (if b then 0 else number) ≤ c
small b number c h = grind arith

rear-by : (ns more : List Note) (n : Note) (at least start number : ℕ) → IsRising start (ns ++ n ∷ more) → at ≤ n.start
    → (rear_of at start number (entries_by start (ns ++ n ∷ more)) (back_of (last_start start (ns ++ n ∷ more)) least) ≤ number + length ns ↔ AllBegin at more least)
rear-by [] more n at least start number r h =
    let e = step-rear at start number n (entries_by n.start more) (back_of (last_start n.start more) least) r.0 r.1 in
    let w = if is_after at start (back_of start n.least) then 0 else number in
    let rest = rear_of at n.start (suc number) (entries_by n.start more) (back_of (last_start n.start more) least) in
    let few = small (is_after at start (back_of start n.least)) number (number + 0) (omega arith) in
    let i = tail-by more at least n.start (suc number) (number + 0) (omega arith) h r.2 in
    grind arith
rear-by (m ∷ ns) more n at least start number r h =
    let rest = ns ++ n ∷ more in
    let back = back_of (last_start m.start rest) least in
    let e = step-rear at start number m (entries_by m.start rest) back r.0 r.1 in
    let w = if is_after at start (back_of start m.least) then 0 else number in
    let later = rear_of at m.start (suc number) (entries_by m.start rest) back in
    let few = small (is_after at start (back_of start m.least)) number (number + suc (length ns)) (omega arith) in
    let i = rear-by ns more n at least m.start (suc number) r.2 h in
    grind arith

pub rear-law : RearLaw
rear-law ns more n at least r h = let i = rear-by ns more n at least 0 0 r h in ((λ m. i.0 (omega (arith, m))), (λ m. let j = i.1 m in omega (arith, j)))
