-- From the mask of one load to the bytes that pass a test.
use Rattle.typst_lines.proofs.Cited.{◌≡◌, ℕ, ◌+◌, ◌%◌, ◌^◌, ◌≤◌, ◌-◌, Bool, true, not, cond, nat_le, List, [], ◌∷◌, map, length, take, drop, slice_range, get_or, Fits, w8, replicate, refl, sym, ap, ◌∙◌, arith, agree_below, agree_below_at, not-true, not-false, length-map, length-take, map-map, mask_l-mod, length-chunk, chunk-fits, ones-mask_l, zip2_of_maps, zip2_splat, zip2_splat_left, first_set_mask_l, run_in_chunk_le, run_in_chunk_fails, run_in_chunk_stops, is_plain_byte, IsPlainFront, first_set, chars_begun, units_begun, chunk, mask_l, top, zip2, Each1, sum_by-cons, count_by-le-length}
use Rattle.std.specs.List.{prefix_len, count_by, sum_by}
use lib.Count.{ones}

-- an operation on two vectors that were computed lane by lane from v, or on v and a splat
module _ (h : ℕ → ℕ → ℕ) (v : List ℕ) where
  pub joined : (f g : ℕ → ℕ) {a b : List ℕ} → a ≡ map f v → b ≡ map g v → zip2 h a b ≡ map (λ x. h (f x) (g x)) v
  joined f g p q = zip2_of_maps h f g v p q

  pub with_splat : (n y : ℕ) → length v ≡ n → zip2 h v (replicate n y) ≡ map (λ x. h x y) v
  with_splat n y long = zip2_splat h v n y long

  pub onto_splat : (n y : ℕ) → length v ≡ n → zip2 h (replicate n y) v ≡ map (λ x. h y x) v
  onto_splat n y long = zip2_splat_left h y n v long

module _ (d : List ℕ) (i n r : ℕ) (z : List ℕ) (room : i + n ≤ length d) (few : n ≤ 64) (fits : (k : ℕ) → Fits w8 (get_or d k 0))
    (found : r ≡ first_set (mask_l (map (top 7) z) % 2 ^ 64) n) (f : ℕ → ℕ) (lanes : z ≡ map f (chunk i n d)) where
  abbrev stops : ℕ → Bool
  stops x = top 7 (f x)

  counted : r ≡ prefix_len (λ x. not (stops x)) (chunk i n d)
  counted =
      let v = chunk i n d in
      let long = length-chunk i n d room in
      let mask = ap (λ l. mask_l l % 2 ^ 64) (ap (map (top 7)) lanes ∙ map-map (top 7) f v) ∙ mask_l-mod (map stops v) 64 (omega (arith, length-map v stops, long)) in
      found ∙ ap (λ m. first_set m n) mask ∙ first_set_mask_l stops v n long few

  -- a lane stops just where a byte isn't plain
  pub plain_front : agree_below stops (λ x. not (is_plain_byte x)) 256 ≡ true → IsPlainFront d i n r
  plain_front all =
      record {
        within = run_in_chunk_le stops d i n r 0 room counted;
        plain = λ k from to. not-false _ (sym (agree_below_at stops (λ x. not (is_plain_byte x)) 256 (get_or d k 0) all (fits k).fits) ∙ run_in_chunk_fails stops d i n r 0 room counted k from to);
        stops = λ short. not-true _ (sym (agree_below_at stops (λ x. not (is_plain_byte x)) 256 (get_or d (i + r) 0) all (fits (i + r)).fits) ∙ run_in_chunk_stops stops d i n r 0 room counted short);
      }

count-same : (p q : ℕ → Bool) → agree_below p q 256 ≡ true → (xs : List ℕ) → Each1 (Fits w8) xs → count_by p xs ≡ count_by q xs
count-same p q all [] e = refl
count-same p q all (x ∷ xs) e =
    omega (arith, sum_by-cons (λ y. cond (p y) 1 0) x xs, sum_by-cons (λ y. cond (q y) 1 0) x xs, ap {B = ℕ} (λ b. cond b 1 0) (agree_below_at p q 256 x all e.0.fits), count-same p q all xs e.1)

-- the lanes that are set, just where a byte passes p
pub lanes-counted : (p : ℕ → Bool) (d : List ℕ) (i n : ℕ) (z : List ℕ) → i + n ≤ length d → n ≤ 64 → ((k : ℕ) → Fits w8 (get_or d k 0)) → (f : ℕ → ℕ) → z ≡ map f (chunk i n d)
    → agree_below (λ x. top 7 (f x)) p 256 ≡ true → ones (mask_l (map (top 7) z) % 2 ^ 64) ≡ count_by p (slice_range d i (i + n))
lanes-counted p d i n z room few fits f lanes all =
    let v = chunk i n d in
    let set = λ (x : ℕ). top 7 (f x) in
    let mask = ap (λ l. mask_l l % 2 ^ 64) (ap (map (top 7)) lanes ∙ map-map (top 7) f v) ∙ mask_l-mod (map set v) 64 (omega (arith, length-map v set, length-chunk i n d room)) in
    let size : n ≡ i + n - i = omega arith in
    ap ones mask ∙ ones-mask_l set v ∙ count-same set p all v (chunk-fits w8 i n d fits) ∙ ap (λ k. count_by p (take k (drop i d))) size

-- both parts of the units that begin in bytes
pub units-parts : (xs : List ℕ) → sum_by units_begun xs ≡ sum_by chars_begun xs + count_by (λ b. nat_le 240 b) xs
units-parts [] = refl
units-parts (x ∷ xs) =
    omega (arith, sum_by-cons units_begun x xs, sum_by-cons chars_begun x xs, sum_by-cons (λ b. cond (nat_le 240 b) 1 0) x xs, units-parts xs)

pub count-small : (p : ℕ → Bool) (d : List ℕ) (i n : ℕ) → count_by p (slice_range d i (i + n)) ≤ n
count-small p d i n = omega (arith, count_by-le-length p (slice_range d i (i + n)), length-take (i + n - i) (drop i d))
