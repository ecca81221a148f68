-- Addresses of one document are the same to any other one.
use Rattle.typst_protocol.proofs.Cited.{◌≡◌, ℕ, List, true, ap, sym, bytes_eq, is_same}
use Rattle.std.proofs.lemmas.Slice.Eq.{bytes_eq-Decides}
use Rattle.percent_encoding.specs.Percent.{percent_decode}

-- on the left
pub same-as : (a b c : List ℕ) → is_same a b ≡ true → is_same a c ≡ is_same b c
same-as a b c h = ap (λ t. bytes_eq t (percent_decode c)) ((bytes_eq-Decides (percent_decode a) (percent_decode b)).0 h)

-- on the right
pub same-with : (a b c : List ℕ) → is_same a b ≡ true → is_same c b ≡ is_same c a
same-with a b c h = ap (λ t. bytes_eq (percent_decode c) t) (sym ((bytes_eq-Decides (percent_decode a) (percent_decode b)).0 h))
