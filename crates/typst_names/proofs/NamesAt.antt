-- One name more of those that may stand at a byte.
use Rattle.typst_names.proofs.Cited.{◌≡◌, ℕ, ◌+◌, ◌<◌, ◌≤◌, true, false, List, length, drop, get_or, Option, None, Some, ap, sym, ◌∙◌, arith, option_or, drop_all, drop_more, first_holding, if_ends, last_ending, name_at, holds, Name}

or_none : (p : Option ℕ) → option_or p None ≡ p
or_none p = grind arith

or_either : (p q r : Option ℕ) → option_or (option_or p q) r ≡ option_or p (option_or q r)
or_either p q r = grind arith

-- what is found among names, where a name before them ends at the byte
abbrev pub among : ℕ → ℕ → List Name → Option ℕ → Option ℕ
among b i ns before = option_or (first_holding b i ns) (option_or (last_ending b i ns) before)

pub at_start : (b : ℕ) (ns : List Name) → among b 0 ns None ≡ name_at ns b
at_start b ns = ap (option_or (first_holding b 0 ns)) (or_none (last_ending b 0 ns))

pub at_holding : (b i : ℕ) (ns : List Name) (d : Name) (before all : Option ℕ) → i < length ns → holds b (get_or ns i d).range ≡ true → among b i (drop i ns) before ≡ all → Some i ≡ all
at_holding b i ns d before all l e so_far = grind (arith, drop_more)

pub at_step : (b i : ℕ) (ns : List Name) (d : Name) (before later all : Option ℕ) → i < length ns → holds b (get_or ns i d).range ≡ false → later ≡ option_or (if_ends b i (get_or ns i d)) before → among b i (drop i ns) before ≡ all → among b (i + 1) (drop (i + 1) ns) later ≡ all
at_step b i ns d before later all l e ends so_far = grind (arith, or_either, drop_more)

pub at_end : (b i : ℕ) (ns : List Name) (before all : Option ℕ) → length ns ≤ i → among b i (drop i ns) before ≡ all → before ≡ all
at_end b i ns before all l so_far = ap (λ ms. among b i ms before) (sym (drop_all i ns l)) ∙ so_far
