use Rattle.typst_candidates.proofs.Cited.{common_steps, ◌≡◌, ℕ, suc, ◌+◌, ◌-◌, ◌≤◌, ◌%◌, ◌^◌, ◌++◌, List, length, take, drop, length-take-le, ap, sym, ◌∙◌, arith, rules, Entry, Packed, end_of, Held, lengths, spans, unpacked, wides}
use Rattle.std.proofs.lemmas.List.{length-append, take-append-le}
use Rattle.typst_candidates.proofs.Tallies.{fewer}
use Rattle.typst_candidates.proofs.Rounds.{both-between}
use Rattle.typst_candidates.proofs.Spans.{Between, between}
use Rattle.typst_candidates.proofs.Words.{few, put-entries, put-kept, unpacked-length, wides-take}
use Rattle.typst_candidates.proofs.entries.Entries.put.Goals as goal
use Rattle.typst_candidates.proofs.entries.Entries.put.Goals.{After-beside, After-deref, After-replace-2}

-- the last entry that goes has a word
upto : (c : After-deref) → c.args.to + 1 ≤ length c.self.inside.words.items
upto c =
    omega (arith, ap (λ (h : Held). length h.entries) c.self.view_is, unpacked-length c.self.inside.words.items c.self.inside.wide.items c.self.invariant.0)

-- how many entries are beside the words up to the first that goes, and beside those that go
record Counted (ps : List Packed) (ws : List Entry) (from to first mid : ℕ) : Type 0 where
  upto : to + 1 ≤ length ps
  first_is : first ≡ wides (take (from + 1) ps)
  mid_is : mid ≡ wides (take ((to + 1) - (from + 1)) (drop (from + 1) ps))
  last_is : first + mid ≡ wides (take (to + 1) ps)
  within : first + mid ≤ length ws
  small : first + mid ≤ to + 1
  bytes : Between ps ws (from + 1) (to + 1)

counted : (c : After-beside) → c.args.to + 1 ≤ length c.self.inside.words.items → Counted c.self.inside.words.items c.self.inside.wide.items c.args.from c.args.to c.passed_at-first.result c.beside.result
counted c all =
    let b = between c.self.inside.words.items c.self.inside.wide.items (c.args.from + 1) (c.args.to + 1) (omega arith) all c.self.invariant.0 in
    grind (arith, common_steps, wides-take, few)

pub slice_bounds-between-end : goal.slice_bounds-between-end
slice_bounds-between-end c = let same = ap length c.deref.ensures.value in let all = upto (goal.at.slice_bounds-between-end c).After-deref in omega (arith, same, all)

pub passed_at-first-requires-clause-within : goal.passed_at-first-requires-clause-within
passed_at-first-requires-clause-within c =
    omega (arith, ap length c.deref-2.ensures.value, upto (goal.at.passed_at-first-requires-clause-within c).After-deref)

pub overflow_add-last : goal.overflow_add-last
overflow_add-last c = let k = counted (goal.at.overflow_add-last c).After-beside (upto (goal.at.overflow_add-last c).After-deref) in let small = k.small in let all = k.upto in omega (arith, small, all)

pub offset_bounds-deref-first : goal.offset_bounds-deref-first
offset_bounds-deref-first c =
    let within = (counted (goal.at.offset_bounds-deref-first c).After-beside (upto (goal.at.offset_bounds-deref-first c).After-deref)).within in
    let there : c.passed_at-first.result ≤ length c.deref-3.result.now = omega (arith, within, ap length c.deref-3.ensures.value) in
    search rules

pub slice_bounds-lengths-end : goal.slice_bounds-lengths-end
slice_bounds-lengths-end c =
    let within = (counted (goal.at.slice_bounds-lengths-end c).After-beside (upto (goal.at.slice_bounds-lengths-end c).After-deref)).within in
    omega (arith, within, ap length c.deref-3.ensures.value)

pub replace-requires-clause-within : goal.replace-requires-clause-within
replace-requires-clause-within c = upto (goal.at.replace-requires-clause-within c).After-deref

pub replace-requires-clause-room : goal.replace-requires-clause-room
replace-requires-clause-room c = grind (arith, unpacked-length)

pub replace-requires-2-clause-within : goal.replace-requires-2-clause-within
replace-requires-2-clause-within c = (counted (goal.at.replace-requires-2-clause-within c).After-beside (upto (goal.at.replace-requires-2-clause-within c).After-deref)).within

words : (c : After-replace-2) → c.replace.new.items.items ≡ take (c.args.from + 1) c.self.inside.words.items ++ (c.part.inside.words.items ++ drop (c.args.to + 1) c.self.inside.words.items)
words c = c.replace.ensures ∙ ap (λ us. take (c.args.from + 1) c.self.inside.words.items ++ (us ++ drop (c.args.to + 1) c.self.inside.words.items)) c.deref-4.ensures.value

besides : (c : After-replace-2) → Counted c.self.inside.words.items c.self.inside.wide.items c.args.from c.args.to c.passed_at-first.result c.beside.result → c.replace-2.new.items.items
    ≡ take (wides (take (c.args.from + 1) c.self.inside.words.items)) c.self.inside.wide.items ++ (c.part.inside.wide.items ++ drop (wides (take (c.args.to + 1) c.self.inside.words.items)) c.self.inside.wide.items)
besides c k = grind (arith, words)

pub invariant_of-self : goal.invariant_of-self
invariant_of-self c =
    let ps = c.self.inside.words.items in
    let front = take (c.args.from + 1) ps in
    let rest = c.part.inside.words.items ++ drop (c.args.to + 1) ps in
    let all = upto (goal.at.invariant_of-self c).After-deref in
    let done = (goal.at.invariant_of-self c).After-replace-2 in
    let few_beside = counted (goal.at.invariant_of-self c).After-beside all in
    let few = length-take-le (c.args.from + 1) ps (omega (arith, all)) in
    let same : take (c.args.from + 1) c.replace.new.items.items ≡ front = ap (take (c.args.from + 1)) (words done) ∙ take-append-le (c.args.from + 1) front rest (omega (arith, few)) ∙ sym (fewer (c.args.from + 1) (c.args.from + 1) ps (omega arith)) in
    let both = length-append front rest in (
      ap wides (words done)
          ∙ put-kept ps c.part.inside.words.items c.self.inside.wide.items c.part.inside.wide.items (c.args.from + 1) (c.args.to + 1) (omega arith) all c.self.invariant.0 c.part.invariant.0
          ∙ sym (ap length (besides done few_beside)),
      c.upto-self-inside.ensures.same ps c.replace.new.items.items c.self.invariant.1 same (omega (arith, few, ap length (words done), both)),
    )

pub returns-clause-entries : goal.returns-clause-entries
returns-clause-entries c =
    let ps = c.self.inside.words.items in
    let qs = c.part.inside.words.items in
    let ws = c.self.inside.wide.items in
    let vs = c.part.inside.wide.items in
    let all = upto (goal.at.returns-clause-entries c).After-deref in
    let done = (goal.at.returns-clause-entries c).After-replace-2 in
    let few_beside = counted (goal.at.returns-clause-entries c).After-beside all in
    let a : c.args.from + 1 ≡ suc c.args.from = omega arith in
    let b : c.args.to + 1 ≡ suc c.args.to = omega arith in
    ap (λ us. unpacked us c.replace-2.new.items.items) (words done)
    ∙ ap (unpacked (take (c.args.from + 1) ps ++ (qs ++ drop (c.args.to + 1) ps))) (besides done few_beside)
    ∙ put-entries ps qs ws vs (c.args.from + 1) (c.args.to + 1) (omega arith) all c.self.invariant.0 c.part.invariant.0
    ∙ ap (λ n. take n (unpacked ps ws) ++ (unpacked qs vs ++ drop (c.args.to + 1) (unpacked ps ws))) a
    ∙ ap (λ n. take (suc c.args.from) (unpacked ps ws) ++ (unpacked qs vs ++ drop n (unpacked ps ws))) b
    ∙ ap (λ (h : Held). take (suc c.args.from) h.entries ++ (unpacked qs vs ++ drop (suc c.args.to) h.entries)) c.self.view_is
    ∙ ap (λ (h : Held). take (suc c.args.from) c.args.self.now.entries ++ (h.entries ++ drop (suc c.args.to) c.args.self.now.entries)) c.part.view_is

pub returns-clause-gone : goal.returns-clause-gone
returns-clause-gone c =
    let ps = c.self.inside.words.items in
    let ws = c.self.inside.wide.items in
    let n = counted (goal.at.returns-clause-gone c).After-beside (upto (goal.at.returns-clause-gone c).After-deref) in
    let k = (c.args.to + 1) - (c.args.from + 1) in
    let few_words = take k (drop (c.args.from + 1) ps) in
    let fewer = take (wides few_words) (drop (wides (take (c.args.from + 1) ps)) ws) in
    let words_is : c.spans.result ≡ spans few_words % 2 ^ 64 = c.spans.ensures ∙ ap (λ us. spans (take k (drop (c.args.from + 1) us)) % 2 ^ 64) c.deref.ensures.value in
    let f = c.passed_at-first.result in
    let count : (f + c.beside.result) - f ≡ wides few_words = omega arith in
    let wide_is : c.lengths.result ≡ lengths fewer % 2 ^ 64 =
    c.lengths.ensures
    ∙ ap (λ us. lengths (take ((f + c.beside.result) - f) (drop f us)) % 2 ^ 64) c.deref-3.ensures.value
    ∙ ap (λ m. lengths (take m (drop f ws)) % 2 ^ 64) count
    ∙ ap (λ m. lengths (take (wides few_words) (drop m ws)) % 2 ^ 64) n.first_is in
    let one : c.args.from + 1 ≡ suc c.args.from = omega arith in
    let two : c.args.to + 1 ≡ suc c.args.to = omega arith in
    let front = end_of 0 (take (c.args.from + 1) (unpacked ps ws)) in
    let from_is : end_of 0 (take (suc c.args.from) c.args.self.now.entries) ≡ front =
    sym (ap (λ n. end_of 0 (take n (unpacked ps ws))) one ∙ ap (λ (h : Held). end_of 0 (take (suc c.args.from) h.entries)) c.self.view_is) in
    let to_is : end_of 0 (take (c.args.to + 1) (unpacked ps ws)) ≡ end_of 0 (take (suc c.args.to) c.args.self.now.entries) =
    ap (λ n. end_of 0 (take n (unpacked ps ws))) two ∙ ap (λ (h : Held). end_of 0 (take (suc c.args.to) h.entries)) c.self.view_is in
    ap (λ n. (n + (c.spans.result + c.lengths.result) % 2 ^ 64) % 2 ^ 64) from_is
    ∙ ap (λ n. (front + (n + c.lengths.result) % 2 ^ 64) % 2 ^ 64) words_is
    ∙ ap (λ n. (front + (spans few_words % 2 ^ 64 + n) % 2 ^ 64) % 2 ^ 64) wide_is
    ∙ both-between front (end_of 0 (take (c.args.to + 1) (unpacked ps ws))) (spans few_words) (lengths fewer) n.bytes.bytes
    ∙ ap (λ n. n % 2 ^ 64) to_is
