-- Numbers of tokens that grow token by token.
use Rattle.typst_server.proofs.Cited.{◌≡◌, ℕ, suc, ◌+◌, ◌-◌, ◌<◌, ◌≤◌, List, ◌∷◌, ◌++◌, length, drop, get_or, take, Some, ap, sym, subst, ◌∙◌, append_assoc, arith, slice_get, drop_more, get_or_from_slice_get, Token, Opened, IsAdded, Shown, encoded, shown, shown_each}
use Rattle.typst_server.specs.declared.tokens.Encoder.{Encoder}

-- the numbers of a token that was added stand before the others
added-more : (old new : Encoder) (s : Shown) (rest : List Shown) (all : List ℕ) → IsAdded old new s → old.numbers.items ++ encoded old.line old.column (s ∷ rest) ≡ all → new.numbers.items ++ encoded new.line new.column rest ≡ all
added-more old new s rest all added so_far = grind (arith, append_assoc)

-- one token more is added
pub token-added : (document : Opened) (ts : List Token) (i end : ℕ) (t : Token) (old new : Encoder) (all : List ℕ) → i < end → end ≤ length ts → old.walk ≡ document → slice_get ts i ≡ Some t → IsAdded old new (shown old.walk.encoding old.walk.source.text t)
    → old.numbers.items ++ encoded old.line old.column (shown_each document.encoding document.source.text (take (end - i) (drop i ts))) ≡ all
    → new.numbers.items ++ encoded new.line new.column (shown_each document.encoding document.source.text (take (end - (i + 1)) (drop (i + 1) ts))) ≡ all
token-added document ts i end t old new all more within walk is added so_far =
    let s : Shown = shown document.encoding document.source.text t in
    let rest : List Shown = shown_each document.encoding document.source.text (take (end - (i + 1)) (drop (i + 1) ts)) in
    let left : end - i ≡ suc (end - (i + 1)) = omega (arith, more) in
    let token : get_or ts i t ≡ t = get_or_from_slice_get ts i t t is in
    let ahead : drop i ts ≡ t ∷ drop (i + 1) ts = drop_more ts i t (omega (arith, more, within)) ∙ ap (λ u. u ∷ drop (i + 1) ts) token in
    let parts : shown_each document.encoding document.source.text (take (end - i) (drop i ts)) ≡ s ∷ rest =
    (λ k. shown_each document.encoding document.source.text (take (left k) (ahead k))) in
    let here : IsAdded old new s = subst (λ (o : Opened). IsAdded old new (shown o.encoding o.source.text t)) walk added in
    added-more old new s rest all here (ap (λ ss. old.numbers.items ++ encoded old.line old.column ss) (sym parts) ∙ so_far)
