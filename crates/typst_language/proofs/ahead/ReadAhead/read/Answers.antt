use Rattle.typst_language.proofs.Cited.{common_steps, ◌≡◌, ◌≤◌, ◌-◌, ◌∙◌, ◌^◌, ◌++◌, ◌∷◌, [], false, ap, sym, refl, subst, arith, place, Scanner, Tree, Hull, token_node, at_trivia, both_newlines, len_at, newlines_of, text_ahead, token_at, joined_hull, token_hull, column_hull, whole_at}
use Rattle.typst_tokens.specs.Token.{plain}
use Rattle.typst_kinds.specs.declared.kind.SyntaxKind.TheVariants as kind
use Rattle.typst_language.proofs.Bytes.{some-bytes}
use Rattle.typst_language.proofs.Fronts.{begins}
use Rattle.typst_language.proofs.Places.{ahead-left}
use Rattle.typst_language.proofs.Trivia.{read-place, len-most, no-trivia, no-more, some-trivia, both-none, lone-is, space-node, Along, along-start, along-next, is-ahead, whole-is, Looking, looking-first, looking-next}
use Rattle.typst_language.proofs.ahead.ReadAhead.read.Goals.{then-not-is_trivia-via-then-not-is_trivia, then-not-is_trivia-via-else-not-is_trivia+then-left}
use Rattle.typst_language.proofs.ahead.ReadAhead.read.Goals as goal

pub tokens-init : goal.tokens-init
tokens-init g c = grind (arith, along-start, looking-first)

pub returns-then-not-is_trivia-clause-read : goal.returns-then-not-is_trivia-clause-read
returns-then-not-is_trivia-clause-read g c =
    let k = g.C.Classes.classes c.args.classes.now in
    let m = c.args.held.mode in
    let z = place c.tokens.start in
    let i = c.tokens.invariant in
    let next = c.in_ok-next in
    let stopped : at_trivia k m z ≡ false = elim c.then-not-is_trivia.branch [
      | then-not-is_trivia-via-then-not-is_trivia w ↦ no-trivia k m z _ _ next.ensures.scans.reads (sym c.is_trivia.ensures ∙ w.if-not-is_trivia.true)
      | then-not-is_trivia-via-else-not-is_trivia+then-left w ↦ no-more k m z _ _ next.ensures.scans.reads (omega (arith, w.left.ensures, w.left-else-not-is_trivia.ensures, w.if-left.true))
    ] in
    is-ahead k c.args.held c.args.self.now.before _ _ i.before refl next.ensures.scans.hull c.judged-kind.ensures.here i.along stopped next.ensures.scans.reads c.judged-kind.ensures.kind i.text next.ensures.scans.same_text (next.ensures.line_text ∙ i.line)

pub returns-then-not-is_trivia-clause-hull : goal.returns-then-not-is_trivia-clause-hull
returns-then-not-is_trivia-clause-hull g c =
    let k = g.C.Classes.classes c.args.classes.now in
    let m = c.args.held.mode in
    let z = place c.tokens.start in
    let i = c.tokens.invariant in
    let next = c.in_ok-next in
    let stopped : at_trivia k m z ≡ false = elim c.then-not-is_trivia.branch [
      | then-not-is_trivia-via-then-not-is_trivia w ↦ no-trivia k m z _ _ next.ensures.scans.reads (sym c.is_trivia.ensures ∙ w.if-not-is_trivia.true)
      | then-not-is_trivia-via-else-not-is_trivia+then-left w ↦ no-more k m z _ _ next.ensures.scans.reads (omega (arith, w.left.ensures, w.left-else-not-is_trivia.ensures, w.if-left.true))
    ] in
    let own : (token_hull k m z).least ≤ 2 ^ 64 - 1 = omega (arith, next.ensures.fits, ap (λ (u : Hull). u.least) next.ensures.scans.hull) in
    let looks = subst (Looking k m (place c.tokens.self.before) z) (sym (c.joined-tokens-in-tokens.ensures ∙ ap (joined_hull c.tokens.tokens) next.ensures.scans.hull)) (i.looks own) in
    c.joined.ensures
    ∙ ap (joined_hull c.joined-tokens-in-tokens.result) (c.judged-kind.ensures.here ∙ ap (column_hull c.args.held c.tokens.newlines z) next.ensures.scans.hull)
    ∙ whole-is k c.args.held c.tokens.newlines c.tokens.trivia.items (place c.tokens.self.before) z _ i.along stopped looks
    ∙ ap (λ (s : Scanner). whole_at k c.args.held (place s)) i.before

pub since-text-requires-clause-after : goal.since-text-requires-clause-after
since-text-requires-clause-after g c =
    let k = g.C.Classes.classes c.args.classes.now in
    let z = place c.tokens.start in
    (len_at k c.args.held.mode z, read-place k c.args.held.mode z _ _ c.in_ok-next.ensures.scans.reads)

pub push_node-requires : goal.push_node-requires
push_node-requires g c =
    let k = g.C.Classes.classes c.args.classes.now in
    let z = place c.tokens.start in
    begins (len_at k c.args.held.mode z) z.ahead _ _ (c.since-text.ensures (len_at k c.args.held.mode z) (read-place k c.args.held.mode z _ _ c.in_ok-next.ensures.scans.reads)) c.after.ensures.characters

pub tokens-smaller : goal.tokens-smaller
tokens-smaller g c =
    let k = g.C.Classes.classes c.args.classes.now in
    let z = place c.tokens.start in
    let l = len_at k c.args.held.mode z in
    let p = read-place k c.args.held.mode z _ _ c.in_ok-next.ensures.scans.reads in
    grind (arith, common_steps, some-bytes, ahead-left, len-most)

pub tokens-preserved : goal.tokens-preserved
tokens-preserved g c =
    let k = g.C.Classes.classes c.args.classes.now in
    let m = c.args.held.mode in
    let z = place c.tokens.start in
    let from = place c.tokens.self.before in
    let i = c.tokens.invariant in
    let next = c.in_ok-next in
    let l = len_at k m z in
    let p = read-place k m z _ _ next.ensures.scans.reads in
    let t = ap (λ q. q.0) next.ensures.scans.reads in
    let at = some-trivia k m z _ _ next.ensures.scans.reads (sym c.is_trivia.ensures ∙ c.if-not-is_trivia.false) (omega (arith, c.left.ensures, c.left-else-not-is_trivia.ensures, c.if-left.false)) in
    let text = c.since-text.ensures l p in
    let node = ap (token_node k next.next.token) text ∙ ap (λ u. token_node k u (text_ahead l z)) (sym t) in
    let items = c.in_ok-push_node.ensures ∙ ap (λ (n : Tree). c.tokens.trivia.items ++ n ∷ []) node in
    let w = place next.next.after in
    let tokens = c.joined-tokens-in-tokens.ensures ∙ ap (joined_hull c.tokens.tokens) next.ensures.scans.hull in
    let own : (token_hull k m z).least ≤ 2 ^ 64 - 1 = omega (arith, next.ensures.fits, ap (λ (u : Hull). u.least) next.ensures.scans.hull) in
    let line = next.ensures.line_text ∙ i.line in
    record {
      before = i.before;
      along = rw (items, c.with_token-newlines.ensures, sym t) (along-next k m c.tokens.newlines c.tokens.trivia.items from z _ _ i.along at p refl);
      text = next.ensures.scans.same_text ∙ i.text;
      line = line;
      looks = λ h. subst (λ u. Looking k m from w (joined_hull u (token_hull k m w))) (sym tokens) (looking-next k m from z w _ (i.looks own) at p);
      stands = λ s. let t = i.stands s in record { start = t.start; after = t.after; start_text = t.start_text; after_text = t.after_text; line_text = line };
    }

pub tokens-smaller-in-Some : goal.tokens-smaller-in-Some
tokens-smaller-in-Some g c = grind (arith, lone-is)

pub tokens-preserved-in-Some : goal.tokens-preserved-in-Some
tokens-preserved-in-Some g c =
    let k = g.C.Classes.classes c.args.classes.now in
    let m = c.args.held.mode in
    let z = place c.tokens.start in
    let from = place c.tokens.self.before in
    let i = c.tokens.invariant in
    let s = c.in-Some.ensures in
    let scans = s.scans k m in
    let w = place c.in-Some.space.after in
    let o = lone-is k m z w _ scans.reads s.space in
    let node = c.in_ok-node.ensures ∙ sym (ap (λ u. token_node k u (text_ahead (len_at k m z) z)) o.token ∙ ap (token_node k (plain kind.Space)) o.text ∙ space-node k) in
    let items = c.in_ok-push.ensures.items ∙ ap (λ (n : Tree). c.tokens.trivia.items ++ n ∷ []) node in
    let tokens = c.joined-tokens.ensures ∙ ap (joined_hull c.tokens.tokens) scans.hull in
    let own : (token_hull k m z).least ≤ 2 ^ 64 - 1 = omega (arith, s.fits, ap (λ (u : Hull). u.least) scans.hull) in
    record {
      before = i.before;
      along = rw items (subst (λ n. Along k m n (c.tokens.trivia.items ++ token_node k (token_at k m z) (text_ahead (len_at k m z) z) ∷ []) from w) (ap (λ u. both_newlines c.tokens.newlines (newlines_of u)) o.token ∙ both-none c.tokens.newlines) (along-next k m c.tokens.newlines c.tokens.trivia.items from z w _ i.along o.trivia o.next refl));
      text = scans.same_text ∙ i.text;
      line = i.line;
      looks = λ h. subst (λ u. Looking k m from w (joined_hull u (token_hull k m w))) (sym tokens) (looking-next k m from z w _ (i.looks own) o.trivia o.next);
      stands = i.stands;
    }
