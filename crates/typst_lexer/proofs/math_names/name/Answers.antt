use Rattle.typst_lexer.proofs.Cited.{take, sym, ap, ◌∙◌, chars, Place, moved, passes, continues, Sight, text_of, went}
use Rattle.typst_lexer.proofs.OwnNames.{size, after-is, text-stays, own-is, own-some, own-inside, name-cluster, name-ident}
use Rattle.typst_lexer.proofs.math_names.name.Goals as goal

pub since-own-requires-clause-text : goal.since-own-requires-clause-text
since-own-requires-clause-text g c =
    let k = g.C.Classes.classes c.args.classes.now in
    let v = c.args.s.now in
    let b = after-is k v c.eat.new.self c.eat_while.new.self (c.eat.ensures.sight ∙ ap (went 1) c.second.ensures.sight) c.eat_while.ensures.sight in
    c.ahead.ensures.text ∙ text-stays (size k v.place) v.place c.eat_while.new.self.place b ∙ sym (c.ahead-start.ensures.text ∙ ap (λ (x : Sight). text_of x.place) c.second.ensures.sight)

pub since-own-requires-clause-after : goal.since-own-requires-clause-after
since-own-requires-clause-after g c =
    let k = g.C.Classes.classes c.args.classes.now in
    let v = c.args.s.now in
    let b = after-is k v c.eat.new.self c.eat_while.new.self (c.eat.ensures.sight ∙ ap (went 1) c.second.ensures.sight) c.eat_while.ensures.sight in
    let start = c.ahead-start.ensures.place ∙ ap (λ (x : Sight). x.place) c.second.ensures.sight in
    (size k v.place, c.ahead.ensures.place ∙ b ∙ ap (moved (size k v.place)) (sym start))

pub is_cluster-requires-clause-some : goal.is_cluster-requires-clause-some
is_cluster-requires-clause-some g c =
    let k = g.C.Classes.classes c.args.classes.now in
    let v = c.args.s.now in
    let b = after-is k v c.eat.new.self c.eat_while.new.self (c.eat.ensures.sight ∙ ap (went 1) c.second.ensures.sight) c.eat_while.ensures.sight in
    let start = c.ahead-start.ensures.place ∙ ap (λ (x : Sight). x.place) c.second.ensures.sight in
    let m = c.ahead.ensures.place ∙ b ∙ ap (moved (size k v.place)) (sym start) in
    let own = c.since-own.ensures (size k v.place) m ∙ ap (λ (z : Place). take (size k v.place) z.ahead) start in
    own-some c.since-own.result.now _ c.args.c (own-is k c.args.c v.place (chars c.since-own.result.now) c.requires.next own)

pub is_cluster-requires-clause-inside : goal.is_cluster-requires-clause-inside
is_cluster-requires-clause-inside g c =
    let k = g.C.Classes.classes c.args.classes.now in
    let v = c.args.s.now in
    let b = after-is k v c.eat.new.self c.eat_while.new.self (c.eat.ensures.sight ∙ ap (went 1) c.second.ensures.sight) c.eat_while.ensures.sight in
    let start = c.ahead-start.ensures.place ∙ ap (λ (x : Sight). x.place) c.second.ensures.sight in
    let m = c.ahead.ensures.place ∙ b ∙ ap (moved (size k v.place)) (sym start) in
    let own = c.since-own.ensures (size k v.place) m ∙ ap (λ (z : Place). take (size k v.place) z.ahead) start in
    own-inside k (g.met.C.Classes.lawful c.args.classes.now) c.args.c (moved 1 v.place) c.since-own.result.now c.since-own.utf8 (own-is k c.args.c v.place (chars c.since-own.result.now) c.requires.next own) c.requires.starts

pub returns-then-is_cluster : goal.returns-then-is_cluster
returns-then-is_cluster g c =
    let k = g.C.Classes.classes c.args.classes.now in
    let v = c.args.s.now in
    let first = c.eat.ensures.sight ∙ ap (went 1) c.second.ensures.sight in
    let b = after-is k v c.eat.new.self c.eat_while.new.self first c.eat_while.ensures.sight in
    let start = c.ahead-start.ensures.place ∙ ap (λ (x : Sight). x.place) c.second.ensures.sight in
    let m = c.ahead.ensures.place ∙ b ∙ ap (moved (size k v.place)) (sym start) in
    let own = c.since-own.ensures (size k v.place) m ∙ ap (λ (z : Place). take (size k v.place) z.ahead) start in
    name-cluster k c.args.c v c.eat.new.self c.eat_while.new.self (chars c.since-own.result.now) c.is_cluster.result c.plain.result
    (ap (passes (continues k)) (sym c.second.ensures.second) ∙ sym c.continues_name.ensures ∙ c.if-not-continues_name.false) first c.eat_while.ensures.sight
    (own-is k c.args.c v.place (chars c.since-own.result.now) c.requires.next own) c.is_cluster.ensures c.if-is_cluster.true c.plain.ensures

pub returns : goal.returns
returns g c =
    let k = g.C.Classes.classes c.args.classes.now in
    let v = c.args.s.now in
    let first = c.eat.ensures.sight ∙ ap (went 1) c.second.ensures.sight in
    let b = after-is k v c.eat.new.self c.eat_while.new.self first c.eat_while.ensures.sight in
    let start = c.ahead-start.ensures.place ∙ ap (λ (x : Sight). x.place) c.second.ensures.sight in
    let m = c.ahead.ensures.place ∙ b ∙ ap (moved (size k v.place)) (sym start) in
    let own = c.since-own.ensures (size k v.place) m ∙ ap (λ (z : Place). take (size k v.place) z.ahead) start in
    name-ident k c.args.c v c.eat.new.self c.eat_while.new.self c.after_name.new.s (chars c.since-own.result.now) c.is_cluster.result c.after_name.result
    (ap (passes (continues k)) (sym c.second.ensures.second) ∙ sym c.continues_name.ensures ∙ c.if-not-continues_name.false) first c.eat_while.ensures.sight
    (own-is k c.args.c v.place (chars c.since-own.result.now) c.requires.next own) c.is_cluster.ensures c.if-is_cluster.false c.after_name.ensures
