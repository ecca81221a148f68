use Rattle.typst_tokens.proofs.Cited.{sym, ◌∙◌, plain}
use Rattle.typst_tokens.proofs.NameSteps.{ident-keyword, ident-name}
use Rattle.typst_tokens.proofs.identifiers.ident.Goals as goal

pub returns-in-Some : goal.returns-in-Some
returns-in-Some g c =
    let r = c.see_while-rest in
    ident-keyword (g.C.Classes.classes c.args.classes.now) c.args.c c.args.s.now c.eat.new.self r.new.self c.keyword_or_name.new.s r.result.now c.in-Some.kind (plain c.keyword_or_name.result)
    r.utf8 c.eat.ensures.sight r.ensures.taken r.ensures.sight (sym c.keyword.ensures ∙ c.in-Some.is) c.keyword_or_name.ensures

pub returns : goal.returns
returns g c =
    let r = c.see_while-rest in
    ident-name (g.C.Classes.classes c.args.classes.now) c.args.c c.args.s.now c.eat.new.self r.new.self c.skip.new.self r.result.now (plain c.named.result)
    r.utf8 c.eat.ensures.sight r.ensures.taken r.ensures.sight (sym c.keyword.ensures ∙ c.in_default.is) c.skip.ensures c.named.ensures
