use Rattle.typst_language.proofs.Cited.{◌≡◌, ◌∙◌, true, Some, refl, ap, sym, arith, is_leaf, bytes_left, View, place_after_paren, slice_get}
use Rattle.std.proofs.lemmas.Option.{slice_get-get_or}
use Rattle.typst_language.proofs.Knowing.{found-is, place-after}
use Rattle.typst_language.proofs.parser.Parser.guessed.Goals as goal

pub entries-init : goal.entries-init
entries-init g c = tt

pub returns-then-is_this : goal.returns-then-is_this
returns-then-is_this g c l n f =
    let i = c.self.inside in
    let leaf : is_leaf c.args.self.now.hand.token ≡ true = ap (λ (v : View). is_leaf v.hand.token) (sym c.self.view_is) ∙ sym c.is_leaf.ensures ∙ c.if-not-is_leaf.false in
    let this = c.if-is_this.ensures refl in
    let found = rw c.deref.ensures.value at c.in-Some.ensures.lookup in
    let get : slice_get i.memo.items c.entries.at ≡ Some c.in-Some.entry.now = slice_get-get_or i.memo.items c.entries.at c.in-Some.entry.now found.3.0 ∙ ap Some (sym found.1) in
    found-is {l = l} {v = c.args.self.now} c.in-Some.entry.now c.entries.at _ _ f (ap (λ (v : View). slice_get v.memo c.entries.at) (sym c.self.view_is) ∙ get) c.if-entry-left.false
    (c.left-left.ensures ∙ ap bytes_left (place-after i.ahead c.self.invariant.stands) ∙ ap (λ (v : View). bytes_left (place_after_paren v)) c.self.view_is)
    leaf
    (n ∙ sym c.levels.ensures) this.levels this.outer this.paren

pub entries-smaller : goal.entries-smaller
entries-smaller g c = grind arith

pub entries-preserved : goal.entries-preserved
entries-preserved g c = tt
