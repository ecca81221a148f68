-- First readings, which leave what stood before them.
use Rattle.typst_bindings.proofs.Cited.{Option, ◌≡◌, ℕ, ◌<◌, ◌≤◌, Bool, false, List, length, encode_utf8_all, length-take, refl, ap, sym, ◌∙◌, arith, is_error, Level, hand_of, renewed, taken_node, run, after_node, count_empty, View, Fits, at, name_and_colon, Begins, begins-eat, begins-next, begins-then}
use Rattle.std.proofs.lemmas.Str.{length-le-encodes}
use Rattle.typst_lines.specs.Place.{Place, moved}
use Rattle.typst_tree.specs.Tree.{text_of}
use Rattle.typst_language.specs.Depth.{is_end}
use Rattle.typst_language.specs.Hand.{Hand, hand_at, ahead, text_ahead}
use Rattle.typst_language.specs.Nodes.{token_node}
use Rattle.typst_language.specs.Point.{Point, Trivia}
use Rattle.typst_language.specs.Shape.Making.{itself}
use Rattle.typst_language.specs.Sound.{Sound}
use Rattle.typst_language.specs.Steps.{eat, eat_making}
use Rattle.typst_language.specs.Syntax.{Parser}
use Rattle.typst_language.specs.Syntax.Parser.{next}
use Rattle.typst_language.specs.declared.reading.Reading.{Reading}
use Rattle.typst_language.proofs.Ends.{ahead-read, hand-takes}
use Rattle.typst_language.proofs.Leaves.{text-made}
use Rattle.typst_language.proofs.TokenTexts.{text-token}

-- ---- after a token

-- the token at hand takes no more characters than there are
hand-within : (l : Level) (held : Reading) (known : Option Trivia) (z : Place) → (hand_at l.classes held known z).len ≤ length (moved (hand_at l.classes held known z).gap z).ahead
unfolding hand_at ahead
hand-within l held known z = grind (arith, ahead-read)

some-text : (xs : List ℕ) → 0 < length xs → count_empty xs ≡ 0
some-text xs h = grind arith

no-empties : (b : Bool) (text : List ℕ) (s : Point) → count_empty text ≡ 0 → (renewed (after_node b text s)).empties ≡ 0
no-empties b text s e = grind arith

-- after a token that isn't the end no empty error stands
pub eaten-some : {l : Level} {v : View} → Fits l v → is_end v.hand.kind ≡ false → (at l eat v).state.empties ≡ 0
unfolding run eat eat_making
eaten-some {l = l} {v = v} c e =
    let h = hand_of l v.place v.state in
    let w = moved h.gap v.place in
    let text = text_ahead h.len w in
    let node = taken_node l.classes itself h v.place in
    let some : 0 < h.len = hand-takes l.classes v.state.held v.state.known v.place (ap (λ (x : Hand). is_end x.kind) (sym c.hand) ∙ e) in
    let within : h.len ≤ length w.ahead = hand-within l v.state.held v.state.known v.place in
    let long : length text ≡ h.len = omega (arith, within, length-take h.len w.ahead) in
    let full : count_empty (text_of node) ≡ 0 = ap count_empty (text-made itself (token_node l.classes h.token text) ∙ text-token l.classes h.token text) ∙ some-text (encode_utf8_all text) (omega (arith, long, some, length-le-encodes text)) in
    no-empties (is_error node.head.kind) (text_of node) v.state full

-- a token that isn't the end may be taken before all else
pub begins-some : {A : Type 0} {l : Level} {f : Unit {0} → Parser A} {v : View} → Sound l → Fits l v → is_end v.hand.kind ≡ false → Begins l (next eat f) v
begins-some sound c e = begins-next sound (begins-eat c) (eaten-some c e)

pub begins-name : {l : Level} {v : View} → Fits l v → Begins l name_and_colon v
unfolding name_and_colon run
begins-name f = begins-then (begins-eat f) refl
