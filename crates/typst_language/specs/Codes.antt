-- How a view is stored.
use Rattle.std.specs.Prelude.{ℕ, Bool, List, Option, refl}
use Rattle.std.specs.Coded.{Coded, code_by, coded×, coded_ℕ, coded_list, coded_option, coded_bool}
use Rattle.typst_kinds.specs.declared.kind.SyntaxKind.{SyntaxKind}
use Rattle.typst_kinds.specs.contracts.kind.SyntaxKind.{the_row as kind_row}
use Rattle.typst_lines.specs.Place.{Place, place_code}
use Rattle.typst_tree.specs.Tree.{Tree, tree_code}
use Rattle.typst_tokens.specs.declared.hull.Hull.{Hull}
use Rattle.typst_tokens.specs.contracts.hull.Hull.{the_row as hull_row}
use Rattle.typst_tokens.specs.declared.token.Token.{Token}
use Rattle.typst_tokens.specs.contracts.token.Token.{the_row as token_row}
use Rattle.typst_language.specs.declared.reading.Newlines.{Newlines}
use Rattle.typst_language.specs.contracts.reading.Newlines.{the_row as newlines_row}
use Rattle.typst_language.specs.declared.reading.Reading.{Reading}
use Rattle.typst_language.specs.contracts.reading.Reading.{the_row as reading_row}
use Rattle.typst_language.specs.Point.{Point, Trivia}
use Rattle.typst_language.specs.Hand.{Hand}
use Rattle.typst_language.specs.Log.{Log}
use Rattle.typst_language.specs.AheadCodes.{log_code}
use Rattle.typst_language.specs.declared.memo.Guessed.{Guessed}
use Rattle.typst_language.specs.contracts.memo.Guessed.{the_row as guessed_row}
use Rattle.typst_language.specs.View.{View}

-- how a current token is stored in ghost fields
abbrev pub hand_code : Coded Hand
hand_code =
    code_by (SyntaxKind × (List Tree × (ℕ × (ℕ × (Newlines × Token)))))
    (coded× kind_row.coded (coded× (coded_list tree_code) (coded× coded_ℕ (coded× coded_ℕ (coded× newlines_row.coded token_row.coded)))))
    (λ h. (h.kind, (h.trivia, (h.gap, (h.len, (h.newlines, h.token))))))
    (λ p. record { kind = p.0; trivia = p.1.0; gap = p.1.1.0; len = p.1.1.1.0; newlines = p.1.1.1.1.0; token = p.1.1.1.1.1 })
    (λ _. refl)

-- how what is known of trivia is stored in ghost fields
abbrev pub trivia_code : Coded Trivia
trivia_code =
    code_by (List Tree × (ℕ × Newlines)) (coded× (coded_list tree_code) (coded× coded_ℕ newlines_row.coded))
    (λ t. (t.nodes, (t.gap, t.newlines))) (λ p. record { nodes = p.0; gap = p.1.0; newlines = p.1.1 }) (λ _. refl)

-- how a point is stored in ghost fields
abbrev pub point_code : Coded Point
point_code =
    code_by (Reading × (Reading × (ℕ × (Bool × Option Trivia))))
    (coded× reading_row.coded (coded× reading_row.coded (coded× coded_ℕ (coded× coded_bool (coded_option trivia_code)))))
    (λ s. (s.reading, (s.held, (s.empties, (s.is_after_error, s.known)))))
    (λ p. record { reading = p.0; held = p.1.0; empties = p.1.1.0; is_after_error = p.1.1.1.0; known = p.1.1.1.1 })
    (λ _. refl)

-- how a view is stored in ghost fields
abbrev pub view_code : Coded View
view_code =
    code_by (List Tree × (Place × (Point × (Hand × (Hull × (Hull × (Log × List Guessed)))))))
    (coded× (coded_list tree_code) (coded× place_code (coded× point_code (coded× hand_code (coded× hull_row.coded (coded× hull_row.coded (coded× log_code (coded_list guessed_row.coded))))))))
    (λ v. (v.nodes, (v.place, (v.state, (v.hand, (v.own, (v.here, (v.log, v.memo))))))))
    (λ p. record { nodes = p.0; place = p.1.0; state = p.1.1.0; hand = p.1.1.1.0; own = p.1.1.1.1.0; here = p.1.1.1.1.1.0; log = p.1.1.1.1.1.1.0; memo = p.1.1.1.1.1.1.1 })
    (λ _. refl)
