-- What of a text is shown how, line by line.
use Rattle.std.specs.Prelude.{◌≡◌, ℕ, ◌+◌, ◌≤◌, ◌==◌, ◌&&◌, ◌||◌, nat_lt, Bool, not, List, [], ◌∷◌, ◌++◌, Option, None, Some, drop, slice_range, if◌then◌else◌}
use Rattle.std.specs.declared.ops.Range.{Range}
use Rattle.typst_tree.specs.Tree.{Tree, saturated}
use Rattle.typst_highlight.specs.Stretches as tagged
use Rattle.typst_highlight.specs.declared.stretches.Tagged.{Tagged}
use Rattle.typst_names.specs.Roles.{roles}
use Rattle.typst_styles.specs.Styles.{same_kind, style_of}
use Rattle.typst_names.specs.declared.contexts.Role.{Role}
use Rattle.typst_styles.specs.declared.styles.Style.{Style}
use Rattle.typst_styles.specs.declared.tokens.Token.{Token}

-- ---- tokens of stretches

-- a byte that ends a line: LF, or CR
abbrev pub ends_line : ℕ → Bool
ends_line b = (b == 10) || (b == 13)

-- n bytes from byte a on as a token, unless they are none
abbrev pub token : Style → ℕ → ℕ → List Token
token s a n = if n == 0 then [] else record { start = a; len = n; style = s } ∷ []

-- the tokens of bytes that follow n bytes of the same line, which begin at byte a: one for what stands between two line ends
abbrev pub lines : Style → ℕ → ℕ → List ℕ → List Token
lines s a n [] = token s a n
lines s a n (b ∷ bs) = if ends_line b then token s a n ++ lines s (a + n + 1) 0 bs else lines s a (n + 1) bs

-- the tokens of a stretch of a text: none where it isn't shown
abbrev pub stretch : List ℕ → ℕ → ℕ → Option Style → List Token
stretch text a e None = []
stretch text a e (Some s) = lines s a 0 (slice_range text a e)

-- the role of the first of some stretches
abbrev pub first_role : List (Option Role) → Option Role
first_role [] = None
first_role (role ∷ rest) = role

-- the tokens of stretches of a text, by their tags and their roles
abbrev pub stretches : List ℕ → List Tagged → List (Option Role) → List Token
stretches text [] rs = []
stretches text (s ∷ rest) rs = stretch text s.range.start s.range.end (style_of s.tag (first_role rs)) ++ stretches text rest (drop 1 rs)

-- all tokens of a text, by the stretches of its tree and what its names are
abbrev pub all_tokens : List ℕ → Tree → List Token
all_tokens text root = stretches text (tagged.stretches root) (roles root)

-- ---- those in a range, as few as possible

-- where a token ends, counted up to the largest usize
abbrev pub end_of : Token → ℕ
end_of token = saturated (token.start + token.len)

-- whether a token has a byte of a range
abbrev pub touches : Range ℕ → Token → Bool
touches range token = nat_lt token.start range.end && nat_lt range.start (end_of token)

-- the tokens with a byte of a range
abbrev pub touching : Range ℕ → List Token → List Token
touching range [] = []
touching range (t ∷ ts) = if touches range t then t ∷ touching range ts else touching range ts

-- both are true, or both are false
abbrev pub same_bool : Bool → Bool → Bool
same_bool a b = if a then b else not b

-- whether the second token begins where the first one ends, and is shown like it
abbrev pub continues : Token → Token → Bool
continues t u = (end_of t == u.start) && (same_kind u.style.kind t.style.kind && same_bool t.style.is_declaration u.style.is_declaration)

-- two tokens as one
abbrev pub both : Token → Token → Token
both t u = record { start = t.start; len = saturated (t.len + u.len); style = t.style }

-- tokens after a token, if there is one: what continues it is one with it
abbrev pub merged_after : Option Token → List Token → List Token
merged_after None [] = []
merged_after (Some t) [] = t ∷ []
merged_after None (u ∷ us) = merged_after (Some u) us
merged_after (Some t) (u ∷ us) = if continues t u then merged_after (Some (both t u)) us else t ∷ merged_after (Some u) us

-- tokens, where neighbours that are shown alike are one
abbrev pub merged : List Token → List Token
merged ts = merged_after None ts

-- ALL THAT IS SHOWN of a text with a byte of a range: the tokens of the tree's stretches by tag and role, neighbours that are shown alike as one
abbrev pub tokens_in : Range ℕ → List ℕ → Tree → List Token
tokens_in range text root = merged (touching range (all_tokens text root))

-- each token begins at a byte or after it, and so do those after it
abbrev pub AreOrdered : ℕ → List Token → Type 0
AreOrdered a [] = Unit {0}
AreOrdered a (t ∷ ts) = (a ≤ t.start) × AreOrdered t.start ts

-- a token was taken after the last one, if there was one: what is merged of it and of all after it is merged now, or follows what is last now
abbrev pub IsTaken : Range ℕ → List Token → List Token → Option Token → Option Token → Token → Type 0
IsTaken range old new last now t = (rest : List Token) → new ++ merged_after now (touching range rest) ≡ old ++ merged_after last (touching range (t ∷ rest))
