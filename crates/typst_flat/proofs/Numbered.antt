-- Tags stand in their list at the places that their numbers say.
use Rattle.typst_flat.proofs.Cited.{◌≡◌, ℕ, ◌+◌, ◌-◌, length, map, Some, refl, arith, range_with_len, tag_code, numbered, all_tags, slice_get}
use Rattle.typst_highlight.specs.declared.tags.Tag.{Tag}

tags_rise : map (λ t. tag_code (Some t)) all_tags ≡ range_with_len 1 22
tags_rise = refl

many_tags : length all_tags ≡ 22
many_tags = refl

pub tag_here : (t : Tag) → slice_get all_tags (tag_code (Some t) - 1) ≡ Some t
tag_here t = grind arith

pub tag_there : (n : ℕ) (t : Tag) → slice_get all_tags n ≡ Some t → tag_code (Some t) ≡ 1 + n
tag_there n t e = numbered (λ t. tag_code (Some t)) all_tags 1 22 n t tags_rise many_tags e
