use Rattle.typst_features.proofs.Cited.{◌≡◌, [], ◌++◌, Some, ◌∙◌, map, mentioned, mentions, name_range, of_name, occurrence}
use Rattle.typst_features.proofs.NamedThere.{occurred}
use Rattle.typst_features.proofs.renaming.label_named.Goals as goal

pub returns : goal.returns
returns c =
    let ms = mentions c.args.root.now in
    let m = mentioned c.args.mention.now in
    let empty : c.new-occurrences.result.items ≡ [] = c.new-occurrences.ensures.items in
    let all : c.add_mentions.new.occurrences.items ≡ map occurrence (of_name m.name ms) =
    c.in_ok-add_mentions.ensures
    ∙ (λ i. empty i ++ map (λ x. occurrence (mentioned x)) (c.as_slice.ensures.value i))
    ∙ occurred c.in_ok-found.found.items (of_name m.name ms) c.in_ok-found.ensures in
    let range : c.name_range.result ≡ name_range m = c.name_range.ensures in
    λ i. Some (record { range = range i; occurrences = all i })
