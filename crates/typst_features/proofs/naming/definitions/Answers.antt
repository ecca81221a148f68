use Rattle.typst_features.proofs.Cited.{rules, filter, ap, ◌∙◌, map, Mentioned, is_label, mentioned, Mention, filter_same}
use Rattle.typst_features.proofs.MentionsFound.{kept}
use Rattle.typst_features.proofs.naming.definitions.Goals as goal

pub returns : goal.returns
returns c =
    let e = filter_same _ (λ (m : Mention). is_label m.kind) _ (λ x b f' t. search rules) _ _ c.retain.ensures.filtered in
    ap (map mentioned) e ∙ kept (λ (m : Mentioned). is_label m.kind) c.in_ok-found.found.items ∙ ap (filter (λ (m : Mentioned). is_label m.kind)) c.in_ok-found.ensures
