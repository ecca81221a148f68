-- Which lemma gives which clause:
--   Reads cluster, is_cluster             Clusters
--   Reads name                            OwnNames
--   Reads after_name                      FieldNames
--   math_laws.MathFrame                        typst_tokens Frame.frame
--   math_laws.MathGoesOn                       Eats.math-eats
--   math_laws.MathLooks                        the checker computes them
pub mod Clusters
pub mod Eats
pub mod FieldNames
pub mod OwnNames
-- Which lemma gives which clause:
--   goes_on of scan                       TokenEats.token-eats
--   eaten of eat_lone_space               Spaces.lone-space
--   characters of scan                    typst_tokens Moves.exec-moved
--   Scans of read_up_to                   typst_tokens Sights.read-is, hull-is, text-read
--   token_laws.TokenFrame                       typst_tokens Frame.frame
--   looks of tokens                       the checker computes them
pub mod Spaces
pub mod TokenEats
-- Which lemma gives which clause:
--   raw_node                                    Tags.split-is, node-pair, node-open, node-closed
--   warn, warn_only_tag, split_tag, push_tag, before_ticks      Tags
--   last_line, dedent, has_spare_space, push_block, push_first, push_inline, push_lines    Loops
--   indent, is_blank, skip_in_line    Moves
--   raw_laws.raw_leaves_law                            Leaves.raw-leaves
-- Rows says how lines follow from characters.
pub mod Leaves
pub mod Loops
pub mod Moves
pub mod Rows
pub mod Tags
-- Which lemma gives which clause:
--   nodes of faults                       TokenTexts.fault-is
--   leaf_node                             TokenTexts.leaf-is, Fronts.front-bytes
--   access_node                           Accesses
--   suffix_start, value_of                Suffixes
--   message of an escape                  TokenTexts.thrice
--   text_laws.TokenText                        TokenTexts.text-token
pub mod Accesses
pub mod Cited
pub mod Fronts
pub mod Suffixes
pub mod TokenTexts
-- What the crates above name of those below.
pub use Rattle.typst_tree.proofs.SpansAside
pub use Rattle.typst_tree.proofs.Texts
