-- From what a contract promises to the lemma behind it:
--   highlight                    Bounds: steps stay in the tree; Chains, Cases: up and along chains
--   highlight_html: html         Trees: the walk makes the tags; Contexts, Leaves, Rows: what it carries along
--   rule_of                      RuleTable
--   leaf_among                   FirstLeaves
--   tag_here                     Places: the leaf whose tag a hash has
--   give_tree                    Returning: what is left of the walk; Levels: a name's next leaf, and where nothing is looked for; Outlets: what it gives the nodes to
--   node_spans                   SpanLists: the walk lists the tags of the tree's nodes
--   Progress::resume             Nears: what tags after a leaf don't depend on
--   tag_next                     NameRules; Levels
--   tag_stretches                Outlets: the walk adds the stretches of the tree, which follow one on another
--   highlight_html: shown        Reading: a reader of the HTML; Escapes: escaped texts; Pages: what is put on a page
-- For crates above, what stands on either side of an edge: BeforeEdges, MovedRows, BareRows.
pub mod BareRows
pub mod BeforeEdges
pub mod Bounds
pub mod Cases
pub mod Chains
pub mod Cited
pub mod Contexts
pub mod Escapes
pub mod FirstLeaves
pub mod Leaves
pub mod Levels
pub mod MovedRows
pub mod NameRules
pub mod Nears
pub mod Outlets
pub mod Pages
pub mod Places
pub mod Reading
pub mod Returning
pub mod Rows
pub mod RuleTable
pub mod SpanLists
pub mod Trees
