use Rattle.typst_styles.proofs.Cited.{◌≡◌, ◌+◌, ◌⊎◌, ℕ, List, length, subst, arith, Forest, kids_are, BeginsEdge, EndsEdge, FollowsFeed, IsLineAfter}
use Rattle.typst_styles.proofs.WindowEdges.{begins_before, window_is}
use Rattle.typst_styles.proofs.windows.token_window.Goals as goal

pub last_edge-first-requires : goal.last_edge-first-requires
last_edge-first-requires c = grind (arith, kids_are)

pub edge_after-last-requires : goal.edge_after-last-requires
edge_after-last-requires c = grind (arith, kids_are)

pub returns : goal.returns
returns c =
    let text = c.args.text.now in
    let read = c.args.read.now in
    let root = c.args.root.now in
    let kids = c.children-nodes.ensures in
    let bytes = c.nodes_before-count.result.1 in
    let first = c.last_edge-first.result in
    let last = c.edge_after-last.result in
    let start = c.line_before.result in
    let end = c.line_after.result in
    window_is root text read first last start end (begins_before root.kids bytes read.start first c.nodes_before-count.ensures.below (subst (λ (f : Forest). BeginsEdge f (bytes + 1) first) kids c.last_edge-first.ensures))
    (subst (λ (f : Forest). EndsEdge f read.end (length text) last) kids c.edge_after-last.ensures) c.line_before.ensures.low
    (subst (λ (t : List ℕ). (start ≡ 0) ⊎ FollowsFeed t start) c.as_bytes.ensures.value c.line_before.ensures.line)
    (subst (λ (t : List ℕ). IsLineAfter t last end) c.as_bytes-2.ensures.value c.line_after.ensures)
