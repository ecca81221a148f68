use Rattle.typst_tree.proofs.Cited.{◌+◌, ◌<◌, ◌^◌, ap, sym, ◌∙◌, arith, length, drop, refl, number_of, places, saturated, count, Within, wanted}
use Rattle.typst_tree.proofs.RisingNumbers.{if_some, in_order_first, none_past, found_only, order_ahead, rising_below, rising_from_index}
use Rattle.typst_tree.proofs.Rows.{row_within, tree_at}
use Rattle.typst_tree.proofs.WalksInPreorder.{found_below, within_first, within_in, within_same, within_self, turn}
use Rattle.typst_tree.proofs.order.+first_in_order.Goals as goal

pub returns-then-key-number_or_zero-clause-first : goal.returns-then-key-number_or_zero-clause-first
returns-then-key-number_or_zero-clause-first t c =
    sym (none_past (wanted c.args.search.now) c.args.key c.args.number c.args.offset c.args.node.now c.requires.keyed (omega (arith, c.if-key-number_or_zero.true, c.number_or_zero.ensures.value, ap number_of c.span.ensures)) c.requires.in_order)

pub returns-then-wants-clause-spot : goal.returns-then-wants-clause-spot
returns-then-wants-clause-spot t c = grind (arith, within_self)

pub first_in_order-requires : goal.first_in_order-requires
first_in_order-requires t c =
    let i = c.last_up_to-index.result in
    let x = c.index-row-index.result in
    let row = (turn _ i x c.index-row-index.is c.last_up_to-index.ensures.within).first in
    let w = tree_at _ i x c.index-row-index.is c.last_up_to-index.ensures.within in
    let rising = rising_from_index i _ x (drop (i + 1) _) row (rising_below c.args.node.now _ c.children-row.ensures c.requires.in_order) in
    (omega (arith, c.decreases, w.counted, w.all, ap count c.children-row.ensures), (omega (arith, c.before_index-passed.ensures.number, w.counted, w.all, ap count c.children-row.ensures, c.requires.counted), (in_order_first x (drop (i + 1) _) rising, c.requires.keyed)))

pub returns-clause-first : goal.returns-clause-first
returns-clause-first t c =
    let p = wanted c.args.search.now in
    let i = c.last_up_to-index.result in
    let x = c.index-row-index.result in
    let row = (turn _ i x c.index-row-index.is c.last_up_to-index.ensures.within).first in
    let all = rising_below c.args.node.now _ c.children-row.ensures c.requires.in_order in
    let rising = rising_from_index i _ x (drop (i + 1) _) row all in
    c.first_in_order.ensures.first
    ∙ sym (found_below p c.args.number c.args.offset (saturated (c.args.offset + length c.args.node.now.head.text)) c.args.node.now _ (omega (arith, c.ranges.offset)) (c.if-wants.ensures c.args.offset) c.children-row.ensures refl
    ∙ (order_ahead p c.args.key (c.args.number + 1) (saturated (c.args.offset + length c.args.node.now.head.text)) i c.before_index-passed.result.number c.before_index-passed.result.offset _ x (drop (i + 1) _) c.requires.keyed all row c.last_up_to-index.ensures.begins c.before_index-passed.ensures.number c.before_index-passed.ensures.offset
    ∙ found_only p c.args.key c.before_index-passed.result.number c.before_index-passed.result.offset x (drop (i + 1) _) c.requires.keyed (sym c.last_up_to-index.ensures.next) rising))

pub returns-clause-spot : goal.returns-clause-spot
returns-clause-spot t c =
    let i = c.last_up_to-index.result in
    let row = (turn _ i _ c.index-row-index.is c.last_up_to-index.ensures.within).first in
    let begin : c.before_index-passed.result.offset < 2 ^ 64 = omega (arith, c.before_index-passed.ensures.offset) in
    let here = row_within c.args.node.now c.args.number c.args.offset c.before_index-passed.result.number c.before_index-passed.result.offset i _ c.children-row.ensures (omega (arith, c.before_index-passed.ensures.number)) (omega (arith, c.before_index-passed.ensures.offset)) in
    let kid : Within c.args.number c.args.offset (places c.args.node.now) c.before_index-passed.result.number c.before_index-passed.result.offset (places c.index-row-index.result) = within_in _ _ _ _ _ _ _ _ _ (within_same _ _ _ _ _ _ _ row here) (within_first c.before_index-passed.result.number c.before_index-passed.result.offset _ (drop (i + 1) _) begin) in
    if_some c.first_in_order.result _ _ (λ spot w. within_in c.args.number c.args.offset (places c.args.node.now) c.before_index-passed.result.number c.before_index-passed.result.offset (places c.index-row-index.result) spot.number spot.offset (places spot.node.now) kid w) c.first_in_order.ensures.spot
