use Rattle.typst_styles.proofs.SoughtSteps.{entered, entered_rows, entered_steps}
use Rattle.typst_styles.proofs.seeking.enter.Goals as goal

pub returns-clause-taken : goal.returns-clause-taken
returns-clause-taken c =
    λ root is. entered c.args.text.now root c.args.spot c.in_ok-row.row c.args.found.now.items c.go_into.new.found.items c.args.rows.now.items c.push.new.self.items is c.in_ok-row.ensures c.in_ok-push.ensures.items

pub returns-clause-ready : goal.returns-clause-ready
returns-clause-ready c = λ root is. entered_rows root c.args.spot c.in_ok-row.row c.args.rows.now.items c.push.new.self.items is c.in_ok-row.ensures.kids c.in_ok-push.ensures.items

pub returns-clause-steps : goal.returns-clause-steps
returns-clause-steps c = entered_steps c.args.spot c.in_ok-row.row c.args.rows.now.items c.push.new.self.items c.in_ok-row.ensures.kids c.in_ok-push.ensures.items
