use Rattle.typst_protocol.proofs.Cited.{common_steps, ◌≡◌, ◌==◌, Bool, [], length, IfSome, Err, Result, refl, sym, ap, subst, ◌∙◌, arith, Answers, End, err_from_is_err_and}
use Rattle.typst_protocol.specs.declared.frames.reader.Frame.{Frame}
use Rattle.typst_protocol.proofs.Heads.{answers-body, answers-long, answers-memory, behind, cut-short, ends-clean, head-failed, passed}
use Rattle.typst_protocol.proofs.frames.reader.read_frame.Goals as goal

pub returns-then-branch : goal.returns-then-branch
returns-then-branch g c =
    let old = g.R.Read.remaining c.args.reader.now in
    let left = g.R.Read.remaining c.is_at_end.new.reader in
    ends-clean old left [] (subst (λ (b : Bool). IfSome old (λ bytes. b ≡ (length bytes == 0))) c.if-branch.true c.in_ok-is_at_end.ensures.value)

pub returns-in_err-length : goal.returns-in_err-length
returns-in_err-length g c =
    let old = g.R.Read.remaining c.args.reader.now in
    let now = g.R.Read.remaining c.is_at_end.new.reader in
    let new = g.R.Read.remaining c.read_head.new.reader in
    let some = subst (λ (b : Bool). IfSome old (λ bytes. b ≡ (length bytes == 0))) c.if-branch.false c.in_ok-is_at_end.ensures.value in
    let p = err_from_is_err_and c.from_residual-in_err-length.result c.from_residual-in_err-length.ensures.1 in
    subst (λ (r : Result Frame End). IfSome old (λ bytes. Answers bytes r c.args.body.now.items new)) (sym (p.1 ∙ ap (λ e. Err e) p.2))
    (head-failed old now new new c.in_err-length.field-0.0 c.args.body.now.items some c.in_ok-is_at_end.ensures.kept c.in_err-length.ensures)

pub returns-in_err-skip : goal.returns-in_err-skip
returns-in_err-skip g c =
    let old = g.R.Read.remaining c.args.reader.now in
    let now = g.R.Read.remaining c.is_at_end.new.reader in
    let mid = g.R.Read.remaining c.read_head.new.reader in
    let some = subst (λ (b : Bool). IfSome old (λ bytes. b ≡ (length bytes == 0))) c.if-branch.false c.in_ok-is_at_end.ensures.value in
    let n = c.in_ok-length.length in
    let b = behind old now mid n some c.in_ok-is_at_end.ensures.kept c.in_ok-length.ensures in
    let new = g.R.Read.remaining c.skip.new.reader in
    let held = c.args.body.now.items in
    let p = err_from_is_err_and c.from_residual-in_err-skip.result c.from_residual-in_err-skip.ensures.1 in
    grind (arith, common_steps, cut-short)

pub returns-then-length-gt-LONGEST_BODY : goal.returns-then-length-gt-LONGEST_BODY
returns-then-length-gt-LONGEST_BODY g c =
    let old = g.R.Read.remaining c.args.reader.now in
    let some = subst (λ (b : Bool). IfSome old (λ bytes. b ≡ (length bytes == 0))) c.if-branch.false c.in_ok-is_at_end.ensures.value in
    let b = behind old (g.R.Read.remaining c.is_at_end.new.reader) _ _ some c.in_ok-is_at_end.ensures.kept c.in_ok-length.ensures in
    let new = g.R.Read.remaining c.skip.new.reader in
    let taken = c.in_ok-skip.ensures.taken in
    answers-long old new taken.0 c.args.body.now.items (passed old _ new _ taken.0 b taken.2 taken.1) (omega (arith, taken.1, c.if-length-gt-LONGEST_BODY.true))

pub returns-in_err-fill_all : goal.returns-in_err-fill_all
returns-in_err-fill_all g c =
    let old = g.R.Read.remaining c.args.reader.now in
    let now = g.R.Read.remaining c.is_at_end.new.reader in
    let mid = g.R.Read.remaining c.read_head.new.reader in
    let some = subst (λ (b : Bool). IfSome old (λ bytes. b ≡ (length bytes == 0))) c.if-branch.false c.in_ok-is_at_end.ensures.value in
    let n = c.in_ok-length.length in
    let b = behind old now mid n some c.in_ok-is_at_end.ensures.kept c.in_ok-length.ensures in
    let new = g.R.Read.remaining c.fill_all.new.reader in
    let held = c.fill_all.new.body.items in
    let p = err_from_is_err_and c.from_residual-in_err-fill_all.result c.from_residual-in_err-fill_all.ensures.1 in
    grind (arith, common_steps, cut-short)

pub returns-then-make_room : goal.returns-then-make_room
returns-then-make_room g c =
    let old = g.R.Read.remaining c.args.reader.now in
    let some = subst (λ (b : Bool). IfSome old (λ bytes. b ≡ (length bytes == 0))) c.if-branch.false c.in_ok-is_at_end.ensures.value in
    let b = behind old (g.R.Read.remaining c.is_at_end.new.reader) _ _ some c.in_ok-is_at_end.ensures.kept c.in_ok-length.ensures in
    let new = g.R.Read.remaining c.fill_all.new.reader in
    let size : length c.fill_all.new.body.items ≡ c.in_ok-length.length = c.in_ok-fill_all.ensures.size ∙ c.make_room.ensures c.if-make_room.true in
    answers-body old new _ _ (passed old _ new _ _ b c.in_ok-fill_all.ensures.taken size) (omega (arith, size, c.if-length-gt-LONGEST_BODY.false)) refl

pub returns-in_err-skip-2 : goal.returns-in_err-skip-2
returns-in_err-skip-2 g c =
    let old = g.R.Read.remaining c.args.reader.now in
    let now = g.R.Read.remaining c.is_at_end.new.reader in
    let mid = g.R.Read.remaining c.read_head.new.reader in
    let some = subst (λ (b : Bool). IfSome old (λ bytes. b ≡ (length bytes == 0))) c.if-branch.false c.in_ok-is_at_end.ensures.value in
    let n = c.in_ok-length.length in
    let b = behind old now mid n some c.in_ok-is_at_end.ensures.kept c.in_ok-length.ensures in
    let new = g.R.Read.remaining c.skip-2.new.reader in
    let held = c.make_room.new.body.items in
    let p = err_from_is_err_and c.from_residual-in_err-skip-2.result c.from_residual-in_err-skip-2.ensures.1 in
    grind (arith, common_steps, cut-short)

pub returns : goal.returns
returns g c =
    let old = g.R.Read.remaining c.args.reader.now in
    let some = subst (λ (b : Bool). IfSome old (λ bytes. b ≡ (length bytes == 0))) c.if-branch.false c.in_ok-is_at_end.ensures.value in
    let b = behind old (g.R.Read.remaining c.is_at_end.new.reader) _ _ some c.in_ok-is_at_end.ensures.kept c.in_ok-length.ensures in
    let new = g.R.Read.remaining c.skip-2.new.reader in
    let taken = c.in_ok-skip-2.ensures.taken in
    answers-memory old new taken.0 c.make_room.new.body.items (passed old _ new _ taken.0 b taken.2 taken.1) (omega (arith, taken.1, c.if-length-gt-LONGEST_BODY.false))
