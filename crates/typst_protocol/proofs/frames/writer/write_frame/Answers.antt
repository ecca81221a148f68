use Rattle.typst_protocol.proofs.Cited.{◌++◌, length, Appends-kept, Appends-trans, codes, decimal}
use Rattle.typst_protocol.proofs.Writing.{begins-after, begins-front, begins-whole, on-ok}
use Rattle.typst_protocol.proofs.frames.writer.write_frame.Goals as goal

pub returns-in_err-write_bytes-clause-begins : goal.returns-in_err-write_bytes-clause-begins
returns-in_err-write_bytes-clause-begins g c =
    let body = c.args.body.now in
    let name = codes "Content-Length: " in
    let digits = decimal (length body) in
    let gap = codes "\r\n\r\n" in
    begins-front _ _ (name ++ digits ++ gap) body (begins-front _ _ (name ++ digits) gap (begins-front _ _ name digits c.write_bytes.ensures.begins))

pub returns-in_err-write_number-clause-begins : goal.returns-in_err-write_number-clause-begins
returns-in_err-write_number-clause-begins g c =
    let body = c.args.body.now in
    let name = codes "Content-Length: " in
    let digits = decimal (length body) in
    let gap = codes "\r\n\r\n" in
    begins-front _ _ (name ++ digits ++ gap) body (begins-front _ _ (name ++ digits) gap (begins-after _ _ _ name digits c.in_ok-write_bytes.ensures.whole c.write_number.ensures.begins))

pub returns-in_err-write_bytes-2-clause-begins : goal.returns-in_err-write_bytes-2-clause-begins
returns-in_err-write_bytes-2-clause-begins g c =
    let body = c.args.body.now in
    let name = codes "Content-Length: " in
    let digits = decimal (length body) in
    let gap = codes "\r\n\r\n" in
    let two = Appends-trans _ _ _ name digits c.in_ok-write_bytes.ensures.whole c.in_ok-write_number.ensures.whole in
    begins-front _ _ (name ++ digits ++ gap) body (begins-after _ _ _ (name ++ digits) gap two c.write_bytes-2.ensures.begins)

pub returns-in_err-write_bytes-3-clause-begins : goal.returns-in_err-write_bytes-3-clause-begins
returns-in_err-write_bytes-3-clause-begins g c =
    let body = c.args.body.now in
    let name = codes "Content-Length: " in
    let digits = decimal (length body) in
    let gap = codes "\r\n\r\n" in
    let two = Appends-trans _ _ _ name digits c.in_ok-write_bytes.ensures.whole c.in_ok-write_number.ensures.whole in
    let three = Appends-trans _ _ _ (name ++ digits) gap two c.in_ok-write_bytes-2.ensures.whole in
    begins-after _ _ _ (name ++ digits ++ gap) body three c.write_bytes-3.ensures.begins

pub returns : goal.returns
returns g c =
    let body = c.args.body.now in
    let name = codes "Content-Length: " in
    let digits = decimal (length body) in
    let gap = codes "\r\n\r\n" in
    let two = Appends-trans _ _ _ name digits c.in_ok-write_bytes.ensures.whole c.in_ok-write_number.ensures.whole in
    let three = Appends-trans _ _ _ (name ++ digits) gap two c.in_ok-write_bytes-2.ensures.whole in
    let four = Appends-kept _ _ _ (name ++ digits ++ gap ++ body) (Appends-trans _ _ _ (name ++ digits ++ gap) body three c.in_ok-write_bytes-3.ensures.whole) c.flush.ensures in
    record { whole = on-ok _ _ four; begins = begins-whole _ _ _ four }
