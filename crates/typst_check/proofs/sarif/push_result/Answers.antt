use Rattle.std.proofs.Common.{refl}
use Rattle.typst_check.proofs.sarif.push_result.Goals as goal

pub returns : goal.returns
returns c =
    let w = c.in_ok-write_result.ensures.tokens in
    record {
      result = w.result;
      is = w.is;
      appended = rw (c.into_inner.ensures.items, c.in_ok-write_result.ensures.before, c.new-writer.ensures.before, w.appended, c.new-writer.ensures.tokens) refl;
    }
