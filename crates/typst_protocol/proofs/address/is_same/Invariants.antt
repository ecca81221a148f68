use Rattle.typst_protocol.proofs.Cited.{◌≡◌, bytes_eq, is_same}
use Rattle.percent_encoding.specs.Iter.{decoded_bytes}
use Rattle.typst_protocol.proofs.address.is_same.Given as goal

abbrev pub invariant-loop-byte : goal.invariant-loop-byte
invariant-loop-byte l = bytes_eq (decoded_bytes l.byte-iterator) (decoded_bytes l.other) ≡ is_same l.a l.b
