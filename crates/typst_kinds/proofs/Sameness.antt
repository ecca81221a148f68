-- What `same` says of two kinds.
use Rattle.typst_kinds.proofs.Cited.{rules, ◌≡◌, true, same, SyntaxKind}
use denote.Enum.Bare.{same_true, true_same}
use Rattle.typst_kinds.specs.contracts.kind.SyntaxKind.{the_type}

pub same-is : (wanted kind : SyntaxKind) → same wanted kind ≡ true → kind ≡ wanted
same-is wanted kind h = same_true the_type (search rules) kind wanted h

pub is-same : (wanted kind : SyntaxKind) → kind ≡ wanted → same wanted kind ≡ true
is-same wanted kind e = true_same the_type kind wanted e
