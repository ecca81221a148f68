-- The class values that answer unlike Unicode keep the law.
use Rattle.std.proofs.Common.{arith}
use Rattle.typst_lines.specs.ClassLaws.{IsLawful-by_law}
use Rattle.typst_lines.specs.Classes.{IsLawful}
use Rattle.typst_fakes.specs.Odd.{wide_classes, narrow_classes}

pub IsLawful-wide_classes : IsLawful wide_classes
IsLawful-wide_classes = IsLawful-by_law _ (λ line some. (omega arith, omega arith))

pub IsLawful-narrow_classes : IsLawful narrow_classes
IsLawful-narrow_classes = IsLawful-by_law _ (λ line some. (omega arith, omega arith))
