use Rattle.typst_tokens.proofs.Cited.{arith, code, single, less, with_equals, dots, dot, equals, bang, ident, keyword_or_name, foreign, invalid, suffixed, exponent_digits, signed_digits, exponent, fraction, decimal, dotted, in_base, zero_first, number_token, string, number_after, sign, label}
use lib.Utf8.{encode}
use Rattle.typst_tokens.proofs.code_laws.looks_of_code.Goals as goal

pub returns : goal.returns
unfolding code single less with_equals dots dot equals bang ident keyword_or_name foreign invalid suffixed exponent_digits signed_digits exponent fraction decimal dotted in_base zero_first number_token string number_after sign label encode
returns c = grind arith
