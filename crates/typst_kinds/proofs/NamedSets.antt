-- What each named set holds.
use Rattle.typst_kinds.proofs.Cited.{◌≡◌, refl, arith, among, has, place_of, SyntaxKind}
use Rattle.typst_kinds.specs.Sets.{stmt, math_expr, unary_op, binary_op, pattern_leaf, code_expr, pattern, arg, array_or_dict_item, param, destructuring_item}
use Rattle.typst_kinds.specs.declared.set.TheConstants.{STMT, MATH_EXPR, UNARY_OP, BINARY_OP, PATTERN_LEAF, CODE_EXPR, PATTERN, ARG, ARRAY_OR_DICT_ITEM, PARAM, DESTRUCTURING_ITEM}
use Rattle.typst_kinds.specs.declared.kind.SyntaxKind.TheVariants as kind

pub has_stmt : (k : SyntaxKind) → has STMT k ≡ among stmt k
unfolding has place_of
has_stmt k = grind arith

pub has_math_expr : (k : SyntaxKind) → has MATH_EXPR k ≡ among math_expr k
unfolding has place_of
has_math_expr k = grind arith

pub has_unary_op : (k : SyntaxKind) → has UNARY_OP k ≡ among unary_op k
unfolding has place_of
has_unary_op k = grind arith

pub has_binary_op : (k : SyntaxKind) → has BINARY_OP k ≡ among binary_op k
unfolding has place_of
has_binary_op k = grind arith

pub has_pattern_leaf : (k : SyntaxKind) → has PATTERN_LEAF k ≡ among pattern_leaf k
unfolding has place_of
has_pattern_leaf kind.End = refl
has_pattern_leaf _ = refl

pub has_code_expr : (k : SyntaxKind) → has CODE_EXPR k ≡ among code_expr k
unfolding has place_of
has_code_expr kind.End = refl
has_code_expr _ = refl

pub has_pattern : (k : SyntaxKind) → has PATTERN k ≡ among pattern k
unfolding has place_of
has_pattern kind.End = refl
has_pattern _ = refl

pub has_arg : (k : SyntaxKind) → has ARG k ≡ among arg k
unfolding has place_of
has_arg kind.End = refl
has_arg _ = refl

pub has_array_or_dict_item : (k : SyntaxKind) → has ARRAY_OR_DICT_ITEM k ≡ among array_or_dict_item k
unfolding has place_of
has_array_or_dict_item kind.End = refl
has_array_or_dict_item _ = refl

pub has_param : (k : SyntaxKind) → has PARAM k ≡ among param k
unfolding has place_of
has_param kind.End = refl
has_param _ = refl

pub has_destructuring_item : (k : SyntaxKind) → has DESTRUCTURING_ITEM k ≡ among destructuring_item k
unfolding has place_of
has_destructuring_item kind.End = refl
has_destructuring_item _ = refl
