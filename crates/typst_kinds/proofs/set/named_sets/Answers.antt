use Rattle.typst_kinds.proofs.NamedSets.{has_stmt, has_math_expr, has_unary_op, has_binary_op, has_pattern_leaf, has_code_expr, has_pattern, has_arg, has_array_or_dict_item, has_param, has_destructuring_item}
use Rattle.typst_kinds.proofs.set.named_sets.Goals as goal

pub returns-clause-stmt : goal.returns-clause-stmt
returns-clause-stmt c = has_stmt

pub returns-clause-math_expr : goal.returns-clause-math_expr
returns-clause-math_expr c = has_math_expr

pub returns-clause-unary_op : goal.returns-clause-unary_op
returns-clause-unary_op c = has_unary_op

pub returns-clause-binary_op : goal.returns-clause-binary_op
returns-clause-binary_op c = has_binary_op

pub returns-clause-pattern_leaf : goal.returns-clause-pattern_leaf
returns-clause-pattern_leaf c = has_pattern_leaf

pub returns-clause-code_expr : goal.returns-clause-code_expr
returns-clause-code_expr c = has_code_expr

pub returns-clause-pattern : goal.returns-clause-pattern
returns-clause-pattern c = has_pattern

pub returns-clause-arg : goal.returns-clause-arg
returns-clause-arg c = has_arg

pub returns-clause-array_or_dict_item : goal.returns-clause-array_or_dict_item
returns-clause-array_or_dict_item c = has_array_or_dict_item

pub returns-clause-param : goal.returns-clause-param
returns-clause-param c = has_param

pub returns-clause-destructuring_item : goal.returns-clause-destructuring_item
returns-clause-destructuring_item c = has_destructuring_item
