-- `start_row` meets its contract: what it puts is what the register holds in state 0, and what it lists is its next-value literal.
-- Assumes nothing.
use native.Mathlib.Omega.{arith}
use Rattle.memory.proofs.FrameLaws.{kept-none}
use Rattle.ternary_step.proofs.StepLaws.{count_fits, register-yes, register-no, number-yes, number-no, put-asks, list-asks, started-more, started-other}
use borrow.Author.Rules.{rules}
use Rattle.ternary_step.proofs.start_row.Goals as goal

pub put_code-requires : goal.put_code-requires
put_code-requires c = let p = put-asks c.requires.at_row c.read_row-fields.result c.read_row-fields.ensures.0 (register-yes c.requires.at_row c.read_row-fields.result c.read_row-fields.ensures.0 c.if-fields-eq2.true) c.requires.started (λ x. omega (arith, c.slice_known-1.given x)) in record { j_lt_most_original_registers = p.0; code_bound = p.1 }

pub list_next-requires : goal.list_next-requires
list_next-requires c = let small = c.read_row-fields.ensures.1 in let l = list-asks c.requires.at_row c.read_row-fields.result c.read_row-fields.ensures.0 (register-yes c.requires.at_row c.read_row-fields.result c.read_row-fields.ensures.0 c.if-fields-eq2.true) c.requires.started (λ x. omega (arith, c.slice_known-1.given x)) c.put_code.ensures in (l.0, (omega arith, l.1))

pub overflow_add-result : goal.overflow_add-result
overflow_add-result c = search count_fits

pub returns-then-fields-eq2 : goal.returns-then-fields-eq2
returns-then-fields-eq2 c = (number-yes c.requires.at_row c.read_row-fields.result c.read_row-fields.ensures.0 c.if-fields-eq2.true, started-more c.requires.at_row c.read_row-fields.result c.read_row-fields.ensures.0 (register-yes c.requires.at_row c.read_row-fields.result c.read_row-fields.ensures.0 c.if-fields-eq2.true) c.requires.started (λ x. omega (arith, c.slice_known-1.given x)) c.put_code.ensures c.read_row-fields.ensures.1.a_small c.list_next.ensures)

pub returns : goal.returns
returns c = search (number-no, kept-none, started-other, register-no, rules)
