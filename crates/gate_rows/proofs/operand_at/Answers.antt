-- `operand_at` meets its contract: the operand's number is read where it stands.
-- Assumes nothing.
use borrow.Author.Rules.{rules}
use Rattle.gate_rows.proofs.OperandLaws.{operand-inside, operand-is, half-small}
use Rattle.gate_rows.proofs.operand_at.Goals as goal

pub field_at-requires : goal.field_at-requires
field_at-requires c = search (operand-inside, rules)

pub returns : goal.returns
returns c = search (operand-is, half-small, rules)
