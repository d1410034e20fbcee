-- `complement_code` meets its contract: the XOR of the two numbers, capped at 2, agrees with `xor3`, by one test over all bits and codes.
-- Assumes nothing.
use borrow.Author.Rules.{rules}
use Rattle.ternary.proofs.FormulaLaws.{below-cap, from-cap, complement-agrees}
use Rattle.ternary.proofs.complement_code.Goals as goal

pub returns-then-flipped-lt2 : goal.returns-then-flipped-lt2
returns-then-flipped-lt2 c = search (below-cap, complement-agrees, rules)

pub returns-else-flipped-lt2 : goal.returns-else-flipped-lt2
returns-else-flipped-lt2 c = search (from-cap, complement-agrees, rules)
