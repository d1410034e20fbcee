-- `and_code` meets its contract: the product of the codes, capped at 2, agrees with `and3`, by one test over the nine pairs.
-- Assumes nothing.
use borrow.Author.Rules.{rules}
use Rattle.ternary.proofs.FormulaLaws.{below-cap, from-cap, product-agrees, product_small}
use Rattle.ternary.proofs.and_code.Goals as goal

pub overflow_mul-product : goal.overflow_mul-product
overflow_mul-product c = search (product_small, rules)

pub returns-then-product-lt2 : goal.returns-then-product-lt2
returns-then-product-lt2 c = search (below-cap, product-agrees, rules)

pub returns-else-product-lt2 : goal.returns-else-product-lt2
returns-else-product-lt2 c = search (from-cap, product-agrees, rules)
