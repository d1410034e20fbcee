-- `test_row` meets its contract, kind by kind.
-- Assumes nothing.
use mathlib.Core.Path.{refl}
use native.Mathlib.Omega.{arith}
use borrow.Author.Rules.{rules}
use Rattle.std.proofs.lemmas.Grind.{common_steps}
use Rattle.row_questions.proofs.RowTestLaws.{tests-of, tests-gate}
use Rattle.row_questions.proofs.test_row.Goals as goal

pub returns-after-b-lt-MOST_PHASES : goal.returns-after-b-lt-MOST_PHASES
returns-after-b-lt-MOST_PHASES c = tests-of c.requires.has_rows.0 c.requires.has_rows.1.0 c.requires.tally_value c.requires.has_rows.1.1 _ 1 (omega arith) c.in-1.is (grind (arith, common_steps)) (grind (arith, common_steps)) refl refl refl refl

pub returns-after-reset-le-MOST_RESET : goal.returns-after-reset-le-MOST_RESET
returns-after-reset-le-MOST_RESET c = tests-of c.requires.has_rows.0 c.requires.has_rows.1.0 c.requires.tally_value c.requires.has_rows.1.1 _ 2 (omega arith) c.in-2.is (grind (arith, common_steps)) (grind (arith, common_steps)) refl refl (search rules) (grind (arith, common_steps))

pub returns-then-first-2 : goal.returns-then-first-2
returns-then-first-2 c = tests-gate c.requires.has_rows.0 c.requires.has_rows.1.0 c.requires.tally_value c.requires.has_rows.1.1 _ (search rules) (search rules) (search rules) (search rules) (grind (arith, common_steps)) (grind (arith, common_steps)) refl refl (grind (arith, common_steps)) refl

pub returns-else-first-2 : goal.returns-else-first-2
returns-else-first-2 c = tests-gate c.requires.has_rows.0 c.requires.has_rows.1.0 c.requires.tally_value c.requires.has_rows.1.1 _ (search rules) (search rules) (search rules) (search rules) (grind (arith, common_steps)) (grind (arith, common_steps)) refl refl (grind (arith, common_steps)) refl

pub returns-then-second : goal.returns-then-second
returns-then-second c = tests-of c.requires.has_rows.0 c.requires.has_rows.1.0 c.requires.tally_value c.requires.has_rows.1.1 _ 5 (omega arith) c.in-5.is (grind (arith, common_steps)) (grind (arith, common_steps)) refl refl (grind (arith, common_steps)) refl

pub returns-else-second : goal.returns-else-second
returns-else-second c = tests-of c.requires.has_rows.0 c.requires.has_rows.1.0 c.requires.tally_value c.requires.has_rows.1.1 _ 5 (omega arith) c.in-5.is (grind (arith, common_steps)) (grind (arith, common_steps)) refl refl (grind (arith, common_steps)) refl
