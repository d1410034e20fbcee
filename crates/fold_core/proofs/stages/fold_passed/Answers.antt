-- `fold_passed` meets its contract: what each stage hands on is what the next asks.
-- Assumes nothing.
use borrow.Author.Rules.{rules}
use Rattle.fold_core.proofs.PassedLaws.{file-ready, wish-small, made-never, original-ready, phases-from, phases-to, rooms, numbers_fit, made-fold}
use Rattle.fold_core.proofs.stages.fold_passed.Goals as goal

pub analyse-requires : goal.analyse-requires
analyse-requires c = search (file-ready, wish-small, rules)

pub write_fold-after-requires : goal.write_fold-after-requires
write_fold-after-requires c = search (original-ready, phases-from, phases-to, rooms, rules)

pub numbers-requires : goal.numbers-requires
numbers-requires c = search numbers_fit

pub returns-in_default : goal.returns-in_default
returns-in_default c = search made-never

pub returns : goal.returns
returns c = search made-fold
