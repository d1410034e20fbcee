use native.Mathlib.Omega.{arith}
use Rattle.period_finder.proofs.PeriodLaws.{lasso-short}
use Rattle.period_finder.proofs.find_periods.Goals as goal

pub overflow_add-m : goal.overflow_add-m
overflow_add-m c = let s = lasso-short c.requires.stem_value.1.1 in let s0 = s.0 in omega arith
