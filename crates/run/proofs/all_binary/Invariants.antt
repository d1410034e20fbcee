-- `run::all_binary`: `binary` says whether each of the values before this one is 0 or 1.
-- Assumes nothing.
use Rattle.std.proofs.Common.{◌≡◌}
use Rattle.run.proofs.PlanLaws.{binary_before}
use Rattle.run.proofs.all_binary.Given as goal

abbrev pub invariant-loop-value : goal.invariant-loop-value
invariant-loop-value l = l.binary ≡ binary_before l.values l.value-index
