-- `more_digits` meets its contract. The invariant: reading on from `i` with `value` is reading on from the start.
-- Assumes nothing.
use mathlib.Core.Path.{◌≡◌}
use lib.ListN.{drop}
use Rattle.aiger.specs.AigerReading.{more_digits}
use Rattle.aiger_lines.proofs.more_digits.Given as goal

abbrev pub invariant-loop-i : goal.invariant-loop-i
invariant-loop-i l = more_digits l.first (drop l.at l.text) ≡ more_digits l.value (drop l.i l.text)
