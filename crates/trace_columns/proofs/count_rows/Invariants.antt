-- `count_rows`: the rows before `row` are counted.
-- Assumes nothing.
use Prim.Native.Nat.{◌≤◌}
use mathlib.Core.Path.{◌≡◌}
use Rattle.netlist.specs.FileFormat.{netlist_of}
use Rattle.netlist.specs.RunLayout.{place_among}
use Rattle.trace_columns.specs.Columns.{wanted_row}
use Rattle.trace_columns.proofs.count_rows.Given as goal

abbrev pub invariant-loop-row : goal.invariant-loop-row
invariant-loop-row l = (l.count ≤ l.row) × (l.count ≡ place_among (wanted_row l.unknown) (netlist_of l.file) l.row)
