-- `start` meets its contract. The loop's invariant: the rows before `row` have their first values from `rows` on, no other byte is changed, and `choice` counts the X registers passed.
-- Assumes nothing.
use Rattle.std.proofs.Common.{◌≡◌, map, length, take}
use lib.Seq.{sets}
use Rattle.netlist.specs.Rows.{is_unknown}
use Rattle.netlist.specs.FileFormat.{netlist_of}
use Rattle.netlist.specs.Simulation.{bool_logic, reset_value}
use Rattle.netlist.specs.RunLayout.{place_among}
use Rattle.row_values.specs.Values.{bit_bytes}
use Rattle.simulate.specs.StepValues.{reset_choices}
use Rattle.simulate.proofs.start.Given as goal

abbrev pub invariant-loop-row : goal.invariant-loop-row
invariant-loop-row l = record {
  choice-is : l.choice ≡ place_among is_unknown (netlist_of l.file) l.row;
  room : length l.work ≡ length l.initial.work;
  values : l.work ≡ sets l.initial.work l.rows (take l.row (bit_bytes (map (reset_value bool_logic (reset_choices (netlist_of l.file) l.choices)) (netlist_of l.file))));
}
