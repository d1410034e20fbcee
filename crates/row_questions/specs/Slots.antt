-- Question 8's slots: inputs and outputs have one for each label and phase, registers one for each label.
-- Interface: labels, all_slots, slot_of.
-- Assumes nothing.
use Rattle.std.specs.Prelude.{ℕ, ◌+◌, ◌*◌, ◌^◌, cond}
use Rattle.netlist.specs.Limits.{most_phases}
use Rattle.netlist.specs.Rows.{Row, label_of, phase_of, is_input, is_register, is_output}

-- Labels are 0 to 65,535.
abbrev pub labels : ℕ
labels = 2 ^ 16

-- Where the registers' slots start, then the outputs', and how many slots there are.
abbrev pub register_slots : ℕ
register_slots = most_phases * labels

abbrev pub output_slots : ℕ
output_slots = register_slots + labels

abbrev pub all_slots : ℕ
all_slots = output_slots + most_phases * labels

-- The slot of a row's name; 0 where it has none.
abbrev pub slot_of : Row → ℕ
slot_of r =
    let l = label_of r in
    let p = phase_of r in
    cond (is_input r) (most_phases * l + p) (cond (is_register r) (register_slots + l) (cond (is_output r) (output_slots + most_phases * l + p) 0))
