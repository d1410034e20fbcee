-- The scope paper's limits, each named once: "The netlist file", "The fold" and "Questions, in order".
-- Assumes nothing.
use Rattle.std.specs.Prelude.{ℕ, ◌*◌, cond, leb}

-- A file has 1 to this many blocks; its bytes (question 1) and its rows follow.
abbrev pub most_blocks : ℕ
most_blocks = 512

abbrev pub most_file_bytes : ℕ
most_file_bytes = 512 * most_blocks

abbrev pub most_rows : ℕ
most_rows = 63 * most_blocks

-- Phases are 0 to 7, and the phase count N is 1 to 8.
abbrev pub most_phases : ℕ
most_phases = 8

-- Questions 11 and 12: rows and registers of a netlist that is folded.
abbrev pub most_original_rows : ℕ
most_original_rows = 1008

abbrev pub most_original_registers : ℕ
most_original_registers = 256

-- The folded netlist's rows.
abbrev pub most_folded_rows : ℕ
most_folded_rows = most_phases * most_original_rows

-- Question 15: what Fold is lent.
abbrev pub fold_result_bytes : ℕ
fold_result_bytes = 65536

abbrev pub fold_work_bytes : ℕ
fold_work_bytes = 49152

abbrev pub fold_clock_entries : ℕ
fold_clock_entries = 256

-- Question 16: states 1 to this one are compared with the earlier ones.
abbrev pub last_state : ℕ
last_state = 256

-- Question 17: Run's steps.
abbrev pub most_steps : ℕ
most_steps = 4096

-- Question 20 and Sort's 23: the work for a file of n rows.
abbrev pub small_file_rows : ℕ
small_file_rows = 8064

abbrev pub row_work_bytes : ℕ → ℕ
row_work_bytes n = cond (leb n small_file_rows) 16384 65536

-- Import's 23: what it is lent.
abbrev pub import_result_bytes : ℕ
import_result_bytes = 262144

abbrev pub import_work_bytes : ℕ
import_work_bytes = 196608

-- Question 26: the groups of a trace that is taken back.
abbrev pub most_groups : ℕ
most_groups = 512
