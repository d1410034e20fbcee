-- The tally of rows: how many inputs, registers, X registers and outputs there are, in one number with 16 bits for each.
-- Interface: output_tally, row_tally, tally_of, counts_from.
-- Assumes nothing.
use Rattle.std.specs.Prelude.{ℕ, ◌+◌, ◌-◌, ◌*◌, ◌/◌, ◌%◌, ◌^◌, cond, List}
use Rattle.memory.specs.Lists.{count_if}
use Rattle.netlist.specs.Rows.{Row, is_input, is_register, is_unknown, is_output}
use Rattle.questions.specs.Questions.{Counts}

-- What an output adds.
abbrev pub output_tally : ℕ
output_tally = 2 ^ 48

-- The four counts as one number.
abbrev pub tallied : ℕ → ℕ → ℕ → ℕ → ℕ
tallied inputs registers unknown outputs = inputs + 2 ^ 16 * registers + 2 ^ 32 * unknown + output_tally * outputs

-- What a row adds.
abbrev pub row_tally : Row → ℕ
row_tally r = tallied (cond (is_input r) 1 0) (cond (is_register r) 1 0) (cond (is_unknown r) 1 0) (cond (is_output r) 1 0)

abbrev pub tally_of : List Row → ℕ
tally_of rows = tallied (count_if is_input rows) (count_if is_register rows) (count_if is_unknown rows) (count_if is_output rows)

-- The counts of n rows with this tally.
abbrev pub counts_from : ℕ → ℕ → Counts
counts_from n tally = record {
  nodes = n - tally / output_tally;
  inputs = tally % 2 ^ 16;
  registers = tally / 2 ^ 16 % 2 ^ 16;
  unknown = tally / 2 ^ 32 % 2 ^ 16;
  outputs = tally / output_tally;
}
