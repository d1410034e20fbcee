-- A file and its fold, as Trace has them, and the values that are given.
-- Interface: FoldedPair, Mapped, ChoicesGiven, InputsGiven, TraceGiven.
-- Assumes nothing.
use Rattle.std.specs.Prelude.{ℕ, ◌+◌, ◌*◌, ◌<◌, ◌≤◌, ◌/◌, ◌≡◌, Bool, true, cond, List, length}
use Rattle.memory.specs.Lists.{count_if}
use Rattle.netlist.specs.Limits.{most_rows, most_original_rows, most_phases, most_steps, fold_work_bytes}
use Rattle.netlist.specs.Rows.{Row, row_at, phase_of, is_input, is_unknown}
use Rattle.netlist.specs.FileFormat.{netlist_of}
use Rattle.netlist.specs.WellFormed.{NamesUnique}
use Rattle.abstraction.specs.SameBehaviour.{StandsFor}
use Rattle.questions.specs.Questions.{all_binary}
use Rattle.blockfile.specs.Ready.{HasRows}
use Rattle.trace_columns.specs.Columns.{wanted_row, LabelsListed, ColumnsOf}

-- The original's file of n rows, and the folded netlist's of m rows and N phases.
pub record FoldedPair (file folded : List ℕ) (n m N : ℕ) : Type 0 where
  pub original : HasRows file n
  pub kept : HasRows folded m
  pub small : n ≤ most_original_rows
  pub phases : (1 ≤ N) × (N ≤ most_phases)
  pub unique : NamesUnique (netlist_of file)
  pub unphased : (x : ℕ) → x < length (netlist_of file) → phase_of (row_at (netlist_of file) x) ≡ 0
  pub kept-unique : NamesUnique (netlist_of folded)
  pub stands : StandsFor (netlist_of file) N (netlist_of folded)

-- How many phases the columns have: of X registers one.
abbrev pub phases_of : Bool → ℕ → ℕ
phases_of unknown N = cond unknown 1 N

-- The labels of the original's rows that are asked for, and the columns that the folded netlist has for them.
pub record Mapped (file folded : List ℕ) (n m N : ℕ) (unknown : Bool) (labels columns : List ℕ) (count : ℕ) : Type 0 where
  pub count-is : count ≡ count_if (wanted_row unknown) (netlist_of file)
  pub lists : LabelsListed (wanted_row unknown) (netlist_of file) n labels
  pub maps : ColumnsOf (wanted_row unknown) (netlist_of folded) m (phases_of unknown N) labels count columns
  pub room : fold_work_bytes ≤ length columns

-- A value for each X register of the folded netlist, and room for those of the original.
pub record ChoicesGiven (original folded : List Row) (choices trace : List ℕ) : Type 0 where
  pub count : length choices ≡ count_if is_unknown folded
  pub binary : all_binary choices ≡ true
  pub room : count_if is_unknown original ≤ length trace

-- Values for the folded netlist's inputs, as many groups as T steps take, and room for the original's from `to` on.
pub record InputsGiven (original folded : List Row) (N kept T : ℕ) (inputs trace : List ℕ) (to : ℕ) : Type 0 where
  pub kept-is : kept ≡ count_if is_input folded
  pub groups : (t : ℕ) → t < T → t / N * kept + kept ≤ length inputs
  pub binary : all_binary inputs ≡ true
  pub room : to + T * count_if is_input original ≤ length trace
  pub few-steps : T ≤ most_steps
  pub few-before : to ≤ most_rows

-- Values for the folded netlist, and room for the trace of T steps; the original has `to` X registers.
pub record TraceGiven (original folded : List Row) (N kept T : ℕ) (choices inputs trace : List ℕ) (to : ℕ) : Type 0 where
  pub choices-given : ChoicesGiven original folded choices trace
  pub inputs-given : InputsGiven original folded N kept T inputs trace to
  pub before : to ≡ count_if is_unknown original
