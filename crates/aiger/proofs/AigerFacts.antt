-- What is known of the rows and nodes of what an AIGER text says: where each row stands, and that a literal's node is the only one.
-- Assumes nothing.
use Prim.Native.Nat.{ℕ, ◌+◌, ◌*◌, ◌<◌, ◌/◌, ◌%◌}
use mathlib.Core.Path.{◌≡◌}
use lib.ListN.{length}
use Rattle.netlist.specs.Rows.{constant, input, row_at}
use Rattle.aiger.specs.AigerText.{Aiger, number_at, node_count, node_literal, node_of}
use Rattle.aiger.specs.AigerRows.{latch_line_of, output_line_of, gate_line_of, latch_row, gate_row, output_row, aiger_rows}

-- Of any header and lines.
pub record RowPlaces (a : Aiger) : Type 0 where
  pub count : length (aiger_rows a) ≡ node_count a.header + a.header.outputs
  pub constant-at : row_at (aiger_rows a) 0 ≡ constant
  pub input-at : (j : ℕ) → j < a.header.inputs → row_at (aiger_rows a) (1 + j) ≡ input j 0
  pub latch-at : (j : ℕ) → j < a.header.latches → row_at (aiger_rows a) (1 + a.header.inputs + j) ≡ latch_row a j
  pub gate-at : (j : ℕ) → j < a.header.gates → row_at (aiger_rows a) (1 + a.header.inputs + a.header.latches + j) ≡ gate_row a j
  pub output-at : (j : ℕ) → j < a.header.outputs → row_at (aiger_rows a) (node_count a.header + j) ≡ output_row a j
  pub input-literal : (j : ℕ) → j < a.header.inputs → node_literal a (1 + j) ≡ number_at a j 0
  pub latch-literal : (j : ℕ) → j < a.header.latches → node_literal a (1 + a.header.inputs + j) ≡ number_at a (latch_line_of a j) 0
  pub gate-literal : (j : ℕ) → j < a.header.gates → node_literal a (1 + a.header.inputs + a.header.latches + j) ≡ number_at a (gate_line_of a j) 0
  pub literal-of : (u : ℕ) → node_of a u < node_count a.header → node_literal a (node_of a u) ≡ 2 * (u / 2)

-- Of what is right.
pub record NodeFacts (a : Aiger) : Type 0 where
  pub even : (r : ℕ) → r < node_count a.header → node_literal a r % 2 ≡ 0
  pub once : (i j : ℕ) → i < node_count a.header → j < node_count a.header → node_literal a i ≡ node_literal a j → i ≡ j
  pub latch-names : (j : ℕ) → j < a.header.latches → node_of a (number_at a (latch_line_of a j) 1) < node_count a.header
  pub gate-names : (j : ℕ) → j < a.header.gates → (node_of a (number_at a (gate_line_of a j) 1) < node_count a.header) × (node_of a (number_at a (gate_line_of a j) 2) < node_count a.header)
  pub output-names : (j : ℕ) → j < a.header.outputs → node_of a (number_at a (output_line_of a j) 0) < node_count a.header
