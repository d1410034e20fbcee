-- The rows of what an AIGER text says, before they are sorted: the change requests, "AIGER text in".
-- Constant, inputs, latches, gates in the text's order, outputs; labels are positions, from 0 in each list.
-- Interface: latch_line_of, output_line_of, gate_line_of, row_literal, reset_code, aiger_rows, text_rows.
-- Assumes nothing.
use Rattle.std.specs.Prelude.{ℕ, ◌+◌, ◌*◌, ◌%◌, cond, List, [], ◌∷◌, ◌++◌, length, get_or, eqb, leb}
use Rattle.std.proofs.Math.Option.{none, some}
use Rattle.memory.specs.Lists.{tabulate}
use Rattle.netlist.specs.Rows.{Row, constant, input, register, and_gate, output}
use Rattle.aiger.specs.AigerText.{Aiger, line_at, number_at, node_of}
use Rattle.aiger.specs.AigerReading.{read_aiger}

-- The lines of latch, output and gate j; input j has line j.
abbrev pub latch_line_of : Aiger → ℕ → ℕ
latch_line_of a j = a.header.inputs + j

abbrev pub output_line_of : Aiger → ℕ → ℕ
output_line_of a j = a.header.inputs + a.header.latches + j

abbrev pub gate_line_of : Aiger → ℕ → ℕ
gate_line_of a j = a.header.inputs + a.header.latches + a.header.outputs + j

-- The text's literal u as the rows have it: its node in place of its variable.
abbrev pub row_literal : Aiger → ℕ → ℕ
row_literal a u = 2 * node_of a u + u % 2

-- A latch's reset, ns its line: missing is 0, and the latch itself is 2, unknown.
abbrev pub reset_code : List ℕ → ℕ
reset_code ns = cond (eqb (length ns) 3) (cond (leb (get_or ns 2 0) 1) (get_or ns 2 0) 2) 0

abbrev pub latch_row : Aiger → ℕ → Row
latch_row a j = let k = latch_line_of a j in register (reset_code (line_at a k)) (row_literal a (number_at a k 1)) j

abbrev pub gate_row : Aiger → ℕ → Row
gate_row a j = let k = gate_line_of a j in and_gate (row_literal a (number_at a k 1)) (row_literal a (number_at a k 2))

abbrev pub output_row : Aiger → ℕ → Row
output_row a j = output (row_literal a (number_at a (output_line_of a j) 0)) j 0

unfoldable pub aiger_rows : Aiger → List Row
aiger_rows a =
    constant
    ∷ tabulate a.header.inputs (λ j. input j 0)
    ++ tabulate a.header.latches (latch_row a)
    ++ tabulate a.header.gates (gate_row a)
    ++ tabulate a.header.outputs (output_row a)

-- The rows of a text; none for other text.
unfoldable pub text_rows : List ℕ → List Row
text_rows text = elim (read_aiger text) [ none ↦ [] | some a ↦ aiger_rows a ]
