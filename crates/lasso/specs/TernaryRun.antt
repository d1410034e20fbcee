-- The three-valued run of a netlist: the scope paper, "Values over time".
-- Interface: ternary_logic, ternary_state.
-- Assumes nothing.
use Rattle.std.specs.Prelude.{ℕ, List}
use Rattle.ternary.specs.Ternary.{Ternary, lo, X, not3, and3, xor3, mux3}
use Rattle.netlist.specs.Rows.{Row}
use Rattle.netlist.specs.Simulation.{Logic, run_state}

-- The three values with their rules.
abbrev pub ternary_logic : Logic
ternary_logic = record { Value = Ternary; low = lo; inverse = not3; and_of = and3; xor_of = xor3; mux_of = mux3 }

-- State t of the three-valued run.
abbrev pub ternary_state : List Row → ℕ → List Ternary
ternary_state rows t = run_state ternary_logic rows (λ l. X) (λ s l p. X) t
