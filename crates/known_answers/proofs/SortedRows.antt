-- Netlists whose gates stand in any order, and what Sort makes of each, computed from the definitions.
-- Assumes nothing.
use mathlib.Core.Path.{◌≡◌, refl}
use mathlib.Core.List.{List, [], ◌∷◌}
use Rattle.netlist.specs.Rows.{Row, constant, input, register, and_gate, xor_gate, mux_gate, output}
use Rattle.questions.specs.Questions.{no_refusal}
use Rattle.ordering.specs.GateOrder.{lowest_ready, placed_gates, gate_order, sorted_order, new_number, sorted_netlist}
use Rattle.ordering.specs.SortQuestions.{loop_refusal}
use Rattle.known_answers.proofs.Examples.{sample}

-- The printed sample, drawn with its gates first.
abbrev drawn : List Row
drawn = constant ∷ mux_gate 8 6 10 ∷ mux_gate 8 12 10 ∷ input 0 0 ∷ register 0 9 0 ∷ register 0 2 1 ∷ register 0 4 2 ∷ output 12 0 0 ∷ []

-- Gates 4, 1, 2, 3 in this order: gate 1 can be placed only after gate 4, and then comes before 2 and 3.
abbrev crossed : List Row
crossed = constant ∷ and_gate 9 10 ∷ xor_gate 10 2 ∷ and_gate 2 4 ∷ and_gate 10 11 ∷ input 7 0 ∷ output 7 3 0 ∷ []

-- Row 2 is behind the loop of rows 3 and 4.
abbrev looped : List Row
looped = constant ∷ input 0 0 ∷ and_gate 2 6 ∷ and_gate 8 2 ∷ xor_gate 6 2 ∷ output 4 0 0 ∷ []

pub record SortedRows : Type 0 where
  pub drawn-passes : loop_refusal drawn ≡ no_refusal
  pub drawn-sorts : sorted_netlist drawn ≡ sample
  pub crossed-order : gate_order crossed ≡ 4 ∷ 1 ∷ 2 ∷ 3 ∷ []
  pub crossed-sorts : sorted_netlist crossed ≡ constant ∷ input 7 0 ∷ and_gate 2 3 ∷ and_gate 5 2 ∷ xor_gate 2 6 ∷ and_gate 6 8 ∷ output 11 3 0 ∷ []
  pub looped-refused-22-2 : loop_refusal looped ≡ record { number = 22; place = 2 }

pub sorted-rows : SortedRows
unfolding lowest_ready placed_gates gate_order sorted_order new_number sorted_netlist loop_refusal
sorted-rows = record { drawn-passes = refl; drawn-sorts = refl; crossed-order = refl; crossed-sorts = refl; looped-refused-22-2 = refl }
