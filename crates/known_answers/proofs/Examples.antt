-- The netlists of the trainer's table.
-- Assumes nothing.
use Prim.Native.Nat.{ℕ}
use mathlib.Core.List.{List, [], ◌∷◌, ◌++◌, map}
use lib.ListN.{take, drop, replicate}
use Rattle.memory.specs.Lists.{tabulate}
use Rattle.ternary.specs.Ternary.{Ternary}
use Rattle.netlist.specs.Rows.{Row, constant, input, register, mux_gate, output}
use Rattle.lasso.specs.TernaryRun.{ternary_state}
use Rattle.abstraction.specs.Fold.{FoldAnswer}

-- The 508 bytes before the check of one block that says it has one row, all zero; and the block with its check 4,294,901,757.
abbrev pub zero_body : List ℕ
zero_body = 2 ∷ 0 ∷ 1 ∷ 0 ∷ replicate 504 0

abbrev pub zero_block : List ℕ
zero_block = zero_body ++ 253 ∷ 255 ∷ 254 ∷ 255 ∷ []

-- One input as output, no register.
abbrev pub wire : List Row
wire = constant ∷ input 0 0 ∷ output 2 0 0 ∷ []

-- A register with reset 0 and next value 1.
abbrev pub rise : List Row
rise = constant ∷ register 0 1 0 ∷ output 2 0 0 ∷ []

-- Bjesse and Kukula's figure 2 by its states: registers 0 and 1 start as 1 and 0 and turn over at each step; register 2 takes the input; register 3 takes its own inverse if register 0 is 1, and else the input.
abbrev pub figure2 : List Row
figure2 = constant ∷ input 0 0 ∷ register 1 5 0 ∷ register 0 7 1 ∷ register 2 2 2 ∷ register 0 12 3 ∷ mux_gate 4 11 2 ∷ output 8 0 0 ∷ []

-- What its four registers hold in states 0 to 4.
abbrev pub figure2_states : List (List Ternary)
figure2_states = map (λ (s : List Ternary). take 4 (drop 2 s)) (tabulate 5 (ternary_state figure2))

-- Three registers in a ring, of which the first is 0, 1, 1 and again; and its fold in six phases, which has outputs of constants alone.
abbrev pub ring : List Row
ring = constant ∷ register 0 4 0 ∷ register 1 6 1 ∷ register 1 2 2 ∷ output 2 0 0 ∷ []

abbrev pub ring_fold : FoldAnswer
ring_fold = record {
  stem = 0;
  cycle = 3;
  phases = 6;
  used = 3;
  before = 5;
  after = 7;
  clocks = record { label = 0; period = 3; word = 54; ones = 4 } ∷ record { label = 1; period = 3; word = 27; ones = 4 } ∷ record { label = 2; period = 3; word = 45; ones = 4 } ∷ [];
  rows = constant ∷ output 0 0 0 ∷ output 1 0 1 ∷ output 1 0 2 ∷ output 0 0 3 ∷ output 1 0 4 ∷ output 1 0 5 ∷ [];
}

-- A register that takes its own inverse whatever the input selects, and its fold, which has outputs of constants alone.
abbrev pub held_clock : List Row
held_clock = constant ∷ input 0 0 ∷ register 0 6 0 ∷ mux_gate 2 5 5 ∷ output 4 0 0 ∷ []

abbrev pub held_clock_fold : FoldAnswer
held_clock_fold = record {
  stem = 0;
  cycle = 2;
  phases = 2;
  used = 1;
  before = 5;
  after = 3;
  clocks = record { label = 0; period = 2; word = 2; ones = 1 } ∷ [];
  rows = constant ∷ output 0 0 0 ∷ output 1 0 1 ∷ [];
}

-- The printed sample, and its fold.
abbrev pub sample : List Row
sample = constant ∷ input 0 0 ∷ register 0 5 0 ∷ register 0 10 1 ∷ register 0 12 2 ∷ mux_gate 4 2 6 ∷ mux_gate 4 8 6 ∷ output 8 0 0 ∷ []

abbrev pub sample_fold : FoldAnswer
sample_fold = record {
  stem = 3;
  cycle = 2;
  phases = 2;
  used = 1;
  before = 8;
  after = 6;
  clocks = record { label = 0; period = 2; word = 2; ones = 1 } ∷ [];
  rows = constant ∷ register 0 6 1 ∷ register 0 2 2 ∷ input 0 1 ∷ output 4 0 0 ∷ output 2 0 1 ∷ [];
}
