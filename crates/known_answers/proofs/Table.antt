-- The entries of the trainer's table that are marked as proved, the printed sample and a held clock, as one claim. All but the entries on lengths are computed.
-- Assumes nothing.
use Prim.Native.Nat.{ℕ}
use mathlib.Core.Path.{◌≡◌, refl}
use mathlib.Core.Bool.{false}
use mathlib.Core.List.{List, [], ◌∷◌}
use mathlib.Core.Option.{some}
use lib.ListN.{length}
use Rattle.memory.specs.Lists.{tabulate}
use Rattle.ternary.specs.Ternary.{lo, hi, X, not3, and3, xor3, mux3}
use Rattle.netlist.specs.Limits.{fold_result_bytes, fold_work_bytes, fold_clock_entries}
use Rattle.netlist.specs.Rows.{xor_gate}
use Rattle.netlist.specs.Simulation.{values_up_to, step_values, run_state}
use Rattle.netlist.specs.FileFormat.{word_sum, fields_of, netlist_of, block_body, check_word, block_bytes, file_of}
use Rattle.lasso.specs.LassoSearch.{Lasso, earlier_equal, first_repeat, find_lasso}
use Rattle.lasso.specs.Generators.{state_value, is_generator, period_of, periods_of, best_phase_count, phase_count, clock_value}
use Rattle.lasso.specs.ClockEntries.{clock_word, bits_set, clock_entry, clock_entries}
use Rattle.abstraction.specs.GateMaking.{existing, new_row, make_and, make_xor, make_mux, add_image}
use Rattle.abstraction.specs.Unrolling.{unroll_phase, unroll_phases, phase_outputs, unrolled_netlist}
use Rattle.abstraction.specs.Compaction.{mark_sweep, mark_fixpoint, cone_of_influence, new_index, compact_up_to, compact}
use Rattle.abstraction.specs.Fold.{fold_with, fold_from_lasso, fold_netlist}
use Rattle.questions.specs.Questions.{no_refusal, length_right, block_questions, row_questions, rows_refusal, file_refusal_with, file_refusal}
use Rattle.fold_questions.specs.FoldQuestions.{original_refusal, fold_refusal}
use Rattle.known_answers.proofs.Examples.{zero_body, zero_block, wire, rise, figure2, figure2_states, ring, ring_fold, held_clock, held_clock_fold, sample, sample_fold}
use Rattle.known_answers.proofs.LongFile.{longest, longest-length, longest-accepted}

abbrev figure2_lasso : Lasso
figure2_lasso = record { stem = 2; cycle = 2 }

-- A file of a wrong length is refused with 1, whatever its bytes are.
length-refused : (f : List ℕ) → length_right f ≡ false → file_refusal f ≡ record { number = 1; place = 0 }
unfolding file_refusal_with
length-refused f h = rw h

pub record Table : Type 0 where
  -- Head 2, 0, 1, 0, all rows zero: check 4,294,901,757; refused 10.
  pub zero-rows-check : check_word zero_body ≡ 4294901757
  pub zero-rows-refused-10 : file_refusal zero_block ≡ record { number = 10; place = 0 }
  -- Lengths 0 and 511: 1. 262,144 may pass; 262,656: 1. Every file of such a length is refused.
  pub length-0-refused-1 : (f : List ℕ) → length f ≡ 0 → file_refusal f ≡ record { number = 1; place = 0 }
  pub length-511-refused-1 : (f : List ℕ) → length f ≡ 511 → file_refusal f ≡ record { number = 1; place = 0 }
  pub length-262144-passes : (length longest ≡ 262144) × (file_refusal longest ≡ no_refusal)
  pub length-262656-refused-1 : (f : List ℕ) → length f ≡ 262656 → file_refusal f ≡ record { number = 1; place = 0 }
  -- One input as output, no register: stem 0, cycle 1, N 1.
  pub no-register-stem-0-cycle-1-phases-1 : fold_netlist wire 0 ≡ some (record { stem = 0; cycle = 1; phases = 1; used = 0; before = 3; after = 3; clocks = []; rows = wire })
  -- Reset 0, next 1: stem 1, cycle 1, no generator.
  pub rise-stem-1-cycle-1 : find_lasso rise ≡ some (record { stem = 1; cycle = 1 })
  pub rise-no-generator : periods_of rise (record { stem = 1; cycle = 1 }) ≡ 0 ∷ 0 ∷ 0 ∷ []
  -- Figure 2: its states; stem 2, cycle 2; generators 10 and 01 for the first two registers, none for the others.
  pub figure-2-states : figure2_states ≡ (hi ∷ lo ∷ X ∷ lo ∷ []) ∷ (lo ∷ hi ∷ X ∷ hi ∷ []) ∷ (hi ∷ lo ∷ X ∷ X ∷ []) ∷ (lo ∷ hi ∷ X ∷ X ∷ []) ∷ (hi ∷ lo ∷ X ∷ X ∷ []) ∷ []
  pub figure-2-stem-2-cycle-2 : find_lasso figure2 ≡ some figure2_lasso
  pub figure-2-periods : periods_of figure2 figure2_lasso ≡ 0 ∷ 0 ∷ 2 ∷ 2 ∷ 0 ∷ 0 ∷ 0 ∷ 0 ∷ []
  pub figure-2-generator-10 : tabulate 2 (clock_value figure2 (periods_of figure2 figure2_lasso) 2 2) ≡ hi ∷ lo ∷ []
  pub figure-2-generator-01 : tabulate 2 (clock_value figure2 (periods_of figure2 figure2_lasso) 2 3) ≡ lo ∷ hi ∷ []
  -- Periods 1, 2, 3, 3: N 6. Periods 5, 2: N 2. None: N 1.
  pub periods-1-2-3-3-phases-6 : phase_count 0 (1 ∷ 2 ∷ 3 ∷ 3 ∷ []) ≡ 6
  pub periods-5-2-phases-2 : phase_count 0 (5 ∷ 2 ∷ []) ≡ 2
  pub no-periods-phases-1 : phase_count 0 [] ≡ 1
  -- Generator 0, 1, 1 with N 6: word 54, ones 4. The first register of a ring, whose file passes Fold's questions with wish 6; the fold's clock entries have the word and ones.
  pub generator-011-values : tabulate 3 (state_value ring 1) ≡ lo ∷ hi ∷ hi ∷ []
  pub generator-011-passes-fold : fold_refusal (file_of ring) 6 fold_result_bytes fold_work_bytes fold_clock_entries ≡ no_refusal
  pub generator-011-read : netlist_of (file_of ring) ≡ ring
  pub generator-011-word-54-ones-4 : fold_netlist ring 6 ≡ some ring_fold
  -- AND of 6 and 7: 0. XOR of 7 and 4: inverse of XOR of 4 and 6.
  pub and-6-7-is-0 : make_and 6 7 ≡ existing 0
  pub xor-7-4-is-inverse-of-xor-4-6 : make_xor 7 4 ≡ new_row (xor_gate 4 6) 1
  -- MUX with X, 1, 1: 1. So a clock behind a MUX whose selector is an input is found; that is no entry of the table.
  pub mux-x-1-1-is-1 : mux3 X hi hi ≡ hi
  pub held-clock-folds : fold_netlist held_clock 0 ≡ some held_clock_fold
  -- The printed sample: its file is accepted, passes Fold's questions, is read as its rows, and folds to the printed answer.
  pub sample-accepted : file_refusal (file_of sample) ≡ no_refusal
  pub sample-passes-fold : fold_refusal (file_of sample) 0 fold_result_bytes fold_work_bytes fold_clock_entries ≡ no_refusal
  pub sample-read : netlist_of (file_of sample) ≡ sample
  pub sample-folds : fold_netlist sample 0 ≡ some sample_fold

pub table : Table
unfolding not3 and3 xor3 mux3 values_up_to step_values run_state word_sum fields_of netlist_of block_body check_word block_bytes file_of earlier_equal first_repeat find_lasso is_generator period_of periods_of best_phase_count phase_count clock_value clock_word bits_set clock_entry clock_entries make_and make_xor make_mux add_image unroll_phase unroll_phases phase_outputs unrolled_netlist mark_sweep mark_fixpoint cone_of_influence new_index compact_up_to compact fold_with fold_from_lasso fold_netlist block_questions row_questions rows_refusal file_refusal_with original_refusal fold_refusal
table = record {
  zero-rows-check = refl;
  zero-rows-refused-10 = refl;
  length-0-refused-1 = λ f e. length-refused f (rw e);
  length-511-refused-1 = λ f e. length-refused f (rw e);
  length-262144-passes = (longest-length, longest-accepted);
  length-262656-refused-1 = λ f e. length-refused f (rw e);
  no-register-stem-0-cycle-1-phases-1 = refl;
  rise-stem-1-cycle-1 = refl;
  rise-no-generator = refl;
  figure-2-states = refl;
  figure-2-stem-2-cycle-2 = refl;
  figure-2-periods = refl;
  figure-2-generator-10 = refl;
  figure-2-generator-01 = refl;
  periods-1-2-3-3-phases-6 = refl;
  periods-5-2-phases-2 = refl;
  no-periods-phases-1 = refl;
  generator-011-values = refl;
  generator-011-passes-fold = refl;
  generator-011-read = refl;
  generator-011-word-54-ones-4 = refl;
  and-6-7-is-0 = refl;
  xor-7-4-is-inverse-of-xor-4-6 = refl;
  mux-x-1-1-is-1 = refl;
  held-clock-folds = refl;
  sample-accepted = refl;
  sample-passes-fold = refl;
  sample-read = refl;
  sample-folds = refl;
}
