-- Run's outcome by its answer: a refusal changes nothing but work, and of the result only the run's bytes change.
-- Assumes nothing.
use Prim.Native.Nat.{ℕ, ◌*◌, ◌<◌}
use mathlib.Core.Path.{◌≡◌, refl}
use mathlib.Core.List.{List}
use native.Mathlib.Omega.{arith}
use lib.ListN.{length, drop, replicate}
use lib.Seq.{drop_at}
use Rattle.memory.specs.Lists.{count_if}
use Rattle.netlist.specs.Rows.{Row, is_output}
use Rattle.netlist.specs.FileFormat.{netlist_of}
use Rattle.netlist.specs.RunLayout.{run_bytes}
use Rattle.questions.specs.Questions.{no_refusal, run_refusal}
use Rattle.questions.proofs.QuestionLaws.{number-some}
use Rattle.accept.proofs.RefusalLaws.{number-positive}
use Rattle.run_answers.specs.RunAnswers.{run_refusal_in}
use Rattle.run_answers.specs.Ran.{ran_bytes, Ran}
use Rattle.run_answers.specs.declared.RunRefusal.{RunRefusal}
use Rattle.run_answers.specs.declared.RunRefusal.TheVariants.{File, Steps, Lists, Value, Memory}
use Rattle.std.specs.Prelude.{Ok, Err}

-- A refusal has a number.
pub run-positive : (r : RunRefusal) → 0 < (run_refusal_in r).number
run-positive (File r) = number-positive r
run-positive Steps = omega arith
run-positive Lists = omega arith
run-positive Value = omega arith
run-positive Memory = omega arith

-- Behind the run's bytes stands what stood behind as many bytes of the old result.
pub ran-rest : (rows : List Row) (T : ℕ) (choices inputs old : List ℕ) → drop (length (run_bytes rows choices inputs T)) (ran_bytes rows T choices inputs old) ≡ drop (T * count_if is_output rows) old
ran-rest rows T choices inputs old = drop_at (run_bytes rows choices inputs T) (drop (T * count_if is_output rows) old) (length (run_bytes rows choices inputs T)) refl

module _ (file : List ℕ) (T : ℕ) (choices inputs result work work' : List ℕ) (clear : work' ≡ replicate (length work) 0) where
  pub ran-refused : (r : RunRefusal) → run_refusal_in r ≡ run_refusal file T choices inputs (length result) (length work) → Ran file T choices inputs result result work work' (Err r)
  ran-refused r e = record { refusal = e; written = rw (number-some (run_refusal_in r) (run-positive r)).0 refl; cleared = clear }

  pub ran-done : (result' : List ℕ) → no_refusal ≡ run_refusal file T choices inputs (length result) (length work) → result' ≡ ran_bytes (netlist_of file) T choices inputs result → Ran file T choices inputs result result' work work' (Ok tt)
  ran-done result' e w = record { refusal = e; written = w; cleared = clear }
