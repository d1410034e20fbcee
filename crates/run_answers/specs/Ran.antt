-- The entire outcome of Run, for all arguments: the scope paper, "Operations and lent memory".
-- Interface: Ran.
-- Assumes nothing.
use Rattle.std.specs.Prelude.{ℕ, ◌*◌, ◌≡◌, List, ◌++◌, length, drop, replicate, Result}
use Rattle.memory.specs.Lists.{count_if}
use Rattle.netlist.specs.Rows.{Row, is_output}
use Rattle.netlist.specs.FileFormat.{netlist_of}
use Rattle.netlist.specs.RunLayout.{run_bytes}
use Rattle.questions.specs.Questions.{unless_refused, run_refusal}
use Rattle.run_answers.specs.RunAnswers.{run_answered}
use Rattle.run_answers.specs.declared.RunRefusal.{RunRefusal}

-- The outputs' bytes of T steps, and the rest of the old result.
abbrev pub ran_bytes : List Row → ℕ → List ℕ → List ℕ → List ℕ → List ℕ
ran_bytes rows T choices inputs old = run_bytes rows choices inputs T ++ drop (T * count_if is_output rows) old

-- Result and work before and after. A refusal leaves the result as it was.
pub record Ran (file : List ℕ) (T : ℕ) (choices inputs result result' work work' : List ℕ) (answer : Result Unit RunRefusal) : Type 0 where
  pub refusal : run_answered answer ≡ run_refusal file T choices inputs (length result) (length work)
  pub written : result' ≡ unless_refused (run_answered answer) (ran_bytes (netlist_of file) T choices inputs result) result
  pub cleared : work' ≡ replicate (length work) 0
