-- The entire outcome of Import, for all arguments: the change requests, "AIGER text in".
-- Interface: LeftImported, Imported.
-- Assumes nothing.
use Rattle.std.specs.Prelude.{ℕ, ◌≡◌, List, length, replicate, Result}
use Rattle.netlist.specs.FileFormat.{netlist_of, file_in, file_left}
use Rattle.questions.specs.Questions.{no_refusal, unless_refused, file_refusal}
use Rattle.ordering.specs.GateOrder.{sorted_netlist}
use Rattle.aiger.specs.AigerText.{Aiger, IsTextOf}
use Rattle.aiger.specs.AigerRows.{text_rows}
use Rattle.aiger.specs.AigerRun.{ImportKeeps}
use Rattle.aiger.specs.ImportQuestions.{import_refusal}
use Rattle.aiger.specs.ImportGuarantee.{ImportGuarantee}
use Rattle.import_answers.specs.ImportAnswers.{importing_refusal, rows_in}
use Rattle.import_answers.specs.declared.ImportRefusal.{ImportRefusal}

-- The file left: Check accepts it, and it runs as the text says.
pub record LeftImported (text left : List ℕ) : Type 0 where
  pub accepted : file_refusal left ≡ no_refusal
  pub aiger : Aiger
  pub says : IsTextOf text aiger
  pub keeps : ImportKeeps aiger (netlist_of left)

-- Result and work before and after. A refusal leaves the result as it was.
pub record Imported (text result result' work work' : List ℕ) (answer : Result ℕ ImportRefusal) : Type 0 where
  pub refusal : importing_refusal answer ≡ import_refusal text (length result) (length work)
  pub rows : rows_in answer ≡ unless_refused (importing_refusal answer) (length (text_rows text)) 0
  pub written : result' ≡ unless_refused (importing_refusal answer) (file_in (sorted_netlist (text_rows text)) result) result
  pub cleared : work' ≡ replicate (length work) 0
  pub guarantee : importing_refusal answer ≡ no_refusal → ImportGuarantee text
  pub left : importing_refusal answer ≡ no_refusal → LeftImported text (file_left result' (rows_in answer))
