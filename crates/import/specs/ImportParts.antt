-- What Import's parts hand on: the header's counts, and what a text is imported as.
-- Assumes nothing.
use Rattle.std.specs.Prelude.{ℕ, ◌≡◌, List, [], ◌∷◌, length, Result, leb}
use Rattle.netlist.specs.Limits.{most_rows}
use Rattle.netlist.specs.FileFormat.{file_in}
use Rattle.questions.specs.Questions.{Refusal, unless_refused, first_refusal, question}
use Rattle.ordering.specs.GateOrder.{sorted_netlist}
use Rattle.ordering.specs.SortQuestions.{loop_refusal}
use Rattle.aiger.specs.AigerRows.{text_rows}
use Rattle.aiger.specs.ImportQuestions.{is_text}
use Rattle.gate_rows.specs.declared.Pairs.{Pairs}
use Rattle.aiger_lines.specs.declared.Header.{Header}
use Rattle.import_answers.specs.ImportAnswers.{importing_refusal, rows_in}
use Rattle.import_answers.specs.declared.ImportRefusal.{ImportRefusal}

-- The header's counts as those of the rows that stand as pairs.
abbrev pub pairs_in : Header → Pairs
pairs_in h = record { inputs = h.inputs; registers = h.latches; gates = h.gates; outputs = h.outputs }

-- 24, 25 and 22.
unfoldable pub text_refusal : List ℕ → Refusal
text_refusal text = first_refusal (question 24 (is_text text) ∷ question 25 (leb (length (text_rows text)) most_rows) ∷ loop_refusal (text_rows text) ∷ [])

pub record TextImported (text result result' : List ℕ) (answer : Result ℕ ImportRefusal) : Type 0 where
  pub refusal : importing_refusal answer ≡ text_refusal text
  pub rows : rows_in answer ≡ unless_refused (text_refusal text) (length (text_rows text)) 0
  pub written : result' ≡ unless_refused (text_refusal text) (file_in (sorted_netlist (text_rows text)) result) result
