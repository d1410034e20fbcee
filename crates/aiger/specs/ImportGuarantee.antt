-- What holds of an import that is not refused: the change requests, "AIGER text in".
-- Interface: ImportGuarantee.
-- Assumes nothing.
use Rattle.std.specs.Prelude.{ℕ, ◌≤◌, ◌≡◌, List, length}
use Rattle.memory.specs.Fields.{IsBytes}
use Rattle.netlist.specs.Limits.{most_rows}
use Rattle.netlist.specs.FileFormat.{netlist_of, file_of}
use Rattle.questions.specs.Questions.{no_refusal, file_refusal}
use Rattle.ordering.specs.GateOrder.{gate_order, sorted_netlist, IsGateOrder, Lowest}
use Rattle.aiger.specs.AigerText.{Aiger, IsTextOf}
use Rattle.aiger.specs.AigerRows.{aiger_rows, text_rows}
use Rattle.aiger.specs.AigerRun.{ImportKeeps}

pub record ImportGuarantee (text : List ℕ) : Type 0 where
  -- what the text says, and its rows
  pub aiger : Aiger
  pub says : IsTextOf text aiger
  pub rows : text_rows text ≡ aiger_rows aiger
  -- the gates' order is one, always the lowest gate first, and the sorted netlist has as many rows
  pub ordered : IsGateOrder (text_rows text) (gate_order (text_rows text))
  pub lowest : Lowest (text_rows text) (gate_order (text_rows text))
  pub count : length (sorted_netlist (text_rows text)) ≡ length (text_rows text)
  pub few : length (sorted_netlist (text_rows text)) ≤ most_rows
  -- its file is one of bytes that Check accepts, and is read as the sorted netlist
  pub bytes : IsBytes (file_of (sorted_netlist (text_rows text)))
  pub accepted : file_refusal (file_of (sorted_netlist (text_rows text))) ≡ no_refusal
  pub read_back : netlist_of (file_of (sorted_netlist (text_rows text))) ≡ sorted_netlist (text_rows text)
  -- it runs as the text says
  pub keeps : ImportKeeps aiger (sorted_netlist (text_rows text))
