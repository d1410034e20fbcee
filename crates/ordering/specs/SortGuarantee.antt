-- What holds of a sort that is not refused, and when one is refused for a loop: the change requests, "gates in any order".
-- Interface: SortGuarantee, CheckedSorts, LoopWords.
-- Assumes nothing.
use Rattle.std.specs.Prelude.{ℕ, ◌<◌, ◌≡◌, ◌↔◌, true, List, length}
use Rattle.memory.specs.Fields.{IsBytes}
use Rattle.netlist.specs.Rows.{Row, row_at}
use Rattle.netlist.specs.FileFormat.{netlist_of, file_of}
use Rattle.questions.specs.Questions.{no_refusal, file_refusal}
use Rattle.ordering.specs.GateOrder.{is_gate, is_source, gate_order, rows_that, sorted_netlist, Grounded, IsGateOrder, Lowest}
use Rattle.ordering.specs.Loops.{LoopMeans}
use Rattle.ordering.specs.Equations.{SameRuns}
use Rattle.ordering.specs.SortQuestions.{loop_refusal, sort_memory_right, sort_refusal}

-- No gate stands before a source.
abbrev pub SourcesFirst : List Row → Type 0
SourcesFirst rows = (i j : ℕ) → j < length rows → is_gate (row_at rows i) ≡ true → is_source (row_at rows j) ≡ true → j < i

-- Of a file that is not refused.
pub record SortGuarantee (file : List ℕ) : Type 0 where
  -- the gates' order is one, always the lowest gate first, and the sorted netlist has as many rows, in a file of the same length
  pub ordered : IsGateOrder (netlist_of file) (gate_order (netlist_of file))
  pub lowest : Lowest (netlist_of file) (gate_order (netlist_of file))
  pub rows : length (sorted_netlist (netlist_of file)) ≡ length (netlist_of file)
  pub size : length (file_of (sorted_netlist (netlist_of file))) ≡ length file
  -- its file is one of bytes that Check accepts, and is read as the sorted netlist
  pub bytes : IsBytes (file_of (sorted_netlist (netlist_of file)))
  pub accepted : file_refusal (file_of (sorted_netlist (netlist_of file))) ≡ no_refusal
  pub read_back : netlist_of (file_of (sorted_netlist (netlist_of file))) ≡ sorted_netlist (netlist_of file)
  -- it runs as the original does, read by its equations
  pub runs : SameRuns (netlist_of file) (sorted_netlist (netlist_of file))
  -- of a file that Check accepts the gates keep their order; if its sources stand before its gates, the file stays as it is
  pub kept : file_refusal file ≡ no_refusal → gate_order (netlist_of file) ≡ rows_that (netlist_of file) is_gate
  pub fixed : file_refusal file ≡ no_refusal → SourcesFirst (netlist_of file) → file_of (sorted_netlist (netlist_of file)) ≡ file
  -- what is sorted is such a file: sorted again, it stays as it is
  pub again : SourcesFirst (sorted_netlist (netlist_of file)) × (sorted_netlist (sorted_netlist (netlist_of file)) ≡ sorted_netlist (netlist_of file))

-- What Check accepts is sorted, if Sort is lent enough.
abbrev pub CheckedSorts : List ℕ → Type 0
CheckedSorts file = file_refusal file ≡ no_refusal → (result work : ℕ) → sort_memory_right file result work ≡ true → sort_refusal file result work ≡ no_refusal

-- Of any rows: 22 is passed exactly if an order exists, and otherwise its place is the lowest gate that is not grounded, which is one in a loop of gates or behind one.
pub record LoopWords (rows : List Row) : Type 0 where
  pub passed : (loop_refusal rows ≡ no_refusal) ↔ ((order : List ℕ) × IsGateOrder rows order)
  pub number : (¬ (loop_refusal rows ≡ no_refusal)) → (loop_refusal rows).number ≡ 22
  pub place : (i : ℕ) → i < length rows → (loop_refusal rows ≡ record { number = 22; place = i }) ↔ ((is_gate (row_at rows i) ≡ true) × ((¬ Grounded rows i) × ((j : ℕ) → j < i → is_gate (row_at rows j) ≡ true → Grounded rows j)))
  pub means : LoopMeans rows
