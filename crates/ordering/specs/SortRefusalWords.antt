-- What Sort asks, in words and in order: 1 to 10 of the file, where a gate may name any node, then 23 and 22. `RefusalWords` says what a refusal means.
-- Interface: SortRoom (23), LoopFree (22), asked_by_sort.
-- Assumes nothing.
use Rattle.std.specs.Prelude.{ℕ, ◌≤◌, ◌≡◌, true, List, [], ◌∷◌, ◌++◌, length}
use Rattle.memory.specs.Lists.{join_below}
use Rattle.netlist.specs.Limits.{row_work_bytes}
use Rattle.netlist.specs.Rows.{Row, row_at}
use Rattle.netlist.specs.FileFormat.{netlist_of}
use Rattle.questions.specs.RefusalWords.{Asked, ask, asked_of_unordered}
use Rattle.ordering.specs.GateOrder.{is_gate, Grounded}

-- 23: the result holds the file, and work is long enough for its rows.
abbrev pub SortRoom : List ℕ → ℕ → ℕ → Type 0
SortRoom file result work = (length file ≤ result) × (row_work_bytes (length (netlist_of file)) ≤ work)

-- 22, of row i: if it is a gate, it is neither in a loop of gates nor behind one.
abbrev pub LoopFree : List Row → ℕ → Type 0
LoopFree rows i = is_gate (row_at rows i) ≡ true → Grounded rows i

unfoldable pub asked_by_sort : List ℕ → ℕ → ℕ → List Asked
asked_by_sort file result work =
    let rows = netlist_of file in
    asked_of_unordered file
    ++ (ask 23 0 (SortRoom file result work)
    ∷ join_below (length rows) (λ i. ask 22 i (LoopFree rows i) ∷ []))
