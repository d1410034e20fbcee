-- What Import asks, in words and in order: 23, 24, 25, then 22 of each row before sorting. `RefusalWords` says what a refusal means.
-- Interface: ImportRoom (23), TextSays (24), asked_by_import.
-- Assumes nothing.
use Rattle.std.specs.Prelude.{ℕ, ◌≤◌, List, [], ◌∷◌, length}
use Rattle.memory.specs.Lists.{join_below}
use Rattle.netlist.specs.Limits.{most_rows, import_result_bytes, import_work_bytes}
use Rattle.questions.specs.RefusalWords.{Asked, ask}
use Rattle.ordering.specs.SortRefusalWords.{LoopFree}
use Rattle.aiger.specs.AigerText.{Aiger, IsTextOf}
use Rattle.aiger.specs.AigerRows.{text_rows}

-- 23: result and work are long enough.
abbrev pub ImportRoom : ℕ → ℕ → Type 0
ImportRoom result work = (import_result_bytes ≤ result) × (import_work_bytes ≤ work)

-- 24: there is something that the text says.
abbrev pub TextSays : List ℕ → Type 0
TextSays text = (a : Aiger) × IsTextOf text a

unfoldable pub asked_by_import : List ℕ → ℕ → ℕ → List Asked
asked_by_import text result work =
    let rows = text_rows text in
    ask 23 0 (ImportRoom result work)
    ∷ ask 24 0 (TextSays text)
    ∷ ask 25 0 (length rows ≤ most_rows)
    ∷ join_below (length rows) (λ i. ask 22 i (LoopFree rows i) ∷ [])
