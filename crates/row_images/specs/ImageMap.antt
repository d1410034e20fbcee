-- The images of the original rows in `work`, and what is asked of a row whose image is made.
-- Interface: image_offset, images_in, no_literal, RowToFold.
-- Assumes nothing.
use Rattle.std.specs.Prelude.{ℕ, ◌+◌, ◌*◌, ◌<◌, ◌≤◌, List, length}
use Rattle.memory.specs.Lists.{tabulate}
use Rattle.memory.specs.Fields.{u16_at}
use Rattle.netlist.specs.Limits.{most_original_rows}
use Rattle.netlist.specs.Rows.{row_at}
use Rattle.netlist.specs.FileFormat.{netlist_of}
use Rattle.netlist.specs.WellFormed.{OperandsBelow, NextBelow}
use Rattle.blockfile.specs.Ready.{HasRows}
use Rattle.fold_memory.specs.WorkMap.{phase_bytes}

-- The image literal of row i in phase k has two bytes from here on.
abbrev pub image_offset : ℕ → ℕ → ℕ
image_offset k i = phase_bytes * k + 2 * i

-- The images of the first n rows in phase k.
unfoldable pub images_in : List ℕ → ℕ → ℕ → List ℕ
images_in w k n = tabulate n (λ i. u16_at w (image_offset k i))

-- A literal that names no row: the row would be the 32,768th, and a file has 32,256 at most.
abbrev pub no_literal : ℕ
no_literal = 65535

-- Row i stands in a file of so few rows, and its literals name rows in range. Of its kind byte nothing is asked.
pub record RowToFold (f : List ℕ) (i : ℕ) : Type 0 where
  pub file : HasRows f (length (netlist_of f))
  pub small : length (netlist_of f) ≤ most_original_rows
  pub within : i < length (netlist_of f)
  pub next : NextBelow (length (netlist_of f)) (row_at (netlist_of f) i)
  pub operands : OperandsBelow i (row_at (netlist_of f) i)
