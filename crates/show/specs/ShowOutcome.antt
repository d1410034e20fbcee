-- The entire outcome of Show, for all arguments: the scope paper, "Operations and lent memory".
-- Interface: Shown; ShownBytes is what it has in common with its export to C.
-- Assumes nothing.
use Rattle.std.specs.Prelude.{ℕ, ◌+◌, ◌*◌, ◌≡◌, cond, List, [], eqb}
use Rattle.netlist.specs.FileFormat.{row_part}
use Rattle.questions.specs.Questions.{unless_refused, show_refusal}

-- The bytes that are shown, and the two numbers that are lent.
pub record ShownBytes (file : List ℕ) (block : ℕ) (part : List ℕ) (number place : ℕ) : Type 0 where
  pub shown : part ≡ unless_refused (show_refusal file block) (row_part file block) []
  pub number_is : number ≡ (show_refusal file block).number
  pub place_is : place ≡ (show_refusal file block).place

-- The first byte of the part, counted from that of the file; the empty part of a refusal stands at the file's start.
abbrev pub part_offset : ℕ → ℕ → ℕ
part_offset number block = cond (eqb number 0) (512 * block + 4) 0

-- The part is no copy: it stands in the caller's file. Pointers are a memory block of the machine and a byte in it, `at` the file's and `shown-at` the part's.
pub record Shown (file : List ℕ) (at : ℕ × ℕ) (block : ℕ) (part : List ℕ) (shown-at : ℕ × ℕ) (number place : ℕ) : Type 0 where
  pub bytes : ShownBytes file block part number place
  pub inside : shown-at ≡ (at.0, part_offset number block + at.1)
