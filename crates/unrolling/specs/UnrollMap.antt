-- The unrolling in memory: the rows made stand in `result`, the image literals in `work`.
-- Interface: images_end; the rest is between the steps.
-- Assumes nothing.
use Rattle.std.specs.Prelude.{ℕ, suc, ◌+◌, ◌*◌, ◌<◌, ◌≤◌, ◌/◌, ◌^◌, ◌≡◌, List, length, get_or}
use Rattle.std.proofs.lemmas.List.Edits.{sets}
use Rattle.memory.specs.Lists.{join_below}
use Rattle.memory.specs.Fields.{byte_at, u16_at, u16_bytes}
use Rattle.memory.specs.Frames.{KeptOutside}
use Rattle.ternary.specs.Ternary.{Ternary}
use Rattle.netlist.specs.Limits.{most_phases, most_original_rows, fold_result_bytes, fold_work_bytes}
use Rattle.netlist.specs.Rows.{Row, row_at}
use Rattle.netlist.specs.FileFormat.{row_offset, field_bytes}
use Rattle.netlist.specs.WellFormed.{NextBelow}
use Rattle.abstraction.specs.GateMaking.{Unrolling}
use Rattle.abstraction.specs.Unrolling.{patch_next, phase_output, unroll_phase, unroll_phases}
use Rattle.blockfile.specs.RowsStand.{RowsStand}
use Rattle.blockfile.specs.Appending.{RowStands}
use Rattle.gates.specs.declared.MadeImage.{MadeImage}
use Rattle.gates.specs.declared.MadeImage.TheVariants.{Existing, NewRow}
use Rattle.gates.specs.ImageCode.{made_fields}
use Rattle.row_images.specs.ImageMap.{image_offset, images_in}

-- The lent memory is large enough.
pub record Room (result work : List ℕ) : Type 0 where
  pub result-room : fold_result_bytes ≤ length result
  pub work-room : fold_work_bytes ≤ length work

-- ---- work

-- Behind all images nothing is written.
abbrev pub images_end : ℕ
images_end = image_offset most_phases 0

-- ---- an image is stored

-- With m rows made: the image's literal, how many rows it adds, and the bytes with its row.
abbrev pub literal_made : ℕ → MadeImage → ℕ
literal_made m (Existing l) = l
literal_made m (NewRow x b) = 2 * m + b

abbrev pub rows_made : MadeImage → ℕ
rows_made (Existing l) = 0
rows_made (NewRow x b) = 1

abbrev pub row_written : ℕ → MadeImage → List ℕ → List ℕ
row_written m (Existing l) result = result
row_written m (NewRow x b) result = sets result (row_offset m) (field_bytes (made_fields x))

pub record ImageStored (image : MadeImage) (m offset : ℕ) (result work result' work' : List ℕ) (r : ℕ) : Type 0 where
  pub rows : result' ≡ row_written m image result
  pub literal : work' ≡ sets work offset (u16_bytes (literal_made m image))
  pub small : literal_made m image < 2 ^ 16
  pub count : r ≡ m + rows_made image

-- ---- the phases

-- The m rows made stand in `result`, and in `work` the images of the first i rows in phase k.
pub record Stored (q : Unrolling) (k i : ℕ) (result work : List ℕ) (m : ℕ) : Type 0 where
  pub stands : RowsStand q.made result
  pub counted : m ≡ length q.made
  pub images : images_in work k i ≡ q.images

module _ (clock : ℕ → ℕ → Ternary) (rows : List Row) where
  -- Phases 0 to k - 1, and the first i rows of phase k.
  abbrev pub unrolled_to : ℕ → ℕ → Unrolling
  unrolled_to k i = let q = unroll_phases clock rows k in unroll_phase clock rows k q.made q.images i

  pub record UnderWay (k i : ℕ) (result work : List ℕ) (m : ℕ) : Type 0 where
    pub stored : Stored (unrolled_to k i) k i result work m
    pub earlier : (j : ℕ) → j < k → images_in work j (length rows) ≡ (unroll_phases clock rows (suc j)).images

-- ---- the new registers' next values

-- Row j, if it is a register, has a next value that names an original row.
abbrev pub NextFits : ℕ → List ℕ → Type 0
NextFits j f = byte_at f (row_offset j) ≡ 2 → u16_at f (row_offset j + 2) / 2 < most_original_rows

-- The rows from i on and before j have their next values' images in phase k, where these name one of n rows.
pub record NextsPatched (work : List ℕ) (k i j : ℕ) (result result' : List ℕ) : Type 0 where
  pub patched : (n : ℕ) → n ≤ most_original_rows → (x : ℕ) (r : Row) → i ≤ x → x < j → NextBelow n r → RowStands r x result → RowStands (patch_next (images_in work k n) r) x result'
  pub kept : KeptOutside (row_offset i) (row_offset j) result result'

-- ---- the outputs

-- The output of phase k for row i, and those for all rows, by the images in `work`.
abbrev pub output_at : List Row → List ℕ → ℕ → ℕ → List Row
output_at rows w k i = phase_output k (get_or (images_in w k (length rows)) i 0) (row_at rows i)

unfoldable pub outputs_in : List Row → List ℕ → ℕ → List Row
outputs_in rows w k = join_below (length rows) (output_at rows w k)
