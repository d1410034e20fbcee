-- The offsets of rows in a buffer, one row more that stands there, and rows that stand read as they are.
-- Assumes nothing.
use Prim.Native.Nat.{ℕ, ◌+◌, ◌<◌, ◌≤◌}
use mathlib.Core.Path.{◌≡◌, sym, ap, ◌∙◌, subst}
use mathlib.Core.List.{List, [], ◌∷◌, ◌++◌}
use native.Mathlib.Omega.{arith}
use lib.ListN.{length, length-append, get_or-append}
use lib.Seq.{sets, get_or_at, ext_get_or}
use Rattle.memory.specs.Fields.{byte_at}
use Rattle.memory.proofs.TestLaws.{last_or}
use Rattle.memory.proofs.ListLaws.{tabulate-length, tabulate-at}
use Rattle.memory.proofs.FrameLaws.{kept_sets, sets-at}
use Rattle.netlist.specs.Limits.{most_folded_rows, fold_result_bytes}
use Rattle.netlist.specs.Rows.{Row, constant, encode_row, decode_row, row_at}
use Rattle.netlist.specs.FileFormat.{row_offset, row_bytes}
use Rattle.netlist.specs.WellFormed.{FieldsFit, EachRow}
use Rattle.netlist.proofs.RowLaws.{decode-row}
use Rattle.netlist.proofs.FileLaws.{fields_read}
use Rattle.blockfile.specs.RowsStand.{RowsStand, held_row, held_rows}

pub row_room : (m : ℕ) → m < most_folded_rows → row_offset m + 8 ≤ fold_result_bytes
row_room m h = omega arith

pub row_next : (i j : ℕ) → i < j → row_offset i + 8 ≤ row_offset j
row_next i j h = omega arith

-- One row more stands.
pub stand-more : (made : List Row) (result : List ℕ) (m : ℕ) (r : Row) → m ≡ length made → row_offset m + 8 ≤ length result → RowsStand made result → RowsStand (made ++ (r ∷ [])) (sets result (row_offset m) (row_bytes r))
stand-more made result m r e h s i d l b =
    last_or i m (omega (arith, length-append made (r ∷ [])))
    (λ k.
    let n = row_next i m k in
    (kept_sets (row_offset m) (row_offset m + 8) (row_bytes r) result (row_offset m) (omega arith) (omega arith)).before (row_offset i + d) (omega arith) ∙ s i d (omega arith) b
    ∙ ap (λ (z : Row). byte_at (row_bytes z) d) (sym (get_or-append made (r ∷ []) constant i (omega arith))))
    (λ k. subst (λ (z : ℕ). byte_at (sets result (row_offset m) (row_bytes r)) (row_offset z + d) ≡ byte_at (row_bytes (row_at (made ++ (r ∷ [])) z)) d) (sym k)
    (sets-at (row_bytes r) result (row_offset m) d b h ∙ ap (λ (z : Row). byte_at (row_bytes z) d) (sym (get_or_at made r [] constant m (sym e)))))

-- Rows that stand are read as they are.
pub held-are : (f : List ℕ) (n : ℕ) (rs : List Row) → length rs ≡ n → RowsStand rs f → EachRow (λ r. FieldsFit (encode_row r)) rs → held_rows f n ≡ rs
held-are f n rs size s fits =
    ext_get_or constant (held_rows f n) rs (tabulate-length n (held_row f) ∙ sym size) (λ i h.
    let l : i < n = rw (tabulate-length n (held_row f)) at h in
    let k : i < length rs = rw size l in
    tabulate-at n (held_row f) i constant l ∙ ap decode_row (fields_read f i (encode_row (row_at rs i)) (fits i k) (λ d. s i d k)) ∙ decode-row (row_at rs i))
