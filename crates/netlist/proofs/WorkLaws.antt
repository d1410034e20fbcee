-- The work of Run and Sort holds two bytes for each row, and a byte for each 64 of them; it is never more than 65,536 bytes.
-- Assumes nothing.
use Prim.Native.Nat.{ℕ, ◌+◌, ◌*◌, ◌≤◌, ◌/◌}
use native.Mathlib.Omega.{arith}
use lib.Dec.{leb}
use borrow.Author.Tests.{leb-true}
use Rattle.memory.proofs.TestLaws.{cond-case}
use Rattle.netlist.specs.Limits.{most_rows, small_file_rows, row_work_bytes}

pub work-holds : (n : ℕ) → n ≤ most_rows → 2 * n + (n + 63) / 64 ≤ row_work_bytes n
work-holds n h = cond-case (λ (w : ℕ). 2 * n + (n + 63) / 64 ≤ w) (leb n small_file_rows) 16384 65536 (λ e. omega (arith, leb-true n small_file_rows e)) (λ _. omega (arith, h))

pub work-most : (n : ℕ) → row_work_bytes n ≤ 65536
work-most n = cond-case (λ (w : ℕ). w ≤ 65536) (leb n small_file_rows) 16384 65536 (λ _. omega arith) (λ _. omega arith)
