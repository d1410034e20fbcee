-- Where a row's value stands: its place among the rows of its sort, found by name or by counting; and the outputs after all nodes.
-- Assumes nothing.
use Prim.Native.Nat.{ℕ, zero, suc, ◌+◌, ◌<◌, ◌≤◌}
use mathlib.Core.Path.{◌≡◌, refl, ap}
use mathlib.Core.Bool.{Bool, true, false, cond, not}
use mathlib.Core.List.{List, [], ◌∷◌}
use native.Mathlib.Omega.{arith}
use lib.ListN.{length, get_or}
use borrow.Author.Tests.{not-true}
use Rattle.memory.specs.Lists.{count_if}
use Rattle.memory.proofs.TestLaws.{passes, fails}
use Rattle.netlist.specs.Rows.{Row, constant, input, register, row_at, kind_of, label_of, phase_of, has_name, is_output, row_named}
use Rattle.netlist.proofs.RowLaws.{named-place}
use Rattle.netlist.specs.WellFormed.{NamesUnique}

-- ---- a row found by its name

module _ (rows : List Row) (unique : NamesUnique rows) (i : ℕ) (h : i < length rows) where
  pub input-place : (l p : ℕ) → row_at rows i ≡ input l p → row_named 1 l p rows ≡ i
  input-place l p e = named-place rows unique i h 1 l p (ap has_name e) (ap kind_of e) (ap label_of e) (ap phase_of e)

  pub register-place : (r n l : ℕ) → row_at rows i ≡ register r n l → row_named 2 l 0 rows ≡ i
  register-place r n l e = named-place rows unique i h 2 l 0 (ap has_name e) (ap kind_of e) (ap label_of e) (ap phase_of e)

-- ---- elements of one sort before all others

module _ {ℓ} {A : Type ℓ} (f : A → Bool) (d : A) where
  -- None is counted from place i on.
  count-before : (xs : List A) (i : ℕ) → ((y : ℕ) → y < length xs → f (get_or xs y d) ≡ true → y < i) → count_if f xs ≤ i
  count-before [] i h = omega arith
  count-before (x ∷ xs) zero h = go (f x) refl (count-before xs zero (λ y l e. absurd (omega (arith, h (suc y) (omega arith) e))))
    where
      go : (t : Bool) → f x ≡ t → count_if f xs ≤ 0 → cond t 1 0 + count_if f xs ≤ 0
      go true e k = absurd (omega (arith, h 0 (omega arith) e))
      go false e k = omega arith
  count-before (x ∷ xs) (suc i) h = go (f x) (count-before xs i (λ y l e. omega (arith, h (suc y) (omega arith) e)))
    where
      go : (t : Bool) → count_if f xs ≤ i → cond t 1 0 + count_if f xs ≤ suc i
      go true k = omega arith
      go false k = omega arith

  -- All are counted up to place i.
  count-upto : (xs : List A) (i : ℕ) → i < length xs → ((y : ℕ) → y ≤ i → f (get_or xs y d) ≡ true) → i < count_if f xs
  count-upto [] i l h = absurd (omega arith)
  count-upto (x ∷ xs) zero l h = rw (h 0 (omega arith)) (omega arith)
  count-upto (x ∷ xs) (suc i) l h = rw (h 0 (omega arith)) (omega (arith, count-upto xs i (omega arith) (λ y k. h (suc y) (omega arith))))

  pub count-parts : (xs : List A) → count_if (λ x. not (f x)) xs + count_if f xs ≡ length xs
  count-parts [] = omega arith
  count-parts (x ∷ xs) = go (f x) (count-parts xs)
    where
      go : (t : Bool) → count_if (λ x. not (f x)) xs + count_if f xs ≡ length xs → cond (not t) 1 0 + count_if (λ x. not (f x)) xs + (cond t 1 0 + count_if f xs) ≡ suc (length xs)
      go true e = omega arith
      go false e = omega arith

-- Where every node stands before every output, the rows before their number are the nodes.
module _ (rows : List Row) (first : (x y : ℕ) → y < length rows → is_output (row_at rows x) ≡ true → is_output (row_at rows y) ≡ false → y < x) where
  pub node-before : (i : ℕ) → i < count_if (λ r. not (is_output r)) rows → is_output (row_at rows i) ≡ false
  node-before i h =
      fails (is_output (row_at rows i)) (λ o.
      let k = count-before (λ r. not (is_output r)) constant rows i (λ y l e. first i y l o (not-true (is_output (row_at rows y)) e)) in
      omega arith)

  pub output-from : (i : ℕ) → i < length rows → count_if (λ r. not (is_output r)) rows ≤ i → is_output (row_at rows i) ≡ true
  output-from i l h =
      passes (is_output (row_at rows i)) (λ n.
      let k = count-upto (λ r. not (is_output r)) constant rows i l (λ y m. rw (fails (is_output (row_at rows y)) (λ o. omega (arith, first y i l o n, m))) refl) in
      omega arith)
