-- The tally of one row more, what it says of outputs, and the counts from it.
-- Assumes nothing.
use Prim.Native.Nat.{ℕ, zero, suc, ◌+◌, ◌<◌, ◌≤◌, ◌/◌, ◌^◌}
use mathlib.Core.Path.{◌≡◌, refl, sym, ap, ◌∙◌}
use mathlib.Core.Bool.{Bool, true, false, cond, not, ◌&&◌}
use mathlib.Core.List.{List, [], ◌∷◌}
use native.Mathlib.Omega.{arith}
use native.Mathlib.Numerals.{add-one}
use lib.Dec.{eqb, ltb}
use lib.ListN.{length, take}
use borrow.Author.Tests.{lt-ltb, le-ltb, ne_eqb}
use Rattle.memory.specs.Lists.{count_if}
use Rattle.memory.proofs.ListLaws.{count-le, count_next, count-some-le}
use Rattle.netlist.specs.Limits.{most_rows}
use Rattle.netlist.specs.Rows.{Row, constant, row_at, is_input, is_register, is_unknown, is_output}
use Rattle.questions.specs.Questions.{Counts, counts_of}
use Rattle.row_questions.specs.Tally.{output_tally, row_tally, tally_of, counts_from}
use Rattle.row_questions.specs.RowTested.{only_nodes}
use Rattle.row_questions.proofs.NameLaws.{and_yes}

-- ---- one row more

pub tally-next : (rows : List Row) (i : ℕ) → i < length rows → tally_of (take (i + 1) rows) ≡ tally_of (take i rows) + row_tally (row_at rows i)
tally-next rows i h =
    let a = count_next is_input constant rows i h in
    let b = count_next is_register constant rows i h in
    let c = count_next is_unknown constant rows i h in
    let d = count_next is_output constant rows i h in
    omega (arith, a, b, c, d)

one_at_most : (b : Bool) → cond {A = ℕ} b 1 0 ≤ 1
one_at_most true = omega arith
one_at_most false = omega arith

-- The sum has 64 bits.
pub tally-room : (rows : List Row) (i : ℕ) (r : Row) → i ≤ most_rows → tally_of (take i rows) + row_tally r < 2 ^ 64
tally-room rows i r h =
    let a = (count-some-le is_input constant rows i).0 in
    let b = (count-some-le is_register constant rows i).0 in
    let c = (count-some-le is_unknown constant rows i).0 in
    let d = (count-some-le is_output constant rows i).0 in
    omega (arith, a, b, c, d, one_at_most (is_input r), one_at_most (is_register r), one_at_most (is_unknown r), one_at_most (is_output r))

-- ---- outputs

and_no : (b : Bool) → b && false ≡ false
and_no true = refl
and_no false = refl

only_none : (rows : List Row) (n : ℕ) → n ≤ length rows → only_nodes rows n ≡ eqb (count_if is_output (take n rows)) 0
only_none rows zero h = refl
only_none rows (suc n) h =
    ap (λ (b : Bool). b && not (is_output (row_at rows n))) (only_none rows n (omega arith))
    ∙ go (count_if is_output (take n rows)) (is_output (row_at rows n))
    ∙ ap (λ (k : ℕ). eqb k 0) (sym (count_next is_output constant rows n (omega arith)) ∙ ap (λ (k : ℕ). count_if is_output (take k rows)) (add-one n))
  where
    go : (m : ℕ) (b : Bool) → eqb m 0 && not b ≡ eqb (m + cond b 1 0) 0
    go m true = and_no (eqb m 0) ∙ sym (ne_eqb (m + 1) 0 (λ e. omega arith))
    go m false = let e : m ≡ m + 0 = omega arith in sym (and_yes (eqb m 0)) ∙ ap (λ (k : ℕ). eqb k 0) e

-- No row so far is an output exactly if the tally is below an output's.
pub only-tally : (rows : List Row) (i tally : ℕ) → i ≤ length rows → i ≤ most_rows → tally ≡ tally_of (take i rows) → only_nodes rows i ≡ ltb tally output_tally
only-tally rows i tally h few e =
    let a = (count-some-le is_input constant rows i).0 in
    let b = (count-some-le is_register constant rows i).0 in
    let c = (count-some-le is_unknown constant rows i).0 in
    only_none rows i h ∙ go (count_if is_output (take i rows)) refl (λ z. omega (arith, a, b, c, e, z)) (λ z. omega (arith, e, z))
  where
    go : (m : ℕ) → count_if is_output (take i rows) ≡ m → (count_if is_output (take i rows) ≡ 0 → tally < output_tally) → (1 ≤ count_if is_output (take i rows) → output_tally ≤ tally) → eqb m 0 ≡ ltb tally output_tally
    go zero q low high = sym (lt-ltb tally output_tally (low q))
    go (suc m) q low high = ne_eqb (suc m) 0 (λ z. omega arith) ∙ sym (le-ltb tally output_tally (high (omega (arith, q))))

-- ---- the counts

nodes-left : (rows : List Row) → count_if (λ r. not (is_output r)) rows + count_if is_output rows ≡ length rows
nodes-left [] = refl
nodes-left (r ∷ rows) = go (is_output r) (nodes-left rows)
  where
    go : (b : Bool) → count_if (λ r. not (is_output r)) rows + count_if is_output rows ≡ length rows → (cond (not b) 1 0 + count_if (λ r. not (is_output r)) rows) + (cond b 1 0 + count_if is_output rows) ≡ suc (length rows)
    go true e = omega arith
    go false e = omega arith

counts-by : (c d : Counts) → c.nodes ≡ d.nodes → c.inputs ≡ d.inputs → c.registers ≡ d.registers → c.unknown ≡ d.unknown → c.outputs ≡ d.outputs → c ≡ d
counts-by c d a b e f g = rw (a, b, e, f, g) refl

module _ (rows : List Row) (n tally : ℕ) (few : n ≤ most_rows) (count : n ≡ length rows) (tally-is : tally ≡ tally_of rows) where
  pub outputs-are : tally / output_tally ≡ count_if is_output rows
  outputs-are = omega (arith, few, count, tally-is, count-le is_input rows, count-le is_register rows, count-le is_unknown rows)

  pub counts-right : counts_from n tally ≡ counts_of rows
  counts-right =
      let a = count-le is_input rows in
      let b = count-le is_register rows in
      let c = count-le is_unknown rows in
      counts-by (counts_from n tally) (counts_of rows) (omega (arith, outputs-are, nodes-left rows, count)) (omega (arith, few, count, tally-is, a)) (omega (arith, few, count, tally-is, a, b)) (omega (arith, few, count, tally-is, a, b, c)) outputs-are
