-- The rows of what an AIGER text says rightly are a netlist whose gates may stand in any order, and their labels fit their fields.
-- Assumes nothing.
use Prim.Native.Nat.{ℕ, ◌+◌, ◌<◌, ◌≤◌, ◌/◌, ◌^◌}
use mathlib.Core.Path.{◌≡◌, refl, sym, ap₂, ◌∙◌}
use mathlib.Core.Bool.{true, false, cond, ◌&&◌, false≢true}
use mathlib.Core.List.{List}
use native.Mathlib.Omega.{arith}
use native.Mathlib.Decide.{dec_lt}
use lib.ListN.{length, get_or}
use lib.Dec.{eqb, leb}
use borrow.Author.Tests.{leb-true}
use Rattle.memory.proofs.TestLaws.{and-true, cond-case}
use Rattle.netlist.specs.Limits.{most_phases, most_rows}
use Rattle.netlist.specs.Rows.{Row, constant, input, row_at, kind_of, label_of, phase_of, has_name, is_output}
use Rattle.netlist.specs.WellFormed.{NextBelow, ResetIn, NamesNode, OnLiterals, UnorderedRows}
use Rattle.netlist.proofs.RowLaws.{named-alike}
use Rattle.aiger.specs.AigerText.{Aiger, line_at, number_at, node_count, node_of, is_distinct, is_defined, lines_right, aiger_right}
use Rattle.aiger.specs.AigerRows.{latch_line_of, output_line_of, gate_line_of, row_literal, reset_code, latch_row, gate_row, output_row, aiger_rows}
use Rattle.aiger.proofs.AigerFacts.{RowPlaces}
use Rattle.aiger.proofs.NodeLaws.{row-places, each-place, node-facts, some-output}

pub record RightParts (a : Aiger) : Type 0 where
  pub lines : lines_right a ≡ true
  pub distinct : is_distinct a ≡ true
  pub defined : is_defined a ≡ true

pub right-parts : (a : Aiger) → aiger_right a ≡ true → RightParts a
unfolding aiger_right
right-parts a h =
    let q = and-true (lines_right a && is_distinct a) (is_defined a) h in
    let p = and-true (lines_right a) (is_distinct a) q.0 in
    record { lines = p.0; distinct = p.1; defined = q.1 }

reset-le : (ns : List ℕ) → reset_code ns ≤ 2
reset-le ns =
    cond-case (λ (k : ℕ). k ≤ 2) (eqb (length ns) 3) _ _
    (λ _. cond-case (λ (k : ℕ). k ≤ 2) (leb (get_or ns 2 0) 1) _ _ (λ e. omega (arith, leb-true (get_or ns 2 0) 1 e)) (λ _. omega arith))
    (λ _. omega arith)

module _ (a : Aiger) where
  abbrev rows : List Row
  rows = aiger_rows a

  abbrev n : ℕ
  n = node_count a.header

  abbrev R : RowPlaces a
  R = row-places a

  -- What holds of each kind of row at its place holds of every row.
  module _ (P : ℕ → Row → Type 0) (constant-has : P 0 constant) (input-has : (j : ℕ) → j < a.header.inputs → P (1 + j) (input j 0)) (latch-has : (j : ℕ) → j < a.header.latches → P (1 + a.header.inputs + j) (latch_row a j)) (gate-has : (j : ℕ) → j < a.header.gates → P (1 + a.header.inputs + a.header.latches + j) (gate_row a j)) (output-has : (j : ℕ) → j < a.header.outputs → P (n + j) (output_row a j)) where
    pub each_row : (x : ℕ) → x < length rows → P x (row_at rows x)
    each_row x h =
        each-place a (λ y. P y (row_at rows y)) (rw R.constant-at constant-has) (λ j l. rw (R.input-at j l) (input-has j l)) (λ j l. rw (R.latch-at j l) (latch-has j l))
        (λ j l. rw (R.gate-at j l) (gate-has j l)) (λ j l. rw (R.output-at j l) (output-has j l)) x (omega (arith, R.count))

  node_row : (x : ℕ) → x < length rows → x < n → is_output (row_at rows x) ≡ false
  node_row = each_row (λ x r. x < n → is_output r ≡ false) (λ _. refl) (λ j l _. refl) (λ j l _. refl) (λ j l _. refl) (λ j l h. absurd (omega arith))

  row-node : (x : ℕ) → x < length rows → is_output (row_at rows x) ≡ false → x < n
  row-node = each_row (λ x r. is_output r ≡ false → x < n) (λ _. omega arith) (λ j l _. omega arith) (λ j l _. omega arith) (λ j l _. omega arith) (λ j l h. absurd (false≢true (sym h)))

  names-node : (u : ℕ) → node_of a u < n → NamesNode rows (row_literal a u)
  names-node u h =
      let node : row_literal a u / 2 ≡ node_of a u = omega arith in
      let lt : node_of a u < length rows = omega (arith, R.count) in
      rw node (lt, node_row (node_of a u) lt h)

  -- A row that has a name stands where its kind and label say.
  abbrev place_named : ℕ → ℕ → ℕ
  place_named kind label = cond (eqb kind 1) (1 + label) (cond (eqb kind 2) (1 + a.header.inputs + label) (n + label))

  place-named : (x : ℕ) → x < length rows → has_name (row_at rows x) ≡ true → x ≡ place_named (kind_of (row_at rows x)) (label_of (row_at rows x))
  place-named = each_row (λ x r. has_name r ≡ true → x ≡ place_named (kind_of r) (label_of r)) (λ h. absurd (false≢true h)) (λ j l _. refl) (λ j l _. refl) (λ j l h. absurd (false≢true h)) (λ j l _. refl)

  pub label-le : (x : ℕ) → x < length rows → label_of (row_at rows x) ≤ x
  label-le = each_row (λ x r. label_of r ≤ x) (omega arith) (λ j l. omega arith) (λ j l. omega arith) (λ j l. omega arith) (λ j l. omega arith)

  pub aiger-labels : length rows ≤ most_rows → (x : ℕ) → x < length rows → label_of (row_at rows x) < 2 ^ 16
  aiger-labels few x h = omega (arith, label-le x h)

  pub aiger-unordered : aiger_right a ≡ true → UnorderedRows rows
  aiger-unordered right =
      let p = right-parts a right in
      let N = node-facts a p.lines p.distinct p.defined in
      record {
        operands =
            each_row (λ x r. OnLiterals (NamesNode rows) (NamesNode rows) r) tt (λ j l. tt)
            (λ j l. names-node (number_at a (latch_line_of a j) 1) (N.latch-names j l))
            (λ j l. (names-node (number_at a (gate_line_of a j) 1) (N.gate-names j l).0, names-node (number_at a (gate_line_of a j) 2) (N.gate-names j l).1))
            (λ j l. names-node (number_at a (output_line_of a j) 0) (N.output-names j l));
        nexts = each_row (λ x r. NextBelow (length rows) r) tt (λ j l. tt) (λ j l. (names-node (number_at a (latch_line_of a j) 1) (N.latch-names j l)).0) (λ j l. tt) (λ j l. tt);
        resets = each_row (λ x r. ResetIn r) tt (λ j l. tt) (λ j l. reset-le (line_at a (latch_line_of a j))) (λ j l. tt) (λ j l. tt);
        phases = each_row (λ x r. phase_of r < most_phases) (omega arith) (λ j l. omega arith) (λ j l. omega arith) (λ j l. omega arith) (λ j l. omega arith);
        constant-first = R.constant-at;
        constant-only = each_row (λ x r. kind_of r ≡ 0 → x ≡ 0) (λ _. refl) (λ j l h. absurd (omega arith)) (λ j l h. absurd (omega arith)) (λ j l h. absurd (omega arith)) (λ j l h. absurd (omega arith));
        nodes-first = nodes-first;
        has-output = (n + 0, row_literal a (number_at a (output_line_of a 0) 0), 0, 0, omega (arith, R.count, some-output a p.lines), R.output-at 0 (some-output a p.lines));
        unique = λ x y hx hy nx s.
            place-named x hx nx
            ∙ ap₂ place_named s.kind s.label
            ∙ sym (place-named y hy (named-alike (row_at rows x) (row_at rows y) s.kind nx));
      }
    where
      nodes-first : (x y : ℕ) → y < length rows → is_output (row_at rows x) ≡ true → is_output (row_at rows y) ≡ false → y < x
      nodes-first x y h o i = elim (dec_lt x n) [
        | yes l ↦ absurd (false≢true (sym (node_row x (omega (arith, R.count)) l) ∙ o))
        | no l ↦ omega (arith, row-node y h i)
      ]
