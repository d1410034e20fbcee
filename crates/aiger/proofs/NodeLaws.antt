-- Where each row and each node of what an AIGER text says stands, and what holds of the nodes of what is right.
-- Assumes nothing.
use Prim.Native.Nat.{ℕ, suc, ◌+◌, ◌-◌, ◌*◌, ◌<◌, ◌≤◌, ◌/◌, ◌%◌}
use mathlib.Core.Path.{◌≡◌, sym, ◌∙◌, subst}
use mathlib.Core.Bool.{Bool, true, ◌&&◌, ◌||◌}
use mathlib.Core.List.{List, ◌∷◌, ◌++◌}
use native.Mathlib.Omega.{arith}
use native.Mathlib.Decide.{dec_lt}
use lib.ListN.{length, get_or, length-append, get_or-append}
use lib.Seq.{get_or-append-add}
use lib.Dec.{eqb, ltb, leb}
use borrow.Author.Tests.{ltb-true, eqb-true, lt-ltb, le-ltb, eq-eqb}
use Rattle.memory.specs.Lists.{all_of, tabulate}
use Rattle.memory.proofs.TestLaws.{and-true, not-both}
use Rattle.memory.proofs.ListLaws.{all_below-at, tabulate-length, tabulate-at, first-is}
use Rattle.netlist.specs.Rows.{Row, constant, input, row_at}
use Rattle.aiger.specs.AigerText.{Header, Aiger, line_count, line_at, number_at, Section, input_line, latch_line, output_line, gate_line, section_of, definition_right, line_right, uses_in, node_count, node_literal, node_of, is_distinct, is_defined, lines_right}
use Rattle.aiger.specs.AigerRows.{latch_line_of, output_line_of, gate_line_of, latch_row, gate_row, output_row, aiger_rows}
use Rattle.aiger.proofs.AigerFacts.{RowPlaces, NodeFacts}

-- ---- a list, and a table after it

module _ {A : Type 0} (xs : List A) (m : ℕ) (size : length xs ≡ m) (n : ℕ) (f : ℕ → A) where
  table-length : length (xs ++ tabulate n f) ≡ m + n
  table-length = omega (arith, length-append xs (tabulate n f), tabulate-length n f)

  table_before : (j : ℕ) (d : A) → j < m → get_or (xs ++ tabulate n f) j d ≡ get_or xs j d
  table_before j d h = get_or-append xs (tabulate n f) d j (omega arith)

  table_at : (j : ℕ) (d : A) → j < n → get_or (xs ++ tabulate n f) (m + j) d ≡ f j
  table_at j d h = rw (← size) (get_or-append-add xs (tabulate n f) j d ∙ tabulate-at n f j d h)

-- ---- lines

-- Every line but an output's defines a node.
abbrev Defines : Section → Type 0
Defines input_line = Unit {0}
Defines latch_line = Unit {0}
Defines output_line = ⊥
Defines gate_line = Unit {0}

even : (h : Header) (d : ℕ) → definition_right h d ≡ true → d % 2 ≡ 0
even h d r = eqb-true (d % 2) 0 (and-true (eqb (d % 2) 0) (leb 2 d) (and-true (eqb (d % 2) 0 && leb 2 d) (leb d (2 * h.maximum)) r).0).0

definition-even : (h : Header) (s : Section) (ns : List ℕ) → line_right h s ns ≡ true → Defines s → get_or ns 0 0 % 2 ≡ 0
definition-even h input_line ns r n = even h (get_or ns 0 0) (and-true (eqb (length ns) 1) (definition_right h (get_or ns 0 0)) r).1
definition-even h latch_line ns r n = even h (get_or ns 0 0) (and-true (eqb (length ns) 2 || (eqb (length ns) 3 && (leb (get_or ns 2 0) 1 || eqb (get_or ns 2 0) (get_or ns 0 0)))) (definition_right h (get_or ns 0 0)) r).1
definition-even h output_line ns r n = absurd n
definition-even h gate_line ns r n = even h (get_or ns 0 0) (and-true (eqb (length ns) 3) (definition_right h (get_or ns 0 0)) r).1

-- ---- rows

module _ (a : Aiger) where
  abbrev I : ℕ
  I = a.header.inputs

  abbrev L : ℕ
  L = a.header.latches

  abbrev G : ℕ
  G = a.header.gates

  abbrev O : ℕ
  O = a.header.outputs

  -- The constant and the inputs; with the latches; with the gates.
  abbrev sources : List Row
  sources = constant ∷ tabulate I (λ j. input j 0)

  abbrev states : List Row
  states = sources ++ tabulate L (latch_row a)

  abbrev nodes : List Row
  nodes = states ++ tabulate G (gate_row a)

  sources-length : length sources ≡ 1 + I
  sources-length = omega (arith, tabulate-length I (λ (j : ℕ). input j 0))

  states-length : length states ≡ 1 + I + L
  states-length = table-length sources (1 + I) sources-length L (latch_row a)

  nodes-length : length nodes ≡ node_count a.header
  nodes-length = table-length states (1 + I + L) states-length G (gate_row a)

  states-before : (x : ℕ) → x < 1 + I → row_at states x ≡ row_at sources x
  states-before x h = table_before sources (1 + I) sources-length L (latch_row a) x constant h

  nodes-before : (x : ℕ) → x < 1 + I + L → row_at nodes x ≡ row_at states x
  nodes-before x h = table_before states (1 + I + L) states-length G (gate_row a) x constant h

  rows_before : (x : ℕ) → x < node_count a.header → row_at (aiger_rows a) x ≡ row_at nodes x
  unfolding aiger_rows
  rows_before x h = table_before nodes (node_count a.header) nodes-length O (output_row a) x constant h

  input-row : (j : ℕ) → j < I → row_at (aiger_rows a) (1 + j) ≡ input j 0
  input-row j h =
      let one : 1 + j ≡ suc j = omega arith in
      rows_before (1 + j) (omega arith) ∙ nodes-before (1 + j) (omega arith) ∙ states-before (1 + j) (omega arith) ∙ rw one (tabulate-at I (λ j. input j 0) j constant h)

  latch-row : (j : ℕ) → j < L → row_at (aiger_rows a) (1 + I + j) ≡ latch_row a j
  latch-row j h = rows_before (1 + I + j) (omega arith) ∙ nodes-before (1 + I + j) (omega arith) ∙ table_at sources (1 + I) sources-length L (latch_row a) j constant h

  gate-row : (j : ℕ) → j < G → row_at (aiger_rows a) (1 + I + L + j) ≡ gate_row a j
  gate-row j h = rows_before (1 + I + L + j) (omega arith) ∙ table_at states (1 + I + L) states-length G (gate_row a) j constant h

  output-row : (j : ℕ) → j < O → row_at (aiger_rows a) (node_count a.header + j) ≡ output_row a j
  unfolding aiger_rows
  output-row j h = table_at nodes (node_count a.header) nodes-length O (output_row a) j constant h

  rows-count : length (aiger_rows a) ≡ node_count a.header + O
  unfolding aiger_rows
  rows-count = table-length nodes (node_count a.header) nodes-length O (output_row a)

  -- ---- nodes

  -- Node 1 + k is defined on line k, or on the line that the outputs are before.
  pub early-literal : (r k : ℕ) → r ≡ suc k → k < I + L → node_literal a r ≡ number_at a k 0
  early-literal r k e h = rw (e, lt-ltb k (I + L) h)

  pub late-literal : (r k : ℕ) → r ≡ suc k → I + L ≤ k → node_literal a r ≡ number_at a (k + O) 0
  late-literal r k e h = rw (e, le-ltb k (I + L) h)

  gate-defined : (j : ℕ) → node_literal a (1 + I + L + j) ≡ number_at a (gate_line_of a j) 0
  gate-defined j =
      let line : I + L + j + O ≡ gate_line_of a j = omega arith in
      rw (← line) (late-literal (1 + I + L + j) (I + L + j) (omega arith) (omega arith))

  named : (u : ℕ) → node_of a u < node_count a.header → node_literal a (node_of a u) ≡ 2 * (u / 2)
  named u h = eqb-true _ _ ((first-is 0 (node_count a.header) (λ r. eqb (node_literal a r) (2 * (u / 2)))).holds (omega arith))

  pub row-places : RowPlaces a
  row-places = record {
    count = rows-count;
    constant-at = rows_before 0 (omega arith) ∙ nodes-before 0 (omega arith) ∙ states-before 0 (omega arith);
    input-at = input-row;
    latch-at = latch-row;
    gate-at = gate-row;
    output-at = output-row;
    input-literal = λ j h. early-literal (1 + j) j (omega arith) (omega arith);
    latch-literal = λ j h. early-literal (1 + I + j) (I + j) (omega arith) (omega arith);
    gate-literal = λ j _. gate-defined j;
    literal-of = named;
  }

  -- ---- each row is the constant's, an input's, a latch's, a gate's or an output's

  pub data Place (x : ℕ) : Type 0 where
    at_constant : x ≡ 0 → Place x
    at-input : (j : ℕ) → j < I → x ≡ 1 + j → Place x
    at-latch : (j : ℕ) → j < L → x ≡ 1 + I + j → Place x
    at-gate : (j : ℕ) → j < G → x ≡ 1 + I + L + j → Place x
    at-output : (j : ℕ) → j < O → x ≡ node_count a.header + j → Place x

  pub place_of : (x : ℕ) → x < node_count a.header + O → Place x
  place_of x h =
      below_or x 1 (λ l. at_constant (omega arith))
      (λ k. below_or x (1 + I) (λ l. at-input (x - 1) (omega arith) (omega arith))
      (λ k. below_or x (1 + I + L) (λ l. at-latch (x - (1 + I)) (omega arith) (omega arith))
      (λ k. below_or x (node_count a.header) (λ l. at-gate (x - (1 + I + L)) (omega arith) (omega arith))
      (λ k. at-output (x - node_count a.header) (omega arith) (omega arith)))))
    where
      below_or : (x n : ℕ) → (x < n → Place x) → (n ≤ x → Place x) → Place x
      below_or x n f g = elim (dec_lt x n) [ yes l ↦ f l | no l ↦ g (omega arith) ]

  -- What holds at each place holds of every row number.
  pub each-place : (Q : ℕ → Type 0) → Q 0 → ((j : ℕ) → j < I → Q (1 + j)) → ((j : ℕ) → j < L → Q (1 + I + j)) → ((j : ℕ) → j < G → Q (1 + I + L + j)) → ((j : ℕ) → j < O → Q (node_count a.header + j)) → (x : ℕ) → x < node_count a.header + O → Q x
  each-place Q c i l g o x h = by (place_of x h)
    where
      by : Place x → Q x
      by (at_constant e) = rw e c
      by (at-input j b e) = rw e (i j b)
      by (at-latch j b e) = rw e (l j b)
      by (at-gate j b e) = rw e (g j b)
      by (at-output j b e) = rw e (o j b)

  -- ---- lines

  input-section : (j : ℕ) → j < I → section_of a.header j ≡ input_line
  input-section j h = rw (lt-ltb j I h)

  pub latch-section : (j : ℕ) → j < L → section_of a.header (latch_line_of a j) ≡ latch_line
  latch-section j h = rw (le-ltb (I + j) I (omega arith), lt-ltb (I + j) (I + L) (omega arith))

  pub output-section : (j : ℕ) → j < O → section_of a.header (output_line_of a j) ≡ output_line
  output-section j h = rw (le-ltb (I + L + j) I (omega arith), le-ltb (I + L + j) (I + L) (omega arith), lt-ltb (I + L + j) (I + L + O) (omega arith))

  pub gate-section : (j : ℕ) → section_of a.header (gate_line_of a j) ≡ gate_line
  gate-section j = rw (le-ltb (I + L + O + j) I (omega arith), le-ltb (I + L + O + j) (I + L) (omega arith), le-ltb (I + L + O + j) (I + L + O) (omega arith))

  module _ (right : lines_right a ≡ true) where
    pub some-output : 0 < O
    unfolding lines_right
    some-output = ltb-true 0 O (and-true (ltb 0 O) _ right).0

    line-right : (k : ℕ) (s : Section) → section_of a.header k ≡ s → k < line_count a.header → line_right a.header s (line_at a k) ≡ true
    unfolding lines_right
    line-right k s e h = subst (λ (s : Section). line_right a.header s (line_at a k) ≡ true) e (all_below-at (line_count a.header) (λ k. line_right a.header (section_of a.header k) (line_at a k)) (and-true (ltb 0 O) _ right).1 k h)

    -- What a node is defined by is an even literal.
    even-at : (k : ℕ) (s : Section) → section_of a.header k ≡ s → k < line_count a.header → Defines s → number_at a k 0 % 2 ≡ 0
    even-at k s e h n = definition-even a.header s (line_at a k) (line-right k s e h) n

    pub literal-even : (r : ℕ) → r < node_count a.header → Place r → node_literal a r % 2 ≡ 0
    literal-even r h (at_constant e) = rw e
    literal-even r h (at-input j l e) = rw (e, early-literal (1 + j) j (omega arith) (omega arith)) (even-at j input_line (input-section j l) (omega arith) tt)
    literal-even r h (at-latch j l e) = rw (e, early-literal (1 + I + j) (I + j) (omega arith) (omega arith)) (even-at (latch_line_of a j) latch_line (latch-section j l) (omega arith) tt)
    literal-even r h (at-gate j l e) = rw (e, gate-defined j) (even-at (gate_line_of a j) gate_line (gate-section j) (omega arith) tt)
    literal-even r h (at-output j l e) = absurd (omega arith)

  module _ (distinct : is_distinct a ≡ true) where
    literal-other : (i j : ℕ) → i < j → j < node_count a.header → node_literal a i ≡ node_literal a j → ⊥
    unfolding is_distinct
    literal-other i j l h e = not-both (eqb (node_literal a i) (node_literal a j)) (all_below-at j _ (all_below-at (node_count a.header) _ distinct j h) i l) (eq-eqb _ _ e)

    literal-once : (i j : ℕ) → i < node_count a.header → j < node_count a.header → node_literal a i ≡ node_literal a j → i ≡ j
    literal-once i j hi hj e =
        elim (dec_lt i j) [
          | yes l ↦ absurd (literal-other i j l hj e)
          | no k ↦ elim (dec_lt j i) [ yes l ↦ absurd (literal-other j i l hi (sym e)) | no l ↦ omega arith ]
        ]

  module _ (defined : is_defined a ≡ true) where
    abbrev is_node : ℕ → Bool
    is_node u = ltb (node_of a u) (node_count a.header)

    uses-defined : (k : ℕ) (s : Section) → section_of a.header k ≡ s → k < line_count a.header → all_of is_node (uses_in s (line_at a k)) ≡ true
    unfolding is_defined
    uses-defined k s e h = subst (λ (s : Section). all_of is_node (uses_in s (line_at a k)) ≡ true) e (all_below-at (line_count a.header) _ defined k h)

    pub latch-uses : (j : ℕ) → j < L → node_of a (number_at a (latch_line_of a j) 1) < node_count a.header
    latch-uses j h = ltb-true _ _ (and-true _ _ (uses-defined (latch_line_of a j) latch_line (latch-section j h) (omega arith))).0

    pub gate-uses : (j : ℕ) → j < G → (node_of a (number_at a (gate_line_of a j) 1) < node_count a.header) × (node_of a (number_at a (gate_line_of a j) 2) < node_count a.header)
    gate-uses j h =
        let q = and-true _ _ (uses-defined (gate_line_of a j) gate_line (gate-section j) (omega arith)) in
        (ltb-true _ _ q.0, ltb-true _ _ (and-true _ _ q.1).0)

    pub output-uses : (j : ℕ) → j < O → node_of a (number_at a (output_line_of a j) 0) < node_count a.header
    output-uses j h = ltb-true _ _ (and-true _ _ (uses-defined (output_line_of a j) output_line (output-section j h) (omega arith))).0

  pub node-facts : lines_right a ≡ true → is_distinct a ≡ true → is_defined a ≡ true → NodeFacts a
  node-facts right distinct defined = record {
    even = λ r h. literal-even right r h (place_of r (omega arith));
    once = literal-once distinct;
    latch-names = latch-uses defined;
    gate-names = gate-uses defined;
    output-names = output-uses defined;
  }
