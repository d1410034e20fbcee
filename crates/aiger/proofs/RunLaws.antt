-- The rows of what an AIGER text says run as its equations say, and so does what they are sorted into.
-- Assumes nothing.
use Prim.Native.Nat.{ℕ, zero, suc, ◌+◌, ◌-◌, ◌*◌, ◌<◌, ◌/◌, ◌%◌}
use mathlib.Core.Path.{◌≡◌, refl, sym, ap, ◌∙◌}
use mathlib.Core.Bool.{Bool, true, false, cond, ◌&&◌}
use mathlib.Core.List.{List}
use native.Mathlib.Omega.{arith}
use borrow.Author.Tests.{lt-ltb, le-ltb, lt-leb, eq-eqb, ne_eqb}
use lib.ListN.{length, get_or}
use lib.Dec.{eqb, ltb}
use Rattle.memory.proofs.ListLaws.{first-least}
use Rattle.netlist.specs.Rows.{Row, row_at, kind_of, label_of, phase_of, has_name, is_named, row_named, HasRow}
use Rattle.netlist.specs.Simulation.{bool_logic, complement_if, literal_value, row_value, start_by, RunValues}
use Rattle.netlist.specs.WellFormed.{UnorderedRows}
use Rattle.netlist.proofs.RowLaws.{named-is, named-of, named-place, has-at, has_of}
use Rattle.ordering.specs.GateOrder.{gate_order, sorted_netlist, IsGateOrder}
use Rattle.ordering.specs.Equations.{held_by, Solves, SameRuns}
use Rattle.ordering.proofs.EquationLaws.{same_runs}
use Rattle.aiger.specs.AigerText.{Aiger, line_at, number_at, node_count, node_literal, node_of}
use Rattle.aiger.specs.AigerRows.{latch_line_of, output_line_of, gate_line_of, row_literal, reset_code, aiger_rows}
use Rattle.aiger.specs.AigerRun.{starts_as, lit_value, AigerRun, ImportKeeps}
use Rattle.aiger.proofs.AigerFacts.{RowPlaces, NodeFacts}
use Rattle.aiger.proofs.NodeLaws.{each-place}

-- A latch starts as its reset says.
starts_by : (ns : List ℕ) (c : Bool) → start_by bool_logic (reset_code ns) c ≡ starts_as ns c
starts_by ns c = go (eqb (length ns) 3) (get_or ns 2 0) refl refl
  where
    go : (t : Bool) (r : ℕ) → eqb (length ns) 3 ≡ t → get_or ns 2 0 ≡ r → start_by bool_logic (reset_code ns) c ≡ starts_as ns c
    go false r e f = rw e
    go true zero e f = rw (e, f)
    go true (suc zero) e f = rw (e, f)
    go true (suc (suc r)) e f = rw (e, f, lt-leb (suc (suc r)) 1 (omega arith), ne_eqb (suc (suc r)) 0 (λ e. omega arith), ne_eqb (suc (suc r)) 1 (λ e. omega arith))

-- What row r says that its value is at step t, w having the value of each row at each step.
abbrev said_by : List Row → RunValues → (ℕ → ℕ → Bool) → ℕ → ℕ → Bool
said_by rows run w t r = row_value bool_logic (held_by rows run w t r) (run.inputs t) (w t) (row_at rows r)

-- How many labels the rows of a kind have; a row without a name has label 0.
abbrev label_count : Aiger → ℕ → ℕ
label_count a k = cond (eqb k 1) a.header.inputs (cond (eqb k 2) a.header.latches (cond (eqb k 6) a.header.outputs 1))

module _ (a : Aiger) (P : RowPlaces a) (F : NodeFacts a) where
  abbrev rows : List Row
  rows = aiger_rows a

  -- The header's counts, by their letters.
  abbrev I : ℕ
  I = a.header.inputs

  abbrev L : ℕ
  L = a.header.latches

  abbrev A : ℕ
  A = a.header.gates

  abbrev O : ℕ
  O = a.header.outputs

  abbrev nodes : ℕ
  nodes = node_count a.header

  -- ---- variables and nodes

  -- The node of a node's variable is that node.
  node-back : (r : ℕ) → r < nodes → node_of a (2 * (node_literal a r / 2)) ≡ r
  node-back r h =
      let u = 2 * (node_literal a r / 2) in
      let e : node_literal a r ≡ 2 * (u / 2) = omega (arith, F.even r h) in
      let b : node_of a u < nodes = omega (arith, first-least 0 nodes (λ x. eqb (node_literal a x) (2 * (u / 2))) r (omega arith) (eq-eqb _ _ e)) in
      F.once (node_of a u) r b h (P.literal-of u b ∙ sym e)

  -- v gives the variables' values that w gives the nodes.
  abbrev Agree : (ℕ → ℕ → Bool) → (ℕ → ℕ → Bool) → Type 0
  Agree v w = (t r : ℕ) → r < nodes → w t r ≡ v t (node_literal a r / 2)

  module _ (run : RunValues) (v w : ℕ → ℕ → Bool) (E : Agree v w) where
    -- A literal has one value in the rows and in the text.
    literal-said : (t u : ℕ) → node_of a u < nodes → literal_value bool_logic (w t) (row_literal a u) ≡ lit_value (v t) u
    literal-said t u h =
        let p : row_literal a u / 2 ≡ node_of a u = omega arith in
        let q : row_literal a u % 2 ≡ u % 2 = omega arith in
        let d : node_literal a (node_of a u) / 2 ≡ u / 2 = omega (arith, P.literal-of u h) in
        rw (p, q) (ap (complement_if bool_logic (u % 2)) (E t (node_of a u) h ∙ ap (v t) d))

    -- What each row says is what the text says.
    constant-said : (t : ℕ) → said_by rows run w t 0 ≡ false
    constant-said t = rw P.constant-at

    input-said : (t j : ℕ) → j < I → said_by rows run w t (1 + j) ≡ run.inputs t j 0
    input-said t j h = rw (P.input-at j h)

    latch-starts : (j : ℕ) → j < L → said_by rows run w 0 (1 + I + j) ≡ starts_as (line_at a (latch_line_of a j)) (run.choices j)
    latch-starts j h = rw (P.latch-at j h) (starts_by (line_at a (latch_line_of a j)) (run.choices j))

    latch-moves : (t j : ℕ) → j < L → said_by rows run w (suc t) (1 + I + j) ≡ lit_value (v t) (number_at a (latch_line_of a j) 1)
    latch-moves t j h = rw (P.latch-at j h) (literal-said t (number_at a (latch_line_of a j) 1) (F.latch-names j h))

    gate-said : (t j : ℕ) → j < A → said_by rows run w t (1 + I + L + j) ≡ lit_value (v t) (number_at a (gate_line_of a j) 1) && lit_value (v t) (number_at a (gate_line_of a j) 2)
    gate-said t j h =
        let n = F.gate-names j h in
        let x = literal-said t (number_at a (gate_line_of a j) 1) n.0 in
        let y = literal-said t (number_at a (gate_line_of a j) 2) n.1 in
        rw (P.gate-at j h, x, y)

    output-said : (t j : ℕ) → j < O → said_by rows run w t (nodes + j) ≡ lit_value (v t) (number_at a (output_line_of a j) 0)
    output-said t j h = rw (P.output-at j h) (literal-said t (number_at a (output_line_of a j) 0) (F.output-names j h))

    -- The values of the nodes are those of their variables.
    input-value : (t j : ℕ) → j < I → w t (1 + j) ≡ v t (number_at a j 0 / 2)
    input-value t j h = E t (1 + j) (omega arith) ∙ ap (λ (u : ℕ). v t (u / 2)) (P.input-literal j h)

    latch-value : (t j : ℕ) → j < L → w t (1 + I + j) ≡ v t (number_at a (latch_line_of a j) 0 / 2)
    latch-value t j h = E t (1 + I + j) (omega arith) ∙ ap (λ (u : ℕ). v t (u / 2)) (P.latch-literal j h)

    gate-value : (t j : ℕ) → j < A → w t (1 + I + L + j) ≡ v t (number_at a (gate_line_of a j) 0 / 2)
    gate-value t j h = E t (1 + I + L + j) (omega arith) ∙ ap (λ (u : ℕ). v t (u / 2)) (P.gate-literal j h)

    -- The text's equations and the rows' are the same; an output has one in the rows alone.
    rows-solved : AigerRun a run v → ((t j : ℕ) → j < O → w t (nodes + j) ≡ lit_value (v t) (number_at a (output_line_of a j) 0)) → Solves rows run w
    rows-solved R out t r b =
        each-place a (λ r. w t r ≡ said_by rows run w t r)
        (E t 0 (omega arith) ∙ R.constant t ∙ sym (constant-said t))
        (λ j h. input-value t j h ∙ R.inputs t j h ∙ sym (input-said t j h))
        (latch t)
        (λ j h. gate-value t j h ∙ R.gates t j h ∙ sym (gate-said t j h))
        (λ j h. out t j h ∙ sym (output-said t j h)) r (omega (arith, P.count))
      where
        latch : (t j : ℕ) → j < L → w t (1 + I + j) ≡ said_by rows run w t (1 + I + j)
        latch zero j h = latch-value 0 j h ∙ R.starts j h ∙ sym (latch-starts j h)
        latch (suc t) j h = latch-value (suc t) j h ∙ R.moves t j h ∙ sym (latch-moves t j h)

    text-solved : Solves rows run w → AigerRun a run v
    text-solved S = record {
      constant = λ t. sym (E t 0 (omega arith)) ∙ S t 0 (omega (arith, P.count)) ∙ constant-said t;
      inputs = λ t j h. sym (input-value t j h) ∙ S t (1 + j) (omega (arith, P.count)) ∙ input-said t j h;
      starts = λ j h. sym (latch-value 0 j h) ∙ S 0 (1 + I + j) (omega (arith, P.count)) ∙ latch-starts j h;
      moves = λ t j h. sym (latch-value (suc t) j h) ∙ S (suc t) (1 + I + j) (omega (arith, P.count)) ∙ latch-moves t j h;
      gates = λ t j h. sym (gate-value t j h) ∙ S t (1 + I + L + j) (omega (arith, P.count)) ∙ gate-said t j h;
    }

  -- What the rows' values are by the variables', and the variables' by the nodes'.
  abbrev rows_by : (ℕ → ℕ → Bool) → ℕ → ℕ → Bool
  rows_by v t r = cond (ltb r nodes) (v t (node_literal a r / 2)) (lit_value (v t) (number_at a (output_line_of a (r - nodes)) 0))

  abbrev variables_by : (ℕ → ℕ → Bool) → ℕ → ℕ → Bool
  variables_by w t x = w t (node_of a (2 * x))

  rows_agree : (v : ℕ → ℕ → Bool) → Agree v (rows_by v)
  rows_agree v t r h = rw (lt-ltb r nodes h)

  rows-outputs : (v : ℕ → ℕ → Bool) (t j : ℕ) → rows_by v t (nodes + j) ≡ lit_value (v t) (number_at a (output_line_of a j) 0)
  rows-outputs v t j = let e : nodes + j - nodes ≡ j = omega arith in rw (le-ltb (nodes + j) nodes (omega arith), e)

  variables-agree : (w : ℕ → ℕ → Bool) → Agree (variables_by w) w
  variables-agree w t r h = ap (w t) (sym (node-back r h))

  -- ---- names

  -- Labels are positions, and phases 0.
  labels_in : (x : ℕ) → x < length rows → (label_of (row_at rows x) < label_count a (kind_of (row_at rows x))) × (phase_of (row_at rows x) ≡ 0)
  labels_in x b =
      each-place a (λ x. (label_of (row_at rows x) < label_count a (kind_of (row_at rows x))) × (phase_of (row_at rows x) ≡ 0))
      (rw P.constant-at (omega arith, refl))
      (λ j h. rw (P.input-at j h) (h, refl))
      (λ j h. rw (P.latch-at j h) (h, refl))
      (λ j h. rw (P.gate-at j h) (omega arith, refl))
      (λ j h. rw (P.output-at j h) (h, refl)) x (omega (arith, P.count))

  name_in : (k l p : ℕ) → HasRow (is_named k l p) rows → (l < label_count a k) × (p ≡ 0)
  name_in k l p h =
      let x = has-at (is_named k l p) rows h in
      let n = named-is k l p (row_at rows (row_named k l p rows)) x.1 in
      let b = labels_in (row_named k l p rows) x.0 in
      (omega (arith, b.0, n.1, ap (label_count a) n.0), sym n.2 ∙ b.1)

  -- Row x has the kind k, the label l and phase 0.
  record NameAt (k l x : ℕ) : Type 0 where
    within : x < length rows
    named : has_name (row_at rows x) ≡ true
    kind : kind_of (row_at rows x) ≡ k
    label : label_of (row_at rows x) ≡ l
    phase : phase_of (row_at rows x) ≡ 0

  name-at : (k l x : ℕ) (r : Row) → x < length rows → row_at rows x ≡ r → has_name r ≡ true → kind_of r ≡ k → label_of r ≡ l → phase_of r ≡ 0 → NameAt k l x
  name-at k l x r h e t b c d = record { within = h; named = ap has_name e ∙ t; kind = ap kind_of e ∙ b; label = ap label_of e ∙ c; phase = ap phase_of e ∙ d }

  input-name : (j : ℕ) → j < I → NameAt 1 j (1 + j)
  input-name j h = name-at 1 j (1 + j) _ (omega (arith, P.count)) (P.input-at j h) refl refl refl refl

  latch-name : (j : ℕ) → j < L → NameAt 2 j (1 + I + j)
  latch-name j h = name-at 2 j (1 + I + j) _ (omega (arith, P.count)) (P.latch-at j h) refl refl refl refl

  output-name : (j : ℕ) → j < O → NameAt 6 j (nodes + j)
  output-name j h = name-at 6 j (nodes + j) _ (omega (arith, P.count)) (P.output-at j h) refl refl refl refl

  has-name : (k l p x : ℕ) → NameAt k l x → p ≡ 0 → HasRow (is_named k l p) rows
  has-name k l p x n e = has_of (is_named k l p) rows x n.within (named-of k l p (row_at rows x) n.kind n.label (n.phase ∙ sym e))

  -- ---- the sorted rows

  module _ (U : UnorderedRows (aiger_rows a)) (G : IsGateOrder (aiger_rows a) (gate_order (aiger_rows a))) where
    name-row : (k l x : ℕ) → NameAt k l x → row_named k l 0 rows ≡ x
    name-row k l x n = named-place rows U.unique x n.within k l 0 n.named n.kind n.label n.phase

    same : SameRuns rows (sorted_netlist rows)
    same = same_runs rows U.operands G U.unique

    rows-solution : (run : RunValues) (v : ℕ → ℕ → Bool) → AigerRun a run v → Solves rows run (rows_by v)
    rows-solution run v R = rows-solved run v (rows_by v) (rows_agree v) R (λ t j h. rows-outputs v t j)

    pub import-keeps : ImportKeeps a (sorted_netlist (aiger_rows a))
    import-keeps = record {
      has-inputs = λ l p. (λ h. name_in 1 l p ((same.names 1 l p).1 h), λ h. (same.names 1 l p).0 (has-name 1 l p (1 + l) (input-name l h.0) h.1));
      has-latches = λ l. (λ h. (name_in 2 l 0 ((same.names 2 l 0).1 h)).0, λ h. (same.names 2 l 0).0 (has-name 2 l 0 (1 + I + l) (latch-name l h) refl));
      has-outputs = λ l p. (λ h. name_in 6 l p ((same.names 6 l p).1 h), λ h. (same.names 6 l p).0 (has-name 6 l p (nodes + l) (output-name l h.0) h.1));
      runs = λ run. let s = same.solved run in (variables_by s.0, text-solved run (variables_by s.0) s.0 (variables-agree s.0) s.1);
      shows = λ run v R t j h.
          same.outputs run (rows_by v) (rows-solution run v R) t j 0 (has-name 6 j 0 (nodes + j) (output-name j h) refl)
          ∙ ap (rows_by v t) (name-row 6 j (nodes + j) (output-name j h)) ∙ rows-outputs v t j;
      holds = λ run v R t j h.
          same.registers run (rows_by v) (rows-solution run v R) t j (has-name 2 j 0 (1 + I + j) (latch-name j h) refl)
          ∙ ap (rows_by v t) (name-row 2 j (1 + I + j) (latch-name j h)) ∙ latch-value run v (rows_by v) (rows_agree v) t j h;
    }
