-- Lines and rows: which lines define a node, how many nodes stand before a line, and where its row is.
-- Assumes nothing.
use Prim.Native.Nat.{ℕ, ◌+◌, ◌-◌, ◌<◌, ◌≤◌, ◌%◌}
use mathlib.Core.Path.{◌≡◌, refl, sym, ap, ◌∙◌}
use mathlib.Core.Bool.{true, false, cond, false≢true}
use native.Mathlib.Omega.{arith}
use native.Mathlib.Decide.{dec_lt}
use mathlib.Core.List.{List}
use lib.ListN.{drop}
use lib.Dec.{ltb}
use borrow.Author.Tests.{ltb-true, ltb-false, lt-ltb, le-ltb}
use Rattle.std.specs.Prelude.{Option, IsSome}
use Rattle.memory.proofs.TestLaws.{cond-case}
use Rattle.aiger.specs.AigerText.{Header, Aiger, Section, input_line, latch_line, output_line, gate_line, line_count, number_at, section_of, node_count, node_literal, lines_right}
use Rattle.aiger.proofs.NodeLaws.{place_of, early-literal, late-literal, literal-even}
use Rattle.aiger.specs.AigerReading.{line}
use Rattle.aiger_lines.specs.declared.Line.{Line}
use Rattle.aiger_lines.specs.declared.Header as h
use Rattle.aiger_lines.specs.Lines.{header_in, aiger_in, lines_stand, line_read, LineStart}
use Rattle.aiger_lines.proofs.LineLaws.{line-read}
use Rattle.aiger_names.specs.Names.{defines_in, defines_at, row_of_line, nodes_before}

-- What holds of each section for its lines holds of the section of line k.
pub section-case :
    (h : Header) (k : ℕ) (P : Section → Type 0)
    → (k < h.inputs → P input_line)
    → (h.inputs ≤ k → k < h.inputs + h.latches → P latch_line)
    → (h.inputs + h.latches ≤ k → k < h.inputs + h.latches + h.outputs → P output_line)
    → (h.inputs + h.latches + h.outputs ≤ k → P gate_line)
    → P (section_of h k)
section-case h k P f g p q =
    let n = h.inputs + h.latches in
    cond-case P (ltb k h.inputs) _ _ (λ t. f (ltb-true k h.inputs t))
    (λ t. cond-case P (ltb k n) _ _ (λ u. g (ltb-false k h.inputs t) (ltb-true k n u))
    (λ u. cond-case P (ltb k (n + h.outputs)) _ _ (λ v. p (ltb-false k n u) (ltb-true k (n + h.outputs) v)) (λ v. q (ltb-false k (n + h.outputs) v))))

-- The rows of lines of inputs and latches, of outputs, and of gates.
module _ (h : Header) (k : ℕ) where
  pub early-row : k < h.inputs + h.latches → row_of_line h k ≡ k + 1
  early-row l = rw (lt-ltb k (h.inputs + h.latches) l)

  pub output-row : h.inputs + h.latches ≤ k → k < h.inputs + h.latches + h.outputs → row_of_line h k ≡ k + 1 + h.gates
  output-row i l = rw (le-ltb k (h.inputs + h.latches) i, lt-ltb k (h.inputs + h.latches + h.outputs) l)

  pub gate-row : h.inputs + h.latches + h.outputs ≤ k → row_of_line h k ≡ k + 1 - h.outputs
  gate-row i = rw (le-ltb k (h.inputs + h.latches) (omega arith), le-ltb k (h.inputs + h.latches + h.outputs) i)

-- A line of an input or a latch, of an output, of a gate; s is its section.
data LineIs (h : Header) (k : ℕ) (s : Section) : Type 0 where
  early : k < h.inputs + h.latches → defines_in s ≡ true → row_of_line h k ≡ k + 1 → LineIs h k s
  output : h.inputs + h.latches ≤ k → k < h.inputs + h.latches + h.outputs → defines_in s ≡ false → row_of_line h k ≡ k + 1 + h.gates → LineIs h k s
  gate : h.inputs + h.latches + h.outputs ≤ k → defines_in s ≡ true → row_of_line h k ≡ k + 1 - h.outputs → LineIs h k s

line-is : (h : Header) (k : ℕ) → LineIs h k (section_of h k)
line-is h k =
    section-case h k (LineIs h k)
    (λ l. early (omega arith) refl (early-row h k (omega arith)))
    (λ i l. early l refl (early-row h k l))
    (λ i l. output i l refl (output-row h k i l))
    (λ i. gate i refl (gate-row h k i))

-- ---- how many nodes stand before a line

module _ (h : Header) where
  pub nodes-first : nodes_before h 0 ≡ 1
  nodes-first = omega arith

  pub nodes-end : nodes_before h (line_count h) ≡ node_count h
  nodes-end = omega arith

  pub nodes-most : (k : ℕ) → k ≤ line_count h → nodes_before h k ≤ node_count h
  nodes-most k l = omega arith

  pub nodes-next : (k k' : ℕ) → k < line_count h → k' ≡ k + 1 → nodes_before h k' ≡ nodes_before h k + cond (defines_at h k) 1 0
  nodes-next k k' l e = elim (line-is h k) [
    | early a d r ↦ rw d (omega arith)
    | output a b d r ↦ rw d (omega arith)
    | gate a d r ↦ rw d (omega arith)
  ]

  pub nodes-more : (k k' : ℕ) → k < line_count h → defines_at h k ≡ true → k' ≡ k + 1 → nodes_before h k' ≡ nodes_before h k + 1
  nodes-more k k' l t e = nodes-next k k' l e ∙ rw t

  pub nodes-same : (k k' : ℕ) → k < line_count h → defines_at h k ≡ false → k' ≡ k + 1 → nodes_before h k' ≡ nodes_before h k
  nodes-same k k' l t e = nodes-next k k' l e ∙ rw t (omega arith)

  -- ---- rows

  pub row-of-node : (k : ℕ) → k < line_count h → defines_at h k ≡ true → row_of_line h k ≡ nodes_before h k
  row-of-node k l t = elim (line-is h k) [
    | early a d r ↦ rw r (omega arith)
    | output a b d r ↦ absurd (false≢true (sym d ∙ t))
    | gate a d r ↦ rw r (omega arith)
  ]

  pub row_below : (k : ℕ) → k < line_count h → defines_at h k ≡ true → row_of_line h k < node_count h
  row_below k l t = elim (line-is h k) [
    | early a d r ↦ rw r (omega arith)
    | output a b d r ↦ absurd (false≢true (sym d ∙ t))
    | gate a d r ↦ rw r (omega arith)
  ]

  -- Where line k defines a node, not all nodes stand before it.
  pub nodes-below : (k : ℕ) → k < line_count h → defines_at h k ≡ true → nodes_before h k < node_count h
  nodes-below k l t = omega (arith, row-of-node k l t, row_below k l t)

  pub row_inside : (k : ℕ) → k < line_count h → (0 < row_of_line h k) × (row_of_line h k < node_count h + h.outputs)
  row_inside k l = elim (line-is h k) [
    | early a d r ↦ rw r (omega arith)
    | output a b d r ↦ rw r (omega arith)
    | gate a d r ↦ rw r (omega arith)
  ]

  -- Rows tell which line they are of.
  abbrev line_of_row : ℕ → ℕ
  line_of_row r = cond (ltb r (1 + h.inputs + h.latches)) (r - 1) (cond (ltb r (node_count h)) (r - 1 + h.outputs) (r - 1 - h.gates))

  line-again : (k : ℕ) → k < line_count h → line_of_row (row_of_line h k) ≡ k
  line-again k l = elim (line-is h k) [
    | early a d r ↦ rw (r, lt-ltb (k + 1) (1 + h.inputs + h.latches) (omega arith)) (omega arith)
    | output a b d r ↦ rw (r, le-ltb (k + 1 + h.gates) (1 + h.inputs + h.latches) (omega arith), le-ltb (k + 1 + h.gates) (node_count h) (omega arith)) (omega arith)
    | gate a d r ↦ rw (r, le-ltb (k + 1 - h.outputs) (1 + h.inputs + h.latches) (omega arith), lt-ltb (k + 1 - h.outputs) (node_count h) (omega arith)) (omega arith)
  ]

  pub rows_apart : (j k : ℕ) → j < line_count h → k < line_count h → ¬ (j ≡ k) → ¬ (row_of_line h j ≡ row_of_line h k)
  rows_apart j k a b d e = d (sym (line-again j a) ∙ ap line_of_row e ∙ line-again k b)

  -- Every node but the constant has a line.
  pub line-of-node : (r : ℕ) → 0 < r → r < node_count h → (k : ℕ) × (k < line_count h) × (defines_at h k ≡ true) × (row_of_line h k ≡ r)
  line-of-node r p q = elim (dec_lt r (1 + h.inputs + h.latches)) [
    | yes l ↦ node-line (r - 1) (omega arith) (omega arith) (λ m. omega arith)
    | no l ↦ node-line (r - 1 + h.outputs) (omega arith) (omega arith) (λ m. omega arith)
  ]
    where
      node-line : (k : ℕ) → k < line_count h → nodes_before h k ≡ r → (h.inputs + h.latches ≤ k → h.inputs + h.latches + h.outputs ≤ k) → (k : ℕ) × (k < line_count h) × (defines_at h k ≡ true) × (row_of_line h k ≡ r)
      node-line k l e n = elim (line-is h k) [
        | early a d s ↦ (k, l, d, row-of-node k l d ∙ e)
        | output a b d s ↦ absurd (let m = n a in omega arith)
        | gate a d s ↦ (k, l, d, row-of-node k l d ∙ e)
      ]

-- ---- the literals that lines define

module _ (a : Aiger) where
  pub node-literal-at : (k : ℕ) → k < line_count a.header → defines_at a.header k ≡ true → node_literal a (row_of_line a.header k) ≡ number_at a k 0
  node-literal-at k l t = elim (line-is a.header k) [
    | early b d r ↦ early-literal a (row_of_line a.header k) k (omega arith) b
    | output b c d r ↦ absurd (false≢true (sym d ∙ t))
    | gate b d r ↦ (
        let e : k - a.header.outputs + a.header.outputs ≡ k = omega arith in
        late-literal a (row_of_line a.header k) (k - a.header.outputs) (omega arith) (omega arith) ∙ rw e)
  ]

  pub node-literal-next : (k : ℕ) → k < line_count a.header → defines_at a.header k ≡ true → node_literal a (nodes_before a.header k) ≡ number_at a k 0
  node-literal-next k l t = ap (node_literal a) (sym (row-of-node a.header k l t)) ∙ node-literal-at k l t

  pub node-even : (r : ℕ) → lines_right a ≡ true → r < node_count a.header → node_literal a r % 2 ≡ 0
  node-even r right l = literal-even a right r l (place_of a r (omega arith))

-- ---- where all lines stand, each is there to be read

pub line-some :
    (text : List ℕ) (x : h.Header) (lines k at : ℕ) (o : Option Line)
    → lines_stand text ≡ true
    → header_in x ≡ (aiger_in text).header
    → lines ≡ line_count (header_in x)
    → k < lines
    → LineStart text k at
    → line_read text o ≡ line 3 (drop at text)
    → IsSome o
line-some text x lines k at o stand same count below start read = line-read text k at (record { stand = stand; among = rw (← same, ← count) below; start = start }) o read
