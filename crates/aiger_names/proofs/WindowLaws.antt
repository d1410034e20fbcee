-- Windows: what is found in one is the node that has the variable; the nodes of one differ; and when all nodes do.
-- Assumes nothing.
use Prim.Native.Nat.{ℕ, ◌+◌, ◌-◌, ◌*◌, ◌<◌, ◌≤◌, ◌/◌, ◌%◌}
use mathlib.Core.Path.{◌≡◌, sym, ap, ◌∙◌}
use mathlib.Core.Bool.{true, false, cond}
use mathlib.Core.List.{List}
use native.Mathlib.Omega.{arith}
use native.Mathlib.Decide.{dec_lt}
use lib.Dec.{eqb, ltb}
use borrow.Author.Tests.{eqb-true, lt-ltb, le-ltb, eq-eqb, ne_eqb}
use Rattle.memory.specs.Frames.{KeptOutside}
use Rattle.memory.proofs.TestLaws.{cond-case, fails}
use Rattle.memory.proofs.ListLaws.{all_below-of, all_below-no, First, first-is, first-least}
use Rattle.name_tree.specs.Trees.{variable_at, entry_of}
use Rattle.name_tree.proofs.TreeLaws.{variable-kept, tree-kept}
use Rattle.aiger.specs.AigerText.{Aiger, line_count, number_at, node_count, node_literal, node_among, lines_right, is_distinct}
use Rattle.aiger_names.specs.Names.{defines_at, row_of_line, found_in, WindowStands, node_in, DistinctBelow}
use Rattle.aiger_names.specs.declared.Window.{Window}
use Rattle.aiger_names.proofs.LineRowLaws.{row_below, line-of-node, node-literal-at, node-even}

-- ---- the node of a variable

module _ (a : Aiger) (s e x : ℕ) where
  abbrev among : ℕ
  among = node_among a s (e - s) x

  pub among-from : s ≤ among
  among-from = (first-is s (e - s) (λ r. eqb (node_literal a r) (2 * x))).from

  pub among-has : among < e → node_literal a among ≡ 2 * x
  among-has l = let F = first-is s (e - s) (λ r. eqb (node_literal a r) (2 * x)) in eqb-true _ _ (F.holds (omega (arith, F.from)))

  pub among-least : (v : ℕ) → s ≤ v → node_literal a v ≡ 2 * x → among ≤ v
  among-least v l q = first-least s (e - s) (λ r. eqb (node_literal a r) (2 * x)) v l (eq-eqb _ _ q)

  pub among-upto : s ≤ e → among ≤ e
  among-upto l = omega (arith, (first-is s (e - s) (λ (r : ℕ). eqb (node_literal a r) (2 * x))).upto)

-- ---- windows

module _ (a : Aiger) (w : List ℕ) (base : ℕ) (win : Window) (S : WindowStands a w base win) where
  abbrev size : ℕ
  size = win.end - win.start

  module _ (t : win.tree ≡ true) where
    -- The literal of a node of a tree, by its entry.
    entry-literal : (r : ℕ) → win.start ≤ r → r < win.end → node_literal a r ≡ 2 * variable_at w base (r - win.start)
    entry-literal r h l =
        let e : win.start + (r - win.start) ≡ r = omega arith in
        ap (node_literal a) (sym e) ∙ (S.tree t).1 (r - win.start) (omega arith)

    module _ (x : ℕ) where
      abbrev node : ℕ
      node = node_among a win.start size x

      abbrev entry : ℕ
      entry = entry_of w base size x

      abbrev F : First 0 size (λ j. eqb (variable_at w base j) x) entry
      F = first-is 0 size (λ j. eqb (variable_at w base j) x)

      node-le : node ≤ win.start + entry
      node-le = elim (dec_lt entry size) [
        | yes l ↦ among-least a win.start win.end x (win.start + entry) (omega arith) (omega (arith, (S.tree t).1 entry l, eqb-true (variable_at w base entry) x (F.holds (omega arith))))
        | no l ↦ omega (arith, among-upto a win.start win.end x S.ordered)
      ]

      entry-le : entry ≤ node - win.start
      entry-le = elim (dec_lt node win.end) [
        | yes l ↦ (
            let v = among-from a win.start win.end x in
            let q : variable_at w base (node - win.start) ≡ x = omega (arith, among-has a win.start win.end x l, entry-literal node v l) in
            first-least 0 size (λ j. eqb (variable_at w base j) x) (node - win.start) (omega arith) (eq-eqb _ _ q))
        | no l ↦ omega (arith, F.upto)
      ]

      tree_is : win.start + entry ≡ node
      tree_is = omega (arith, node-le, entry-le, among-from a win.start win.end x)

  run_is : win.tree ≡ false → (x : ℕ) → cond (ltb x win.end) x win.end ≡ node_among a win.start size x
  run_is t x =
      let R = S.run t in
      let u = among-upto a win.start win.end x S.ordered in
      elim (dec_lt x win.end) [
        | yes l ↦ rw (lt-ltb x win.end l) (first x l)
        | no l ↦ rw (le-ltb x win.end (omega arith)) (elim (dec_lt (node_among a win.start size x) win.end) [
          | yes k ↦ absurd (omega (arith, among-has a win.start win.end x k, R.1 (node_among a win.start size x) k))
          | no k ↦ omega arith
        ])
      ]
    where
      first : (x : ℕ) → x < win.end → x ≡ node_among a win.start size x
      first x l =
          let R = S.run t in
          let k = among-least a win.start win.end x x (omega arith) (R.1 x l) in
          omega (arith, among-has a win.start win.end x (omega arith), R.1 (node_among a win.start size x) (omega arith))

  -- What is found is the node.
  pub found-is : (x : ℕ) → found_in w base win x ≡ node_among a win.start (win.end - win.start) x
  unfolding found_in
  found-is x = cond-case (λ (r : ℕ). r ≡ node_among a win.start size x) win.tree _ _ (λ t. tree_is t x) (λ t. run_is t x)

  pub found-le : (x : ℕ) → found_in w base win x ≤ win.end
  found-le x = omega (arith, found-is x, among-upto a win.start win.end x S.ordered)

  -- The nodes of a window differ.
  pub window-apart : (i j : ℕ) → win.start ≤ i → i < j → j < win.end → ¬ (node_literal a i ≡ node_literal a j)
  window-apart i j h k l e =
      let t = fails win.tree (λ t. (S.tree t).0.distinct (i - win.start) (j - win.start) (omega arith) (omega arith) (omega (arith, entry-literal t i h (omega arith), entry-literal t j (omega arith) l))) in
      omega (arith, (S.run t).1 i (omega arith), (S.run t).1 j l)

  -- It stands while only the pairs change.
  pub window-kept : (w' : List ℕ) → KeptOutside 0 base w w' → WindowStands a w' base win
  window-kept w' K = record {
    ordered = S.ordered;
    inside = S.inside;
    run = S.run;
    tree = λ t. (tree-kept K (S.tree t).0, λ j l. rw (variable-kept K j) ((S.tree t).1 j l));
  }

-- ---- nodes that differ

module _ (a : Aiger) where
  -- The node's literal is not in the window.
  pub absent-apart : (s e r i : ℕ) → node_literal a r % 2 ≡ 0 → node_in a s e (node_literal a r) ≡ e → s ≤ i → i < e → ¬ (node_literal a i ≡ node_literal a r)
  absent-apart s e r i even n h l q = omega (arith, among-least a s e (node_literal a r / 2) i h (omega arith))

  pub distinct-zero : DistinctBelow a 0
  distinct-zero i j h = absurd (omega arith)

  pub distinct-next :
      (s e : ℕ)
      → DistinctBelow a s
      → ((i j : ℕ) → s ≤ i → i < j → j < e → ¬ (node_literal a i ≡ node_literal a j))
      → ((r : ℕ) → e ≤ r → r < node_count a.header → (i : ℕ) → s ≤ i → i < e → ¬ (node_literal a i ≡ node_literal a r))
      → DistinctBelow a e
  distinct-next s e D inside later i j h k l = elim (dec_lt i s) [
    | yes b ↦ D i j b k l
    | no b ↦ elim (dec_lt j e) [ yes c ↦ inside i j (omega arith) k c | no c ↦ later j (omega arith) l i (omega arith) h ]
  ]

  pub distinct-all : DistinctBelow a (node_count a.header) → is_distinct a ≡ true
  unfolding is_distinct
  distinct-all D = all_below-of (node_count a.header) _ (λ j l. all_below-of j _ (λ i k. rw (ne_eqb (node_literal a i) (node_literal a j) (D i j (omega arith) k l))))

  pub twice : (i j : ℕ) → i < j → j < node_count a.header → node_literal a i ≡ node_literal a j → is_distinct a ≡ false
  unfolding is_distinct
  twice i j k l e = all_below-no (node_count a.header) _ j l (all_below-no j _ i k (rw (eq-eqb (node_literal a i) (node_literal a j) e)))

  -- An earlier node that has the node's literal.
  pub found-twice : (s e r : ℕ) → node_literal a r % 2 ≡ 0 → s ≤ e → (node_in a s e (node_literal a r) ≡ e → ⊥) → e ≤ r → r < node_count a.header → is_distinct a ≡ false
  found-twice s e r even o n h l =
      let u = among-upto a s e (node_literal a r / 2) o in
      let k : node_in a s e (node_literal a r) < e = elim (dec_lt (node_in a s e (node_literal a r)) e) [ yes k ↦ k | no k ↦ absurd (n (omega arith)) ] in
      twice (node_in a s e (node_literal a r)) r (omega arith) l (omega (arith, among-has a s e (node_literal a r / 2) k))

  -- A variable whose node stands before the window is not found there; one whose node stands in it is found at that node.
  module _ (s e x v : ℕ) (D : DistinctBelow a e) (inside : e ≤ node_count a.header) where
    pub found_before : v < s → v < e → node_literal a v ≡ 2 * x → e ≤ node_among a s (e - s) x
    found_before h l q = elim (dec_lt (node_among a s (e - s) x) e) [
      | yes k ↦ absurd (D v (node_among a s (e - s) x) l (omega (arith, among-from a s e x)) (omega arith) (q ∙ sym (among-has a s e x k)))
      | no k ↦ omega arith
    ]

    pub found-only : s ≤ v → v < e → node_literal a v ≡ 2 * x → node_among a s (e - s) x ≡ v
    found-only h l q =
        let m = among-least a s e x v h q in
        elim (dec_lt (node_among a s (e - s) x) v) [
          | yes k ↦ absurd (D (node_among a s (e - s) x) v (omega arith) k (omega arith) (among-has a s e x (omega arith) ∙ sym q))
          | no k ↦ omega arith
        ]

-- ---- the same, by lines

module _ (a : Aiger) (right : lines_right a ≡ true) (s e : ℕ) where
  -- The window has no definition of a later line, so no later node's literal.
  pub later-apart :
      ((k : ℕ) → k < line_count a.header → defines_at a.header k ≡ true → e ≤ row_of_line a.header k → node_in a s e (number_at a k 0) ≡ e)
      → (r : ℕ)
      → e ≤ r
      → r < node_count a.header
      → (i : ℕ)
      → s ≤ i
      → i < e
      → ¬ (node_literal a i ≡ node_literal a r)
  later-apart absent r h l i p q =
      let n = line-of-node a.header r (omega arith) l in
      let d : node_literal a r ≡ number_at a n.0 0 = ap (node_literal a) (sym n.3) ∙ node-literal-at a n.0 n.1 n.2 in
      absent-apart a s e r i (node-even a r right l) (ap (node_in a s e) d ∙ absent n.0 n.1 n.2 (rw n.3 h)) p q

  -- The window has the definition of a later line.
  pub line-twice : (k : ℕ) → s ≤ e → k < line_count a.header → defines_at a.header k ≡ true → e ≤ row_of_line a.header k → (node_in a s e (number_at a k 0) ≡ e → ⊥) → is_distinct a ≡ false
  line-twice k o l t h n =
      let b = row_below a.header k l t in
      found-twice a s e (row_of_line a.header k) (node-even a (row_of_line a.header k) right b) o (λ q. n (ap (node_in a s e) (sym (node-literal-at a k l t)) ∙ q)) h b
