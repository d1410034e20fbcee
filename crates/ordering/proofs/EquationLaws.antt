-- The sorted netlist's run is the one solution of the original's equations.
-- Assumes nothing.
use Prim.Native.Nat.{ℕ, zero, suc, ◌<◌, ◌/◌, ◌%◌}
use mathlib.Core.Path.{◌≡◌, refl, sym, ap, ◌∙◌}
use mathlib.Core.Logic.{inl, inr, ◌↔◌}
use mathlib.Core.Bool.{Bool, true, false, ◌&&◌, false≢true}
use mathlib.Core.List.{List, [], ◌∷◌}
use native.Mathlib.Omega.{arith}
use lib.ListN.{length}
use lib.Dec.{eqb}
use Rattle.memory.specs.Lists.{Among, here, there}
use Rattle.netlist.specs.Rows.{Row, constant, input, register, and_gate, xor_gate, mux_gate, output, row_at, kind_of, is_register, is_unknown, is_output, label_of, has_name, is_named, first_row, row_named, HasRow, map_literals, fanin_nodes}
use Rattle.netlist.specs.Simulation.{bool_logic, literal_value, row_value, reset_value, next_value, value_at, run_state, run_value, RunValues}
use Rattle.netlist.proofs.RowLaws.{named-is, named-register, named-place, has-at, has_of, map-alike}
use Rattle.netlist.specs.WellFormed.{NamesNode, OnLiterals, NamesUnique}
use Rattle.netlist.proofs.SimulationLaws.{literal-cong, held, state-at, value-at}
use Rattle.ordering.specs.GateOrder.{is_source, gate_order, sorted_order, new_number, renumber_by, sorted_netlist, Grounded, grounded, IsGateOrder}
use Rattle.ordering.specs.Equations.{held_by, Solves, SameRuns}
use Rattle.ordering.proofs.PlacingLaws.{order-grounded}
use Rattle.ordering.proofs.OrderLaws.{kinds, number_lt, sorted-at, sorted-from, sorted-ordered}

-- ---- a row's value depends on what it names

pub row_same : (h : Bool) (i : ℕ → ℕ → Bool) (v w : ℕ → Bool) (r : Row) → ((l : ℕ) → Among (l / 2) (fanin_nodes r) → is_register r ≡ false → v (l / 2) ≡ w (l / 2)) → row_value bool_logic h i v r ≡ row_value bool_logic h i w r
row_same h i v w constant e = refl
row_same h i v w (input l p) e = refl
row_same h i v w (register _ _ _) e = refl
row_same h i v w (and_gate a b) e = let x = literal-cong bool_logic v w a (e a here refl) in let y = literal-cong bool_logic v w b (e b (there here) refl) in cc (x, y)
row_same h i v w (xor_gate a b) e = let x = literal-cong bool_logic v w a (e a here refl) in let y = literal-cong bool_logic v w b (e b (there here) refl) in cc (x, y)
row_same h i v w (mux_gate a b c) e =
    let x = literal-cong bool_logic v w a (e a here refl) in
    let y = literal-cong bool_logic v w b (e b (there here) refl) in
    let z = literal-cong bool_logic v w c (e c (there (there here)) refl) in cc (x, y, z)
row_same h i v w (output a _ _) e = literal-cong bool_logic v w a (e a here refl)

next-same : (rows : List Row) (v w : ℕ → Bool) (r : Row) → OnLiterals (NamesNode rows) (NamesNode rows) r → ((x : ℕ) → x < length rows → v x ≡ w x) → next_value bool_logic v r ≡ next_value bool_logic w r
next-same rows v w constant n e = refl
next-same rows v w (input _ _) n e = refl
next-same rows v w (register _ x _) n e = literal-cong bool_logic v w x (e (x / 2) n.0)
next-same rows v w (and_gate _ _) n e = refl
next-same rows v w (xor_gate _ _) n e = refl
next-same rows v w (mux_gate _ _ _) n e = refl
next-same rows v w (output _ _ _) n e = refl

-- What a row names is a node.
abbrev EachNode : List Row → List ℕ → Type 0
EachNode rows [] = Unit {0}
EachNode rows (x ∷ xs) = ((x < length rows) × (is_output (row_at rows x) ≡ false)) × EachNode rows xs

node_at : (rows : List Row) (js : List ℕ) → EachNode rows js → (x : ℕ) → Among x js → (x < length rows) × (is_output (row_at rows x) ≡ false)
node_at rows [] e x x4 = elim x4 [ ]
node_at rows (j ∷ js) e x here = e.0
node_at rows (j ∷ js) e x (there a) = node_at rows js e.1 x a

fanin-nodes : (rows : List Row) (r : Row) → OnLiterals (NamesNode rows) (NamesNode rows) r → EachNode rows (fanin_nodes r)
fanin-nodes rows constant n = tt
fanin-nodes rows (input _ _) n = tt
fanin-nodes rows (register _ _ _) n = (n, tt)
fanin-nodes rows (and_gate _ _) n = (n.0, (n.1, tt))
fanin-nodes rows (xor_gate _ _) n = (n.0, (n.1, tt))
fanin-nodes rows (mux_gate _ _ _) n = (n.0.0, (n.0.1, (n.1, tt)))
fanin-nodes rows (output _ _ _) n = (n, tt)

named-node : (rows : List Row) (r : Row) → OnLiterals (NamesNode rows) (NamesNode rows) r → (x : ℕ) → Among x (fanin_nodes r) → (x < length rows) × (is_output (row_at rows x) ≡ false)
named-node rows r n x a = node_at rows (fanin_nodes r) (fanin-nodes rows r n) x a

-- A source that is no register names nothing.
source-fanin : (r : Row) → is_source r ≡ true → is_register r ≡ false → (x : ℕ) → Among x (fanin_nodes r) → ⊥
source-fanin constant s n x a = elim a [ ]
source-fanin (input _ _) s n x a = elim a [ ]
source-fanin (register _ _ _) s n x a = false≢true (sym n)
source-fanin (and_gate _ _) s n x a = false≢true s
source-fanin (xor_gate _ _) s n x a = false≢true s
source-fanin (mux_gate _ _ _) s n x a = false≢true s
source-fanin (output _ _ _) s n x a = false≢true s

module _ (rows : List Row) (literals : (i : ℕ) → i < length rows → OnLiterals (NamesNode rows) (NamesNode rows) (row_at rows i)) (O : IsGateOrder rows (gate_order rows)) where
  -- ---- at most one solution

  module _ (run : RunValues) (v w : ℕ → ℕ → Bool) (sv : Solves rows run v) (sw : Solves rows run w) where
    module _ (t : ℕ) (helds : (j : ℕ) → j < length rows → held_by rows run v t j ≡ held_by rows run w t j) where
      row-once : (j : ℕ) → j < length rows → ((x : ℕ) → Among x (fanin_nodes (row_at rows j)) → is_register (row_at rows j) ≡ false → v t x ≡ w t x) → v t j ≡ w t j
      row-once j l e = sv t j l ∙ ap (λ (h : Bool). row_value bool_logic h (run.inputs t) (v t) (row_at rows j)) (helds j l) ∙ row_same (held_by rows run w t j) (run.inputs t) (v t) (w t) (row_at rows j) (λ x a n. e (x / 2) a n) ∙ sym (sw t j l)

      source-once : (j : ℕ) → j < length rows → is_source (row_at rows j) ≡ true → v t j ≡ w t j
      source-once j l s = row-once j l (λ x a n. absurd (source-fanin (row_at rows j) s n x a))

      gate-once : (j : ℕ) → Grounded rows j → j < length rows → v t j ≡ w t j
      gate-once j (grounded j' f) l = row-once j' l (λ x a n.
          let m = named-node rows (row_at rows j') (literals j' l) x a in
          elim (kinds (row_at rows x)) [
            | inl s ↦ source-once x m.0 s
            | inr k ↦ elim k [ inl g ↦ gate-once x (f x a g) m.0 | inr o ↦ absurd (false≢true (sym m.1 ∙ o)) ]
          ])

      step-once : (j : ℕ) → j < length rows → v t j ≡ w t j
      step-once j l = gate-once j (grounded j (λ x a g. order-grounded rows (gate_order rows) O x g)) l

    held-once : (t j : ℕ) → j < length rows → held_by rows run v t j ≡ held_by rows run w t j
    held-once zero j l = refl
    held-once (suc t) j l = next-same rows (v t) (w t) (row_at rows j) (literals j l) (step-once t (held-once t))

    pub value-once : (t j : ℕ) → j < length rows → v t j ≡ w t j
    value-once t = step-once t (held-once t)

  -- ---- the sorted run is one

  abbrev sorted : List Row
  sorted = sorted_netlist rows

  abbrev N : ℕ → ℕ
  N = new_number (sorted_order rows)

  renumber-value : (u : ℕ → Bool) (l : ℕ) → literal_value bool_logic u (renumber_by (sorted_order rows) l) ≡ literal_value bool_logic (λ x. u (N x)) l
  renumber-value u l =
      let p : renumber_by (sorted_order rows) l / 2 ≡ N (l / 2) = omega arith in
      let q : renumber_by (sorted_order rows) l % 2 ≡ l % 2 = omega arith in
      rw (p, q)

  renumber-row : (h : Bool) (i : ℕ → ℕ → Bool) (u : ℕ → Bool) (r : Row) → row_value bool_logic h i u (map_literals (renumber_by (sorted_order rows)) r) ≡ row_value bool_logic h i (λ x. u (N x)) r
  renumber-row h i u constant = refl
  renumber-row h i u (input _ _) = refl
  renumber-row h i u (register _ _ _) = refl
  renumber-row h i u (and_gate a b) = cc (renumber-value u a, renumber-value u b)
  renumber-row h i u (xor_gate a b) = cc (renumber-value u a, renumber-value u b)
  renumber-row h i u (mux_gate a b c) = cc (renumber-value u a, renumber-value u b, renumber-value u c)
  renumber-row h i u (output a _ _) = renumber-value u a

  renumber-next : (u : ℕ → Bool) (r : Row) → next_value bool_logic u (map_literals (renumber_by (sorted_order rows)) r) ≡ next_value bool_logic (λ x. u (N x)) r
  renumber-next u constant = refl
  renumber-next u (input _ _) = refl
  renumber-next u (register _ n _) = renumber-value u n
  renumber-next u (and_gate _ _) = refl
  renumber-next u (xor_gate _ _) = refl
  renumber-next u (mux_gate _ _ _) = refl
  renumber-next u (output _ _ _) = refl

  renumber-reset : (c : ℕ → Bool) (g : ℕ → ℕ) (r : Row) → reset_value bool_logic c (map_literals g r) ≡ reset_value bool_logic c r
  renumber-reset c g constant = refl
  renumber-reset c g (input _ _) = refl
  renumber-reset c g (register _ _ _) = refl
  renumber-reset c g (and_gate _ _) = refl
  renumber-reset c g (xor_gate _ _) = refl
  renumber-reset c g (mux_gate _ _ _) = refl
  renumber-reset c g (output _ _ _) = refl

  module _ (run : RunValues) where
    abbrev new : ℕ → ℕ → Bool
    new t = run_value bool_logic sorted run.choices run.inputs t

    pub solution : ℕ → ℕ → Bool
    solution t j = new t (N j)

    held_same : (t j : ℕ) → held bool_logic sorted run.choices run.inputs t (map_literals (renumber_by (sorted_order rows)) (row_at rows j)) ≡ held_by rows run solution t j
    unfolding solution
    held_same zero j = renumber-reset run.choices (renumber_by (sorted_order rows)) (row_at rows j)
    held_same (suc t) j = renumber-next (new t) (row_at rows j)

    pub run-solves : Solves rows run solution
    unfolding solution
    run-solves t j l =
        value-at bool_logic sorted run.choices run.inputs (sorted-ordered rows O literals) t (N j) (number_lt rows O j l)
        ∙ ap (λ (r : Row). row_value bool_logic (held bool_logic sorted run.choices run.inputs t r) (run.inputs t) (new t) r) (sorted-at rows O j l)
        ∙ ap (λ (h : Bool). row_value bool_logic h (run.inputs t) (new t) (map_literals (renumber_by (sorted_order rows)) (row_at rows j))) (held_same t j)
        ∙ renumber-row (held_by rows run solution t j) (run.inputs t) (new t) (row_at rows j)

  -- ---- names

  keeps-name : (k l p : ℕ) (g : ℕ → ℕ) (r : Row) → is_named k l p (map_literals g r) ≡ is_named k l p r
  keeps-name k l p g r = let n = (map-alike g r).name in rw (n.kind, n.label, n.phase)

  keeps-unknown : (l : ℕ) (g : ℕ → ℕ) (r : Row) → is_unknown (map_literals g r) && eqb (label_of (map_literals g r)) l ≡ is_unknown r && eqb (label_of r) l
  keeps-unknown l g constant = refl
  keeps-unknown l g (input _ _) = refl
  keeps-unknown l g (register _ _ _) = refl
  keeps-unknown l g (and_gate _ _) = refl
  keeps-unknown l g (xor_gate _ _) = refl
  keeps-unknown l g (mux_gate _ _ _) = refl
  keeps-unknown l g (output _ _ _) = refl

  -- A test that renumbering keeps is passed by a row of the one exactly if by one of the other.
  has_same : (f : Row → Bool) → ((g : ℕ → ℕ) (r : Row) → f (map_literals g r) ≡ f r) → HasRow f rows ↔ HasRow f sorted
  has_same f keeps = (
    λ h. (let x = has-at f rows h in has_of f sorted (N (first_row f rows)) (number_lt rows O (first_row f rows) x.0) (ap f (sorted-at rows O (first_row f rows) x.0) ∙ keeps _ _ ∙ x.1)),
    λ h. (let y = has-at f sorted h in let i = sorted-from rows O (first_row f sorted) y.0 in has_of f rows i.0 i.1 (sym (keeps _ (row_at rows i.0)) ∙ ap f (sym (sorted-at rows O i.0 i.1)) ∙ ap (λ (z : ℕ). f (row_at sorted z)) i.2 ∙ y.1)),
  )

  module _ (unique : NamesUnique rows) where
    -- The row of a name has its new number.
    name-place : (k l p : ℕ) → ((r : Row) → kind_of r ≡ k → has_name r ≡ true) → HasRow (is_named k l p) rows → (row_named k l p rows < length rows) × (row_named k l p sorted ≡ N (row_named k l p rows))
    name-place k l p named h =
        let x = has-at (is_named k l p) rows h in
        let y = has-at (is_named k l p) sorted ((has_same (is_named k l p) (keeps-name k l p)).0 h) in
        let i = sorted-from rows O (row_named k l p sorted) y.0 in
        let b = named-is k l p (row_at rows i.0) (sym (keeps-name k l p _ (row_at rows i.0)) ∙ ap (is_named k l p) (sym (sorted-at rows O i.0 i.1)) ∙ ap (λ (z : ℕ). is_named k l p (row_at sorted z)) i.2 ∙ y.1) in
        let e : row_named k l p rows ≡ i.0 = named-place rows unique i.0 i.1 k l p (named (row_at rows i.0) b.0) b.0 b.1 b.2 in
        (x.0, sym i.2 ∙ ap N (sym e))

    -- A register's value in a step is what it holds.
    register-value : (run : RunValues) (t y : ℕ) (s n l : ℕ) → y < length sorted → row_at sorted y ≡ register s n l → value_at bool_logic (run_state bool_logic sorted run.choices run.inputs t) y ≡ run_value bool_logic sorted run.choices run.inputs t y
    register-value run t y s n l h e =
        state-at bool_logic sorted run.choices run.inputs t y
        ∙ sym (value-at bool_logic sorted run.choices run.inputs (sorted-ordered rows O literals) t y h
        ∙ ap (row_value bool_logic (held bool_logic sorted run.choices run.inputs t (row_at sorted y)) (run.inputs t) (new run t)) e)

    pub same_runs : SameRuns rows sorted
    unfolding solution
    same_runs = record {
      solved = λ run. (solution run, run-solves run);
      once = value-once;
      names = λ k l p. has_same (is_named k l p) (keeps-name k l p);
      unknowns = λ l. has_same (λ r. is_unknown r && eqb (label_of r) l) (keeps-unknown l);
      outputs = λ run v sv t l p h.
          let q = name-place 6 l p (λ r e. rw e) h in
          ap (new run t) q.1 ∙ value-once run (solution run) v (run-solves run) sv t (row_named 6 l p rows) q.0;
      registers = λ run v sv t l h.
          let q = name-place 2 l 0 (λ r e. rw e) h in
          let y = has-at (is_named 2 l 0) sorted ((has_same (is_named 2 l 0) (keeps-name 2 l 0)).0 h) in
          let r = named-register l (row_at sorted (row_named 2 l 0 sorted)) y.1 in
          register-value run t (row_named 2 l 0 sorted) r.0 r.1 l y.0 r.2 ∙ ap (new run t) q.1 ∙ value-once run (solution run) v (run-solves run) sv t (row_named 2 l 0 rows) q.0;
    }
