-- Windows as they are made: a run of nodes that count up, and the entries of a tree.
-- Assumes nothing.
use Prim.Native.Nat.{ℕ, ◌+◌, ◌-◌, ◌*◌, ◌<◌, ◌≤◌}
use mathlib.Core.Path.{◌≡◌, sym, ◌∙◌}
use mathlib.Core.Bool.{true, false, false≢true}
use mathlib.Core.List.{List}
use native.Mathlib.Omega.{arith}
use lib.ListN.{length}
use lib.Dec.{eqb}
use borrow.Author.Tests.{eqb-true}
use Rattle.memory.proofs.TestLaws.{last_or}
use Rattle.memory.proofs.ListLaws.{first-is}
use Rattle.name_tree.specs.Trees.{variable_at, entry_of, Added}
use Rattle.name_tree.proofs.TreeLaws.{tree-empty}
use Rattle.aiger.specs.AigerText.{Aiger, node_count, node_literal, is_distinct}
use Rattle.aiger_names.specs.Names.{WindowStands, CountsUp, TreeHas}
use Rattle.aiger_names.specs.declared.Window.{Window}
use Rattle.aiger_names.proofs.WindowLaws.{twice}

module _ (a : Aiger) where
  pub run-first : CountsUp a 1
  run-first r l = let e : r ≡ 0 = omega arith in rw e

  pub run-next : (n n' : ℕ) → CountsUp a n → node_literal a n ≡ 2 * n → n' ≡ n + 1 → CountsUp a n'
  run-next n n' C e t r l = last_or r n (omega arith) (C r) (λ q. rw q e)

  pub window-run : (w : List ℕ) (base : ℕ) (win : Window) → win.start ≡ 0 → win.tree ≡ false → CountsUp a win.end → win.end ≤ node_count a.header → WindowStands a w base win
  window-run w base win z t C l = record {
    ordered = omega arith;
    inside = l;
    run = λ _. (z, C);
    tree = λ u. absurd (false≢true (sym t ∙ u));
  }

  pub filled_none : (w : List ℕ) (base s : ℕ) → base ≤ length w → TreeHas a w base s 0
  filled_none w base s h = record { tree = tree-empty h; literals = λ j l. absurd (omega arith) }

  pub filled_next : (w w' : List ℕ) (base s n n' x : ℕ) → TreeHas a w base s n → Added w base n x w' → node_literal a (s + n) ≡ 2 * x → n' ≡ n + 1 → TreeHas a w' base s n'
  filled_next w w' base s n n' x T A e t = rw t (record {
    tree = A.tree;
    literals = λ j l.
        last_or j n (omega arith)
        (λ k. omega (arith, T.literals j k, A.kept j k))
        (λ q. rw q (omega (arith, A.new)));
  })

  -- The node after them is one of them.
  pub filled-twice : (w : List ℕ) (base s n x : ℕ) → TreeHas a w base s n → entry_of w base n x < n → node_literal a (s + n) ≡ 2 * x → s + n < node_count a.header → is_distinct a ≡ false
  filled-twice w base s n x T l e h =
      let q = eqb-true (variable_at w base (entry_of w base n x)) x ((first-is 0 n (λ j. eqb (variable_at w base j) x)).holds (omega arith)) in
      twice a (s + entry_of w base n x) (s + n) (omega arith) h (omega (arith, T.literals (entry_of w base n x) l))

  pub window-tree : (w : List ℕ) (base n : ℕ) (win : Window) → win.tree ≡ true → TreeHas a w base win.start n → win.end ≡ win.start + n → win.end ≤ node_count a.header → WindowStands a w base win
  window-tree w base n win t T e l =
      let size : win.end - win.start ≡ n = omega arith in
      record {
        ordered = omega arith;
        inside = l;
        run = λ u. absurd (false≢true (sym u ∙ t));
        tree = λ _. rw size (T.tree, T.literals);
      }
