-- The folded netlist is in the file's shape: the constant first, then nodes, then outputs; names unique, phases and resets in range, literals that name nodes.
-- Assumes nothing.
use Prim.Native.Nat.{ℕ, zero, suc, ◌<◌, ◌≤◌, ◌/◌}
use mathlib.Core.Path.{◌≡◌, refl, sym, ap, ◌∙◌, subst}
use mathlib.Core.Logic.{◌↔◌}
use mathlib.Core.Bool.{Bool, true, false, false≢true, true≢false}
use mathlib.Core.List.{List, map}
use native.Mathlib.Omega.{arith}
use native.Mathlib.Decide.{dec_lt}
use lib.Dec.{eqb}
use lib.ListN.{length, length-map, get_or-map}
use Rattle.memory.specs.Lists.{join_below}
use Rattle.ternary.specs.Ternary.{Ternary}
use Rattle.netlist.specs.Rows.{Row, constant, input, register, and_gate, xor_gate, mux_gate, output, row_at, kind_of, phase_of, has_name, is_output, on_register, on_output, fanin_nodes}
use Rattle.netlist.proofs.RowLaws.{named-alike, unnamed, Alike, map-alike, reset-alike, same_names}
use Rattle.netlist.specs.WellFormed.{SameName, NamesDistinct, FileShape, OperandsBelow, NextBelow, ResetIn, NamesNode, OnLiterals, FoldableRows}
use Rattle.abstraction.specs.Unrolling.{patch_next, phase_outputs, unrolled_netlist}
use Rattle.abstraction.specs.Compaction.{is_cone_root, is_marked, new_index, renumber_literal, Reached}
use Rattle.abstraction.proofs.UnrollLaws.{unroll-formed, unroll-grows}
use Rattle.abstraction.proofs.UnrolledRun.{outputs-each, whole-front, whole_back, length_whole}
use Rattle.abstraction.proofs.Provenance.{distinct_append, unroll-named, unroll-nodes, outputs-named}
use Rattle.abstraction.proofs.CompactionLaws.{renumbered, AllMarked, index-mono, kept-ordered}
use Rattle.abstraction.proofs.ConeLaws.{cone-length, cone-root, cone-exact}
use Rattle.abstraction.proofs.FoldedRun.{patch-alike, whole, made, last, cone, folded, ordered, closed, whole-next, whole-fanin, folded-at, folded-lt, folded_from, folded-is, folded-alike, origin, output-kept}

module _ (rows : List Row) (ok : FoldableRows rows) (clock : ℕ → ℕ → Ternary) (M : ℕ) where
  abbrev N : ℕ
  N = suc M

  abbrev unrolled : List Row
  unrolled = whole clock rows M

  abbrev nodes : List Row
  nodes = made clock rows M

  abbrev marks : List Bool
  marks = cone clock rows M

  abbrev new : List Row
  new = folded clock rows M

  -- ---- before the cone is taken

  whole-alike : (j : ℕ) → j < length nodes → Alike (row_at unrolled j) (row_at nodes j)
  whole-alike j h = subst (λ (r : Row). Alike r (row_at nodes j)) (sym (whole-front clock rows N j h)) (patch-alike (last clock rows M) (row_at nodes j))

  whole-node : (j : ℕ) → j < length nodes → is_output (row_at unrolled j) ≡ false
  whole-node j h = ap (λ (n : ℕ). eqb n 6) (whole-alike j h).name.kind ∙ (unroll-nodes rows clock N).node j h

  whole-output : (j : ℕ) → length nodes ≤ j → j < length unrolled → is_output (row_at unrolled j) ≡ true
  whole-output j h b = ap is_output (whole_back clock rows N j h b).to

  whole-node-lt : (j : ℕ) → j < length unrolled → is_output (row_at unrolled j) ≡ false → j < length nodes
  whole-node-lt j b e = elim (dec_lt j (length nodes)) [ yes l ↦ l | no l ↦ absurd (false≢true (sym e ∙ whole-output j (omega arith) b)) ]

  whole-solid : (j : ℕ) → 0 < j → j < length unrolled → 0 < kind_of (row_at unrolled j)
  whole-solid j h b = elim (dec_lt j (length nodes)) [
    | yes l ↦ omega (arith, (whole-alike j l).name.kind, (unroll-nodes rows clock N).solid j h l)
    | no l ↦ omega (arith, ap kind_of (whole_back clock rows N j (omega arith) b).to)
  ]

  whole-constant : row_at unrolled 0 ≡ constant
  whole-constant = let t = unroll-nodes rows clock N in whole-front clock rows N 0 t.some-row ∙ ap (patch_next (last clock rows M)) t.constant-first

  -- The nodes with their next values in place.
  abbrev front : List Row
  front = map (patch_next (last clock rows M)) nodes

  front_length : length front ≡ length nodes
  front_length = length-map nodes (patch_next (last clock rows M))

  front-alike : (i : ℕ) → Alike (row_at front i) (row_at nodes i)
  front-alike i = subst (λ (r : Row). Alike r (row_at nodes i)) (sym (get_or-map (patch_next (last clock rows M)) nodes i constant)) (patch-alike (last clock rows M) (row_at nodes i))

  front-distinct : NamesDistinct front
  front-distinct i j l h t s =
      let a = (front-alike i).name in
      (unroll-named rows clock N).distinct ok i j l (omega (arith, h, front_length)) (named-alike (row_at front i) (row_at nodes i) a.kind t)
      (same_names (row_at front i) (row_at nodes i) (row_at front j) (row_at nodes j) a (front-alike j).name s)

  whole-distinct : NamesDistinct unrolled
  unfolding unrolled_netlist
  whole-distinct = distinct_append front (join_below N (phase_outputs clock rows)) front-distinct ((outputs-named rows clock N).distinct ok) cross
    where
      cross : (i j : ℕ) → i < length front → j < length (join_below N (phase_outputs clock rows)) → has_name (row_at front i) ≡ true → SameName (row_at front i) (row_at (join_below N (phase_outputs clock rows)) j) → ⊥
      cross i j h b t s =
          false≢true (sym ((unroll-nodes rows clock N).node i (omega (arith, h, front_length)))
          ∙ ap (λ (n : ℕ). eqb n 6) (sym (front-alike i).name.kind ∙ s.kind) ∙ ap is_output (outputs-each clock rows N j b).to)

  -- A register's next value and an output's literal name nodes.
  abbrev LiteralsIn : ℕ → Row → Type 0
  LiteralsIn m r = on_register (Unit {0}) (λ s n l. n / 2 < m) r × on_output (Unit {0}) (λ a l p. a / 2 < m) r

  front-names : (r : Row) → is_output r ≡ false → NextBelow (length nodes) r → LiteralsIn (length nodes) r
  front-names constant h n = (tt, tt)
  front-names (input _ _) h n = (tt, tt)
  front-names (register _ _ _) h n = (n, tt)
  front-names (and_gate _ _) h n = (tt, tt)
  front-names (xor_gate _ _) h n = (tt, tt)
  front-names (mux_gate _ _ _) h n = (tt, tt)
  front-names (output _ _ _) h n = absurd (true≢false h)

  whole-names : (j : ℕ) → j < length unrolled → LiteralsIn (length nodes) (row_at unrolled j)
  whole-names j b = elim (dec_lt j (length nodes)) [
    | yes l ↦ front-names (row_at unrolled j) (whole-node j l) (whole-next clock rows M j b)
    | no l ↦
        (let o = whole_back clock rows N j (omega arith) b in
        rw o.to (tt, omega (arith, (unroll-formed clock rows (suc o.phase)).range o.source, unroll-grows clock rows (suc o.phase) N o.small)))
  ]

  -- The cone of the unrolled netlist is what its outputs reach, and row 0.
  pub unrolled-cone : (j : ℕ) → (is_marked marks j ≡ true) ↔ Reached unrolled j
  unrolled-cone = cone-exact unrolled (λ _. ap kind_of whole-constant) only (whole-fanin clock rows M)
    where
      only : (j : ℕ) → j < length unrolled → kind_of (row_at unrolled j) ≡ 0 → j ≡ 0
      only zero h e = refl
      only (suc j) h e = absurd (omega (arith, e, whole-solid (suc j) (omega arith) h))

  -- ---- the rows that stay

  -- They keep their order.
  folded-order : (x y : ℕ) (h : x < length new) (k : y < length new) → x < y → (folded_from clock rows M x h).source < (folded_from clock rows M y k).source
  folded-order x y h k l =
      let a = folded_from clock rows M x h in
      let b = folded_from clock rows M y k in
      elim (dec_lt a.source b.source) [
        | yes q ↦ q
        | no q ↦ absurd (omega (arith, a.is, b.is, index-mono marks b.source a.source (omega arith)))
      ]

  folded-distinct : NamesDistinct new
  folded-distinct i j l h t s =
      let b : i < length new = omega arith in
      let p = (folded-alike clock rows M i b).name in
      let q = (folded-alike clock rows M j h).name in
      whole-distinct (folded_from clock rows M i b).source (folded_from clock rows M j h).source (folded-order i j b h l) (folded_from clock rows M j h).below
      (named-alike (row_at new i) (row_at unrolled (folded_from clock rows M i b).source) p.kind t) (same_names (row_at new i) _ (row_at new j) _ p q s)

  folded-constant : row_at new 0 ≡ constant
  unfolding new_index
  folded-constant =
      let p : 0 < length unrolled = omega (arith, (unroll-nodes rows clock N).some-row, length_whole clock rows N) in
      folded-at clock rows M 0 (cone-root unrolled 0 p (ap is_cone_root whole-constant)) ∙ ap (renumbered marks) whole-constant

  folded-solid : (y : ℕ) → 0 < y → y < length new → 0 < kind_of (row_at new y)
  unfolding new_index
  folded-solid y p h =
      let k = folded_from clock rows M y h in
      omega (arith, (folded-alike clock rows M y h).name.kind, whole-solid k.source (pos k.source k.is) k.below)
    where
      pos : (j : ℕ) → new_index marks j ≡ y → 0 < j
      pos zero e = absurd (omega arith)
      pos (suc j) e = omega arith

  folded-output : (y : ℕ) (h : y < length new) → is_output (row_at new y) ≡ is_output (row_at unrolled (folded_from clock rows M y h).source)
  folded-output y h = ap (λ (n : ℕ). eqb n 6) (folded-alike clock rows M y h).name.kind

  folded-nodes-first : (y : ℕ) → y < length new → is_output (row_at new y) ≡ false → (x : ℕ) → x < y → is_output (row_at new x) ≡ false
  folded-nodes-first y h e x l =
      let b : x < length new = omega arith in
      let q = whole-node-lt (folded_from clock rows M y h).source (folded_from clock rows M y h).below (sym (folded-output y h) ∙ e) in
      folded-output x b ∙ whole-node (folded_from clock rows M x b).source (omega (arith, folded-order x y b h l))

  folded-phase : (y : ℕ) → y < length new → phase_of (row_at new y) < N
  folded-phase y h = go (has_name (row_at new y)) refl
    where
      go : (t : Bool) → has_name (row_at new y) ≡ t → phase_of (row_at new y) < N
      go true e = (origin clock rows M y h e).phase
      go false e = omega (arith, ap (λ (n : ℕ × ℕ). n.1) (unnamed (row_at new y) e))

  folded-reset : (y : ℕ) → y < length new → ResetIn (row_at new y)
  folded-reset y h = go (row_at new y) refl
    where
      go : (r : Row) → row_at new y ≡ r → ResetIn r
      go constant e = tt
      go (input _ _) e = tt
      go (register r n l) e =
          let o = origin clock rows M y h (ap has_name e) in
          subst ResetIn e (reset-alike (row_at new y) (row_at rows o.row) o.kind o.reset (ok.checked.resets o.row o.within))
      go (and_gate _ _) e = tt
      go (xor_gate _ _) e = tt
      go (mux_gate _ _ _) e = tt
      go (output _ _ _) e = tt

  names-node : (l : ℕ) → l / 2 < length nodes → is_marked marks (l / 2) ≡ true → NamesNode new (renumber_literal marks l)
  names-node l h k =
      let p : renumber_literal marks l / 2 ≡ new_index marks (l / 2) = omega arith in
      let q : is_output (row_at new (new_index marks (l / 2))) ≡ false = ap is_output (folded-at clock rows M (l / 2) k) ∙ ap (λ (n : ℕ). eqb n 6) (map-alike (renumber_literal marks) (row_at unrolled (l / 2))).name.kind ∙ whole-node (l / 2) h in
      rw p (folded-lt clock rows M (l / 2) k, q)

  literals-of : (y : ℕ) (r : Row) → LiteralsIn (length nodes) r → AllMarked marks (fanin_nodes r) → OperandsBelow y (renumbered marks r) → OnLiterals (λ l. l / 2 < y) (NamesNode new) (renumbered marks r)
  literals-of y constant n a b = tt
  literals-of y (input _ _) n a b = tt
  literals-of y (register _ l _) n a b = names-node l n.0 a.0
  literals-of y (and_gate _ _) n a b = b
  literals-of y (xor_gate _ _) n a b = b
  literals-of y (mux_gate _ _ _) n a b = ((b.0, b.1), b.2)
  literals-of y (output l _ _) n a b = names-node l n.1 a.0

  folded-literals : (y : ℕ) → y < length new → OnLiterals (λ l. l / 2 < y) (NamesNode new) (row_at new y)
  folded-literals y h =
      let k = folded_from clock rows M y h in
      let e = folded-is clock rows M y h in
      let o = kept-ordered unrolled marks (cone-length unrolled) (ordered clock rows M) (closed clock rows M) y h in
      rw e (literals-of y (row_at unrolled k.source) (whole-names k.source k.below) (closed clock rows M k.source k.below k.mark) (subst (OperandsBelow y) e o))

  pub result-shape : FileShape N new
  result-shape =
      let x = ok.checked.has-output in
      let o = output-kept clock rows M x.0 x.1 x.2 x.3 0 (omega arith) x.4 x.5 in
      record {
        some-row = omega (arith, o.1.within);
        constant-first = folded-constant;
        solid = folded-solid;
        nodes-first = folded-nodes-first;
        some-output = (o.1.place, o.1.within, ap is_output o.1.is);
        phases = folded-phase;
        resets = folded-reset;
        distinct = folded-distinct;
        literals = folded-literals;
      }
