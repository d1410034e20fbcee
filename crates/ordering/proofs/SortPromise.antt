-- The guarantee of a sort that is not refused, from the file's bytes and the sorter's questions alone.
-- Assumes nothing.
use Prim.Native.Nat.{ℕ, zero, suc, ◌+◌, ◌<◌, ◌≤◌, ◌/◌, ◌^◌}
use mathlib.Core.Path.{◌≡◌, refl, sym, ap, ◌∙◌, subst}
use mathlib.Core.Logic.{inl, inr}
use mathlib.Core.Bool.{true, false, ◌&&◌, false≢true}
use mathlib.Core.List.{List, [], ◌∷◌, ◌++◌}
use native.Mathlib.Omega.{arith}
use native.Mathlib.Decide.{dec_lt}
use lib.Dec.{eqb, ltb}
use lib.ListN.{length, get_or, length-append, get_or-append}
use Rattle.memory.specs.Lists.{Among}
use Rattle.memory.specs.Fields.{IsBytes}
use Rattle.memory.proofs.TestLaws.{fails}
use Rattle.netlist.specs.Limits.{most_phases, most_rows}
use Rattle.netlist.specs.Rows.{Row, constant, input, register, and_gate, xor_gate, mux_gate, output, row_at, kind_of, label_of, phase_of, is_output, map_literals}
use Rattle.netlist.specs.FileFormat.{netlist_of, file_of}
use Rattle.netlist.proofs.FileLaws.{file-length, file-labels}
use Rattle.netlist.proofs.RowLaws.{named-alike, map-alike, reset-alike, same_names}
use Rattle.netlist.specs.WellFormed.{OperandsBelow, ResetIn, NamesNode, OnLiterals, FileShape, UnorderedRows}
use Rattle.questions.specs.Questions.{no_refusal, file_refusal, unordered_refusal, names_anywhere, names_earlier}
use Rattle.questions.specs.RefusalWords.{ask, asked_of_unordered}
use Rattle.questions.proofs.QuestionLaws.{number-none}
use Rattle.questions.proofs.AskedLaws.{parts-yes, each-yes, all-yes-is}
use Rattle.questions.proofs.RefusalMeaning.{unordered-refusal-means}
use Rattle.questions.proofs.AcceptedFiles.{FileRight, file-right, rows-of-file, file-unordered, file-checked}
use Rattle.questions.specs.RoundTrips.{Writable}
use Rattle.questions.proofs.WriteThenRead.{writable-read, writable-accepted, writable-bytes}
use Rattle.questions.proofs.ReadThenWrite.{write_read}
use Rattle.questions.proofs.ShapePasses.{shape-passes}
use Rattle.ordering.specs.GateOrder.{is_gate, is_source, gate_order, rows_that, sorted_order, new_number, renumber_by, sorted_netlist, IsGateOrder}
use Rattle.ordering.specs.SortQuestions.{sort_refusal}
use Rattle.ordering.specs.SortRefusalWords.{LoopFree, asked_by_sort}
use Rattle.ordering.specs.SortGuarantee.{SourcesFirst, SortGuarantee}
use Rattle.ordering.proofs.PlacingLaws.{in-of, at_of, gate-inside, grounded-in, order_is, order-low}
use Rattle.ordering.proofs.OrderLaws.{kinds, below, below_in, order-once, number_at, number_lt, sorted-length, sorted-at, sorted-from, sorted-ordered, source-place, gate-place, gate-in, output-place}
use Rattle.ordering.proofs.InOrder.{order-kept, sorted-rows, sorted-same}
use Rattle.ordering.proofs.EquationLaws.{same_runs}
use Rattle.ordering.proofs.SortRefusalMeaning.{sort-refusal-means}

-- ---- renumbering keeps all but the literals

keeps-kind : (g : ℕ → ℕ) (r : Row) → kind_of (map_literals g r) ≡ kind_of r
keeps-kind g r = (map-alike g r).name.kind

keeps_output : (g : ℕ → ℕ) (r : Row) → is_output (map_literals g r) ≡ is_output r
keeps_output g r = ap (λ (k : ℕ). eqb k 6) (keeps-kind g r)

-- Literals that name nodes, renumbered; a gate's name earlier rows besides.
literals-of : (g : ℕ → ℕ) (old new : List Row) (y : ℕ) → ((l : ℕ) → NamesNode old l → NamesNode new (g l)) → (r : Row) → OnLiterals (NamesNode old) (NamesNode old) r → OperandsBelow y (map_literals g r) → OnLiterals (λ l. l / 2 < y) (NamesNode new) (map_literals g r)
literals-of g old new y f constant n b = tt
literals-of g old new y f (input _ _) n b = tt
literals-of g old new y f (register _ x _) n b = f x n
literals-of g old new y f (and_gate _ _) n b = b
literals-of g old new y f (xor_gate _ _) n b = b
literals-of g old new y f (mux_gate _ _ _) n b = ((b.0, b.1), b.2)
literals-of g old new y f (output x _ _) n b = f x n

literals-all : (g : ℕ → ℕ) (old new : List Row) → ((l : ℕ) → NamesNode old l → NamesNode new (g l)) → (r : Row) → OnLiterals (NamesNode old) (NamesNode old) r → OnLiterals (NamesNode new) (NamesNode new) (map_literals g r)
literals-all g old new f constant n = tt
literals-all g old new f (input _ _) n = tt
literals-all g old new f (register _ x _) n = f x n
literals-all g old new f (and_gate x y) n = (f x n.0, f y n.1)
literals-all g old new f (xor_gate x y) n = (f x n.0, f y n.1)
literals-all g old new f (mux_gate x y z) n = ((f x n.0.0, f y n.0.1), f z n.1)
literals-all g old new f (output x _ _) n = f x n

-- A netlist's first source is row 0, if that is one.
first-source : (rows : List Row) → is_source (row_at rows 0) ≡ true → (m : ℕ) → get_or (below rows is_source m) 0 0 ≡ 0
first-source rows s zero = refl
first-source rows s (suc zero) = rw s
first-source rows s (suc (suc m)) =
    get_or-append (below rows is_source (suc m)) _ 0 0 (some (below rows is_source (suc m)) (below_in rows is_source (suc m) 0 (omega arith) s)) ∙ first-source rows s (suc m)
  where
    some : (js : List ℕ) → Among 0 js → 0 < length js
    some [] a = absurd (elim a [ ])
    some (j ∷ js) a = omega arith

module _ (rows : List Row) (U : UnorderedRows rows) (O : IsGateOrder rows (gate_order rows)) where
  abbrev sorted : List Row
  sorted = sorted_netlist rows

  abbrev N : ℕ → ℕ
  N = new_number (sorted_order rows)

  abbrev g : ℕ → ℕ
  g = renumber_by (sorted_order rows)

  some-row : 0 < length rows
  some-row = omega (arith, U.has-output.4)

  zero-source : is_source (row_at rows 0) ≡ true
  zero-source = ap is_source U.constant-first

  -- The constant stays row 0.
  order-head : get_or (sorted_order rows) 0 0 ≡ 0
  unfolding sorted_order
  order-head =
      let h = some (below_in rows is_source (length rows) 0 some-row zero-source) in
      get_or-append (rows_that rows is_source ++ gate_order rows) (rows_that rows is_output) 0 0 (omega (arith, h, length-append (rows_that rows is_source) (gate_order rows)))
      ∙ get_or-append (rows_that rows is_source) (gate_order rows) 0 0 h ∙ first-source rows zero-source (length rows)
    where
      some : Among 0 (rows_that rows is_source) → 0 < length (rows_that rows is_source)
      some a = let r = at_of 0 (rows_that rows is_source) a in omega (arith, r.1)

  zero-stays : N 0 ≡ 0
  zero-stays =
      let h = sorted-length rows O in
      ap N (sym order-head) ∙ number_at (sorted_order rows) (order-once rows O) 0 (omega (arith, h, sorted-rows rows O, some-row))

  -- Each row of the sorted netlist is one of the original, renumbered.
  from : (P : ℕ → Row → Type 0) → ((i : ℕ) → i < length rows → P (N i) (map_literals g (row_at rows i))) → (y : ℕ) → y < length sorted → P y (row_at sorted y)
  from P f y h =
      let r = sorted-from rows O y h in
      subst (λ (z : ℕ). P z (row_at sorted z)) r.2 (rw (sorted-at rows O r.0 r.1) (f r.0 r.1))

  node-before : (i : ℕ) → i < length rows → is_output (row_at rows i) ≡ false → N i < length (rows_that rows is_source) + length (gate_order rows)
  node-before i l n = elim (kinds (row_at rows i)) [
    | inl s ↦ omega (arith, (source-place rows O i l s).1)
    | inr k ↦ elim k [ inl t ↦ (gate-in rows O i (O.every i l t)).1 | inr o ↦ absurd (false≢true (sym n ∙ o)) ]
  ]

  names-node : (l : ℕ) → NamesNode rows l → NamesNode sorted (g l)
  names-node l n =
      let q : g l / 2 ≡ N (l / 2) = omega arith in
      rw q (number_lt rows O (l / 2) n.0, ap is_output (sorted-at rows O (l / 2) n.0) ∙ keeps_output g (row_at rows (l / 2)) ∙ n.1)

  first-nodes : (y : ℕ) → y < length sorted → is_output (row_at sorted y) ≡ false → (x : ℕ) → x < y → is_output (row_at sorted x) ≡ false
  first-nodes y h n x l =
      let j = sorted-from rows O y h in
      let i = sorted-from rows O x (omega arith) in
      let nj : is_output (row_at rows j.0) ≡ false = sym (keeps_output g (row_at rows j.0)) ∙ ap is_output (sym (sorted-at rows O j.0 j.1)) ∙ ap (λ (z : ℕ). is_output (row_at sorted z)) j.2 ∙ n in
      fails (is_output (row_at sorted x)) (λ o.
      let oi : is_output (row_at rows i.0) ≡ true = sym (keeps_output g (row_at rows i.0)) ∙ ap is_output (sym (sorted-at rows O i.0 i.1)) ∙ ap (λ (z : ℕ). is_output (row_at sorted z)) i.2 ∙ o in
      absurd (omega (arith, node-before j.0 j.1 nj, (output-place rows O i.0 i.1 oi).1, i.2, j.2)))

  pub sorted-shape : FileShape most_phases sorted
  sorted-shape = record {
    some-row = omega (arith, sorted-rows rows O, some-row);
    constant-first = ap (row_at sorted) (sym zero-stays) ∙ sorted-at rows O 0 some-row ∙ ap (map_literals g) U.constant-first;
    solid = λ y p h. solid y p h;
    nodes-first = first-nodes;
    some-output =
        (let o = U.has-output in
        (N o.0, number_lt rows O o.0 o.4, ap is_output (sorted-at rows O o.0 o.4) ∙ keeps_output g (row_at rows o.0) ∙ ap is_output o.5));
    phases = from (λ y r. phase_of r < most_phases) (λ i l. subst (λ (p : ℕ). p < most_phases) (sym (map-alike g (row_at rows i)).name.phase) (U.phases i l));
    resets = from (λ y r. ResetIn r) (λ i l. reset-alike (map_literals g (row_at rows i)) (row_at rows i) (keeps-kind g (row_at rows i)) (map-alike g (row_at rows i)).reset (U.resets i l));
    distinct = λ x y l h n s.
        let i = sorted-from rows O x (omega arith) in
        let j = sorted-from rows O y h in
        let si : row_at sorted x ≡ map_literals g (row_at rows i.0) = ap (row_at sorted) (sym i.2) ∙ sorted-at rows O i.0 i.1 in
        let sj : row_at sorted y ≡ map_literals g (row_at rows j.0) = ap (row_at sorted) (sym j.2) ∙ sorted-at rows O j.0 j.1 in
        let e : i.0 ≡ j.0 = U.unique i.0 j.0 i.1 j.1 (named-alike (map_literals g (row_at rows i.0)) (row_at rows i.0) (keeps-kind g (row_at rows i.0)) (rw si at n)) (same_names _ _ _ _ (map-alike g (row_at rows i.0)).name (map-alike g (row_at rows j.0)).name (rw (si, sj) at s)) in
        omega (arith, sym i.2 ∙ ap N e ∙ j.2, l);
    literals = λ y h.
        let r = sorted-from rows O y h in
        let b = sorted-ordered rows O U.operands y h in
        let e : row_at sorted y ≡ map_literals g (row_at rows r.0) = ap (row_at sorted) (sym r.2) ∙ sorted-at rows O r.0 r.1 in
        rw e (literals-of g rows sorted y names-node (row_at rows r.0) (U.operands r.0 r.1) (rw e at b));
  }
    where
      solid : (y : ℕ) → 0 < y → y < length sorted → 0 < kind_of (row_at sorted y)
      solid y p h =
          let r = sorted-from rows O y h in
          let e : row_at sorted y ≡ map_literals g (row_at rows r.0) = ap (row_at sorted) (sym r.2) ∙ sorted-at rows O r.0 r.1 in
          elim (dec_lt 0 (kind_of (row_at sorted y))) [
            | yes k ↦ k
            | no k ↦
                (let z : kind_of (row_at rows r.0) ≡ 0 = sym (keeps-kind g (row_at rows r.0)) ∙ ap kind_of (sym e) ∙ (let q : kind_of (row_at sorted y) ≡ 0 = omega arith in q) in
                let c = U.constant-only r.0 r.1 z in
                absurd (omega (arith, sym r.2 ∙ ap N c ∙ zero-stays, p)))
          ]

  -- The sources stand first.
  sorted-sources : SourcesFirst sorted
  sorted-sources x y h gx sy =
      let j = sorted-from rows O y h in
      let i = sorted-from rows O x (gate-inside sorted x gx) in
      let sj : is_source (row_at rows j.0) ≡ true = sym (ap (λ (k : ℕ). ltb k 3) (keeps-kind g (row_at rows j.0))) ∙ ap is_source (sym (sorted-at rows O j.0 j.1)) ∙ ap (λ (z : ℕ). is_source (row_at sorted z)) j.2 ∙ sy in
      let gi : is_gate (row_at rows i.0) ≡ true = sym (ap (λ (k : ℕ). ltb 2 k && ltb k 6) (keeps-kind g (row_at rows i.0))) ∙ ap is_gate (sym (sorted-at rows O i.0 i.1)) ∙ ap (λ (z : ℕ). is_gate (row_at sorted z)) i.2 ∙ gx in
      let r = at_of i.0 (gate_order rows) (O.every i.0 i.1 gi) in
      let n : N i.0 ≡ length (rows_that rows is_source) + r.0 = ap N (sym r.2) ∙ gate-place rows O r.0 r.1 in
      omega (arith, (source-place rows O j.0 j.1 sj).1, n, i.2, j.2)

  sorted-literals : (y : ℕ) → y < length sorted → OnLiterals (NamesNode sorted) (NamesNode sorted) (row_at sorted y)
  sorted-literals = from (λ y r. OnLiterals (NamesNode sorted) (NamesNode sorted) r) (λ i l. literals-all g rows sorted names-node (row_at rows i) (U.operands i l))

  -- Nodes of the sorted netlist stand before its outputs.
  sorted-nodes : (x y : ℕ) → y < length sorted → is_output (row_at sorted x) ≡ true → is_output (row_at sorted y) ≡ false → y < x
  sorted-nodes x y h o n = elim (dec_lt y x) [
    | yes l ↦ l
    | no l ↦ absurd (elim (dec_lt x y) [
      | yes k ↦ false≢true (sym (first-nodes y h n x k) ∙ o)
      | no k ↦ (let e : x ≡ y = omega arith in false≢true (sym n ∙ ap (λ (z : ℕ). is_output (row_at sorted z)) (sym e) ∙ o))
    ])
  ]

  -- It is itself a netlist in order, so its gates are in order.
  sorted-gates : IsGateOrder sorted (gate_order sorted)
  sorted-gates = order_is sorted (λ i l e. in-of i (gate_order sorted) (subst (Among i) (sym (order-kept sorted (sorted-ordered rows O U.operands))) (below_in sorted is_gate (length sorted) i l e)))

  pub sorted-again : sorted_netlist sorted ≡ sorted
  sorted-again = sorted-same sorted sorted-gates (sorted-ordered rows O U.operands) sorted-sources sorted-literals sorted-nodes

  pub sorted-writable : length rows ≤ most_rows → ((x : ℕ) → x < length rows → label_of (row_at rows x) < 2 ^ 16) → Writable sorted
  sorted-writable few labels = record {
    few = omega (arith, sorted-rows rows O);
    pass = shape-passes sorted most_phases sorted-shape (omega arith);
    labels = from (λ y r. label_of r < 2 ^ 16) (λ i l. subst (λ (m : ℕ). m < 2 ^ 16) (sym (map-alike g (row_at rows i)).name.label) (labels i l));
  }

-- ---- from the file's bytes

sort-right : (file : List ℕ) (result work : ℕ) → sort_refusal file result work ≡ no_refusal → FileRight names_anywhere file × ((i : ℕ) → i < length (netlist_of file) → LoopFree (netlist_of file) i)
unfolding asked_by_sort
sort-right file result work h =
    let rows = netlist_of file in
    let y = parts-yes (asked_of_unordered file) _ ((sort-refusal-means file result work).passed (number-none (sort_refusal file result work) h)) in
    let u = all-yes-is (unordered_refusal file) (asked_of_unordered file) (unordered-refusal-means file) y.0 in
    (file-right names_anywhere file (number-none (unordered_refusal file) u), λ i l. (each-yes (length rows) (λ j. ask 22 j (LoopFree rows j) ∷ []) y.1.1 i l).0)

pub sort-guarantee : (file : List ℕ) → IsBytes file → (result work : ℕ) → sort_refusal file result work ≡ no_refusal → SortGuarantee file
sort-guarantee file bytes result work h =
    let R = sort-right file result work h in
    let F = R.0 in
    let rows = netlist_of file in
    let U = file-unordered file F in
    let O = order_is rows (λ i l g. grounded-in rows i g (R.1 i l g)) in
    let n = rows-of-file names_anywhere file F in
    let w = sorted-writable rows U O n.1 (file-labels file bytes) in
    record {
      ordered = O;
      lowest = order-low rows;
      rows = sorted-rows rows O;
      size = omega (arith, file-length (sorted_netlist rows), sorted-rows rows O, n.2, F.size.whole);
      bytes = writable-bytes (sorted_netlist rows) w;
      accepted = writable-accepted (sorted_netlist rows) w;
      read_back = writable-read (sorted_netlist rows) w;
      runs = same_runs rows U.operands O U.unique;
      kept = λ a. order-kept rows (file-checked file (file-right names_earlier file (number-none (file_refusal file) a))).operands;
      fixed = λ a s. ap file_of (sorted-same rows O (file-checked file (file-right names_earlier file (number-none (file_refusal file) a))).operands s U.operands U.nodes-first) ∙ write_read file bytes (number-none (file_refusal file) a);
      again = (sorted-sources rows U O, sorted-again rows U O);
    }
