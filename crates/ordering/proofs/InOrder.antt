-- Gates that stand in order keep it; a netlist in order, its sources first, stays as it is. The sorted netlist has as many rows.
-- Assumes nothing.
use Prim.Native.Nat.{ℕ, zero, suc, ◌+◌, ◌-◌, ◌<◌, ◌≤◌, ◌/◌}
use mathlib.Core.Path.{◌≡◌, refl, sym, ap, ◌∙◌}
use mathlib.Core.Logic.{inl, inr}
use mathlib.Core.Bool.{Bool, true, false, cond, false≢true}
use mathlib.Core.List.{List, [], ◌∷◌, ◌++◌, append-nil}
use native.Mathlib.Omega.{arith}
use native.Mathlib.Numerals.{add-one}
use native.Mathlib.Decide.{dec_lt}
use lib.ListN.{length, get_or, length-append, get_or-append}
use lib.Seq.{ext_get_or}
use lib.Dec.{eqb}
use borrow.Author.Tests.{eqb-true, eqb-false, lt-ltb, le-ltb}
use Rattle.memory.proofs.TestLaws.{fails}
use Rattle.memory.proofs.ListLaws.{first_found, first-none}
use Rattle.memory.specs.Lists.{Among, here, there}
use Rattle.netlist.specs.Rows.{Row, constant, input, register, and_gate, xor_gate, mux_gate, output, row_at, is_output, map_literals, fanin_nodes}
use Rattle.netlist.specs.WellFormed.{OperandsBelow, Ordered, NamesNode, OnLiterals}
use Rattle.netlist.specs.WellFormed.{EachBelow}
use Rattle.ordering.specs.GateOrder.{is_gate, is_source, is_in, is_ready, lowest_ready, placed_gates, gate_order, rows_that, sorted_order, new_number, renumber_by, sorted_netlist, IsGateOrder}
use Rattle.ordering.specs.SortGuarantee.{SourcesFirst}
use Rattle.ordering.proofs.PlacingLaws.{in-of, in_is, among-at, at_of, ready-iff, count_below, count-le, Done}
use Rattle.ordering.proofs.OrderLaws.{number_at, below, below-is, below_in, order-once, order-inside, order-every, number_lt, sorted-at, sorted-length, among-append}

-- ---- as many places as rows

-- An injection below a into numbers below b.
inj-le : (b a : ℕ) (f : ℕ → ℕ) → ((x : ℕ) → x < a → f x < b) → ((x y : ℕ) → x < a → y < a → f x ≡ f y → x ≡ y) → a ≤ b
inj-le zero zero f h i = omega arith
inj-le zero (suc a) f h i = absurd (omega (arith, h 0 (omega arith)))
inj-le (suc b) zero f h i = omega arith
inj-le (suc b) (suc a) f h i = omega (arith, inj-le b a g bound single)
  where
    g : ℕ → ℕ
    g x = cond (eqb (f x) b) (f a) (f x)

    bound : (x : ℕ) → x < a → g x < b
    bound x l = go (eqb (f x) b) refl
      where
        go : (t : Bool) → eqb (f x) b ≡ t → cond t (f a) (f x) < b
        go true e = elim (dec_lt (f a) b) [ yes k ↦ k | no k ↦ (let q : f x ≡ f a = (eqb-true (f x) b e) ∙ (let z : f a ≡ b = omega (arith, h a (omega arith)) in sym z) in let p = i x a (omega arith) (omega arith) q in absurd (omega (arith, p))) ]
        go false e = omega (arith, h x (omega arith), eqb-false (f x) b e)

    single : (x y : ℕ) → x < a → y < a → g x ≡ g y → x ≡ y
    single x y l k = go (eqb (f x) b) (eqb (f y) b) refl refl
      where
        go : (s t : Bool) → eqb (f x) b ≡ s → eqb (f y) b ≡ t → cond s (f a) (f x) ≡ cond t (f a) (f y) → x ≡ y
        go true true e d q = i x y (omega arith) (omega arith) (eqb-true (f x) b e ∙ sym (eqb-true (f y) b d))
        go true false e d q = absurd (let p = i a y (omega arith) (omega arith) q in omega (arith, p))
        go false true e d q = absurd (let p = i x a (omega arith) (omega arith) q in omega (arith, p))
        go false false e d q = i x y (omega arith) (omega arith) q

-- ---- lists that ascend

abbrev Ascends : List ℕ → Type 0
Ascends o = (x y : ℕ) → x < y → y < length o → get_or o x 0 < get_or o y 0

module _ (o : List ℕ) (up : Ascends o) (inside : (x : ℕ) → x < length o → get_or o x 0 < length o) where
  at_least : (x : ℕ) → x < length o → x ≤ get_or o x 0
  at_least zero h = omega arith
  at_least (suc x) h = omega (arith, at_least x (omega arith), up x (suc x) (omega arith) h)

  at_most : (d x : ℕ) → x + d < length o → get_or o x 0 + d ≤ get_or o (x + d) 0
  at_most zero x h = let e : x + 0 ≡ x = omega arith in rw e (omega arith)
  at_most (suc d) x h = let e : x + suc d ≡ suc (x + d) = omega arith in rw e (omega (arith, at_most d x (omega arith), up (x + d) (suc (x + d)) (omega arith) (omega arith)))

  pub ascends_same : (x : ℕ) → x < length o → get_or o x 0 ≡ x
  ascends_same x h =
      let d = length o - suc x in
      let e : x + d < length o = omega arith in
      omega (arith, at_least x h, at_most d x e, inside (x + d) e)

ascends-append : (xs ys : List ℕ) → Ascends xs → Ascends ys → ((i j : ℕ) → Among i xs → Among j ys → i < j) → Ascends (xs ++ ys)
ascends-append xs ys f g apart x y h k = elim (dec_lt y (length xs)) [
  | yes b ↦ rw (get_or-append xs ys 0 x (omega arith), get_or-append xs ys 0 y b) (f x y h b)
  | no b ↦ elim (dec_lt x (length xs)) [
    | yes a ↦ rw (get_or-append xs ys 0 x a, second xs ys y (omega arith)) (apart (get_or xs x 0) (get_or ys (y - length xs) 0) (among-at x xs a) (among-at (y - length xs) ys (omega (arith, k, length-append xs ys))))
    | no a ↦ rw (second xs ys x (omega arith), second xs ys y (omega arith)) (g (x - length xs) (y - length xs) (omega arith) (omega (arith, k, length-append xs ys)))
  ]
]
  where
    second : (xs ys : List ℕ) (x : ℕ) → length xs ≤ x → get_or (xs ++ ys) x 0 ≡ get_or ys (x - length xs) 0
    second [] ys x h = let e : x ≡ x - 0 = omega arith in ap (λ (z : ℕ). get_or ys z 0) e
    second (x ∷ xs) ys zero h = absurd (omega arith)
    second (x ∷ xs) ys (suc y) h = let e : suc y - length (x ∷ xs) ≡ y - length xs = omega arith in rw e (second xs ys y (omega arith))

-- ---- what a gate in order names

fanin-below : (j : ℕ) (r : Row) → is_gate r ≡ true → OperandsBelow j r → EachBelow j (fanin_nodes r)
fanin-below j constant g b = tt
fanin-below j (input _ _) g b = tt
fanin-below j (register _ _ _) g b = absurd (false≢true g)
fanin-below j (and_gate _ _) g b = (b.0, (b.1, tt))
fanin-below j (xor_gate _ _) g b = (b.0, (b.1, tt))
fanin-below j (mux_gate _ _ _) g b = (b.0, (b.1, (b.2, tt)))
fanin-below j (output _ _ _) g b = absurd (false≢true g)

below_at : (n : ℕ) (js : List ℕ) → EachBelow n js → (x : ℕ) → Among x js → x < n
below_at n [] e x x4 = elim x4 [ ]
below_at n (j ∷ js) e x here = e.0
below_at n (j ∷ js) e x (there a) = below_at n js e.1 x a

same_row : (g : ℕ → ℕ) (rows : List Row) → ((l : ℕ) → l / 2 < length rows → g l ≡ l) → (r : Row) → OnLiterals (NamesNode rows) (NamesNode rows) r → map_literals g r ≡ r
same_row g rows e constant n = refl
same_row g rows e (input _ _) n = refl
same_row g rows e (register _ x _) n = cc (e x n.0)
same_row g rows e (and_gate x y) n = cc (e x n.0.0, e y n.1.0)
same_row g rows e (xor_gate x y) n = cc (e x n.0.0, e y n.1.0)
same_row g rows e (mux_gate x y z) n = cc (e x n.0.0.0, e y n.0.1.0, e z n.1.0)
same_row g rows e (output x _ _) n = cc (e x n.0)

module _ (rows : List Row) where
  -- ---- rounds

  placed-next : (k i : ℕ) → lowest_ready rows (placed_gates rows k) ≡ i → i < length rows → placed_gates rows (suc k) ≡ placed_gates rows k ++ (i ∷ [])
  unfolding placed_gates
  placed-next k i e l = rw (e, lt-ltb i (length rows) l)

  placed-none : (k : ℕ) → lowest_ready rows (placed_gates rows k) ≡ length rows → placed_gates rows (suc k) ≡ placed_gates rows k
  unfolding placed_gates
  placed-none k e = rw (e, le-ltb (length rows) (length rows) (omega arith))

  -- A round in which none is ready places none, nor do those after it.
  pub rounds-stay : (k d : ℕ) → lowest_ready rows (placed_gates rows k) ≡ length rows → placed_gates rows (k + d) ≡ placed_gates rows k
  rounds-stay k zero e = let z : k + 0 ≡ k = omega arith in ap (placed_gates rows) z
  rounds-stay k (suc d) e =
      let z : k + suc d ≡ suc (k + d) = omega arith in
      let ih = rounds-stay k d e in
      ap (placed_gates rows) z ∙ placed-none (k + d) (ap (lowest_ready rows) ih ∙ e) ∙ ih

  -- ---- gates in order keep it

  module _ (ordered : Ordered rows) where
    abbrev gates : ℕ → List ℕ
    gates = below rows is_gate

    abbrev count : ℕ → ℕ
    count m = count_below m (λ i. is_gate (row_at rows i))

    past-not : (m j : ℕ) → j < m → is_ready rows (gates m) j ≡ false
    past-not m j l = fails (is_ready rows (gates m) j) (λ h.
        let R = (ready-iff rows (gates m) j).0 h in
        absurd (false≢true (sym R.unplaced ∙ in-of j (gates m) (below_in rows is_gate m j l R.gate))))

    next-ready : (m : ℕ) → m < length rows → is_gate (row_at rows m) ≡ true → is_ready rows (gates m) m ≡ true
    next-ready m l g = (ready-iff rows (gates m) m).1 (record {
      gate = g;
      unplaced = fails (is_in m (gates m)) (λ e. absurd (let r = below-is rows is_gate m m (in_is m (gates m) e) in omega (arith, r.0)));
      settled = λ j a h. below_in rows is_gate m j (below_at m (fanin_nodes (row_at rows m)) (fanin-below m (row_at rows m) g (ordered m l)) j a) h;
    })

    placed-zero : placed_gates rows 0 ≡ []
    unfolding placed_gates
    placed-zero = refl

    lowest-found : (p : List ℕ) (i : ℕ) → i < length rows → ((j : ℕ) → j < i → is_ready rows p j ≡ false) → is_ready rows p i ≡ true → lowest_ready rows p ≡ i
    unfolding lowest_ready
    lowest-found p i l before e = first_found 0 (length rows) (is_ready rows p) i (omega arith) (omega arith) (λ j _ b. before j b) e

    lowest-none : (p : List ℕ) → Done rows p → lowest_ready rows p ≡ length rows
    unfolding lowest_ready
    lowest-none p d = let e = first-none 0 (length rows) (is_ready rows p) (λ j _ b. d j (omega arith)) in omega (arith, e)

    rounds-are : (m : ℕ) → m ≤ length rows → placed_gates rows (count m) ≡ gates m
    unfolding count_below
    rounds-are zero h = placed-zero
    rounds-are (suc m) h = go (is_gate (row_at rows m)) refl (rounds-are m (omega arith))
      where
        go : (t : Bool) → is_gate (row_at rows m) ≡ t → placed_gates rows (count m) ≡ gates m → placed_gates rows (count m + cond t 1 0) ≡ gates m ++ cond t (m ∷ []) []
        go true e ih =
            let q : lowest_ready rows (placed_gates rows (count m)) ≡ m = ap (lowest_ready rows) ih ∙ lowest-found (gates m) m h (past-not m) (next-ready m h e) in
            let s : count m + 1 ≡ suc (count m) = add-one (count m) in
            ap (placed_gates rows) s ∙ placed-next (count m) m q h ∙ ap (λ (p : List ℕ). p ++ (m ∷ [])) ih
        go false e ih = let s : count m + 0 ≡ count m = omega arith in ap (placed_gates rows) s ∙ ih ∙ sym (append-nil (gates m))

    pub order-kept : gate_order rows ≡ rows_that rows is_gate
    unfolding gate_order
    order-kept =
        let n = length rows in
        let c = count n in
        let r = rounds-are n (omega arith) in
        let D : Done rows (placed_gates rows c) = rw r (past-not n) in
        let e : n ≡ c + (n - c) = omega (arith, count-le n (λ i. is_gate (row_at rows i))) in
        ap (placed_gates rows) e ∙ rounds-stay c (n - c) (lowest-none (placed_gates rows c) D) ∙ r

  -- ---- as many rows

  module _ (O : IsGateOrder rows (gate_order rows)) where
    pub order-length : length (sorted_order rows) ≡ length rows
    order-length =
        let a = inj-le (length rows) (length (sorted_order rows)) (λ x. get_or (sorted_order rows) x 0) (order-inside rows O) (order-once rows O) in
        let b = inj-le (length (sorted_order rows)) (length rows) (new_number (sorted_order rows)) (λ i l. rw (sorted-length rows O) at (number_lt rows O i l)) (λ i j l k e. let p = number-back i l in let q = number-back j k in sym p ∙ ap (λ (z : ℕ). get_or (sorted_order rows) z 0) e ∙ q) in
        omega (arith, a, b)
      where
        number-back : (i : ℕ) → i < length rows → get_or (sorted_order rows) (new_number (sorted_order rows) i) 0 ≡ i
        number-back i l =
            let r = at_of i (sorted_order rows) (order-every rows O i l) in
            ap (λ (z : ℕ). get_or (sorted_order rows) z 0) (ap (new_number (sorted_order rows)) (sym r.2) ∙ number_at (sorted_order rows) (order-once rows O) r.0 r.1) ∙ r.2

    pub sorted-rows : length (sorted_netlist rows) ≡ length rows
    sorted-rows = sorted-length rows O ∙ order-length

    -- ---- in order, sources first: it stays as it is

    module _ (ordered : Ordered rows) (sources : SourcesFirst rows) (literals : (i : ℕ) → i < length rows → OnLiterals (NamesNode rows) (NamesNode rows) (row_at rows i))
        (nodes-first : (x y : ℕ) → y < length rows → is_output (row_at rows x) ≡ true → is_output (row_at rows y) ≡ false → y < x)
      where
        below-ascends : (f : Row → Bool) (m : ℕ) → Ascends (below rows f m)
        below-ascends f zero = λ x y h k. absurd (omega arith)
        below-ascends f (suc m) = ascends-append (below rows f m) _ (below-ascends f m) (single (f (row_at rows m))) (λ i j a b. late i j m (f (row_at rows m)) (below-is rows f m i a).0 b)
          where
            single : (t : Bool) → Ascends (cond t (m ∷ []) [])
            single true x y h k = absurd (omega arith)
            single false x y h k = absurd (omega arith)

            late : (i j m : ℕ) (t : Bool) → i < m → Among j (cond t (m ∷ []) []) → i < j
            late i j m true l here = l
            late i j m true l (there b) = absurd (elim b [ ])
            late i j m false l b = absurd (elim b [ ])

        gate-node : (r : Row) → is_gate r ≡ true → is_output r ≡ false
        gate-node constant g = refl
        gate-node (input _ _) g = refl
        gate-node (register _ _ _) g = refl
        gate-node (and_gate _ _) g = refl
        gate-node (xor_gate _ _) g = refl
        gate-node (mux_gate _ _ _) g = refl
        gate-node (output _ _ _) g = absurd (false≢true g)

        source-node : (r : Row) → is_source r ≡ true → is_output r ≡ false
        source-node constant g = refl
        source-node (input _ _) g = refl
        source-node (register _ _ _) g = refl
        source-node (and_gate _ _) g = absurd (false≢true g)
        source-node (xor_gate _ _) g = absurd (false≢true g)
        source-node (mux_gate _ _ _) g = absurd (false≢true g)
        source-node (output _ _ _) g = absurd (false≢true g)

        abbrev n : ℕ
        n = length rows

        order-ascends : Ascends (sorted_order rows)
        unfolding sorted_order
        order-ascends = rw (order-kept ordered) (ascends-append (below rows is_source n ++ below rows is_gate n) (below rows is_output n)
            (ascends-append (below rows is_source n) (below rows is_gate n) (below-ascends is_source n) (below-ascends is_gate n) (λ i j a b. sources j i (below-is rows is_source n i a).0 (below-is rows is_gate n j b).1 (below-is rows is_source n i a).1))
            (below-ascends is_output n)
            (λ i j a b. let o = (below-is rows is_output n j b).1 in elim (among-append i (below rows is_source n) (below rows is_gate n) a) [
              | inl c ↦ (let r = below-is rows is_source n i c in nodes-first j i r.0 o (source-node (row_at rows i) r.1))
              | inr c ↦ (let r = below-is rows is_gate n i c in nodes-first j i r.0 o (gate-node (row_at rows i) r.1))
            ]))

        number_same : (i : ℕ) → i < length rows → new_number (sorted_order rows) i ≡ i
        number_same i l =
            let h : i < length (sorted_order rows) = rw order-length l in
            let e = ascends_same (sorted_order rows) order-ascends (λ x k. rw order-length (order-inside rows O x k)) i h in
            ap (new_number (sorted_order rows)) (sym e) ∙ number_at (sorted_order rows) (order-once rows O) i h

        pub sorted-same : sorted_netlist rows ≡ rows
        sorted-same = ext_get_or constant (sorted_netlist rows) rows sorted-rows (λ i h.
            let l : i < length rows = rw sorted-rows at h in
            let e = number_same i l in
            ap (row_at (sorted_netlist rows)) (sym e) ∙ sorted-at rows O i l ∙ same_row (renumber_by (sorted_order rows)) rows (λ x k. let q = number_same (x / 2) k in omega (arith, q)) (row_at rows i) (literals i l))
