-- The new order has each row once, and the sorted netlist has each row, renumbered, at its new number.
-- Assumes nothing.
use Prim.Native.Nat.{ℕ, zero, suc, ◌+◌, ◌-◌, ◌<◌, ◌≤◌, ◌/◌}
use mathlib.Core.Path.{◌≡◌, refl, sym, ap, ◌∙◌, subst}
use mathlib.Core.Logic.{◌⊎◌, inl, inr}
use mathlib.Core.Bool.{Bool, true, false, cond, false≢true}
use mathlib.Core.List.{List, [], ◌∷◌, ◌++◌, map}
use native.Mathlib.Omega.{arith}
use native.Mathlib.Decide.{dec_lt}
use lib.ListN.{length, get_or, length-append, length-map, get_or-append}
use lib.Seq.{get_or-append-add}
use lib.Dec.{eqb}
use borrow.Author.Tests.{eq-eqb, ne_eqb}
use Rattle.memory.specs.Lists.{join_below, Among, here, there}
use Rattle.memory.proofs.TestLaws.{last_or}
use Rattle.memory.proofs.ListLaws.{first_found}
use Rattle.netlist.specs.Rows.{Row, constant, input, register, and_gate, xor_gate, mux_gate, output, row_at, is_output, map_literals, fanin_nodes}
use Rattle.netlist.specs.WellFormed.{OperandsBelow, Ordered, NamesNode, OnLiterals}
use Rattle.ordering.specs.GateOrder.{is_gate, is_source, gate_order, rows_that, sorted_order, new_number, renumber_by, sorted_netlist, IsGateOrder}
use Rattle.ordering.proofs.PlacingLaws.{among-left, among-at, at_of}

-- ---- lists whose elements differ

abbrev pub Once : List ℕ → Type 0
Once o = (x y : ℕ) → x < length o → y < length o → get_or o x 0 ≡ get_or o y 0 → x ≡ y

pub among-right : (i : ℕ) (xs ys : List ℕ) → Among i ys → Among i (xs ++ ys)
among-right i [] ys a = a
among-right i (x ∷ xs) ys a = there (among-right i xs ys a)

pub among-append : (i : ℕ) (xs ys : List ℕ) → Among i (xs ++ ys) → Among i xs ⊎ Among i ys
among-append i [] ys a = inr a
among-append i (x ∷ xs) ys here = inl here
among-append i (x ∷ xs) ys (there a) = elim (among-append i xs ys a) [ inl b ↦ inl (there b) | inr b ↦ inr b ]

only_one : (i m : ℕ) (t : Bool) → Among i (cond t (m ∷ []) []) → (i ≡ m) × (t ≡ true)
only_one i m true here = (refl, refl)
only_one i m true (there b) = absurd (elim b [ ])
only_one i m false b = absurd (elim b [ ])

-- Place x of the second list.
at_second : (xs ys : List ℕ) (x : ℕ) → length xs ≤ x → get_or (xs ++ ys) x 0 ≡ get_or ys (x - length xs) 0
at_second xs ys x h = let e : x ≡ length xs + (x - length xs) = omega arith in ap (λ (z : ℕ). get_or (xs ++ ys) z 0) e ∙ get_or-append-add xs ys (x - length xs) 0

once-append : (xs ys : List ℕ) → Once xs → Once ys → ((i : ℕ) → Among i xs → Among i ys → ⊥) → Once (xs ++ ys)
once-append xs ys f g apart x y h k e = elim (dec_lt x (length xs)) [
  | yes a ↦ elim (dec_lt y (length xs)) [
    | yes b ↦ f x y a b (sym (get_or-append xs ys 0 x a) ∙ e ∙ get_or-append xs ys 0 y b)
    | no b ↦ absurd (apart (get_or xs x 0) (among-at x xs a) (subst (λ (z : ℕ). Among z ys) (sym (sym (get_or-append xs ys 0 x a) ∙ e ∙ at_second xs ys y (omega arith))) (among-at (y - length xs) ys (omega (arith, k, length-append xs ys)))))
  ]
  | no a ↦ elim (dec_lt y (length xs)) [
    | yes b ↦ absurd (apart (get_or xs y 0) (among-at y xs b) (subst (λ (z : ℕ). Among z ys) (sym (at_second xs ys x (omega arith)) ∙ e ∙ get_or-append xs ys 0 y b) (among-at (x - length xs) ys (omega (arith, h, length-append xs ys)))))
    | no b ↦ (let q = g (x - length xs) (y - length xs) (omega (arith, h, length-append xs ys)) (omega (arith, k, length-append xs ys)) (sym (at_second xs ys x (omega arith)) ∙ e ∙ at_second xs ys y (omega arith)) in omega arith)
  ]
]

-- The place of an element is its number.
pub number_at : (o : List ℕ) → Once o → (x : ℕ) → x < length o → new_number o (get_or o x 0) ≡ x
unfolding new_number
number_at o f x h =
    first_found 0 (length o) (λ y. eqb (get_or o y 0) (get_or o x 0)) x (omega arith) (omega arith)
    (λ j _ l. ne_eqb (get_or o j 0) (get_or o x 0) (λ e. let q = f j x (omega arith) h e in omega arith)) (eq-eqb (get_or o x 0) (get_or o x 0) refl)

pub number_of : (o : List ℕ) → Once o → (i : ℕ) → Among i o → (new_number o i < length o) × (get_or o (new_number o i) 0 ≡ i)
number_of o f i a =
    let r = at_of i o a in
    let e : new_number o i ≡ r.0 = ap (new_number o) (sym r.2) ∙ number_at o f r.0 r.1 in
    (omega (arith, e, r.1), ap (λ (z : ℕ). get_or o z 0) e ∙ r.2)

-- ---- kinds

pub kinds : (r : Row) → (is_source r ≡ true) ⊎ ((is_gate r ≡ true) ⊎ (is_output r ≡ true))
kinds constant = inl refl
kinds (input _ _) = inl refl
kinds (register _ _ _) = inl refl
kinds (and_gate _ _) = inr (inl refl)
kinds (xor_gate _ _) = inr (inl refl)
kinds (mux_gate _ _ _) = inr (inl refl)
kinds (output _ _ _) = inr (inr refl)

pub source-no-gate : (r : Row) → is_source r ≡ true → is_gate r ≡ true → ⊥
source-no-gate constant s g = false≢true g
source-no-gate (input _ _) s g = false≢true g
source-no-gate (register _ _ _) s g = false≢true g
source-no-gate (and_gate _ _) s g = false≢true s
source-no-gate (xor_gate _ _) s g = false≢true s
source-no-gate (mux_gate _ _ _) s g = false≢true s
source-no-gate (output _ _ _) s g = false≢true s

pub node-no-output : (r : Row) → (is_source r ≡ true) ⊎ (is_gate r ≡ true) → is_output r ≡ true → ⊥
node-no-output constant n o = false≢true o
node-no-output (input _ _) n o = false≢true o
node-no-output (register _ _ _) n o = false≢true o
node-no-output (and_gate _ _) n o = false≢true o
node-no-output (xor_gate _ _) n o = false≢true o
node-no-output (mux_gate _ _ _) n o = false≢true o
node-no-output (output _ _ _) n o = elim n [ inl s ↦ false≢true s | inr g ↦ false≢true g ]

module _ (rows : List Row) where
  -- ---- the rows that pass a test

  module _ (f : Row → Bool) where
    abbrev pub below : ℕ → List ℕ
    below m = join_below m (λ i. cond (f (row_at rows i)) (i ∷ []) [])

    pub below-is : (m i : ℕ) → Among i (below m) → (i < m) × (f (row_at rows i) ≡ true)
    below-is zero i a = absurd (elim a [ ])
    below-is (suc m) i a = elim (among-append i (below m) _ a) [
      | inl b ↦ (let r = below-is m i b in (omega (arith, r.0), r.1))
      | inr b ↦ (let r = only_one i m (f (row_at rows m)) b in (omega (arith, r.0), rw r.0 r.1))
    ]

    pub below_in : (m i : ℕ) → i < m → f (row_at rows i) ≡ true → Among i (below m)
    below_in zero i h e = absurd (omega arith)
    below_in (suc m) i h e = last_or i m h (λ l. among-left i (below m) _ (below_in m i l e)) (λ q. subst (λ (z : ℕ). Among z (below (suc m))) (sym q) (among-right m (below m) _ (rw (rw q at e) here)))

    below-once : (m : ℕ) → Once (below m)
    below-once zero = λ x y h k e. absurd (omega arith)
    below-once (suc m) = once-append (below m) _ (below-once m) (single (f (row_at rows m))) (λ i a b. let r = below-is m i a in let q = only_one i m (f (row_at rows m)) b in absurd (omega (arith, r.0, q.0)))
      where
        single : (t : Bool) → Once (cond t (m ∷ []) [])
        single true x y h k e = omega arith
        single false x y h k e = absurd (omega arith)

  -- ---- the whole order, where every gate is placed

  module _ (O : IsGateOrder rows (gate_order rows)) where
    abbrev A : List ℕ
    A = rows_that rows is_source

    abbrev G : List ℕ
    G = gate_order rows

    abbrev Z : List ℕ
    Z = rows_that rows is_output

    gates-are : (i : ℕ) → Among i G → (i < length rows) × (is_gate (row_at rows i) ≡ true)
    gates-are i a = let r = at_of i G a in subst (λ (z : ℕ). (z < length rows) × (is_gate (row_at rows z) ≡ true)) r.2 (O.only r.0 r.1)

    -- The gates stand behind the sources.
    gate-at : (x : ℕ) → x < length G → get_or (sorted_order rows) (length A + x) 0 ≡ get_or G x 0
    unfolding sorted_order
    gate-at x h = get_or-append (A ++ G) Z 0 (length A + x) (omega (arith, length-append A G)) ∙ get_or-append-add A G x 0

    pub order-once : Once (sorted_order rows)
    unfolding sorted_order
    order-once =
        once-append (A ++ G) Z
        (once-append A G (below-once is_source (length rows)) O.once (λ i a b. source-no-gate (row_at rows i) (below-is is_source (length rows) i a).1 (gates-are i b).1))
        (below-once is_output (length rows))
        (λ i a b. node-no-output (row_at rows i) (elim (among-append i A G a) [ inl c ↦ inl (below-is is_source (length rows) i c).1 | inr c ↦ inr (gates-are i c).1 ]) (below-is is_output (length rows) i b).1)

    -- Where each sort of row stands.
    pub source-place : (i : ℕ) → i < length rows → is_source (row_at rows i) ≡ true → Among i (sorted_order rows) × (new_number (sorted_order rows) i < length A)
    unfolding sorted_order
    source-place i l s =
        let r = at_of i A (below_in is_source (length rows) i l s) in
        let q = length-append A G in
        let e : get_or (sorted_order rows) r.0 0 ≡ i = get_or-append (A ++ G) Z 0 r.0 (omega (arith, q, r.1)) ∙ get_or-append A G 0 r.0 r.1 ∙ r.2 in
        let n : new_number (sorted_order rows) i ≡ r.0 = ap (new_number (sorted_order rows)) (sym e) ∙ number_at (sorted_order rows) order-once r.0 (omega (arith, r.1, q, length-append (A ++ G) Z)) in
        (among-left i (A ++ G) Z (among-left i A G (below_in is_source (length rows) i l s)), omega (arith, n, r.1))

    -- The gate at place x of the gates.
    pub gate-place : (x : ℕ) → x < length G → new_number (sorted_order rows) (get_or G x 0) ≡ length A + x
    unfolding sorted_order
    gate-place x h = ap (new_number (sorted_order rows)) (sym (gate-at x h)) ∙ number_at (sorted_order rows) order-once (length A + x) (omega (arith, h, length-append A G, length-append (A ++ G) Z))

    pub gate-in : (i : ℕ) → Among i G → Among i (sorted_order rows) × (new_number (sorted_order rows) i < length A + length G)
    unfolding sorted_order
    gate-in i a =
        let r = at_of i G a in
        let n : new_number (sorted_order rows) i ≡ length A + r.0 = ap (new_number (sorted_order rows)) (sym r.2) ∙ gate-place r.0 r.1 in
        (among-left i (A ++ G) Z (among-right i A G a), omega (arith, n, r.1))

    pub output-place : (i : ℕ) → i < length rows → is_output (row_at rows i) ≡ true → Among i (sorted_order rows) × (length A + length G ≤ new_number (sorted_order rows) i)
    unfolding sorted_order
    output-place i l s =
        let r = at_of i Z (below_in is_output (length rows) i l s) in
        let q = length-append A G in
        let e : get_or (sorted_order rows) (length (A ++ G) + r.0) 0 ≡ i = get_or-append-add (A ++ G) Z r.0 0 ∙ r.2 in
        let n : new_number (sorted_order rows) i ≡ length (A ++ G) + r.0 = ap (new_number (sorted_order rows)) (sym e) ∙ number_at (sorted_order rows) order-once (length (A ++ G) + r.0) (omega (arith, r.1, length-append (A ++ G) Z)) in
        (among-right i (A ++ G) Z (below_in is_output (length rows) i l s), omega (arith, n, q))

    pub order-every : (i : ℕ) → i < length rows → Among i (sorted_order rows)
    order-every i l = elim (kinds (row_at rows i)) [
      | inl s ↦ (source-place i l s).0
      | inr k ↦ elim k [ inl g ↦ (gate-in i (O.every i l g)).0 | inr o ↦ (output-place i l o).0 ]
    ]

    pub order-inside : (x : ℕ) → x < length (sorted_order rows) → get_or (sorted_order rows) x 0 < length rows
    unfolding sorted_order
    order-inside x h = elim (among-append (get_or (sorted_order rows) x 0) (A ++ G) Z (among-at x (sorted_order rows) h)) [
      | inl b ↦ elim (among-append (get_or (sorted_order rows) x 0) A G b) [ inl c ↦ (below-is is_source (length rows) (get_or (sorted_order rows) x 0) c).0 | inr c ↦ (gates-are (get_or (sorted_order rows) x 0) c).0 ]
      | inr c ↦ (below-is is_output (length rows) (get_or (sorted_order rows) x 0) c).0
    ]

    -- ---- the sorted rows

    abbrev pub ν : ℕ → ℕ
    ν = new_number (sorted_order rows)

    abbrev pub renumbered : Row → Row
    renumbered = map_literals (renumber_by (sorted_order rows))

    map_at : (g : ℕ → Row) (o : List ℕ) (x : ℕ) → x < length o → row_at (map g o) x ≡ g (get_or o x 0)
    map_at g [] x h = absurd (omega arith)
    map_at g (i ∷ o) zero h = refl
    map_at g (i ∷ o) (suc x) h = map_at g o x (omega arith)

    pub sorted-length : length (sorted_netlist rows) ≡ length (sorted_order rows)
    unfolding sorted_netlist
    sorted-length = length-map (sorted_order rows) _

    pub number_lt : (i : ℕ) → i < length rows → ν i < length (sorted_netlist rows)
    number_lt i l = rw sorted-length (number_of (sorted_order rows) order-once i (order-every i l)).0

    pub sorted-at : (i : ℕ) → i < length rows → row_at (sorted_netlist rows) (ν i) ≡ renumbered (row_at rows i)
    unfolding sorted_netlist
    sorted-at i l =
        let r = number_of (sorted_order rows) order-once i (order-every i l) in
        map_at (λ j. renumbered (row_at rows j)) (sorted_order rows) (ν i) r.0 ∙ ap (λ (z : ℕ). renumbered (row_at rows z)) r.1

    pub sorted-from : (y : ℕ) → y < length (sorted_netlist rows) → (i : ℕ) × (i < length rows) × (ν i ≡ y)
    sorted-from y h = let k : y < length (sorted_order rows) = rw sorted-length at h in (get_or (sorted_order rows) y 0, order-inside y k, number_at (sorted_order rows) order-once y k)

    -- ---- each row names earlier ones

    module _ (literals : (i : ℕ) → i < length rows → OnLiterals (NamesNode rows) (NamesNode rows) (row_at rows i)) where
      -- A node that a gate names stands before it.
      operand-before : (i : ℕ) → i < length rows → is_gate (row_at rows i) ≡ true → (l : ℕ) → Among (l / 2) (fanin_nodes (row_at rows i)) → NamesNode rows l → renumber_by (sorted_order rows) l / 2 < ν i
      operand-before i h g l a n =
          let r = at_of i G (O.every i h g) in
          let here-is : ν i ≡ length A + r.0 = ap ν (sym r.2) ∙ gate-place r.0 r.1 in
          let q : renumber_by (sorted_order rows) l / 2 ≡ ν (l / 2) = omega arith in
          elim (kinds (row_at rows (l / 2))) [
            | inl s ↦ omega (arith, q, here-is, (source-place (l / 2) n.0 s).1)
            | inr k ↦ elim k [
              | inl t ↦
                  (let b = O.after r.0 (l / 2) r.1 (rw r.2 a) t in
                  let m : ν (l / 2) ≡ length A + b.0 = ap ν (sym b.2) ∙ gate-place b.0 (omega (arith, b.1, r.1)) in
                  omega (arith, q, here-is, m, b.1))
              | inr o ↦ absurd (false≢true (sym n.1 ∙ o))
            ]
          ]

      output-before : (i : ℕ) → i < length rows → is_output (row_at rows i) ≡ true → (l : ℕ) → NamesNode rows l → renumber_by (sorted_order rows) l / 2 < ν i
      output-before i h o l n =
          let q : renumber_by (sorted_order rows) l / 2 ≡ ν (l / 2) = omega arith in
          let z = (output-place i h o).1 in
          elim (kinds (row_at rows (l / 2))) [
            | inl s ↦ omega (arith, q, z, (source-place (l / 2) n.0 s).1)
            | inr k ↦ elim k [ inl t ↦ omega (arith, q, z, (gate-in (l / 2) (O.every (l / 2) n.0 t)).1) | inr u ↦ absurd (false≢true (sym n.1 ∙ u)) ]
          ]

      below_of : (i : ℕ) → i < length rows → (r : Row) → row_at rows i ≡ r → OnLiterals (NamesNode rows) (NamesNode rows) r → OperandsBelow (ν i) (renumbered r)
      below_of i h constant e n = tt
      below_of i h (input _ _) e n = tt
      below_of i h (register _ _ _) e n = tt
      below_of i h (and_gate a b) e n =
          let g : is_gate (row_at rows i) ≡ true = ap is_gate e in
          (operand-before i h g a (rw e here) n.0, operand-before i h g b (rw e (there here)) n.1)
      below_of i h (xor_gate a b) e n =
          let g : is_gate (row_at rows i) ≡ true = ap is_gate e in
          (operand-before i h g a (rw e here) n.0, operand-before i h g b (rw e (there here)) n.1)
      below_of i h (mux_gate a b c) e n =
          let g : is_gate (row_at rows i) ≡ true = ap is_gate e in
          (operand-before i h g a (rw e here) n.0.0, operand-before i h g b (rw e (there here)) n.0.1, operand-before i h g c (rw e (there (there here))) n.1)
      below_of i h (output a _ _) e n = output-before i h (ap is_output e) a n

      pub sorted-ordered : Ordered (sorted_netlist rows)
      sorted-ordered y h =
          let r = sorted-from y h in
          subst (λ (z : ℕ). OperandsBelow z (row_at (sorted_netlist rows) z)) r.2 (rw (sorted-at r.0 r.1) (below_of r.0 r.1 (row_at rows r.0) refl (literals r.0 r.1)))
