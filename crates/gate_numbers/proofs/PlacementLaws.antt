-- Gates placed one after the other: what the slots say of the order so far, and after one gate more.
-- Assumes nothing.
use Prim.Native.Nat.{ℕ, ◌+◌, ◌<◌}
use mathlib.Core.Path.{◌≡◌, refl, sym, ap, ◌∙◌, subst}
use mathlib.Core.Bool.{Bool, true, false, cond, not, ◌&&◌, ◌||◌, false≢true, true≢false}
use mathlib.Core.List.{List, [], ◌∷◌, ◌++◌}
use native.Mathlib.Omega.{arith}
use native.Mathlib.Decide.{ℕ_discrete}
use lib.ListN.{length}
use lib.Dec.{eqb, leb}
use borrow.Author.Tests.{ne_eqb, le-leb}
use Rattle.memory.specs.Lists.{Among}
use Rattle.memory.specs.Slots.{slot_at}
use Rattle.memory.proofs.TestLaws.{and-true, fails}
use Rattle.netlist.specs.Rows.{Row, row_at}
use Rattle.netlist.specs.WellFormed.{Unordered}
use Rattle.ordering.specs.GateOrder.{is_gate, operands_of, is_in, new_number}
use Rattle.ordering.proofs.PlacingLaws.{in-of, in_is, among-end, all-at}
use Rattle.ready_gates.specs.ReadySlots.{ready_slot}
use Rattle.gate_rows.proofs.RowLaws.{operands-nodes}
use Rattle.gate_users.specs.Users.{uses}
use Rattle.gate_numbers.specs.Numbers.{placed_slot, is_placed_in, gate_of, users_of, Woken, slot_for, Placed}
use Rattle.gate_numbers.proofs.NumberLaws.{number-left, number-last}
use Rattle.gate_numbers.proofs.WakingLaws.{gate-cong}

-- ---- in a longer list

or-none : (t : Bool) → t || false ≡ t
or-none true = refl
or-none false = refl

pub in-append : (i : ℕ) (xs ys : List ℕ) → is_in i (xs ++ ys) ≡ is_in i xs || is_in i ys
in-append i [] ys = refl
in-append i (x ∷ xs) ys = go (eqb i x) (in-append i xs ys)
  where
    go : (t : Bool) → is_in i (xs ++ ys) ≡ is_in i xs || is_in i ys → t || is_in i (xs ++ ys) ≡ (t || is_in i xs) || is_in i ys
    go true e = refl
    go false e = e

in-last : (i : ℕ) (xs : List ℕ) → is_in i (xs ++ (i ∷ [])) ≡ true
in-last i xs = in-of i (xs ++ (i ∷ [])) (among-end i xs)

in-other : (i r : ℕ) (xs : List ℕ) → (i ≡ r → ⊥) → is_in i (xs ++ (r ∷ [])) ≡ is_in i xs
in-other i r xs d = in-append i xs (r ∷ []) ∙ rw (ne_eqb i r d) (or-none (is_in i xs))

-- ---- what a slot says

module _ (rows : List Row) (order w : List ℕ) (P : Placed rows order w) (j : ℕ) (l : j < length rows) where
  abbrev ready : Bool
  ready = gate_of rows (λ x. is_in x order) j

  placed-is : is_placed_in w j ≡ is_in j order
  placed-is = ap (leb placed_slot) (P.slots j l) ∙ go (is_in j order) ready
    where
      go : (s t : Bool) → leb placed_slot (cond s (placed_slot + new_number order j) (cond t ready_slot 0)) ≡ s
      go true t = le-leb placed_slot (placed_slot + new_number order j) (omega arith)
      go false true = refl
      go false false = refl

  pub ready-slot : eqb (slot_at w j) ready_slot ≡ not (is_in j order) && ready
  ready-slot = ap (λ (x : ℕ). eqb x ready_slot) (P.slots j l) ∙ go (is_in j order) ready
    where
      go : (s t : Bool) → eqb (cond s (placed_slot + new_number order j) (cond t ready_slot 0)) ready_slot ≡ not s && t
      go true t = ne_eqb (placed_slot + new_number order j) ready_slot (λ e. omega (arith, e))
      go false true = refl
      go false false = refl

-- ---- one gate more

module _ (rows : List Row) (order : List ℕ) (r : ℕ) where
  abbrev order' : List ℕ
  order' = order ++ (r ∷ [])

  -- Row r is the next, and the order has what its gates name.
  pub record Next : Type 0 where
    pub unordered : Unordered rows
    pub inside : r < length rows
    pub unplaced : is_in r order ≡ false
    pub ready : gate_of rows (λ j. is_in j order) r ≡ true
    pub closed : (i j : ℕ) → i < length rows → is_in i order ≡ true → Among j (operands_of (row_at rows i)) → is_in j order ≡ true

  module _ (N : Next) where
    user-unready : (i : ℕ) → uses rows i r ≡ true → gate_of rows (λ j. is_in j order) i ≡ false
    user-unready i u = fails (gate_of rows (λ j. is_in j order) i) (λ t. false≢true (sym N.unplaced ∙ all-at (λ j. is_in j order) (operands_of (row_at rows i)) (and-true (is_gate (row_at rows i)) _ t).1 r (in_is r (operands_of (row_at rows i)) u)))

    user-unplaced : (i : ℕ) → i < length rows → uses rows i r ≡ true → is_in i order ≡ false
    user-unplaced i l u = fails (is_in i order) (λ t. false≢true (sym N.unplaced ∙ N.closed i r l t (in_is r (operands_of (row_at rows i)) u)))

    user-other : (i : ℕ) → uses rows i r ≡ true → i ≡ r → ⊥
    user-other i u e = false≢true (sym (user-unready i u) ∙ rw e N.ready)

    pub user-slot : (w : List ℕ) → Placed rows order w → (i : ℕ) → i < length rows → uses rows i r ≡ true → slot_at w i ≡ 0
    user-slot w P i l u = P.slots i l ∙ rw (user-unplaced i l u, user-unready i u)

    -- Its slot has its number, and the other slots stay.
    module _ (w w' : List ℕ) (P : Placed rows order w) (here-is : slot_at w' r ≡ placed_slot + length order) (others : (i : ℕ) → i < length rows → (i ≡ r → ⊥) → slot_at w' i ≡ slot_at w i) where
      placed-next : (j : ℕ) → j < length rows → is_placed_in w' j ≡ is_in j order'
      placed-next j l = elim (ℕ_discrete j r) [
        | yes e ↦ rw e (ap (leb placed_slot) here-is ∙ le-leb placed_slot (placed_slot + length order) (omega arith) ∙ sym (in-last r order))
        | no d ↦ ap (leb placed_slot) (others j l d) ∙ placed-is rows order w P j l ∙ sym (in-other j r order d)
      ]

      -- A row that does not use it, and is another.
      slot-stays : (i : ℕ) → uses rows i r ≡ false → (i ≡ r → ⊥) → slot_for rows order i ≡ slot_for rows order' i
      slot-stays i u d = go (is_in i order) refl
        where
          go : (t : Bool) → is_in i order ≡ t → slot_for rows order i ≡ slot_for rows order' i
          go true e = rw (in-other i r order d, e) (ap (λ (x : ℕ). placed_slot + x) (sym (number-left order (r ∷ []) i e)))
          go false e = rw (in-other i r order d, e) (ap (λ (t : Bool). cond t ready_slot 0) (gate-cong rows (λ j. is_in j order) (λ j. is_in j order') i (λ j a.
              sym (in-other j r order (λ q. true≢false (sym (in-of r (operands_of (row_at rows i)) (subst (λ (z : ℕ). Among z (operands_of (row_at rows i))) q a)) ∙ u))))))

      pub next-placed : (w'' : List ℕ) → Woken rows (users_of rows r) w' w'' → Placed rows order' w''
      next-placed w'' W = record { slots = λ i l. W.slots i l ∙ rw (ready-next i l) (go i l (uses rows i r) refl) }
        where
          ready-next : (i : ℕ) → i < length rows → gate_of rows (is_placed_in w') i ≡ gate_of rows (λ j. is_in j order') i
          ready-next i l = gate-cong rows (is_placed_in w') (λ j. is_in j order') i (λ j a. placed-next j (operands-nodes rows (row_at rows i) (N.unordered i l) j a).0)

          go : (i : ℕ) → i < length rows → (t : Bool) → uses rows i r ≡ t → cond (t && gate_of rows (λ j. is_in j order') i) ready_slot (slot_at w' i) ≡ slot_for rows order' i
          go i l true u =
              let d = user-other i u in
              rw (others i l d ∙ user-slot w P i l u, in-other i r order d ∙ user-unplaced i l u)
          go i l false u = elim (ℕ_discrete i r) [
            | yes e ↦ rw (e, in-last r order) (here-is ∙ ap (λ (x : ℕ). placed_slot + x) (sym (number-last order r N.unplaced)))
            | no d ↦ others i l d ∙ P.slots i l ∙ slot-stays i u d
          ]
