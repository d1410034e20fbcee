-- Which gates become ready: those of which all operands are placed.
-- Assumes nothing.
use Prim.Native.Nat.{ℕ, zero, suc, ◌+◌, ◌<◌, ◌≤◌, ◌^◌}
use mathlib.Core.Path.{◌≡◌, refl, sym, ap, ◌∙◌, subst}
use mathlib.Core.Bool.{Bool, true, false, cond, ◌&&◌, ◌||◌, false≢true}
use mathlib.Core.List.{List, [], ◌∷◌}
use native.Mathlib.Omega.{arith}
use native.Mathlib.Decide.{dec_lt, ℕ_discrete}
use lib.ListN.{length, get_or}
use lib.Dec.{eqb, ltb, leb}
use borrow.Author.Tests.{eq-eqb, ne_eqb, ltb-true, lt-ltb, le-ltb}
use Rattle.memory.specs.Lists.{all_of, Among, here, there}
use Rattle.memory.specs.Slots.{slot_at, set_slot}
use Rattle.memory.proofs.SlotLaws.{slot-other}
use Rattle.memory.proofs.TestLaws.{and-true, fails}
use Rattle.netlist.specs.Rows.{Row, constant, input, register, and_gate, xor_gate, mux_gate, output, row_at}
use Rattle.netlist.specs.WellFormed.{Unordered}
use Rattle.ordering.specs.GateOrder.{is_gate, operands_of}
use Rattle.ordering.proofs.PlacingLaws.{at_of, all-of}
use Rattle.ready_gates.specs.ReadySlots.{ready_slot, ReadyMarked}
use Rattle.ready_gates.proofs.ReadyLaws.{marked-placed}
use Rattle.gate_rows.specs.Sources.{source_rows, Source}
use Rattle.gate_rows.specs.declared.Layout.{Layout}
use Rattle.gate_rows.proofs.RowLaws.{operands-nodes}
use Rattle.gate_users.specs.Users.{uses, last_user}
use Rattle.gate_users.proofs.UserLaws.{last-below, last_less, last-uses, last-above, constant-uses}
use Rattle.gate_numbers.specs.Numbers.{placed_slot, is_placed_in, gate_of, users_of, Woken, NextGate, GatePlaced}

-- ---- the operands of a gate

operands-none : (r : Row) → is_gate r ≡ false → length (operands_of r) ≡ 0
operands-none r g = rw g refl

operands-some : (r : Row) → is_gate r ≡ true → 0 < length (operands_of r)
operands-some constant g = absurd (false≢true g)
operands-some (input _ _) g = absurd (false≢true g)
operands-some (register _ _ _) g = absurd (false≢true g)
operands-some (and_gate _ _) g = omega arith
operands-some (xor_gate _ _) g = omega arith
operands-some (mux_gate _ _ _) g = omega arith
operands-some (output _ _ _) g = absurd (false≢true g)

pub all-cong : (f g : ℕ → Bool) (js : List ℕ) → ((j : ℕ) → Among j js → f j ≡ g j) → all_of f js ≡ all_of g js
all-cong f g [] h = refl
all-cong f g (j ∷ js) h = rw (h j here, all-cong f g js (λ i a. h i (there a)))

-- Tests that agree on nodes agree on gates.
pub gate-cong : (rows : List Row) (f g : ℕ → Bool) (i : ℕ) → ((j : ℕ) → Among j (operands_of (row_at rows i)) → f j ≡ g j) → gate_of rows f i ≡ gate_of rows g i
gate-cong rows f g i h = ap (λ (t : Bool). is_gate (row_at rows i) && t) (all-cong f g (operands_of (row_at rows i)) h)

-- ---- all of them placed

module _ (rows : List Row) (w : List ℕ) (x : ℕ) where
  abbrev named : List ℕ
  named = operands_of (row_at rows x)

  -- The first k operands are placed.
  abbrev pub PlacedTo : ℕ → Type 0
  PlacedTo k = (y : ℕ) → y < k → is_placed_in w (get_or named y 0) ≡ true

  pub placed-none : PlacedTo 0
  placed-none y h = absurd (omega arith)

  pub all_placed : (count k : ℕ) → count ≡ length named → count ≤ k → PlacedTo k → ltb 0 count ≡ gate_of rows (is_placed_in w) x
  all_placed count k e h P = go (is_gate (row_at rows x)) refl
    where
      all : all_of (is_placed_in w) named ≡ true
      all = all-of (is_placed_in w) named (λ j a. let r = at_of j named a in subst (λ (z : ℕ). is_placed_in w z ≡ true) r.2 (P r.0 (omega (arith, r.1))))

      go : (t : Bool) → is_gate (row_at rows x) ≡ t → ltb 0 count ≡ t && all_of (is_placed_in w) named
      go true g = lt-ltb 0 count (omega (arith, operands-some (row_at rows x) g)) ∙ sym all
      go false g = le-ltb 0 count (omega (arith, operands-none (row_at rows x) g))

-- ---- rows woken one after the other

same_asked : (rows : List Row) (a b : ℕ → Bool) (w w' : List ℕ) → ((i : ℕ) → i < length rows → a i ≡ b i) → Woken rows a w w' → Woken rows b w w'
same_asked rows a b w w' h W = record { slots = λ i l. W.slots i l ∙ ap (λ (t : Bool). cond (t && gate_of rows (is_placed_in w) i) ready_slot (slot_at w i)) (h i l) }

pub woken-none : (rows : List Row) (a : ℕ → Bool) (w : List ℕ) → ((i : ℕ) → i < length rows → a i ≡ false) → Woken rows a w w
woken-none rows a w h = record { slots = λ i l. rw (h i l) }

-- The gates of which the test holds have no number, and are not ready.
pub record Asleep (rows : List Row) (asked : ℕ → Bool) (w : List ℕ) : Type 0 where
  pub slots : (i : ℕ) → i < length rows → asked i ≡ true → is_gate (row_at rows i) ≡ true → slot_at w i ≡ 0

-- A gate that becomes ready is not placed, nor was it.
placed_same : (rows : List Row) (a : ℕ → Bool) (w w' : List ℕ) → Asleep rows a w → Woken rows a w w' → (j : ℕ) → j < length rows → is_placed_in w' j ≡ is_placed_in w j
placed_same rows a w w' A W j l = ap (leb placed_slot) (W.slots j l) ∙ go (a j && gate_of rows (is_placed_in w) j) refl
  where
    go : (t : Bool) → a j && gate_of rows (is_placed_in w) j ≡ t → leb placed_slot (cond t ready_slot (slot_at w j)) ≡ leb placed_slot (slot_at w j)
    go true e = let p = and-true (a j) _ e in sym (ap (leb placed_slot) (A.slots j l p.0 (and-true (is_gate (row_at rows j)) _ p.1).0))
    go false e = refl

or_right : (s t : Bool) → t ≡ true → s || t ≡ true
or_right true t h = refl
or_right false t h = h

-- One set of rows, and then another.
pub woken-join : (rows : List Row) (a b c : ℕ → Bool) (w₀ w w' : List ℕ) → Unordered rows → ((i : ℕ) → i < length rows → c i ≡ b i || a i) → Asleep rows c w₀ → Woken rows a w₀ w → Woken rows b w w' → Woken rows c w₀ w'
woken-join rows a b c w₀ w w' U h A X Y = record { slots = slots }
  where
    asleep : Asleep rows a w₀
    asleep = record { slots = λ i l e g. A.slots i l (h i l ∙ or_right (b i) (a i) e) g }

    ready-same : (i : ℕ) → i < length rows → gate_of rows (is_placed_in w) i ≡ gate_of rows (is_placed_in w₀) i
    ready-same i l = gate-cong rows (is_placed_in w) (is_placed_in w₀) i (λ j d. placed_same rows a w₀ w asleep X j (operands-nodes rows (row_at rows i) (U i l) j d).0)

    either : (t s u : Bool) (z : ℕ) → cond (t && u) ready_slot (cond (s && u) ready_slot z) ≡ cond ((t || s) && u) ready_slot z
    either true true true z = refl
    either true true false z = refl
    either true false true z = refl
    either true false false z = refl
    either false true true z = refl
    either false true false z = refl
    either false false true z = refl
    either false false false z = refl

    slots : (i : ℕ) → i < length rows → slot_at w' i ≡ cond (c i && gate_of rows (is_placed_in w₀) i) ready_slot (slot_at w₀ i)
    slots i l =
        Y.slots i l
        ∙ rw (ready-same i l, X.slots i l, h i l) (either (b i) (a i) (gate_of rows (is_placed_in w₀) i) (slot_at w₀ i))

-- No row is below row 0.
pub marked-lowest : (n r : ℕ) (w : List ℕ) → ReadyMarked n w r → r ≤ 0 → ReadyMarked n w 0
marked-lowest n r w M h = record { room = M.room; marked = M.marked; above = λ i l e. omega arith }

-- ---- the users of a node, from the highest down

abbrev pub users_above : List Row → ℕ → ℕ → ℕ → Bool
users_above rows node user i = uses rows i node && ltb user i

-- The next user to be looked at; 0 if there is none.
abbrev pub NextUser : List Row → ℕ → ℕ → Type 0
NextUser rows node user = (user ≡ 0 → ⊥) → (user < length rows) × (uses rows user node ≡ true)

module _ (layout : Layout) (f : List ℕ) (n : ℕ) (F : Source layout f n) where
  abbrev rows : List Row
  rows = source_rows layout f

  -- The node is placed: w becomes w₀.
  module _ (w w₀ : List ℕ) (node number : ℕ) (N : NextGate rows n w node) (u : w₀ ≡ set_slot w node (placed_slot + number)) where
    pub users-asleep : Asleep rows (users_of rows node) w₀
    users-asleep = record {
      slots = λ i l e _.
          let z = N.users i l e in
          let d : i ≡ node → ⊥ = λ q. omega (arith, z, N.ready, ap (slot_at w) q) in
          ap (λ (x : List ℕ). slot_at x i) u ∙ slot-other w node (placed_slot + number) i d ∙ z;
    }

    pub placed-marked : placed_slot + number < 2 ^ 16 → ReadyMarked n w₀ node
    placed-marked h = rw u (marked-placed n w node node (placed_slot + number) N.lowest N.inside h (λ z. omega (arith, z)))

  module _ (node : ℕ) where
    pub users-none : (w : List ℕ) (user : ℕ) → user ≡ last_user rows node n → Woken rows (users_above rows node user) w w
    users-none w user e = woken-none rows (users_above rows node user) w (λ i l. fails (uses rows i node && ltb user i) (λ t.
        let p = and-true (uses rows i node) _ t in
        let a = ltb-true user i p.1 in
        let b = last-above rows node n i (omega (arith, F.count)) p.0 in
        omega arith))

    pub user-first : (user : ℕ) → user ≡ last_user rows node n → NextUser rows node user
    user-first user e d =
        let z : last_user rows node n ≡ 0 → ⊥ = λ q. d (e ∙ q) in
        (omega (arith, last-below rows node n z, F.count), rw e (last-uses rows node n z))

    module _ (user : ℕ) (d : user ≡ 0 → ⊥) (N : NextUser rows node user) where
      pub user-uses : uses rows user node ≡ true
      user-uses = (N d).1

      module _ (user' : ℕ) (e : user' ≡ last_user rows node user) where
        pub user-before : user' < user
        user-before = omega (arith, last_less rows node user d)

        pub user-next : NextUser rows node user'
        user-next z = (omega (arith, user-before, (N d).0), rw e (last-uses rows node user (λ q. z (e ∙ q))))

        asked-next : (i : ℕ) → uses rows i node && ltb user' i ≡ eqb user i || (uses rows i node && ltb user i)
        asked-next i = elim (ℕ_discrete i user) [
          | yes q ↦ rw (q, user-uses, eq-eqb user user refl, lt-ltb user' user user-before)
          | no q ↦ rw (ne_eqb user i (λ z. q (sym z))) (go (uses rows i node) refl q)
        ]
          where
            go : (t : Bool) → uses rows i node ≡ t → (i ≡ user → ⊥) → t && ltb user' i ≡ t && ltb user i
            go true u q = elim (dec_lt user i) [
              | yes l ↦ rw (lt-ltb user i l, lt-ltb user' i (omega (arith, user-before)))
              | no l ↦ rw (le-ltb user i (omega arith), le-ltb user' i (omega (arith, q, last-above rows node user i (omega (arith, q)) u)))
            ]
            go false u q = refl

        pub users-more : (w₀ w w' : List ℕ) → Asleep rows (users_of rows node) w₀ → Woken rows (users_above rows node user) w₀ w → Woken rows (eqb user) w w' → Woken rows (users_above rows node user') w₀ w'
        users-more w₀ w w' A W X =
            woken-join rows (users_above rows node user) (eqb user) (users_above rows node user') w₀ w w' F.rows.operands (λ i l. asked-next i)
            (record { slots = λ i l t g. A.slots i l (and-true (uses rows i node) _ t).0 g }) W X

    -- Row 0 is the constant, and uses nothing.
    uses-some : (i : ℕ) → uses rows i node ≡ uses rows i node && ltb 0 i
    uses-some zero = rw (constant-uses rows node F.rows)
    uses-some (suc i) = go (uses rows (suc i) node)
      where
        go : (t : Bool) → t ≡ t && ltb 0 (suc i)
        go true = sym (lt-ltb 0 (suc i) (omega arith))
        go false = refl

    pub users-all : (w w₀ w' : List ℕ) (user number : ℕ) → NextGate rows n w node → Woken rows (users_above rows node user) w₀ w' → user ≡ 0 → w₀ ≡ set_slot w node (placed_slot + number) → GatePlaced rows n w node number w'
    users-all w w₀ w' user number N W e u =
        record { gate = N; woken = same_asked rows (users_above rows node user) (users_of rows node) (set_slot w node (placed_slot + number)) w' (λ i l. rw e (sym (uses-some i))) (subst (λ (x : List ℕ). Woken rows (users_above rows node user) x w') u W) }
