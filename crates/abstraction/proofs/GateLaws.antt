-- The laws of gate making: each rule keeps the gate's value, and makes a literal of rows that are there or one gate of its kind over them.
-- Assumes nothing.
use Prim.Native.Nat.{ℕ, zero, suc, ◌+◌, ◌-◌, ◌<◌, ◌/◌, ◌%◌, min, max}
use mathlib.Core.Path.{◌≡◌, refl, sym, ap, ◌∙◌}
use mathlib.Core.Bool.{Bool, true, false, cond, not, ◌&&◌, ◌||◌}
use native.Mathlib.Omega.{arith}
use native.Mathlib.Decide.{dec_le}
use borrow.Author.Tests.{eqb-true}
use lib.Dec.{eqb}
use Rattle.memory.proofs.TestLaws.{cond-case, or_case}
use Rattle.netlist.specs.Rows.{Row, kind_of}
use Rattle.netlist.specs.Simulation.{bool_logic, bool_xor, complement_if, literal_value, row_value}
use Rattle.netlist.specs.WellFormed.{OperandsBelow}
use Rattle.abstraction.specs.GateMaking.{complement, positive, Image, existing, new_row, make_and, make_xor, make_mux}
use Rattle.abstraction.specs.Unrolling.{complement_by}

-- ---- values

not-not : (x : Bool) → not (not x) ≡ x
not-not true = refl
not-not false = refl

and-false : (x : Bool) → x && false ≡ false
and-false true = refl
and-false false = refl

and_one : (x : Bool) → x && true ≡ x
and_one true = refl
and_one false = refl

and_same : (x : Bool) → x && x ≡ x
and_same true = refl
and_same false = refl

and-not : (x : Bool) → not x && x ≡ false
and-not true = refl
and-not false = refl

and_comm : (x y : Bool) → x && y ≡ y && x
and_comm true true = refl
and_comm true false = refl
and_comm false true = refl
and_comm false false = refl

xor_comm : (x y : Bool) → bool_xor x y ≡ bool_xor y x
xor_comm true true = refl
xor_comm true false = refl
xor_comm false true = refl
xor_comm false false = refl

xor_same : (x : Bool) → bool_xor x x ≡ false
xor_same true = refl
xor_same false = refl

xor-not : (x : Bool) → bool_xor (not x) x ≡ true
xor-not true = refl
xor-not false = refl

xor-false : (x : Bool) → bool_xor x false ≡ x
xor-false true = refl
xor-false false = refl

xor-true : (x : Bool) → bool_xor x true ≡ not x
xor-true true = refl
xor-true false = refl

cond_same : (x y : Bool) → cond x y y ≡ y
cond_same true y = refl
cond_same false y = refl

cond-not : (x y z : Bool) → cond (not x) z y ≡ cond x y z
cond-not true y z = refl
cond-not false y z = refl

-- Smaller first.
min-max {ℓ} : (P : ℕ → ℕ → Type ℓ) (a b : ℕ) → P a b → P b a → P (min a b) (max a b)
min-max P a b f g = elim (dec_le a b) [
  | yes h ↦ (let p : min a b ≡ a = omega arith in let q : max a b ≡ b = omega arith in rw (p, q) f)
  | no h ↦ (let p : min a b ≡ b = omega arith in let q : max a b ≡ a = omega arith in rw (p, q) g)
]

complement-other : (k : ℕ) → k < 2 → (v : Bool) → complement_if bool_logic (1 - k) v ≡ not (complement_if bool_logic k v)
complement-other zero h v = refl
complement-other (suc zero) h v = sym (not-not v)
complement-other (suc (suc k)) h v = absurd (omega arith)

xor-complement : (k m n : ℕ) → k < 2 → m < 2 → n ≡ (k + m) % 2 → (x y : Bool) → complement_if bool_logic n (bool_xor x y) ≡ bool_xor (complement_if bool_logic k x) (complement_if bool_logic m y)
xor-complement zero zero n h h' e x y = rw e
xor-complement zero (suc zero) n h h' e true y = rw e
xor-complement zero (suc zero) n h h' e false y = rw e
xor-complement (suc zero) zero n h h' e true y = rw e (not-not y)
xor-complement (suc zero) zero n h h' e false y = rw e
xor-complement (suc zero) (suc zero) n h h' e true y = rw e
xor-complement (suc zero) (suc zero) n h h' e false y = rw e (sym (not-not y))
xor-complement zero (suc (suc m)) n h h' e x y = absurd (omega arith)
xor-complement (suc zero) (suc (suc m)) n h h' e x y = absurd (omega arith)
xor-complement (suc (suc k)) m n h h' e x y = absurd (omega arith)

-- The values of the nodes, of which node 0 is the constant; h and i are what a register and the inputs of a new row would have.
module _ (w : ℕ → Bool) (w0 : w 0 ≡ false) where
  pub literal-zero : literal_value bool_logic w 0 ≡ false
  literal-zero = w0

  pub literal-one : literal_value bool_logic w 1 ≡ true
  literal-one = ap not w0

  pub literal-complement : (l : ℕ) → literal_value bool_logic w (complement l) ≡ not (literal_value bool_logic w l)
  literal-complement l =
      let p : complement l / 2 ≡ l / 2 = omega arith in
      let q : complement l % 2 ≡ 1 - l % 2 = omega arith in
      rw (p, q) (complement-other (l % 2) (omega arith) (w (l / 2)))

  literal-positive : (l : ℕ) → literal_value bool_logic w (positive l) ≡ w (l / 2)
  literal-positive l =
      let p : positive l / 2 ≡ l / 2 = omega arith in
      let q : positive l % 2 ≡ 0 = omega arith in
      rw (p, q)

  pub literal-by : (k l : ℕ) → literal_value bool_logic w (complement_by k l) ≡ complement_if bool_logic k (literal_value bool_logic w l)
  literal-by zero l = refl
  literal-by (suc k) l = literal-complement l

  -- What a test on literals says of their values.
  equal-literals : (a b : ℕ) → eqb a b ≡ true → literal_value bool_logic w a ≡ literal_value bool_logic w b
  equal-literals a b q = ap (literal_value bool_logic w) (eqb-true a b q)

  false-literal : (a : ℕ) → eqb a 0 ≡ true → literal_value bool_logic w a ≡ false
  false-literal a q = equal-literals a 0 q ∙ literal-zero

  true-literal : (a : ℕ) → eqb a 1 ≡ true → literal_value bool_logic w a ≡ true
  true-literal a q = equal-literals a 1 q ∙ literal-one

  complement-literals : (a b : ℕ) → eqb a (complement b) ≡ true → literal_value bool_logic w a ≡ not (literal_value bool_logic w b)
  complement-literals a b q = equal-literals a (complement b) q ∙ literal-complement b

  module _ (h : Row → Bool) (i : ℕ → ℕ → Bool) where
    -- What is made has the value v.
    abbrev pub Makes : Bool → Image → Type 0
    Makes v (existing l) = literal_value bool_logic w l ≡ v
    Makes v (new_row r b) = (b < 2) × (complement_if bool_logic b (row_value bool_logic (h r) i w r) ≡ v)

    pub and-makes : (a b : ℕ) → Makes (literal_value bool_logic w a && literal_value bool_logic w b) (make_and a b)
    unfolding make_and
    and-makes a b =
        let P = Makes (literal_value bool_logic w a && literal_value bool_logic w b) in
        cond-case P (eqb a 0 || eqb b 0 || eqb a (complement b)) _ _
        (λ e. or_case (eqb a 0 || eqb b 0) (eqb a (complement b)) e
        (λ e'. or_case (eqb a 0) (eqb b 0) e' (λ q. rw (false-literal a q, w0)) (λ q. rw (false-literal b q, w0) (sym (and-false (literal_value bool_logic w a)))))
        (λ q. rw (complement-literals a b q, w0) (sym (and-not (literal_value bool_logic w b)))))
        λ n. cond-case P (eqb a 1) _ _ (λ q. rw (true-literal a q))
        λ n. cond-case P (eqb b 1) _ _ (λ q. rw (true-literal b q) (sym (and_one (literal_value bool_logic w a))))
        λ n. cond-case P (eqb a b) _ _ (λ q. rw (equal-literals a b q) (sym (and_same (literal_value bool_logic w b))))
        λ n. (omega arith, min-max (λ x y. literal_value bool_logic w x && literal_value bool_logic w y ≡ literal_value bool_logic w a && literal_value bool_logic w b) a b refl (and_comm (literal_value bool_logic w b) (literal_value bool_logic w a)))

    pub xor-makes : (a b : ℕ) → Makes (bool_xor (literal_value bool_logic w a) (literal_value bool_logic w b)) (make_xor a b)
    unfolding make_xor
    xor-makes a b =
        let P = Makes (bool_xor (literal_value bool_logic w a) (literal_value bool_logic w b)) in
        cond-case P (eqb a b) _ _ (λ q. rw (equal-literals a b q, w0) (sym (xor_same (literal_value bool_logic w b))))
        λ n. cond-case P (eqb a (complement b)) _ _ (λ q. rw (complement-literals a b q) (literal-one ∙ sym (xor-not (literal_value bool_logic w b))))
        λ n. cond-case P (eqb a 0) _ _ (λ q. rw (false-literal a q))
        λ n. cond-case P (eqb b 0) _ _ (λ q. rw (false-literal b q) (sym (xor-false (literal_value bool_logic w a))))
        λ n. cond-case P (eqb a 1) _ _ (λ q. rw (true-literal a q) (literal-complement b))
        λ n. cond-case P (eqb b 1) _ _ (λ q. rw (true-literal b q) (literal-complement a ∙ sym (xor-true (literal_value bool_logic w a))))
        λ n. (
          omega arith,
          min-max (λ x y. complement_if bool_logic ((a + b) % 2) (bool_xor (literal_value bool_logic w x) (literal_value bool_logic w y)) ≡ bool_xor (literal_value bool_logic w a) (literal_value bool_logic w b)) (positive a) (positive b)
              (rw (literal-positive a, literal-positive b) (xor-complement (a % 2) (b % 2) ((a + b) % 2) (omega arith) (omega arith) (omega arith) (w (a / 2)) (w (b / 2))))
              (rw (literal-positive a, literal-positive b, xor_comm (w (b / 2)) (w (a / 2))) (xor-complement (a % 2) (b % 2) ((a + b) % 2) (omega arith) (omega arith) (omega arith) (w (a / 2)) (w (b / 2)))),
        )

    pub mux-makes : (a b c : ℕ) → Makes (cond (literal_value bool_logic w a) (literal_value bool_logic w b) (literal_value bool_logic w c)) (make_mux a b c)
    unfolding make_mux
    mux-makes a b c =
        let P = Makes (cond (literal_value bool_logic w a) (literal_value bool_logic w b) (literal_value bool_logic w c)) in
        cond-case P (eqb a 0) _ _ (λ q. rw (false-literal a q))
        λ n. cond-case P (eqb a 1) _ _ (λ q. rw (true-literal a q))
        λ n. cond-case P (eqb b c) _ _ (λ q. rw (equal-literals b c q) (sym (cond_same (literal_value bool_logic w a) (literal_value bool_logic w c))))
        λ n. cond-case P (eqb (a % 2) 0) _ _ (λ q. (omega arith, refl))
        λ n. (omega arith, rw literal-complement (cond-not (literal_value bool_logic w a) (literal_value bool_logic w b) (literal_value bool_logic w c)))

-- ---- what is made names rows that are there

-- A literal of the m rows there are, or a gate of this kind over them.
abbrev pub GateOver : ℕ → ℕ → Image → Type 0
GateOver m kind (existing l) = l / 2 < m
GateOver m kind (new_row r b) = (kind_of r ≡ kind) × OperandsBelow m r × (b < 2)

module _ (m : ℕ) (some-row : 0 < m) where
  pub and-over : (a b : ℕ) → a / 2 < m → b / 2 < m → GateOver m 3 (make_and a b)
  unfolding make_and
  and-over a b p q =
      cond-case (GateOver m 3) (eqb a 0 || eqb b 0 || eqb a (complement b)) _ _ (λ _. some-row)
      λ _. cond-case (GateOver m 3) (eqb a 1) _ _ (λ _. q)
      λ _. cond-case (GateOver m 3) (eqb b 1) _ _ (λ _. p)
      λ _. cond-case (GateOver m 3) (eqb a b) _ _ (λ _. p)
      λ _. (refl, (omega arith, omega arith), omega arith)

  pub xor-over : (a b : ℕ) → a / 2 < m → b / 2 < m → GateOver m 4 (make_xor a b)
  unfolding make_xor
  xor-over a b p q =
      cond-case (GateOver m 4) (eqb a b) _ _ (λ _. some-row)
      λ _. cond-case (GateOver m 4) (eqb a (complement b)) _ _ (λ _. some-row)
      λ _. cond-case (GateOver m 4) (eqb a 0) _ _ (λ _. q)
      λ _. cond-case (GateOver m 4) (eqb b 0) _ _ (λ _. p)
      λ _. cond-case (GateOver m 4) (eqb a 1) _ _ (λ _. omega arith)
      λ _. cond-case (GateOver m 4) (eqb b 1) _ _ (λ _. omega arith)
      λ _. (refl, (omega arith, omega arith), omega arith)

  pub mux-over : (a b c : ℕ) → a / 2 < m → b / 2 < m → c / 2 < m → GateOver m 5 (make_mux a b c)
  unfolding make_mux
  mux-over a b c p q r =
      cond-case (GateOver m 5) (eqb a 0) _ _ (λ _. r)
      λ _. cond-case (GateOver m 5) (eqb a 1) _ _ (λ _. q)
      λ _. cond-case (GateOver m 5) (eqb b c) _ _ (λ _. q)
      λ _. cond-case (GateOver m 5) (eqb (a % 2) 0) _ _ (λ _. (refl, (p, q, r), omega arith))
      λ _. (refl, (omega arith, r, q), omega arith)
