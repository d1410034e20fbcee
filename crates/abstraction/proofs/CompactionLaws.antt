-- Compaction keeps the value of every row that stays.
-- Assumes nothing.
use Prim.Native.Nat.{ℕ, zero, suc, ◌+◌, ◌<◌, ◌≤◌, ◌/◌, ◌%◌}
use mathlib.Core.Path.{◌≡◌, refl, sym, ap, ◌∙◌, subst}
use mathlib.Core.Bool.{Bool, true, false, cond, true≢false}
use mathlib.Core.List.{List, [], ◌∷◌}
use native.Mathlib.Omega.{arith}
use native.Mathlib.Decide.{dec_lt}
use lib.ListN.{length, length-append, get_or-append, get_or-eq_default}
use lib.Seq.{get_or_at}
use Rattle.memory.proofs.TestLaws.{cond-case, last_or}
use Rattle.netlist.specs.Rows.{Row, constant, input, register, and_gate, xor_gate, mux_gate, output, row_at, map_literals, fanin_nodes}
use Rattle.netlist.specs.Simulation.{bool_logic, literal_value, row_value, reset_value, next_value, run_value}
use Rattle.netlist.proofs.RowLaws.{RowIn}
use Rattle.netlist.specs.WellFormed.{OperandsBelow, Ordered}
use Rattle.netlist.proofs.SimulationLaws.{held, value-at}
use Rattle.abstraction.specs.Compaction.{is_marked, new_index, renumber_literal, compact_up_to}

-- A row with its literals renumbered.
abbrev pub renumbered : List Bool → Row → Row
renumbered m = map_literals (renumber_literal m)

-- Each number of the list is marked.
abbrev pub AllMarked : List Bool → List ℕ → Type 0
AllMarked m [] = Unit {0}
AllMarked m (j ∷ js) = (is_marked m j ≡ true) × AllMarked m js

-- What a marked row names is marked.
abbrev pub ClosedUnderFanin : List Row → List Bool → Type 0
ClosedUnderFanin rows m = (j : ℕ) → j < length rows → is_marked m j ≡ true → AllMarked m (fanin_nodes (row_at rows j))

-- A marked number is in the list.
pub marked-lt : (m : List Bool) (j : ℕ) → is_marked m j ≡ true → j < length m
marked-lt m j h = elim (dec_lt j (length m)) [
  | yes l ↦ l
  | no l ↦ absurd (true≢false (sym h ∙ get_or-eq_default m false {n = j} (omega arith)))
]

module _ (m : List Bool) where
  pub index-none : new_index m 0 ≡ 0
  unfolding new_index
  index-none = refl

  pub index-suc : (n : ℕ) → new_index m (suc n) ≡ new_index m n + cond (is_marked m n) 1 0
  unfolding new_index
  index-suc n = go (is_marked m n)
    where
      go : (t : Bool) → cond t (suc (new_index m n)) (new_index m n) ≡ new_index m n + cond t 1 0
      go true = omega arith
      go false = omega arith

  pub index-le : (n : ℕ) → new_index m n ≤ n
  unfolding new_index
  index-le zero = omega arith
  index-le (suc n) = cond-case (λ k. k ≤ suc n) (is_marked m n) (suc (new_index m n)) (new_index m n) (λ _. omega (arith, index-le n)) (λ _. omega (arith, index-le n))

  index-marked : (n : ℕ) → is_marked m n ≡ true → new_index m (suc n) ≡ suc (new_index m n)
  unfolding new_index
  index-marked n h = rw h

  index-step : (n : ℕ) → new_index m n ≤ new_index m (suc n)
  unfolding new_index
  index-step n = cond-case (λ k. new_index m n ≤ k) (is_marked m n) (suc (new_index m n)) (new_index m n) (λ _. omega arith) (λ _. omega arith)

  pub index-mono : (j n : ℕ) → j ≤ n → new_index m j ≤ new_index m n
  index-mono j zero h = let e : j ≡ 0 = omega arith in rw e (omega arith)
  index-mono j (suc n) h = last_or j (suc n) (omega arith) (λ l. omega (arith, index-mono j n (omega arith), index-step n)) (λ e. rw e (omega arith))

  pub index-lt : (j n : ℕ) → j < n → is_marked m j ≡ true → new_index m j < new_index m n
  index-lt j n h k = omega (arith, index-marked j k, index-mono (suc j) n h)

  -- Each number below the rank of n is the rank of a marked one below n.
  pub record KeptRow (n y : ℕ) : Type 0 where
    pub source : ℕ
    pub below : source < n
    pub mark : is_marked m source ≡ true
    pub is : new_index m source ≡ y

  index-source : (n y : ℕ) → y < new_index m n → KeptRow n y
  unfolding new_index
  index-source zero y h = absurd (omega arith)
  index-source (suc n) y h = go (is_marked m n) refl h (index-source n y)
    where
      wider : KeptRow n y → KeptRow (suc n) y
      wider k = record { source = k.source; below = omega (arith, k.below); mark = k.mark; is = k.is }

      go : (t : Bool) → is_marked m n ≡ t → y < cond t (suc (new_index m n)) (new_index m n) → (y < new_index m n → KeptRow n y) → KeptRow (suc n) y
      go true e l ih = last_or y (new_index m n) l (λ b. wider (ih b)) (λ b. record { source = n; below = omega arith; mark = e; is = sym b })
      go false e l ih = wider (ih l)

  renumber-lt : (j a : ℕ) → a / 2 < j → is_marked m (a / 2) ≡ true → renumber_literal m a / 2 < new_index m j
  renumber-lt j a h k = omega (arith, index-lt (a / 2) j h k)

  renumber-value : (w w' : ℕ → Bool) (l : ℕ) → w' (new_index m (l / 2)) ≡ w (l / 2) → literal_value bool_logic w' (renumber_literal m l) ≡ literal_value bool_logic w l
  renumber-value w w' l e =
      let p : renumber_literal m l / 2 ≡ new_index m (l / 2) = omega arith in
      let q : renumber_literal m l % 2 ≡ l % 2 = omega arith in
      rw (p, q, e)

  renumber-below : (j : ℕ) (r : Row) → OperandsBelow j r → AllMarked m (fanin_nodes r) → OperandsBelow (new_index m j) (renumbered m r)
  renumber-below j constant b k = tt
  renumber-below j (input _ _) b k = tt
  renumber-below j (register _ _ _) b k = tt
  renumber-below j (and_gate x y) b k = (renumber-lt j x b.0 k.0, renumber-lt j y b.1 k.1.0)
  renumber-below j (xor_gate x y) b k = (renumber-lt j x b.0 k.0, renumber-lt j y b.1 k.1.0)
  renumber-below j (mux_gate x y z) b k = (renumber-lt j x b.0 k.0, renumber-lt j y b.1 k.1.0, renumber-lt j z b.2 k.1.1.0)
  renumber-below j (output x _ _) b k = renumber-lt j x b k.0

module _ (rows : List Row) (m : List Bool) where
  pub compact-length : (n : ℕ) → length (compact_up_to rows m n) ≡ new_index m n
  unfolding compact_up_to new_index
  compact-length zero = refl
  compact-length (suc n) = length-append (compact_up_to rows m n) _ ∙ go _ (is_marked m n) (compact-length n)
    where
      go : (r : Row) (t : Bool) → length (compact_up_to rows m n) ≡ new_index m n → length (compact_up_to rows m n) + length (cond t (r ∷ []) []) ≡ cond t (suc (new_index m n)) (new_index m n)
      go r true e = omega arith
      go r false e = omega arith

  compact-at : (n j : ℕ) → j < n → is_marked m j ≡ true → row_at (compact_up_to rows m n) (new_index m j) ≡ renumbered m (row_at rows j)
  unfolding compact_up_to
  compact-at zero j h k = absurd (omega arith)
  compact-at (suc n) j h k =
      last_or j n h
      (λ l. get_or-append (compact_up_to rows m n) _ constant (new_index m j) (omega (arith, compact-length n, index-lt m j n l k)) ∙ compact-at n j l k)
      (λ e. rw (sym e, k) (get_or_at (compact_up_to rows m j) _ [] constant (new_index m j) (compact-length j)))

  abbrev pub kept : List Row
  kept = compact_up_to rows m (length rows)

  module _ (sized : length m ≡ length rows) (ordered : Ordered rows) (closed : ClosedUnderFanin rows m) where
    within : (j : ℕ) → is_marked m j ≡ true → j < length rows
    within j k = omega (arith, marked-lt m j k)

    pub kept_at : (j : ℕ) → is_marked m j ≡ true → row_at kept (new_index m j) ≡ renumbered m (row_at rows j)
    kept_at j k = compact-at (length rows) j (within j k) k

    pub kept-lt : (j : ℕ) → is_marked m j ≡ true → new_index m j < length kept
    kept-lt j k = omega (arith, compact-length (length rows), index-lt m j (length rows) (within j k) k)

    pub kept_from : (y : ℕ) → y < length kept → KeptRow m (length rows) y
    kept_from y h = index-source m (length rows) y (omega (arith, compact-length (length rows)))

    pub kept-ordered : Ordered kept
    kept-ordered y h =
        let k = kept_from y h in
        let j = k.source in
        subst (λ (z : ℕ). OperandsBelow z (row_at kept z)) k.is
        (rw (kept_at j k.mark) (renumber-below m j (row_at rows j) (ordered j k.below) (closed j k.below k.mark)))

    -- Two runs, of the rows and of the kept rows, that agree on the inputs and choices that are kept.
    module _ (c c' : ℕ → Bool) (i i' : ℕ → ℕ → ℕ → Bool)
        (choices : (r n l : ℕ) → RowIn kept (register (suc (suc r)) n l) → c' l ≡ c l)
        (inputs : (g l k : ℕ) → RowIn kept (input l k) → i' g l k ≡ i g l k)
      where
        abbrev old : ℕ → ℕ → Bool
        old g = run_value bool_logic rows c i g

        abbrev new : ℕ → ℕ → Bool
        new g = run_value bool_logic kept c' i' g

        has : (j : ℕ) → is_marked m j ≡ true → (r : Row) → row_at rows j ≡ r → RowIn kept (renumbered m r)
        has j k r e = record { place = new_index m j; within = kept-lt j k; is = kept_at j k ∙ ap (renumbered m) e }

        abbrev SameHeld : ℕ → Type 0
        SameHeld g = (j : ℕ) → is_marked m j ≡ true → held bool_logic kept c' i' g (renumbered m (row_at rows j)) ≡ held bool_logic rows c i g (row_at rows j)

        abbrev SameTo : ℕ → ℕ → Type 0
        SameTo g n = (j : ℕ) → j < n → is_marked m j ≡ true → new g (new_index m j) ≡ old g j

        row_same : (g j : ℕ) → is_marked m j ≡ true → SameTo g j → (h : Bool) (r : Row) → row_at rows j ≡ r → OperandsBelow j r → AllMarked m (fanin_nodes r)
            → row_value bool_logic h (i' g) (new g) (renumbered m r) ≡ row_value bool_logic h (i g) (old g) r
        row_same g j k s h constant e b a = refl
        row_same g j k s h (input l p) e b a = inputs g l p (has j k (input l p) e)
        row_same g j k s h (register _ _ _) e b a = refl
        row_same g j k s h (and_gate x y) e b a =
            cc (renumber-value m (old g) (new g) x (s (x / 2) b.0 a.0), renumber-value m (old g) (new g) y (s (y / 2) b.1 a.1.0))
        row_same g j k s h (xor_gate x y) e b a =
            cc (renumber-value m (old g) (new g) x (s (x / 2) b.0 a.0), renumber-value m (old g) (new g) y (s (y / 2) b.1 a.1.0))
        row_same g j k s h (mux_gate x y z) e b a =
            cc (renumber-value m (old g) (new g) x (s (x / 2) b.0 a.0), renumber-value m (old g) (new g) y (s (y / 2) b.1 a.1.0), renumber-value m (old g) (new g) z (s (z / 2) b.2 a.1.1.0))
        row_same g j k s h (output x _ _) e b a = renumber-value m (old g) (new g) x (s (x / 2) b a.0)

        same-to : (g : ℕ) → SameHeld g → (n : ℕ) → SameTo g n
        same-to g h zero j l k = absurd (omega arith)
        same-to g h (suc n) j l k =
            last_or j n l (λ b. same-to g h n j b k) (λ b.
            let s : SameTo g j = rw b (same-to g h n) in
            (rw (kept_at j k) at (value-at bool_logic kept c' i' kept-ordered g (new_index m j) (kept-lt j k)))
            ∙ ap (λ (x : Bool). row_value bool_logic x (i' g) (new g) (renumbered m (row_at rows j))) (h j k)
            ∙ row_same g j k s (held bool_logic rows c i g (row_at rows j)) (row_at rows j) refl (ordered j (within j k)) (closed j (within j k) k)
            ∙ sym (value-at bool_logic rows c i ordered g j (within j k)))

        start-same : (j : ℕ) → is_marked m j ≡ true → (r : Row) → row_at rows j ≡ r → reset_value bool_logic c' (renumbered m r) ≡ reset_value bool_logic c r
        start-same j k constant e = refl
        start-same j k (input _ _) e = refl
        start-same j k (register zero n l) e = refl
        start-same j k (register (suc zero) n l) e = refl
        start-same j k (register (suc (suc r)) n l) e = choices r (renumber_literal m n) l (has j k (register (suc (suc r)) n l) e)
        start-same j k (and_gate _ _) e = refl
        start-same j k (xor_gate _ _) e = refl
        start-same j k (mux_gate _ _ _) e = refl
        start-same j k (output _ _ _) e = refl

        next-same : (g : ℕ) → ((x : ℕ) → is_marked m x ≡ true → new g (new_index m x) ≡ old g x) → (r : Row) → AllMarked m (fanin_nodes r) → next_value bool_logic (new g) (renumbered m r) ≡ next_value bool_logic (old g) r
        next-same g s constant a = refl
        next-same g s (input _ _) a = refl
        next-same g s (register _ n _) a = renumber-value m (old g) (new g) n (s (n / 2) a.0)
        next-same g s (and_gate _ _) a = refl
        next-same g s (xor_gate _ _) a = refl
        next-same g s (mux_gate _ _ _) a = refl
        next-same g s (output _ _ _) a = refl

        -- A register that stays holds what it held.
        pub register-same : (g : ℕ) → SameHeld g
        register-same zero j k = start-same j k (row_at rows j) refl
        register-same (suc g) j k =
            next-same g (λ x b. same-to g (register-same g) (length rows) x (within x b) b) (row_at rows j) (closed j (within j k) k)

        -- A row that stays has the value that it had.
        pub value_same : (g j : ℕ) → is_marked m j ≡ true → new g (new_index m j) ≡ old g j
        value_same g j k = same-to g (register-same g) (length rows) j (within j k) k
