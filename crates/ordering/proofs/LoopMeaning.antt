-- A gate is not grounded exactly if it is in a loop of gates or behind one: from a gate that is never placed one goes on to gates that are never placed, and there are only so many.
-- Assumes nothing.
use Prim.Native.Nat.{ℕ, zero, suc, ◌+◌, ◌-◌, ◌<◌, ◌≤◌}
use mathlib.Core.Path.{◌≡◌, refl, sym, subst}
use mathlib.Core.Logic.{◌⊎◌, inl, inr}
use mathlib.Core.Bool.{Bool, true, false, not, ◌&&◌, ◌||◌, false≢true}
use mathlib.Core.List.{List, [], ◌∷◌}
use native.Mathlib.Omega.{arith}
use lib.ListN.{length}
use lib.Dec.{eqb}
use borrow.Author.Tests.{eqb-true, eq-eqb}
use Rattle.memory.proofs.TestLaws.{or_case, fails}
use Rattle.memory.specs.Lists.{all_of, Among, here, there}
use Rattle.netlist.specs.Rows.{Row, row_at, fanin_nodes}
use Rattle.ordering.specs.GateOrder.{is_gate, is_in, gate_order, Grounded, grounded}
use Rattle.ordering.specs.Loops.{Names, Reaches, one, more, LoopBehind, LoopMeans}
use Rattle.ordering.proofs.PlacingLaws.{count_below, count-le, count_less, gate-inside, order-done, in-grounded}

-- A test that fails of a list fails of one of its elements.
all-fails : (f : ℕ → Bool) (js : List ℕ) → all_of f js ≡ false → (j : ℕ) × (Among j js × (f j ≡ false))
all-fails f [] h = absurd (false≢true (sym h))
all-fails f (j ∷ js) h = go (f j) refl h (all-fails f js)
  where
    go : (t : Bool) → f j ≡ t → t && all_of f js ≡ false → (all_of f js ≡ false → (k : ℕ) × (Among k js × (f k ≡ false))) → (k : ℕ) × (Among k (j ∷ js) × (f k ≡ false))
    go true e q ih = let r = ih q in (r.0, (there r.1.0, r.1.1))
    go false e q ih = (j, (here, e))

-- ---- of infinitely many numbers below n two are equal

module _ (n : ℕ) (w : ℕ → ℕ) (below : (k : ℕ) → w k < n) where
  past : ℕ → List ℕ
  past zero = []
  past (suc k) = w k ∷ past k

  abbrev Repeats : Type 0
  Repeats = (a b : ℕ) × ((a < b) × (w a ≡ w b))

  past-at : (k x : ℕ) → is_in x (past k) ≡ true → (a : ℕ) × ((a < k) × (w a ≡ x))
  unfolding past
  past-at zero x h = absurd (false≢true h)
  past-at (suc k) x h = or_case (eqb x (w k)) (is_in x (past k)) h
      (λ e. (k, (omega arith, sym (eqb-true x (w k) e))))
      (λ e. let r = past-at k x e in (r.0, (omega (arith, r.1.0), r.1.1)))

  in-more : (k x : ℕ) → is_in x (past k) ≡ true → is_in x (past (suc k)) ≡ true
  unfolding past
  in-more k x h = go (eqb x (w k))
    where
      go : (t : Bool) → t || is_in x (past k) ≡ true
      go true = refl
      go false = h

  in-new : (k : ℕ) → is_in (w k) (past (suc k)) ≡ true
  unfolding past
  in-new k = rw (eq-eqb (w k) (w k) refl)

  counted : (k : ℕ) → Repeats ⊎ (k ≤ count_below n (λ x. is_in x (past k)))
  counted zero = inr (omega arith)
  counted (suc k) = go (is_in (w k) (past k)) refl (counted k)
    where
      go : (t : Bool) → is_in (w k) (past k) ≡ t → Repeats ⊎ (k ≤ count_below n (λ x. is_in x (past k))) → Repeats ⊎ (suc k ≤ count_below n (λ x. is_in x (past (suc k))))
      go true e c = let r = past-at k (w k) e in inl (r.0, k, (r.1.0, r.1.1))
      go false e (inl r) = inl r
      go false e (inr c) = inr (omega (arith, c, count_less n (λ x. is_in x (past k)) (λ x. is_in x (past (suc k))) (λ j _ h. in-more k j h) (w k) (below k) e (in-new k)))

  repeats : Repeats
  repeats = elim (counted (suc n)) [
    | inl r ↦ r
    | inr c ↦ absurd (omega (arith, c, count-le n (λ x. is_in x (past (suc n)))))
  ]

module _ (rows : List Row) where
  -- ---- a loop is not grounded

  first-step : (i k : ℕ) → Reaches rows i k → (j : ℕ) × (Names rows i j × ((j ≡ k) ⊎ Reaches rows j k))
  first-step i k (one k' n) = (k', (n, inl refl))
  first-step i k (more j k' r n) = let d = first-step i j r in (
    d.0,
    (
      d.1.0,
      inr (elim d.1.1 [
        | inl e ↦ one k' (subst (λ (z : ℕ). Names rows z k') (sym e) n)
        | inr q ↦ more j k' q n
      ]),
    ),
  )

  no_loop : (g : ℕ) → Grounded rows g → Reaches rows g g → ⊥
  no_loop g (grounded g' f) r =
      let d = first-step g' g' r in
      let n = d.1.0 in
      no_loop d.0 (f d.0 n.0 n.1) (elim d.1.1 [
        | inl e ↦ one d.0 (subst (λ (z : ℕ). Names rows z d.0) (sym e) n)
        | inr q ↦ more g' d.0 q n
      ])

  opened : (i : ℕ) → Grounded rows i → (j : ℕ) → Names rows i j → Grounded rows j
  opened i (grounded i' f) j n = f j n.0 n.1

  grounded-to : (i g : ℕ) → Grounded rows i → Reaches rows i g → Grounded rows g
  grounded-to i g G (one g' n) = opened i G g' n
  grounded-to i g G (more j g' r n) = opened j (grounded-to i j G r) g' n

  behind-not : (i : ℕ) → LoopBehind rows i → Grounded rows i → ⊥
  behind-not i (g, way, r) G = no_loop g (elim way [ inl e ↦ subst (Grounded rows) (sym e) G | inr q ↦ grounded-to i g G q ]) r

  -- ---- a gate that is never placed names another

  abbrev Stuck : ℕ → Type 0
  Stuck i = (is_gate (row_at rows i) ≡ true) × (is_in i (gate_order rows) ≡ false)

  on : (i : ℕ) → Stuck i → (j : ℕ) × (Names rows i j × Stuck j)
  on i s =
      let w : ℕ → Bool = λ j. not (is_gate (row_at rows j)) || is_in j (gate_order rows) in
      let h = order-done rows i (gate-inside rows i s.0) in
      let q : all_of w (fanin_nodes (row_at rows i)) ≡ false = rw (s.0, s.1) at h in
      let r = all-fails w (fanin_nodes (row_at rows i)) q in
      let t = both-fail (is_gate (row_at rows r.0)) (is_in r.0 (gate_order rows)) r.1.1 in
      (r.0, ((r.1.0, t.0), t))
    where
      both-fail : (a b : Bool) → not a || b ≡ false → (a ≡ true) × (b ≡ false)
      both-fail true b h = (refl, h)
      both-fail false b h = absurd (false≢true (sym h))

  module _ (i : ℕ) (s : Stuck i) where
    walk : ℕ → (j : ℕ) × Stuck j
    walk zero = (i, s)
    walk (suc k) = let p = walk k in let r = on p.0 p.1 in (r.0, r.1.1)

    abbrev at : ℕ → ℕ
    at k = (walk k).0

    start-at : at 0 ≡ i
    unfolding walk
    start-at = refl

    steps : (k : ℕ) → Names rows (at k) (at (suc k))
    unfolding walk
    steps k = (on (walk k).0 (walk k).1).1.0

    way : (a d : ℕ) → Reaches rows (at a) (at (suc (a + d)))
    way a zero = let e : a + 0 ≡ a = omega arith in one (at (suc (a + 0))) (subst (λ (z : ℕ). Names rows (at a) (at (suc z))) (sym e) (steps a))
    way a (suc d) = let e : a + suc d ≡ suc (a + d) = omega arith in more (at (suc (a + d))) (at (suc (a + suc d))) (way a d) (subst (λ (z : ℕ). Names rows (at (suc (a + d))) (at (suc z))) (sym e) (steps (suc (a + d))))

    way-to : (a b : ℕ) → a < b → Reaches rows (at a) (at b)
    way-to a b l = let e : suc (a + (b - suc a)) ≡ b = omega arith in subst (λ (z : ℕ). Reaches rows (at a) (at z)) e (way a (b - suc a))

    stuck-behind : LoopBehind rows i
    stuck-behind =
        let r = repeats (length rows) at (λ k. gate-inside rows (at k) (walk k).1.0) in
        let a = r.0 in
        (at a, from a, subst (Reaches rows (at a)) (sym r.2.1) (way-to a r.1 r.2.0))
      where
        from : (a : ℕ) → (at a ≡ i) ⊎ Reaches rows i (at a)
        from zero = inl start-at
        from (suc a) = inr (subst (λ (z : ℕ). Reaches rows z (at (suc a))) start-at (way-to 0 (suc a) (omega arith)))

pub never-grounded : (rows : List Row) → LoopMeans rows
never-grounded rows i g =
    (λ n. stuck-behind rows i (g, fails (is_in i (gate_order rows)) (λ e. n (in-grounded rows i e))), λ b G. behind-not rows i b G)
