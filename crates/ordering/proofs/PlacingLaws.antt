-- Which gates are placed, and when: exactly those that are grounded, always the lowest one that can be; and an order exists exactly if all are.
-- Assumes nothing.
use Prim.Native.Nat.{ℕ, zero, suc, ◌+◌, ◌<◌, ◌≤◌}
use mathlib.Core.Path.{◌≡◌, refl, sym, ap, ◌∙◌, subst}
use mathlib.Core.Logic.{◌↔◌, ◌⊎◌, inl, inr}
use mathlib.Core.Bool.{Bool, true, false, cond, not, ◌&&◌, ◌||◌, false≢true}
use mathlib.Core.List.{List, [], ◌∷◌, ◌++◌}
use native.Mathlib.Omega.{arith}
use native.Mathlib.Decide.{dec_lt}
use lib.ListN.{length, get_or, length-append, get_or-append, get_or-eq_default}
use lib.Seq.{get_or_at}
use lib.Dec.{eqb, ltb}
use borrow.Author.Tests.{eqb-true, eq-eqb, ltb-true, ltb-false, not-true}
use Rattle.memory.proofs.TestLaws.{or_case, and-true, not-both, fails, passes, last_or}
use Rattle.memory.proofs.ListLaws.{first-is}
use Rattle.memory.specs.Lists.{all_of, Among, here, there}
use Rattle.netlist.specs.Rows.{Row, constant, row_at, fanin_nodes}
use Rattle.ordering.specs.GateOrder.{is_gate, is_in, is_ready, lowest_ready, placed_gates, gate_order, Grounded, grounded, StandsBefore, IsGateOrder, Lowest}

-- ---- lists

among_none : (i : ℕ) → Among i [] → ⊥
among_none i a = elim a [ ]

or_right : (a b : Bool) → b ≡ true → a || b ≡ true
or_right true b h = refl
or_right false b h = h

pub in-of : (i : ℕ) (js : List ℕ) → Among i js → is_in i js ≡ true
in-of i [] x' = elim x' [ ]
in-of i (j ∷ js) here = rw (eq-eqb i i refl)
in-of i (j ∷ js) (there a) = or_right (eqb i j) (is_in i js) (in-of i js a)

pub in_is : (i : ℕ) (js : List ℕ) → is_in i js ≡ true → Among i js
in_is i [] h = absurd (false≢true h)
in_is i (j ∷ js) h = or_case (eqb i j) (is_in i js) h (λ e. subst (λ (x : ℕ). Among i (x ∷ js)) (eqb-true i j e) here) (λ e. there (in_is i js e))

pub among-left : (i : ℕ) (xs ys : List ℕ) → Among i xs → Among i (xs ++ ys)
among-left i [] ys x' = elim x' [ ]
among-left i (x ∷ xs) ys here = here
among-left i (x ∷ xs) ys (there a) = there (among-left i xs ys a)

pub among-last : (i j : ℕ) (xs : List ℕ) → Among i (xs ++ (j ∷ [])) → Among i xs ⊎ (i ≡ j)
among-last i j [] here = inr refl
among-last i j [] (there a) = absurd (among_none i a)
among-last i j (x ∷ xs) here = inl here
among-last i j (x ∷ xs) (there a) = elim (among-last i j xs a) [ inl b ↦ inl (there b) | inr e ↦ inr e ]

pub all-at : (f : ℕ → Bool) (js : List ℕ) → all_of f js ≡ true → (j : ℕ) → Among j js → f j ≡ true
all-at f [] h i x'' = elim x'' [ ]
all-at f (j ∷ js) h i here = (and-true (f j) (all_of f js) h).0
all-at f (j ∷ js) h i (there a) = all-at f js (and-true (f j) (all_of f js) h).1 i a

pub all-of : (f : ℕ → Bool) (js : List ℕ) → ((j : ℕ) → Among j js → f j ≡ true) → all_of f js ≡ true
all-of f [] h = refl
all-of f (j ∷ js) h = rw (h j here, all-of f js (λ i a. h i (there a)))

pub among-end : (i : ℕ) (xs : List ℕ) → Among i (xs ++ (i ∷ []))
among-end i [] = here
among-end i (x ∷ xs) = there (among-end i xs)

pub among-at : (x : ℕ) (js : List ℕ) → x < length js → Among (get_or js x 0) js
among-at x [] h = absurd (omega arith)
among-at zero (j ∷ js) h = here
among-at (suc x) (j ∷ js) h = there (among-at x js (omega arith))

pub at_of : (i : ℕ) (js : List ℕ) → Among i js → (x : ℕ) × (x < length js) × (get_or js x 0 ≡ i)
at_of i [] x' = elim x' [ ]
at_of i (j ∷ js) here = (0, omega arith, refl)
at_of i (j ∷ js) (there a) = let r = at_of i js a in (suc r.0, omega (arith, r.1), r.2)

-- ---- how many numbers below n pass a test

unfoldable pub count_below : ℕ → (ℕ → Bool) → ℕ
count_below zero f = zero
count_below (suc n) f = count_below n f + cond (f n) 1 0

abbrev one : Bool → ℕ
one t = cond t 1 0

one-or-none : (t : Bool) → cond t 1 0 ≤ 1
one-or-none true = omega arith
one-or-none false = omega arith

pub count-le : (n : ℕ) (f : ℕ → Bool) → count_below n f ≤ n
unfolding count_below
count-le zero f = omega arith
count-le (suc n) f = omega (arith, count-le n f, one-or-none (f n))

one-mono : (s t : Bool) → (s ≡ true → t ≡ true) → cond s 1 0 ≤ cond t 1 0
one-mono true t h = rw (h refl) (omega arith)
one-mono false true h = omega arith
one-mono false false h = omega arith

count-mono : (n : ℕ) (f g : ℕ → Bool) → ((j : ℕ) → j < n → f j ≡ true → g j ≡ true) → count_below n f ≤ count_below n g
unfolding count_below
count-mono zero f g h = omega arith
count-mono (suc n) f g h = omega (arith, count-mono n f g (λ j l. h j (omega arith)), one-mono (f n) (g n) (h n (omega arith)))

pub count_less : (n : ℕ) (f g : ℕ → Bool) → ((j : ℕ) → j < n → f j ≡ true → g j ≡ true) → (i : ℕ) → i < n → f i ≡ false → g i ≡ true → count_below n f < count_below n g
unfolding count_below
count_less zero f g h i l a b = absurd (omega arith)
count_less (suc n) f g h i l a b =
    last_or i n l
    (λ k. omega (arith, count_less n f g (λ j m. h j (omega arith)) i k a b, one-mono (f n) (g n) (h n (omega arith))))
    (λ e. let x : f n ≡ false = rw (sym e) a in let y : g n ≡ true = rw (sym e) b in omega (arith, count-mono n f g (λ j m. h j (omega arith)), ap one x, ap one y))

count-some : (n : ℕ) (f : ℕ → Bool) (i : ℕ) → i < n → f i ≡ true → 0 < count_below n f
count-some n f i l e = omega (arith, count_less n (λ j. false) f (λ j _ h. absurd (false≢true h)) i l refl e)

module _ (rows : List Row) where
  -- ---- a gate that is ready

  pub record ReadyWords (placed : List ℕ) (i : ℕ) : Type 0 where
    pub gate : is_gate (row_at rows i) ≡ true
    pub unplaced : is_in i placed ≡ false
    pub settled : (j : ℕ) → Among j (fanin_nodes (row_at rows i)) → is_gate (row_at rows j) ≡ true → Among j placed

  waits : List ℕ → ℕ → Bool
  waits placed j = not (is_gate (row_at rows j)) || is_in j placed

  pub ready-iff : (placed : List ℕ) (i : ℕ) → (is_ready rows placed i ≡ true) ↔ ReadyWords placed i
  unfolding waits
  ready-iff placed i = (words, tested)
    where
      words : is_ready rows placed i ≡ true → ReadyWords placed i
      words h =
          let p = and-true (is_gate (row_at rows i) && not (is_in i placed)) _ h in
          let q = and-true (is_gate (row_at rows i)) _ p.0 in
          record {
            gate = q.0;
            unplaced = not-true (is_in i placed) q.1;
            settled = λ j a g. or_case (not (is_gate (row_at rows j))) (is_in j placed) (all-at (waits placed) (fanin_nodes (row_at rows i)) p.1 j a) (λ n. absurd (not-both (is_gate (row_at rows j)) n g)) (in_is j placed);
          }

      settled : ReadyWords placed i → (j : ℕ) → Among j (fanin_nodes (row_at rows i)) → waits placed j ≡ true
      settled R j a = go (is_gate (row_at rows j)) refl
        where
          go : (t : Bool) → is_gate (row_at rows j) ≡ t → not t || is_in j placed ≡ true
          go true e = in-of j placed (R.settled j a e)
          go false e = refl

      tested : ReadyWords placed i → is_ready rows placed i ≡ true
      tested R = rw (R.gate, R.unplaced, all-of (waits placed) (fanin_nodes (row_at rows i)) (settled R))

  -- ---- the lowest gate that is ready

  -- No gate below it is ready.
  pub lowest-least : (placed : List ℕ) (i : ℕ) → i < lowest_ready rows placed → is_ready rows placed i ≡ false
  unfolding lowest_ready
  lowest-least placed i h = (first-is 0 (length rows) (is_ready rows placed)).before i (omega arith) h

  pub lowest-ready : (placed : List ℕ) → lowest_ready rows placed < length rows → ReadyWords placed (lowest_ready rows placed)
  unfolding lowest_ready
  lowest-ready placed h = (ready-iff placed _).0 ((first-is 0 (length rows) (is_ready rows placed)).holds (omega arith))

  pub none-ready : (placed : List ℕ) → length rows ≤ lowest_ready rows placed → (i : ℕ) → i < length rows → is_ready rows placed i ≡ false
  none-ready placed h i l = lowest-least placed i (omega arith)

  -- ---- what is placed stands in an order, and was the lowest that could be placed

  pub record PlacedWell (p : List ℕ) : Type 0 where
    pub only : (x : ℕ) → x < length p → (get_or p x 0 < length rows) × (is_gate (row_at rows (get_or p x 0)) ≡ true)
    pub once : (x y : ℕ) → x < length p → y < length p → get_or p x 0 ≡ get_or p y 0 → x ≡ y
    pub after : (y j : ℕ) → y < length p → Among j (fanin_nodes (row_at rows (get_or p y 0))) → is_gate (row_at rows j) ≡ true → StandsBefore p y j

  -- Gate m is placed after those in p.
  module _ (p : List ℕ) (m : ℕ) where
    abbrev more : List ℕ
    more = p ++ (m ∷ [])

    size : length more ≡ suc (length p)
    size = omega (arith, length-append p (m ∷ []))

    old : (x : ℕ) → x < length p → get_or more x 0 ≡ get_or p x 0
    old x h = get_or-append p (m ∷ []) 0 x h

    new : get_or more (length p) 0 ≡ m
    new = get_or_at p m [] 0 (length p) refl

    well-more : m < length rows → ReadyWords p m → PlacedWell p → PlacedWell more
    well-more l R W = record { only = only; once = once; after = after }
      where
        unseen : (x : ℕ) → x < length p → get_or p x 0 ≡ m → ⊥
        unseen x h e = false≢true (sym R.unplaced ∙ in-of m p (subst (λ (z : ℕ). Among z p) e (among-at x p h)))

        only : (x : ℕ) → x < length more → (get_or more x 0 < length rows) × (is_gate (row_at rows (get_or more x 0)) ≡ true)
        only x h = last_or x (length p) (omega (arith, size)) (λ k. rw (old x k) (W.only x k)) (λ e. rw (e, new) (l, R.gate))

        once : (x y : ℕ) → x < length more → y < length more → get_or more x 0 ≡ get_or more y 0 → x ≡ y
        once x y h k e =
            last_or x (length p) (omega (arith, size))
            (λ a. last_or y (length p) (omega (arith, size))
            (λ b. W.once x y a b (sym (old x a) ∙ e ∙ old y b))
            (λ b. absurd (unseen x a (sym (old x a) ∙ e ∙ ap (λ (z : ℕ). get_or more z 0) b ∙ new))))
            (λ a. last_or y (length p) (omega (arith, size))
            (λ b. absurd (unseen y b (sym (old y b) ∙ sym e ∙ ap (λ (z : ℕ). get_or more z 0) a ∙ new)))
            (λ b. a ∙ sym b))

        after : (y j : ℕ) → y < length more → Among j (fanin_nodes (row_at rows (get_or more y 0))) → is_gate (row_at rows j) ≡ true → StandsBefore more y j
        after y j h a g =
            last_or y (length p) (omega (arith, size))
            (λ k.
            let r = W.after y j k (rw (old y k) at a) g in
            (r.0, r.1, old r.0 (omega (arith, r.1)) ∙ r.2))
            (λ e.
            let r = at_of j p (R.settled j (rw (e, new) at a) g) in
            (r.0, omega (arith, r.1, e), old r.0 r.1 ∙ r.2))

    low-more : ((i : ℕ) → i < m → is_ready rows p i ≡ false) → Lowest rows p → Lowest rows more
    low-more least W y i h g unplaced settled = last_or y (length p) (omega (arith, size)) before last
      where
        before : y < length p → get_or more y 0 ≤ i
        before k = rw (old y k) (W y i k g (λ s. unplaced (s.0, s.1, old s.0 (omega (arith, s.1)) ∙ s.2)) (λ j a d. let r = settled j a d in (r.0, r.1, sym (old r.0 (omega (arith, r.1))) ∙ r.2)))

        ready : y ≡ length p → is_ready rows p i ≡ true
        ready e = (ready-iff p i).1 (record {
          gate = g;
          unplaced = fails (is_in i p) (λ k. let r = at_of i p (in_is i p k) in unplaced (r.0, omega (arith, r.1, e), old r.0 r.1 ∙ r.2));
          settled = λ j a d. let r = settled j a d in subst (λ (z : ℕ). Among z p) (sym (old r.0 (omega (arith, r.1, e))) ∙ r.2) (among-at r.0 p (omega (arith, r.1, e)));
        })

        last : y ≡ length p → get_or more y 0 ≤ i
        last e = rw (e, new) (elim (dec_lt i m) [
          | yes b ↦ absurd (false≢true (sym (least i b) ∙ ready e))
          | no b ↦ omega arith
        ])

  pub placed-well : (k : ℕ) → PlacedWell (placed_gates rows k)
  unfolding placed_gates
  placed-well zero = record { only = λ x h. absurd (omega arith); once = λ x y h k e. absurd (omega arith); after = λ y j h a g. absurd (omega arith) }
  placed-well (suc k) = go (ltb (lowest_ready rows p) (length rows)) refl (placed-well k)
    where
      p : List ℕ
      p = placed_gates rows k

      go : (t : Bool) → ltb (lowest_ready rows p) (length rows) ≡ t → PlacedWell p → PlacedWell (cond t (p ++ (lowest_ready rows p ∷ [])) p)
      go false e W = W
      go true e W = let l = ltb-true _ _ e in well-more p (lowest_ready rows p) l (lowest-ready p l) W

  placed-low : (k : ℕ) → Lowest rows (placed_gates rows k)
  unfolding placed_gates
  placed-low zero = λ y i h g n s. absurd (omega arith)
  placed-low (suc k) = go (ltb (lowest_ready rows p) (length rows)) (placed-low k)
    where
      p : List ℕ
      p = placed_gates rows k

      go : (t : Bool) → Lowest rows p → Lowest rows (cond t (p ++ (lowest_ready rows p ∷ [])) p)
      go false W = W
      go true W = low-more p (lowest_ready rows p) (lowest-least p) W

  -- ---- the placed gates are grounded

  pub placed-grounded : (k i : ℕ) → Among i (placed_gates rows k) → Grounded rows i
  unfolding placed_gates
  placed-grounded zero i a = absurd (among_none i a)
  placed-grounded (suc k) i a = go (ltb (lowest_ready rows p) (length rows)) refl a (placed-grounded k)
    where
      p : List ℕ
      p = placed_gates rows k

      go : (t : Bool) → ltb (lowest_ready rows p) (length rows) ≡ t → Among i (cond t (p ++ (lowest_ready rows p ∷ [])) p) → ((j : ℕ) → Among j p → Grounded rows j) → Grounded rows i
      go false e b ih = ih i b
      go true e b ih = elim (among-last i (lowest_ready rows p) p b) [
        | inl c ↦ ih i c
        | inr q ↦ subst (Grounded rows) (sym q) (grounded (lowest_ready rows p) (λ j c g. ih j ((lowest-ready p (ltb-true _ _ e)).settled j c g)))
      ]

  -- ---- the grounded gates are placed, once no gate is ready

  pub grounded-placed : (placed : List ℕ) → ((i : ℕ) → i < length rows → is_ready rows placed i ≡ false) → ((j : ℕ) → is_gate (row_at rows j) ≡ true → j < length rows) → (i : ℕ) → Grounded rows i → is_gate (row_at rows i) ≡ true → Among i placed
  grounded-placed placed none inside i (grounded i' f) g =
      in_is i' placed (passes (is_in i' placed) (λ n.
      false≢true (sym (none i' (inside i' g)) ∙ (ready-iff placed i').1 (record { gate = g; unplaced = n; settled = λ j a h. grounded-placed placed none inside j (f j a h) h }))))

  -- ---- after as many rounds as there are rows none is ready

  left : List ℕ → ℕ → Bool
  left placed i = is_gate (row_at rows i) && not (is_in i placed)

  left-yes : (placed : List ℕ) (i : ℕ) → is_gate (row_at rows i) ≡ true → is_in i placed ≡ false → left placed i ≡ true
  unfolding left
  left-yes placed i g n = rw (g, n)

  left_less : (placed : List ℕ) (i j : ℕ) → left (placed ++ (i ∷ [])) j ≡ true → left placed j ≡ true
  unfolding left
  left_less placed i j h =
      let p = and-true (is_gate (row_at rows j)) _ h in
      rw (p.0, fails (is_in j placed) (λ e. not-both (is_in j (placed ++ (i ∷ []))) p.1 (in-of j (placed ++ (i ∷ [])) (among-left j placed (i ∷ []) (in_is j placed e)))))

  left_not : (placed : List ℕ) (i : ℕ) → left (placed ++ (i ∷ [])) i ≡ false
  unfolding left
  left_not placed i = fails (left (placed ++ (i ∷ [])) i) (λ h. not-both (is_in i (placed ++ (i ∷ []))) (and-true (is_gate (row_at rows i)) _ h).1 (in-of i (placed ++ (i ∷ [])) (among-end i placed)))

  abbrev pub Done : List ℕ → Type 0
  Done placed = (i : ℕ) → i < length rows → is_ready rows placed i ≡ false

  -- After k rounds none is ready, or k gates are placed.
  rounds : (k : ℕ) → Done (placed_gates rows k) ⊎ (count_below (length rows) (left (placed_gates rows k)) + k ≤ length rows)
  unfolding placed_gates
  rounds zero = inr (omega (arith, count-le (length rows) (left [])))
  rounds (suc k) = go (ltb (lowest_ready rows p) (length rows)) refl (rounds k)
    where
      p : List ℕ
      p = placed_gates rows k

      go : (t : Bool) → ltb (lowest_ready rows p) (length rows) ≡ t → Done p ⊎ (count_below (length rows) (left p) + k ≤ length rows) → Done (cond t (p ++ (lowest_ready rows p ∷ [])) p) ⊎ (count_below (length rows) (left (cond t (p ++ (lowest_ready rows p ∷ [])) p)) + suc k ≤ length rows)
      go false e ih = inl (none-ready p (ltb-false _ _ e))
      go true e ih =
          let l = ltb-true _ _ e in
          let R = lowest-ready p l in
          elim ih [
            | inl d ↦ absurd (false≢true (sym (d _ l) ∙ (ready-iff p _).1 R))
            | inr b ↦ inr (let c = count_less (length rows) (left (p ++ (lowest_ready rows p ∷ []))) (left p) (λ j _ h. left_less p _ j h) (lowest_ready rows p) l (left_not p _) (left-yes p _ R.gate R.unplaced) in omega arith)
          ]

  pub order-done : Done (gate_order rows)
  unfolding gate_order
  order-done = elim (rounds (length rows)) [
    | inl d ↦ d
    | inr b ↦ (λ i l. fails (is_ready rows (placed_gates rows (length rows)) i) (λ h.
        let R = (ready-iff (placed_gates rows (length rows)) i).0 h in
        let c = count-some (length rows) (left (placed_gates rows (length rows))) i l (left-yes (placed_gates rows (length rows)) i R.gate R.unplaced) in
        absurd (omega arith)))
  ]

  -- ---- the order, and which gates are in it

  pub order-low : Lowest rows (gate_order rows)
  unfolding gate_order
  order-low = placed-low (length rows)

  pub gate-inside : (j : ℕ) → is_gate (row_at rows j) ≡ true → j < length rows
  gate-inside j g = elim (dec_lt j (length rows)) [
    | yes l ↦ l
    | no l ↦ absurd (false≢true (sym (ap is_gate (get_or-eq_default rows constant {n = j} (omega arith))) ∙ g))
  ]

  pub grounded-in : (i : ℕ) → is_gate (row_at rows i) ≡ true → Grounded rows i → is_in i (gate_order rows) ≡ true
  grounded-in i g G = in-of i (gate_order rows) (grounded-placed (gate_order rows) order-done gate-inside i G g)

  pub in-grounded : (i : ℕ) → is_in i (gate_order rows) ≡ true → Grounded rows i
  unfolding gate_order
  in-grounded i e = placed-grounded (length rows) i (in_is i (placed_gates rows (length rows)) e)

  -- In an order every gate is grounded.
  order-to : (o : List ℕ) → IsGateOrder rows o → (m y : ℕ) → y < m → y < length o → Grounded rows (get_or o y 0)
  order-to o O zero y h l = absurd (omega arith)
  order-to o O (suc m) y h l = grounded (get_or o y 0) (λ j a g.
      let r = O.after y j l a g in
      subst (Grounded rows) r.2 (order-to o O m r.0 (omega (arith, r.1)) (omega (arith, r.1))))

  pub order-grounded : (o : List ℕ) → IsGateOrder rows o → (i : ℕ) → is_gate (row_at rows i) ≡ true → Grounded rows i
  order-grounded o O i g =
      let r = at_of i o (O.every i (gate-inside i g) g) in
      subst (Grounded rows) r.2 (order-to o O (suc r.0) r.0 (omega arith) r.1)

  pub order_is : ((i : ℕ) → i < length rows → is_gate (row_at rows i) ≡ true → is_in i (gate_order rows) ≡ true) → IsGateOrder rows (gate_order rows)
  unfolding gate_order
  order_is h =
      let W = placed-well (length rows) in
      record { only = W.only; every = λ i l g. in_is i (placed_gates rows (length rows)) (h i l g); once = W.once; after = W.after }
