-- All rows numbered: the sources, the gates round by round, the outputs.
-- Assumes nothing.
use Prim.Native.Nat.{ℕ, zero, suc, ◌+◌, ◌-◌, ◌<◌, ◌≤◌, ◌^◌}
use mathlib.Core.Path.{◌≡◌, refl, sym, ap, ◌∙◌, subst}
use mathlib.Core.Logic.{inl, inr}
use mathlib.Core.Bool.{Bool, true, false, cond, not, ◌&&◌, ◌||◌}
use mathlib.Core.List.{List, [], ◌∷◌, ◌++◌, append-nil, append_assoc}
use native.Mathlib.Omega.{arith}
use lib.ListN.{length, get_or, length-append}
use lib.Dec.{eqb, ltb}
use borrow.Author.Tests.{eqb-true, eq-eqb, ne_eqb, lt-ltb, not-true}
use Rattle.memory.specs.Lists.{first_from, Among}
use Rattle.memory.specs.Slots.{slot_at, set_slot}
use Rattle.memory.proofs.TestLaws.{and-true, fails}
use Rattle.memory.proofs.ListLaws.{first-is, first_found, first_cong}
use Rattle.memory.proofs.SlotLaws.{slot-other}
use Rattle.netlist.specs.Rows.{Row, row_at, is_output, fanin_nodes}
use Rattle.questions.specs.Questions.{no_refusal}
use Rattle.ordering.specs.GateOrder.{is_gate, is_source, operands_of, is_in, is_ready, rows_that, new_number, lowest_ready, placed_gates, gate_order, sorted_order, IsGateOrder}
use Rattle.ordering.specs.SortQuestions.{loop_refusal}
use Rattle.ordering.proofs.PlacingLaws.{in-of, in_is, among-at, at_of, placed-well, order_is}
use Rattle.ordering.proofs.OrderLaws.{among-append, below-is, source-no-gate, node-no-output}
use Rattle.ordering.proofs.LoopLaws.{passes-all}
use Rattle.ordering.proofs.InOrder.{order-length}
use Rattle.ordering.proofs.InOrder.{rounds-stay}
use Rattle.ready_gates.specs.ReadySlots.{ready_slot, first_ready, ReadyMarked, SlotsKept}
use Rattle.ready_gates.proofs.ReadyLaws.{marked-first, set_same}
use Rattle.gate_rows.specs.Sources.{source_rows, Source}
use Rattle.gate_rows.specs.declared.Layout.{Layout}
use Rattle.gate_rows.proofs.RowLaws.{row_inside, IsNode, operands-nodes}
use Rattle.gate_numbers.specs.Numbers.{placed_slot, Numbered, of_kinds, KindsFit, KindsNumbered, gate_of, Placed, NextGate, GatePlaced, node_order, NodesPlaced}
use Rattle.gate_numbers.proofs.NumberLaws.{number-left, number-right, below-le}
use Rattle.gate_numbers.proofs.WakingLaws.{all-cong}
use Rattle.gate_numbers.proofs.SourceLaws.{output-kinds, node-kinds, same_rows, sources, in_rows, gate-no-source}
use Rattle.gate_numbers.proofs.PlacementLaws.{in-append, ready-slot, Next, user-slot, next-placed}

-- ---- tests and lists

and_none : (t : Bool) → false ≡ t && false
and_none true = refl
and_none false = refl

no-element : (xs : List ℕ) → length xs ≡ 0 → xs ≡ []
no-element [] e = refl
no-element (x ∷ xs) e = absurd (omega arith)

-- ---- the last round

module _ (rows : List Row) where
  -- Later rounds add to the end.
  rounds-add : (k d : ℕ) → (rest : List ℕ) × (placed_gates rows (k + d) ≡ placed_gates rows k ++ rest)
  unfolding placed_gates
  rounds-add k zero = let z : k + 0 ≡ k = omega arith in ([], ap (placed_gates rows) z ∙ sym (append-nil (placed_gates rows k)))
  rounds-add k (suc d) =
      let z : k + suc d ≡ suc (k + d) = omega arith in
      rw z (go (ltb (lowest_ready rows (placed_gates rows (k + d))) (length rows)) (rounds-add k d))
    where
      go : (t : Bool) → (rest : List ℕ) × (placed_gates rows (k + d) ≡ placed_gates rows k ++ rest) → (rest : List ℕ) × (cond t (placed_gates rows (k + d) ++ (lowest_ready rows (placed_gates rows (k + d)) ∷ [])) (placed_gates rows (k + d)) ≡ placed_gates rows k ++ rest)
      go true r = (r.0 ++ (lowest_ready rows (placed_gates rows (k + d)) ∷ []), ap (λ (p : List ℕ). p ++ (lowest_ready rows (placed_gates rows (k + d)) ∷ [])) r.1 ∙ append_assoc (placed_gates rows k) r.0 _)
      go false r = r

  module _ (h : loop_refusal rows ≡ no_refusal) where
    all-ordered : IsGateOrder rows (gate_order rows)
    all-ordered = order_is rows (passes-all rows h)

    -- Sources, gates and outputs are all rows.
    all-counted : length (node_order rows) + length (rows_that rows is_output) ≡ length rows
    unfolding sorted_order
    all-counted = sym (length-append (node_order rows) (rows_that rows is_output)) ∙ order-length rows all-ordered

    -- As many rounds as there are rows left place all gates.
    full_is : (k : ℕ) → k ≤ length rows → length rows ≤ length (sources rows ++ placed_gates rows k) → gate_order rows ≡ placed_gates rows k
    unfolding gate_order
    full_is k l m =
        let r = rounds-add k (length rows - k) in
        let e : length rows ≡ k + (length rows - k) = omega arith in
        let q : gate_order rows ≡ placed_gates rows k ++ r.0 = ap (placed_gates rows) e ∙ r.1 in
        let c = all-counted in
        let z : length r.0 ≡ 0 = omega (arith, length-append (sources rows) (gate_order rows), length-append (sources rows) (placed_gates rows k), ap length q, length-append (placed_gates rows k) r.0) in
        q ∙ ap (λ (p : List ℕ). placed_gates rows k ++ p) (no-element r.0 z) ∙ append-nil (placed_gates rows k)

-- ---- the rounds so far

-- Gates have the numbers from `number` on and below `next`; no ready row is below `low`.
pub record Rounds (rows : List Row) (n number next low : ℕ) (w : List ℕ) : Type 0 where
  pub first : number ≡ length (rows_that rows is_source)
  pub from : number ≤ next
  pub upto : next ≤ n
  pub count : length (placed_gates rows (next - number)) ≡ next - number
  pub placed : Placed rows (rows_that rows is_source ++ placed_gates rows (next - number)) w
  pub marked : ReadyMarked n w low
  pub inside : low < n

-- A node is placed if it is no gate, or a gate that is.
node-in : (rows : List Row) (placed : List ℕ) (j : ℕ) → IsNode rows j → not (is_gate (row_at rows j)) || is_in j placed ≡ is_in j (sources rows ++ placed)
node-in rows placed j N = rw (in-append j (sources rows) placed, in_rows rows is_source j N.0, node-kinds (row_at rows j) N.1)

-- In a source of n rows.
module _ (layout : Layout) (f : List ℕ) (n : ℕ) (F : Source layout f n) where
  abbrev rows : List Row
  rows = source_rows layout f

  abbrev S : List ℕ
  S = sources rows

  -- ---- the order after some rounds

  abbrev after : ℕ → List ℕ
  after k = S ++ placed_gates rows k

  -- A gate is ready in the model exactly if its operands are in the order.
  ready-is : (placed : List ℕ) (i : ℕ) → i < length rows → is_ready rows placed i ≡ not (is_in i (S ++ placed)) && gate_of rows (λ j. is_in j (S ++ placed)) i
  ready-is placed i l = go (is_gate (row_at rows i)) refl
    where
      go : (t : Bool) → is_gate (row_at rows i) ≡ t → is_ready rows placed i ≡ not (is_in i (S ++ placed)) && gate_of rows (λ j. is_in j (S ++ placed)) i
      go true g =
          let e : is_in i (S ++ placed) ≡ is_in i placed = in-append i S placed ∙ rw (gate-no-source rows i l g) in
          rw (g, e) (ap (λ (t : Bool). not (is_in i placed) && t) (all-cong (λ j. not (is_gate (row_at rows j)) || is_in j placed) (λ j. is_in j (S ++ placed)) (fanin_nodes (row_at rows i)) (λ j a. node-in rows placed j (operands-nodes rows (row_at rows i) (F.rows.operands i l) j (rw g a)))))
      go false g = rw g (and_none (not (is_in i (S ++ placed))))

  -- The order has what its gates name.
  closed : (k i j : ℕ) → i < length rows → is_in i (after k) ≡ true → Among j (operands_of (row_at rows i)) → is_in j (after k) ≡ true
  closed k i j l e a = elim (among-append i S (placed_gates rows k) (in_is i (after k) e)) [
    | inl b ↦ absurd (elim (rw (fails (is_gate (row_at rows i)) (source-no-gate (row_at rows i) (below-is rows is_source (length rows) i b).1)) at a) [ ])
    | inr b ↦ sym (node-in rows (placed_gates rows k) j (operands-nodes rows (row_at rows i) (F.rows.operands i l) j a)) ∙ go (is_gate (row_at rows j)) refl (at_of i (placed_gates rows k) b)
  ]
    where
      go : (t : Bool) → is_gate (row_at rows j) ≡ t → (y : ℕ) × (y < length (placed_gates rows k)) × (get_or (placed_gates rows k) y 0 ≡ i) → not t || is_in j (placed_gates rows k) ≡ true
      go true g y =
          let W = placed-well rows k in
          let b : is_gate (row_at rows i) ≡ true = subst (λ (z : ℕ). is_gate (row_at rows z) ≡ true) y.2 (W.only y.0 y.1).1 in
          let r = W.after y.0 j y.1 (rw y.2 (rw b at a)) g in
          in-of j (placed_gates rows k) (subst (λ (z : ℕ). Among z (placed_gates rows k)) r.2 (among-at r.0 (placed_gates rows k) (omega (arith, r.1, y.1))))
      go false g y = refl

  -- ---- one round

  first-same : (w w' : List ℕ) → SlotsKept n w w' → first_ready n w' ≡ first_ready n w
  first-same w w' K = first_cong 0 (n - 0) (λ j. eqb (slot_at w' j) ready_slot) (λ j. eqb (slot_at w j) ready_slot) (λ j l. ap (λ (x : ℕ). eqb x ready_slot) (K.slots j (omega arith)))

  first-is-gate : (w : List ℕ) (r : ℕ) → NextGate rows n w r → first_ready n w ≡ r
  first-is-gate w r N =
      first_found 0 (n - 0) (λ j. eqb (slot_at w j) ready_slot) r (omega arith) (omega (arith, N.inside))
      (λ j _ l. ne_eqb (slot_at w j) ready_slot (λ e. omega (arith, N.lowest.above j (omega (arith, N.inside)) e))) (eq-eqb (slot_at w r) ready_slot N.ready)

  module _ (k : ℕ) (w : List ℕ) (P : Placed rows (after k) w) where
    lowest-is : first_ready n w ≡ lowest_ready rows (placed_gates rows k)
    unfolding lowest_ready
    lowest-is =
        let e : n - 0 ≡ length rows = omega (arith, F.count) in
        ap (λ (x : ℕ). first_from 0 x (λ j. eqb (slot_at w j) ready_slot)) e
        ∙ first_cong 0 (length rows) (λ j. eqb (slot_at w j) ready_slot) (is_ready rows (placed_gates rows k)) (λ j l. let m : j < length rows = omega arith in ready-slot rows (after k) w P j m ∙ sym (ready-is (placed_gates rows k) j m))

    -- The lowest ready row is placed next.
    module _ (r : ℕ) (q : r ≡ first_ready n w) (d : r ≡ n → ⊥) where
      inside : r < n
      inside = omega (arith, (first-is 0 (n - 0) (λ j. eqb (slot_at w j) ready_slot)).upto, d)

      is-ready : slot_at w r ≡ ready_slot
      is-ready = eqb-true (slot_at w r) ready_slot (subst (λ (z : ℕ). eqb (slot_at w z) ready_slot ≡ true) (sym q) ((first-is 0 (n - 0) (λ j. eqb (slot_at w j) ready_slot)).holds (omega (arith, inside, q))))

      is-next : Next rows (after k) r
      is-next =
          let l : r < length rows = row_inside layout f n F r inside in
          let p = and-true (not (is_in r (after k))) _ (sym (ready-slot rows (after k) w P r l) ∙ eq-eqb (slot_at w r) ready_slot is-ready) in
          record { unordered = F.rows.operands; inside = l; unplaced = not-true (is_in r (after k)) p.0; ready = p.1; closed = closed k }

      after_next : after (suc k) ≡ after k ++ (r ∷ [])
      unfolding placed_gates
      after_next = rw (← lowest-is, ← q, lt-ltb r (length rows) (row_inside layout f n F r inside)) (sym (append_assoc S (placed_gates rows k) (r ∷ [])))

  -- ---- all rounds

  pub rounds-none : (number : ℕ) (w : List ℕ) → number ≡ length S → Placed rows S w → ReadyMarked n w 0 → Rounds rows n number number 0 w
  unfolding placed_gates
  rounds-none number w e P M =
      let z : number - number ≡ 0 = omega arith in
      record {
        first = e;
        from = omega arith;
        upto = omega (arith, below-le rows is_source (length rows), F.count);
        count = rw z (omega arith);
        placed = rw (z, append-nil S) P;
        marked = M;
        inside = omega (arith, F.rows.has-output.4, F.count);
      }

  module _ (number next low : ℕ) (w : List ℕ) (R : Rounds rows n number next low w) where
    abbrev k : ℕ
    k = next - number

    long : next ≡ length (after k)
    long = omega (arith, R.first, R.from, R.count, length-append S (placed_gates rows k))

    -- All gates are placed.
    module _ (g : gate_order rows ≡ placed_gates rows k) where
      done-count : next ≡ length (node_order rows)
      done-count = long ∙ ap (λ (p : List ℕ). length (S ++ p)) (sym g)

      done-placed : Placed rows (node_order rows) w
      done-placed = subst (λ (p : List ℕ). Placed rows (S ++ p) w) (sym g) R.placed

    module _ (m : n ≤ next) (h : loop_refusal rows ≡ no_refusal) where
      full : gate_order rows ≡ placed_gates rows k
      full = full_is rows h k (omega (arith, R.upto, F.count)) (omega (arith, long, F.count))

      pub full-count : next ≡ length (node_order rows)
      full-count = done-count full

      pub full-placed : Placed rows (node_order rows) w
      full-placed = done-placed full

    -- The lowest ready row is r.
    module _ (r : ℕ) (q : r ≡ first_ready n w) where
      module _ (z : r ≡ n) where
        none : gate_order rows ≡ placed_gates rows k
        unfolding gate_order
        none =
            let u : length rows ≡ k + (length rows - k) = omega (arith, R.upto, F.count) in
            ap (placed_gates rows) u ∙ rounds-stay rows k (length rows - k) (sym (lowest-is k w R.placed) ∙ sym q ∙ z ∙ F.count)

        pub none-count : next ≡ length (node_order rows)
        none-count = done-count none

        pub none-placed : (w' : List ℕ) → SlotsKept n w w' → Placed rows (node_order rows) w'
        none-placed w' K = record { slots = λ i l. K.slots i (omega (arith, F.count)) ∙ (done-placed none).slots i l }

      pub round-gate : (r ≡ n → ⊥) → (w' : List ℕ) → SlotsKept n w w' → ReadyMarked n w' low → NextGate rows n w' r
      round-gate d w' K M = record {
        inside = inside k w R.placed r q d;
        lowest = marked-first n w' low M r (first-same w w' K ∙ sym q);
        ready = K.slots r (inside k w R.placed r q d) ∙ is-ready k w R.placed r q d;
        users = λ i l u. K.slots i (omega (arith, F.count)) ∙ user-slot rows (after k) r (is-next k w R.placed r q d) w R.placed i l u;
      }

    pub round-fits : next < n → placed_slot + next < 2 ^ 16
    round-fits h = omega (arith, F.few)

    -- A gate is placed.
    pub round-next : (r low' next' : ℕ) (w₁ w₂ : List ℕ) → GatePlaced rows n w₁ r next w₂ → SlotsKept n w w₁ → next < n → ReadyMarked n w₂ low' → low' ≤ r → next' ≡ next + 1 → Rounds rows n number next' low' w₂
    round-next r low' next' w₁ w₂ G K h M b e =
        let N = G.gate in
        let q : r ≡ first_ready n w = sym (first-is-gate w₁ r N) ∙ first-same w w₁ K in
        let d : r ≡ n → ⊥ = λ z. omega (arith, z, N.inside) in
        let z : next' - number ≡ suc k = omega (arith, R.from) in
        let a = after_next k w R.placed r q d in
        let here-is : slot_at (set_slot w₁ r (placed_slot + next)) r ≡ placed_slot + length (after k) = set_same n w₁ r r (placed_slot + next) N.lowest N.inside (round-fits h) ∙ ap (λ (x : ℕ). placed_slot + x) long in
        let others : (i : ℕ) → i < length rows → (i ≡ r → ⊥) → slot_at (set_slot w₁ r (placed_slot + next)) i ≡ slot_at w i = λ i l d. slot-other w₁ r (placed_slot + next) i d ∙ K.slots i (omega (arith, F.count)) in
        record {
          first = R.first;
          from = omega (arith, R.from);
          upto = omega arith;
          count = rw z (omega (arith, R.first, R.from, long, ap length a, length-append S (placed_gates rows (suc k)), length-append (after k) (r ∷ [])));
          placed = rw z (subst (λ (o : List ℕ). Placed rows o w₂) (sym a) (next-placed rows (after k) r (is-next k w R.placed r q d) w (set_slot w₁ r (placed_slot + next)) R.placed here-is others w₂ G.woken));
          marked = M;
          inside = omega (arith, N.inside);
        }

  pub nodes-fit : (w : List ℕ) (nodes : ℕ) → NodesPlaced rows w nodes → KindsFit rows 6 6 nodes n
  nodes-fit w nodes D = record { upto = omega (arith, D.count, all-counted rows D.passed, F.count, ap length (same_rows rows (of_kinds 6 6) is_output output-kinds)) }

-- ---- the outputs numbered

module _ (rows : List Row) (w : List ℕ) (nodes : ℕ) (D : NodesPlaced rows w nodes) where
  node-ordered : (i : ℕ) → i < length rows → is_output (row_at rows i) ≡ false → is_in i (node_order rows) ≡ true
  node-ordered i l o = sym (node-in rows (gate_order rows) i (l, o)) ∙ go (is_gate (row_at rows i)) refl
    where
      go : (t : Bool) → is_gate (row_at rows i) ≡ t → not t || is_in i (gate_order rows) ≡ true
      go true g = passes-all rows D.passed i l g
      go false g = refl

  output-unordered : (i : ℕ) → i < length rows → is_output (row_at rows i) ≡ true → is_in i (node_order rows) ≡ false
  output-unordered i l o = fails (is_in i (node_order rows)) (λ t. node-no-output (row_at rows i) (elim (among-append i (sources rows) (gate_order rows) (in_is i (node_order rows) t)) [
    | inl a ↦ inl (below-is rows is_source (length rows) i a).1
    | inr a ↦ inr (let r = at_of i (gate_order rows) a in subst (λ (z : ℕ). is_gate (row_at rows z) ≡ true) r.2 ((all-ordered rows D.passed).only r.0 r.1).1)
  ]) o)

  module _ (w' : List ℕ) (K : KindsNumbered rows 6 6 nodes w w') where
    abbrev Z : List ℕ
    Z = rows_that rows is_output

    slot-numbered : (i : ℕ) → i < length rows → slot_at w' i ≡ placed_slot + new_number (sorted_order rows) i
    unfolding sorted_order
    slot-numbered i l = K.slots i l ∙ rw (output-kinds (row_at rows i), same_rows rows (of_kinds 6 6) is_output output-kinds) (go (is_output (row_at rows i)) refl)
      where
        go : (t : Bool) → is_output (row_at rows i) ≡ t → cond t (placed_slot + (nodes + new_number Z i)) (slot_at w i) ≡ placed_slot + new_number (node_order rows ++ Z) i
        go true o = omega (arith, number-right (node_order rows) Z i (output-unordered i l o), D.count)
        go false o = D.placed.slots i l ∙ rw (node-ordered i l o) (ap (λ (x : ℕ). placed_slot + x) (sym (number-left (node_order rows) Z i (node-ordered i l o))))

    pub all-numbered : Numbered rows w'
    all-numbered = record { slots = slot-numbered }
