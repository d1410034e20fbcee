-- Question 22 in plain words: it is passed exactly if an order exists; its place is the lowest gate that is not grounded, one in a loop of gates or behind one.
-- Assumes nothing.
use Prim.Native.Nat.{ℕ, ◌<◌}
use mathlib.Core.Path.{◌≡◌, refl, sym, ap, ◌∙◌}
use mathlib.Core.Bool.{Bool, true, false, cond, not, ◌&&◌, false≢true}
use mathlib.Core.List.{List, [], ◌∷◌}
use native.Mathlib.Omega.{arith}
use native.Mathlib.Decide.{dec_lt}
use lib.ListN.{length}
use lib.Dec.{ltb}
use borrow.Author.Tests.{ltb-true, ltb-false, lt-ltb, le-ltb}
use Rattle.memory.specs.Lists.{first_from}
use Rattle.memory.proofs.TestLaws.{fails}
use Rattle.memory.proofs.ListLaws.{first-is, first_found}
use Rattle.netlist.specs.Rows.{Row, row_at}
use Rattle.questions.specs.Questions.{Refusal, no_refusal, first_refusal}
use Rattle.questions.proofs.QuestionLaws.{list-next, list-stop, number-none, items-none, items-yes}
use Rattle.ordering.specs.GateOrder.{is_gate, is_in, gate_order, Grounded}
use Rattle.ordering.specs.SortQuestions.{loop_question, loop_refusal}
use Rattle.ordering.specs.SortGuarantee.{LoopWords}
use Rattle.ordering.proofs.PlacingLaws.{grounded-in, in-grounded, order-grounded, order_is}
use Rattle.ordering.proofs.LoopMeaning.{never-grounded}

module _ (rows : List Row) where
  -- Row i is asked and passes: it is no gate, or it is grounded.
  question-yes : (i : ℕ) → (is_gate (row_at rows i) ≡ true → is_in i (gate_order rows) ≡ true) → loop_question rows i ≡ 0
  question-yes i h = go (is_gate (row_at rows i)) (is_in i (gate_order rows)) h
    where
      go : (s t : Bool) → (s ≡ true → t ≡ true) → ◌≡◌ {A = ℕ} (cond (s && not t) 22 0) 0
      go true true k = refl
      go true false k = absurd (false≢true (k refl))
      go false t k = refl

  pub question-zero : (i : ℕ) → loop_question rows i ≡ 0 → is_gate (row_at rows i) ≡ true → is_in i (gate_order rows) ≡ true
  question-zero i h g = go (is_in i (gate_order rows)) (rw g at h)
    where
      go : (t : Bool) → ◌≡◌ {A = ℕ} (cond (true && not t) 22 0) 0 → t ≡ true
      go true k = refl
      go false k = absurd (omega (arith, k))

  -- It is asked and fails.
  question-no : (i : ℕ) → is_gate (row_at rows i) ≡ true → is_in i (gate_order rows) ≡ false → loop_question rows i ≡ 22
  question-no i g n = rw (g, n)

  pub question-fails : (i : ℕ) → 0 < loop_question rows i → (loop_question rows i ≡ 22) × ((is_gate (row_at rows i) ≡ true) × (is_in i (gate_order rows) ≡ false))
  question-fails i h = go (is_gate (row_at rows i)) (is_in i (gate_order rows)) h
    where
      go : (s t : Bool) → 0 < cond (s && not t) 22 0 → (◌≡◌ {A = ℕ} (cond (s && not t) 22 0) 22) × ((s ≡ true) × (t ≡ false))
      go true true k = absurd (omega arith)
      go true false k = (refl, (refl, refl))
      go false t k = absurd (omega arith)

  abbrev found : ℕ
  found = first_from 0 (length rows) (λ i. ltb 0 (loop_question rows i))

  -- A row that fails first decides.
  refused-at : (i : ℕ) → i < length rows → loop_question rows i ≡ 22 → ((j : ℕ) → j < i → loop_question rows j ≡ 0) → loop_refusal rows ≡ record { number = 22; place = i }
  unfolding loop_refusal
  refused-at i l e before =
      let q : found ≡ i = first_found 0 (length rows) (λ j. ltb 0 (loop_question rows j)) i (omega arith) (omega arith) (λ j _ b. le-ltb 0 (loop_question rows j) (omega (arith, before j b))) (lt-ltb 0 (loop_question rows i) (omega (arith, e))) in
      rw (q, lt-ltb i (length rows) l, e)

  pub passes-zero : (loop_refusal rows).number ≡ 0 → (i : ℕ) → i < length rows → is_gate (row_at rows i) ≡ true → is_in i (gate_order rows) ≡ true
  unfolding loop_refusal
  passes-zero h i l g = question-zero i (items-none (length rows) (loop_question rows) h i l) g

  pub passes-all : loop_refusal rows ≡ no_refusal → (i : ℕ) → i < length rows → is_gate (row_at rows i) ≡ true → is_in i (gate_order rows) ≡ true
  passes-all h = passes-zero (number-none (loop_refusal rows) h)

  pub all-passes : ((i : ℕ) → i < length rows → is_gate (row_at rows i) ≡ true → is_in i (gate_order rows) ≡ true) → loop_refusal rows ≡ no_refusal
  unfolding loop_refusal
  all-passes h = items-yes (length rows) (loop_question rows) (λ j l. question-yes j (h j l))

  -- What is refused: found is the first that fails.
  found-words : (loop_refusal rows).number ≡ 22 → (found < length rows) × (loop_refusal rows ≡ record { number = 22; place = found })
  unfolding loop_refusal
  found-words h = go (ltb found (length rows)) refl h
    where
      go : (t : Bool) → ltb found (length rows) ≡ t → (cond t (record { number = loop_question rows found; place = found }) no_refusal).number ≡ 22 → (found < length rows) × (cond (ltb found (length rows)) (record { number = loop_question rows found; place = found }) no_refusal ≡ record { number = 22; place = found })
      go true e k = (ltb-true found (length rows) e, rw (e, k))
      go false e k = absurd (omega (arith, k))

  number_is : (¬ (loop_refusal rows ≡ no_refusal)) → (loop_refusal rows).number ≡ 22
  unfolding loop_refusal
  number_is n = go (ltb found (length rows)) refl
    where
      go : (t : Bool) → ltb found (length rows) ≡ t → (cond t (record { number = loop_question rows found; place = found }) no_refusal).number ≡ 22
      go true e =
          let l = ltb-true found (length rows) e in
          (question-fails found (ltb-true 0 _ ((first-is 0 (length rows) (λ i. ltb 0 (loop_question rows i))).holds (omega arith)))).0
      go false e = absurd (n (rw e))

  place-to : (i : ℕ) → i < length rows → loop_refusal rows ≡ record { number = 22; place = i } → (is_gate (row_at rows i) ≡ true) × ((¬ Grounded rows i) × ((j : ℕ) → j < i → is_gate (row_at rows j) ≡ true → Grounded rows j))
  place-to i l e =
      let w = found-words (ap (λ (q : Refusal). q.number) e) in
      let p : found ≡ i = sym (ap (λ (q : Refusal). q.place) w.1) ∙ ap (λ (q : Refusal). q.place) e in
      let F = first-is 0 (length rows) (λ j. ltb 0 (loop_question rows j)) in
      let k = question-fails found (ltb-true 0 _ (F.holds (omega (arith, w.0)))) in
      let g : is_gate (row_at rows i) ≡ true = rw p at k.1.0 in
      let n : is_in i (gate_order rows) ≡ false = rw p at k.1.1 in
      (g, (λ G. false≢true (sym n ∙ grounded-in rows i g G), λ j b h. in-grounded rows j (question-zero j (let z = ltb-false 0 (loop_question rows j) (F.before j (omega arith) (omega (arith, p))) in omega (arith, z)) h)))

  place_of : (i : ℕ) → i < length rows → (is_gate (row_at rows i) ≡ true) × ((¬ Grounded rows i) × ((j : ℕ) → j < i → is_gate (row_at rows j) ≡ true → Grounded rows j)) → loop_refusal rows ≡ record { number = 22; place = i }
  place_of i l w = refused-at i l (question-no i w.0 (fails (is_in i (gate_order rows)) (λ e. w.1.0 (in-grounded rows i e)))) (λ j b. question-yes j (λ g. grounded-in rows j g (w.1.1 j b g)))

  pub loop-words : LoopWords rows
  loop-words = record {
    passed = (λ h. (gate_order rows, order_is rows (passes-all h)), λ o. all-passes (λ i l g. grounded-in rows i g (order-grounded rows o.0 o.1 i g)));
    number = number_is;
    place = λ i l. (place-to i l, place_of i l);
    means = never-grounded rows;
  }

-- 22 asked last: with number 0 it has place 0.
pub loop-last : (rows : List Row) → first_refusal (loop_refusal rows ∷ []) ≡ loop_refusal rows
loop-last rows = elim (dec_lt 0 (loop_refusal rows).number) [
  | yes l ↦ list-stop (loop_refusal rows) [] l
  | no l ↦ (let e : (loop_refusal rows).number ≡ 0 = omega arith in list-next (loop_refusal rows) [] e ∙ sym (all-passes rows (passes-zero rows e)))
]
