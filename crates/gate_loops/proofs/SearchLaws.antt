-- A walk from each gate in turn: the first that meets a loop starts from the lowest gate that is never placed.
-- Assumes nothing.
use Prim.Native.Nat.{ℕ, ◌+◌, ◌*◌, ◌<◌, ◌≤◌, ◌^◌}
use mathlib.Core.Path.{◌≡◌, refl, sym, ap, ◌∙◌}
use mathlib.Core.Bool.{Bool, true, false, cond, not, ◌&&◌, false≢true}
use mathlib.Core.List.{List}
use native.Mathlib.Omega.{arith}
use native.Mathlib.Decide.{ℕ_discrete}
use lib.ListN.{length}
use lib.Dec.{ltb}
use borrow.Author.Tests.{not-true, not-false}
use Rattle.memory.specs.Lists.{first_from}
use Rattle.memory.specs.Slots.{slot_at}
use Rattle.memory.proofs.TestLaws.{fails, last_or}
use Rattle.memory.proofs.ListLaws.{first_found, first-none}
use Rattle.netlist.specs.Rows.{Row, row_at}
use Rattle.ordering.specs.GateOrder.{is_gate, is_in, gate_order, Grounded}
use Rattle.ordering.specs.SortQuestions.{loop_question}
use Rattle.ordering.proofs.PlacingLaws.{grounded-in, in-grounded}
use Rattle.gate_rows.specs.Sources.{source_rows, Source}
use Rattle.gate_rows.specs.declared.Layout.{Layout}
use Rattle.gate_rows.proofs.RowLaws.{row_inside}
use Rattle.gate_loops.specs.Walk.{settled_slot, SourcesSettled, Settled, NoneOpen, Walked}
use Rattle.gate_loops.proofs.WalkLaws.{open_of, open-words, unsettled-gate}

-- ---- question 22, by what is grounded

module _ (rows : List Row) (i : ℕ) where
  question-passed : (is_gate (row_at rows i) ≡ true → Grounded rows i) → ltb 0 (loop_question rows i) ≡ false
  question-passed h = go (is_gate (row_at rows i)) (is_in i (gate_order rows)) (λ g. grounded-in rows i g (h g))
    where
      go : (s t : Bool) → (s ≡ true → t ≡ true) → ltb 0 (cond (s && not t) 22 0) ≡ false
      go true true k = refl
      go true false k = absurd (false≢true (k refl))
      go false t k = refl

  question-failed : is_gate (row_at rows i) ≡ true → ¬ Grounded rows i → ltb 0 (loop_question rows i) ≡ true
  question-failed g n = rw (g, fails (is_in i (gate_order rows)) (λ e. n (in-grounded rows i e)))

-- ---- the slots before any walk

module _ (rows : List Row) (w : List ℕ) (S : SourcesSettled rows w) where
  first-slots : (x : ℕ) → x < length rows → (t : Bool) → is_gate (row_at rows x) ≡ t → slot_at w x ≡ cond t 0 settled_slot
  first-slots x h t e = S x h ∙ ap (λ (b : Bool). cond b 0 settled_slot) e

  none_first : NoneOpen rows w
  none_first x h o = go (is_gate (row_at rows x)) refl
    where
      go : (t : Bool) → is_gate (row_at rows x) ≡ t → ⊥
      go true e = omega (arith, first-slots x h true e, open-words (slot_at w x) o)
      go false e = omega (arith, first-slots x h false e, open-words (slot_at w x) o)

-- ---- the walks

-- No slot is open, and the rows before m are settled; w₀ has the slots before any walk.
pub record Searching (layout : Layout) (f w₀ w : List ℕ) (n m : ℕ) : Type 0 where
  pub ready : Source layout f n
  pub upto : m ≤ n
  pub room : 2 * n ≤ length w
  pub long : length w ≡ length w₀
  pub settled : Settled (source_rows layout f) w
  pub closed : NoneOpen (source_rows layout f) w
  pub settled_before : (x : ℕ) → x < m → slot_at w x ≡ settled_slot

module _ (layout : Layout) (f w₀ w : List ℕ) (n m : ℕ) (S : Searching layout f w₀ w n m) where
  inside : (x : ℕ) → x < n → x < length (source_rows layout f)
  inside = row_inside layout f n S.ready

  module _ (s : ℕ) where
    -- The row is settled already.
    pub row-passed : ¬ (s ≡ 0) → s ≡ slot_at w m → s < 2 ^ 16 → m < n → (w' : List ℕ) → w' ≡ w → Searching layout f w₀ w' n (m + 1)
    row-passed d e l h w' q = rw q (record {
      ready = S.ready;
      upto = omega arith;
      room = S.room;
      long = S.long;
      settled = S.settled;
      closed = S.closed;
      settled_before = λ x k. last_or x m (omega arith) (S.settled_before x) (λ z. rw z closed-slot);
    })
      where
        closed-slot : slot_at w m ≡ settled_slot
        closed-slot = elim (ℕ_discrete (slot_at w m) settled_slot) [ yes z ↦ z | no z ↦ absurd (S.closed m (inside m h) (open_of (slot_at w m) (omega arith) (omega arith))) ]

  -- A walk has settled it.
  pub row_settled : (r : Bool) (v w' : List ℕ) → not r ≡ false → (r ≡ true → Walked (source_rows layout f) w v m) → m < n → length v ≡ length w → w' ≡ v → Searching layout f w₀ w' n (m + 1)
  row_settled r v w' t G h l q = let W = G (not-false r t) in rw q (record {
    ready = S.ready;
    upto = omega arith;
    room = omega (arith, S.room);
    long = l ∙ S.long;
    settled = W.settled;
    closed = W.closed;
    settled_before = λ x k. last_or x m (omega arith) (λ z. W.kept x (inside x (omega arith)) (S.settled_before x z)) (λ z. rw z W.reached);
  })

  -- ---- the answer, where the question is whether q holds of a row

  module _ (q : ℕ → Bool) (asks : (i : ℕ) → q i ≡ ltb 0 (loop_question (source_rows layout f) i)) where
    before-passed : (x : ℕ) → x < m → q x ≡ false
    before-passed x h = asks x ∙ question-passed (source_rows layout f) x (λ g. S.settled.sound x (inside x (omega (arith, S.upto))) g (S.settled_before x h))

    pub row-fails : (r : Bool) (s : ℕ) → not r ≡ true → (r ≡ false → ¬ Grounded (source_rows layout f) m) → m < n → s ≡ 0 → s ≡ slot_at w m → m ≡ first_from 0 n q
    row-fails r s t G h z e = sym (first_found 0 n q m (omega arith) (omega arith) (λ x _ l. before-passed x l)
        (asks m ∙ question-failed (source_rows layout f) m (unsettled-gate (source_rows layout f) w S.settled m (inside m h) (λ k. omega arith)) (G (not-true r t))))

    pub all_pass : n ≤ m → n ≡ first_from 0 n q
    all_pass h = sym (first-none 0 n q (λ x _ l. before-passed x (omega arith)) ∙ omega arith)
