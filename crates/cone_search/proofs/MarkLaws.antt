-- Rows marked and found.
-- Assumes nothing.
use Prim.Native.Nat.{ℕ, zero, suc, ◌+◌, ◌*◌, ◌<◌, ◌≤◌, ◌^◌}
use mathlib.Core.Path.{◌≡◌, refl, sym, ap, ◌∙◌}
use mathlib.Core.Logic.{◌≢◌}
use mathlib.Core.Bool.{Bool, true, false, true≢false}
use mathlib.Core.List.{List, [], ◌∷◌}
use native.Mathlib.Omega.{arith}
use native.Mathlib.Decide.{ℕ_discrete}
use native.Mathlib.Numerals.{add-one}
use lib.ListN.{length, set, length-set}
use lib.Seq.{set_out, set-get_or, get_or-set_same, get_or-set_other, ext_get_or}
use borrow.Author.Tests.{leb-true, le-leb, lt-leb}
use Rattle.memory.specs.Lists.{tabulate, count_if}
use Rattle.memory.specs.Slots.{slot_at}
use Rattle.memory.proofs.TestLaws.{last_or}
use Rattle.memory.proofs.ListLaws.{tabulate-length, tabulate-at, count-last, count-le}
use Rattle.netlist.specs.Limits.{most_folded_rows}
use Rattle.abstraction.specs.Compaction.{is_marked, mark_all}
use Rattle.cone_search.specs.FoundRows.{mark_at, marks_in, found_at, RowMarked, RowListed, Found, Pushed}

-- A slot's mark.
mark-yes : (w : List ℕ) (j : ℕ) → 2 ^ 15 ≤ slot_at w j → mark_at w j ≡ true
mark-yes w j h = le-leb (2 ^ 15) (slot_at w j) h

pub mark-no : (w : List ℕ) (j : ℕ) → slot_at w j < 2 ^ 15 → mark_at w j ≡ false
mark-no w j h = lt-leb (2 ^ 15) (slot_at w j) h

-- ---- counts of marks

count_set : (m : List Bool) (j : ℕ) → j < length m → is_marked m j ≡ false → count_if (λ b. b) (set m j true) ≡ suc (count_if (λ b. b) m)
count_set [] j h e = absurd (omega arith)
count_set (true ∷ m) zero h e = absurd (true≢false e)
count_set (false ∷ m) zero h e = omega arith
count_set (true ∷ m) (suc j) h e = omega (arith, count_set m j (omega arith) e)
count_set (false ∷ m) (suc j) h e = omega (arith, count_set m j (omega arith) e)

count_none : (n : ℕ) (f : ℕ → Bool) → ((j : ℕ) → f j ≡ false) → count_if (λ b. b) (tabulate n f) ≡ 0
count_none zero f h = refl
count_none (suc n) f h = count-last (λ b. b) (tabulate n f) (f n) ∙ rw (h n) (omega (arith, count_none n f h))

-- ---- rows found

pub marked-in : (w : List ℕ) (n j : ℕ) → j < n → is_marked (marks_in w n) j ≡ mark_at w j
marked-in w n j h = tabulate-at n (mark_at w) j false h

pub found_none : (w : List ℕ) (n : ℕ) → ((j : ℕ) → slot_at w j ≡ 0) → Found w n 0
found_none w n h = record {
  counted = sym (count_none n (mark_at w) (λ j. mark-no w j (omega (arith, h j))));
  marked = λ k l. absurd (omega arith);
  listed = λ j l e. absurd (omega (arith, h j, leb-true (2 ^ 15) (slot_at w j) e));
}

module _ (w : List ℕ) (n t : ℕ) (F : Found w n t) where
  pub found-le : t ≤ n
  found-le = omega (arith, F.counted, count-le (λ b. b) (marks_in w n), tabulate-length n (mark_at w))

  pub pushed_none : Pushed w n t [] w t
  pushed_none = record { found = F; more = omega arith; before = λ k h. refl; marks = refl }

  module _ (j : ℕ) where
    -- No row of n.
    pub pushed-out : n ≤ j → Pushed w n t (j ∷ []) w t
    pushed-out h = record { found = F; more = omega arith; before = λ k l. refl; marks = sym (set_out (marks_in w n) j true (omega (arith, tabulate-length n (mark_at w)))) }

    -- A row that is marked.
    pushed-old : j < n → mark_at w j ≡ true → Pushed w n t (j ∷ []) w t
    pushed-old h e = record {
      found = F;
      more = omega arith;
      before = λ k l. refl;
      marks = sym (ap (set (marks_in w n) j) (sym (marked-in w n j h ∙ e)) ∙ set-get_or (marks_in w n) j false);
    }

    -- A row that is not.
    module _ (h : j < n) (e : mark_at w j ≡ false) where
      counted-more : count_if (λ b. b) (set (marks_in w n) j true) ≡ suc t
      counted-more = count_set (marks_in w n) j (rw (tabulate-length n (mark_at w)) h) (marked-in w n j h ∙ e) ∙ ap suc (sym F.counted)

      found-room : t < n
      found-room = omega (arith, counted-more, count-le (λ b. b) (set (marks_in w n) j true), length-set (marks_in w n) j true, tabulate-length n (mark_at w))

      module _ (w₁ w₂ : List ℕ) (M : RowMarked w j w₁) (L : RowListed w₁ t j w₂) where
        now-marked : (x : ℕ) → x ≡ j → mark_at w₂ x ≡ true
        now-marked x q = L.marks x ∙ rw q M.is

        as_before : (x : ℕ) → x ≢ j → mark_at w₂ x ≡ mark_at w x
        as_before x q = L.marks x ∙ M.others x q

        still_marked : (x : ℕ) → mark_at w x ≡ true → mark_at w₂ x ≡ true
        still_marked x k = elim (ℕ_discrete x j) [ yes q ↦ now-marked x q | no q ↦ as_before x q ∙ k ]

        still-found : (k : ℕ) → k < t → found_at w₂ k ≡ found_at w k
        still-found k l = L.others k (λ q. omega arith) ∙ M.founds k

        marks-set : marks_in w₂ n ≡ set (marks_in w n) j true
        marks-set = ext_get_or false _ _ (tabulate-length n (mark_at w₂) ∙ sym (length-set (marks_in w n) j true ∙ tabulate-length n (mark_at w))) (λ x l. at x (rw (tabulate-length n (mark_at w₂)) at l))
          where
            at : (x : ℕ) → x < n → is_marked (marks_in w₂ n) x ≡ is_marked (set (marks_in w n) j true) x
            at x l = marked-in w₂ n x l ∙ (elim (ℕ_discrete x j) [
              | yes q ↦ now-marked x q ∙ sym (rw q (get_or-set_same (marks_in w n) j true false (rw (tabulate-length n (mark_at w)) h)))
              | no q ↦ as_before x q ∙ sym (get_or-set_other (marks_in w n) j x true false q ∙ marked-in w n x l)
            ])

        pushed-new : Pushed w n t (j ∷ []) w₂ (t + 1)
        pushed-new = record {
          found = record {
            counted = rw (marks-set, counted-more) (add-one t);
            marked = λ k l. last_or k t (omega arith)
                (λ b. let q = F.marked k b in rw (still-found k b) (q.0, still_marked (found_at w k) q.1))
                (λ b. rw (b, L.is) (h, now-marked j refl));
            listed = λ x l k. elim (ℕ_discrete x j) [
              | yes q ↦ (t, omega arith, L.is ∙ sym q)
              | no q ↦ (let p = F.listed x l (sym (as_before x q) ∙ k) in (p.0, omega (arith, p.1), still-found p.0 p.1 ∙ p.2))
            ];
          };
          more = omega arith;
          before = still-found;
          marks = marks-set;
        }

pub pushed-cons : (w w₁ w₂ : List ℕ) (n t t₁ t₂ j : ℕ) (js : List ℕ) → Pushed w n t (j ∷ []) w₁ t₁ → Pushed w₁ n t₁ js w₂ t₂ → Pushed w n t (j ∷ js) w₂ t₂
pushed-cons w w₁ w₂ n t t₁ t₂ j js P Q = record {
  found = Q.found;
  more = omega (arith, P.more, Q.more);
  before = λ k h. Q.before k (omega (arith, P.more)) ∙ P.before k h;
  marks = Q.marks ∙ ap (λ m. mark_all m js) P.marks;
}

-- ---- the same by the row's slot as the code reads it

module _ (w : List ℕ) (n t : ℕ) (F : Found w n t) (j s : ℕ) (h : j < n) (e : s ≡ slot_at w j) where
  pub found_before : 2 ^ 15 ≤ s → Pushed w n t (j ∷ []) w t
  found_before l = pushed-old w n t F j h (mark-yes w j (omega arith))

  module _ (l : s < 2 ^ 15) where
    new : mark_at w j ≡ false
    new = mark-no w j (omega arith)

    room-left : t < n
    room-left = found-room w n t F j h new

    pub count_fits : n ≤ most_folded_rows → t + 1 < 2 ^ 64
    count_fits q = omega (arith, room-left)

    pub list-room : (w₁ : List ℕ) → 2 * n ≤ length w → length w₁ ≡ length w → 2 * t + 2 ≤ length w₁
    list-room w₁ q k = omega (arith, room-left)

    pub found-now : (w₁ w₂ : List ℕ) → RowMarked w j w₁ → RowListed w₁ t j w₂ → Pushed w n t (j ∷ []) w₂ (t + 1)
    found-now = pushed-new w n t F j h new
