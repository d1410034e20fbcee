-- What a refusal says: the first no of a list of questions, of a question asked once, and of questions asked of items in turn.
-- Assumes nothing.
use Prim.Native.Nat.{ℕ, zero, suc, ◌<◌}
use mathlib.Core.Path.{◌≡◌, refl, sym, ap, ◌∙◌}
use mathlib.Core.Bool.{Bool, true, false, cond, not, false≢true}
use mathlib.Core.List.{List, [], ◌∷◌, ◌++◌}
use native.Mathlib.Omega.{arith}
use native.Mathlib.Decide.{dec_lt}
use lib.Dec.{eqb, ltb}
use borrow.Author.Tests.{ne_eqb, ltb-true, ltb-false, le-ltb}
use Rattle.memory.specs.Lists.{first_from}
use Rattle.memory.proofs.TestLaws.{cond-case}
use Rattle.memory.proofs.ListLaws.{first-is, first-none}
use Rattle.questions.specs.Questions.{Refusal, no_refusal, first_refusal, question, item_questions}

-- ---- a list of questions: none refuses exactly if no one does

pub list-none : (q : Refusal) (qs : List Refusal) → (first_refusal (q ∷ qs)).number ≡ 0 → (q.number ≡ 0) × ((first_refusal qs).number ≡ 0)
list-none q qs h = go q.number refl h
  where
    go : (n : ℕ) → q.number ≡ n → (elim n as (λ _. Refusal) [ zero ↦ first_refusal qs | suc m ↦ q ]).number ≡ 0 → (q.number ≡ 0) × ((first_refusal qs).number ≡ 0)
    go zero e k = (e, k)
    go (suc m) e k = absurd (omega (arith, e, k))

-- A question that is passed goes on to the next.
pub list-next : (q : Refusal) (qs : List Refusal) → q.number ≡ 0 → first_refusal (q ∷ qs) ≡ first_refusal qs
list-next q qs e = ap (λ (n : ℕ). elim n as (λ _. Refusal) [ zero ↦ first_refusal qs | suc m ↦ q ]) e

-- A question that is answered with no decides.
pub list-stop : (q : Refusal) (qs : List Refusal) → 0 < q.number → first_refusal (q ∷ qs) ≡ q
list-stop q qs h = go q.number refl
  where
    go : (n : ℕ) → q.number ≡ n → (elim n as (λ _. Refusal) [ zero ↦ first_refusal qs | suc m ↦ q ]) ≡ q
    go zero e = absurd (omega arith)
    go (suc m) e = refl

pub same_number : {q r : Refusal} → q ≡ r → q.number ≡ r.number
same_number e = ap (λ (x : Refusal). x.number) e

-- More questions behind a list of them.
pub first-before : (qs ps : List Refusal) → 0 < (first_refusal qs).number → first_refusal (qs ++ ps) ≡ first_refusal qs
first-before [] ps h = absurd (omega arith)
first-before (q ∷ qs) ps h = elim (dec_lt 0 q.number) [
  | yes l ↦ list-stop q (qs ++ ps) l ∙ sym (list-stop q qs l)
  | no l ↦
      (let e : q.number ≡ 0 = omega arith in
      let n = list-next q qs e in
      list-next q (qs ++ ps) e ∙ first-before qs ps (omega (arith, h, same_number n)) ∙ sym n)
]

pub first-behind : (qs ps : List Refusal) → (first_refusal qs).number ≡ 0 → first_refusal (qs ++ ps) ≡ first_refusal ps
first-behind [] ps h = refl
first-behind (q ∷ qs) ps h = let n = list-none q qs h in list-next q (qs ++ ps) n.0 ∙ first-behind qs ps n.1

-- Each question of the list is passed.
abbrev pub NoneRefuses : List Refusal → Type 0
NoneRefuses [] = Unit {0}
NoneRefuses (q ∷ qs) = (q.number ≡ 0) × NoneRefuses qs

pub all_none : (qs : List Refusal) → (first_refusal qs).number ≡ 0 → NoneRefuses qs
all_none [] h = tt
all_none (q ∷ qs) h = let p = list-none q qs h in (p.0, all_none qs p.1)

pub all_yes : (qs : List Refusal) → NoneRefuses qs → first_refusal qs ≡ no_refusal
all_yes [] h = refl
all_yes (q ∷ qs) h = list-next q qs h.0 ∙ all_yes qs h.1

infixr 5 ◌then◌
-- The first question is passed, and so are the others.
pub ◌then◌ {ℓ κ} : {A : Type ℓ} {B : Type κ} → A → B → A × B
a then b = (a, b)

pub number-none : (q : Refusal) → q ≡ no_refusal → q.number ≡ 0
number-none q e = same_number e

-- A refusal with a number: the test for none fails, and it is not none.
pub number-some : (q : Refusal) → 0 < q.number → (eqb q.number 0 ≡ false) × (¬ (q ≡ no_refusal))
number-some q h = (ne_eqb q.number 0 (λ z. omega (arith, z)), λ z. omega (arith, same_number z))

-- ---- a question asked once

pub question-none : (n : ℕ) (t : Bool) → (question (suc n) t).number ≡ 0 → t ≡ true
question-none n true h = refl
question-none n false h = absurd (omega arith)

pub question-yes : (n : ℕ) (t : Bool) → t ≡ true → question n t ≡ no_refusal
question-yes n t e = rw e

pub question-no : (n : ℕ) (t : Bool) → t ≡ false → question n t ≡ record { number = n; place = 0 }
question-no n t e = rw e

pub question-of : (n : ℕ) (t : Bool) → t ≡ true → (question n t).number ≡ 0
question-of n t e = number-none (question n t) (question-yes n t e)

-- At the head of a list.
pub list-yes : (n : ℕ) (t : Bool) (qs : List Refusal) → t ≡ true → first_refusal (question n t ∷ qs) ≡ first_refusal qs
list-yes n t qs e = list-next (question n t) qs (question-of n t e)

pub list-no : (n : ℕ) (t : Bool) (qs : List Refusal) → t ≡ false → first_refusal (question (suc n) t ∷ qs) ≡ record { number = suc n; place = 0 }
list-no n t qs e = ap (λ (q : Refusal). first_refusal (q ∷ qs)) (question-no (suc n) t e)

-- ---- questions asked of items in turn

module _ (n : ℕ) (f : ℕ → ℕ) where
  -- The first item refused; n if none is.
  abbrev found : ℕ
  found = first_from 0 n (λ i. ltb 0 (f i))

  pub items-none : (item_questions n f).number ≡ 0 → (j : ℕ) → j < n → f j ≡ 0
  items-none h j b =
      cond-case (λ (q : Refusal). q.number ≡ 0 → f j ≡ 0) (ltb found n) _ no_refusal
      (λ e k.
      let l = ltb-true found n e in
      let p = ltb-true 0 (f found) ((first-is 0 n (λ i. ltb 0 (f i))).holds (omega arith)) in
      absurd (omega arith))
      (λ e k.
      let l = ltb-false found n e in
      let p = ltb-false 0 (f j) ((first-is 0 n (λ i. ltb 0 (f i))).before j (omega arith) (omega arith)) in
      omega arith)
      h

  pub items-yes : ((j : ℕ) → j < n → f j ≡ 0) → item_questions n f ≡ no_refusal
  items-yes h =
      let e = first-none 0 n (λ i. ltb 0 (f i)) (λ j _ b. le-ltb 0 (f j) (omega (arith, h j (omega arith)))) in
      cond-case (λ (q : Refusal). q ≡ no_refusal) (ltb found n) _ no_refusal (λ t. absurd (omega (arith, ltb-true found n t))) (λ _. refl)

-- ---- a chain of tests that ends in 0: each was passed

pub passed : (t : Bool) (n k : ℕ) → cond (not t) (suc n) k ≡ 0 → (t ≡ true) × (k ≡ 0)
passed true n k h = (refl, h)
passed false n k h = absurd (omega arith)

pub passed-of : (t : Bool) (n k : ℕ) → t ≡ true → k ≡ 0 → cond (not t) n k ≡ 0
passed-of true n k e z = z
passed-of false n k e z = absurd (false≢true e)
