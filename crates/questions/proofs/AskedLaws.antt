-- What is asked and what a refusal means, in general: lists of what is asked, a question asked once, questions asked of one item and of items in turn, a list of questions.
-- Assumes nothing.
use Prim.Native.Nat.{ℕ, zero, suc, ◌<◌}
use mathlib.Core.Path.{◌≡◌, refl, sym, ap₂, ◌∙◌, subst}
use mathlib.Core.Logic.{◌↔◌, inl, inr}
use mathlib.Core.Bool.{Bool, true, false, cond, not, false≢true}
use mathlib.Core.List.{List, [], ◌∷◌, ◌++◌, append-nil}
use native.Mathlib.Omega.{arith}
use lib.Dec.{ltb}
use borrow.Author.Tests.{ltb-true, ltb-false}
use Rattle.memory.specs.Lists.{join_below, first_from}
use Rattle.memory.proofs.TestLaws.{last_or, cond-case}
use Rattle.memory.proofs.ListLaws.{first-is}
use Rattle.questions.specs.Questions.{Refusal, no_refusal, first_refusal, question, item_questions}
use Rattle.questions.specs.RefusalWords.{Asked, ask, AllYes, FirstNo, RefusalMeans}

-- ---- lists of what is asked, one after the other, and for each item in turn

pub append-yes : (xs ys : List Asked) → AllYes xs → AllYes ys → AllYes (xs ++ ys)
append-yes [] ys a b = b
append-yes (x ∷ xs) ys a b = (a.0, append-yes xs ys a.1 b)

pub parts-yes : (xs ys : List Asked) → AllYes (xs ++ ys) → AllYes xs × AllYes ys
parts-yes [] ys a = (tt, a)
parts-yes (x ∷ xs) ys a = let p = parts-yes xs ys a.1 in ((a.0, p.0), p.1)

append-no : (xs ys : List Asked) (n p : ℕ) → FirstNo xs n p → FirstNo (xs ++ ys) n p
append-no [] ys n p h = absurd h
append-no (x ∷ xs) ys n p (inl h) = inl h
append-no (x ∷ xs) ys n p (inr h) = inr (h.0, append-no xs ys n p h.1)

append-later : (xs ys : List Asked) (n p : ℕ) → AllYes xs → FirstNo ys n p → FirstNo (xs ++ ys) n p
append-later [] ys n p a h = h
append-later (x ∷ xs) ys n p a h = inr (a.0, append-later xs ys n p a.1 h)

pub join-yes : (m : ℕ) (f : ℕ → List Asked) → ((i : ℕ) → i < m → AllYes (f i)) → AllYes (join_below m f)
join-yes zero f h = tt
join-yes (suc m) f h = append-yes (join_below m f) (f m) (join-yes m f (λ i l. h i (omega arith))) (h m (omega arith))

pub each-yes : (m : ℕ) (f : ℕ → List Asked) → AllYes (join_below m f) → (i : ℕ) → i < m → AllYes (f i)
each-yes zero f h i l = absurd (omega arith)
each-yes (suc m) f h i l =
    let p = parts-yes (join_below m f) (f m) h in
    last_or i m l (λ b. each-yes m f p.0 i b) (λ e. subst (λ (x : ℕ). AllYes (f x)) (sym e) p.1)

join-no : (m : ℕ) (f : ℕ → List Asked) (n p i : ℕ) → i < m → ((j : ℕ) → j < i → AllYes (f j)) → FirstNo (f i) n p → FirstNo (join_below m f) n p
join-no zero f n p i l h k = absurd (omega arith)
join-no (suc m) f n p i l h k =
    last_or i m l
    (λ b. append-no (join_below m f) (f m) n p (join-no m f n p i b h k))
    (λ e. append-later (join_below m f) (f m) n p (join-yes m f (λ j b. h j (omega arith))) (subst (λ (x : ℕ). FirstNo (f x) n p) e k))

-- There is one first no, and then not every answer is yes.
no-unique : (xs : List Asked) (n p n' p' : ℕ) → FirstNo xs n p → FirstNo xs n' p' → (n ≡ n') × (p ≡ p')
no-unique [] n p n' p' h k = absurd h
no-unique (x ∷ xs) n p n' p' (inl h) (inl k) = (sym h.0 ∙ k.0, sym h.1 ∙ k.1)
no-unique (x ∷ xs) n p n' p' (inl h) (inr k) = absurd (h.2 k.0)
no-unique (x ∷ xs) n p n' p' (inr h) (inl k) = absurd (k.2 h.0)
no-unique (x ∷ xs) n p n' p' (inr h) (inr k) = no-unique xs n p n' p' h.1 k.1

not_yes : (xs : List Asked) (n p : ℕ) → FirstNo xs n p → AllYes xs → ⊥
not_yes [] n p h a = h
not_yes (x ∷ xs) n p (inl h) a = h.2 a.0
not_yes (x ∷ xs) n p (inr h) a = not_yes xs n p h.1 a.1

-- The other way round: where the first no is to question n at place p, the refusal is that; where every answer is yes, there is none.
module _ (q : Refusal) (asked : List Asked) (M : RefusalMeans q asked) where
  pub first-no-is : (n p : ℕ) → FirstNo asked n p → (q.number ≡ n) × (q.place ≡ p)
  first-no-is n p h = go q.number refl
    where
      go : (m : ℕ) → q.number ≡ m → (q.number ≡ n) × (q.place ≡ p)
      go zero e = absurd (not_yes asked n p h (M.passed e))
      go (suc m) e = no-unique asked q.number q.place n p (M.refused (omega arith)) h

  pub all-yes-is : AllYes asked → q ≡ no_refusal
  all-yes-is y = go q.number refl
    where
      go : (m : ℕ) → q.number ≡ m → q ≡ no_refusal
      go zero e = ap₂ (λ (n p : ℕ). record { number = n; place = p }) e (M.no_place e)
      go (suc m) e = absurd (not_yes asked q.number q.place (M.refused (omega arith)) y)

-- ---- a question asked once

pub once-means : (n : ℕ) {t : Bool} {P : Type 0} → (t ≡ true) ↔ P → RefusalMeans (question (suc n) t) (ask (suc n) 0 P ∷ [])
once-means n {t = true} w = record { refused = λ h. absurd (omega arith); passed = λ _. (w.0 refl, tt); no_place = λ _. refl }
once-means n {t = false} w = record { refused = λ _. inl (refl, refl, λ h. false≢true (w.1 h)); passed = λ h. absurd (omega arith); no_place = λ _. refl }

-- ---- questions asked of one item: n is the number of the first no, or 0

pub record ItemMeans (n i : ℕ) (asked : List Asked) : Type 0 where
  pub refused : 0 < n → FirstNo asked n i
  pub passed : n ≡ 0 → AllYes asked

pub none-means : (i : ℕ) → ItemMeans 0 i []
none-means i = record { refused = λ h. absurd (omega arith); passed = λ _. tt }

-- A test, and those after it, which are asked if it is passed.
pub test-means : (n i : ℕ) {t : Bool} {P : Type 0} {k : ℕ} {rest : List Asked} → (t ≡ true) ↔ P → (P → ItemMeans k i rest) → ItemMeans (cond (not t) (suc n) k) i (ask (suc n) i P ∷ rest)
test-means n i {t = true} w M =
    let y = w.0 refl in
    record { refused = λ h. inr (y, (M y).refused h); passed = λ h. (y, (M y).passed h) }
test-means n i {t = false} w M = record { refused = λ _. inl (refl, refl, λ h. false≢true (w.1 h)); passed = λ h. absurd (omega arith) }

-- ---- questions asked of items in turn

pub items-means : (n : ℕ) (f : ℕ → ℕ) (asked : ℕ → List Asked) → ((i : ℕ) → ItemMeans (f i) i (asked i)) → RefusalMeans (item_questions n f) (join_below n asked)
items-means n f asked each =
    cond-case (λ (q : Refusal). RefusalMeans q (join_below n asked)) (ltb found n) _ no_refusal
    (λ e.
    let l = ltb-true found n e in
    let some-no = ltb-true 0 (f found) ((first-is 0 n (λ i. ltb 0 (f i))).holds (omega arith)) in
    record { refused = λ h. join-no n asked (f found) found found l before ((each found).refused h); passed = λ h. absurd (omega arith); no_place = λ h. absurd (omega arith) })
    (λ e.
    let l = ltb-false found n e in
    record { refused = λ h. absurd (omega arith); passed = λ _. join-yes n asked (λ i b. before i (omega arith)); no_place = λ _. refl })
  where
    found : ℕ
    found = first_from 0 n (λ i. ltb 0 (f i))

    before : (j : ℕ) → j < found → AllYes (asked j)
    before j l = let z = ltb-false 0 (f j) ((first-is 0 n (λ i. ltb 0 (f i))).before j (omega arith) l) in (each j).passed (omega arith)

-- ---- a list of questions

-- One, and those after it, of which r is the refusal.
pub then-means : {q r : Refusal} {xs ys : List Asked} → RefusalMeans q xs → RefusalMeans r ys → RefusalMeans (elim q.number [ zero ↦ r | suc n ↦ q ]) (xs ++ ys)
then-means {q} {r} {xs} {ys} M R = go q.number refl
  where
    go : (n : ℕ) → q.number ≡ n → RefusalMeans (elim n as (λ _. Refusal) [ zero ↦ r | suc m ↦ q ]) (xs ++ ys)
    go zero e = record {
      refused = λ h. append-later xs ys _ _ (M.passed e) (R.refused h);
      passed = λ h. append-yes xs ys (M.passed e) (R.passed h);
      no_place = R.no_place;
    }
    go (suc n) e = record { refused = λ h. append-no xs ys _ _ (M.refused h); passed = λ h. absurd (omega arith); no_place = M.no_place }

-- The last one.
pub last-means : {q : Refusal} {xs : List Asked} → RefusalMeans q xs → RefusalMeans (first_refusal (q ∷ [])) xs
last-means {q} {xs} M = rw (← append-nil xs) (then-means M (record { refused = λ h. absurd (omega arith); passed = λ _. tt; no_place = λ _. refl }))
