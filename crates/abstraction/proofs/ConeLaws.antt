-- The cone of influence is exactly what an output, or row 0, reaches: roots are in it, it is closed under what a row names, and nothing else is in it.
-- Assumes nothing.
use Prim.Native.Nat.{ℕ, zero, suc, ◌+◌, ◌<◌, ◌≤◌}
use mathlib.Core.Path.{◌≡◌, refl, sym, ◌∙◌, subst}
use mathlib.Core.Logic.{◌↔◌}
use mathlib.Core.Bool.{Bool, true, false, cond, ◌||◌, false≢true, true≢false}
use mathlib.Core.List.{List, [], ◌∷◌, map}
use native.Mathlib.Omega.{arith}
use native.Mathlib.Decide.{ℕ_discrete}
use lib.ListN.{length, set, length-set, length-map}
use lib.Seq.{get_or-set_same, get_or-set_other}
use borrow.Author.Tests.{eqb-true, eq-eqb}
use lib.Dec.{eqb}
use Rattle.memory.proofs.TestLaws.{cond-case, or_case, last_or}
use Rattle.memory.specs.Lists.{count_if, Among, here, there}
use Rattle.memory.proofs.ListLaws.{count-le}
use Rattle.netlist.specs.Rows.{Row, row_at, kind_of, is_output, fanin_nodes}
use Rattle.netlist.specs.WellFormed.{EachBelow}
use Rattle.abstraction.specs.Compaction.{is_cone_root, is_marked, mark_all, equal_marks, mark_sweep, mark_fixpoint, cone_of_influence, Reached, row_zero, shown, named}
use Rattle.abstraction.proofs.CompactionLaws.{AllMarked, ClosedUnderFanin, marked-lt}

-- Every mark of m is one of m'.
abbrev pub MarksWithin : List Bool → List Bool → Type 0
MarksWithin m m' = (j : ℕ) → is_marked m j ≡ true → is_marked m' j ≡ true

set_keeps : (m : List Bool) (j : ℕ) → MarksWithin m (set m j true)
set_keeps m j x h = elim (ℕ_discrete x j) [
  | yes e ↦ rw (← e) (get_or-set_same m x true false (marked-lt m x h))
  | no e ↦ get_or-set_other m j x true false e ∙ h
]

pub mark_all-keeps : (m : List Bool) (js : List ℕ) → MarksWithin m (mark_all m js)
mark_all-keeps m [] x h = h
mark_all-keeps m (j ∷ js) x h = mark_all-keeps (set m j true) js x (set_keeps m j x h)

mark_all-length : (m : List Bool) (js : List ℕ) → length (mark_all m js) ≡ length m
mark_all-length m [] = refl
mark_all-length m (j ∷ js) = mark_all-length (set m j true) js ∙ length-set m j true

pub all_keep : (m m' : List Bool) → MarksWithin m m' → (js : List ℕ) → AllMarked m js → AllMarked m' js
all_keep m m' s [] h = tt
all_keep m m' s (j ∷ js) h = (s j h.0, all_keep m m' s js h.1)

pub mark_all-marks : (m : List Bool) (js : List ℕ) → EachBelow (length m) js → AllMarked (mark_all m js) js
mark_all-marks m [] h = tt
mark_all-marks m (j ∷ js) h =
    (mark_all-keeps (set m j true) js j (get_or-set_same m j true false h.0), mark_all-marks (set m j true) js (rw (length-set m j true) h.1))

-- How many are marked.
abbrev marks : List Bool → ℕ
marks = count_if (λ b. b)

count-full : (m : List Bool) → length m ≤ marks m → (j : ℕ) → j < length m → is_marked m j ≡ true
count-full [] h j l = absurd (omega arith)
count-full (true ∷ m) h zero l = refl
count-full (true ∷ m) h (suc j) l = count-full m (omega arith) j (omega arith)
count-full (false ∷ m) h j l = absurd (omega (arith, count-le (λ b. b) m))

keeps-tail : (a b : Bool) (m m' : List Bool) → MarksWithin (a ∷ m) (b ∷ m') → MarksWithin m m'
keeps-tail a b m m' s j h = s (suc j) h

count-keeps : (m m' : List Bool) → length m ≡ length m' → MarksWithin m m' → marks m ≤ marks m'
count-keeps [] m' e s = omega arith
count-keeps (a ∷ m) [] e s = absurd (omega arith)
count-keeps (true ∷ m) (true ∷ m') e s = omega (arith, count-keeps m m' (omega arith) (keeps-tail true true m m' s))
count-keeps (true ∷ m) (false ∷ m') e s = absurd (false≢true (s 0 refl))
count-keeps (false ∷ m) (true ∷ m') e s = omega (arith, count-keeps m m' (omega arith) (keeps-tail false true m m' s))
count-keeps (false ∷ m) (false ∷ m') e s = omega (arith, count-keeps m m' (omega arith) (keeps-tail false false m m' s))

count-more : (m m' : List Bool) → length m ≡ length m' → MarksWithin m m' → equal_marks m m' ≡ false → marks m < marks m'
count-more [] [] e s d = absurd (true≢false d)
count-more [] (b ∷ m') e s d = absurd (omega arith)
count-more (a ∷ m) [] e s d = absurd (omega arith)
count-more (true ∷ m) (true ∷ m') e s d = omega (arith, count-more m m' (omega arith) (keeps-tail true true m m' s) d)
count-more (true ∷ m) (false ∷ m') e s d = absurd (false≢true (s 0 refl))
count-more (false ∷ m) (true ∷ m') e s d = omega (arith, count-keeps m m' (omega arith) (keeps-tail false true m m' s))
count-more (false ∷ m) (false ∷ m') e s d = omega (arith, count-more m m' (omega arith) (keeps-tail false false m m' s) d)

equal_marks-true : (m m' : List Bool) → equal_marks m m' ≡ true → m ≡ m'
equal_marks-true [] [] h = refl
equal_marks-true [] (b ∷ m') h = absurd (false≢true h)
equal_marks-true (a ∷ m) [] h = absurd (false≢true h)
equal_marks-true (true ∷ m) (true ∷ m') h = cc (equal_marks-true m m' h)
equal_marks-true (true ∷ m) (false ∷ m') h = absurd (false≢true h)
equal_marks-true (false ∷ m) (true ∷ m') h = absurd (false≢true h)
equal_marks-true (false ∷ m) (false ∷ m') h = cc (equal_marks-true m m' h)

module _ (rows : List Row) where
  -- A sweep's step at row n.
  abbrev touch : ℕ → List Bool → List Bool
  touch n m = cond (is_marked m n) (mark_all m (fanin_nodes (row_at rows n))) m

  touch-keeps : (n : ℕ) (m : List Bool) → MarksWithin m (touch n m)
  touch-keeps n m = cond-case (MarksWithin m) (is_marked m n) _ _ (λ _. mark_all-keeps m (fanin_nodes (row_at rows n))) (λ _ j h. h)

  touch-length : (n : ℕ) (m : List Bool) → length (touch n m) ≡ length m
  touch-length n m = cond-case (λ x. length x ≡ length m) (is_marked m n) _ _ (λ _. mark_all-length m (fanin_nodes (row_at rows n))) (λ _. refl)

  sweep-keeps : (n : ℕ) (m : List Bool) → MarksWithin m (mark_sweep rows n m)
  unfolding mark_sweep
  sweep-keeps zero m j h = h
  sweep-keeps (suc n) m j h = sweep-keeps n (touch n m) j (touch-keeps n m j h)

  sweep-length : (n : ℕ) (m : List Bool) → length (mark_sweep rows n m) ≡ length m
  unfolding mark_sweep
  sweep-length zero m = refl
  sweep-length (suc n) m = sweep-length n (touch n m) ∙ touch-length n m

  touch-marks : (n : ℕ) (m : List Bool) → EachBelow (length m) (fanin_nodes (row_at rows n)) → is_marked m n ≡ true → AllMarked (touch n m) (fanin_nodes (row_at rows n))
  touch-marks n m a q = rw q (mark_all-marks m (fanin_nodes (row_at rows n)) a)

  module _ (inside : (j : ℕ) → j < length rows → EachBelow (length rows) (fanin_nodes (row_at rows j))) where
    -- Where a sweep adds nothing, the marks are closed.
    sweep-closed : (n : ℕ) → n ≤ length rows → (m : List Bool) → length m ≡ length rows → MarksWithin (mark_sweep rows n m) m → (j : ℕ) → j < n → is_marked m j ≡ true → AllMarked m (fanin_nodes (row_at rows j))
    unfolding mark_sweep
    sweep-closed zero b m e s j l h = absurd (omega arith)
    sweep-closed (suc n) b m e s j l h =
        let back : MarksWithin (touch n m) m = λ x k. s x (sweep-keeps n (touch n m) x k) in
        last_or j n l
        (λ k. all_keep (touch n m) m back (fanin_nodes (row_at rows j))
        (sweep-closed n (omega arith) (touch n m) (touch-length n m ∙ e) (λ x q. touch-keeps n m x (s x q)) j k (touch-keeps n m j h)))
        (λ k. all_keep (touch n m) m back (fanin_nodes (row_at rows j)) (rw k (touch-marks n m (rw e (inside n b)) (rw k at h))))

    all-full : (m : List Bool) → length m ≤ marks m → (js : List ℕ) → EachBelow (length m) js → AllMarked m js
    all-full m h [] a = tt
    all-full m h (j ∷ js) a = (count-full m h j a.0, all-full m h js a.1)

    -- With a sweep for each row that is not marked, the sweeps end.
    fixpoint-closed : (f : ℕ) (m : List Bool) → length m ≡ length rows → length rows ≤ marks m + f → ClosedUnderFanin rows (mark_fixpoint rows f m)
    unfolding mark_fixpoint
    fixpoint-closed zero m e h = λ j l k. all-full m (omega arith) (fanin_nodes (row_at rows j)) (rw e (inside j l))
    fixpoint-closed (suc f) m e h = go (equal_marks m m') refl (fixpoint-closed f m' (sweep-length (length rows) m ∙ e))
      where
        m' : List Bool
        m' = mark_sweep rows (length rows) m

        go : (t : Bool) → equal_marks m m' ≡ t → (length rows ≤ marks m' + f → ClosedUnderFanin rows (mark_fixpoint rows f m')) → ClosedUnderFanin rows (elim t [ true ↦ m | false ↦ mark_fixpoint rows f m' ])
        go true q ih = λ j l k. sweep-closed (length rows) (omega arith) m e (λ x a. subst (λ (y : List Bool). is_marked y x ≡ true) (sym (equal_marks-true m m' q)) a) j l k
        go false q ih = ih (omega (arith, count-more m m' (sym (sweep-length (length rows) m)) (sweep-keeps (length rows) m) q))

  fixpoint-length : (f : ℕ) (m : List Bool) → length (mark_fixpoint rows f m) ≡ length m
  unfolding mark_fixpoint
  fixpoint-length zero m = refl
  fixpoint-length (suc f) m = go (equal_marks m m') (fixpoint-length f m' ∙ sweep-length (length rows) m)
    where
      m' : List Bool
      m' = mark_sweep rows (length rows) m

      go : (t : Bool) → length (mark_fixpoint rows f m') ≡ length m → length {A = Bool} (elim t [ true ↦ m | false ↦ mark_fixpoint rows f m' ]) ≡ length m
      go true q = refl
      go false q = q

  fixpoint-keeps : (f : ℕ) (m : List Bool) → MarksWithin m (mark_fixpoint rows f m)
  unfolding mark_fixpoint
  fixpoint-keeps zero m = λ j h. h
  fixpoint-keeps (suc f) m = go (equal_marks m m') (λ j h. fixpoint-keeps f m' j (sweep-keeps (length rows) m j h))
    where
      m' : List Bool
      m' = mark_sweep rows (length rows) m

      go : (t : Bool) → MarksWithin m (mark_fixpoint rows f m') → MarksWithin m (elim t [ true ↦ m | false ↦ mark_fixpoint rows f m' ])
      go true q = λ j h. h
      go false q = q

root-at : (rows : List Row) (j : ℕ) → j < length rows → is_marked (map is_cone_root rows) j ≡ is_cone_root (row_at rows j)
root-at [] j h = absurd (omega arith)
root-at (r ∷ rows) zero h = refl
root-at (r ∷ rows) (suc j) h = root-at rows j (omega arith)

module _ (rows : List Row) where
  pub cone-length : length (cone_of_influence rows) ≡ length rows
  unfolding cone_of_influence
  cone-length = fixpoint-length rows _ _ ∙ length-map rows is_cone_root

  pub cone-closed : ((j : ℕ) → j < length rows → EachBelow (length rows) (fanin_nodes (row_at rows j))) → ClosedUnderFanin rows (cone_of_influence rows)
  unfolding cone_of_influence
  cone-closed inside = fixpoint-closed rows inside _ _ (length-map rows is_cone_root) (omega arith)

  pub cone-root : (j : ℕ) → j < length rows → is_cone_root (row_at rows j) ≡ true → is_marked (cone_of_influence rows) j ≡ true
  unfolding cone_of_influence
  cone-root j h e = fixpoint-keeps rows _ _ j (root-at rows j h ∙ e)

-- ---- the cone is what is reached

module _ (rows : List Row) where
  abbrev OnlyReached : List Bool → Type 0
  OnlyReached m = (j : ℕ) → is_marked m j ≡ true → Reached rows j

  set-only : (m : List Bool) → OnlyReached m → (i : ℕ) → Reached rows i → OnlyReached (set m i true)
  set-only m o i r j h = elim (ℕ_discrete j i) [
    | yes e ↦ subst (Reached rows) (sym e) r
    | no e ↦ o j (sym (get_or-set_other m i j true false e) ∙ h)
  ]

  mark_all-only : (m : List Bool) → OnlyReached m → (js : List ℕ) → ((i : ℕ) → Among i js → Reached rows i) → OnlyReached (mark_all m js)
  mark_all-only m o [] r = o
  mark_all-only m o (j ∷ js) r = mark_all-only (set m j true) (set-only m o j (r j here)) js (λ i n. r i (there n))

  sweep-only : (n : ℕ) (m : List Bool) → OnlyReached m → OnlyReached (mark_sweep rows n m)
  unfolding mark_sweep
  sweep-only zero m o = o
  sweep-only (suc n) m o =
      sweep-only n _ (cond-case OnlyReached (is_marked m n) (mark_all m (fanin_nodes (row_at rows n))) m
      (λ e. mark_all-only m o (fanin_nodes (row_at rows n)) (λ i k. named n i (o n e) k)) (λ _. o))

  fixpoint-only : (f : ℕ) (m : List Bool) → OnlyReached m → OnlyReached (mark_fixpoint rows f m)
  unfolding mark_fixpoint
  fixpoint-only zero m o = o
  fixpoint-only (suc f) m o = go (equal_marks m m') (fixpoint-only f m' (sweep-only (length rows) m o))
    where
      m' : List Bool
      m' = mark_sweep rows (length rows) m

      go : (t : Bool) → OnlyReached (mark_fixpoint rows f m') → OnlyReached (elim t [ true ↦ m | false ↦ mark_fixpoint rows f m' ])
      go true q = o
      go false q = q

root_in : (rows : List Row) (j : ℕ) → is_marked (map is_cone_root rows) j ≡ true → (j < length rows) × (is_cone_root (row_at rows j) ≡ true)
root_in [] j h = absurd (false≢true h)
root_in (r ∷ rows) zero h = (omega arith, h)
root_in (r ∷ rows) (suc j) h = let k = root_in rows j h in (omega (arith, k.0), k.1)

-- ---- the cone is the least marks that have the roots and are closed

set-within : (m c : List Bool) (j : ℕ) → MarksWithin m c → is_marked c j ≡ true → MarksWithin (set m j true) c
set-within m c j s h x k = elim (ℕ_discrete x j) [
  | yes e ↦ rw e h
  | no e ↦ s x (sym (get_or-set_other m j x true false e) ∙ k)
]

pub mark_all-within : (m c : List Bool) (js : List ℕ) → MarksWithin m c → AllMarked c js → MarksWithin (mark_all m js) c
mark_all-within m c [] s a = s
mark_all-within m c (j ∷ js) s a = mark_all-within (set m j true) c js (set-within m c j s a.0) a.1

module _ (rows : List Row) (c : List Bool) (closed : ClosedUnderFanin rows c) where
  sweep-within : (n : ℕ) → n ≤ length rows → (m : List Bool) → MarksWithin m c → MarksWithin (mark_sweep rows n m) c
  unfolding mark_sweep
  sweep-within zero b m s = s
  sweep-within (suc n) b m s =
      sweep-within n (omega arith) (touch rows n m)
      (cond-case (λ x. MarksWithin x c) (is_marked m n) _ _ (λ e. mark_all-within m c (fanin_nodes (row_at rows n)) s (closed n (omega arith) (s n e))) (λ _. s))

  fixpoint-within : (f : ℕ) (m : List Bool) → MarksWithin m c → MarksWithin (mark_fixpoint rows f m) c
  unfolding mark_fixpoint
  fixpoint-within zero m s = s
  fixpoint-within (suc f) m s = go (equal_marks m m') (fixpoint-within f m' (sweep-within (length rows) (omega arith) m s))
    where
      m' : List Bool
      m' = mark_sweep rows (length rows) m

      go : (t : Bool) → MarksWithin (mark_fixpoint rows f m') c → MarksWithin (elim t [ true ↦ m | false ↦ mark_fixpoint rows f m' ]) c
      go true q = s
      go false q = q

  pub cone-least : ((j : ℕ) → j < length rows → is_cone_root (row_at rows j) ≡ true → is_marked c j ≡ true) → MarksWithin (cone_of_influence rows) c
  unfolding cone_of_influence
  cone-least roots = fixpoint-within _ _ (λ j h. let k = root_in rows j h in roots j k.0 k.1)

all-marked : (m : List Bool) (js : List ℕ) → AllMarked m js → (i : ℕ) → Among i js → is_marked m i ≡ true
all-marked m [] a i x'' = elim x'' [ ]
all-marked m (j ∷ js) a i here = a.0
all-marked m (j ∷ js) a i (there n) = all-marked m js a.1 i n

-- Rows in which the constant is row 0 and no other, and which name only rows that are there.
module _ (rows : List Row)
    (constant-first : 0 < length rows → kind_of (row_at rows 0) ≡ 0)
    (constant-only : (j : ℕ) → j < length rows → kind_of (row_at rows j) ≡ 0 → j ≡ 0)
    (inside : (j : ℕ) → j < length rows → EachBelow (length rows) (fanin_nodes (row_at rows j)))
  where
    root-reached : (j : ℕ) → j < length rows → is_cone_root (row_at rows j) ≡ true → Reached rows j
    root-reached j h e =
        or_case (eqb (kind_of (row_at rows j)) 0) _ e
        (λ q. let z = constant-only j h (eqb-true _ 0 q) in subst (Reached rows) (sym z) (row_zero (omega arith)))
        (λ q. shown j h q)

    reached-root : (j : ℕ) → kind_of (row_at rows j) ≡ 0 → is_cone_root (row_at rows j) ≡ true
    reached-root j e = rw (eq-eqb (kind_of (row_at rows j)) 0 e)

    output-root : (r : Row) → is_output r ≡ true → is_cone_root r ≡ true
    output-root r e = or_right (eqb (kind_of r) 0) (is_output r) e
      where
        or_right : (a b : Bool) → b ≡ true → a || b ≡ true
        or_right true b h = refl
        or_right false b h = h

    reached-marked : (j : ℕ) → Reached rows j → is_marked (cone_of_influence rows) j ≡ true
    reached-marked j (row_zero h) = cone-root rows 0 h (reached-root 0 (constant-first h))
    reached-marked j (shown j' h e) = cone-root rows j' h (output-root (row_at rows j') e)
    reached-marked i (named j i' r n) =
        let k = reached-marked j r in
        all-marked (cone_of_influence rows) (fanin_nodes (row_at rows j)) (cone-closed rows inside j (omega (arith, marked-lt (cone_of_influence rows) j k, cone-length rows)) k) i' n

    -- The cone is what the outputs reach, and row 0.
    pub cone-exact : (j : ℕ) → (is_marked (cone_of_influence rows) j ≡ true) ↔ Reached rows j
    unfolding cone_of_influence
    cone-exact j = (fixpoint-only rows _ _ (λ j h. let k = root_in rows j h in root-reached j k.0 k.1) j, reached-marked j)
