-- Counts of uses: windows one after the other are counted as one, and if as many uses have a node as there are, all have one.
-- Assumes nothing.
use Prim.Native.Nat.{ℕ, zero, suc, ◌+◌, ◌-◌, ◌*◌, ◌<◌, ◌≤◌, ◌/◌}
use mathlib.Core.Path.{◌≡◌, refl, ap, ap₂, ◌∙◌}
use mathlib.Core.Bool.{Bool, true, false, cond, ◌&&◌}
use mathlib.Core.List.{List, [], ◌∷◌}
use native.Mathlib.Omega.{arith}
use native.Mathlib.Decide.{dec_lt, ℕ_discrete}
use native.Mathlib.Nat.{sub-zero}
use native.Mathlib.Numerals.{add-one}
use lib.ListN.{length}
use lib.Dec.{eqb, ltb}
use borrow.Author.Tests.{lt-ltb, le-ltb, eq-eqb, ne_eqb}
use Rattle.memory.specs.Lists.{all_below, all_of, count_if}
use Rattle.memory.proofs.ListLaws.{count-le}
use Rattle.aiger.specs.AigerText.{Aiger, Section, input_line, latch_line, output_line, gate_line, line_count, line_at, section_of, uses_in, uses_of, node_count, node_among, is_defined}
use Rattle.aiger_names.specs.Names.{node_in, uses_found, lines_found, use_count, DistinctBelow}
use Rattle.aiger_names.proofs.LineRowLaws.{section-case}
use Rattle.aiger_names.proofs.WindowLaws.{among-has, among-least, distinct-zero, found_before}

-- ---- counts of lists

count_add : {A : Type 0} (f g h : A → Bool) → ((x : A) → cond (f x) 1 0 + cond (g x) 1 0 ≡ cond (h x) 1 0) → (xs : List A) → count_if f xs + count_if g xs ≡ count_if h xs
count_add f g h e [] = refl
count_add f g h e (x ∷ xs) = omega (arith, e x, count_add f g h e xs)

-- Two sums are equal exactly if their parts are.
parts-eqb : (a b c d m n : ℕ) → m ≡ a + b → n ≡ c + d → a ≤ c → b ≤ d → eqb m n ≡ eqb a c && eqb b d
parts-eqb a b c d m n p q h k = elim (ℕ_discrete a c) [
  | yes e ↦ elim (ℕ_discrete b d) [
    | yes f ↦ rw (eq-eqb m n (omega arith), eq-eqb a c e, eq-eqb b d f)
    | no f ↦ rw (ne_eqb m n (λ r. f (omega arith)), eq-eqb a c e, ne_eqb b d f)
  ]
  | no e ↦ rw (ne_eqb m n (λ r. e (omega arith)), ne_eqb a c e)
]

-- All are counted exactly if f holds of each.
count-all : {A : Type 0} (f : A → Bool) (xs : List A) → eqb (count_if f xs) (length xs) ≡ all_of f xs
count-all f [] = refl
count-all f (x ∷ xs) = go (f x) (count-all f xs)
  where
    go : (t : Bool) → eqb (count_if f xs) (length xs) ≡ all_of f xs → eqb (cond t 1 0 + count_if f xs) (suc (length xs)) ≡ t && all_of f xs
    go true q = parts-eqb 1 (count_if f xs) 1 (length xs) (1 + count_if f xs) (suc (length xs)) refl (omega arith) (omega arith) (count-le f xs) ∙ q
    go false q = ne_eqb (0 + count_if f xs) (suc (length xs)) (λ r. omega (arith, count-le f xs))

-- ---- windows one after the other

module _ (a : Aiger) (s e : ℕ) (D : DistinctBelow a e) (o : s ≤ e) (inside : e ≤ node_count a.header) where
  use-split : (u : ℕ) → cond (ltb (node_in a 0 s u) s) 1 0 + cond (ltb (node_in a s e u) e) 1 0 ≡ cond (ltb (node_in a 0 e u) e) 1 0
  use-split u = elim (dec_lt (node_in a 0 s u) s) [
    | yes l ↦ (
        let p = among-has a 0 s (u / 2) l in
        let k = among-least a 0 e (u / 2) (node_in a 0 s u) (omega arith) p in
        rw (lt-ltb (node_in a 0 s u) s l, le-ltb (node_in a s e u) e (found_before a s e (u / 2) (node_in a 0 s u) D inside l (omega arith) p), lt-ltb (node_in a 0 e u) e (omega arith)))
    | no l ↦ rw (le-ltb (node_in a 0 s u) s (omega arith)) (elim (dec_lt (node_in a s e u) e) [
      | yes k ↦ (
          let m = among-least a 0 e (u / 2) (node_in a s e u) (omega arith) (among-has a s e (u / 2) k) in
          rw (lt-ltb (node_in a s e u) e k, lt-ltb (node_in a 0 e u) e (omega arith)))
      | no k ↦ rw (le-ltb (node_in a s e u) e (omega arith), le-ltb (node_in a 0 e u) e (nowhere l k))
    ])
  ]
    where
      nowhere : ¬ (node_in a 0 s u < s) → ¬ (node_in a s e u < e) → e ≤ node_in a 0 e u
      nowhere l k = elim (dec_lt (node_in a 0 e u) e) [
        | yes m ↦ (
            let p = among-has a 0 e (u / 2) m in
            elim (dec_lt (node_in a 0 e u) s) [
              | yes b ↦ absurd (omega (arith, among-least a 0 s (u / 2) (node_in a 0 e u) (omega arith) p))
              | no b ↦ absurd (omega (arith, among-least a s e (u / 2) (node_in a 0 e u) (omega arith) p))
            ])
        | no m ↦ omega arith
      ]

  pub found-split : (m : ℕ) → lines_found a 0 s m + lines_found a s e m ≡ lines_found a 0 e m
  unfolding lines_found
  found-split zero = refl
  found-split (suc m) = omega (arith, found-split m, count_add (λ (u : ℕ). ltb (node_in a 0 s u) s) (λ (u : ℕ). ltb (node_in a s e u) e) (λ (u : ℕ). ltb (node_in a 0 e u) e) use-split (uses_of a m))

-- ---- all uses

uses-most : (s : Section) (ns : List ℕ) → length (uses_in s ns) ≤ 2
uses-most input_line ns = omega arith
uses-most latch_line ns = omega arith
uses-most output_line ns = omega arith
uses-most gate_line ns = omega arith

module _ (a : Aiger) where
  pub uses-few : (k : ℕ) → length (uses_of a k) ≤ 2
  uses-few k = uses-most (section_of a.header k) (line_at a k)

  -- How many uses the first m lines have: each line after the inputs has one, and each gate another one.
  abbrev uses_below : ℕ → ℕ
  uses_below m = (m - a.header.inputs) + (m - (a.header.inputs + a.header.latches + a.header.outputs))

  uses-next : (m : ℕ) → uses_below (suc m) ≡ uses_below m + length (uses_of a m)
  uses-next m =
      section-case a.header m (λ s. uses_below (suc m) ≡ uses_below m + length (uses_in s (line_at a m)))
      (λ l. omega arith) (λ l k. omega arith) (λ l k. omega arith) (λ l. omega arith)

  module _ (s e : ℕ) where
    uses-found : (k : ℕ) → uses_found a s e k ≤ length (uses_of a k)
    uses-found k = count-le (λ u. ltb (node_in a s e u) e) (uses_of a k)

    found-upto : (m : ℕ) → lines_found a s e m ≤ uses_below m
    unfolding lines_found
    found-upto zero = omega arith
    found-upto (suc m) = omega (arith, found-upto m, uses-next m, uses-found m)

    found-eqb : (m : ℕ) → eqb (lines_found a s e m) (uses_below m) ≡ all_below m (λ k. all_of (λ u. ltb (node_in a s e u) e) (uses_of a k))
    unfolding lines_found
    found-eqb zero = eq-eqb 0 (uses_below 0) (omega arith)
    found-eqb (suc m) =
        parts-eqb (lines_found a s e m) (uses_found a s e m) (uses_below m) (length (uses_of a m)) _ _ refl (uses-next m) (found-upto m) (uses-found m)
        ∙ ap₂ ◌&&◌ (found-eqb m) (count-all (λ u. ltb (node_in a s e u) e) (uses_of a m))

    -- No line.
    pub found-start : lines_found a s e 0 ≡ 0
    unfolding lines_found
    found-start = refl

    -- One line more.
    pub found-next : (m m' n r : ℕ) → n ≡ lines_found a s e m → r ≡ uses_found a s e m → m' ≡ m + 1 → n + r ≡ lines_found a s e m'
    unfolding lines_found
    found-next m m' n r p q t = rw (t, add-one m, p, q)

    pub found-few : (k : ℕ) → uses_found a s e k ≤ 2
    found-few k = omega (arith, uses-few k, uses-found k)

    pub found-most : (m : ℕ) → lines_found a s e m ≤ 2 * m
    found-most m = omega (arith, found-upto m)

  -- A window without nodes.
  pub found_none : (m : ℕ) → lines_found a 0 0 m ≡ 0
  found_none m = omega (arith, found-split a 0 0 (distinct-zero a) (omega arith) (omega arith) m)

  -- All uses have a node exactly if as many have one as there are uses.
  pub found_all : eqb (lines_found a 0 (node_count a.header) (line_count a.header)) (use_count a.header) ≡ is_defined a
  unfolding is_defined
  found_all =
      let n = node_count a.header in
      let m = line_count a.header in
      let all : use_count a.header ≡ uses_below m = omega arith in
      ap (eqb (lines_found a 0 n m)) all
      ∙ found-eqb 0 n m
      ∙ ap (λ (c : ℕ). all_below m (λ k. all_of (λ u. ltb (node_among a 0 c (u / 2)) n) (uses_of a k))) (sub-zero n)
