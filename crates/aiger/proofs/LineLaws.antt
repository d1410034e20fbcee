-- Lines: what is read as a line is the bytes of 1 to k numbers, and these bytes are read as the numbers.
-- Assumes nothing.
use Prim.Native.Nat.{ℕ, zero, suc, ◌<◌, ◌≤◌}
use mathlib.Core.Path.{◌≡◌, refl, sym, ap, ◌∙◌, subst₂}
use mathlib.Core.Bool.{Bool, true}
use mathlib.Core.List.{List, [], ◌∷◌, ◌++◌, append_assoc}
use mathlib.Core.Option.{some}
use native.Mathlib.Omega.{arith}
use lib.ListN.{length}
use lib.Dec.{leb}
use borrow.Author.Tests.{leb-true, le-leb, eqb-true}
use Rattle.memory.specs.Lists.{all_of}
use Rattle.memory.proofs.TestLaws.{and-true}
use Rattle.aiger.specs.AigerText.{largest_number, digits, line_bytes}
use Rattle.aiger.specs.AigerReading.{Reading, byte, number, line}
use Rattle.aiger.proofs.ReadingLaws.{Gives, none_is, given-once, byte-is, cond-holds, then-of, then_is}
use Rattle.aiger.proofs.NumberLaws.{NumberText, number_is, number-read}

-- No number is above the largest.
abbrev pub few_of : List ℕ → Bool
few_of ns = all_of (λ n. leb n largest_number) ns

-- 1 to k numbers.
pub record LineSize (k : ℕ) (ns : List ℕ) : Type 0 where
  pub some-numbers : 0 < length ns
  pub at_most : length ns ≤ k

-- ---- what is read is a line's bytes

-- t is the bytes of ns, which are 1 to k numbers, and then r.
pub record LineText (k : ℕ) (t ns r : List ℕ) : Type 0 where
  pub bytes-first : t ≡ line_bytes ns ++ r
  pub size : LineSize k ns
  pub few : few_of ns ≡ true

bytes-more : (n : ℕ) (ns : List ℕ) → 0 < length ns → line_bytes (n ∷ ns) ≡ digits 10 n ++ (32 ∷ line_bytes ns)
bytes-more n [] p = absurd (omega arith)
bytes-more n (m ∷ ns) p = refl

joined : (ds : List ℕ) (b c : ℕ) (s xs r : List ℕ) → b ≡ c → s ≡ xs ++ r → ds ++ (b ∷ s) ≡ (ds ++ (c ∷ xs)) ++ r
joined ds b c s xs r e q = rw (append_assoc, e, q)

line-ends : (k n b : ℕ) (t s q ns r : List ℕ) → NumberText t n s → s ≡ b ∷ q → b ≡ 10 → Gives (some (n ∷ [], q)) ns r → LineText (suc k) t ns r
line-ends k n b t s q ns r N x e h =
    let g = given-once (n ∷ []) ns q r h in
    subst₂ (LineText (suc k) t) g.0 g.1 (record {
      bytes-first = N.bytes-first ∙ ap (λ (y : List ℕ). digits 10 n ++ y) x ∙ joined (digits 10 n) b 10 q [] q e refl;
      size = omega arith;
      few = rw (le-leb n largest_number N.few);
    })

line-goes-on : (k n b : ℕ) (t s q ms p ns r : List ℕ) → NumberText t n s → s ≡ b ∷ q → b ≡ 32 → LineText k q ms p → Gives (some (n ∷ ms, p)) ns r → LineText (suc k) t ns r
line-goes-on k n b t s q ms p ns r N x e L h =
    let g = given-once (n ∷ ms) ns p r h in
    subst₂ (LineText (suc k) t) g.0 g.1 (record {
      bytes-first = N.bytes-first ∙ ap (λ (y : List ℕ). digits 10 n ++ y) x ∙ joined (digits 10 n) b 32 q (line_bytes ms) p e L.bytes-first ∙ ap (λ (y : List ℕ). y ++ p) (sym (bytes-more n ms L.size.some-numbers));
      size = omega (arith, L.size);
      few = rw (le-leb n largest_number N.few) L.few;
    })

pub line-is : (k : ℕ) (t ns r : List ℕ) → Gives (line k t) ns r → LineText k t ns r
unfolding line
line-is zero t ns r h = none_is (ns, r) h
line-is (suc k) t ns r h =
    let ih = line-is k in
    then_is number _ t ns r h (λ n s e h.
    let N = number_is t n s e in
    then_is byte _ s ns r h (λ b q e h.
    let x = byte-is s b q e in
    cond-holds (λ (m : Reading (List ℕ)). Gives (m q) ns r) _ _ _ h
    (λ e h. line-ends k n b t s q ns r N x (eqb-true b 10 e) h)
    (λ _ h.
    cond-holds (λ (m : Reading (List ℕ)). Gives (m q) ns r) _ _ _ h
    (λ e h. then_is (line k) _ q ns r h (λ ms p g h. line-goes-on k n b t s q ms p ns r N x (eqb-true b 32 e) (ih q ms p g) h))
    (λ _ h. none_is (ns, r) h))))

-- ---- a line's bytes are read

pub line-read : (k : ℕ) (ns t : List ℕ) → LineSize k ns → few_of ns ≡ true → Gives (line k (line_bytes ns ++ t)) ns t
unfolding line
line-read zero ns t s u = absurd (omega (arith, s))
line-read (suc k) [] t s u = absurd (omega (arith, s))
line-read (suc k) (n ∷ []) t s u =
    let l = leb-true n largest_number (and-true (leb n largest_number) true u).0 in
    ap (line (suc k)) (append_assoc (digits 10 n) (10 ∷ []) t)
    ∙ then-of number _ (digits 10 n ++ (10 ∷ t)) n (10 ∷ t) (number-read n 10 t l refl)
line-read (suc k) (n ∷ m ∷ ns) t s u =
    let l = and-true (leb n largest_number) (few_of (m ∷ ns)) u in
    let x = line_bytes (m ∷ ns) ++ t in
    ap (line (suc k)) (append_assoc (digits 10 n) (32 ∷ line_bytes (m ∷ ns)) t)
    ∙ then-of number _ (digits 10 n ++ (32 ∷ x)) n (32 ∷ x) (number-read n 32 x (leb-true n largest_number l.0) refl)
    ∙ then-of (line k) _ x (m ∷ ns) t (line-read k (m ∷ ns) t (omega (arith, s)) l.1)
