-- Codes packed four to a byte: one more is put behind them, each is read again, and equal bytes are equal codes.
-- Assumes nothing.
use Prim.Native.Nat.{ℕ, zero, suc, ◌+◌, ◌-◌, ◌*◌, ◌<◌, ◌≤◌, ◌/◌, ◌%◌, ◌^◌}
use mathlib.Core.Path.{◌≡◌, refl, sym, ap, ◌∙◌}
use mathlib.Core.List.{List, [], ◌∷◌, ◌++◌}
use native.Mathlib.Omega.{arith}
use native.Mathlib.Decide.{dec_lt, ℕ_discrete}
use native.Mathlib.Nat.{add_comm, mul_assoc, zero-div, div-eq_of_lt, mod-eq_of_lt, add-mul-div_right, add-mul-mod_self_right, pow-le-pow_right, mul-le-mul_right}
use lib.Arith.{digits_div}
use lib.Pow.{pow_pos, pow-add}
use lib.ListN.{length, get_or, set, length-append, get_or-append, get_or-eq_default}
use lib.Seq.{get_or_at, get_or-set_same, get_or-set_other}
use Rattle.memory.specs.Fields.{IsBytes, byte_at}
use Rattle.netlist.specs.Limits.{most_original_registers}
use Rattle.fold_memory.specs.WorkMap.{state_bytes}
use Rattle.ternary_step.specs.StateMap.{pair_of, code_at, Packed}

-- ---- the pairs of a byte: pair d is put into a byte whose pairs from d on are 0

module _ (b x d : ℕ) (small : b < 2 ^ (d * 2)) (code : x < 4) where
  pair_same : pair_of (b + x * 2 ^ (d * 2)) d ≡ x
  pair_same = ap (λ (n : ℕ). n / 2 ^ (d * 2) % 4) (add_comm b (x * 2 ^ (d * 2))) ∙ ap (λ (n : ℕ). n % 4) (digits_div x small) ∙ mod-eq_of_lt code

  pair-below : (e : ℕ) → e < d → pair_of (b + x * 2 ^ (d * 2)) e ≡ pair_of b e
  pair-below e h =
      let k = d - suc e in
      let K = 2 ^ (k * 2) in
      let E = 2 ^ (e * 2) in
      let p : d * 2 ≡ k * 2 + 2 + e * 2 = omega arith in
      let q : x * 2 ^ (d * 2) ≡ x * K * 4 * E =
      ap (λ (n : ℕ). x * 2 ^ n) p
      ∙ ap (λ (n : ℕ). x * n) (pow-add 2 (k * 2 + 2) (e * 2) ∙ ap (λ (n : ℕ). n * E) (pow-add 2 (k * 2) 2))
      ∙ sym (mul_assoc x (K * 4) E) ∙ ap (λ (n : ℕ). n * E) (sym (mul_assoc x K 4)) in
      ap (λ (n : ℕ). (b + n) / E % 4) q
      ∙ ap (λ (n : ℕ). n % 4) (add-mul-div_right b (x * K * 4) (pow_pos (e * 2)))
      ∙ add-mul-mod_self_right (b / E) (x * K) 4

  pair-above : (e : ℕ) → d < e → pair_of (b + x * 2 ^ (d * 2)) e ≡ pair_of b e
  pair-above e h =
      let D = 2 ^ (d * 2) in
      let f : x * D ≤ 3 * D = mul-le-mul_right D (omega arith) in
      let g : 2 ^ (d * 2 + 2) ≤ 2 ^ (e * 2) = pow-le-pow_right (omega arith) (omega arith) in
      let k : 2 ^ (d * 2 + 2) ≡ D * 4 = pow-add 2 (d * 2) 2 in
      let p : b + x * D < 2 ^ (e * 2) = omega arith in
      let q : b < 2 ^ (e * 2) = omega arith in
      ap (λ (n : ℕ). n % 4) (div-eq_of_lt p ∙ sym (div-eq_of_lt q))

  pair-other : (e : ℕ) → (e ≡ d → ⊥) → pair_of (b + x * 2 ^ (d * 2)) e ≡ pair_of b e
  pair-other e n = elim (dec_lt e d) [ yes h ↦ pair-below e h | no h ↦ pair-above e (omega arith) ]

-- A byte is its pairs.
pairs-sum : (b : ℕ) → b < 2 ^ 8 → pair_of b 0 + 4 * pair_of b 1 + 16 * pair_of b 2 + 64 * pair_of b 3 ≡ b
pairs-sum b h =
    let u : b / 4 ≡ b / 4 % 4 + 4 * (b / 16) = omega arith in
    let v : b / 16 ≡ b / 16 % 4 + 4 * (b / 64) = omega arith in
    let t : b / 64 % 4 ≡ b / 64 = omega arith in
    omega arith

pairs-equal : (a b : ℕ) → a < 2 ^ 8 → b < 2 ^ 8 → ((e : ℕ) → e < 4 → pair_of a e ≡ pair_of b e) → a ≡ b
pairs-equal a b h k p =
    let q : pair_of a 0 + 4 * pair_of a 1 + 16 * pair_of a 2 + 64 * pair_of a 3 ≡ pair_of b 0 + 4 * pair_of b 1 + 16 * pair_of b 2 + 64 * pair_of b 3 =
    rw (p 0 (omega arith), p 1 (omega arith), p 2 (omega arith), p 3 (omega arith)) refl in
    sym (pairs-sum a h) ∙ q ∙ pairs-sum b k

-- A byte whose pairs from d on are 0.
pairs_small : (b d : ℕ) → b < 2 ^ 8 → d < 4 → ((e : ℕ) → d ≤ e → e < 4 → pair_of b e ≡ 0) → b < 2 ^ (d * 2)
pairs_small b zero h l z = omega (arith, pairs-sum b h, z 0 (omega arith) (omega arith), z 1 (omega arith) (omega arith), z 2 (omega arith) (omega arith), z 3 (omega arith) (omega arith))
pairs_small b (suc zero) h l z = omega (arith, pairs-sum b h, z 1 (omega arith) (omega arith), z 2 (omega arith) (omega arith), z 3 (omega arith) (omega arith))
pairs_small b (suc (suc zero)) h l z = omega (arith, pairs-sum b h, z 2 (omega arith) (omega arith), z 3 (omega arith) (omega arith))
pairs_small b (suc (suc (suc zero))) h l z = omega (arith, pairs-sum b h, z 3 (omega arith) (omega arith))
pairs_small b (suc (suc (suc (suc d)))) h l z = absurd (omega arith)

-- ---- codes

append-other : (cs : List ℕ) (x p : ℕ) → (p ≡ length cs → ⊥) → get_or (cs ++ (x ∷ [])) p 0 ≡ get_or cs p 0
append-other cs x p n = elim (dec_lt p (length cs)) [
  | yes h ↦ get_or-append cs (x ∷ []) 0 p h
  | no h ↦ get_or-eq_default (cs ++ (x ∷ [])) 0 {n = p} (simp length-append (omega arith)) ∙ sym (get_or-eq_default cs 0 {n = p} (omega arith))
]

module _ (w : List ℕ) (base : ℕ) where
  -- No codes stand where the bytes are 0.
  pub packed_none : ((k : ℕ) → k < state_bytes → byte_at w (base + k) ≡ 0) → Packed w base []
  packed_none z k e h l = ap (λ (b : ℕ). pair_of b e) (z k h) ∙ ap (λ (n : ℕ). n % 4) (zero-div (2 ^ (e * 2)))

  module _ (cs : List ℕ) (P : Packed w base cs) where
    pub packed-at : (j : ℕ) → j < most_original_registers → code_at w base j ≡ get_or cs j 0
    packed-at j h = let e : 4 * (j / 4) + j % 4 ≡ j = omega arith in P (j / 4) (j % 4) (omega arith) (omega arith) ∙ ap (λ (p : ℕ). get_or cs p 0) e

    -- The byte in which the next code goes has only bits of the codes before it.
    pub packed-small : IsBytes w → length cs < most_original_registers → byte_at w (base + length cs / 4) < 2 ^ (length cs % 4 * 2)
    packed-small bytes h =
        pairs_small (byte_at w (base + length cs / 4)) (length cs % 4) (bytes (base + length cs / 4)) (omega arith)
        (λ e d l. P (length cs / 4) e (omega arith) l ∙ get_or-eq_default cs 0 {n = 4 * (length cs / 4) + e} (omega arith))

    -- The next code.
    pub packed_more : (x : ℕ) → x < 4 → length cs < most_original_registers → base + state_bytes ≤ length w → byte_at w (base + length cs / 4) < 2 ^ (length cs % 4 * 2)
        → Packed (set w (base + length cs / 4) (byte_at w (base + length cs / 4) + x * 2 ^ (length cs % 4 * 2))) base (cs ++ (x ∷ []))
    packed_more x c h room s k e l m = elim (ℕ_discrete k (length cs / 4)) [
      | yes q ↦ rw q (ap (λ (n : ℕ). pair_of n e) (get_or-set_same w p v 0 (omega arith)) ∙ here (ℕ_discrete e (length cs % 4)))
      | no q ↦
          ap (λ (n : ℕ). pair_of n e) (get_or-set_other w p (base + k) v 0 (λ (z : base + k ≡ p). q (omega arith)))
          ∙ P k e l m ∙ sym (append-other cs x (4 * k + e) (λ (z : 4 * k + e ≡ length cs). q (omega arith)))
    ]
      where
        p : ℕ
        p = base + length cs / 4

        v : ℕ
        v = byte_at w (base + length cs / 4) + x * 2 ^ (length cs % 4 * 2)

        here : Dec (e ≡ length cs % 4) → pair_of (byte_at w (base + length cs / 4) + x * 2 ^ (length cs % 4 * 2)) e ≡ get_or (cs ++ (x ∷ [])) (4 * (length cs / 4) + e) 0
        here (yes q) = rw q (pair_same (byte_at w (base + length cs / 4)) x (length cs % 4) s c ∙ sym (get_or_at cs x [] 0 (4 * (length cs / 4) + length cs % 4) (omega arith)))
        here (no q) =
            pair-other (byte_at w (base + length cs / 4)) x (length cs % 4) s c e q
            ∙ P (length cs / 4) e (omega arith) m ∙ sym (append-other cs x (4 * (length cs / 4) + e) (λ (z : 4 * (length cs / 4) + e ≡ length cs). q (omega arith)))

    -- Other bytes may change.
    pub packed-kept : (w' : List ℕ) → ((k : ℕ) → k < state_bytes → byte_at w' (base + k) ≡ byte_at w (base + k)) → Packed w' base cs
    packed-kept w' s k e h l = ap (λ (n : ℕ). pair_of n e) (s k h) ∙ P k e h l

-- Equal codes are equal bytes.
pub packed-bytes : (w : List ℕ) (p q : ℕ) (cs : List ℕ) → IsBytes w → Packed w p cs → Packed w q cs → (k : ℕ) → k < state_bytes → byte_at w (p + k) ≡ byte_at w (q + k)
packed-bytes w p q cs bytes P Q k h = pairs-equal (byte_at w (p + k)) (byte_at w (q + k)) (bytes (p + k)) (bytes (q + k)) (λ e l. P k e h l ∙ sym (Q k e h l))
