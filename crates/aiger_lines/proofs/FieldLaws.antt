-- A line and a header read field by field.
-- Assumes nothing.
use Prim.Native.Nat.{ℕ, suc}
use mathlib.Core.Path.{◌≡◌, refl, ◌∙◌, sym}
use mathlib.Core.Bool.{Bool, true, false, cond}
use mathlib.Core.List.{List, [], ◌∷◌}
use mathlib.Core.Option.{none, some}
use lib.Dec.{eqb}
use lib.ListN.{drop}
use Rattle.aiger.specs.AigerReading.{Reading, ◌>>=◌, done, nothing, byte, number, line}
use Rattle.aiger_lines.specs.declared.Field.{Field}
use Rattle.aiger_lines.specs.declared.Field.TheVariants as fields
use Rattle.aiger_lines.specs.Lines.{field, field_read}
use Rattle.aiger_lines.proofs.ReadingLaws.{after_none, after-some, after_same, after-after, after-done, byte_of}

-- ---- a line, its numbers handed to f

-- What follows the number n of a line.
abbrev pub line_after : ℕ → ℕ → Reading (List ℕ)
line_after k n = byte >>= λ b. cond (eqb b 10) (done (n ∷ [])) (cond (eqb b 32) (line k >>= λ ns. done (n ∷ ns)) nothing)

-- A line from its first field on.
abbrev line_on : {B : Type 0} → (List ℕ → Reading B) → ℕ → ℕ × Bool → Reading B
line_on f k q = cond q.1 (f (q.0 ∷ [])) (line k >>= λ ns. f (q.0 ∷ ns))

module _ {B : Type 0} (f : List ℕ → Reading B) (k : ℕ) where
  on-byte : (n : ℕ) (u : List ℕ) → (line_after k n >>= f) u ≡ (byte_of n >>= line_on f k) u
  on-byte n [] = refl
  on-byte n (b ∷ u) = of (eqb b 10) (eqb b 32)
    where
      of :
          (c d : Bool)
          → (cond c (done (n ∷ [])) (cond d (line k >>= λ ns. done (n ∷ ns)) nothing) >>= f) u
          ≡ (cond c (done (n, true)) (cond d (done (n, false)) nothing) >>= line_on f k) u
      of true d = refl
      of false true = after-after (line k) (λ ns. done (n ∷ ns)) f u
      of false false = refl

  by_field : (t : List ℕ) → (line (suc k) >>= f) t ≡ (field >>= line_on f k) t
  unfolding line
  by_field t =
      after-after number (line_after k) f t
      ∙ after_same number (λ n. line_after k n >>= f) t (λ n. byte_of n >>= line_on f k) on-byte
      ∙ sym (after-after number byte_of (line_on f k) t)

  module _ (text : List ℕ) (at : ℕ) (r : Field) (read : field_read text r ≡ field (drop at text)) where
    pub line_other : r ≡ fields.Other → (line (suc k) >>= f) (drop at text) ≡ none
    line_other s = by_field (drop at text) ∙ after_none field (line_on f k) (drop at text) (sym (rw s at read))

    pub line-last : (v e : ℕ) → r ≡ fields.Last v e → (line (suc k) >>= f) (drop at text) ≡ f (v ∷ []) (drop e text)
    line-last v e s = by_field (drop at text) ∙ after-some field (line_on f k) (drop at text) (v, true) (drop e text) (sym (rw s at read))

    pub line-next : (v e : ℕ) → r ≡ fields.Next v e → (line (suc k) >>= f) (drop at text) ≡ (line k >>= λ ns. f (v ∷ ns)) (drop e text)
    line-next v e s = by_field (drop at text) ∙ after-some field (line_on f k) (drop at text) (v, false) (drop e text) (sym (rw s at read))

-- ---- a line of one to three numbers

module _ (text : List ℕ) (at : ℕ) (r₁ : Field) (read₁ : field_read text r₁ ≡ field (drop at text)) where
  pub none_first : r₁ ≡ fields.Other → none ≡ line 3 (drop at text)
  none_first s = sym (after-done (line 3) (drop at text) ∙ line_other done 2 text at r₁ read₁ s)

  pub one_number : (v e : ℕ) → r₁ ≡ fields.Last v e → some (v ∷ [], drop e text) ≡ line 3 (drop at text)
  one_number v e s = sym (after-done (line 3) (drop at text) ∙ line-last done 2 text at r₁ read₁ v e s)

  module _ (v e : ℕ) (s₁ : r₁ ≡ fields.Next v e) (r₂ : Field) (read₂ : field_read text r₂ ≡ field (drop e text)) where
    so_far : line 3 (drop at text) ≡ (line 2 >>= λ ns. done (v ∷ ns)) (drop e text)
    so_far = after-done (line 3) (drop at text) ∙ line-next done 2 text at r₁ read₁ v e s₁

    pub none-second : r₂ ≡ fields.Other → none ≡ line 3 (drop at text)
    none-second s = sym (so_far ∙ line_other (λ ns. done (v ∷ ns)) 1 text e r₂ read₂ s)

    pub two-numbers : (w d : ℕ) → r₂ ≡ fields.Last w d → some (v ∷ w ∷ [], drop d text) ≡ line 3 (drop at text)
    two-numbers w d s = sym (so_far ∙ line-last (λ ns. done (v ∷ ns)) 1 text e r₂ read₂ w d s)

    module _ (w d : ℕ) (s₂ : r₂ ≡ fields.Next w d) (r₃ : Field) (read₃ : field_read text r₃ ≡ field (drop d text)) where
      so-far-2 : line 3 (drop at text) ≡ (line 1 >>= λ ns. done (v ∷ w ∷ ns)) (drop d text)
      so-far-2 = so_far ∙ line-next (λ ns. done (v ∷ ns)) 1 text e r₂ read₂ w d s₂

      pub none-third : r₃ ≡ fields.Other → none ≡ line 3 (drop at text)
      none-third s = sym (so-far-2 ∙ line_other (λ ns. done (v ∷ w ∷ ns)) 0 text d r₃ read₃ s)

      pub three-numbers : (z c : ℕ) → r₃ ≡ fields.Last z c → some (v ∷ w ∷ z ∷ [], drop c text) ≡ line 3 (drop at text)
      three-numbers z c s = sym (so-far-2 ∙ line-last (λ ns. done (v ∷ w ∷ ns)) 0 text d r₃ read₃ z c s)

      pub four-numbers : (z c : ℕ) → r₃ ≡ fields.Next z c → none ≡ line 3 (drop at text)
      unfolding line
      four-numbers z c s = sym (so-far-2 ∙ line-next (λ ns. done (v ∷ w ∷ ns)) 0 text d r₃ read₃ z c s)
