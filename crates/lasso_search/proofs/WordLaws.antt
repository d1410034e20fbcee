-- Two states are equal exactly if the words that hold them are.
-- Assumes nothing.
use Prim.Native.Nat.{ℕ, ◌+◌, ◌-◌, ◌*◌, ◌<◌, ◌≤◌, ◌/◌, ◌%◌, ◌^◌}
use mathlib.Core.Path.{◌≡◌, refl, sym, ap, ap₂, ◌∙◌, subst}
use mathlib.Core.Bool.{Bool, true, false}
use mathlib.Core.List.{List}
use native.Mathlib.Omega.{arith}
use native.Mathlib.Decide.{dec_lt}
use borrow.Author.Tests.{eqb-true, eq-eqb, ne_eqb}
use lib.ListN.{length}
use lib.Seq.{ext_get_or}
use Rattle.memory.specs.Lists.{all_below, count_if}
use Rattle.memory.specs.Fields.{IsBytes, byte_at, u32_at, u32_bytes}
use Rattle.memory.proofs.ListLaws.{all_below-at, all_below-of, all_below-no, count-place}
use Rattle.memory.proofs.FieldLaws.{u32-small, u32-read, u32-write}
use Rattle.ternary.specs.Ternary.{Ternary, lo, code_of, value_of}
use Rattle.ternary.proofs.RuleLaws.{value-of-code}
use Rattle.netlist.specs.Limits.{most_original_registers}
use Rattle.netlist.specs.Rows.{Row, row_at, is_register, constant}
use Rattle.lasso.specs.TernaryRun.{ternary_state}
use Rattle.lasso.specs.LassoSearch.{equal_states}
use Rattle.lasso.specs.Generators.{state_value}
use Rattle.lasso.proofs.LassoLaws.{states-equal, states-same}
use Rattle.ternary_step.specs.StateMap.{pair_of, code_at, Packed, registers_before, state_codes, Stored}
use Rattle.ternary_step.proofs.CodeLaws.{packed-at, packed-bytes}
use Rattle.ternary_step.proofs.RegisterLaws.{codes_at, state-other, state-length}
use Rattle.fold_memory.specs.WorkMap.{state_offset}
use Rattle.lasso_search.specs.SearchStage.{word_at, same_word}

-- ---- eight bytes

-- Word k behind a and word k behind b, read as x and y.
module _ (w : List ℕ) (a b k x y : ℕ) (at_a : x ≡ word_at w (a + 8 * k)) (at_b : y ≡ word_at w (b + 8 * k)) where
  words-differ : (x ≡ y → ⊥) → same_word w a b k ≡ false
  words-differ n = ne_eqb (word_at w (a + 8 * k)) (word_at w (b + 8 * k)) (λ (e : word_at w (a + 8 * k) ≡ word_at w (b + 8 * k)). n (at_a ∙ e ∙ sym at_b))

  pub states-differ : (words : ℕ) → k < words → (x ≡ y → ⊥) → false ≡ all_below words (same_word w a b)
  states-differ words h n = sym (all_below-no words (same_word w a b) k h (words-differ n))

  pub words-agree : x ≡ y → same_word w a b k ≡ true
  words-agree e = eq-eqb (word_at w (a + 8 * k)) (word_at w (b + 8 * k)) (sym at_a ∙ e ∙ at_b)

pub states-agree : (w : List ℕ) (a b k words : ℕ) → k ≤ words → words ≤ k → all_below k (same_word w a b) ≡ true → true ≡ all_below words (same_word w a b)
states-agree w a b k words h l e = let q : k ≡ words = omega arith in sym e ∙ ap (λ (n : ℕ). all_below n (same_word w a b)) q

module _ (w : List ℕ) (bytes : IsBytes w) (p q : ℕ) where
  four_bytes : u32_at w p ≡ u32_at w q → (d : ℕ) → d < 4 → byte_at w (p + d) ≡ byte_at w (q + d)
  four_bytes e d h = sym (u32-write w p bytes d h) ∙ ap (λ (n : ℕ). byte_at (u32_bytes n) d) e ∙ u32-write w q bytes d h

  four_same : ((d : ℕ) → d < 4 → byte_at w (p + d) ≡ byte_at w (q + d)) → u32_at w p ≡ u32_at w q
  four_same e = u32-read w p (u32_at w q) (u32-small w q bytes) (λ d h. e d h ∙ sym (u32-write w q bytes d h))

module _ (w : List ℕ) (bytes : IsBytes w) (p q : ℕ) where
  -- Byte 4 + d behind an offset is byte d behind the offset 4 on.
  four-on : (o d : ℕ) → byte_at w (o + 4 + d) ≡ byte_at w (o + (4 + d))
  four-on o d = let e : o + 4 + d ≡ o + (4 + d) = omega arith in ap (byte_at w) e

  word_bytes : word_at w p ≡ word_at w q → (d : ℕ) → d < 8 → byte_at w (p + d) ≡ byte_at w (q + d)
  word_bytes e d h =
      let s = u32-small w p bytes in
      let t = u32-small w q bytes in
      let low : u32_at w p ≡ u32_at w q = omega arith in
      let high : u32_at w (p + 4) ≡ u32_at w (q + 4) = omega arith in
      elim (dec_lt d 4) [
        | yes l ↦ four_bytes w bytes p q low d l
        | no l ↦
            (let k : 4 + (d - 4) ≡ d = omega arith in
            subst (λ (n : ℕ). byte_at w (p + n) ≡ byte_at w (q + n)) k (sym (four-on p (d - 4)) ∙ four_bytes w bytes (p + 4) (q + 4) high (d - 4) (omega arith) ∙ four-on q (d - 4)))
      ]

  word_same : ((d : ℕ) → d < 8 → byte_at w (p + d) ≡ byte_at w (q + d)) → word_at w p ≡ word_at w q
  word_same e =
      ap₂ (λ (x y : ℕ). x + 2 ^ 32 * y) (four_same w bytes p q (λ d h. e d (omega arith)))
      (four_same w bytes (p + 4) (q + 4) (λ d h. four-on p d ∙ e (4 + d) (omega arith) ∙ sym (four-on q d)))

-- ---- states

module _ (rows : List Row) (w : List ℕ) (bytes : IsBytes w) (few : count_if is_register rows ≤ most_original_registers) (a b words : ℕ) (A : Stored rows w a) (B : Stored rows w b) (size : words ≡ (count_if is_register rows + 31) / 32) where
  abbrev same : Bool
  same = all_below words (same_word w (state_offset a) (state_offset b))

  byte-same : all_below words (same_word w (state_offset a) (state_offset b)) ≡ true → (k : ℕ) → k < 8 * words → byte_at w (state_offset a + k) ≡ byte_at w (state_offset b + k)
  byte-same h k l =
      let e = word_bytes w bytes (state_offset a + 8 * (k / 8)) (state_offset b + 8 * (k / 8)) (eqb-true _ _ (all_below-at words (same_word w (state_offset a) (state_offset b)) h (k / 8) (omega arith))) (k % 8) (omega arith) in
      let x : state_offset a + 8 * (k / 8) + k % 8 ≡ state_offset a + k = omega arith in
      let y : state_offset b + 8 * (k / 8) + k % 8 ≡ state_offset b + k = omega arith in
      sym (ap (byte_at w) x) ∙ e ∙ ap (byte_at w) y

  value_same : all_below words (same_word w (state_offset a) (state_offset b)) ≡ true → (i : ℕ) → i < length rows → (t : Bool) → is_register (row_at rows i) ≡ t → state_value rows i a ≡ state_value rows i b
  value_same h i l true e =
      let j = registers_before rows i in
      let s = count-place is_register constant rows i l e in
      let at : (t : ℕ) → Stored rows w t → code_at w (state_offset t) j ≡ code_of (state_value rows i t) =
      λ t S. packed-at w (state_offset t) (state_codes rows t (length rows)) S j (omega arith) ∙ codes_at rows t (length rows) i (omega arith) l e in
      let c : code_of (state_value rows i a) ≡ code_of (state_value rows i b) = sym (at a A) ∙ ap (λ (n : ℕ). pair_of n (j % 4)) (byte-same h (j / 4) (omega arith)) ∙ at b B in
      sym (value-of-code (state_value rows i a)) ∙ ap value_of c ∙ value-of-code (state_value rows i b)
  value_same h i l false e = state-other rows a i e ∙ sym (state-other rows b i e)

  state-same : all_below words (same_word w (state_offset a) (state_offset b)) ≡ true → ternary_state rows a ≡ ternary_state rows b
  state-same h =
      ext_get_or lo (ternary_state rows a) (ternary_state rows b) (state-length rows a ∙ sym (state-length rows b))
      (λ i l. value_same h i (omega (arith, l, state-length rows a)) (is_register (row_at rows i)) refl)

  words_same : ternary_state rows a ≡ ternary_state rows b → all_below words (same_word w (state_offset a) (state_offset b)) ≡ true
  unfolding state_codes
  words_same e =
      let P : Packed w (state_offset b) (state_codes rows a (length rows)) = rw e B in
      all_below-of words (same_word w (state_offset a) (state_offset b)) (λ k h.
      eq-eqb _ _ (word_same w bytes (state_offset a + 8 * k) (state_offset b + 8 * k) (λ d l.
      let x : state_offset a + 8 * k + d ≡ state_offset a + (8 * k + d) = omega arith in
      let y : state_offset b + 8 * k + d ≡ state_offset b + (8 * k + d) = omega arith in
      ap (byte_at w) x ∙ packed-bytes w (state_offset a) (state_offset b) (state_codes rows a (length rows)) bytes A P (8 * k + d) (omega arith) ∙ sym (ap (byte_at w) y))))

  pub same-states : all_below words (same_word w (state_offset a) (state_offset b)) ≡ equal_states (ternary_state rows a) (ternary_state rows b)
  same-states = go (all_below words (same_word w (state_offset a) (state_offset b))) refl (equal_states (ternary_state rows a) (ternary_state rows b)) refl
    where
      go : (t : Bool) → all_below words (same_word w (state_offset a) (state_offset b)) ≡ t → (u : Bool) → equal_states (ternary_state rows a) (ternary_state rows b) ≡ u → t ≡ u
      go true h true k = refl
      go true h false k = sym (subst (λ (s : List Ternary). equal_states (ternary_state rows a) s ≡ true) (state-same h) (states-same (ternary_state rows a))) ∙ k
      go false h true k = sym h ∙ words_same (states-equal (ternary_state rows a) (ternary_state rows b) k)
      go false h false k = refl
