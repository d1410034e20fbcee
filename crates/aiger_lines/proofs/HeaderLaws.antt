-- A header read field by field: four numbers with a space after each, and a fifth that ends its line.
-- Assumes nothing.
use Prim.Native.Nat.{ℕ, suc}
use mathlib.Core.Path.{◌≡◌, refl, ◌∙◌, sym}
use mathlib.Core.Bool.{Bool, false, true, not}
use mathlib.Core.List.{List, [], ◌∷◌}
use mathlib.Core.Option.{none, some}
use borrow.Author.Tests.{not-true, not-false}
use lib.ListN.{drop}
use Rattle.aiger.specs.AigerText.{Header, opening}
use Rattle.aiger.specs.AigerReading.{Reading, ◌>>=◌, line, starts_with, header_of, header}
use Rattle.aiger_lines.specs.declared.Field.{Field}
use Rattle.aiger_lines.specs.declared.Field.TheVariants as fields
use Rattle.aiger_lines.specs.Lines.{field, field_read}
use Rattle.aiger_lines.proofs.FieldLaws.{line_other, line-last, line-next}

-- The field is none with a space after it; it is none that ends its line.
abbrev pub NotNext : Field → Type 0
NotNext r = (v e : ℕ) → r ≡ fields.Next v e → ⊥

abbrev pub NotLast : Field → Type 0
NotLast r = (v e : ℕ) → r ≡ fields.Last v e → ⊥

module _ (f : List ℕ → Reading Header) (text : List ℕ) (at : ℕ) where
  ends-early : (k : ℕ) → ((v : ℕ) (u : List ℕ) → f (v ∷ []) u ≡ none) → (r : Field) → field_read text r ≡ field (drop at text) → NotNext r → none ≡ (line (suc k) >>= f) (drop at text)
  ends-early k few (fields.Next v e) read n = absurd (n v e refl)
  ends-early k few (fields.Last v e) read n = sym (line-last f k text at (fields.Last v e) read v e refl ∙ few v (drop e text))
  ends-early k few fields.Other read n = sym (line_other f k text at fields.Other read refl)

  goes_on : (r : Field) → field_read text r ≡ field (drop at text) → NotLast r → none ≡ (line 1 >>= f) (drop at text)
  unfolding line
  goes_on (fields.Next v e) read n = sym (line-next f 0 text at (fields.Next v e) read v e refl)
  goes_on (fields.Last v e) read n = absurd (n v e refl)
  goes_on fields.Other read n = sym (line_other f 0 text at fields.Other read refl)

module _ (text : List ℕ) (b : Bool) (o : b ≡ starts_with opening text) where
  pub not_opened : not b ≡ true → none ≡ header text
  unfolding header
  not_opened n = let e : starts_with opening text ≡ false = sym o ∙ not-true b n in rw (header, e)

  module _ (n : not b ≡ false) (r₁ : Field) (read₁ : field_read text r₁ ≡ field (drop 4 text)) where
    opened : header text ≡ (line 5 >>= header_of) (drop 4 text)
    unfolding header
    opened = let e : starts_with opening text ≡ true = sym o ∙ not-false b n in rw (header, e)

    pub no-maximum : NotNext r₁ → none ≡ header text
    no-maximum s = ends-early header_of text 4 4 (λ v u. refl) r₁ read₁ s ∙ sym opened

    module _ (m e₁ : ℕ) (s₁ : r₁ ≡ fields.Next m e₁) (r₂ : Field) (read₂ : field_read text r₂ ≡ field (drop e₁ text)) where
      after-maximum : header text ≡ (line 4 >>= λ ns. header_of (m ∷ ns)) (drop e₁ text)
      after-maximum = opened ∙ line-next header_of 4 text 4 r₁ read₁ m e₁ s₁

      pub no-inputs : NotNext r₂ → none ≡ header text
      no-inputs s = ends-early (λ ns. header_of (m ∷ ns)) text e₁ 3 (λ v u. refl) r₂ read₂ s ∙ sym after-maximum

      module _ (i e₂ : ℕ) (s₂ : r₂ ≡ fields.Next i e₂) (r₃ : Field) (read₃ : field_read text r₃ ≡ field (drop e₂ text)) where
        after-inputs : header text ≡ (line 3 >>= λ ns. header_of (m ∷ i ∷ ns)) (drop e₂ text)
        after-inputs = after-maximum ∙ line-next (λ ns. header_of (m ∷ ns)) 3 text e₁ r₂ read₂ i e₂ s₂

        pub no-latches : NotNext r₃ → none ≡ header text
        no-latches s = ends-early (λ ns. header_of (m ∷ i ∷ ns)) text e₂ 2 (λ v u. refl) r₃ read₃ s ∙ sym after-inputs

        module _ (l e₃ : ℕ) (s₃ : r₃ ≡ fields.Next l e₃) (r₄ : Field) (read₄ : field_read text r₄ ≡ field (drop e₃ text)) where
          after-latches : header text ≡ (line 2 >>= λ ns. header_of (m ∷ i ∷ l ∷ ns)) (drop e₃ text)
          after-latches = after-inputs ∙ line-next (λ ns. header_of (m ∷ i ∷ ns)) 2 text e₂ r₃ read₃ l e₃ s₃

          pub no-outputs : NotNext r₄ → none ≡ header text
          no-outputs s = ends-early (λ ns. header_of (m ∷ i ∷ l ∷ ns)) text e₃ 1 (λ v u. refl) r₄ read₄ s ∙ sym after-latches

          module _ (o' e₄ : ℕ) (s₄ : r₄ ≡ fields.Next o' e₄) (r₅ : Field) (read₅ : field_read text r₅ ≡ field (drop e₄ text)) where
            after-outputs : header text ≡ (line 1 >>= λ ns. header_of (m ∷ i ∷ l ∷ o' ∷ ns)) (drop e₄ text)
            after-outputs = after-latches ∙ line-next (λ ns. header_of (m ∷ i ∷ l ∷ ns)) 1 text e₃ r₄ read₄ o' e₄ s₄

            pub no-gates : NotLast r₅ → none ≡ header text
            no-gates s = goes_on (λ ns. header_of (m ∷ i ∷ l ∷ o' ∷ ns)) text e₄ r₅ read₅ s ∙ sym after-outputs

            pub header_is : (g e₅ : ℕ) → r₅ ≡ fields.Last g e₅ → some (record { maximum = m; inputs = i; latches = l; outputs = o'; gates = g }, drop e₅ text) ≡ header text
            header_is g e₅ s = sym (after-outputs ∙ line-last (λ ns. header_of (m ∷ i ∷ l ∷ o' ∷ ns)) 0 text e₄ r₅ read₅ g e₅ s)
