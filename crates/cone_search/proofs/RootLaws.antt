-- What a row's kind says of the search: the rows that it names, and whether it is a root.
-- Assumes nothing.
use Prim.Native.Nat.{ℕ, zero, suc, ◌+◌, ◌/◌, ◌≤◌}
use mathlib.Core.Path.{◌≡◌, refl, sym, ap, ◌∙◌, subst}
use mathlib.Core.Bool.{Bool, true, false, cond}
use mathlib.Core.List.{List, [], ◌∷◌}
use native.Mathlib.Omega.{arith}
use lib.ListN.{take}
use lib.Dec.{eqb, ltb}
use borrow.Author.Tests.{ne_eqb, lt-ltb}
use Rattle.memory.specs.Fields.{byte_at, u16_at}
use Rattle.netlist.specs.Rows.{row_from_fields, fanin_nodes}
use Rattle.netlist.specs.FileFormat.{row_offset}
use Rattle.abstraction.specs.Compaction.{is_cone_root}
use Rattle.blockfile.specs.RowsStand.{held_row}
use Rattle.blockfile.specs.Renumbering.{literal_count}
use Rattle.blockfile.proofs.KindLaws.{literals-are}
use Rattle.cone_search.specs.FoundRows.{Found, Pushed}
use Rattle.cone_search.proofs.MarkLaws.{pushed_none, pushed-cons}

root-test : (k r a b c : ℕ) → is_cone_root (row_from_fields k r a b c) ≡ cond (eqb k 0) true (ltb 5 k)
root-test zero r a b c = refl
root-test (suc zero) r a b c = refl
root-test (suc (suc zero)) r a b c = refl
root-test (suc (suc (suc zero))) r a b c = refl
root-test (suc (suc (suc (suc zero)))) r a b c = refl
root-test (suc (suc (suc (suc (suc zero))))) r a b c = refl
root-test (suc (suc (suc (suc (suc (suc zero)))))) r a b c = refl
root-test (suc (suc (suc (suc (suc (suc (suc k))))))) r a b c = rw (ne_eqb (suc (suc (suc (suc (suc (suc (suc k))))))) 0 (λ e. omega arith), lt-ltb 5 (suc (suc (suc (suc (suc (suc (suc k))))))) (omega arith))

-- The rows that a row of these fields names, found one by one.
pub found_of : (w w' : List ℕ) (n t t' k r a b c count j : ℕ) → count ≡ literal_count k → count ≡ j → Pushed w n t (take j (a / 2 ∷ b / 2 ∷ c / 2 ∷ [])) w' t' → Pushed w n t (fanin_nodes (row_from_fields k r a b c)) w' t'
found_of w w' n t t' k r a b c count j e q P =
    subst (λ (js : List ℕ). Pushed w n t js w' t') (sym (literals-are (λ l. l / 2) k r a b c ∙ ap (λ x. take x (a / 2 ∷ b / 2 ∷ c / 2 ∷ [])) (sym e ∙ q))) P

pub found-three : (w w₁ w₂ w₃ : List ℕ) (n t t₁ t₂ t₃ k r a b c count : ℕ) → count ≡ literal_count k → count ≤ 3 → (count ≡ 0 → ⊥) → (count ≡ 1 → ⊥) → (count ≡ 2 → ⊥)
    → Pushed w n t (a / 2 ∷ []) w₁ t₁ → Pushed w₁ n t₁ (b / 2 ∷ []) w₂ t₂ → Pushed w₂ n t₂ (c / 2 ∷ []) w₃ t₃ → Pushed w n t (fanin_nodes (row_from_fields k r a b c)) w₃ t₃
found-three w w₁ w₂ w₃ n t t₁ t₂ t₃ k r a b c count e l n0 n1 n2 P Q R =
    found_of w w₃ n t t₃ k r a b c count 3 e (omega arith) (pushed-cons w w₁ w₃ n t t₁ t₃ (a / 2) (b / 2 ∷ c / 2 ∷ []) P (pushed-cons w₁ w₂ w₃ n t₁ t₂ t₃ (b / 2) (c / 2 ∷ []) Q R))

-- Row i by its kind, a root or none.
module _ (f w w' : List ℕ) (n t t' i o : ℕ) (b : Bool) (eo : o ≡ row_offset i) (eb : b ≡ is_cone_root (row_from_fields (byte_at f o) 0 0 0 0)) where
  root_is : is_cone_root (held_row f i) ≡ b
  root_is =
      let p = row_offset i in
      let k = byte_at f p in
      sym (eb ∙ rw eo (root-test k 0 0 0 0 ∙ sym (root-test k (byte_at f (p + 1)) (u16_at f (p + 2)) (u16_at f (p + 4)) (u16_at f (p + 6)))))

  pub root_none : b ≡ false → Found w n t → Pushed w n t (cond (is_cone_root (held_row f i)) (i ∷ []) []) w t
  root_none e F = rw (root_is, e) (pushed_none w n t F)
