-- The whole of the unrolling: the phases, the new registers' next values and the outputs make the model's unrolled netlist.
-- Assumes nothing.
use Prim.Native.Nat.{ℕ, suc, ◌+◌, ◌-◌, ◌<◌, ◌≤◌, min}
use mathlib.Core.Path.{◌≡◌, sym, ap, ◌∙◌, subst}
use mathlib.Core.List.{List, ◌++◌, map}
use native.Mathlib.Omega.{arith}
use native.Mathlib.Decide.{dec_lt}
use lib.ListN.{length, get_or, length-append, length-map, get_or-map}
use Rattle.memory.specs.Lists.{join_below}
use Rattle.memory.specs.Fields.{byte_at}
use Rattle.memory.proofs.ListLaws.{join-cong}
use Rattle.ternary.specs.Ternary.{Ternary}
use Rattle.netlist.specs.Limits.{most_folded_rows, most_phases}
use Rattle.netlist.specs.Rows.{Row, constant, row_at}
use Rattle.netlist.specs.FileFormat.{row_offset, row_bytes, netlist_of}
use Rattle.netlist.specs.WellFormed.{FoldableRows}
use Rattle.abstraction.specs.Unrolling.{patch_next, phase_output, unroll_phase, unroll_phases, phase_outputs, unrolled_netlist}
use Rattle.blockfile.specs.RowsStand.{RowsStand}
use Rattle.blockfile.specs.Ready.{Ready}
use Rattle.blockfile.specs.Appending.{RowStands, Appended}
use Rattle.fold_memory.specs.WorkMap.{known_in}
use Rattle.row_images.specs.ImageMap.{images_in}
use Rattle.unrolling.specs.UnrollMap.{UnderWay, NextFits, NextsPatched, outputs_in}
use Rattle.unrolling.proofs.UnrollFacts.{netlist-clock, netlist-few, new-registers}
use Rattle.unrolling.proofs.PatchLaws.{next_fits, patch-other}

module _ (clock : ℕ → ℕ → Ternary) (f : List ℕ) (N : ℕ) (result work : List ℕ) (m : ℕ) (O : Ready FoldableRows f (length (netlist_of f))) (a : 1 ≤ N) (b : N ≤ most_phases) (U : UnderWay clock (netlist_of f) N 0 result work m) where
  abbrev rows : List Row
  rows = netlist_of f

  abbrev made : List Row
  made = (unroll_phases clock rows N).made

  abbrev images : List ℕ
  images = (unroll_phases clock rows N).images

  stands : RowsStand made result
  unfolding unroll_phase
  stands = U.stored.stands

  counted : m ≡ length made
  unfolding unroll_phase
  counted = U.stored.counted

  -- The last phase's images.
  images-last : images_in work (N - 1) (length rows) ≡ images
  images-last =
      let e : suc (N - 1) ≡ N = omega arith in
      U.earlier (N - 1) (omega arith) ∙ ap (λ (z : ℕ). (unroll_phases clock rows z).images) e

  outputs-are : join_below N (outputs_in rows work) ≡ join_below N (phase_outputs clock rows)
  unfolding outputs_in phase_outputs
  outputs-are = join-cong N (outputs_in rows work) (phase_outputs clock rows) (λ k l. ap (λ (z : List ℕ). join_below (length rows) (λ i. phase_output k (get_or z i 0) (row_at rows i))) (U.earlier k l))

  whole_is : unrolled_netlist clock rows N ≡ map (patch_next images) made ++ join_below N (outputs_in rows work)
  unfolding unrolled_netlist
  whole_is = ap (λ (z : List Row). map (patch_next images) made ++ z) (sym outputs-are)

  whole_length : length (unrolled_netlist clock rows N) ≡ m + length (join_below N (outputs_in rows work))
  whole_length = omega (arith, ap length whole_is, length-append (map (patch_next images) made) (join_below N (outputs_in rows work)), length-map made (patch_next images), counted)

  -- What the two later steps ask.
  pub outputs-fit : m + length (join_below N (outputs_in rows work)) ≤ most_folded_rows
  outputs-fit = omega (arith, whole_length, netlist-few clock rows O.rows N b)

  pub patched-few : (n x : ℕ) → n ≡ min m x → n ≤ most_folded_rows
  patched-few n x e = let h = outputs-fit in omega arith

  nexts-fit : (j : ℕ) → j < m → NextFits j result
  nexts-fit j h =
      let l : j < length made = omega (arith, counted) in
      next_fits (length rows) j (row_at made j) result O.rows.small ((new-registers rows O.rows clock N).nexts j l) (λ d k. stands j d l k)

  pub patched-fit : (n x : ℕ) → n ≡ min m x → (j : ℕ) → j < n → NextFits j result
  patched-fit n x e j h = nexts-fit j (omega arith)

  module _ (n : ℕ) (e : n ≡ min m (length rows)) (result' : List ℕ) (P : NextsPatched work (N - 1) 0 n result result') where
    patched : (j : ℕ) → j < length made → RowStands (patch_next images (row_at made j)) j result'
    patched j l = elim (dec_lt j n) [
      | yes h ↦
          subst (λ (z : List ℕ). RowStands (patch_next z (row_at made j)) j result') images-last
          (P.patched (length rows) O.rows.small j (row_at made j) (omega arith) h ((new-registers rows O.rows clock N).nexts j l) (λ d k. stands j d l k))
      | no h ↦
          (let q = patch-other images (row_at made j) ((new-registers rows O.rows clock N).late j l (omega (arith, counted))) in
          subst (λ (z : Row). RowStands z j result') (sym q) (λ d k. P.kept.after (row_offset j + d) (omega arith) ∙ stands j d l k))
    ]

    patched-stand : RowsStand (map (patch_next images) made) result'
    patched-stand i d l k =
        let h : i < length made = omega (arith, length-map made (patch_next images)) in
        patched i h d k ∙ ap (λ (z : Row). byte_at (row_bytes z) d) (sym (get_or-map (patch_next images) made i constant))

    whole-stands : (result'' : List ℕ) (r : ℕ) → Appended (join_below N (outputs_in rows work)) result' result'' m r → (r ≡ length (unrolled_netlist clock rows N)) × RowsStand (unrolled_netlist clock rows N) result''
    whole-stands result'' r A = (
      omega (arith, A.counted, whole_length),
      subst (λ (z : List Row). RowsStand z result'') (sym whole_is) (A.stands (map (patch_next images) made) (omega (arith, counted, length-map made (patch_next images))) patched-stand),
    )

-- Every clock that agrees with what is known gives the same netlist.
module _ (f : List ℕ) (N rows made patched r : ℕ) (work₀ result₁ work₁ result₂ result₃ : List ℕ) (O : Ready FoldableRows f (length (netlist_of f))) (q : rows ≡ length (netlist_of f)) (a : 1 ≤ N) (b : N ≤ most_phases)
    (U : UnderWay (known_in work₀) (netlist_of f) N 0 result₁ work₁ made) (e : patched ≡ min made rows) (P : NextsPatched work₁ (N - 1) 0 patched result₁ result₂)
    (A : Appended (join_below N (outputs_in (netlist_of f) work₁)) result₂ result₃ made r) (clock : ℕ → ℕ → Ternary) (agree : (i k : ℕ) → i < rows → k < N → known_in work₀ i k ≡ clock i k) where
  whole : (r ≡ length (unrolled_netlist clock (netlist_of f) N)) × RowsStand (unrolled_netlist clock (netlist_of f) N) result₃
  whole =
      subst (λ (z : List Row). (r ≡ length z) × RowsStand z result₃) (netlist-clock (known_in work₀) clock (netlist_of f) N (λ i k h. agree i k (omega arith)))
      (whole-stands (known_in work₀) f N result₁ work₁ made O a b U patched (e ∙ ap (min made) q) result₂ P result₃ r A)

  pub unroll-count : r ≡ length (unrolled_netlist clock (netlist_of f) N)
  unroll-count = whole.0

  pub unroll-stands : RowsStand (unrolled_netlist clock (netlist_of f) N) result₃
  unroll-stands = whole.1
