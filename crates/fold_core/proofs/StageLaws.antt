-- The stages one after the other: what each hands on is what the next asks, and the last is the written fold.
-- Assumes nothing.
use Prim.Native.Nat.{ℕ, ◌*◌, ◌-◌, ◌≤◌}
use mathlib.Core.Path.{◌≡◌, refl, sym, ap, ◌∙◌}
use mathlib.Core.List.{List, ◌++◌}
use native.Mathlib.Omega.{arith}
use lib.ListN.{length, replicate}
use Rattle.memory.specs.Fields.{IsBytes}
use Rattle.memory.specs.Frames.{KeptOutside}
use Rattle.ternary.specs.Ternary.{Ternary}
use Rattle.netlist.specs.Limits.{most_rows, most_phases, most_folded_rows, fold_result_bytes}
use Rattle.netlist.specs.Rows.{Row}
use Rattle.netlist.specs.FileFormat.{netlist_of, file_of, blocks_for}
use Rattle.netlist.proofs.FileLaws.{file-length, file-labels}
use Rattle.netlist.specs.WellFormed.{FoldableRows}
use Rattle.abstraction.specs.Unrolling.{unrolled_netlist}
use Rattle.abstraction.specs.Compaction.{compact}
use Rattle.abstraction.specs.Fold.{fold_with}
use Rattle.abstraction.proofs.SizeBound.{fold-fits}
use Rattle.blockfile.specs.RowsStand.{RowsStand}
use Rattle.blockfile.specs.Ready.{Ready}
use Rattle.compaction.specs.Compactable.{Compactable}
use Rattle.unrolling.specs.UnrollMap.{images_end}
use Rattle.unrolling.proofs.UnrollFacts.{netlist-few}
use Rattle.fold_memory.specs.WorkMap.{slots_start, slots_end, known_in}
use Rattle.fold_core.specs.FoldStages.{KnownAs, FoldWritten}
use Rattle.fold_core.proofs.UnrolledFits.{unrolled-compactable}

-- ---- the rows unrolled, compacted and written

module _ {file : List ℕ} (O : Ready FoldableRows file (length (netlist_of file))) {n : ℕ} (count : n ≡ length (netlist_of file)) {N : ℕ} (some : 1 ≤ N) (few : N ≤ most_phases) (work result₁ : List ℕ) {made : ℕ}
    (unrolled : (clock : ℕ → ℕ → Ternary) → KnownAs clock n N work → (made ≡ length (unrolled_netlist clock (netlist_of file) N)) × RowsStand (unrolled_netlist clock (netlist_of file) N) result₁)
  where
    pub made-few : made ≤ most_folded_rows
    made-few = omega (arith, (unrolled (known_in work) (λ i k _ _. refl)).0, netlist-few (known_in work) (netlist_of file) O.rows N few)

    module _ (bytes : IsBytes file) (result₂ : List ℕ) {kept : ℕ}
        (compacted : (rs : List Row) → length rs ≡ made → RowsStand rs result₁ → Compactable rs → (kept ≡ length (compact rs)) × RowsStand (compact rs) result₂)
      where
        fold-stands : (clock : ℕ → ℕ → Ternary) → KnownAs clock (length (netlist_of file)) N work → (kept ≡ length (fold_with clock (netlist_of file) N)) × RowsStand (fold_with clock (netlist_of file) N) result₂
        unfolding fold_with
        fold-stands clock known =
            let u = unrolled clock (λ i k h. known i k (omega arith)) in
            compacted (unrolled_netlist clock (netlist_of file) N) (sym u.0) u.1 (unrolled-compactable clock (netlist_of file) (file-labels file bytes) N few O.rows some)

        kept-few : kept ≤ most_folded_rows
        kept-few =
            let ok = O.rows in
            omega (arith, (fold-stands (known_in work) (λ i k _ _. refl)).0, fold-fits (known_in work) (netlist_of file) N ok.checked.constant-first (omega (arith, ok.checked.has-output.4)) ok.small few)

        pub file-fits : fold_result_bytes ≤ length result₂ → (kept ≤ most_rows) × (512 * blocks_for kept ≤ length result₂)
        file-fits room = let k = kept-few in (omega arith, omega arith)

        module _ {result result₃ : List ℕ} (work₁ : List ℕ) {work₂ : List ℕ} (same : length result₂ ≡ length result)
            (sealed : (rs : List Row) → length rs ≡ kept → RowsStand rs result₂ → result₃ ≡ file_of rs ++ replicate (length result₂ - 512 * blocks_for kept) 0)
            (images : KeptOutside 0 images_end work work₁) (slots : KeptOutside slots_start slots_end work₁ work₂)
          where
            pub fold-written : FoldWritten (netlist_of file) N result result₃ work work₂ kept
            fold-written = record {
              counted = λ clock known. (fold-stands clock known).0;
              written = λ clock known.
                  let new = fold_with clock (netlist_of file) N in
                  let q = fold-stands clock known in
                  let e : length result₂ - 512 * blocks_for kept ≡ length result - length (file_of new) = omega (arith, file-length new, ap blocks_for q.0) in
                  sealed new (sym q.0) q.1 ∙ ap (λ (z : ℕ). file_of new ++ replicate z 0) e;
              few = kept-few;
              kept = λ x h l. slots.after x (omega arith) ∙ images.after x (omega arith);
            }
