-- The stages one after the other: what each hands on is what the next asks, and the last is the outcome.
-- Assumes nothing.
use Prim.Native.Nat.{ℕ, ◌+◌, ◌<◌, ◌≤◌}
use mathlib.Core.Path.{◌≡◌, refl, sym, ap, ◌∙◌, subst}
use mathlib.Core.List.{List}
use mathlib.Core.Option.{Option as Maybe, none, some}
use Rattle.std.specs.Prelude.{Option, Some, None}
use native.Mathlib.Omega.{arith}
use Rattle.std.proofs.lemmas.Option.{none-some, same_Some}
use lib.ListN.{length}
use Rattle.memory.specs.Fields.{byte_at}
use Rattle.memory.specs.Frames.{KeptOutside}
use Rattle.memory.proofs.FrameLaws.{kept-wider, kept-join}
use Rattle.netlist.specs.Limits.{most_phases, most_original_rows}
use Rattle.netlist.specs.Rows.{Row}
use Rattle.lasso.specs.LassoSearch.{Lasso, find_lasso}
use Rattle.lasso.specs.Generators.{periods_of, used_count, phase_count, clock_value}
use Rattle.lasso.specs.ClockEntries.{clock_entries}
use Rattle.lasso.proofs.PhaseCountLaws.{phases-pos, phases-le}
use Rattle.ternary_step.specs.StateMap.{ClearedWork}
use Rattle.lasso_search.specs.SearchStage.{repeat_of, LassoDone}
use Rattle.lasso_search.specs.declared.Lasso.{Lasso as FoundLasso}
use Rattle.period_finder.specs.PeriodStage.{lasso_of, lasso_in, Lassoed, PeriodPart, period_bytes}
use Rattle.period_finder.proofs.CountLaws.{phases-same}
use Rattle.clock_words.specs.KnownStage.{KnownPart}
use Rattle.clock_words.specs.EntryStage.{KnownRegisters, EntryPart}
use Rattle.clock_words.proofs.KnownLaws.{known_is}
use Rattle.clock_words.proofs.EntryLaws.{known-registers, entries-are, entries-number}
use Rattle.fold_memory.specs.WorkMap.{value_offset, known_offset, known_in, entries_in}
use Rattle.lasso_finder.specs.Outcome.{phases_of, analysis_of, Analysed}
use Rattle.lasso_finder.specs.declared.Clocks.{Clocks}

-- What the finder's answer says of the lasso.
never-none : (o : Maybe Lasso) → None ≡ repeat_of o → o ≡ none
never-none none e = refl
never-none (some z) e = absurd (none-some _ e)

found_some : (o : Maybe Lasso) (y : FoundLasso) → Some y ≡ repeat_of o → o ≡ some (record { stem = y.stem; cycle = y.cycle })
found_some none y e = absurd (none-some y (sym e))
found_some (some z) y e =
    let q : y ≡ record { stem = z.stem; cycle = z.cycle } = same_Some _ _ e in
    ap (λ (x : FoundLasso). some (record { stem = x.stem; cycle = x.cycle })) (sym q)

module _ {rows : List Row} {w w₁ : List ℕ} {r : Option FoundLasso} (L : LassoDone rows w w₁ r) where
  pub analysed-never : {wish : ℕ} → r ≡ None → Analysed rows wish w w₁ None
  analysed-never {wish} e =
      let q = never-none (find_lasso rows) (sym e ∙ L.answer) in
      record {
        answer = sym (ap (analysis_of rows wish) q);
        known = λ z f. absurd (let b : ◌≡◌ {A = ℕ} 0 1 = cc in omega arith);
        entries = λ z f. absurd (let b : ◌≡◌ {A = ℕ} 0 1 = cc in omega arith);
        kept = kept-wider (value_offset 0) (known_offset most_original_rows) L.kept (omega arith) (omega arith);
      }

  module _ {y : FoundLasso} (found : r ≡ Some y) (ready : ClearedWork w) where
    lasso-found : find_lasso rows ≡ some (record { stem = y.stem; cycle = y.cycle })
    lasso-found = found_some (find_lasso rows) y (sym found ∙ L.answer)

    lasso-in : lasso_in rows ≡ record { stem = y.stem; cycle = y.cycle }
    lasso-in = ap lasso_of lasso-found

    pub stem-is : y.stem ≡ (lasso_in rows).stem
    stem-is = sym (ap (λ (z : Lasso). z.stem) lasso-in)

    pub cycle-is : y.cycle ≡ (lasso_in rows).cycle
    cycle-is = sym (ap (λ (z : Lasso). z.cycle) lasso-in)

    is_some : find_lasso rows ≡ some (lasso_in rows)
    is_some = lasso-found ∙ ap some (sym lasso-in)

    pub lassoed : Lassoed rows w₁
    lassoed =
        let l = L.kept.long in
        let room = ready.room in
        record { found = is_some; room = omega arith; states = L.states (lasso_in rows) is_some }

    module _ {n : ℕ} (count : n ≡ length rows) {w₂ : List ℕ} {wish : ℕ} (K₂ : KeptOutside (value_offset 0) (value_offset most_original_rows) w₁ w₂) (P₂ : PeriodPart rows w₂ n) {phases : ℕ} (phases-are : phases ≡ phase_count wish (period_bytes w₂ n)) (small : wish ≤ most_phases) where
      phases-is : phases ≡ phase_count wish (periods_of rows (lasso_in rows))
      phases-is =
          phases-are ∙ ap (λ (k : ℕ). phase_count wish (period_bytes w₂ k)) count
          ∙ phases-same (subst (PeriodPart rows w₂) count P₂) wish

      pub phases-from : 1 ≤ phases
      phases-from = rw phases-is (phases-pos wish (periods_of rows (lasso_in rows)))

      pub phases-to : phases ≤ most_phases
      phases-to = rw phases-is (phases-le wish (periods_of rows (lasso_in rows)) small)

      module _ {w₃ : List ℕ} (K₃ : KeptOutside (known_offset 0) (known_offset most_original_rows) w₂ w₃) (P₃ : KnownPart rows phases w₃ n) where
        part : KnownPart rows phases w₃ (length rows)
        part = subst (KnownPart rows phases w₃) count P₃

        pub entries-registers : KnownRegisters rows w₃
        entries-registers = known-registers phases-from phases-to part

        module _ {w₄ : List ℕ} {used : ℕ} (E : EntryPart rows w₃ w₄ n used) where
          all-kept : KeptOutside (value_offset 0) (known_offset most_original_rows) w w₄
          all-kept =
              let a = kept-join (value_offset 0) (known_offset most_original_rows) w w₁ w₂ L.kept K₂ (omega arith) (omega arith) (omega arith) (omega arith) in
              let b = kept-join (value_offset 0) (known_offset most_original_rows) w w₂ w₃ a K₃ (omega arith) (omega arith) (omega arith) (omega arith) in
              kept-join (value_offset 0) (known_offset most_original_rows) w w₃ w₄ b E.kept (omega arith) (omega arith) (omega arith) (omega arith)

          -- The entries stand before the known bytes.
          known-after : (i k : ℕ) → i < length rows → k < phases → known_in w₄ i k ≡ clock_value rows (periods_of rows (lasso_in rows)) phases i k
          known-after i k h l =
              let a : byte_at w₄ (known_offset i) ≡ byte_at w₃ (known_offset i) = E.kept.after (known_offset i) (omega arith) in
              let b : byte_at w₄ (known_offset i + 1) ≡ byte_at w₃ (known_offset i + 1) = E.kept.after (known_offset i + 1) (omega arith) in
              rw (a, b) (known_is P₃.part h phases-from phases-to (part.known i h) k l)

          used-is : used ≡ used_count (periods_of rows (lasso_in rows)) phases
          used-is = entries-number phases-from phases-to part count E

          pub analysed-found : Analysed rows wish w w₄ (Some (record { stem = y.stem; cycle = y.cycle; phases = phases; used = used }))
          analysed-found =
              let ps = periods_of rows (lasso_in rows) in
              record {
                answer = same stem-is cycle-is phases-is (used-is ∙ ap (used_count ps) phases-is) ∙ sym (ap (analysis_of rows wish) is_some);
                known = λ z f i k h.
                    subst (λ (y : Lasso). k < phases_of rows wish y → known_in w₄ i k ≡ clock_value rows (periods_of rows y) (phases_of rows wish y) i k) (ap lasso_of f)
                    (subst (λ (n : ℕ). k < n → known_in w₄ i k ≡ clock_value rows ps n i k) phases-is (known-after i k h));
                entries = λ z f.
                    subst (λ (y : Lasso). entries_in w₄ (used_count (periods_of rows y) (phases_of rows wish y)) ≡ clock_entries rows (periods_of rows y) (phases_of rows wish y)) (ap lasso_of f)
                    (subst (λ (n : ℕ). entries_in w₄ (used_count ps n) ≡ clock_entries rows ps n) phases-is (ap (entries_in w₄) (sym used-is) ∙ entries-are phases-from phases-to part count E));
                kept = all-kept;
              }
            where
              same : {s s' c c' p p' u u' : ℕ} → s ≡ s' → c ≡ c' → p ≡ p' → u ≡ u' → ◌≡◌ {A = Option Clocks} (Some (record { stem = s; cycle = c; phases = p; used = u })) (Some (record { stem = s'; cycle = c'; phases = p'; used = u' }))
              same a b c d = cc (a, b, c, d)
