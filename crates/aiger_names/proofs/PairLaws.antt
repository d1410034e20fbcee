-- The pairs of rows: what they are after one line more, after one window more, and when all is looked up.
-- Assumes nothing.
use Prim.Native.Nat.{ℕ, ◌+◌, ◌*◌, ◌<◌, ◌≤◌, ◌/◌, ◌%◌}
use mathlib.Core.Path.{◌≡◌, refl, sym, ap, subst, ◌∙◌}
use mathlib.Core.Bool.{true, cond}
use mathlib.Core.List.{List}
use native.Mathlib.Omega.{arith}
use native.Mathlib.Decide.{dec_lt}
use lib.ListN.{length, get_or}
use lib.Dec.{ltb}
use borrow.Author.Tests.{lt-ltb, le-ltb}
use Rattle.memory.specs.Fields.{u16_at}
use Rattle.memory.specs.Frames.{KeptOutside}
use Rattle.memory.proofs.TestLaws.{last_or}
use Rattle.memory.proofs.FrameLaws.{u16-kept, kept-wider}
use Rattle.aiger.specs.AigerText.{Header, Aiger, Section, latch_line, output_line, gate_line, line_count, line_at, section_of, uses_in, uses_of, node_count, node_of, is_defined}
use Rattle.aiger.specs.AigerRows.{latch_line_of, output_line_of, gate_line_of, row_literal, reset_code}
use Rattle.aiger.proofs.NodeLaws.{row-places, latch-section, output-section, gate-section, latch-uses, gate-uses, output-uses}
use Rattle.aiger_names.specs.Names.{row_of_line, node_in, DistinctBelow, use_offset, use_at, PairsLooked, PairsBelow, ResetsStand, PairsStand}
use Rattle.aiger_names.proofs.LineRowLaws.{rows_apart, row_inside, early-row, output-row, gate-row}
use Rattle.aiger_names.proofs.WindowLaws.{found_before, found-only}
use Rattle.aiger_names.proofs.CountLaws.{uses-few}

-- ---- one line more

-- Use i of line k is looked up: it is set if the window has it, and stays if not.
abbrev pub UseLooked : Aiger → ℕ → ℕ → ℕ → ℕ → List ℕ → List ℕ → Type 0
UseLooked a s e k i w w' =
    u16_at w' (use_offset a.header k i) ≡ cond (ltb (node_in a s e (use_at a k i)) e) (2 * node_in a s e (use_at a k i) + use_at a k i % 2) (u16_at w (use_offset a.header k i))

pub looked-none : (a : Aiger) (s e : ℕ) (w : List ℕ) → PairsLooked a s e 0 w w
looked-none a s e w = record {
  uses = λ k i l. absurd (omega arith);
  resets = λ k l. absurd (omega arith);
  later = λ k i l m n. refl;
}

-- The pair of a line's row is one of the pairs.
pub pair-frame :
    (h : Header) (k base : ℕ) (w w' : List ℕ)
    → KeptOutside (4 * row_of_line h k) (4 * row_of_line h k + 4) w w'
    → k < line_count h
    → base ≡ 4 * (node_count h + h.outputs)
    → KeptOutside 0 base w w'
pair-frame h k base w w' K l e = kept-wider 0 base K (omega arith) (omega (arith, row_inside h k l))

-- The pairs of other lines stay.
other-kept :
    (a : Aiger) (m : ℕ) (w w' : List ℕ)
    → m < line_count a.header
    → KeptOutside (4 * row_of_line a.header m) (4 * row_of_line a.header m + 4) w w'
    → (k i : ℕ) → k < line_count a.header → (k ≡ m → ⊥) → i < 2 → u16_at w' (use_offset a.header k i) ≡ u16_at w (use_offset a.header k i)
other-kept a m w w' inside K k i l d n = u16-kept K (use_offset a.header k i) (λ x p q u v. rows_apart a.header k m l inside d (omega arith))

pub looked-next :
    (a : Aiger) (s e m m' : ℕ) (w w' w'' : List ℕ)
    → PairsLooked a s e m w w'
    → KeptOutside (4 * row_of_line a.header m) (4 * row_of_line a.header m + 4) w' w''
    → ((i : ℕ) → i < length (uses_of a m) → UseLooked a s e m i w' w'')
    → (section_of a.header m ≡ latch_line → u16_at w'' (4 * row_of_line a.header m + 2) ≡ reset_code (line_at a m))
    → m < line_count a.header
    → m' ≡ m + 1
    → PairsLooked a s e m' w w''
looked-next a s e m m' w w' w'' P K uses reset l t = record {
  uses = λ k i h n.
      last_or k m (omega arith)
      (λ b. kept k i (omega arith) (λ q. omega arith) (omega (arith, uses-few a k)) ∙ P.uses k i b n)
      (λ q. subst (λ (k : ℕ). i < length (uses_of a k) → UseLooked a s e k i w w'') (sym q) (here i) n);
  resets = λ k h n.
      last_or k m (omega arith)
      (λ b. kept k 1 (omega arith) (λ q. omega arith) (omega arith) ∙ P.resets k b n)
      (λ q. subst (λ (k : ℕ). section_of a.header k ≡ latch_line → u16_at w'' (4 * row_of_line a.header k + 2) ≡ reset_code (line_at a k)) (sym q) reset n);
  later = λ k i h n b. kept k i n (λ q. omega arith) b ∙ P.later k i (omega arith) n b;
}
  where
    kept : (k i : ℕ) → k < line_count a.header → (k ≡ m → ⊥) → i < 2 → u16_at w'' (use_offset a.header k i) ≡ u16_at w' (use_offset a.header k i)
    kept = other-kept a m w' w'' l K

    here : (i : ℕ) → i < length (uses_of a m) → UseLooked a s e m i w w''
    here i n = rw (P.later m i (omega arith) l (omega (arith, uses-few a m))) at (uses i n)

-- ---- one window more

module _ (a : Aiger) where
  pub pairs-zero : (w : List ℕ) → PairsBelow a 0 w
  pairs-zero w k i v l n h = absurd (omega arith)

  pub pairs_next :
      (s e : ℕ) (w w' : List ℕ)
      → PairsBelow a s w
      → PairsLooked a s e (line_count a.header) w w'
      → DistinctBelow a e
      → s ≤ e
      → e ≤ node_count a.header
      → PairsBelow a e w'
  pairs_next s e w w' B P D o inside k i v l n h q = elim (dec_lt v s) [
    | yes b ↦ P.uses k i l n ∙ rw (le-ltb (node_in a s e (use_at a k i)) e (found_before a s e (use_at a k i / 2) v D inside b h q)) (B k i v l n b q)
    | no b ↦ (
        let t : node_in a s e (use_at a k i) ≡ v = found-only a s e (use_at a k i / 2) v D inside (omega arith) h q in
        P.uses k i l n ∙ rw (t, lt-ltb v e h))
  ]

  pub resets-of : (s e : ℕ) (w w' : List ℕ) → PairsLooked a s e (line_count a.header) w w' → ResetsStand a w'
  resets-of s e w w' P = P.resets

-- ---- all windows

module _ (a : Aiger) (w : List ℕ) (B : PairsBelow a (node_count a.header) w) (R : ResetsStand a w) (defined : is_defined a ≡ true) where
  -- A use whose node there is, of a line of the section.
  use-stands :
      (k i : ℕ) (s : Section)
      → section_of a.header k ≡ s
      → k < line_count a.header
      → i < length (uses_in s (line_at a k))
      → node_of a (get_or (uses_in s (line_at a k)) i 0) < node_count a.header
      → (p : ℕ) → p ≡ use_offset a.header k i → u16_at w p ≡ row_literal a (get_or (uses_in s (line_at a k)) i 0)
  use-stands k i s e l n d p q =
      let Stands : Section → Type 0 = λ s. i < length (uses_in s (line_at a k)) → node_of a (get_or (uses_in s (line_at a k)) i 0) < node_count a.header → u16_at w (use_offset a.header k i) ≡ row_literal a (get_or (uses_in s (line_at a k)) i 0) in
      ap (u16_at w) q ∙ subst Stands e (λ n d. B k i (node_of a (use_at a k i)) l n d ((row-places a).literal-of (use_at a k i) d)) n d

  pub pairs-stand : PairsStand a w
  pairs-stand = record {
    nexts = λ j l. use-stands (latch_line_of a j) 0 latch_line (latch-section a j l) (omega arith) (omega arith) (latch-uses a defined j l) (4 * (1 + a.header.inputs + j)) (omega (arith, early-row a.header (latch_line_of a j) (omega arith)));
    resets = λ j l. ap (u16_at w) (latch-offset j l) ∙ R (latch_line_of a j) (omega arith) (latch-section a j l);
    firsts = λ j l. use-stands (gate_line_of a j) 0 gate_line (gate-section a j) (omega arith) (omega arith) (gate-uses a defined j l).0 (4 * (1 + a.header.inputs + a.header.latches + j)) (omega (arith, gate-row a.header (gate_line_of a j) (omega arith)));
    seconds = λ j l. use-stands (gate_line_of a j) 1 gate_line (gate-section a j) (omega arith) (omega arith) (gate-uses a defined j l).1 (4 * (1 + a.header.inputs + a.header.latches + j) + 2) (omega (arith, gate-row a.header (gate_line_of a j) (omega arith)));
    outputs = λ j l. use-stands (output_line_of a j) 0 output_line (output-section a j l) (omega arith) (omega arith) (output-uses a defined j l) (4 * (node_count a.header + j)) (omega (arith, output-row a.header (output_line_of a j) (omega arith) (omega arith)));
  }
    where
      latch-offset : (j : ℕ) → j < a.header.latches → 4 * (1 + a.header.inputs + j) + 2 ≡ 4 * row_of_line a.header (latch_line_of a j) + 2
      latch-offset j l = omega (arith, early-row a.header (latch_line_of a j) (omega arith))
