-- A file of the greatest length is accepted: the constant, gates, and an output, by the writer's laws.
-- Assumes nothing.
use Prim.Native.Nat.{ℕ, zero, suc, ◌-◌, ◌<◌, ◌≤◌, ◌/◌, ◌^◌}
use mathlib.Core.Path.{◌≡◌, refl, sym, ap, ◌∙◌}
use mathlib.Core.Bool.{true, false, false≢true}
use mathlib.Core.List.{List, [], ◌∷◌, ◌++◌}
use native.Mathlib.Omega.{arith}
use lib.ListN.{length, replicate, length-append, length-replicate, get_or-replicate, get_or-append}
use lib.Seq.{get_or_at}
use Rattle.memory.proofs.TestLaws.{last_or}
use Rattle.netlist.specs.Limits.{most_rows, most_file_bytes}
use Rattle.netlist.specs.Rows.{Row, constant, and_gate, output, row_at, kind_of, label_of, phase_of, has_name, is_output}
use Rattle.netlist.specs.FileFormat.{file_of}
use Rattle.netlist.proofs.FileLaws.{file-length}
use Rattle.netlist.specs.WellFormed.{ResetIn, NamesNode, OnLiterals, FileShape}
use Rattle.questions.specs.Questions.{no_refusal, file_refusal}
use Rattle.questions.specs.RoundTrips.{Writable}
use Rattle.questions.proofs.WriteThenRead.{writable-accepted}
use Rattle.questions.proofs.ShapePasses.{shape-passes}

-- The constant, n gates and an output.
abbrev gates : ℕ → List Row
gates n = constant ∷ replicate n (and_gate 0 0)

abbrev pub chain : ℕ → List Row
chain n = gates n ++ (output 0 0 0 ∷ [])

module _ (n : ℕ) where
  chain_length : length (chain n) ≡ suc (suc n)
  chain_length = omega (arith, length-append (gates n) (output 0 0 0 ∷ []), length-replicate {A = Row} n (and_gate 0 0))

  -- Row 0, a row of a gate, the last row.
  gate-at : (i : ℕ) → i < n → row_at (chain n) (suc i) ≡ and_gate 0 0
  gate-at i h = get_or-append (gates n) (output 0 0 0 ∷ []) constant (suc i) (omega (arith, length-replicate {A = Row} n (and_gate 0 0))) ∙ get_or-replicate n i (and_gate 0 0) constant h

  output-at : row_at (chain n) (suc n) ≡ output 0 0 0
  output-at = get_or_at (gates n) (output 0 0 0) [] constant (suc n) (omega (arith, length-replicate {A = Row} n (and_gate 0 0)))

  -- A property of the rows, by the three.
  each : (P : ℕ → Row → Type 0) → P 0 constant → ((i : ℕ) → i < n → P (suc i) (and_gate 0 0)) → P (suc n) (output 0 0 0) → (y : ℕ) → y < length (chain n) → P y (row_at (chain n) y)
  each P a b c zero h = a
  each P a b c (suc y) h =
      last_or y n (omega (arith, h, chain_length)) (λ l. rw (gate-at y l) (b y l)) (λ e. rw (e, output-at) c)

  chain-shape : FileShape 1 (chain n)
  chain-shape = record {
    some-row = omega (arith, chain_length);
    constant-first = refl;
    solid = λ y p h. each (λ y r. 0 < y → 0 < kind_of r) (λ q. absurd (omega arith)) (λ i l q. omega arith) (λ q. omega arith) y h p;
    nodes-first = λ y h e x l.
        let b = chain_length in
        each (λ y r. y < suc n → is_output r ≡ false) (λ _. refl) (λ _ _ _. refl) (λ q. absurd (omega arith)) x (omega arith) (omega arith);
    some-output = (suc n, omega (arith, chain_length), ap is_output output-at);
    phases = each (λ y r. phase_of r < 1) (omega arith) (λ _ _. omega arith) (omega arith);
    resets = each (λ y r. ResetIn r) tt (λ _ _. tt) tt;
    distinct = λ i j l h t s. named-last i j l h t;
    literals = each (λ y r. OnLiterals (λ l. l / 2 < y) (NamesNode (chain n)) r) tt (λ i l. (omega arith, omega arith)) (omega (arith, chain_length), refl);
  }
    where
      -- Only the last row has a name.
      named-last : (i j : ℕ) → i < j → j < length (chain n) → has_name (row_at (chain n) i) ≡ true → ⊥
      named-last i j l h t =
          let b : i < suc n = omega (arith, chain_length) in
          false≢true (sym (each (λ y r. y < suc n → has_name r ≡ false) (λ _. refl) (λ _ _ _. refl) (λ q. absurd (omega arith)) i (omega arith) b) ∙ t)

  chain-writable : suc (suc n) ≤ most_rows → Writable (chain n)
  chain-writable h = record {
    few = omega (arith, chain_length);
    pass = shape-passes (chain n) 1 chain-shape (omega arith);
    labels = each (λ y r. label_of r < 2 ^ 16) (omega arith) (λ _ _. omega arith) (omega arith);
  }

-- The file of the most rows.
abbrev pub longest : List ℕ
longest = file_of (chain (most_rows - 2))

pub longest-length : length longest ≡ most_file_bytes
longest-length = omega (arith, file-length (chain (most_rows - 2)), chain_length (most_rows - 2))

pub longest-accepted : file_refusal longest ≡ no_refusal
longest-accepted = writable-accepted (chain (most_rows - 2)) (chain-writable (most_rows - 2) (omega arith))
