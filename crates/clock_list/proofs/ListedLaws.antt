-- The laws of a clock list whose first entries are set from the packed ones.
-- Interface: listed_to, listed-none, listed_more, listed-length.
-- Assumes nothing.
use Prim.Native.Nat.{ℕ, suc, ◌+◌, ◌<◌, ◌≤◌}
use mathlib.Core.Path.{◌≡◌, refl, sym, ap, ◌∙◌}
use mathlib.Core.List.{List, [], ◌∷◌, ◌++◌, append_assoc}
use native.Mathlib.Omega.{arith}
use native.Mathlib.Numerals.{add-one}
use lib.ListN.{length, set, drop, get_or, length-append, length-drop, length-map}
use lib.Seq.{drop-cons, set_at}
use Rattle.memory.proofs.ListLaws.{tabulate-length}
use Rattle.lasso.specs.ClockEntries.{ClockEntry}
use Rattle.fold_memory.specs.WorkMap.{entry_in, entries_in}
use Rattle.clock_list.specs.ClockCode.{clock_of, clocks_of}
use Rattle.clock_list.specs.declared.Clock.{Clock}

-- The list `old` with its first n entries set from the packed ones.
abbrev pub listed_to : List ℕ → List Clock → ℕ → List Clock
listed_to work old n = clocks_of (entries_in work n) ++ drop n old

clocks-last : (es : List ClockEntry) (e : ClockEntry) → clocks_of (es ++ e ∷ []) ≡ clocks_of es ++ clock_of e ∷ []
clocks-last [] e = refl
clocks-last (x ∷ xs) e = ap (λ (l : List Clock). clock_of x ∷ l) (clocks-last xs e)

packed-length : (work : List ℕ) (n : ℕ) → length (clocks_of (entries_in work n)) ≡ n
packed-length work n = length-map (entries_in work n) clock_of ∙ tabulate-length n (entry_in work)

pub listed-none : (work : List ℕ) (old : List Clock) → old ≡ listed_to work old 0
listed-none work old = refl

-- Entry n is set.
pub listed_more : (work : List ℕ) (old : List Clock) (n : ℕ) → n < length old → set (listed_to work old n) n (clock_of (entry_in work n)) ≡ listed_to work old (n + 1)
listed_more work old n h =
    let front = clocks_of (entries_in work n) in
    let new = clock_of (entry_in work n) in
    ap (λ (l : List Clock). set (front ++ l) n new) (drop-cons old n new h) ∙ set_at front (get_or old n new) (drop (suc n) old) new n (packed-length work n)
    ∙ sym (append_assoc front (new ∷ []) (drop (suc n) old)) ∙ ap (λ (l : List Clock). l ++ drop (suc n) old) (sym (clocks-last (entries_in work n) (entry_in work n)))
    ∙ ap (listed_to work old) (sym (add-one n))

pub listed-length : (work : List ℕ) (old : List Clock) (n : ℕ) → n ≤ length old → length (listed_to work old n) ≡ length old
listed-length work old n h = let e = packed-length work n in simp (length-append, length-drop) (omega arith)
