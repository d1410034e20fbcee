-- One walk over the lines for a window: a variable and a use looked up, a line looked up, and the lines so far.
-- Assumes nothing.
use Prim.Native.Nat.{ℕ, zero, suc, ◌+◌, ◌-◌, ◌*◌, ◌<◌, ◌≤◌, ◌/◌, ◌%◌, ◌^◌}
use mathlib.Core.Path.{◌≡◌, refl, sym, ap, ap₂, subst, ◌∙◌}
use mathlib.Core.Bool.{Bool, true, false, cond, not, ◌&&◌, false≢true}
use mathlib.Core.List.{List, [], ◌∷◌}
use native.Mathlib.Omega.{arith}
use native.Mathlib.Decide.{dec_lt}
use native.Mathlib.Nat.{mod-lt}
use lib.ListN.{length, get_or, drop}
use lib.Seq.{sets}
use lib.Dec.{eqb, ltb, leb}
use borrow.Author.Tests.{ltb-true, ltb-false, leb-true, lt-ltb, le-ltb, le-leb, lt-leb, eq-eqb, ne_eqb, not-true, not-false}
use Rattle.std.specs.Prelude.{Option, Some, IfSome, Result, Ok, Err}
use Rattle.memory.specs.Lists.{count_if}
use Rattle.memory.specs.Fields.{u16_at, u16_bytes}
use Rattle.memory.specs.Frames.{KeptOutside}
use Rattle.memory.proofs.TestLaws.{cond-case, and-true, last_or}
use Rattle.memory.proofs.ListLaws.{first-is}
use Rattle.memory.proofs.FrameLaws.{kept-none, kept_sets, kept-wider, kept-join, u16-kept, u16-back}
use Rattle.aiger.specs.AigerText.{Header, Aiger, Section, input_line, latch_line, output_line, gate_line, line_count, line_at, number_at, section_of, uses_in, uses_of, node_count, lines_right, is_distinct}
use Rattle.aiger.specs.AigerReading.{line}
use Rattle.aiger.specs.AigerRows.{reset_code}
use Rattle.aiger_lines.specs.declared.Line.{Line}
use Rattle.aiger_lines.specs.declared.Header as h
use Rattle.aiger_lines.specs.declared.Section as s
use Rattle.aiger_lines.specs.declared.Section.TheVariants.{Input, Latch, Output, Gate}
use Rattle.aiger_lines.specs.Lines.{header_in, section_in, FewHeader, line_read, Padded, aiger_in, LineStart, LineHere, Counted}
use Rattle.aiger_lines.proofs.RightLaws.{padded-few}
use Rattle.aiger_lines.proofs.LineLaws.{standing, next-line}
use Rattle.name_tree.specs.Trees.{variable_at, entry_of, Tree}
use Rattle.name_tree.proofs.TreeLaws.{variable-kept, tree-kept}
use Rattle.aiger_names.specs.Names.{defines_at, row_of_line, found_in, WindowStands, WindowReady, node_in, uses_found, lines_found, use_offset, use_at, PairsLooked, NamesRoom, line_uses, defined_before, PairRoom, LiteralLooked, UsesLooked, LineLooked, LineTwice, LineLookedIs, LookedUp}
use Rattle.aiger_names.specs.declared.Window.{Window}
use Rattle.aiger_names.specs.declared.DefinedTwice.{DefinedTwice}
use Rattle.aiger_names.proofs.LineRowLaws.{section-case, early-row, output-row, gate-row, row_inside}
use Rattle.aiger_names.proofs.WindowLaws.{found-is, found-le, window-kept, line-twice}
use Rattle.aiger_names.proofs.CountLaws.{found-start, found-next, found-few, found-most}
use Rattle.aiger_names.proofs.PairLaws.{UseLooked, looked-none, pair-frame, looked-next}

-- ---- the row of a line

abbrev row_in : Header → Section → ℕ → ℕ
row_in h input_line k = k + 1
row_in h latch_line k = k + 1
row_in h output_line k = k + 1 + h.gates
row_in h gate_line k = k + 1 - h.outputs

row-in : (h : Header) (k : ℕ) → row_of_line h k ≡ row_in h (section_of h k) k
row-in h k =
    section-case h k (λ s. row_of_line h k ≡ row_in h s k)
    (λ l. early-row h k (omega arith))
    (λ i l. early-row h k l)
    (λ i l. output-row h k i l)
    (λ i. gate-row h k i)

module _ (x : h.Header) (section : s.Section) (k : ℕ) (is : section_in section ≡ section_of (header_in x) k) where
  -- The row of a line of the section.
  row_by : (t : s.Section) → section ≡ t → row_in (header_in x) (section_in t) k ≡ row_of_line (header_in x) k
  row_by t e = ap (λ (z : s.Section). row_in (header_in x) (section_in z) k) (sym e) ∙ ap (λ (z : Section). row_in (header_in x) z k) is ∙ sym (row-in (header_in x) k)

  pub input-row-is : section ≡ Input → k + 1 ≡ row_of_line (header_in x) k
  input-row-is e = row_by Input e

  pub latch-row-is : section ≡ Latch → k + 1 ≡ row_of_line (header_in x) k
  latch-row-is e = row_by Latch e

  pub output-row-is : section ≡ Output → k + 1 + x.gates ≡ row_of_line (header_in x) k
  output-row-is e = row_by Output e

  pub gate-row-is : section ≡ Gate → k + 1 - x.outputs ≡ row_of_line (header_in x) k
  gate-row-is e = row_by Gate e

  -- Outputs stand before gates.
  pub gate-late : section ≡ Gate → x.outputs ≤ k + 1
  gate-late e =
      subst (λ (z : Section). LateIn z) (sym is ∙ ap section_in e)
      (section-case (header_in x) k LateIn (λ l. tt) (λ i l. tt) (λ i l. tt) (λ i. omega arith))
    where
      LateIn : Section → Type 0
      LateIn input_line = Unit {0}
      LateIn latch_line = Unit {0}
      LateIn output_line = Unit {0}
      LateIn gate_line = x.outputs ≤ k + 1

-- ---- a latch's reset

pub reset-known : (n : ℕ) → n ≤ 1 → (n ≡ cond (leb n 1) n 2) × (n ≤ 2)
reset-known n l = (rw (le-leb n 1 l), omega arith)

pub reset-unknown : (n : ℕ) → 1 < n → (2 ≡ cond (leb n 1) n 2) × (2 ≤ 2)
reset-unknown n l = (rw (lt-leb n 1 l), omega arith)

-- ---- a variable

entry-upto : (w : List ℕ) (base n x : ℕ) → entry_of w base n x ≤ n
entry-upto w base n x = omega (arith, (first-is 0 n (λ (j : ℕ). eqb (variable_at w base j) x)).upto)

-- The entries make a tree if they are to.
pub ready-tree : (w : List ℕ) (base : ℕ) (win : Window) → WindowReady w base win → win.tree ≡ true → Tree w base (win.end - win.start)
ready-tree w base win R q = R.tree q

module _ (w : List ℕ) (base : ℕ) (win : Window) (x : ℕ) where
  pub in_tree : (r : ℕ) → win.tree ≡ true → win.start ≤ win.end → r ≡ entry_of w base (win.end - win.start) x → (win.start + r ≡ found_in w base win x) × (win.start + r ≤ win.end)
  unfolding found_in
  in_tree r q o p = (rw (q, p), omega (arith, entry-upto w base (win.end - win.start) x))

  pub in-run : win.tree ≡ false → x < win.end → (x ≡ found_in w base win x) × (x ≤ win.end)
  unfolding found_in
  in-run q l = (rw (q, lt-ltb x win.end l), omega arith)

  pub not-in-run : win.tree ≡ false → win.end ≤ x → (win.end ≡ found_in w base win x) × (win.end ≤ win.end)
  unfolding found_in
  not-in-run q l = (rw (q, le-ltb x win.end l), omega arith)

  -- A node of the window is no larger than its end.
  pub in-tree-fits : (r : ℕ) → r ≡ entry_of w base (win.end - win.start) x → win.start ≤ win.end → win.end < 2 ^ 64 → win.start + r < 2 ^ 64
  in-tree-fits r p o l = omega (arith, entry-upto w base (win.end - win.start) x)

-- ---- whether a variable is defined before

module _ (b d : Bool) (e row v : ℕ) (is : b ≡ d) where
  pub not-defining : not b ≡ true → false ≡ d && (leb e row && ltb v e)
  not-defining q = rw (← is, not-true b q)

  pub later-defined : (node : ℕ) → not b ≡ false → e ≤ row → node ≡ v → node ≤ e → not (eqb node e) ≡ d && (leb e row && ltb v e)
  later-defined node q l p u = rw (← is, not-false b q, le-leb e row l, ← p) (elim (dec_lt node e) [
    | yes k ↦ rw (lt-ltb node e k, ne_eqb node e (λ z. omega arith))
    | no k ↦ rw (le-ltb node e (omega arith), eq-eqb node e (omega arith))
  ])

pub not-later : (d : Bool) (e row v : ℕ) → row < e → false ≡ d && (leb e row && ltb v e)
not-later d e row v l = rw (lt-leb e row l) (of d)
  where
    of : (b : Bool) → false ≡ b && false
    of true = refl
    of false = refl

-- ---- a use

module _ (fits : Bool) (base : ℕ) (win : Window) (o u : ℕ) (w : List ℕ) (node : ℕ) (is : node ≡ found_in w base win (u / 2)) where
  abbrev v : ℕ
  v = found_in w base win (u / 2)

  pub use-missing : node ≡ win.end → LiteralLooked fits base win o u w w 0
  use-missing z =
      let t : ltb v win.end ≡ false = le-ltb v win.end (omega arith) in
      record { count = rw t; none = λ _. refl; kept = λ _. kept-none o (o + 2) w; set = λ _. rw t }

  module _ (upto : node ≤ win.end) (d : node ≡ win.end → ⊥) where
    below : ltb v win.end ≡ true
    below = lt-ltb v win.end (elim (dec_lt v win.end) [ yes k ↦ k | no k ↦ absurd (d (omega arith)) ])

    pub use-counted : fits ≡ false → LiteralLooked fits base win o u w w 1
    use-counted q = record {
      count = rw below;
      none = λ _. refl;
      kept = λ t. absurd (false≢true (sym q ∙ t));
      set = λ t. absurd (false≢true (sym q ∙ t));
    }

    pub use-set : (value : ℕ) (w' : List ℕ) → PairRoom fits (o + 2) base win.end w → fits ≡ true → value ≡ 2 * node + u % 2 → w' ≡ sets w o (u16_bytes value) → LiteralLooked fits base win o u w w' 1
    use-set value w' P q p s =
        let few = P.few q in
        let inside = P.inside q in
        record {
          count = rw below;
          none = λ t. absurd (false≢true (sym t ∙ q));
          kept = λ _. rw s (kept_sets o (o + 2) (u16_bytes value) w o (omega arith) (omega arith));
          set = λ _. rw (below, s, u16-back w o value (omega arith) (omega (arith, P.long))) (omega arith);
        }

-- A node's literal is small where pairs are kept.
module _ (fits : Bool) (to base e : ℕ) (w : List ℕ) (node : ℕ) (P : PairRoom fits to base e w) (q : fits ≡ true) (l : node ≤ e) where
  pub node-small : node < 2 ^ 32
  node-small = omega (arith, P.few q)

  pub double-small : 2 * node < 2 ^ 32
  double-small = omega (arith, P.few q)

  pub literal-small : (u d : ℕ) → 0 < d → d ≤ 2 → 2 * node + u % d < 2 ^ 32
  literal-small u d z h = let m : u % d < d = mod-lt u z in omega (arith, P.few q)

pub pair-room : (fits : Bool) (to base e : ℕ) (w : List ℕ) → PairRoom fits to base e w → fits ≡ true → to ≤ length w
pair-room fits to base e w P q = omega (arith, P.long, P.inside q)

-- ---- the uses of a line

-- What is found stands from `base` on.
found-kept : (base : ℕ) (win : Window) (w w' : List ℕ) (x : ℕ) → KeptOutside 0 base w w' → found_in w' base win x ≡ found_in w base win x
unfolding found_in
found-kept base win w w' x K = simp (variable-kept K)

ready-kept : (base : ℕ) (win : Window) (w w' : List ℕ) → KeptOutside 0 base w w' → WindowReady w base win → WindowReady w' base win
ready-kept base win w w' K R = record { ordered = R.ordered; tree = λ t. tree-kept K (R.tree t) }

literal-frame : (fits : Bool) (base : ℕ) (win : Window) (o u : ℕ) (w w' : List ℕ) (n : ℕ) → LiteralLooked fits base win o u w w' n → (fits ≡ true → o + 2 ≤ base) → KeptOutside 0 base w w'
literal-frame true base win o u w w' n L h = kept-wider 0 base (L.kept refl) (omega arith) (h refl)
literal-frame false base win o u w w' n L h = rw (L.none refl) (kept-none 0 base w)

literal-few : (fits : Bool) (base : ℕ) (win : Window) (o u : ℕ) (w w' : List ℕ) (n : ℕ) → LiteralLooked fits base win o u w w' n → n ≤ 1
literal-few fits base win o u w w' n L = rw L.count (cond-case (λ (m : ℕ). m ≤ 1) (ltb (found_in w base win (u / 2)) win.end) 1 0 (λ _. omega arith) (λ _. omega arith))

pub both-few :
    (fits : Bool) (base : ℕ) (win : Window) (o u p v : ℕ) (w w₁ w' : List ℕ) (m n : ℕ)
    → LiteralLooked fits base win o u w w₁ m
    → LiteralLooked fits base win p v w₁ w' n
    → m + n < 2 ^ 64
both-few fits base win o u p v w w₁ w' m n L M = omega (arith, literal-few fits base win o u w w₁ m L, literal-few fits base win p v w₁ w' n M)

-- What stands at an offset after the use u is looked up there.
abbrev SetAt : ℕ → Window → List ℕ → List ℕ → ℕ → ℕ → Type 0
SetAt base win w w' u o = u16_at w' o ≡ cond (ltb (found_in w base win (u / 2)) win.end) (2 * found_in w base win (u / 2) + u % 2) (u16_at w o)

one-use : (P : ℕ → Type 0) → P 0 → (i : ℕ) → i < 1 → P i
one-use P a zero l = a
one-use P a (suc i) l = absurd (omega arith)

two-uses : (P : ℕ → Type 0) → P 0 → P 1 → (i : ℕ) → i < 2 → P i
two-uses P a b zero l = a
two-uses P a b (suc zero) l = b
two-uses P a b (suc (suc i)) l = absurd (omega arith)

module _ (fits : Bool) (base : ℕ) (win : Window) (row : ℕ) (w : List ℕ) (R : WindowReady w base win) (P : PairRoom fits (4 * row + 4) base win.end w) where
  first-inside : fits ≡ true → 4 * row + 2 ≤ base
  first-inside t = omega (arith, P.inside t)

  pub first-room : PairRoom fits (4 * row + 2) base win.end w
  first-room = record { long = P.long; inside = first-inside; few = P.few }

  at_first : (u : ℕ) (w' : List ℕ) → SetAt base win w w' u (4 * row) → SetAt base win w w' u (4 * row + 2 * 0)
  at_first u w' S = let z : 4 * row + 2 * 0 ≡ 4 * row = omega arith in subst (SetAt base win w w' u) (sym z) S

  module _ (u : ℕ) (w₁ : List ℕ) (m : ℕ) (L : LiteralLooked fits base win (4 * row) u w w₁ m) where
    frame : KeptOutside 0 base w w₁
    frame = literal-frame fits base win (4 * row) u w w₁ m L first-inside

    pub second-ready : WindowReady w₁ base win
    second-ready = ready-kept base win w w₁ frame R

    pub second-room : PairRoom fits (4 * row + 2 + 2) base win.end w₁
    second-room = record { long = omega (arith, P.long, frame.long); inside = λ t. omega (arith, P.inside t); few = P.few }

    pub reset-room : fits ≡ true → 4 * row + 2 + 2 ≤ length w₁
    reset-room t = omega (arith, P.long, P.inside t, frame.long)

  module _ (section : s.Section) (l : Line) where
    by-section : (t : s.Section) (w' : List ℕ) (n : ℕ) → section ≡ t → UsesLooked fits base win row (section_in t) l w w' n → UsesLooked fits base win row (section_in section) l w w' n
    by-section t w' n e U = subst (λ (z : s.Section). UsesLooked fits base win row (section_in z) l w w' n) (sym e) U

    pub input-looked : section ≡ Input → UsesLooked fits base win row (section_in section) l w w 0
    input-looked e =
        by-section Input w 0 e
        (record {
          count = refl;
          none = λ _. refl;
          kept = λ _. kept-none (4 * row) (4 * row + 4) w;
          uses = λ t i h. absurd (omega arith);
          reset = λ t q. absurd (let z : ◌≡◌ {A = ℕ} 0 1 = cc in omega arith);
        })

    module _ (w₁ : List ℕ) (m : ℕ) where
      pub output-looked : section ≡ Output → LiteralLooked fits base win (4 * row) l.first w w₁ m → UsesLooked fits base win row (section_in section) l w w₁ m
      output-looked e L =
          by-section Output w₁ m e
          (record {
            count = omega (arith, L.count);
            none = L.none;
            kept = λ t. kept-wider (4 * row) (4 * row + 4) (L.kept t) (omega arith) (omega arith);
            uses = λ t. one-use (λ i. SetAt base win w w₁ (get_or (l.first ∷ []) i 0) (4 * row + 2 * i)) (at_first l.first w₁ (L.set t));
            reset = λ t q. absurd (let z : ◌≡◌ {A = ℕ} 0 1 = cc in omega arith);
          })

      module _ (e : section ≡ Latch) (L : LiteralLooked fits base win (4 * row) l.second w w₁ m) where
        pub latch-counted : fits ≡ false → UsesLooked fits base win row (section_in section) l w w₁ m
        latch-counted q =
            by-section Latch w₁ m e
            (record {
              count = omega (arith, L.count);
              none = L.none;
              kept = λ t. absurd (false≢true (sym q ∙ t));
              uses = λ t. absurd (false≢true (sym q ∙ t));
              reset = λ t. absurd (false≢true (sym q ∙ t));
            })

        pub latch-set :
            (reset : ℕ) (w' : List ℕ)
            → fits ≡ true
            → reset ≡ cond (leb l.third 1) l.third 2
            → reset ≤ 2
            → w' ≡ sets w₁ (4 * row + 2) (u16_bytes reset)
            → UsesLooked fits base win row (section_in section) l w w' m
        latch-set reset w' q p small s =
            let K : KeptOutside (4 * row + 2) (4 * row + 4) w₁ w' = rw s (kept_sets (4 * row + 2) (4 * row + 4) (u16_bytes reset) w₁ (4 * row + 2) (omega arith) (omega arith)) in
            by-section Latch w' m e
            (record {
              count = omega (arith, L.count);
              none = λ t. absurd (false≢true (sym t ∙ q));
              kept = λ t. kept-join (4 * row) (4 * row + 4) w w₁ w' (L.kept t) K (omega arith) (omega arith) (omega arith) (omega arith);
              uses = λ t. one-use (λ i. SetAt base win w w' (get_or (l.second ∷ []) i 0) (4 * row + 2 * i)) (at_first l.second w' (u16-kept K (4 * row) (λ x a b c d. omega arith) ∙ L.set t));
              reset = λ t z. rw s (u16-back w₁ (4 * row + 2) reset (omega arith) (reset-room l.second w₁ m L q)) ∙ p;
            })

      pub gate-looked :
          (w' : List ℕ) (n : ℕ)
          → section ≡ Gate
          → LiteralLooked fits base win (4 * row) l.second w w₁ m
          → LiteralLooked fits base win (4 * row + 2) l.third w₁ w' n
          → UsesLooked fits base win row (section_in section) l w w' (m + n)
      gate-looked w' n e L M =
          by-section Gate w' (m + n) e
          (record {
            count = omega (arith, L.count, count);
            none = λ t. M.none t ∙ L.none t;
            kept = λ t. kept-join (4 * row) (4 * row + 4) w w₁ w' (L.kept t) (M.kept t) (omega arith) (omega arith) (omega arith) (omega arith);
            uses = λ t. two-uses (λ i. SetAt base win w w' (get_or (l.second ∷ l.third ∷ []) i 0) (4 * row + 2 * i)) (at_first l.second w' (u16-kept (M.kept t) (4 * row) (λ x a b c d. omega arith) ∙ L.set t)) (second t);
            reset = λ t q. absurd (let z : ◌≡◌ {A = ℕ} 0 1 = cc in omega arith);
          })
        where
          same : found_in w₁ base win (l.third / 2) ≡ found_in w base win (l.third / 2)
          same = found-kept base win w w₁ (l.third / 2) (frame l.second w₁ m L)

          count : n ≡ cond (ltb (found_in w base win (l.third / 2)) win.end) 1 0
          count = rw same at M.count

          second : fits ≡ true → SetAt base win w w' l.third (4 * row + 2)
          second t = rw (same, u16-kept (L.kept t) (4 * row + 2) (λ x a b c d. omega arith)) at (M.set t)

-- ---- a line

-- The row is that of line k, and has its place.
pub row_small : (x : h.Header) (k row : ℕ) → FewHeader x → k < line_count (header_in x) → row ≡ row_of_line (header_in x) k → row < 2 ^ 60
row_small x k row F l e =
    let i = row_inside (header_in x) k l in
    omega (arith, i.1, F.inputs, F.latches, F.outputs, F.gates)

pub row_room :
    (h : Header) (k row base : ℕ) (fits : Bool) (e : ℕ) (w : List ℕ)
    → NamesRoom h fits base w
    → k < line_count h
    → row ≡ row_of_line h k
    → e ≤ node_count h
    → PairRoom fits (4 * row + 4) base e w
row_room h k row base fits e w N l q m = record {
  long = omega (arith, N.long, N.small);
  inside = λ t. omega (arith, (N.pairs t).0, (row_inside h k l).1);
  few = λ t. omega (arith, (N.pairs t).1);
}

module _ (h : Header) (base : ℕ) (win : Window) (k : ℕ) (l : Line) (w : List ℕ) (section : s.Section) (row : ℕ) (b : Bool) (is : section_in section ≡ section_of h k) (at : row ≡ row_of_line h k) (e : b ≡ defined_before w base win row (section_in section) l) where
  before-is : b ≡ defined_before w base win (row_of_line h k) (section_of h k) l
  before-is = e ∙ ap (λ (r : ℕ). defined_before w base win r (section_in section) l) at ∙ ap (λ (z : Section). defined_before w base win (row_of_line h k) z l) is

  pub line_defined : b ≡ true → LineTwice h base win k l w
  line_defined q = record { before = sym before-is ∙ q }

  pub line-looked : (fits : Bool) (w' : List ℕ) (n : ℕ) → b ≡ false → UsesLooked fits base win row (section_in section) l w w' n → LineLooked h fits base win k l w w' n
  line-looked fits w' n q U = record {
    fresh = sym before-is ∙ q;
    uses = subst (λ (z : Section). UsesLooked fits base win (row_of_line h k) z l w w' n) is (subst (λ (r : ℕ). UsesLooked fits base win r (section_in section) l w w' n) at U);
  }

-- ---- one line of the text

line-uses : (text : List ℕ) (k : ℕ) (l : Line) → LineHere text k l → (z : Section) → line_uses z l ≡ uses_in z (line_at (aiger_in text) k)
line-uses text k l H input_line = refl
line-uses text k l H latch_line = ap (λ n. n ∷ []) H.second
line-uses text k l H output_line = ap (λ n. n ∷ []) H.first
line-uses text k l H gate_line = ap₂ (λ m n. m ∷ n ∷ []) H.second H.third

-- A reset that is missing reads as 0.
reset-is : (ns : List ℕ) → length ns ≤ 3 → cond (leb (get_or ns 2 0) 1) (get_or ns 2 0) 2 ≡ reset_code ns
reset-is [] l = refl
reset-is (a ∷ []) l = refl
reset-is (a ∷ b ∷ []) l = refl
reset-is (a ∷ b ∷ c ∷ []) l = refl
reset-is (a ∷ b ∷ c ∷ d ∷ ns) l = absurd (omega arith)

count_same : {A : Type 0} (f g : A → Bool) → ((x : A) → f x ≡ g x) → (xs : List A) → count_if f xs ≡ count_if g xs
count_same f g e [] = refl
count_same f g e (x ∷ xs) = ap₂ (λ (b : Bool) (n : ℕ). cond b 1 0 + n) (e x) (count_same f g e xs)

module _ (text : List ℕ) (base : ℕ) (win : Window) (w : List ℕ) (k : ℕ) (l : Line) (H : LineHere text k l) (few : l.count ≤ 3) (S : WindowStands (aiger_in text) w base win) where
  abbrev a : Aiger
  a = aiger_in text

  abbrev start : ℕ
  start = win.start

  abbrev end : ℕ
  end = win.end

  uses-are : line_uses (section_of a.header k) l ≡ uses_of a k
  uses-are = line-uses text k l H (section_of a.header k)

  first-node : found_in w base win (l.first / 2) ≡ node_in a start end (number_at a k 0)
  first-node = found-is a w base win S (l.first / 2) ∙ ap (node_in a start end) H.first

  module _ (fits : Bool) (w' : List ℕ) (m : ℕ) (L : LineLooked a.header fits base win k l w w' m) where
    count-here : m ≡ uses_found a start end k
    count-here =
        L.uses.count
        ∙ count_same (λ u. ltb (found_in w base win (u / 2)) end) (λ u. ltb (node_in a start end u) end) (λ u. ap (λ (v : ℕ). ltb v end) (found-is a w base win S (u / 2))) (line_uses (section_of a.header k) l)
        ∙ ap (count_if (λ u. ltb (node_in a start end u) end)) uses-are

    use-here : fits ≡ true → (i : ℕ) → i < length (uses_of a k) → UseLooked a start end k i w w'
    use-here t i h =
        let o = use_offset a.header k i in
        let Sets : ℕ → ℕ → Type 0 = λ u v. u16_at w' o ≡ cond (ltb v end) (2 * v + u % 2) (u16_at w o) in
        let Of : List ℕ → Type 0 = λ us. i < length us → Sets (get_or us i 0) (found_in w base win (get_or us i 0 / 2)) in
        subst (Sets (use_at a k i)) (found-is a w base win S (use_at a k i / 2)) (subst Of uses-are (L.uses.uses t i) h)

    reset-here : fits ≡ true → section_of a.header k ≡ latch_line → u16_at w' (4 * row_of_line a.header k + 2) ≡ reset_code (line_at a k)
    reset-here t q =
        L.uses.reset t q
        ∙ ap (λ (n : ℕ). cond (leb n 1) n 2) H.third
        ∙ reset-is (line_at a k) (omega (arith, H.count))

    later-here : defines_at a.header k ≡ true → end ≤ row_of_line a.header k → node_in a start end (number_at a k 0) ≡ end
    later-here d h =
        let f : ltb (found_in w base win (l.first / 2)) end ≡ false = rw (d, le-leb end (row_of_line a.header k) h) at L.fresh in
        omega (arith, first-node, ltb-false (found_in w base win (l.first / 2)) end f, found-le a w base win S (l.first / 2))

  twice-here : lines_right a ≡ true → k < line_count a.header → LineTwice a.header base win k l w → is_distinct a ≡ false
  twice-here right b T =
      let d = and-true (defines_at a.header k) (leb end (row_of_line a.header k) && ltb (found_in w base win (l.first / 2)) end) T.before in
      let e = and-true (leb end (row_of_line a.header k)) (ltb (found_in w base win (l.first / 2)) end) d.1 in
      line-twice a right start end k S.ordered b d.0 (leb-true end (row_of_line a.header k) e.0)
      (λ q. omega (arith, first-node, ltb-true (found_in w base win (l.first / 2)) end e.1))

line_frame :
    (h : Header) (fits : Bool) (base : ℕ) (win : Window) (k : ℕ) (section : Section) (l : Line) (w₀ w w' : List ℕ) (n : ℕ)
    → NamesRoom h fits base w₀
    → k < line_count h
    → UsesLooked fits base win (row_of_line h k) section l w w' n
    → KeptOutside 0 base w w'
line_frame h true base win k section l w₀ w w' n N b U = pair-frame h k base w w' (U.kept refl) b (N.pairs refl).0
line_frame h false base win k section l w₀ w w' n N b U = rw (U.none refl) (kept-none 0 base w)

-- ---- the lines so far

-- The first k lines are looked up, and the next begins at `at`: n uses are found, and no definition is one of the window's.
pub record LookTo (text : List ℕ) (fits : Bool) (base : ℕ) (win : Window) (w₀ w : List ℕ) (k at n : ℕ) : Type 0 where
  pub inside : k ≤ line_count (aiger_in text).header
  pub start : LineStart text k at
  pub found : n ≡ lines_found (aiger_in text) win.start win.end k
  pub later : (j : ℕ) → j < k → defines_at (aiger_in text).header j ≡ true → win.end ≤ row_of_line (aiger_in text).header j → node_in (aiger_in text) win.start win.end (number_at (aiger_in text) j 0) ≡ win.end
  pub pairs : fits ≡ true → PairsLooked (aiger_in text) win.start win.end k w₀ w
  pub kept : KeptOutside 0 base w₀ w

module _ (text : List ℕ) (x : h.Header) (from : ℕ) (fits : Bool) (base : ℕ) (win : Window) (w₀ : List ℕ) (C : Counted text x from) where
  pub look-start : LookTo text fits base win w₀ w₀ 0 from 0
  look-start = record {
    inside = omega arith;
    start = C.start;
    found = sym (found-start (aiger_in text) win.start win.end);
    later = λ j l. absurd (omega arith);
    pairs = λ _. looked-none (aiger_in text) win.start win.end w₀;
    kept = kept-none 0 base w₀;
  }

  module _ (w : List ℕ) (k at n : ℕ) (T : LookTo text fits base win w₀ w k at n) where
    pub look-room : NamesRoom (header_in x) fits base w₀ → NamesRoom (header_in x) fits base w
    look-room N = record { long = omega (arith, N.long, T.kept.long); small = N.small; pairs = N.pairs }

    pub look-done : (lines : ℕ) → lines ≡ line_count (header_in x) → lines ≤ k → LookedUp (aiger_in text) fits base win.start win.end w₀ w n
    look-done lines e h =
        let g : line_count (header_in x) ≡ line_count (aiger_in text).header = ap line_count C.header in
        let z : k ≡ line_count (aiger_in text).header = omega (arith, T.inside) in
        record {
          found = T.found ∙ ap (lines_found (aiger_in text) win.start win.end) z;
          later = λ j b. T.later j (omega arith);
          pairs = λ t. subst (λ (m : ℕ). PairsLooked (aiger_in text) win.start win.end m w₀ w) z (T.pairs t);
          kept = T.kept;
        }

    module _ (S : WindowStands (aiger_in text) w₀ base win) where
      stands : WindowStands (aiger_in text) w base win
      stands = window-kept (aiger_in text) w₀ base win S w T.kept

      pub look-ready : WindowReady w base win
      look-ready = record { ordered = stands.ordered; tree = λ t. (stands.tree t).0 }

      pub look-inside : win.end ≤ node_count (header_in x)
      look-inside = omega (arith, S.inside, ap node_count C.header)

      module _ (lines : ℕ) (o : Option Line) (l : Line) (w' : List ℕ) (r : Result ℕ DefinedTwice) (count : lines ≡ line_count (header_in x)) (among : k < lines) (read : line_read text o ≡ line 3 (drop at text)) (got : o ≡ Some l) (padded : IfSome o (Padded text)) (is : LineLookedIs (header_in x) fits base win k l w w' r) where
        among-text : k < line_count (aiger_in text).header
        among-text = omega (arith, ap line_count C.header)

        pad : Padded text l
        pad = rw got at padded

        here : LineHere text k l
        here = next-line text k at o l (record { stand = C.stand; among = among-text; start = T.start }) read got padded

        pub look_twice : (t : DefinedTwice) → r ≡ Err t → is_distinct (aiger_in text) ≡ false
        look_twice t q = twice-here text base win w k l here (padded-few text l pad) stands (standing text C.stand).right among-text (subst (λ (h : Header). LineTwice h base win k l w) C.header (rw q at is))

        module _ (m : ℕ) (q : r ≡ Ok m) where
          looked-here : LineLooked (aiger_in text).header fits base win k l w w' m
          looked-here = subst (λ (h : Header). LineLooked h fits base win k l w w' m) C.header (rw q at is)

          counted : m ≡ uses_found (aiger_in text) win.start win.end k
          counted = count-here text base win w k l here (padded-few text l pad) stands fits w' m looked-here

          pub look-few : FewHeader x → n + m < 2 ^ 64
          look-few F = omega (arith, T.found, found-most (aiger_in text) win.start win.end k, counted, found-few (aiger_in text) win.start win.end k, F.inputs, F.latches, F.outputs, F.gates)

          pub look-next : NamesRoom (header_in x) fits base w₀ → LookTo text fits base win w₀ w' (k + 1) l.next (n + m)
          look-next N =
              let few = padded-few text l pad in
              let K = line_frame (aiger_in text).header fits base win k (section_of (aiger_in text).header k) l w₀ w w' m (subst (λ (h : Header). NamesRoom h fits base w₀) C.header N) among-text looked-here.uses in
              record {
                inside = omega (arith, among-text);
                start = here.next;
                found = found-next (aiger_in text) win.start win.end k (k + 1) n m T.found counted refl;
                later = λ j b.
                    last_or j k (omega arith)
                    (T.later j)
                    (λ z. rw z (later-here text base win w k l here few stands fits w' m looked-here));
                pairs = λ t.
                    looked-next (aiger_in text) win.start win.end k (k + 1) w₀ w w' (T.pairs t) (looked-here.uses.kept t)
                    (use-here text base win w k l here few stands fits w' m looked-here t)
                    (reset-here text base win w k l here few stands fits w' m looked-here t)
                    among-text refl;
                kept = kept-join 0 base w₀ w w' T.kept K (omega arith) (omega arith) (omega arith) (omega arith);
              }
