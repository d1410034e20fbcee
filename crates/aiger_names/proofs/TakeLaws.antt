-- Windows taken one after the other: the walk along the lines as one is made, what is taken of it, and what is left when all are taken.
-- Assumes nothing.
use Prim.Native.Nat.{ℕ, ◌+◌, ◌-◌, ◌*◌, ◌<◌, ◌≤◌, ◌/◌, ◌^◌}
use mathlib.Core.Path.{◌≡◌, refl, sym, ap, subst, ◌∙◌}
use mathlib.Core.Bool.{Bool, true, false, not, ◌&&◌}
use mathlib.Core.List.{List}
use native.Mathlib.Omega.{arith}
use lib.ListN.{length, drop}
use lib.Dec.{eqb}
use borrow.Author.Tests.{not-true, not-false}
use Rattle.std.specs.Prelude.{Option, Some, IfSome, Result, Ok}
use Rattle.memory.specs.Fields.{u16_at}
use Rattle.memory.specs.Frames.{KeptOutside}
use Rattle.memory.proofs.FrameLaws.{u16-kept, kept-none, kept-join}
use Rattle.name_tree.specs.Trees.{entry_of, Added}
use Rattle.aiger.specs.AigerText.{Aiger, line_count, section_of, node_count, node_literal, is_distinct, is_defined}
use Rattle.aiger.specs.AigerReading as reading
use Rattle.aiger_lines.specs.declared.Line.{Line}
use Rattle.aiger_lines.specs.declared.Header as h
use Rattle.aiger_lines.specs.declared.Section as s
use Rattle.aiger_lines.specs.Lines.{header_in, section_in, line_read, Padded, FewHeader, aiger_in, lines_stand, LineHere, Counted}
use Rattle.aiger_lines.proofs.LineLaws.{standing, next-line}
use Rattle.aiger_names.specs.Names.{name_bytes, defines_in, defines_at, nodes_before, PlaceIs, WindowStands, CountsUp, TreeHas, lines_found, use_count, DistinctBelow, use_offset, PairsLooked, PairsBelow, ResetsStand, PairsStand, NamesRoom, TreeFilled, FilledIs, LookedUp, LookedIs, WindowTaken, TakenIs}
use Rattle.aiger_names.specs.declared.Window.{Window}
use Rattle.aiger_names.specs.declared.Place.{Place}
use Rattle.aiger_names.specs.declared.DefinedTwice.{DefinedTwice}
use Rattle.aiger_names.proofs.LineRowLaws.{nodes-first, nodes-end, nodes-most, nodes-more, nodes-same, nodes-below, row_inside, node-literal-next, node-even}
use Rattle.aiger_names.proofs.WindowLaws.{window-apart, distinct-zero, distinct-next, distinct-all, later-apart}
use Rattle.aiger_names.proofs.FillLaws.{run-first, run-next, window-run, filled_none, filled_next, filled-twice, window-tree}
use Rattle.aiger_names.proofs.CountLaws.{uses-few, found-split, found-most, found_all}
use Rattle.aiger_names.proofs.PairLaws.{pairs-zero, pairs_next, resets-of, pairs-stand}

abbrev pub place_at : ℕ → ℕ → ℕ → Place
place_at line node at = record { line = line; node = node; at = at }

-- ---- along the lines

place-start : (text : List ℕ) (x : h.Header) (from : ℕ) → Counted text x from → PlaceIs text (place_at 0 1 from)
place-start text x from C = record { inside = omega arith; start = C.start; node = sym (nodes-first (aiger_in text).header) }

-- The nodes before the line count up.
pub record Counting (text : List ℕ) (line node at : ℕ) : Type 0 where
  pub here : PlaceIs text (place_at line node at)
  pub run : CountsUp (aiger_in text) node
  pub some : 0 < node

pub counting-start : (text : List ℕ) (x : h.Header) (from : ℕ) → Counted text x from → Counting text 0 1 from
counting-start text x from C = record { here = place-start text x from C; run = run-first (aiger_in text); some = omega arith }

-- Not more nodes stand before a place than there are, and these are few.
place_inside : (text : List ℕ) (p : Place) → PlaceIs text p → p.node ≤ node_count (aiger_in text).header
place_inside text p P = omega (arith, P.node, nodes-most (aiger_in text).header p.line P.inside)

lines-few : (text : List ℕ) (x : h.Header) → FewHeader x → header_in x ≡ (aiger_in text).header → line_count (aiger_in text).header < 2 ^ 40
lines-few text x F e = subst (λ y. line_count y < 2 ^ 40) e few
  where
    few : line_count (header_in x) < 2 ^ 40
    few = omega arith

place-few : (text : List ℕ) (x : h.Header) (p : Place) → FewHeader x → header_in x ≡ (aiger_in text).header → PlaceIs text p → p.node ≤ 2 ^ 40
place-few text x p F e P = omega (arith, place_inside text p P, lines-few text x F e)

pub place-upto : (text : List ℕ) (x : h.Header) (lines : ℕ) (p : Place) → header_in x ≡ (aiger_in text).header → lines ≡ line_count (header_in x) → PlaceIs text p → p.line ≤ lines
place-upto text x lines p e n P = subst (λ k. p.line ≤ k) (sym (n ∙ ap line_count e)) P.inside

-- The line l is read at the place; b says whether it defines a node.
module _
    (text : List ℕ) (x : h.Header) (lines line node at : ℕ) (o : Option Line) (l : Line) (section : s.Section) (b : Bool)
    (stand : lines_stand text ≡ true) (same : header_in x ≡ (aiger_in text).header)
    (P : PlaceIs text (place_at line node at))
    (count : lines ≡ line_count (header_in x)) (below : line < lines)
    (read : line_read text o ≡ reading.line 3 (drop at text)) (got : o ≡ Some l) (pad : IfSome o (Padded text))
    (sec : section_in section ≡ section_of (header_in x) line) (def : b ≡ defines_in (section_in section))
  where
    among : line < line_count (aiger_in text).header
    among = rw (← same, ← count) below

    here : LineHere text line l
    here = next-line text line at o l (record { stand = stand; among = among; start = P.start }) read got pad

    defines-is : defines_at (aiger_in text).header line ≡ b
    defines-is = rw (← same, ← sec) (sym def)

    -- The place after it.
    place-more : (line' node' : ℕ) → b ≡ true → line' ≡ line + 1 → node' ≡ node + 1 → PlaceIs text (place_at line' node' l.next)
    place-more line' node' t e n = record {
      inside = omega (arith, among);
      start = rw e here.next;
      node = n ∙ ap (λ k. k + 1) P.node ∙ sym (nodes-more (aiger_in text).header line line' among (defines-is ∙ t) e);
    }

    place_same : (line' node' : ℕ) → b ≡ false → line' ≡ line + 1 → node' ≡ node → PlaceIs text (place_at line' node' l.next)
    place_same line' node' t e n = record {
      inside = omega (arith, among);
      start = rw e here.next;
      node = n ∙ P.node ∙ sym (nodes-same (aiger_in text).header line line' among (defines-is ∙ t) e);
    }

    -- The node that it defines.
    node-read : b ≡ true → node_literal (aiger_in text) node ≡ l.first
    node-read t = ap (node_literal (aiger_in text)) P.node ∙ node-literal-next (aiger_in text) line among (defines-is ∙ t) ∙ sym here.first

    node-below : b ≡ true → node < node_count (aiger_in text).header
    node-below t = rw P.node (nodes-below (aiger_in text).header line among (defines-is ∙ t))

    half-read : b ≡ true → node_literal (aiger_in text) node ≡ 2 * (l.first / 2)
    half-read t =
        let even = node-even (aiger_in text) node (standing text stand).right (node-below t) in
        omega (arith, even, node-read t)

    pub counting_more : (line' node' : ℕ) → Counting text line node at → b ≡ true → l.first ≡ 2 * node → line' ≡ line + 1 → node' ≡ node + 1 → Counting text line' node' l.next
    counting_more line' node' C t f e n = record {
      here = place-more line' node' t e n;
      run = run-next (aiger_in text) node node' C.run (node-read t ∙ f) n;
      some = omega arith;
    }

    pub counting-same : (line' node' : ℕ) → Counting text line node at → b ≡ false → line' ≡ line + 1 → node' ≡ node → Counting text line' node' l.next
    counting-same line' node' C t e n = record { here = place_same line' node' t e n; run = rw n C.run; some = omega arith }

-- ---- a tree that is filled

-- The first `count` nodes from the place on are in the tree; line `line` comes next.
pub record Filling (text : List ℕ) (place : Place) (base capacity : ℕ) (w₀ w : List ℕ) (line at count : ℕ) : Type 0 where
  pub here : PlaceIs text (place_at line (place.node + count) at)
  pub has : TreeHas (aiger_in text) w base place.node count
  pub outside : KeptOutside base name_bytes w₀ w
  pub room : count ≤ capacity

pub filling-start : (text : List ℕ) (place : Place) (base capacity : ℕ) (w : List ℕ) → PlaceIs text place → base + 8 ≤ name_bytes → name_bytes ≤ length w → Filling text place base capacity w w place.line place.at 0
filling-start text place base capacity w P h l = record {
  here = record { inside = P.inside; start = P.start; node = omega (arith, P.node) };
  has = filled_none (aiger_in text) w base place.node (omega arith);
  outside = kept-none base name_bytes w;
  room = omega arith;
}

-- There is room for one more.
pub filling-room : (text : List ℕ) (place : Place) (base capacity : ℕ) (w₀ w : List ℕ) (line at count : ℕ) → Filling text place base capacity w₀ w line at count → capacity ≡ (name_bytes - base) / 8 → (count ≡ capacity → ⊥) → base + 8 * count + 8 ≤ name_bytes
filling-room text place base capacity w₀ w line at count F e n = let l : count < capacity = omega (arith, F.room, n) in omega arith

module _
    (text : List ℕ) (x : h.Header) (place : Place) (base capacity lines line at count : ℕ) (w₀ w : List ℕ) (o : Option Line) (l : Line) (section : s.Section) (b : Bool)
    (stand : lines_stand text ≡ true) (same : header_in x ≡ (aiger_in text).header)
    (F : Filling text place base capacity w₀ w line at count)
    (counted : lines ≡ line_count (header_in x)) (below : line < lines)
    (read : line_read text o ≡ reading.line 3 (drop at text)) (got : o ≡ Some l) (pad : IfSome o (Padded text))
    (sec : section_in section ≡ section_of (header_in x) line) (def : b ≡ defines_in (section_in section))
  where
    half : b ≡ true → node_literal (aiger_in text) (place.node + count) ≡ 2 * (l.first / 2)
    half = half-read text x lines line (place.node + count) at o l section b stand same F.here counted below read got pad sec def

    pub filling-more :
        (w₁ w₂ : List ℕ) (line' count' : ℕ) (r : Bool)
        → b ≡ true
        → (r ≡ true → Added w base count (l.first / 2) w₁)
        → not r ≡ false
        → w₂ ≡ w₁
        → capacity ≡ (name_bytes - base) / 8
        → (count ≡ capacity → ⊥)
        → line' ≡ line + 1
        → count' ≡ count + 1
        → Filling text place base capacity w₀ w₂ line' l.next count'
    filling-more w₁ w₂ line' count' r t add new u q n e f =
        let A = add (not-false r new) in
        let room = filling-room text place base capacity w₀ w line at count F q n in
        rw u (record {
          here = place-more text x lines line (place.node + count) at o l section b stand same F.here counted below read got pad sec def line' (place.node + count') t e (omega arith);
          has = filled_next (aiger_in text) w w₁ base place.node count count' (l.first / 2) F.has A (half t) f;
          outside = kept-join base name_bytes w₀ w w₁ F.outside A.outside (omega arith) (omega arith) (omega arith) (omega arith);
          room = omega (arith, F.room, n);
        })

    pub filling-same : (w₁ : List ℕ) (line' count' : ℕ) → b ≡ false → w₁ ≡ w → line' ≡ line + 1 → count' ≡ count → Filling text place base capacity w₀ w₁ line' l.next count'
    filling-same w₁ line' count' t u e f = rw u (record {
      here = place_same text x lines line (place.node + count) at o l section b stand same F.here counted below read got pad sec def line' (place.node + count') t e (omega arith);
      has = rw f F.has;
      outside = F.outside;
      room = omega (arith, F.room);
    })

    -- The line's variable is in the tree.
    pub filling-twice : (r : Bool) → b ≡ true → (r ≡ false → entry_of w base count (l.first / 2) < count) → not r ≡ true → is_distinct (aiger_in text) ≡ false
    filling-twice r t q old =
        filled-twice (aiger_in text) w base place.node count (l.first / 2) F.has (q (not-true r old)) (half t)
        (node-below text x lines line (place.node + count) at o l section b stand same F.here counted below read got pad sec def t)

pub filling-few : (text : List ℕ) (x : h.Header) (place : Place) (base capacity line at count : ℕ) (w₀ w : List ℕ) → FewHeader x → header_in x ≡ (aiger_in text).header → Filling text place base capacity w₀ w line at count → place.node + count < 2 ^ 64
filling-few text x place base capacity line at count w₀ w few e F = omega (arith, place-few text x (place_at line (place.node + count) at) few e F.here)

-- The tree is full, or there is no line more.
module _ (text : List ℕ) (place : Place) (base capacity line at count : ℕ) (w₀ w : List ℕ) (F : Filling text place base capacity w₀ w line at count) where
  filled-all : 0 < count → TreeFilled text place (place_at line (place.node + count) at) base w₀ w
  filled-all l =
      let size : place.node + count - place.node ≡ count = omega arith in
      record { place = F.here; more = omega arith; has = rw size F.has; outside = F.outside }

  pub filled-full : base + 8 ≤ name_bytes → capacity ≡ (name_bytes - base) / 8 → count ≡ capacity → TreeFilled text place (place_at line (place.node + count) at) base w₀ w
  filled-full h e n = filled-all (omega arith)

  pub filled-ended : (x : h.Header) (lines : ℕ) → header_in x ≡ (aiger_in text).header → lines ≡ line_count (header_in x) → lines ≤ line → place.node < node_count (header_in x) → TreeFilled text place (place_at lines (place.node + count) at) base w₀ w
  filled-ended x lines e n h l =
      let q : line_count (aiger_in text).header ≡ lines = rw (← e) (sym n) in
      let m : place.node < node_count (aiger_in text).header = rw (← e) l in
      let z : line ≡ line_count (aiger_in text).header = omega (arith, F.here.inside) in
      let d : line ≡ lines = omega arith in
      rw (← d) (filled-all (omega (arith, F.here.node, ap (nodes_before (aiger_in text).header) z, nodes-end (aiger_in text).header)))

-- ---- a window that is taken

-- What was filled, and what was looked up, by the answer.
filled_is : (text : List ℕ) (place next : Place) (base : ℕ) (w w' : List ℕ) (r : Result Place DefinedTwice) → FilledIs text place base w w' r → r ≡ Ok next → TreeFilled text place next base w w'
filled_is text place next base w w' r F e = rw e at F

module _ (a : Aiger) (fits : Bool) (base s e : ℕ) (w w' : List ℕ) (r : Result ℕ DefinedTwice) (L : LookedIs a fits base s e w w' r) where
  looked-is : (n : ℕ) → r ≡ Ok n → LookedUp a fits base s e w w' n
  looked-is n q = rw q at L

-- The windows stand.
pub run-stands : (text : List ℕ) (w : List ℕ) (base : ℕ) (p : Place) (win : Window) → PlaceIs text p → CountsUp (aiger_in text) p.node → win.start ≡ 0 → win.end ≡ p.node → win.tree ≡ false → WindowStands (aiger_in text) w base win
run-stands text w base p win P C s e t = window-run (aiger_in text) w base win s t (rw e C) (rw e (place_inside text p P))

pub tree-stands : (text : List ℕ) (w w' : List ℕ) (base : ℕ) (place next : Place) (win : Window) (f : Result Place DefinedTwice) → FilledIs text place base w w' f → f ≡ Ok next → win.start ≡ place.node → win.end ≡ next.node → win.tree ≡ true → WindowStands (aiger_in text) w' base win
tree-stands text w w' base place next win f F g s e t =
    let T = filled_is text place next base w w' f F g in
    window-tree (aiger_in text) w' base (next.node - place.node) win t (rw s T.has) (omega (arith, T.more)) (rw e (place_inside text next T.place))

pub room-same : (x : h.Header) (fits : Bool) (base : ℕ) (w w' : List ℕ) → NamesRoom (header_in x) fits base w → length w' ≡ length w → NamesRoom (header_in x) fits base w'
room-same x fits base w w' R e = record { long = omega (arith, R.long); small = R.small; pairs = R.pairs }

-- Filling a tree keeps the pairs, which stand before it.
pairs-kept :
    (a : Aiger) (s e base : ℕ) (w w₁ w' : List ℕ)
    → KeptOutside base name_bytes w w₁
    → base ≡ 4 * (node_count a.header + a.header.outputs)
    → PairsLooked a s e (line_count a.header) w₁ w'
    → PairsLooked a s e (line_count a.header) w w'
pairs-kept a s e base w w₁ w' K q P = record {
  uses = λ k i l n. rw (kept k i l (omega (arith, uses-few a k))) at (P.uses k i l n);
  resets = P.resets;
  later = λ k i h l n. absurd (omega arith);
}
  where
    kept : (k i : ℕ) → k < line_count a.header → i < 2 → u16_at w₁ (use_offset a.header k i) ≡ u16_at w (use_offset a.header k i)
    kept k i l n = u16-kept K (use_offset a.header k i) (λ y h b lo hi. omega (arith, (row_inside a.header k l).1))

-- The window is looked up in w₁, which is w but for the tree.
module _
    (text : List ℕ) (x : h.Header) (fits : Bool) (base : ℕ) (next : Place) (win : Window) (w w₁ w' : List ℕ) (n : ℕ)
    (stand : lines_stand text ≡ true) (same : header_in x ≡ (aiger_in text).header)
    (room : NamesRoom (header_in x) fits base w)
    (K : KeptOutside base name_bytes w w₁)
    (P : PlaceIs text next)
    (S : WindowStands (aiger_in text) w₁ base win) (ends : win.end ≡ next.node) (more : win.start < win.end)
    (L : LookedUp (aiger_in text) fits base win.start win.end w₁ w' n)
  where
    taken-distinct : DistinctBelow (aiger_in text) win.start → DistinctBelow (aiger_in text) win.end
    taken-distinct D =
        distinct-next (aiger_in text) win.start win.end D (window-apart (aiger_in text) w₁ base win S)
        (later-apart (aiger_in text) (standing text stand).right win.start win.end L.later)

    window-taken : WindowTaken text fits win.start next w w' n
    window-taken = record {
      place = P;
      more = rw ends at more;
      found = rw ends at L.found;
      distinct = λ D. rw ends at (taken-distinct D);
      pairs = λ f. rw ends at (pairs-kept (aiger_in text) win.start win.end base w w₁ w' K (subst (λ y. base ≡ 4 * (node_count y + y.outputs)) same (room.pairs f).0) (L.pairs f));
      long = L.kept.long ∙ K.long;
    }

pub run-taken :
    (text : List ℕ) (x : h.Header) (from : ℕ) (fits : Bool) (base : ℕ) (p : Place) (w w' : List ℕ) (n : ℕ) (r : Result ℕ DefinedTwice)
    → Counted text x from
    → NamesRoom (header_in x) fits base w
    → PlaceIs text p
    → CountsUp (aiger_in text) p.node
    → 0 < p.node
    → LookedIs (aiger_in text) fits base 0 p.node w w' r
    → r ≡ Ok n
    → WindowTaken text fits 0 p w w' n
run-taken text x from fits base p w w' n r C R P U more L q =
    let win : Window = record { start = 0; end = p.node; tree = false } in
    window-taken text x fits base p win w w w' n C.stand C.header R (kept-none base name_bytes w) P (run-stands text w base p win P U refl refl refl) refl more
    (looked-is (aiger_in text) fits base 0 p.node w w' r L n q)

pub tree-taken :
    (text : List ℕ) (x : h.Header) (from : ℕ) (fits : Bool) (base : ℕ) (place next : Place) (w w₁ w' : List ℕ) (n : ℕ) (f : Result Place DefinedTwice) (r : Result ℕ DefinedTwice)
    → Counted text x from
    → NamesRoom (header_in x) fits base w
    → FilledIs text place base w w₁ f
    → f ≡ Ok next
    → LookedIs (aiger_in text) fits base place.node next.node w₁ w' r
    → r ≡ Ok n
    → WindowTaken text fits place.node next w w' n
tree-taken text x from fits base place next w w₁ w' n f r C R F g L q =
    let T = filled_is text place next base w w₁ f F g in
    let win : Window = record { start = place.node; end = next.node; tree = true } in
    window-taken text x fits base next win w w₁ w' n C.stand C.header R T.outside T.place (tree-stands text w w₁ base place next win f F g refl refl refl) refl T.more
    (looked-is (aiger_in text) fits base place.node next.node w₁ w' r L n q)

-- ---- all windows

-- The windows before the place are taken: `found` uses have a node of them.
pub record Taking (text : List ℕ) (x : h.Header) (fits : Bool) (base : ℕ) (w : List ℕ) (place : Place) (found : ℕ) : Type 0 where
  pub here : PlaceIs text place
  pub distinct : DistinctBelow (aiger_in text) place.node
  pub count : found ≡ lines_found (aiger_in text) 0 place.node (line_count (aiger_in text).header)
  pub pairs : fits ≡ true → PairsBelow (aiger_in text) place.node w × ResetsStand (aiger_in text) w
  pub room : NamesRoom (header_in x) fits base w
  pub few : line_count (aiger_in text).header < 2 ^ 40

module _ (text : List ℕ) (x : h.Header) (fits : Bool) (base s : ℕ) (w w' : List ℕ) (next : Place) (n : ℕ) (r : Result (Place × ℕ) DefinedTwice) (answer : TakenIs text fits s w w' r) (is : r ≡ Ok (next, n)) where
  T : WindowTaken text fits s next w w' n
  T = rw is at answer

  abbrev a : Aiger
  a = aiger_in text

  pub taken-less : (nodes : ℕ) → s < nodes → nodes - next.node < nodes - s
  taken-less nodes h = omega (arith, T.more)

  inside : next.node ≤ node_count a.header
  inside = place_inside text next T.place

  pub taking-first : (from : ℕ) → s ≡ 0 → Counted text x from → NamesRoom (header_in x) fits base w → Taking text x fits base w' next n
  taking-first from z C R =
      let D = T.distinct (rw z (distinct-zero a)) in
      record {
        here = T.place;
        distinct = D;
        count = rw z at T.found;
        pairs = λ f. (pairs_next a s next.node w w' (rw z (pairs-zero a w)) (T.pairs f) D (omega arith) inside, resets-of a s next.node w w' (T.pairs f));
        room = room-same x fits base w w' R T.long;
        few = lines-few text x C.few C.header;
      }

  module _ (place : Place) (found : ℕ) (B : Taking text x fits base w place found) (e : s ≡ place.node) where
    pub taking-next : (found' : ℕ) → found' ≡ found + n → Taking text x fits base w' next found'
    taking-next found' q =
        let D = T.distinct (rw e B.distinct) in
        let o : s ≤ next.node = omega (arith, T.more) in
        record {
          here = T.place;
          distinct = D;
          count = q ∙ rw (B.count, T.found, ← e) (found-split a s next.node D o inside (line_count a.header));
          pairs = λ f. (pairs_next a s next.node w w' (rw e (B.pairs f).0) (T.pairs f) D o inside, resets-of a s next.node w w' (T.pairs f));
          room = room-same x fits base w w' B.room T.long;
          few = B.few;
        }

-- Sums of counts are few.
pub found-fits :
    (text : List ℕ) (x : h.Header) (fits : Bool) (base : ℕ) (w w' : List ℕ) (place next : Place) (found n : ℕ) (r : Result (Place × ℕ) DefinedTwice)
    → Taking text x fits base w place found
    → r ≡ Ok (next, n)
    → TakenIs text fits place.node w w' r
    → found + n < 2 ^ 64
found-fits text x fits base w w' place next found n r B is answer =
    let T : WindowTaken text fits place.node next w w' n = rw is at answer in
    let most : (s e : ℕ) → lines_found (aiger_in text) s e (line_count (aiger_in text).header) ≤ 2 * line_count (aiger_in text).header = λ s e. found-most (aiger_in text) s e (line_count (aiger_in text).header) in
    omega (arith, B.few, B.count, T.found, most 0 place.node, most place.node next.node)

-- All windows are taken.
module _ (text : List ℕ) (x : h.Header) (fits : Bool) (base : ℕ) (w : List ℕ) (place : Place) (found nodes uses : ℕ) (B : Taking text x fits base w place found) (same : header_in x ≡ (aiger_in text).header) (all : nodes ≡ node_count (header_in x)) (end : nodes ≤ place.node) (count : uses ≡ use_count (header_in x)) where
  place-last : place.node ≡ node_count (aiger_in text).header
  place-last = let h : node_count (aiger_in text).header ≤ place.node = rw (← same, ← all) end in omega (arith, place_inside text place B.here)

  defined-is : eqb found uses ≡ is_defined (aiger_in text)
  defined-is = rw (B.count, count ∙ ap use_count same, place-last) (found_all (aiger_in text))

  pub names-all : eqb found uses ≡ is_distinct (aiger_in text) && is_defined (aiger_in text)
  names-all = let d = distinct-all (aiger_in text) (rw place-last at B.distinct) in rw (d, defined-is)

  pub pairs-all : eqb found uses ≡ true → fits ≡ true → PairsStand (aiger_in text) w
  pairs-all t f = pairs-stand (aiger_in text) w (rw place-last at (B.pairs f).0) (B.pairs f).1 (sym defined-is ∙ t)
