-- The counted lines read one after another, each right by itself: whether all stand.
-- Assumes nothing.
use Prim.Native.Nat.{ℕ, ◌+◌, ◌<◌, ◌≤◌}
use mathlib.Core.Path.{◌≡◌, refl, sym, ap, ◌∙◌}
use mathlib.Core.Bool.{Bool, true, false, not, ◌&&◌}
use mathlib.Core.List.{List, [], ◌∷◌, ◌++◌}
use mathlib.Core.Option.{Option, none, some, some-injective, none-ne-some}
use native.Mathlib.Omega.{arith}
use native.Mathlib.Numerals.{add-one}
use lib.ListN.{length, get_or, drop, get_or-append}
use lib.Seq.{get_or_at}
use lib.Dec.{ltb}
use borrow.Author.Tests.{not-true, not-false, lt-ltb}
use Rattle.std.specs.Prelude.{Some, None, IfSome}
use Rattle.std.specs.Prelude as code
use Rattle.memory.proofs.TestLaws.{last_or}
use Rattle.memory.proofs.ListLaws.{all_below-of, all_below-no}
use Rattle.aiger.specs.AigerText.{Header, Aiger, Section, line_count, section_of, line_right, lines_right}
use Rattle.aiger.specs.AigerReading.{line, lines, header, read_lines}
use Rattle.aiger_lines.specs.declared.Line.{Line}
use Rattle.aiger_lines.specs.declared.Header as h
use Rattle.aiger_lines.specs.declared.Section as s
use Rattle.aiger_lines.specs.Lines.{header_in, section_in, numbers_in, line_read, Padded, lines_stand}
use Rattle.aiger_lines.proofs.LineLaws.{lines_more, lines_long, line_of, stands, none-stands, lined, read_all, right_at}

-- The first k lines after the header are there, each right by itself, and the next begins at `at`.
pub record ReadTo (text : List ℕ) (x : h.Header) (from k at : ℕ) : Type 0 where
  pub inside : at ≤ length text
  pub numbers : List (List ℕ)
  pub read : lines k (drop from text) ≡ some (numbers, drop at text)
  pub right : (j : ℕ) → j < k → line_right (header_in x) (section_of (header_in x) j) (get_or numbers j []) ≡ true

pub read-start : (text : List ℕ) (x : h.Header) (from : ℕ) → from ≤ length text → ReadTo text x from 0 from
unfolding lines
read-start text x from h = record { inside = h; numbers = []; read = refl; right = λ j l. absurd (omega arith) }

-- ---- one more line

pub read_more :
    (text : List ℕ) (x : h.Header) (from k at : ℕ) (o : code.Option Line) (l : Line) (section : s.Section) (b : Bool)
    → ReadTo text x from k at
    → line_read text o ≡ line 3 (drop at text)
    → o ≡ Some l
    → IfSome o (Padded text)
    → section_in section ≡ section_of (header_in x) k
    → b ≡ line_right (header_in x) (section_in section) (numbers_in l)
    → not b ≡ false
    → ReadTo text x from (k + 1) l.next
read_more text x from k at o l section b r e is padded s q t =
    let pad : Padded text l = rw is at padded in
    let here : line 3 (drop at text) ≡ some (numbers_in l, drop l.next text) = sym e ∙ ap (line_read text) is in
    let long = lines_long k (drop from text) r.numbers (drop at text) r.read in
    let so : line_right (header_in x) (section_of (header_in x) k) (numbers_in l) ≡ true = ap (λ (z : Section). line_right (header_in x) z (numbers_in l)) (sym s) ∙ sym q ∙ not-false b t in
    record {
      inside = pad.inside;
      numbers = r.numbers ++ (numbers_in l ∷ []);
      read = rw add-one (lines_more k (drop from text) r.numbers (drop at text) (numbers_in l) (drop l.next text) r.read here);
      right = λ j h.
          last_or j k (omega arith)
          (λ below. rw (get_or-append r.numbers (numbers_in l ∷ []) [] j (omega arith)) (r.right j below))
          (λ z. rw (z, get_or_at r.numbers (numbers_in l) [] [] k long) so);
    }

-- ---- what it means for all of them

line-wrong : (a : Aiger) (k : ℕ) → k < line_count a.header → right_at a k ≡ false → lines_right a ≡ false
unfolding lines_right
line-wrong a k h e = rw (all_below-no (line_count a.header) (right_at a) k h e) (of (ltb 0 a.header.outputs))
  where
    of : (b : Bool) → b && false ≡ false
    of true = refl
    of false = refl

lines-are-right : (a : Aiger) → 0 < a.header.outputs → ((k : ℕ) → k < line_count a.header → right_at a k ≡ true) → lines_right a ≡ true
unfolding lines_right
lines-are-right a h f = rw (lt-ltb 0 a.header.outputs h) (all_below-of (line_count a.header) (right_at a) f)

module _ (text : List ℕ) (x : h.Header) (from : ℕ) (head : header text ≡ some (header_in x, drop from text)) where
  -- They do not stand if what they are read as is not right.
  unless : ((a : Aiger) (r : List ℕ) → a.header ≡ header_in x → lines (line_count (header_in x)) (drop from text) ≡ some (a.lines, r) → lines_right a ≡ false) → false ≡ lines_stand text
  unless wrong = of (read_lines text) refl
    where
      of : (o : Option (Aiger × List ℕ)) → read_lines text ≡ o → false ≡ lines_stand text
      of none q = sym (none-stands text q)
      of (some p) q =
          let g = lined text p.0 p.1 q in
          let same = some-injective _ _ (sym g.read-header ∙ head) in
          sym (stands text p.0 p.1 q ∙ wrong p.0 p.1 (ap (λ z. z.0) same) (ap (λ (z : Header × List ℕ). lines (line_count z.0) z.1) (sym same) ∙ g.read-lines))

  pub no-outputs : x.outputs ≡ 0 → false ≡ lines_stand text
  unfolding lines_right
  no-outputs z = unless (λ a r e ls. rw (e, z))

  module _ (n : ℕ) (count : n ≡ line_count (header_in x)) (k at : ℕ) (to : ReadTo text x from k at) where
    module _ (among : k < n) (o : code.Option Line) (read : line_read text o ≡ line 3 (drop at text)) where
      -- Line k of what is read.
      line-here : (a : Aiger) (r : List ℕ) → lines (line_count (header_in x)) (drop from text) ≡ some (a.lines, r) → (q : List ℕ) × (line_read text o ≡ some (get_or a.lines k [], q))
      line-here a r ls =
          let m = line_of (line_count (header_in x)) (drop from text) a.lines r ls k (omega arith) (to.numbers, drop at text) to.read in
          (m.0, read ∙ m.1)

      pub not-read : o ≡ None → false ≡ lines_stand text
      not-read t = unless (λ a r e ls. let m = line-here a r ls in absurd (none-ne-some _ (sym (ap (line_read text) t) ∙ m.1)))

      pub not_right : (l : Line) (section : s.Section) (b : Bool) → o ≡ Some l → section_in section ≡ section_of (header_in x) k → b ≡ line_right (header_in x) (section_in section) (numbers_in l) → not b ≡ true → false ≡ lines_stand text
      not_right l section b is s q t = unless (λ a r e ls. wrong a e (line-here a r ls))
        where
          wrong : (a : Aiger) → a.header ≡ header_in x → (q : List ℕ) × (line_read text o ≡ some (get_or a.lines k [], q)) → lines_right a ≡ false
          wrong a e m =
              let ns : numbers_in l ≡ get_or a.lines k [] = ap (λ z. z.0) (some-injective _ _ (sym (ap (line_read text) is) ∙ m.1)) in
              line-wrong a k (rw (e, ← count) among) (rw (e, ← ns, ← s, ← q) (not-true b t))

    pub all_read : n ≤ k → k ≤ n → (x.outputs ≡ 0 → ⊥) → true ≡ lines_stand text
    all_read h l some-output =
        let z : k ≡ line_count (header_in x) = omega arith in
        let whole = ap (λ (m : ℕ). lines m (drop from text)) (sym z) ∙ to.read in
        sym
        (stands text (record { header = header_in x; lines = to.numbers }) (drop at text) (read_all text (header_in x) (drop from text) to.numbers (drop at text) head whole)
        ∙ lines-are-right (record { header = header_in x; lines = to.numbers }) (omega arith) (λ j b. to.right j (omega arith)))
