-- The counted lines of a text, one after another: each begins where the lines before it end, and each is right by itself where all stand.
-- Assumes nothing.
use Prim.Native.Nat.{ℕ, zero, suc, ◌+◌, ◌<◌, ◌≤◌}
use mathlib.Core.Path.{◌≡◌, refl, sym, ap, ◌∙◌}
use mathlib.Core.Bool.{Bool, true, false, cond, ◌&&◌, false≢true}
use mathlib.Core.List.{List, [], ◌∷◌, ◌++◌}
use mathlib.Core.Option.{Option, none, some, some-injective, none-ne-some}
use native.Mathlib.Omega.{arith}
use native.Mathlib.Numerals.{add-one}
use lib.ListN.{length, get_or, take, drop, length-append}
use lib.Seq.{take-length, take-append-le, get_or-take, get_or_at}
use Rattle.std.specs.Prelude.{Some, None, IsSome, IfSome}
use Rattle.std.specs.Prelude as code
use Rattle.memory.proofs.TestLaws.{last_or}
use Rattle.aiger.specs.AigerText.{Header, Aiger, line_count, line_at, section_of, line_right, lines_right, is_distinct, is_defined, aiger_right}
use Rattle.aiger.specs.AigerReading.{line, lines, header, read_lines, read_aiger}
use Rattle.aiger_lines.specs.declared.Line.{Line}
use Rattle.aiger_lines.specs.declared.Header as h
use Rattle.aiger_lines.proofs.ReadingLaws.{after-some, both-there}
use Rattle.aiger_lines.specs.Lines.{header_in, numbers_in, line_read, Padded, FewHeader, aiger_in, lines_stand, text_after, LineThere, LineHere, Counted}

-- ---- lines one after another

-- n lines and one more, its last, are ls.
pub record OneMore (n : ℕ) (t : List ℕ) (ls : List (List ℕ)) (r : List ℕ) : Type 0 where
  pub before : List (List ℕ)
  pub last : List ℕ
  pub between : List ℕ
  pub read-before : lines n t ≡ some (before, between)
  pub read-last : line 3 between ≡ some (last, r)
  pub all : ls ≡ before ++ (last ∷ [])

pub one_more : (n : ℕ) (t : List ℕ) (ls : List (List ℕ)) (r : List ℕ) → lines (suc n) t ≡ some (ls, r) → OneMore n t ls r
unfolding lines
one_more n t ls r e =
    let a = both-there (lines n t) _ (ls, r) e in
    let b = both-there (line 3 a.between) _ (ls, r) a.second in
    let p = some-injective _ _ b.second in
    record {
      before = a.value;
      last = b.value;
      between = a.between;
      read-before = a.first;
      read-last = b.first ∙ ap (λ (x : List ℕ). some (b.value, x)) (ap (λ x. x.1) p);
      all = sym (ap (λ x. x.0) p);
    }

pub lines_more : (n : ℕ) (t : List ℕ) (ls : List (List ℕ)) (u l r : List ℕ) → lines n t ≡ some (ls, u) → line 3 u ≡ some (l, r) → lines (suc n) t ≡ some (ls ++ (l ∷ []), r)
unfolding lines
lines_more n t ls u l r e f = after-some (lines n) _ t ls u e ∙ after-some (line 3) _ u l r f

pub lines_long : (n : ℕ) (t : List ℕ) (ls : List (List ℕ)) (r : List ℕ) → lines n t ≡ some (ls, r) → length ls ≡ n
unfolding lines
lines_long zero t ls r e = ap (λ x. length x.0) (sym (some-injective _ _ e))
lines_long (suc n) t ls r e =
    let m = one_more n t ls r e in
    rw m.all (length-append m.before (m.last ∷ []) ∙ ap (λ x. x + 1) (lines_long n t m.before m.between m.read-before) ∙ add-one n)

all_lines : (n : ℕ) (t : List ℕ) (ls : List (List ℕ)) (r : List ℕ) → lines n t ≡ some (ls, r) → (k : ℕ) → k ≡ n → (q : List ℕ) × (lines k t ≡ some (take k ls, q))
all_lines n t ls r e k z =
    let whole : ls ≡ take n ls = sym (take-length ls) ∙ ap (λ (m : ℕ). take m ls) (lines_long n t ls r e) in
    rw z (r, e ∙ ap (λ (x : List (List ℕ)). some (x, r)) whole)

-- The first k of n lines.
pub first-lines : (n : ℕ) (t : List ℕ) (ls : List (List ℕ)) (r : List ℕ) → lines n t ≡ some (ls, r) → (k : ℕ) → k ≤ n → (q : List ℕ) × (lines k t ≡ some (take k ls, q))
first-lines zero t ls r e k h = all_lines zero t ls r e k (omega arith)
first-lines (suc n) t ls r e k h =
    let m = one_more n t ls r e in
    let long = lines_long n t m.before m.between m.read-before in
    last_or k (suc n) (omega arith)
    (λ l.
    let q = first-lines n t m.before m.between m.read-before k (omega arith) in
    let same = ap (take k) m.all ∙ take-append-le k m.before (m.last ∷ []) (omega arith) in
    (q.0, q.1 ∙ ap (λ (x : List (List ℕ)). some (x, q.0)) (sym same)))
    (all_lines (suc n) t ls r e k)

-- Line k of n lines: it stands where the first k end.
pub line_of : (n : ℕ) (t : List ℕ) (ls : List (List ℕ)) (r : List ℕ) → lines n t ≡ some (ls, r) → (k : ℕ) → k < n → (at : List (List ℕ) × List ℕ) → lines k t ≡ some at → (q : List ℕ) × (line 3 at.1 ≡ some (get_or ls k [], q)) × (lines (suc k) t ≡ some (take (suc k) ls, q))
line_of n t ls r e k h at here =
    let f = first-lines n t ls r e (suc k) h in
    let m = one_more k t (take (suc k) ls) f.0 f.1 in
    let p : at ≡ (m.before, m.between) = some-injective _ _ (sym here ∙ m.read-before) in
    let l : get_or ls k [] ≡ m.last =
    sym (get_or-take (suc k) ls k [] (omega arith))
    ∙ ap (λ (x : List (List ℕ)). get_or x k []) m.all
    ∙ get_or_at m.before m.last [] [] k (lines_long k t m.before m.between m.read-before)
    in
    (f.0, rw (p, l) m.read-last, f.1)

-- ---- what a text says

pub says : (text : List ℕ) (a : Aiger) (r : List ℕ) → read_lines text ≡ some (a, r) → aiger_in text ≡ a
unfolding aiger_in
says text a r e = rw (aiger_in, e)

pub none-says : (text : List ℕ) → read_lines text ≡ none → (aiger_in text).lines ≡ []
unfolding aiger_in
none-says text e = rw (aiger_in, e)

pub stands : (text : List ℕ) (a : Aiger) (r : List ℕ) → read_lines text ≡ some (a, r) → lines_stand text ≡ lines_right a
unfolding lines_stand
stands text a r e = rw (lines_stand, e)

pub none-stands : (text : List ℕ) → read_lines text ≡ none → lines_stand text ≡ false
unfolding lines_stand
none-stands text e = rw (lines_stand, e)

-- The text has a's header, and a's lines after that; r is left.
pub record Lined (text : List ℕ) (a : Aiger) (r : List ℕ) : Type 0 where
  pub after : List ℕ
  pub read-header : header text ≡ some (a.header, after)
  pub read-lines : lines (line_count a.header) after ≡ some (a.lines, r)

pub lined : (text : List ℕ) (a : Aiger) (r : List ℕ) → read_lines text ≡ some (a, r) → Lined text a r
unfolding read_lines
lined text a r e =
    let x = both-there (header text) _ (a, r) e in
    let y = both-there (lines (line_count x.value) x.between) _ (a, r) x.second in
    let p = some-injective _ _ y.second in
    let g : x.value ≡ a.header = ap (λ q. q.0.header) p in
    record {
      after = x.between;
      read-header = x.first ∙ ap (λ (z : Header). some (z, x.between)) g;
      read-lines = ap (λ (z : Header). lines (line_count z) x.between) (sym g) ∙ y.first ∙ ap (λ (q : Aiger × List ℕ). some (q.0.lines, q.1)) p;
    }

pub read_all : (text : List ℕ) (g : Header) (t : List ℕ) (ls : List (List ℕ)) (r : List ℕ) → header text ≡ some (g, t) → lines (line_count g) t ≡ some (ls, r) → read_lines text ≡ some (record { header = g; lines = ls }, r)
unfolding read_lines
read_all text g t ls r e l = after-some header _ text g t e ∙ after-some (lines (line_count g)) _ t ls r l

-- The lines stand: what is then known of them.
pub record Standing (text : List ℕ) : Type 0 where
  pub rest : List ℕ
  pub lined : Lined text (aiger_in text) rest
  pub right : lines_right (aiger_in text) ≡ true

pub standing : (text : List ℕ) → lines_stand text ≡ true → Standing text
unfolding lines_stand
standing text e = of (read_lines text) refl e
  where
    of : (o : Option (Aiger × List ℕ)) → read_lines text ≡ o → elim o [ none ↦ false | some r ↦ lines_right r.0 ] ≡ true → Standing text
    of none q h = absurd (false≢true h)
    of (some r) q h = let a = says text r.0 r.1 q in record { rest = r.1; lined = rw a (lined text r.0 r.1 q); right = rw a h }

-- ---- where lines begin

-- The text after the first k lines.
after-lines : (text : List ℕ) (k : ℕ) (g : Header) (t : List ℕ) (q : List (List ℕ) × List ℕ) → header text ≡ some (g, t) → lines k t ≡ some q → text_after text k ≡ some q.1
unfolding text_after header
after-lines text k g t q e l = rw (e, l) refl

-- The first k lines, where line k begins.
lines-before : (text : List ℕ) (k : ℕ) (g : Header) (t r : List ℕ) → header text ≡ some (g, t) → text_after text k ≡ some r → (ls : List (List ℕ)) × (lines k t ≡ some (ls, r))
unfolding text_after header
lines-before text k g t r e s = of (lines k t) refl (rw e at s)
  where
    of : (o : Option (List (List ℕ) × List ℕ)) → lines k t ≡ o → elim o as (λ _. Option (List ℕ)) [ none ↦ none | some q ↦ some q.1 ] ≡ some r → (ls : List (List ℕ)) × (lines k t ≡ some (ls, r))
    of none q h = absurd (none-ne-some r h)
    of (some p) q h = (p.0, q ∙ ap (λ (x : List ℕ). some (p.0, x)) (some-injective _ _ h))

pub counted-lines : (text : List ℕ) (x : h.Header) (from : ℕ) → header text ≡ some (header_in x, drop from text) → from ≤ length text → FewHeader x → lines_stand text ≡ true → Counted text x from
unfolding lines
counted-lines text x from e inside few stand =
    let s = standing text stand in
    record {
      stand = stand;
      header = ap (λ q. q.0) (some-injective _ _ (sym e ∙ s.lined.read-header));
      few = few;
      start = record { inside = inside; rest = after-lines text 0 (header_in x) (drop from text) ([], drop from text) e refl };
    }

-- A line that was read, from its reading.
read_right : (text : List ℕ) (x : Line) (l r : List ℕ) → line_read text (Some x) ≡ some (l, r) → (numbers_in x ≡ l) × (drop x.next text ≡ r)
read_right text x l r h = let p = some-injective _ _ h in (ap (λ q. q.0) p, ap (λ q. q.1) p)

-- Line k is there to be read.
line-there : (text : List ℕ) (k at : ℕ) → LineThere text k at → (r : List ℕ) × (line 3 (drop at text) ≡ some (line_at (aiger_in text) k, r)) × (text_after text (suc k) ≡ some r)
line-there text k at there =
    let s = standing text there.stand in
    let g = s.lined in
    let b = lines-before text k _ g.after (drop at text) g.read-header there.start.rest in
    let m = line_of _ g.after _ s.rest g.read-lines k there.among (b.0, drop at text) b.1 in
    (m.0, m.1, after-lines text (suc k) _ g.after _ g.read-header m.2)

pub line-read : (text : List ℕ) (k at : ℕ) → LineThere text k at → (o : code.Option Line) → line_read text o ≡ line 3 (drop at text) → IsSome o
line-read text k at there (Some x) e = refl
line-read text k at there None e = absurd (none-ne-some _ (e ∙ (line-there text k at there).1))

pub next-line : (text : List ℕ) (k at : ℕ) (o : code.Option Line) (x : Line) → LineThere text k at → line_read text o ≡ line 3 (drop at text) → o ≡ Some x → IfSome o (Padded text) → LineHere text k x
next-line text k at o x there e is padded =
    let m = line-there text k at there in
    let read : line_read text (Some x) ≡ line 3 (drop at text) = rw is at e in
    let pad : Padded text x = rw is at padded in
    let r = read_right text x (line_at (aiger_in text) k) m.0 (read ∙ m.1) in
    record {
      first = pad.first ∙ ap (λ (l : List ℕ). get_or l 0 0) r.0;
      second = pad.second ∙ ap (λ (l : List ℕ). get_or l 1 0) r.0;
      third = pad.third ∙ ap (λ (l : List ℕ). get_or l 2 0) r.0;
      count = pad.count ∙ ap length r.0;
      next = record { inside = pad.inside; rest = rw (add-one, r.1) m.2 };
    }

-- ---- what is asked of them

abbrev pub right_at : Aiger → ℕ → Bool
right_at a k = line_right a.header (section_of a.header k) (line_at a k)

pub lines-text : (text : List ℕ) → read_aiger text ≡ cond (lines_stand text && is_distinct (aiger_in text) && is_defined (aiger_in text)) (some (aiger_in text)) none
unfolding read_aiger aiger_right
lines-text text = of (read_lines text) refl
  where
    of :
        (o : Option (Aiger × List ℕ))
        → read_lines text ≡ o
        → elim o as (λ _. Option Aiger) [ none ↦ none | some r ↦ cond (aiger_right r.0) (some r.0) none ]
        ≡ cond (lines_stand text && is_distinct (aiger_in text) && is_defined (aiger_in text)) (some (aiger_in text)) none
    of none q = rw (none-stands text q)
    of (some r) q = rw (stands text r.0 r.1 q, says text r.0 r.1 q)
