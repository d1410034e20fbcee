-- Texts: what is read as a header and lines is their writing, and the writing of right ones is read as these.
-- Assumes nothing.
use Prim.Native.Nat.{ℕ, zero, suc, ◌<◌, ◌≤◌}
use mathlib.Core.Path.{◌≡◌, refl, sym, ap, ap₂, ◌∙◌, subst, subst₂}
use mathlib.Core.Bool.{Bool, true, ◌&&◌, false≢true}
use mathlib.Core.List.{List, [], ◌∷◌, ◌++◌, append_assoc}
use mathlib.Core.Option.{Option, none, some, some-injective}
use native.Mathlib.Omega.{arith}
use lib.ListN.{length, get_or, drop, length-append, get_or-append}
use lib.Seq.{get_or_at, ext_get_or}
use lib.Dec.{eqb, ltb, leb}
use borrow.Author.Tests.{eqb-true}
use Rattle.memory.specs.Lists.{all_of, join_below, tabulate}
use Rattle.memory.proofs.TestLaws.{and-true, or_case}
use Rattle.memory.proofs.ListLaws.{all_below-at, join-cong, tabulate-length, tabulate-at}
use Rattle.aiger.specs.AigerText.{Header, Aiger, line_count, line_at, Section, input_line, latch_line, output_line, gate_line, section_of, definition_right, line_right, lines_right, is_distinct, is_defined, aiger_right, largest_number, line_bytes, opening, header_numbers, writing, IsTextOf}
use Rattle.aiger.specs.AigerReading.{line, lines, starts_with, header_of, header, read_lines, read_aiger, ReadsWriting}
use Rattle.aiger.proofs.ReadingLaws.{Gives, none_is, given-once, cond-some, then-of, then_is}
use Rattle.aiger.proofs.LineLaws.{few_of, LineSize, LineText, line-is, line-read}

-- ---- lists

tabulate-self {ℓ} : {A : Type ℓ} (xs : List A) (d : A) → tabulate (length xs) (λ i. get_or xs i d) ≡ xs
tabulate-self xs d =
    ext_get_or d (tabulate (length xs) (λ i. get_or xs i d)) xs (tabulate-length (length xs) (λ i. get_or xs i d))
    (λ i l. tabulate-at (length xs) (λ i. get_or xs i d) i d (rw tabulate-length at l))

module _ {ℓ} {A : Type ℓ} (f : A → Bool) where
  all-get : (xs : List A) (d : A) → all_of f xs ≡ true → (i : ℕ) → i < length xs → f (get_or xs i d) ≡ true
  all-get [] d h i l = absurd (omega arith)
  all-get (x ∷ xs) d h zero l = (and-true (f x) (all_of f xs) h).0
  all-get (x ∷ xs) d h (suc i) l = all-get xs d (and-true (f x) (all_of f xs) h).1 i (omega arith)

  all-last : (xs : List A) (x : A) → all_of f xs ≡ true → f x ≡ true → all_of f (xs ++ (x ∷ [])) ≡ true
  all-last [] x h e = rw e
  all-last (y ∷ ys) x h e = let p = and-true (f y) (all_of f ys) h in rw p.0 (all-last ys x p.1 e)

-- ---- lines

lines-read : (n : ℕ) (f : ℕ → List ℕ) (t : List ℕ) → ((k : ℕ) → k < n → LineSize 3 (f k)) → ((k : ℕ) → k < n → few_of (f k) ≡ true) → Gives (lines n (join_below n (λ k. line_bytes (f k)) ++ t)) (tabulate n f) t
unfolding lines
lines-read zero f t s u = refl
lines-read (suc n) f t s u =
    let before = join_below n (λ k. line_bytes (f k)) in
    let l = line_bytes (f n) ++ t in
    ap (lines (suc n)) (append_assoc before (line_bytes (f n)) t)
    ∙ then-of (lines n) _ (before ++ l) (tabulate n f) l (lines-read n f l (λ k i. s k (omega arith)) (λ k i. u k (omega arith)))
    ∙ then-of (line _) _ l (f n) t (line-read _ (f n) t (s n (omega arith)) (u n (omega arith)))

-- t is the bytes of the n lines ls, and then r.
record LinesText (n : ℕ) (t : List ℕ) (ls : List (List ℕ)) (r : List ℕ) : Type 0 where
  counted : length ls ≡ n
  bytes-first : t ≡ join_below n (λ k. line_bytes (get_or ls k [])) ++ r
  few : all_of few_of ls ≡ true

lines_more : (n : ℕ) (t : List ℕ) (ks : List (List ℕ)) (s l q : List ℕ) → LinesText n t ks s → LineText 3 s l q → LinesText (suc n) t (ks ++ (l ∷ [])) q
lines_more n t ks s l q K L =
    let f : ℕ → List ℕ = λ k. line_bytes (get_or (ks ++ (l ∷ [])) k []) in
    record {
      counted = simp length-append (omega (arith, K.counted));
      bytes-first =
          K.bytes-first
          ∙ ap₂ (λ (xs ys : List ℕ). xs ++ ys)
          (join-cong n (λ k. line_bytes (get_or ks k [])) f (λ k i. ap line_bytes (sym (get_or-append ks (l ∷ []) [] k (rw K.counted i)))))
          (L.bytes-first ∙ ap (λ (ns : List ℕ). line_bytes ns ++ q) (sym (get_or_at ks l [] [] n K.counted)))
          ∙ sym (append_assoc (join_below n f) (f n) q);
      few = all-last few_of ks l K.few L.few;
    }

lines-is : (n : ℕ) (t : List ℕ) (ls : List (List ℕ)) (r : List ℕ) → Gives (lines n t) ls r → LinesText n t ls r
unfolding lines
lines-is zero t ls r h = let q = given-once [] ls t r h in subst₂ (LinesText 0 t) q.0 q.1 (record { counted = refl; bytes-first = refl; few = refl })
lines-is (suc n) t ls r h =
    let ih = lines-is n t in
    then_is (lines n) _ t ls r h (λ ks s e h.
    then_is (line _) _ s ls r h (λ l p g h.
    let q = given-once (ks ++ (l ∷ [])) ls p r h in
    subst₂ (LinesText (suc n) t) q.0 q.1 (lines_more n t ks s l p (ih ks s e) (line-is _ s l p g))))

-- ---- the header

header_read : (h : Header) (t : List ℕ) → few_of (header_numbers h) ≡ true → Gives (header (opening ++ line_bytes (header_numbers h) ++ t)) h t
unfolding header
header_read h t u = then-of (line 5) header_of (line_bytes (header_numbers h) ++ t) (header_numbers h) t (line-read 5 (header_numbers h) t (omega arith) u)

starts-with : (bs t : List ℕ) → starts_with bs t ≡ true → t ≡ bs ++ drop (length bs) t
starts-with [] t h = refl
starts-with (b ∷ bs) [] h = absurd (false≢true h)
starts-with (b ∷ bs) (c ∷ t) h = let p = and-true (eqb b c) (starts_with bs t) h in rw (eqb-true b c p.0) (ap (λ (s : List ℕ). c ∷ s) (starts-with bs t p.1))

record HeaderText (t : List ℕ) (h : Header) (r : List ℕ) : Type 0 where
  bytes-first : t ≡ opening ++ line_bytes (header_numbers h) ++ r
  few : few_of (header_numbers h) ≡ true

-- Five numbers are a header's.
header-of : (ns s : List ℕ) (h : Header) (r : List ℕ) → Gives (header_of ns s) h r → (ns ≡ header_numbers h) × (s ≡ r)
header-of ns s h r e =
    let c = cond-some _ _ (h, r) e in
    let q = given-once _ h s r c.1 in
    (sym (tabulate-self ns 0) ∙ ap (λ (n : ℕ). tabulate n (λ i. get_or ns i 0)) (eqb-true (length ns) 5 c.0) ∙ ap header_numbers q.0, q.1)

header_is : (t : List ℕ) (h : Header) (r : List ℕ) → Gives (header t) h r → HeaderText t h r
unfolding header
header_is t h r e =
    let c = cond-some _ _ (h, r) e in
    then_is (line _) header_of _ h r c.1 (λ ns s g k.
    let L = line-is _ _ ns s g in
    let q = header-of ns s h r k in
    record {
      bytes-first = starts-with opening t c.0 ∙ ap (λ (s : List ℕ). opening ++ s) (L.bytes-first ∙ ap₂ (λ (ns s : List ℕ). line_bytes ns ++ s) q.0 q.1);
      few = subst (λ (ns : List ℕ). few_of ns ≡ true) q.0 L.few;
    })

-- ---- header and lines

-- t is the writing of a, whose lines the header counts, and then r.
pub record ReadText (t : List ℕ) (a : Aiger) (r : List ℕ) : Type 0 where
  pub written : t ≡ writing a ++ r
  pub counted : length a.lines ≡ line_count a.header
  pub numbers : all_of (all_of (λ n. leb n largest_number)) (header_numbers a.header ∷ a.lines) ≡ true

writing-parts : (a : Aiger) (n : ℕ) (r : List ℕ) → length a.lines ≡ n → writing a ++ r ≡ opening ++ line_bytes (header_numbers a.header) ++ (join_below n (λ k. line_bytes (line_at a k)) ++ r)
unfolding writing
writing-parts a n r e =
    append_assoc (opening ++ line_bytes (header_numbers a.header)) (join_below (length a.lines) (λ k. line_bytes (line_at a k))) r
    ∙ ap (λ (n : ℕ). opening ++ line_bytes (header_numbers a.header) ++ (join_below n (λ k. line_bytes (line_at a k)) ++ r)) e

pub text-is : (t : List ℕ) (a : Aiger) (r : List ℕ) → Gives (read_lines t) a r → ReadText t a r
unfolding read_lines
text-is t a r e =
    then_is header _ t a r e (λ h s x e.
    then_is (lines _) _ s a r e (λ ls q y e.
    let H = header_is t h s x in
    let L = lines-is _ s ls q y in
    let b : Aiger = record { header = h; lines = ls } in
    let g = given-once b a q r e in
    subst₂ (ReadText t) g.0 g.1 (record {
      written = H.bytes-first ∙ ap (λ (x : List ℕ). opening ++ line_bytes (header_numbers h) ++ x) L.bytes-first ∙ sym (writing-parts b _ q L.counted);
      counted = L.counted;
      numbers = rw H.few L.few;
    })))

pub text-read : (t : List ℕ) (a : Aiger) (r : List ℕ) → ReadText t a r → ((k : ℕ) → k < line_count a.header → LineSize 3 (line_at a k)) → Gives (read_lines t) a r
unfolding read_lines
text-read t a r R s =
    let n = line_count a.header in
    let after = join_below n (λ k. line_bytes (line_at a k)) ++ r in
    let few = and-true (few_of (header_numbers a.header)) (all_of few_of a.lines) R.numbers in
    let read = lines-read n (line_at a) r s (λ k l. all-get few_of a.lines [] few.1 k (rw R.counted l)) in
    let same = ap (λ (n : ℕ). tabulate n (line_at a)) (sym R.counted) ∙ tabulate-self a.lines [] in
    ap read_lines (R.written ∙ writing-parts a n r R.counted)
    ∙ then-of header _ _ a.header after (header_read a.header after few.0)
    ∙ then-of (lines _) _ after a.lines r (read ∙ ap (λ (ls : List (List ℕ)). some (ls, r)) same)

-- ---- what is right

size_of : (n : ℕ) (ns : List ℕ) → 0 < n → n ≤ 3 → eqb (length ns) n ≡ true → LineSize 3 ns
size_of n ns l u e = let q = eqb-true (length ns) n e in omega arith

-- A right line has 1 to 3 numbers.
line-size : (h : Header) (s : Section) (ns : List ℕ) → line_right h s ns ≡ true → LineSize 3 ns
line-size h input_line ns e = size_of 1 ns (omega arith) (omega arith) (and-true (eqb (length ns) 1) _ e).0
line-size h latch_line ns e =
    or_case (eqb (length ns) 2) _ (and-true _ (definition_right h (get_or ns 0 0)) e).0
    (size_of 2 ns (omega arith) (omega arith))
    (λ q. size_of 3 ns (omega arith) (omega arith) (and-true (eqb (length ns) 3) _ q).0)
line-size h output_line ns e = size_of 1 ns (omega arith) (omega arith) e
line-size h gate_line ns e = size_of 3 ns (omega arith) (omega arith) (and-true (eqb (length ns) 3) _ e).0

right-sizes : (a : Aiger) → aiger_right a ≡ true → (k : ℕ) → k < line_count a.header → LineSize 3 (line_at a k)
unfolding aiger_right lines_right
right-sizes a e k l =
    let p = and-true (lines_right a && is_distinct a) (is_defined a) e in
    let q = and-true (lines_right a) (is_distinct a) p.0 in
    let w = and-true (ltb 0 a.header.outputs) _ q.0 in
    line-size a.header (section_of a.header k) (line_at a k) (all_below-at (line_count a.header) (λ k. line_right a.header (section_of a.header k) (line_at a k)) w.1 k l)

-- ---- reading and writing

read-written : (text : List ℕ) (a : Aiger) → read_aiger text ≡ some a → IsTextOf text a
unfolding read_aiger
read-written text a h = go (read_lines text) refl
  where
    go : (o : Option (Aiger × List ℕ)) → read_lines text ≡ o → IsTextOf text a
    go none e = none_is a (rw (e, read_aiger) at h)
    go (some r) e =
        let c = cond-some _ _ a (rw (e, read_aiger) at h) in
        let R = text-is text r.0 r.1 e in
        subst (IsTextOf text) (some-injective r.0 a c.1) (record { rest = r.1; written = R.written; counted = R.counted; numbers = R.numbers; right = c.0 })

written_read : (text : List ℕ) (a : Aiger) → IsTextOf text a → read_aiger text ≡ some a
unfolding read_aiger
written_read text a I = rw (text-read text a I.rest (record { written = I.written; counted = I.counted; numbers = I.numbers }) (right-sizes a I.right), read_aiger, I.right)

pub reads-writing : ReadsWriting
reads-writing text a = (read-written text a, written_read text a)
