-- Where the rows of the unrolled netlist come from. A row that is made carries the kind and the label of an original row, and the phase in which it is made; rows are made in the order of phase and row, and the original's names are unique, so those of the rows made are.
-- Assumes nothing.
use Prim.Native.Nat.{ℕ, zero, suc, ◌+◌, ◌-◌, ◌<◌, ◌≤◌}
use mathlib.Core.Path.{◌≡◌, refl, sym, ap, ◌∙◌, subst}
use mathlib.Core.Bool.{true, false, false≢true}
use mathlib.Core.List.{List, [], ◌∷◌, ◌++◌, append_assoc, append-nil}
use native.Mathlib.Omega.{arith}
use native.Mathlib.Decide.{dec_lt}
use lib.ListN.{length, get_or, length-append, get_or-append}
use lib.Seq.{get_or_at, get_or-append-add}
use Rattle.memory.specs.Lists.{join_below}
use Rattle.memory.proofs.TestLaws.{last_or}
use Rattle.ternary.specs.Ternary.{Ternary}
use Rattle.netlist.specs.Rows.{Row, constant, input, register, and_gate, xor_gate, mux_gate, output, row_at, kind_of, label_of, phase_of, has_name, is_register, is_output}
use Rattle.netlist.proofs.RowLaws.{named-alike, each_append, each-one}
use Rattle.netlist.specs.WellFormed.{SameName, NamesDistinct, EachRow, FoldableRows}
use Rattle.abstraction.specs.GateMaking.{Image}
use Rattle.abstraction.specs.Unrolling.{phase_output, unroll_phases, phase_outputs}
use Rattle.abstraction.proofs.BuilderLaws.{ImageOver, Added, none, one}
use Rattle.abstraction.proofs.UnrollLaws.{unroll-keeps}

pub distinct_append : (xs ys : List Row) → NamesDistinct xs → NamesDistinct ys → ((i j : ℕ) → i < length xs → j < length ys → has_name (row_at xs i) ≡ true → SameName (row_at xs i) (row_at ys j) → ⊥) → NamesDistinct (xs ++ ys)
distinct_append xs ys d e f i j l h =
    elim (dec_lt j (length xs)) [
      | yes k ↦ rw (get_or-append xs ys constant i (omega arith), get_or-append xs ys constant j k) (d i j l k)
      | no k ↦
          (let n = j - length xs in
          let q : j ≡ length xs + n = omega arith in
          let b : n < length ys = omega (arith, h, length-append xs ys) in
          let w : row_at (xs ++ ys) j ≡ row_at ys n = ap (row_at (xs ++ ys)) q ∙ get_or-append-add xs ys n constant in
          elim (dec_lt i (length xs)) [
            | yes k' ↦ rw (w, get_or-append xs ys constant i k') (f i n k' b)
            | no k' ↦
                (let n' = i - length xs in
                let q' : i ≡ length xs + n' = omega arith in
                let w' : row_at (xs ++ ys) i ≡ row_at ys n' = ap (row_at (xs ++ ys)) q' ∙ get_or-append-add xs ys n' constant in
                rw (w, w') (e n' n (omega arith) b))
          ])
    ]

-- Phase k of row x is made before phase K of row n.
pub data MadeEarlier (k x K n : ℕ) : Type 0 where
  in-phase-before : k < K → MadeEarlier k x K n
  in-row-before : k ≡ K → x < n → MadeEarlier k x K n

pub phase-before : {k x K : ℕ} → MadeEarlier k x K 0 → k < K
phase-before (in-phase-before h) = h
phase-before (in-row-before e h) = absurd (omega arith)

module _ (rows : List Row) where
  -- The original's row that r stands for in its phase, which is made before phase K of row n.
  pub record Source (K n : ℕ) (r : Row) : Type 0 where
    pub row : ℕ
    pub within : row < length rows
    pub kind : kind_of r ≡ kind_of (row_at rows row)
    pub label : label_of r ≡ label_of (row_at rows row)
    pub same : is_register r ≡ true → r ≡ row_at rows row
    pub earlier : MadeEarlier (phase_of r) row K n

  abbrev pub Sourced : ℕ → ℕ → Row → Type 0
  Sourced K n r = has_name r ≡ true → Source K n r

  later : {k x K n K' n' : ℕ} → (k < K → MadeEarlier k x K' n') → (k ≡ K → x < n → MadeEarlier k x K' n') → MadeEarlier k x K n → MadeEarlier k x K' n'
  later f g (in-phase-before h) = f h
  later f g (in-row-before e h) = g e h

  sourced-by : (K n K' n' : ℕ) (r : Row) → ((x : ℕ) → MadeEarlier (phase_of r) x K n → MadeEarlier (phase_of r) x K' n') → Sourced K n r → Sourced K' n' r
  sourced-by K n K' n' r f s t =
      let o = s t in
      record { row = o.row; within = o.within; kind = o.kind; label = o.label; same = o.same; earlier = f o.row o.earlier }

  next_row : (K n : ℕ) (r : Row) → Sourced K n r → Sourced K (suc n) r
  next_row K n r = sourced-by K n K (suc n) r (λ x. later (λ h. in-phase-before h) (λ e h. in-row-before e (omega arith)))

  next-phase : (K n : ℕ) (r : Row) → Sourced K n r → Sourced (suc K) 0 r
  next-phase K n r = sourced-by K n (suc K) 0 r (λ x. later (λ h. in-phase-before (omega arith)) (λ e h. in-phase-before (omega arith)))

  -- The rows that are named are made before phase K of row n; and, if the original's names are unique, so are these.
  pub record Named (K n : ℕ) (xs : List Row) : Type 0 where
    pub sourced : EachRow (Sourced K n) xs
    pub distinct : FoldableRows rows → NamesDistinct xs

  named_keep : (K n : ℕ) (xs : List Row) → Named K n xs → Named K (suc n) xs
  named_keep K n xs t = record { sourced = λ i h. next_row K n (row_at xs i) (t.sourced i h); distinct = t.distinct }

  named-phase : (K n : ℕ) (xs : List Row) → Named K n xs → Named (suc K) 0 xs
  named-phase K n xs t = record { sourced = λ i h. next-phase K n (row_at xs i) (t.sourced i h); distinct = t.distinct }

  -- One row more, made of row n in phase K.
  named_more : (K n : ℕ) (xs : List Row) (r : Row) → n < length rows → kind_of r ≡ kind_of (row_at rows n) → label_of r ≡ label_of (row_at rows n) → (is_register r ≡ true → r ≡ row_at rows n) → (has_name r ≡ true → phase_of r ≡ K)
      → Named K n xs → Named K (suc n) (xs ++ (r ∷ []))
  named_more K n xs r b kind label same phase t = record {
    sourced = each_append (Sourced K (suc n)) xs (r ∷ []) (λ i h. next_row K n (row_at xs i) (t.sourced i h))
        (each-one (Sourced K (suc n)) r (λ q. record { row = n; within = b; kind = kind; label = label; same = same; earlier = in-row-before (phase q) (omega arith) }));
    distinct = λ ok. distinct_append xs (r ∷ []) (t.distinct ok) (λ i j l h. absurd (omega arith)) (cross ok);
  }
    where
      cross : FoldableRows rows → (i j : ℕ) → i < length xs → j < 1 → has_name (row_at xs i) ≡ true → SameName (row_at xs i) (row_at (r ∷ []) j) → ⊥
      cross ok i (suc j) h l q k = omega arith
      cross ok i zero h l q k =
          let o = t.sourced i h q in
          let e : o.row ≡ n = ok.checked.unique o.row n o.within b (named-alike (row_at xs i) (row_at rows o.row) o.kind q)
          (record { kind = sym o.kind ∙ k.kind ∙ kind; label = sym o.label ∙ k.label ∙ label; phase = ok.unphased o.row o.within ∙ sym (ok.unphased n b) }) in
          let p : phase_of (row_at xs i) ≡ K = k.phase ∙ phase (named-alike (row_at xs i) r k.kind q) in
          elim o.earlier [ in-phase-before h ↦ omega arith | in-row-before a h ↦ omega arith ]

  named_step : (k n : ℕ) {made : List Row} {i : Image} {made' : List Row} → n < length rows → Added made i made' → ImageOver (length made) k (row_at rows n) i → Named k n made → Named k (suc n) made'
  named_step k n {made} b none g t = named_keep k n made t
  named_step k n {made} b (one {r}) g t = let w = g.0 in named_more k n made r b w.kind w.label w.same w.phase t

  -- The rows made: row 0 is the constant, and the others are other nodes.
  pub record NodesOnly (xs : List Row) : Type 0 where
    pub some-row : 0 < length xs
    pub constant-first : row_at xs 0 ≡ constant
    pub solid : (i : ℕ) → 0 < i → i < length xs → 0 < kind_of (row_at xs i)
    pub node : (i : ℕ) → i < length xs → is_output (row_at xs i) ≡ false

  nodes-step : (k n : ℕ) {made : List Row} {i : Image} {made' : List Row} → Added made i made' → ImageOver (length made) k (row_at rows n) i → NodesOnly made → NodesOnly made'
  nodes-step k n none g t = t
  nodes-step k n {made} (one {r}) g t = record {
    some-row = omega (arith, t.some-row, length-append made (r ∷ []));
    constant-first = get_or-append made (r ∷ []) constant 0 t.some-row ∙ t.constant-first;
    solid = λ i h b.
        last_or i (length made) (omega (arith, b, length-append made (r ∷ [])))
        (λ l. rw (get_or-append made (r ∷ []) constant i l) (t.solid i h l))
        (λ e. rw (e, get_or_at made r [] constant (length made) refl) g.0.solid);
    node = each_append (λ s. is_output s ≡ false) made (r ∷ []) t.node (each-one (λ s. is_output s ≡ false) r g.0.node);
  }

  module _ (clock : ℕ → ℕ → Ternary) where
    pub unroll-named : (k : ℕ) → Named k 0 (unroll_phases clock rows k).made
    unroll-named =
        unroll-keeps clock rows Named (λ k n made i made' b a g t. named_step k n b a g t)
        (record { sourced = each-one (Sourced 0 0) constant (λ q. absurd (false≢true q)); distinct = λ ok i j l h. absurd (omega arith) })
        (λ k made t. named-phase k (length rows) made t)

    pub unroll-nodes : (k : ℕ) → NodesOnly (unroll_phases clock rows k).made
    unroll-nodes =
        unroll-keeps clock rows (λ k n made. NodesOnly made) (λ k n made i made' b a g t. nodes-step k n a g t)
        (record { some-row = omega arith; constant-first = refl; solid = λ i h b. absurd (omega arith); node = each-one (λ s. is_output s ≡ false) constant refl })
        (λ k made t. t)

    -- ---- the outputs

    -- A list that ends with what row n gives in phase K.
    output-named : (K n : ℕ) (base ys : List Row) (m : ℕ) (r : Row) → row_at rows n ≡ r → n < length rows → Named K n (base ++ ys) → Named K (suc n) (base ++ (ys ++ phase_output K m r))
    output-named K n base ys m constant e b t = rw (append-nil ys) (named_keep K n (base ++ ys) t)
    output-named K n base ys m (input _ _) e b t = rw (append-nil ys) (named_keep K n (base ++ ys) t)
    output-named K n base ys m (register _ _ _) e b t = rw (append-nil ys) (named_keep K n (base ++ ys) t)
    output-named K n base ys m (and_gate _ _) e b t = rw (append-nil ys) (named_keep K n (base ++ ys) t)
    output-named K n base ys m (xor_gate _ _) e b t = rw (append-nil ys) (named_keep K n (base ++ ys) t)
    output-named K n base ys m (mux_gate _ _ _) e b t = rw (append-nil ys) (named_keep K n (base ++ ys) t)
    output-named K n base ys m (output a l p) e b t =
        subst (Named K (suc n)) (append_assoc base ys (output m l K ∷ []))
        (named_more K n (base ++ ys) (output m l K) b (sym (ap kind_of e)) (sym (ap label_of e)) (λ h. absurd (false≢true h)) (λ _. refl) t)

    phase-named : (k : ℕ) (base : List Row) (images : List ℕ) → Named k 0 base → (n : ℕ) → n ≤ length rows → Named k n (base ++ join_below n (λ i. phase_output k (get_or images i 0) (row_at rows i)))
    phase-named k base images t zero h = rw (append-nil base) t
    phase-named k base images t (suc n) h = output-named k n base (join_below n (λ i. phase_output k (get_or images i 0) (row_at rows i))) (get_or images n 0) (row_at rows n) refl h (phase-named k base images t n (omega arith))

    pub outputs-named : (k : ℕ) → Named k 0 (join_below k (phase_outputs clock rows))
    unfolding phase_outputs
    outputs-named zero = record { sourced = λ i h. absurd (omega arith); distinct = λ ok i j l h. absurd (omega arith) }
    outputs-named (suc k) = named-phase k (length rows) _ (phase-named k (join_below k (phase_outputs clock rows)) (unroll_phases clock rows (suc k)).images (outputs-named k) (length rows) (omega arith))
