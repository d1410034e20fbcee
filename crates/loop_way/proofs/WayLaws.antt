-- A way is made row by row, until its last gate names a row that it has.
-- Assumes nothing.
use Prim.Native.Nat.{ℕ, ◌+◌, ◌*◌, ◌<◌, ◌≤◌}
use mathlib.Core.Path.{◌≡◌, refl, sym, ap, ◌∙◌, subst}
use mathlib.Core.Bool.{Bool, true, false, not, ◌&&◌}
use mathlib.Core.List.{List}
use native.Mathlib.Omega.{arith}
use native.Mathlib.Decide.{dec_lt}
use lib.ListN.{length}
use lib.Dec.{leb}
use borrow.Author.Tests.{leb-true, not-false}
use Rattle.std.specs.Prelude.{Result, Ok}
use Rattle.memory.specs.Slots.{slot_at, set_slot}
use Rattle.memory.proofs.SlotLaws.{slot_same, slot-other}
use Rattle.netlist.specs.Limits.{most_rows, row_work_bytes}
use Rattle.netlist.specs.Rows.{Row}
use Rattle.netlist.specs.FileFormat.{netlist_of}
use Rattle.aiger.specs.AigerText.{line_count, is_distinct, is_defined}
use Rattle.aiger.specs.AigerRows.{text_rows}
use Rattle.accept.specs.declared.Accepted.{Accepted}
use Rattle.accept.specs.declared.FileRefusal.{FileRefusal}
use Rattle.accept.specs.Refusals.{accept_refusal, CheckedUnordered}
use Rattle.accept.proofs.RefusalLaws.{unordered-ready}
use Rattle.gate_rows.specs.Sources.{source_rows, Source}
use Rattle.gate_rows.specs.declared.Layout.{Layout}
use Rattle.gate_rows.specs.declared.Layout.TheVariants as layout
use Rattle.gate_rows.proofs.SourceLaws.{file-is, file-source}
use Rattle.gate_loops.specs.Walk.{Unsettled}
use Rattle.aiger_lines.specs.Lines.{header_in, aiger_in, Counted}
use Rattle.aiger_lines.specs.declared.Header.{Header}
use Rattle.aiger_names.specs.Names.{name_bytes, NamesRoom, PairsStand}
use Rattle.import.specs.ImportParts.{pairs_in}
use Rattle.import.proofs.OutcomeLaws.{rows-stand}
use Rattle.loop_way.specs.Ways.{Names, Chain, IsWay, ClosedAt}

-- No slot is a chain, and no way.
no-chain : (rows : List Row) (list : List ℕ) → Chain rows list 0
no-chain rows list = record { inside = λ x l. absurd (omega arith); each = λ x l. absurd (omega arith) }

pub no_way : (rows : List Row) (list : List ℕ) (n start : ℕ) → n ≡ 0 → IsWay rows list n start
no_way rows list n start e = rw e (record { chain = no-chain rows list; early = λ l. absurd (omega arith); closed = λ x l. absurd (omega arith) })

-- A slot below n has the row.
pub closed_at : (list : List ℕ) (n row start : ℕ) → start < n → slot_at list start ≡ row → ClosedAt list n row n start
closed_at list n row start l h = record { all = λ _. refl; early = λ _. l; has = λ _. h }

-- The first n slots are a chain, whose last gate names the row that is next.
pub record Walking (rows : List Row) (list : List ℕ) (n row : ℕ) : Type 0 where
  pub chain : Chain rows list n
  pub inside : row < length rows
  pub named : (x : ℕ) → x + 1 ≡ n → Names rows (slot_at list x) row

pub walk-starts : (L : Layout) (f list : List ℕ) (m row : ℕ) → Source L f m → row < m → Walking (source_rows L f) list 0 row
walk-starts L f list m row R l = let c = R.count in record { chain = no-chain (source_rows L f) list; inside = omega arith; named = λ x k. absurd (omega arith) }

-- The row is put in slot n.
module _ {L : Layout} {f list list' : List ℕ} {m n row : ℕ} (R : Source L f m) (W : Walking (source_rows L f) list n row) (put : list' ≡ set_slot list n row) (room : 2 * m ≤ length list) (less : n < m) where
  put-here : slot_at list' n ≡ row
  put-here = let c = R.count in let few = R.few in let i = W.inside in rw put (slot_same list n row (omega arith) (omega arith))

  put-before : (x : ℕ) → x < n → slot_at list' x ≡ slot_at list x
  put-before x l = rw put (slot-other list n row x (λ e. omega arith))

  put-chain : Chain (source_rows L f) list' (n + 1)
  put-chain = record {
    inside = λ x l. elim (dec_lt x n) [
      | yes k ↦ rw (put-before x k) (W.chain.inside x k)
      | no k ↦ (let e : x ≡ n = omega arith in rw e (rw put-here W.inside))
    ];
    each = λ x l. elim (dec_lt (x + 1) n) [
      | yes k ↦ rw (put-before x (omega arith)) (rw (put-before (x + 1) k) (W.chain.each x k))
      | no k ↦ (let e : x + 1 ≡ n = omega arith in rw (put-before x (omega arith)) (rw e (rw put-here (W.named x e))))
    ];
  }

  module _ {w : List ℕ} {next : ℕ} (U : Unsettled (source_rows L f) w row next) (some : ¬ (next ≡ 0)) where
    names-next : (x : ℕ) → x + 1 ≡ n + 1 → Names (source_rows L f) (slot_at list' x) next
    names-next x e = let q : x ≡ n = omega arith in rw q (rw put-here (U.some some).0)

    pub walks-on : Walking (source_rows L f) list' (n + 1) next
    walks-on = record { chain = put-chain; inside = U.inside; named = names-next }

    pub way-closed : (count start : ℕ) → ClosedAt list' (n + 1) next count start → IsWay (source_rows L f) list' count start
    way-closed count start C = elim (dec_lt 0 count) [
      | no k ↦ no_way (source_rows L f) list' count start (omega arith)
      | yes k ↦ (let e = C.all k in
          rw e (record { chain = put-chain; early = λ _. C.early k; closed = λ x l. rw (C.has k) (names-next x l) }))
    ]

-- The rows of a file are its netlist.
pub way-in-file : (f list : List ℕ) (n start : ℕ) → IsWay (source_rows layout.File f) list n start → IsWay (netlist_of f) list n start
way-in-file f list n start W = subst (λ (rows : List Row). IsWay rows list n start) (file-is f) W

-- An accepted file is a source, and a list as long as Sort's work for the greatest file has a slot for each of its rows.
module _ (file : List ℕ) (a : Result Accepted FileRefusal) (A : CheckedUnordered file a) (y : Accepted) (e : a ≡ Ok y) where
  pub accepted-source : Source layout.File file y.rows
  accepted-source = file-source file y.rows (unordered-ready file a A y e) (sym A.refusal ∙ ap accept_refusal e)

  pub slots-enough : (list : List ℕ) → row_work_bytes most_rows ≤ length list → 2 * y.rows ≤ length list
  slots-enough list room = let few = accepted-source.few in omega arith

-- The rows of a text that fits a file: its pairs, and behind them the tree of names.
module _ (x : Header) (k : ℕ) (e : k ≡ line_count (header_in x)) (t : not (leb (1 + k) most_rows) ≡ false) where
  pub pairs-room : (w : List ℕ) → name_bytes ≤ length w → NamesRoom (header_in x) (leb (1 + k) most_rows) (4 * (1 + k)) w
  pairs-room w long = let few = leb-true (1 + k) most_rows (not-false (leb (1 + k) most_rows) t) in record { long = long; small = omega (arith, few); pairs = λ _. (omega (arith, e), omega (arith, e, few)) }

  pub pairs-slots : (list : List ℕ) → 65536 ≤ length list → 2 * (1 + k) ≤ length list
  pairs-slots list room = let few = leb-true (1 + k) most_rows (not-false (leb (1 + k) most_rows) t) in omega (arith, few, room)

  -- They are those of the text, if its names are right.
  module _ (text : List ℕ) (from : ℕ) (C : Counted text x from) (r : Bool) (names : r ≡ is_distinct (aiger_in text) && is_defined (aiger_in text)) (o : not r ≡ false) (w : List ℕ) (S : r ≡ true → leb (1 + k) most_rows ≡ true → PairsStand (aiger_in text) w) where
    pub way-in-text : (list : List ℕ) (n start : ℕ) → IsWay (source_rows (layout.Pairs (pairs_in x)) w) list n start → IsWay (text_rows text) list n start
    way-in-text list n start W =
        let stand = S (not-false r o) (not-false (leb (1 + k) most_rows) t) in
        subst (λ (rows : List Row). IsWay rows list n start) (rows-stand text C.stand r names o x C.header w stand) W
