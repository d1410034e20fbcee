-- What a refusal means, in the scope paper's words: all that an operation asks, in order, and that the refusal names the first no.
-- Interface: Asked, AllYes, FirstNo, RefusalMeans, PrefixesRefused (the statements); asked_of_file, asked_of_unordered, asked_by_run, asked_by_show (what is asked). Fold's list stands in `FoldRefusalWords`, Sort's in `SortRefusalWords`.
-- Assumes nothing.
use Rattle.std.specs.Prelude.{ℕ, ◌<◌, ◌≤◌, ◌≡◌, ◌⊎◌, List, [], ◌∷◌, ◌++◌, map, length, take}
use Rattle.memory.specs.Lists.{join_below}
use Rattle.netlist.specs.Limits.{most_steps}
use Rattle.netlist.specs.Rows.{Row, RowFields, decode_row}
use Rattle.netlist.specs.FileFormat.{block_count, block_at, fields_of, fields_at, netlist_of}
use Rattle.questions.specs.Questions.{Refusal, no_refusal, file_refusal}
use Rattle.questions.specs.QuestionWords.{LengthWords, SumWords, HeadWords, CountWords, UnusedWords, KindWords, FieldsWords, LabelWords, LiteralWords, UnorderedWords, OutputWords, ListsWords, BinaryWords, RoomWords}

-- ---- the statements

-- A question as it is asked: its number, its place, and the words that hold if the answer is yes.
pub record Asked : Type 1 where
  pub number : ℕ
  pub place : ℕ
  pub words : Type 0

-- Question of this number, at this place.
abbrev pub ask : ℕ → ℕ → Type 0 → Asked
ask number place words = record { number = number; place = place; words = words }

-- Every answer is yes.
abbrev pub AllYes : List Asked → Type 0
AllYes [] = Unit {0}
AllYes (q ∷ qs) = q.words × AllYes qs

-- Question n at place p is answered with no, and every question before it with yes.
abbrev pub FirstNo : List Asked → ℕ → ℕ → Type 0
FirstNo [] n p = ⊥
FirstNo (q ∷ qs) n p = ((q.number ≡ n) × (q.place ≡ p) × (¬ q.words)) ⊎ (q.words × FirstNo qs n p)

-- The refusal is the first no of what is asked; number 0, with place 0, where every answer is yes.
pub record RefusalMeans (q : Refusal) (asked : List Asked) : Type 0 where
  pub refused : 0 < q.number → FirstNo asked q.number q.place
  pub passed : q.number ≡ 0 → AllYes asked
  pub no_place : q.number ≡ 0 → q.place ≡ 0

-- No file cut short of its end is accepted: of an accepted file the first n bytes, fewer than all, are not.
abbrev pub PrefixesRefused : List ℕ → Type 0
PrefixesRefused file = file_refusal file ≡ no_refusal → (n : ℕ) → n < length file → ¬ (file_refusal (take n file) ≡ no_refusal)

-- ---- what is asked, in order

-- Of block B of k, b its bytes.
abbrev pub asked_of_block : ℕ → ℕ → List ℕ → List Asked
asked_of_block k B b = ask 2 B (SumWords b) ∷ ask 3 B (HeadWords k B b) ∷ ask 4 B (CountWords k B b) ∷ ask 5 B (UnusedWords b) ∷ []

-- Of each block in turn.
unfoldable pub asked_of_blocks : List ℕ → List Asked
asked_of_blocks f = join_below (block_count f) (λ B. asked_of_block (block_count f) B (block_at f B))

-- What 9 asks of a row, in words: LiteralWords, or UnorderedWords where gates may stand in any order.
abbrev pub NinthWords : Type 1
NinthWords = List Row → ℕ → Type 0

-- Of row i, ws the fields of all rows.
abbrev pub asked_of_row : NinthWords → List RowFields → ℕ → List Asked
asked_of_row ninth ws i =
    let w = fields_at ws i in
    let rows = map decode_row ws in
    ask 6 i (KindWords rows i w.kind)
    ∷ ask 7 i (FieldsWords w.kind w.reset w.a w.b w.c)
    ∷ ask 8 i (LabelWords rows i)
    ∷ ask 9 i (ninth rows i)
    ∷ []

-- Of each row in turn, and then of all.
unfoldable pub asked_of_rows : NinthWords → List RowFields → List Asked
asked_of_rows ninth ws = join_below (length ws) (asked_of_row ninth ws) ++ (ask 10 0 (OutputWords (map decode_row ws)) ∷ [])

-- 1 to 10: of the length, the blocks and the rows.
unfoldable pub asked_with : NinthWords → List ℕ → List Asked
asked_with ninth f = ask 1 0 (LengthWords f) ∷ asked_of_blocks f ++ asked_of_rows ninth (fields_of f)

-- What every operation but Sort asks first.
abbrev pub asked_of_file : List ℕ → List Asked
asked_of_file f = asked_with LiteralWords f

-- What Sort asks first: gates may stand in any order.
abbrev pub asked_of_unordered : List ℕ → List Asked
asked_of_unordered f = asked_with UnorderedWords f

-- Run goes on with 17 to 20.
unfoldable pub asked_by_run : List ℕ → ℕ → List ℕ → List ℕ → ℕ → ℕ → List Asked
asked_by_run file T choices inputs result work =
    let rows = netlist_of file in
    asked_of_file file
    ++ (ask 17 0 (T ≤ most_steps)
    ∷ ask 18 0 (ListsWords rows T choices inputs)
    ∷ ask 19 0 (BinaryWords choices × BinaryWords inputs)
    ∷ ask 20 0 (RoomWords rows T result work)
    ∷ [])

-- Show of block B goes on with 21.
unfoldable pub asked_by_show : List ℕ → ℕ → List Asked
asked_by_show file B = asked_of_file file ++ (ask 21 0 (B < block_count file) ∷ [])
