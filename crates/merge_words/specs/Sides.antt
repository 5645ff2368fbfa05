-- A side of a merge, which is what the reader leaves of a card, by the card's lines. Assumes nothing.
use Rattle.std.specs.Prelude.{ℕ, ◌+◌, ◌/◌, ◌≤◌, ◌≡◌, true, false, List, [], ◌∷◌, ◌↔◌, ltb, length}
use Rattle.numbers.specs.Limits as limit
use Rattle.numbers.specs.Fields as field
use Rattle.numbers.specs.Properties as property
use Rattle.octets.specs.Pick.{pick}
use Rattle.line_parser.specs.Grammar.{Line}
use Rattle.property_table.specs.declared.Edition.TheVariants.{First}
use Rattle.card_line.specs.Parts.{row_of_line}
use Rattle.reader.specs.Outcome.{judge_of}
use Rattle.reader_grammar.specs.Inputs.{InputOf}
use Rattle.merge_sources.specs.Row.{row_of, same_row}
use Rattle.merge_sources.specs.declared.Source.{Source}
use Rattle.merge_pids.specs.Marks.{Mark, mark, mark_length}
use Rattle.merge_sides.specs.Lines.{field_at, name_at, value_at}
use Rattle.merge_partners.specs.Keys as key
use Rattle.merge_partners.specs.Keys.{number_at, uri_of}
use Rattle.merge.specs.Sides.{Side, side, read_of, marks_of, row_in, is_over}
use Rattle.merge_words.specs.Lists.{Member, At}
use Rattle.merge_words.specs.Pids.{PidOf}
use Rattle.merge_words.specs.Sources.{Maps, RowOf, Over}

-- the number, 65,536 for any larger one
abbrev pub capped : ℕ → ℕ
capped n = pick (ltb limit.source_number n) (limit.source_number + 1) n

-- a mark of one of the lines: the line's number and the PID's two
pub record MarkOf (xs : List Line) (m : Mark) : Type 0 where
  pub line : Line
  pub first : ℕ
  pub source : ℕ
  pub at : At xs m.line line
  pub pid : PidOf line first source
  pub first_is : m.first ≡ capped first
  pub source_is : m.source ≡ capped source

-- the marks that a side holds: one for each PID of each line, none left out
pub record MarksOf (s : Side) (xs : List Line) : Type 0 where
  pub marks : List Mark
  pub few : length marks ≤ limit.lines
  pub many : (marks_of s).next / mark_length ≡ length marks
  pub lines : (k : ℕ) (m : Mark) → At marks k m → number_at (marks_of s).room k key.line ≡ m.line
  pub firsts : (k : ℕ) (m : Mark) → At marks k m → number_at (marks_of s).room k key.first ≡ m.first
  pub sources : (k : ℕ) (m : Mark) → At marks k m → number_at (marks_of s).room k key.source ≡ m.source
  pub each : (m : Mark) → Member m marks → MarkOf xs m
  pub every : (i p s : ℕ) (x : Line) → At xs i x → PidOf x p s → Member (mark i (capped p) (capped s)) marks

-- the entries of a row are the CLIENTPIDMAP lines in order, each with its number, and its URI stands in the copy where the entry says
pub data Held (c : List ℕ) : List Line → List Source → Type 0 where
  none : Held c [] []
  passed : {x : Line} {xs : List Line} {m : List Source} → (row_of_line First x ≡ property.clientpidmap → ⊥) → Held c xs m → Held c (x ∷ xs) m
  entry : {x : Line} {xs : List Line} {m : List Source} {e : Source} → Maps x e.number (uri_of c e) → Held c xs m → Held c (x ∷ xs) (e ∷ m)

-- the side is that of a card with these lines
pub record SideOf (s : Side) (xs : List Line) : Type 0 where
  pub count : s.lines ≡ length xs
  pub few : length xs ≤ limit.lines
  pub property : (i : ℕ) (x : Line) → At xs i x → field_at s.records i field.property ≡ row_of_line First x
  pub name : (i : ℕ) (x : Line) → At xs i x → name_at s.copy s.records i ≡ x.name
  pub value : (i : ℕ) (x : Line) → At xs i x → value_at s.copy s.records i ≡ x.value
  pub marked : MarksOf s xs
  pub over : (m : List Source) → (is_over s (row_of m) ≡ true) ↔ Over s.cards xs m
  pub row : (m : List Source) → is_over s (row_of m) ≡ false → (same_row (row_in s) (row_of m) ≡ true) ↔ RowOf 0 xs m
  pub held : (m : List Source) → is_over s (row_of m) ≡ false → RowOf 0 xs m → Held s.copy xs m

-- every accepted input is read as the reader judges it, and leaves such a side
pub record Sides : Type 0 where
  pub judged : (i : List ℕ) → (read_of i).answer ≡ judge_of i
  pub sides : (i : List ℕ) (k n : ℕ) (h : InputOf i k n) → SideOf (side (read_of i).copy (read_of i).records k n) h.lines
