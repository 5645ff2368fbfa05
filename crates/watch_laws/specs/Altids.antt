-- Which ALTID values are kept, by the lines of the grammar: those of the card whose END has not ended. Assumes nothing.
use Rattle.std.specs.Prelude.{ℕ, ◌≡◌, Bool, not, ◌&&◌, List, [], ◌∷◌, ◌++◌, map}
use Rattle.numbers.specs.Properties as property
use Rattle.octets.specs.Pick.{pick}
use Rattle.line_folds.specs.Folds.{unfolded}
use Rattle.line_parser.specs.Grammar.{Line, Each, render}
use Rattle.property_table.specs.declared.Edition.TheVariants.{First}
use Rattle.property_table.specs.Rows.{single}
use Rattle.card_line.specs.Parts.{row_of_line, altid_of}
use Rattle.card_judge.specs.Judge.{octets_of}
use Rattle.reader_grammar.specs.Cards.{Readable, of_row, any}
use Rattle.watch_buffer.specs.Buffer.{padded}
use Rattle.watch_lines.specs.Parting.{ended_lines}

-- the lines of i that have ended are the lines xs, with folds in them; each may be read
pub record Ended (i : List ℕ) (xs : List Line) : Type 0 where
  pub written : map unfolded (ended_lines i) ≡ map render xs
  pub readable : Each Readable xs

-- the lines after the last END; all of them where there is none
unfoldable pub since_end : List Line → List Line
since_end [] = []
since_end (x ∷ xs) = pick (any (of_row First property.end) (x ∷ xs)) (since_end xs) (x ∷ xs)

-- x is the first line of a property marked *1; ys are the card's lines before it
abbrev pub is_first : List Line → Line → Bool
is_first ys x = single (row_of_line First x) && not (any (of_row First (row_of_line First x)) ys)

-- the ALTID values of such lines among xs, in line order and end to end; ys are the card's lines before xs. A line with none, or an empty one, adds nothing
unfoldable pub altids : List Line → List Line → List ℕ
altids ys [] = []
altids ys (x ∷ xs) = pick (is_first ys x) (octets_of (altid_of x)) [] ++ altids (ys ++ (x ∷ [])) xs

-- those that are kept once the lines xs have ended
abbrev pub altids_after : List Line → List ℕ
altids_after xs = altids [] (since_end xs)

-- what the buffer then holds: these, the line that has not ended as it came, and 0
abbrev pub buffer_with : List Line → List ℕ → List ℕ
buffer_with xs line = padded (altids_after xs ++ line)
