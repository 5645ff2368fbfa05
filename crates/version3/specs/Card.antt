-- The lines of a card as the other version has them: BEGIN first, VERSION second, and then the others in their order. Assumes nothing.
use Rattle.std.specs.Prelude.{ℕ, ◌≡◌, false, List, [], ◌∷◌, ◌++◌, eqb, ltb, length, take}
use Rattle.numbers.specs.Properties as property
use Rattle.octets.specs.Pick.{pick}
use Rattle.utf8.specs.Characters.{allowed, first_bad}
use Rattle.line_folds.specs.Logical.{logical_lines}
use Rattle.line_parser.specs.Parse.{Parse, got, bad}
use Rattle.line_parser.specs.Grammar.{Line}
use Rattle.line_parser.specs.Rule.{parse_line}
use Rattle.property_table.specs.declared.Edition.TheVariants.{First}
use Rattle.card_line.specs.Parts.{row_of_line}
use Rattle.folder_line.specs.Pieces.{folded_lines}
use Rattle.version3_parameters.specs.declared.Way.{Way}
use Rattle.version3_line.specs.Lines.{written_by}
use Rattle.version3.specs.declared.sheet.Form.{Form}
use Rattle.version3.specs.declared.sheet.Turn.{Turn}
use Rattle.version3.specs.declared.sheet.Turn.TheVariants.{First as first, Second as second, Others as others}

abbrev pub turn_number : Turn → ℕ
turn_number first = 0
turn_number second = 1
turn_number others = 2

-- where a line of the row stands: first, second, or behind these
unfoldable pub turn_of_row : ℕ → ℕ
turn_of_row row = pick (eqb row property.begin) 0 (pick (eqb row property.version) 1 2)

abbrev pub turn_by : Parse Line → ℕ
turn_by (got x k) = turn_of_row (row_of_line First x)
turn_by (bad e) = 2

unfoldable pub turn_of : List ℕ → ℕ
turn_of l = turn_by (parse_line l)

-- text is written only where it is whole characters without controls
unfoldable pub clear : List ℕ → List ℕ
clear l = pick (ltb (first_bad (allowed false) l) (length l)) [] l

-- a logical line as the other version has it
unfoldable pub form_of : Way → List ℕ → List ℕ
form_of w l = clear (written_by w (parse_line l))

-- those of the lines that stand in that place
unfoldable pub forms : Way → ℕ → List (List ℕ) → List (List ℕ)
forms w n [] = []
forms w n (l ∷ ls) = pick (eqb (turn_of l) n) (form_of w l ∷ forms w n ls) (forms w n ls)

unfoldable pub arranged : Way → List (List ℕ) → List (List ℕ)
arranged w ls = (forms w 0 ls ++ forms w 1 ls) ++ forms w 2 ls

-- the card, each line folded
unfoldable pub card_text : Way → List ℕ → List ℕ
card_text w i = folded_lines (arranged w (logical_lines i))

-- the form of the line l stands at the start of a room
pub record Formed (w : Way) (l : List ℕ) (r : Form) (room : List ℕ) : Type 0 where
  pub turn : turn_number r.turn ≡ turn_of l
  pub count : r.length ≡ length (form_of w l)
  pub text : take r.length room ≡ form_of w l
