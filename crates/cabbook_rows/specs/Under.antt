-- What stands under a refusal: a line, and a caret under the place. Assumes nothing.
use Rattle.std.specs.Prelude.{ℕ, ◌+◌, ◌-◌, min, List, [], ◌++◌, eqb, ltb, leb, length, drop}
use Rattle.numbers.specs.Limits as limit
use Rattle.numbers.specs.Refusals as refusal
use Rattle.octets.specs.Pick.{pick}
use Rattle.octets.specs.Ascii.{octets}
use Rattle.line_folds.specs.Folds.{line_length, unfolded}
use Rattle.octets.specs.Slices.{part}
use Rattle.cabbook_positions.specs.Positions.{back_to, opens, starts}
use Rattle.program_visible.specs.Visible.{visible}
use Rattle.cabbook_cells.specs.Cells.{blanks}

-- past a lone CR or LF at the place, or the end of the logical line where the text has no such place
abbrev pub break_end : List ℕ → ℕ → ℕ → ℕ
break_end s place from = pick (ltb place (length s)) (place + 1) (from + line_length (drop from s))

-- past a lone CR or LF where that is refused, else at the end of the logical line
abbrev pub shown_end : List ℕ → ℕ → ℕ → ℕ → ℕ
shown_end s number place from = pick (eqb number refusal.lone_cr_or_lf) (pick (ltb place (length s)) (place + 1) (from + line_length (drop from s))) (from + line_length (drop from s))

-- the start of the logical line in which a place lies
abbrev pub start_of : List ℕ → ℕ → ℕ
start_of s place = back_to (opens s) (min place (length s))

-- the part that is shown
abbrev pub offending : List ℕ → ℕ → ℕ → List ℕ
offending s number place = part s (start_of s place) (shown_end s number place (start_of s place))

-- the most octets of a name that are shown, and of a line before a place and from it on
abbrev pub name_most : ℕ
name_most = 120

abbrev pub before_most : ℕ
before_most = 72

abbrev pub after_most : ℕ
after_most = 48

-- where a text is cut: at the start of the character in which the first octet too many lies, or not at all
abbrev pub cut_at : ℕ → List ℕ → ℕ
cut_at most l = pick (ltb most (length l)) (back_to (starts l) most) (length l)

abbrev pub cut : ℕ → List ℕ → List ℕ
cut most l = visible (part l 0 (cut_at most l)) ++ pick (eqb (cut_at most l) (length l)) [] (octets "...")

-- where the last part of a text starts: at a character, so many octets before its end, or at its start
abbrev pub tail_at : List ℕ → ℕ
tail_at l = pick (leb (length l) before_most) 0 (back_to (starts l) (length l - before_most))

-- the last part of a text, three points before it where it is not all; and blanks as wide
abbrev pub last_part : List ℕ → List ℕ
last_part l = pick (eqb (tail_at l) 0) [] (octets "...") ++ visible (part l (tail_at l) (length l))

abbrev pub last_blanks : List ℕ → List ℕ
last_blanks l = pick (eqb (tail_at l) 0) [] (octets "   ") ++ blanks (part l (tail_at l) (length l))

-- the rest of a line without its folds
abbrev pub rest_line : List ℕ → List ℕ
rest_line r = cut after_most (unfolded r) ++ octets "\n"

-- a line of two parts without their folds, and a caret where the second part starts
abbrev pub marked : List ℕ → List ℕ → List ℕ
marked before after = octets "    " ++ last_part (unfolded before) ++ rest_line after ++ octets "    " ++ last_blanks (unfolded before) ++ octets "^\n"

-- the logical line in which a place lies, up to the place and from there on
abbrev pub under_lines : List ℕ → ℕ → ℕ → List ℕ
under_lines s number place =
    pick (ltb limit.read_room (length s)) [] (marked (part s (start_of s place) place) (part s place (shown_end s number place (start_of s place))))
