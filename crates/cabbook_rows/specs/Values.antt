-- What the value of a line should be where it breaks its kind, in words. Assumes nothing.
use Rattle.std.specs.Prelude.{ℕ, ◌+◌, false, List, ◌++◌, ltb, length, drop}
use Rattle.numbers.specs.Limits as limit
use Rattle.numbers.specs.Refusals as refusal
use Rattle.octets.specs.Pick.{pick}
use Rattle.octets.specs.Slices.{part}
use Rattle.line_folds.specs.Folds.{line_length, unfolded}
use Rattle.property_table.specs.declared.Edition.TheVariants.{Second}
use Rattle.card_line.specs.Parts.{line_parts_of}
use Rattle.card_line.specs.declared.Parts.{Parts}
use Rattle.card_line.specs.Parts.{LineParts}
use Rattle.card_line.specs.Parts.{line as Line, fault as Fault}
use Rattle.cabbook_messages.specs.Words.{words_of}
use Rattle.cabbook_messages.specs.Wants.{wants}
use Rattle.cabbook_positions.specs.Components.{open_after, splits}
use Rattle.cabbook_rows.specs.Under.{name_most, cut, start_of}

-- of a logical line with these parts at an octet of it: the line's name with its group, what the value wants, and of how many parts it is
abbrev pub parts_words : Parts → List ℕ → ℕ → List ℕ
parts_words p l octet =
    cut name_most (part l 0 p.name_end)
    ++ wants p.row p.kind (open_after false (part l p.value_start octet)) (1 + splits false (part l p.value_start (length l)))

abbrev pub parted_words : LineParts → List ℕ → ℕ → List ℕ
parted_words (Line p) l octet = parts_words p l octet
parted_words (Fault e) l octet = words_of refusal.value

-- of a logical line, by the rows of edition two, which has those of edition one; the words of the refusal where it breaks the line rule
unfoldable pub line_words : List ℕ → ℕ → List ℕ
line_words l octet = parted_words (line_parts_of Second l) l octet

-- of a raw line at an octet of the logical line
abbrev pub raw_value_words : List ℕ → ℕ → List ℕ
raw_value_words r octet = line_words (unfolded r) octet

-- of the line in which a place lies, at that place; the words of the refusal where the text is too long for an input
abbrev pub wanted_words : List ℕ → ℕ → List ℕ
wanted_words s place =
    pick (ltb limit.octets (length s)) (words_of refusal.value)
    (raw_value_words (part s (start_of s place) (start_of s place + line_length (drop (start_of s place) s))) (length (unfolded (part s (start_of s place) place))))
