-- The columns of a card's line. Assumes nothing.
use Rattle.std.specs.Prelude.{ℕ, ◌+◌, ◌-◌, Bool, true, List, ◌++◌, eqb, ltb, length}
use Rattle.numbers.specs.Limits as limit
use Rattle.numbers.specs.Properties as property
use Rattle.octets.specs.Pick.{pick}
use Rattle.octets.specs.Ascii.{octets}
use Rattle.octets.specs.Slices.{part}
use Rattle.line_parser.specs.Places.{name_start}
use Rattle.label_carets.specs.Decoded.{decoded}
use Rattle.label_carets.specs.declared.Rule.TheVariants.{Rfc6868}
use Rattle.cabbook_messages.specs.Sentences.{amount}
use Rattle.cabbook_columns.specs.Columns.{at_left}

-- BEGIN, END and VERSION
abbrev pub framed : ℕ → Bool
framed n = pick (eqb n property.begin) true (pick (eqb n property.end) true (eqb n property.version))

-- how many characters the columns have
abbrev pub property_width : ℕ
property_width = 14

abbrev pub group_width : ℕ
group_width = 8

abbrev pub parameters_width : ℕ
parameters_width = 26

abbrev pub title_text : List ℕ
title_text = at_left (octets "property") property_width ++ at_left (octets "group") group_width ++ at_left (octets "parameters") parameters_width ++ octets "value\n"

abbrev pub card_text : ℕ → List ℕ
card_text n = octets "card " ++ amount n (octets "\n")

-- parameters with what each pair of RFC 6868 stands for; there are no more octets than an input has
unfoldable pub meanings : List ℕ → List ℕ
meanings s = pick (ltb limit.octets (length s)) s (decoded Rfc6868 s)

-- of a line with a group and a name of these lengths: the name; the group; and what stands between a semicolon after the name and the colon before the value
abbrev pub fields : List ℕ → ℕ → ℕ → ℕ → ℕ → List ℕ
fields copy start group name value =
    at_left (part copy (start + name_start group) (start + name_start group + name)) property_width
    ++ at_left (part copy start (start + group)) group_width
    ++ at_left (meanings (part copy (start + name_start group + name + 1) (value - 1))) parameters_width
