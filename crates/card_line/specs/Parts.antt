-- The parts of a content line, as the card layer and the records need them. Assumes nothing.
use Rattle.std.specs.Prelude.{ℕ, ◌≡◌, List, Result, Ok, Err, length}
use Rattle.std.proofs.Math.Option.{Option, none, some}
use Rattle.octets.specs.Ascii.{octets}
use Rattle.line_parser.specs.Parse.{Parse, got, bad}
use Rattle.line_parser.specs.Grammar.{Value, Line, name_end}
use Rattle.line_parser.specs.Rule.{parse_line}
use Rattle.line_parameters.specs.First.{first_named, value_octets}
use Rattle.property_table.specs.declared.Edition.{Edition}
use Rattle.property_table.specs.Rows.{row_of, line_kind, value_name, calscale_name}
use Rattle.numbers.specs.Refusals.{number}
use Rattle.numbers.specs.declared.refusal.Reason.{Reason}
use Rattle.card_line.specs.declared.Parts.{Parts}

-- the parts of a line, or the number of the fault by which it breaks the line rule
pub data LineParts : Type 0 where
  line : Parts → LineParts
  fault : ℕ → LineParts

-- the same of a result
abbrev pub parted : Result Parts Reason → LineParts
parted (Ok x) = line x
parted (Err r) = fault (number r)

-- the octets of a value, quotes taken off
abbrev pub octets_of : Option Value → Option (List ℕ)
octets_of none = none
octets_of (some v) = some (value_octets v)

-- the first value of the first parameter of that name, quotes taken off
unfoldable pub param_value : List ℕ → Line → Option (List ℕ)
param_value name x = octets_of (first_named name x.params)

-- the name of the parameter that makes lines one instance, and its value
abbrev pub altid_name : List ℕ
altid_name = octets "ALTID"

unfoldable pub altid_of : Line → Option (List ℕ)
altid_of x = param_value altid_name x

-- the row of a line in an edition, and the kind of its value by row, VALUE and CALSCALE
unfoldable pub row_of_line : Edition → Line → ℕ
row_of_line e x = row_of e x.name

unfoldable pub kind_of_line : Edition → Line → ℕ
kind_of_line e x = line_kind (row_of_line e x) (param_value value_name x) (param_value calscale_name x)

-- the parts by a parse
abbrev pub line_parts_by : Edition → Parse Line → LineParts
line_parts_by e (got x k) =
    line (record {
      row = row_of_line e x;
      group_length = length x.group;
      name_end = name_end x;
      param_count = length x.params;
      value_start = k;
      kind = kind_of_line e x;
    })
line_parts_by e (bad n) = fault n

unfoldable pub line_parts_of : Edition → List ℕ → LineParts
line_parts_of e l = line_parts_by e (parse_line l)

-- the line rule accepts the line, and its name ends there
pub record Accepted (l : List ℕ) (name : ℕ) : Type 0 where
  pub parts : Line
  pub start : ℕ
  pub parsed : parse_line l ≡ got parts start
  pub ends : name ≡ name_end parts

abbrev pub value_by : List ℕ → Parse Line → Option (List ℕ)
value_by name (got x k) = param_value name x
value_by name (bad e) = none

-- the same of a line's octets
unfoldable pub first_value : List ℕ → List ℕ → Option (List ℕ)
first_value name l = value_by name (parse_line l)
