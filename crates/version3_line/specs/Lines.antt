-- A line of one version as the other has it: its parameters, and its value by its row and its kind. Assumes nothing.
use Rattle.std.specs.Prelude.{ℕ, ◌-◌, Bool, true, false, ◌||◌, List, [], ◌++◌, eqb, length, replicate}
use Rattle.numbers.specs.Kinds as kinds
use Rattle.numbers.specs.Properties as property
use Rattle.octets.specs.Ascii as ascii
use Rattle.octets.specs.Ascii.{octets}
use Rattle.octets.specs.Pick.{pick}
use Rattle.line_parser.specs.Parse.{Parse, got, bad}
use Rattle.line_parser.specs.Grammar.{Line, render}
use Rattle.property_table.specs.declared.Edition.TheVariants.{First}
use Rattle.card_line.specs.Parts.{row_of_line, kind_of_line}
use Rattle.version3_text.specs.Renewed.{renewed, semicolons}
use Rattle.version3_geo.specs.Floats.{made_new, made_old}
use Rattle.version3_parameters.specs.declared.Way.{Way}
use Rattle.version3_parameters.specs.declared.Way.TheVariants.{Inward, Outward}
use Rattle.version3_parameters.specs.Params.{new_params}

-- how many bare semicolons a value of the kind has: one less than components
unfoldable pub needed : ℕ → ℕ
needed k = pick (eqb k kinds.name) 4 (pick (eqb k kinds.address) 6 0)

-- the texts of a value of the kind are parted by semicolons
unfoldable pub parted : ℕ → Bool
parted k = eqb k kinds.name || (eqb k kinds.address || eqb k kinds.organization)

-- a value of the kind with its texts escaped anew; one that has no text stays
unfoldable pub anew_by : ℕ → List ℕ → List ℕ
anew_by k v = pick (eqb k kinds.text) (renewed true v) (pick (parted k) (renewed false v) v)

-- how many semicolons it lacks
unfoldable pub lacking : ℕ → List ℕ → ℕ
lacking k v = needed k - length (semicolons v)

-- the same with empty components added
unfoldable pub filled_by : ℕ → List ℕ → List ℕ
filled_by k v = anew_by k v ++ replicate (lacking k v) ascii.semicolon

abbrev pub version_text : Way → List ℕ
version_text Inward = octets "4.0"
version_text Outward = octets "3.0"

abbrev pub geo_by : Way → List ℕ → List ℕ
geo_by Inward v = made_new v
geo_by Outward v = made_old v

abbrev pub text_by : Way → ℕ → List ℕ → List ℕ
text_by Inward k v = filled_by k v
text_by Outward k v = anew_by k v

unfoldable pub new_value : Way → ℕ → ℕ → List ℕ → List ℕ
new_value w row k v = pick (eqb row property.version) (version_text w) (pick (eqb row property.geo) (geo_by w v) (text_by w k v))

unfoldable pub new_line : Way → Line → Line
new_line w x =
    record {
      group = x.group;
      name = x.name;
      params = new_params w x.params;
      value = new_value w (row_of_line First x) (kind_of_line First x) x.value;
    }

-- as it is written; nothing for a line that breaks the line rule
abbrev pub written_by : Way → Parse Line → List ℕ
written_by w (got x k) = render (new_line w x)
written_by w (bad e) = []
