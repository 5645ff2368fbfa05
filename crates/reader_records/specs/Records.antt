-- Property records, by REFERENCE, Property records: eight numbers a logical line. Assumes nothing.
use Rattle.std.specs.Prelude.{ℕ, ◌+◌, ◌-◌, List, [], ◌∷◌, ◌++◌, length}
use Rattle.line_parser.specs.Places.{name_start}
use Rattle.property_table.specs.declared.Edition.{Edition}
use Rattle.card_line.specs.Parts.{line_parts_of}
use Rattle.card_line.specs.Parts.{LineParts}
use Rattle.card_line.specs.Parts.{line as Line, fault as Fault}
use Rattle.reader_records.specs.declared.Record.{Record}

-- property number, line start in the copy, line length, group length, name length, parameter count, value start in the copy, kind;
-- w is the line's start in the copy; zeros for a line that has no parts, which no accepted line is
unfoldable pub record_by : ℕ → ℕ → LineParts → List ℕ
record_by w n (Line x) =
    x.row ∷ w ∷ n ∷ x.group_length ∷ (x.name_end - name_start x.group_length) ∷ x.param_count ∷ (w + x.value_start) ∷ x.kind ∷ []
record_by w n (Fault k) = 0 ∷ 0 ∷ 0 ∷ 0 ∷ 0 ∷ 0 ∷ 0 ∷ 0 ∷ []

-- the same as the code holds them
abbrev pub numbers : Record → List ℕ
numbers r = r.property ∷ r.start ∷ r.length ∷ r.group_length ∷ r.name_length ∷ r.param_count ∷ r.value_start ∷ r.kind ∷ []

unfoldable pub record_of : Edition → ℕ → List ℕ → List ℕ
record_of e w l = record_by w (length l) (line_parts_of e l)

-- those of lines that stand one after the other from w on, each ended by CR LF
unfoldable pub records_from : Edition → ℕ → List (List ℕ) → List ℕ
records_from e w [] = []
records_from e w (l ∷ ls) = record_of e w l ++ records_from e (w + length l + 2) ls
