-- The names that only edition two knows. Assumes nothing.
use Rattle.std.specs.Prelude.{◌≡◌, false}
use Rattle.line_parser.specs.Grammar.{Line}
use Rattle.property_table.specs.Rows.{is_new}

-- the line's property is none of those that edition two adds
abbrev pub Old : Line → Type 0
Old x = is_new x.name ≡ false
