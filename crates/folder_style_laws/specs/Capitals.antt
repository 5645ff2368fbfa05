-- Names in capitals: the parts of a line with the ASCII letters of group, property name and parameter names raised. Assumes nothing.
use Rattle.std.specs.Prelude.{map}
use Rattle.line_parser.specs.Grammar.{Param, Line}
use Rattle.folder_raising.specs.Letters.{upper}
use Rattle.folder_raising.specs.declared.Style.{Style}
use Rattle.folder_raising.specs.declared.Style.TheVariants.{AsRead, Raised}

-- its values stay
abbrev pub raised_param : Param → Param
raised_param p = record { name = map upper p.name; first = p.first; more = p.more }

-- its value stays
abbrev pub raised_line : Line → Line
raised_line x = record { group = map upper x.group; name = map upper x.name; params = map raised_param x.params; value = x.value }

-- a line in a style
abbrev pub styled : Style → Line → Line
styled AsRead x = x
styled Raised x = raised_line x
