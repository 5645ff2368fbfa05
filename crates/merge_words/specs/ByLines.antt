-- A card's marks and sources by its lines: one for each value of a PID parameter that counts, and one for each CLIENTPIDMAP line, in order. Assumes nothing.
use Rattle.std.specs.Prelude.{ℕ, suc, ◌+◌, List, [], ◌∷◌, ◌++◌, eqb, length}
use Rattle.numbers.specs.Properties as property
use Rattle.octets.specs.Pick.{pick}
use Rattle.octets.specs.Cases.{same}
use Rattle.line_parser.specs.Grammar.{Value, Param, Line, front, render}
use Rattle.line_parameters.specs.First.{value_octets}
use Rattle.property_table.specs.declared.Edition.TheVariants.{First}
use Rattle.card_line.specs.Parts.{row_of_line}
use Rattle.merge_sources.specs.declared.Source.{Source}
use Rattle.merge_pids.specs.Numbers.{pid_of}
use Rattle.merge_pids.specs.Marks.{Mark, value_marks, pid_name}
use Rattle.merge_sides.specs.Sources.{source_in}

-- the marks of values on the line i
unfoldable pub values_pids : ℕ → List Value → List Mark
values_pids i [] = []
values_pids i (v ∷ vs) = value_marks i (pid_of (value_octets v)) ++ values_pids i vs

-- of its parameters
unfoldable pub params_pids : ℕ → List Param → List Mark
params_pids i [] = []
params_pids i (q ∷ qs) = pick (same q.name pid_name) (values_pids i (q.first ∷ q.more)) [] ++ params_pids i qs

-- of lines, the first of which has the number i
unfoldable pub lines_pids : ℕ → List Line → List Mark
lines_pids i [] = []
lines_pids i (x ∷ xs) = params_pids i x.params ++ lines_pids (suc i) xs

-- the sources of lines, the first of which starts at w in the copy
unfoldable pub lines_sources : ℕ → List Line → List Source
lines_sources w [] = []
lines_sources w (x ∷ xs) =
    pick (eqb (row_of_line First x) property.clientpidmap) (source_in x.value (w + length (front x)) ∷ []) [] ++ lines_sources (w + length (render x) + 2) xs
