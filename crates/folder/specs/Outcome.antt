-- What folding an input answers, and what the room holds then, by REFERENCE, Folding: the refusals of the reader, then 16, 15, and else the
-- octets written. Assumes nothing.
use Rattle.std.specs.Prelude.{ℕ, List, map}
use Rattle.octets.specs.Room.{Filled, refuse, fill_bounded}
use Rattle.property_table.specs.declared.Edition.{Edition}
use Rattle.property_table.specs.declared.Edition.TheVariants.{First}
use Rattle.reader.specs.Outcome.{judge_in}
use Rattle.line_folds.specs.Logical.{logical_lines}
use Rattle.reader.specs.Outcome.{Verdict}
use Rattle.reader.specs.Outcome.{Accepted, Refused}
use Rattle.folder_line.specs.Pieces.{folded_lines}
use Rattle.folder_raising.specs.declared.Style.{Style}
use Rattle.folder_raising.specs.declared.Style.TheVariants.{Raised as raised_style}
use Rattle.folder_raising.specs.Walk.{written}

-- by the reader's verdict on the input i: its logical lines in the style, each folded
unfoldable pub fold_by : Style → Verdict → List ℕ → List ℕ → Filled
fold_by s (Accepted k n) i room = fill_bounded (folded_lines (map (written s) (logical_lines i))) room
fold_by s (Refused n p) i room = refuse n p room

unfoldable pub fold_in : Edition → Style → List ℕ → List ℕ → Filled
fold_in e s i room = fold_by s (judge_in e i) i room

-- where neither is named, the edition is the first and names are raised
abbrev pub fold_outcome : List ℕ → List ℕ → Filled
fold_outcome i room = fold_in First raised_style i room
