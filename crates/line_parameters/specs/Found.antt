-- What it means that the first value of a named parameter stands at a part of a line. Assumes nothing.
use Rattle.std.specs.Prelude.{◌≡◌, List, ℕ, ◌-◌, ◌≤◌, length, take, drop}
use Rattle.std.proofs.Math.Option.{Option, none, some}
use Rattle.line_parser.specs.Grammar.{Value}
use Rattle.line_parameters.specs.First.{value_octets}
use Rattle.line_parameters.specs.First.{First}
use Rattle.line_parameters.specs.First.{Between, Nothing}

-- the octets of l at the place answered are those of the value, quotes taken off
pub record Holds (l : List ℕ) (v : Value) (r : First) : Type 0 where
  pub start : ℕ
  pub end : ℕ
  pub answer : r ≡ Between start end
  pub order : start ≤ end
  pub inside : end ≤ length l
  pub octets : take (end - start) (drop start l) ≡ value_octets v

-- the answer to a value that is asked for in the line l
abbrev pub Found : List ℕ → Option Value → First → Type 0
Found l none r = r ≡ Nothing
Found l (some v) r = Holds l v r
