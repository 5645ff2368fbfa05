-- Numbers in digits and the PIDs of a line. Assumes nothing.
use Rattle.std.specs.Prelude.{ℕ, ◌+◌, ◌-◌, ◌*◌, ◌<◌, ◌≡◌, true, List, [], ◌∷◌, ◌++◌, length}
use Rattle.octets.specs.Ascii as ascii
use Rattle.octets.specs.Cases.{same}
use Rattle.octets.specs.Classes.{digit}
use Rattle.line_parser.specs.Grammar.{Value, Param, Line, Each, Is}
use Rattle.line_parameters.specs.First.{value_octets}
use Rattle.merge_pids.specs.Marks.{pid_name}
use Rattle.merge_words.specs.Lists.{Member}

-- the number whose digits are those of n and then these
unfoldable pub decimal : ℕ → List ℕ → ℕ
decimal n [] = n
decimal n (d ∷ ds) = decimal (n * 10 + (d - 48)) ds

-- one or more digits, and the number that they stand for
pub record Number (ds : List ℕ) (n : ℕ) : Type 0 where
  pub some : 0 < length ds
  pub each : Each (Is digit) ds
  pub stands : n ≡ decimal 0 ds

-- "digits, dot, digits": the two numbers
pub record PidText (v : List ℕ) (p s : ℕ) : Type 0 where
  pub before : List ℕ
  pub after : List ℕ
  pub text : v ≡ before ++ ascii.dot ∷ after
  pub first : Number before p
  pub source : Number after s

-- a value of a PID parameter of the line, quotes off
pub data PidOf (x : Line) (p s : ℕ) : Type 0 where
  pid : {q : Param} {v : Value} → Member q x.params → same q.name pid_name ≡ true → Member v (q.first ∷ q.more) → PidText (value_octets v) p s → PidOf x p s
