-- Numbers in digits, 65,536 for any larger one, and the two numbers of a PID value. Assumes nothing.
use Rattle.std.specs.Prelude.{ℕ, ◌+◌, ◌-◌, ◌*◌, List, [], ◌∷◌, Option, Some, None, eqb, ltb, length, take, drop}
use Rattle.numbers.specs.Limits as limit
use Rattle.octets.specs.Ascii as ascii
use Rattle.octets.specs.Pick.{pick}
use Rattle.octets.specs.Classes.{run, digit}
use Rattle.line_parser.specs.Parse.{hd}
use Rattle.merge_pids.specs.declared.Pid.{Pid}

-- one digit more
unfoldable pub with_digit : ℕ → ℕ → ℕ
with_digit n b = pick (ltb limit.source_number (n * 10 + (b - 48))) (limit.source_number + 1) (n * 10 + (b - 48))

-- the digits of n and then these
unfoldable pub digits : ℕ → List ℕ → ℕ
digits n [] = n
digits n (x ∷ xs) = digits (with_digit n x) xs

abbrev pub pid : ℕ → ℕ → Pid
pid p s = record { first = p; source = s }

-- the number before a dot has the digits a, and m stands after it
unfoldable pub after_dot : List ℕ → List ℕ → Option Pid
after_dot a m = pick (eqb (run digit m) 0) None (pick (ltb (run digit m) (length m)) None (Some (pid (digits 0 a) (digits 0 m))))

-- digits, a dot and digits; anything else counts as none
unfoldable pub pid_of : List ℕ → Option Pid
pid_of l =
    pick (eqb (run digit l) 0) None
    (pick (eqb (hd (drop (run digit l) l)) ascii.dot) (after_dot (take (run digit l) l) (drop (run digit l + 1) l)) None)
