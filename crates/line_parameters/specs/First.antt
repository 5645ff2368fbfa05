-- The first value of the first parameter of a name, quotes taken off: in the parts of a line, and by a walk over the line. Names compare
-- without case. Assumes nothing.
use Rattle.std.specs.Prelude.{ℕ, zero, suc, ◌+◌, List, [], ◌∷◌, eqb, length, drop}
use Rattle.std.proofs.Math.Option.{Option, none, some}
use Rattle.octets.specs.Ascii as ascii
use Rattle.octets.specs.Pick.{pick}
use Rattle.octets.specs.Classes.{run, quoted, bare}
use Rattle.octets.specs.Cases.{same}
use Rattle.line_parser.specs.Parse.{Parse, got, bad, hd}
use Rattle.line_parser.specs.Grammar.{Value, plain, in_quotes, Param, param_text}
use Rattle.line_parser.specs.Rule.{param}
use Rattle.std.specs.Prelude.{Option as Given, Some, None}
use Rattle.line_parameters.specs.declared.Span.{Span}

-- where the octets of a parameter's first value stand in a line, or that there is no such parameter
pub data First : Type 0 where
  Between : ℕ → ℕ → First
  Nothing : First

-- the same of what the code answers
abbrev pub between : Span → First
between x = Between x.start x.end

abbrev pub first : Given Span → First
first (Some x) = between x
first None = Nothing

-- the first value of the first parameter of that name
unfoldable pub first_named : List ℕ → List Param → Option Value
first_named name [] = none
first_named name (p ∷ ps) = pick (same p.name name) (some p.first) (first_named name ps)

-- a value's octets, quotes taken off
unfoldable pub value_octets : Value → List ℕ
value_octets (plain xs) = xs
value_octets (in_quotes xs) = xs

-- where the octets of a value at a place stand, quotes taken off
abbrev pub span_of : ℕ → Value → First
span_of at (plain xs) = Between at (at + length xs)
span_of at (in_quotes xs) = Between (at + 1) (at + 1 + length xs)

-- of parameters written from a place on: where the first value of the first of that name stands
unfoldable pub first_place : List ℕ → ℕ → List Param → First
first_place name at [] = Nothing
first_place name at (p ∷ ps) =
    pick (same p.name name) (span_of (at + 1 + length p.name + 1) p.first) (first_place name (at + 1 + length (param_text p)) ps)

-- by a parameter that was read at a place: where its first value stands, or what f says of the rest; nothing where it is refused
abbrev pub first_step : List ℕ → ℕ → Parse Param → (ℕ → First) → First
first_step name at (got p k) f = pick (same p.name name) (span_of (at + 1 + length p.name + 1) p.first) (f k)
first_step name at (bad e) f = Nothing

-- the same, found by a walk over the octets from a place on; n bounds the count of parameters
unfoldable pub find_first : List ℕ → ℕ → ℕ → List ℕ → First
find_first name at zero l = Nothing
find_first name at (suc n) l =
    pick (eqb (hd l) ascii.semicolon)
    (first_step name at (param (drop 1 l)) (λ k. find_first name (at + 1 + k) n (drop k (drop 1 l))))
    Nothing

-- where the octets of the value at the start of a list stand, the list being at a place
unfoldable pub spanned : ℕ → List ℕ → First
spanned at l = pick (eqb (hd l) ascii.quote) (Between (at + 1) (at + 1 + run quoted (drop 1 l))) (Between at (at + run bare l))
