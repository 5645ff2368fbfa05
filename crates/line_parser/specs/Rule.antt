-- The line rule, read from the left. Refusals: 40 no name, or a bad name or group; 41 a parameter without `=` or with a bad name; 42 a quote
-- left open, followed by something else than , ; : or standing in a bare value; 43 no colon. Assumes nothing.
use Rattle.std.specs.Prelude.{ℕ, suc, ◌+◌, Bool, ◌||◌, List, [], eqb, ltb, length, take, drop}
use Rattle.numbers.specs.Refusals as refusal
use Rattle.octets.specs.Ascii as ascii
use Rattle.octets.specs.Pick.{pick}
use Rattle.octets.specs.Classes.{run, named, quoted, bare}
use Rattle.line_parser.specs.Parse.{Parse, got, next, guard, hd, many}
use Rattle.line_parser.specs.Grammar.{Value, plain, in_quotes, Param, Line}

-- one or more letters, digits or hyphens; the fault e where there is none
unfoldable pub word : ℕ → List ℕ → Parse (List ℕ)
word e l = guard (ltb 0 (run named l)) e (got (take (run named l) l) (run named l))

-- a quoted value, from after its first quote mark on, which is counted
unfoldable pub closing : List ℕ → Parse Value
closing l = guard (eqb (hd (drop (run quoted l) l)) ascii.quote) refusal.quote (got (in_quotes (take (run quoted l) l)) (suc (run quoted l + 1)))

-- a value, quoted where a quote mark stands first
unfoldable pub value : List ℕ → Parse Value
value l = pick (eqb (hd l) ascii.quote) (closing (drop 1 l)) (got (plain (take (run bare l) l)) (run bare l))

-- a where a line goes on, b where it ends
abbrev pub or_end : ℕ → ℕ → List ℕ → ℕ
or_end a b l = pick (ltb 0 (length l)) a b

pub record Values : Type 0 where
  pub first : Value
  pub more : List Value

-- `;` or `:`
unfoldable pub ends : ℕ → Bool
ends c = eqb c ascii.semicolon || eqb c ascii.colon

-- further values, each after a comma, and then a `;` or a `:`
unfoldable pub more_values : ℕ → List ℕ → Parse (List Value)
more_values n l = many ascii.comma value ends (or_end refusal.quote refusal.no_colon) n l

-- one or more values split by commas
unfoldable pub values : List ℕ → Parse Values
values l =
    next (value l) (λ v k. next (more_values (suc (length (drop k l))) (drop k l)) (λ vs j. got (record { first = v; more = vs }) (k + j)))

-- a name, `=` and the values
unfoldable pub param : List ℕ → Parse Param
param l =
    next (word refusal.parameter l) (λ a n. guard (eqb (hd (drop n l)) ascii.equals) refusal.parameter
    (next (values (drop 1 (drop n l))) (λ vs k. got (record { name = a; first = vs.first; more = vs.more }) (n + suc k))))

pub record Head : Type 0 where
  pub group : List ℕ
  pub name : List ℕ

-- `[group "."] name`
unfoldable pub head : List ℕ → Parse Head
head l =
    next (word refusal.name l) (λ a n. pick (eqb (hd (drop n l)) ascii.dot)
    (next (word refusal.name (drop 1 (drop n l))) (λ b m. got (record { group = a; name = b }) (n + suc m)))
    (got (record { group = []; name = a }) n))

unfoldable pub is_colon : ℕ → Bool
is_colon c = eqb c ascii.colon

-- any number of parameters, each after a semicolon, and then a colon
unfoldable pub params : ℕ → List ℕ → Parse (List Param)
params n l = many ascii.semicolon param is_colon (or_end refusal.name refusal.no_colon) n l

-- the whole line, and where its value starts
unfoldable pub parse_line : List ℕ → Parse Line
parse_line l =
    next (head l) (λ h n. next (params (suc (length (drop n l))) (drop n l)) (λ ps k.
    got (record { group = h.group; name = h.name; params = ps; value = drop 1 (drop k (drop n l)) }) (n + k + 1)))
