-- Kinds of value: the number that a record has for each. Assumes nothing.
use Rattle.std.specs.Prelude.{ℕ, List, [], ◌∷◌}

-- any octets
abbrev pub anything : ℕ
anything = 0

-- text with escapes
abbrev pub text : ℕ
text = 1

-- texts split by bare commas
abbrev pub texts : ℕ
texts = 2

-- a URI
abbrev pub uri : ℕ
uri = 3

-- five components, each a list of texts
abbrev pub name : ℕ
name = 4

-- seven components, each a list of texts
abbrev pub address : ℕ
address = 5

-- one or more components without a bare comma
abbrev pub organization : ℕ
organization = 6

-- a sex and a text
abbrev pub gender : ℕ
gender = 7

-- digits and a URI
abbrev pub pidmap : ℕ
pidmap = 8

-- a date, a time, or both
abbrev pub date : ℕ
date = 9

-- a date with its time
abbrev pub timestamp : ℕ
timestamp = 10

-- an offset from UTC
abbrev pub offset : ℕ
offset = 11

-- how many kinds there are
abbrev pub count : ℕ
count = 12

-- all of them
abbrev pub kinds : List ℕ
kinds = anything ∷ text ∷ texts ∷ uri ∷ name ∷ address ∷ organization ∷ gender ∷ pidmap ∷ date ∷ timestamp ∷ offset ∷ []
