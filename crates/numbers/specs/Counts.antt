-- Places of the counts of a report. Assumes nothing.
use Rattle.std.specs.Prelude.{ℕ}

-- how many uploads were judged
abbrev pub uploads : ℕ
uploads = 0

-- how many of them were accepted
abbrev pub accepted : ℕ
accepted = 1

-- the cards of the accepted ones
abbrev pub cards : ℕ
cards = 2

-- their lines
abbrev pub lines : ℕ
lines = 3

-- their octets
abbrev pub octets : ℕ
octets = 4

-- the first of the counts of refused uploads, one for each refusal of the judgement, by its number
abbrev pub refusals : ℕ
refusals = 5

-- the first of the counts of accepted lines, one for each property number
abbrev pub properties : ℕ
properties = 20

-- how many counts there are
abbrev pub all : ℕ
all = 59
