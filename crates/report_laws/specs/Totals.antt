-- Judgements taken one after the other since a fresh report, and each count's sum over them, by REFERENCE, The morning report. Assumes nothing.
use Rattle.std.specs.Prelude.{ℕ, suc, ◌+◌, List, [], ◌∷◌, ltb, eqb, length, get_or}
use Rattle.numbers.specs.Counts as places
use Rattle.numbers.specs.Properties as property
use Rattle.octets.specs.Pick.{pick}
use Rattle.report_weights.specs.Counts.{Count, uploads, accepted, cards, lines, octets, refused_with, lines_of, judging}
use Rattle.report_weights.specs.Parts.{part}
use Rattle.report.specs.Steps.{take_step}
use Rattle.report.specs.declared.Report.{Report}
use Rattle.report.specs.Answer.{Answer, Counted, Refused}

-- the sum of what each judgement adds to a count
unfoldable pub total : Count → List (List ℕ) → ℕ
total c [] = 0
total c (i ∷ is) = part c i + total c is

-- the report after judgements of the octets is, each handed to the report that the one before left
unfoldable pub after : Report → List (List ℕ) → Report
after r [] = r
after r (i ∷ is) = after (take_step r i).report is

abbrev pub kept : Answer → List ℕ → List (List ℕ) → List (List ℕ)
kept Counted i is = i ∷ is
kept (Refused n p) i is = is

-- those of them that were not refused
unfoldable pub taken : Report → List (List ℕ) → List (List ℕ)
taken r [] = []
taken r (i ∷ is) = kept (take_step r i).answer i (taken (take_step r i).report is)

-- where a number stands first in a list, or the list's length
unfoldable pub position : ℕ → List ℕ → ℕ
position n [] = 0
position n (x ∷ xs) = pick (eqb n x) 0 (suc (position n xs))

-- the place of a count, or one past all for a count that no report has
unfoldable pub place_of : Count → ℕ
place_of uploads = places.uploads
place_of accepted = places.accepted
place_of cards = places.cards
place_of lines = places.lines
place_of octets = places.octets
place_of (refused_with n) = pick (ltb (position n judging) (length judging)) (places.refusals + position n judging) places.all
place_of (lines_of m) = pick (ltb m property.count) (places.properties + m) places.all

-- what a report says of a count: 0 of one that it does not have
abbrev pub count_in : Report → Count → ℕ
count_in r c = get_or r.counts (place_of c) 0

-- the sum of a function over numbers
unfoldable pub sum_over : (ℕ → ℕ) → List ℕ → ℕ
sum_over f [] = 0
sum_over f (x ∷ xs) = f x + sum_over f xs
