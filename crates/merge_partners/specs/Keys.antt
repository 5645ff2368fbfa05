-- The key of a PID: its first number and the class of the URI that its source number leads to. Assumes nothing.
use Rattle.std.specs.Prelude.{ℕ, zero, suc, ◌+◌, ◌*◌, List, Option, Some, None, ltb, get_or, set, replicate}
use Rattle.numbers.specs.Limits as limit
use Rattle.octets.specs.Pick.{pick}
use Rattle.octets.specs.Slices.{part}
use Rattle.merge_sources.specs.Row.{none, least, first_in}
use Rattle.merge_sources.specs.declared.Source.{Source}
use Rattle.merge_sources.specs.declared.Row.{Row}
use Rattle.merge_pids.specs.Marks.{mark_length}
use Rattle.merge_sides.specs.Lines.{same_octets}

-- k elements from i on become what f says
unfoldable pub sets_from : (ℕ → ℕ) → List ℕ → ℕ → ℕ → List ℕ
sets_from f xs i zero = xs
sets_from f xs i (suc k) = sets_from f (set xs i (f i)) (i + 1) k

-- the URI of an entry in its card's copy
unfoldable pub uri_of : List ℕ → Source → List ℕ
uri_of c e = part c e.place (e.place + e.length)

-- the first of k entries from i on of the first card's row with this URI, 16 for none
unfoldable pub class_from : List ℕ → Row → List ℕ → ℕ → ℕ → ℕ
class_from ca a uri i zero = limit.sources
class_from ca a uri i (suc k) =
    pick (ltb i a.count) (pick (same_octets (uri_of ca (get_or a.entries i none)) uri) i (class_from ca a uri (i + 1) k)) limit.sources

unfoldable pub class_of : List ℕ → Row → List ℕ → ℕ
class_of ca a uri = class_from ca a uri 0 limit.sources

-- of the entry i of a card's row
unfoldable pub class_at : List ℕ → Row → List ℕ → Row → ℕ → ℕ
class_at ca a c own i = class_of ca a (uri_of c (get_or own.entries i none))

unfoldable pub classes_of : List ℕ → Row → List ℕ → Row → List ℕ
classes_of ca a c own = sets_from (class_at ca a c own) (replicate limit.sources limit.sources) 0 limit.sources

-- by the first entry of a number
abbrev pub class_in : List ℕ → Option ℕ → ℕ
class_in classes (Some i) = pick (ltb i limit.sources) (get_or classes i 0) limit.sources
class_in classes None = limit.sources

-- the class that a source number leads to through its card's row, 16 for none
unfoldable pub class_by : Row → List ℕ → ℕ → ℕ
class_by own classes source = class_in classes (first_in own.entries 0 (least own.count) source)

-- the key of a mark that leads nowhere
abbrev pub no_key : ℕ
no_key = 4294967295

-- by the class
unfoldable pub key_by : ℕ → ℕ → ℕ
key_by class first = pick (ltb class limit.sources) (pick (ltb limit.source_number first) no_key (first * 16 + class)) no_key

unfoldable pub key_of : Row → List ℕ → ℕ → ℕ → ℕ
key_of own classes first source = key_by (class_by own classes source) first

-- a number of the mark k; 0 where there is none
unfoldable pub number_at : List ℕ → ℕ → ℕ → ℕ
number_at marks k f = pick (ltb limit.lines k) 0 (get_or marks (k * mark_length + f) 0)

-- the numbers of a mark: its line, the PID's first number and its source number
abbrev pub line : ℕ
line = 0

abbrev pub first : ℕ
first = 1

abbrev pub source : ℕ
source = 2

-- the key of the mark k
unfoldable pub key_at : List ℕ → Row → List ℕ → ℕ → ℕ
key_at marks own classes k = key_of own classes (number_at marks k first) (number_at marks k source)
