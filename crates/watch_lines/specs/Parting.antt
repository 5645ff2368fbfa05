-- An input that may go on, parted into the lines that have ended and the one that has not. Assumes nothing.
use Rattle.std.specs.Prelude.{ℕ, zero, suc, ◌-◌, List, [], ◌∷◌, ltb, length, take, drop}
use Rattle.octets.specs.Pick.{pick}
use Rattle.watch_arrivals.specs.Arrivals.{after_other, next_from}

pub record Parting : Type 0 where
  -- the lines that have ended, as they came, each without its CR LF
  pub ended : List (List ℕ)
  -- the octets, as they came, of the line that has not ended
  pub left : List ℕ

abbrev pub with_line : List ℕ → Parting → Parting
with_line l p = record { ended = l ∷ p.ended; left = p.left }

abbrev pub opened : List ℕ → Parting
opened l = record { ended = []; left = l }

-- n bounds the count of lines
unfoldable pub part_by : ℕ → List ℕ → Parting
part_by zero l = opened l
part_by (suc n) l =
    pick (ltb (next_from after_other l) (length l))
    (with_line (take (next_from after_other l - 2) l) (part_by n (drop (next_from after_other l) l)))
    (opened l)

unfoldable pub parted : List ℕ → Parting
parted i = part_by (length i) i

abbrev pub ended_lines : List ℕ → List (List ℕ)
ended_lines i = (parted i).ended

abbrev pub open_line : List ℕ → List ℕ
open_line i = (parted i).left
