-- The counts of a report, by REFERENCE, The morning report: what is counted, and in which order the counts stand and are printed. Assumes nothing.
use Rattle.std.specs.Prelude.{ℕ, ◌-◌, List, [], ◌∷◌, ◌++◌, map, ltb, eqb, get_or}
use Rattle.numbers.specs.Counts as places
use Rattle.numbers.specs.Properties as property
use Rattle.numbers.specs.Refusals as refusal
use Rattle.octets.specs.Pick.{pick}
use Rattle.report_lines.specs.Rows.{numbers_from}

-- uploads, accepted ones, their cards, lines and octets, uploads refused with a number, accepted lines with a property number
pub data Count : Type 0 where
  uploads : Count
  accepted : Count
  cards : Count
  lines : Count
  octets : Count
  refused_with : ℕ → Count
  lines_of : ℕ → Count

-- the refusals of a judgement, by number
abbrev pub judging : List ℕ
judging =
    refusal.too_long ∷ refusal.empty ∷ refusal.lone_cr_or_lf ∷ refusal.no_end ∷ refusal.bad_octet ∷ refusal.value ∷ refusal.laden ∷ refusal.order ∷
    refusal.second ∷ refusal.no_fn ∷ refusal.member ∷ refusal.name ∷ refusal.parameter ∷ refusal.quote ∷ refusal.no_colon ∷ []

-- every count of a report, in the order in which they stand and are printed
unfoldable pub counts : List Count
counts = uploads ∷ accepted ∷ cards ∷ lines ∷ octets ∷ (map refused_with judging ++ map lines_of (numbers_from 0 property.count))

-- ---- the same by place

unfoldable pub refusal_at : ℕ → ℕ
refusal_at place = get_or judging (place - places.refusals) 0

unfoldable pub total_at : ℕ → Count
total_at place =
    pick (eqb place places.uploads) uploads
    (pick (eqb place places.cards) cards
    (pick (eqb place places.lines) lines
    (pick (eqb place places.octets) octets accepted)))

unfoldable pub count_at : ℕ → Count
count_at place =
    pick (ltb place places.refusals) (total_at place)
    (pick (ltb place places.properties) (refused_with (refusal_at place)) (lines_of (place - places.properties)))
