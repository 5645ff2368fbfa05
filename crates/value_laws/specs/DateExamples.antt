-- Dates, times and offsets on both sides of every limit, and the examples of RFC 6350, section 4.3. Assumes nothing.
use Rattle.std.specs.Prelude.{ℕ, ◌≡◌, List, [], ◌∷◌, map, ℤ, pos, neg_ℤ}
use Prim.Native.String.{String}
use Rattle.numbers.specs.Kinds as kinds
use Rattle.octets.specs.Ascii.{octets}
use Rattle.value_kinds.specs.Kinds.{kind_scan}
use Rattle.value_kinds.specs.declared.Fault.{Fault}
use Rattle.value_kinds.specs.declared.Fault.TheVariants.{Fits, Breaks}
use Rattle.value_offsets.specs.Minutes.{minutes_of}
use Rattle.value_offsets.specs.declared.Offset.{Offset}
use Rattle.value_offsets.specs.declared.Offset.TheVariants.{Minutes}

-- what the kind's scan says of each
abbrev pub scanned : ℕ → List String → List Fault
scanned k ss = map (λ s. kind_scan k (octets s)) ss

abbrev pub all_fit : List String → List Fault
all_fit ss = map (λ s. Fits) ss

abbrev pub break_at : List ℕ → List Fault
break_at ps = map Breaks ps

-- taken; and not taken, each with the first octet from which nothing could follow, or its length
abbrev pub dates : List String
dates =
    "19850412" ∷ "1985-04" ∷ "1985" ∷ "--0412" ∷ "---12" ∷ "T102200" ∷ "T1022" ∷ "T10" ∷ "T-2200" ∷ "T--00" ∷ "T102200Z" ∷ "T102200-0800" ∷
    "19961022T140000" ∷ "--1022T1400" ∷ "---22T14" ∷ "20000229" ∷ "00000229" ∷ "20240229" ∷ "--0229" ∷ "---31" ∷ "--1231" ∷ "T--60" ∷ "T235960" ∷
    "T10+2359" ∷ "T00-0000" ∷ []

abbrev pub no_dates : List String
no_dates =
    "" ∷ "19000229" ∷ "20230229" ∷ "20230230" ∷ "--0230" ∷ "--0431" ∷ "---32" ∷ "---00" ∷ "19851301" ∷ "198504" ∷ "1985-04-12" ∷ "1985-13" ∷ "1985T10"
    ∷ "--04T10" ∷ "1985-04T10" ∷ "T-22Z" ∷ "T--61" ∷ "T-60" ∷ "T24" ∷ "T1060" ∷ "T10+2400" ∷ "T10+0060" ∷ "19850412t10" ∷ "19850412,19850413" ∷ []

abbrev pub no_dates_from : List ℕ
no_dates_from = 0 ∷ 7 ∷ 7 ∷ 6 ∷ 4 ∷ 5 ∷ 4 ∷ 4 ∷ 5 ∷ 6 ∷ 7 ∷ 6 ∷ 4 ∷ 4 ∷ 7 ∷ 4 ∷ 4 ∷ 2 ∷ 2 ∷ 3 ∷ 5 ∷ 6 ∷ 8 ∷ 8 ∷ []

abbrev pub stamps : List String
stamps =
    "19961022T140000" ∷ "19961022T140000Z" ∷ "19961022T140000-05" ∷ "19961022T140000-0500" ∷ "20000229T235960+2359" ∷ []

abbrev pub no_stamps : List String
no_stamps =
    "" ∷ "19961022" ∷ "19961022T1400" ∷ "19961022T240000" ∷ "19961022T146000" ∷ "19961022T140061" ∷ "19000229T000000" ∷ "--1022T140000" ∷
    "19961022T140000z" ∷ []

abbrev pub no_stamps_from : List ℕ
no_stamps_from = 0 ∷ 8 ∷ 13 ∷ 10 ∷ 11 ∷ 14 ∷ 7 ∷ 0 ∷ 15 ∷ []

abbrev pub no_offsets : List String
no_offsets = "" ∷ "Z" ∷ "05" ∷ "-050" ∷ "-2400" ∷ "+2400" ∷ "-0560" ∷ "-05:00" ∷ "-05000" ∷ []

abbrev pub no_offsets_from : List ℕ
no_offsets_from = 0 ∷ 0 ∷ 0 ∷ 4 ∷ 2 ∷ 2 ∷ 3 ∷ 3 ∷ 5 ∷ []

-- offsets, and the minutes of each
abbrev pub offsets : List String
offsets = "-0500" ∷ "-05" ∷ "-0000" ∷ "+2359" ∷ "-2359" ∷ "+00" ∷ []

abbrev pub offset_minutes : List ℤ
offset_minutes = neg_ℤ (pos 300) ∷ neg_ℤ (pos 300) ∷ pos 0 ∷ pos 1439 ∷ neg_ℤ (pos 1439) ∷ pos 0 ∷ []

abbrev pub answered : List String → List Offset
answered ss = map (λ s. minutes_of (octets s)) ss

-- all of them
pub record DateExamples : Type 0 where
  pub dates_fit : scanned kinds.date dates ≡ all_fit dates
  pub dates_break : scanned kinds.date no_dates ≡ break_at no_dates_from
  pub stamps_fit : scanned kinds.timestamp stamps ≡ all_fit stamps
  pub stamps_break : scanned kinds.timestamp no_stamps ≡ break_at no_stamps_from
  pub offsets_break : scanned kinds.offset no_offsets ≡ break_at no_offsets_from
  pub minutes : answered offsets ≡ map Minutes offset_minutes
