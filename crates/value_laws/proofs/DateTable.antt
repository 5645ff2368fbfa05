-- The examples of dates, times and offsets, by computing them. Assumes nothing.
use mathlib.Core.Path.{refl}
use Rattle.octets.specs.Ascii.{octets}
use Rattle.octets.specs.Classes as classes
use Rattle.value_kinds.specs.Octets.{among, holds}
use Rattle.value_kinds.specs.Shapes.{nullable, dead, chain, is_never, fork, derivative, fault_from}
use Rattle.value_kinds.specs.Dates.{fours, others, year, months, month, day28, day29, day30, day31, hour, minute, second, last_minute, offset, zoned, past_minute, past_hour, clock, last_second, time, timed, leap_date, common_date, no_year, date_and_or_time, full_time, leap_full, common_full, timestamp}
use Rattle.value_kinds.specs.Kinds.{shape_in, kind_in}
use Rattle.value_offsets.specs.Minutes.{digit_at, pair_at, time_of, is_behind, signed, minutes_of}
use Rattle.value_laws.specs.DateExamples.{DateExamples}

pub date_examples : DateExamples
unfolding octets classes.digit among holds nullable dead chain is_never fork derivative fault_from shape_in kind_in digit_at pair_at time_of is_behind signed minutes_of fours others year months month day28 day29 day30 day31 hour minute second last_minute offset zoned past_minute past_hour clock last_second time timed leap_date common_date no_year date_and_or_time full_time leap_full common_full timestamp
date_examples =
    record {
      dates_fit = refl;
      dates_break = refl;
      stamps_fit = refl;
      stamps_break = refl;
      offsets_break = refl;
      minutes = refl;
    }
