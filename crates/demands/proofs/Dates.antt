-- Dates that are dates, by the laws of the values. Assumes nothing.
use Rattle.property_table.specs.Rows.{value_name, calscale_name}
use Rattle.card_line.specs.Parts.{param_value, row_of_line, kind_of_line}
use Rattle.card_line.proofs.PartLaws.{row_of_line_lem}
use Rattle.value_laws.proofs.DateWords.{kind_9, kind_10, kind_11}
use Rattle.value_laws.proofs.OffsetLaws.{minutes_law, one_meaning, range_law, no_minutes}
use Rattle.value_laws.proofs.LineKindLaws.{kind_law}
use Rattle.value_laws.proofs.DateTable.{date_examples}
use Rattle.demands.specs.Demand4.{Demand4}

pub demand4 : Demand4
unfolding kind_of_line
demand4 =
    record {
      kinds = λ e x k. kind_law (row_of_line e x) (param_value value_name x) (param_value calscale_name x) (row_of_line_lem e x) k;
      dates = kind_9;
      stamps = kind_10;
      offsets = kind_11;
      minutes = minutes_law;
      one_meaning = one_meaning;
      range = range_law;
      refuses = no_minutes;
      examples = date_examples;
    }
