-- The exact octet, by the laws of lines and values. Assumes nothing.
use Rattle.line_folds.proofs.PlaceLaws.{place_rising}
use Rattle.line_laws.proofs.PlacedLaws.{placed, placed_only, end_same}
use Rattle.value_laws.proofs.DeadLaws.{dead_once}
use Rattle.reader_grammar.specs.Values.{Fitting}
use Rattle.reader_grammar.proofs.OctetLaws.{octet_there, dead_not_in_character}
use Rattle.demands.specs.Demand5.{Demand5}
use Rattle.demands.proofs.Examples.{named_examples}

pub demand5 : Demand5
demand5 =
    record {
      dead_once = λ e row k. dead_once (Fitting e row k);
      whole = dead_not_in_character;
      placed = placed;
      nowhere_else = placed_only;
      rising = place_rising;
      end = end_same;
      there = octet_there;
      examples = named_examples;
    }
