-- `value_automaton::scanner::whole_table` meets its contract: the table agrees with the shapes, by computed tests. Assumes nothing.
use mathlib.Core.Path.{refl}
use Rattle.octets.specs.Classes.{letter, digit}
use Rattle.octets.specs.Cases.{lower}
use Rattle.value_kinds.specs.Octets.{among, holds}
use Rattle.value_kinds.specs.Shapes.{nullable, chain, is_never, fork, derivative}
use Rattle.value_kinds.specs.Dates.{fours, others, year, months, month, day28, day29, day30, day31, hour, minute, second, last_minute, offset, zoned, past_minute, past_hour, clock, last_second, time, timed, leap_date, common_date, no_year, date_and_or_time, full_time, leap_full, common_full, timestamp}
use Rattle.value_kinds.specs.Kinds.{text, texts, uri, component, parts, up_to, spread, components, gender, pidmap, vcard, version}
use Rattle.value_automaton.specs.States.{states, state_shape, representative}
use Rattle.octets.proofs.Upto.{upto, along}
use Rattle.value_automaton.proofs.TableLaws.{marks, figure_of, less, covers, scanner}
use Rattle.value_automaton.proofs.scanner.whole_table.Goals as goal

pub returns : goal.returns
unfolding upto along less covers marks figure_of among representative holds letter digit lower state_shape states derivative chain fork is_never nullable text texts uri component parts up_to spread components gender pidmap vcard version fours others year months month day28 day29 day30 day31 hour minute second last_minute offset zoned past_minute past_hour clock last_second time timed leap_date common_date no_year date_and_or_time full_time leap_full common_full timestamp
returns c = scanner _ refl refl refl refl refl refl refl
