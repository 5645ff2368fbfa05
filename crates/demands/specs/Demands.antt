-- The three demands, dates, the exact octet, chunks, version 3 sets, two edits of one card, the newer edition, labels, what a granted call does, the claim of
-- demand 3 of a program that makes the calls, the claims of the report, the rows that a name is compared with, and the marked examples, side by side. Assumes
-- nothing.
use Rattle.std.specs.Prelude.{ℕ, List}
use Rattle.line_parser.specs.Grammar.{Each}
use Rattle.property_table.specs.declared.Edition.{Edition}
use Rattle.value_laws.specs.Choice.{Choosing}
use Rattle.desk_laws.specs.Demand.{Demand3, Demand3AsAsked}
use Rattle.desk_laws.specs.Granted.{Granted}
use Rattle.replay_laws.specs.Replays.{Replays}
use Rattle.report_laws.specs.Reports.{Reports}
use Rattle.watch_laws.specs.Cuttings.{Demand6}
use Rattle.merge_laws.specs.Demand11.{Demand11}
use Rattle.demands.specs.Examples.{Holds, marked}
use Rattle.demands.specs.Demand1.{Demand1}
use Rattle.demands.specs.Demand2.{Demand2}
use Rattle.demands.specs.Labels.{Labels}
use Rattle.demands.specs.Demand4.{Demand4}
use Rattle.demands.specs.Demand5.{Demand5}
use Rattle.demands.specs.Demand10.{Demand10}
use Rattle.demands.specs.Demand13.{Demand13}

pub record Demands : Type 0 where
  pub total : Demand1
  pub exact : Demand2
  pub labels : Labels
  pub separate : Demand3
  pub separate_as_asked : Demand3AsAsked
  pub dated : Demand4
  pub named : Demand5
  pub watched : Demand6
  pub converted : Demand10
  pub paired : Demand11
  pub extended : Demand13
  pub granted : Granted
  pub replays : Replays
  pub reports : Reports
  pub choosing : (e : Edition) (v : List ℕ) → Choosing e v
  pub examples : Each Holds marked
