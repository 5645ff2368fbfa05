-- The demands and the marked examples, proved. Assumes nothing.
use Rattle.value_laws.proofs.ChoiceLaws.{choosing}
use Rattle.desk_laws.proofs.Demand.{demand3, demand3_as_asked}
use Rattle.desk_laws.proofs.Granted.{grants}
use Rattle.replay_laws.proofs.Replays.{replays}
use Rattle.report_laws.proofs.Reports.{reports}
use Rattle.watch_laws.proofs.Cuttings.{watched}
use Rattle.merge_laws.proofs.Demand11.{demand11}
use Rattle.demands.specs.Demands.{Demands}
use Rattle.demands.proofs.Examples.{examples}
use Rattle.demands.proofs.Total.{demand1}
use Rattle.demands.proofs.Exact.{demand2}
use Rattle.demands.proofs.Labels.{labels}
use Rattle.demands.proofs.Dates.{demand4}
use Rattle.demands.proofs.Octets.{demand5}
use Rattle.demands.proofs.Versions.{demand10}
use Rattle.demands.proofs.Editions.{demand13}

pub demands : Demands
demands =
    record {
      total = demand1;
      exact = demand2;
      separate = demand3;
      separate_as_asked = demand3_as_asked;
      dated = demand4;
      named = demand5;
      watched = watched;
      converted = demand10;
      paired = demand11;
      extended = demand13;
      labels = labels;
      granted = grants;
      replays = replays;
      reports = reports;
      choosing = choosing;
      examples = examples;
    }
