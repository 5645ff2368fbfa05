-- What is claimed of the morning report, proved. Assumes nothing.
use Rattle.report_laws.specs.Reports.{Reports}
use Rattle.report_laws.proofs.Parts.{accepts, refuses}
use Rattle.report_laws.proofs.Places.{no_other}
use Rattle.report_laws.proofs.Totals.{counts, full, stays}
use Rattle.report_laws.proofs.Bounds.{never_low}
use Rattle.report_laws.proofs.Sums.{all_lines, all_uploads}
use Rattle.report_laws.proofs.Rows.{tells}

pub reports : Reports
reports = record {
  accepts = accepts;
  refuses = refuses;
  counts = counts;
  full = full;
  stays = stays;
  never_low = never_low;
  no_other = no_other;
  all_lines = all_lines;
  all_uploads = all_uploads;
  tells = tells;
}
