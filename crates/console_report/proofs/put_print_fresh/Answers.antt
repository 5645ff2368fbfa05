-- `console_report::put_print_fresh` meets its contract. Assumes nothing.
use Rattle.program_output.specs.Pages.{page}
use Rattle.console_report.proofs.KeptLaws.{print_part}
use Rattle.console_report.proofs.put_print_fresh.Goals as goal

pub returns : goal.returns
returns c = print_part c.args.r 70000 c.args.n (page c.args.at c.args.out.now) c.requires c.put_print.ensures
