-- `card_judge::judge::altid_at` meets its contract. Assumes nothing.
use mathlib.Core.Path.{◌∙◌}
use Rattle.octets.specs.Ascii.{octets}
use Rattle.card_line.specs.Parts.{altid_name, first_value}
use Rattle.card_line.proofs.PartLaws.{read, read_accepted, no_params}
use Rattle.card_judge.proofs.SettleLaws.{looked_for, found_spans}
use Rattle.card_judge.proofs.judge.altid_at.Goals as goal

pub returns-then-x-eq0 : goal.returns-then-x-eq0
returns-then-x-eq0 c =
    let l = c.args.s.now in
    looked_for c.args.once (first_value altid_name l) c.if-once-eq0.false
    ∙ no_params c.requires.parted.0 l c.args.x (read c.requires.parted.0 l c.args.x c.requires.parted.1) altid_name c.if-x-eq0.true

pub returns : goal.returns
unfolding octets
returns c =
    let l = c.args.s.now in
    rw (looked_for c.args.once (first_value altid_name l) c.if-once-eq0.false)
    (found_spans l c.args.x.name_end (read_accepted c.requires.parted.0 l c.args.x (read c.requires.parted.0 l c.args.x c.requires.parted.1)) altid_name _ c.param_first.ensures)
