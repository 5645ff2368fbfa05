-- `cabbook_morning::turn` meets its contract. Assumes nothing.
use Rattle.cabbook_morning.proofs.turn.Goals as goal

pub returns-then-upload-eq0 : goal.returns-then-upload-eq0
returns-then-upload-eq0 c = (λ e. c.take_file.ensures, λ h. absurd (h c.if-upload-eq0.true))

pub returns : goal.returns
returns c = (λ e. absurd (c.if-upload-eq0.false e), λ h. c.feed.ensures)
