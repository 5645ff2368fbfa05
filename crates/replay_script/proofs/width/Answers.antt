-- `replay_script::width` meets its contract. Assumes nothing.
use mathlib.Core.Path.{sym, ◌∙◌}
use native.Mathlib.Omega.{arith}
use Rattle.replay_script.proofs.ScriptLaws.{needed_five, needed_five_is, needed_open, needed_add, width_cut, width_low, width_high, width_whole}
use Rattle.replay_script.proofs.width.Goals as goal

pub returns-then-n-lt-LENGTH : goal.returns-then-n-lt-LENGTH
returns-then-n-lt-LENGTH c = let v = needed_five c.args.s.now in sym (width_cut _ (omega arith))

pub returns-then-b-lt-OPEN : goal.returns-then-b-lt-OPEN
returns-then-b-lt-OPEN c = sym (width_low _ c.if-b-lt-OPEN.true)

pub returns-then-b-gt-RELEASE : goal.returns-then-b-gt-RELEASE
returns-then-b-gt-RELEASE c = sym (width_high _ c.if-b-gt-RELEASE.true)

pub returns-then-n-lt-OPENING : goal.returns-then-n-lt-OPENING
returns-then-n-lt-OPENING c = let e = needed_open c.args.s.now c.if-b-eq-OPEN.true in sym (width_cut _ (omega arith))

pub returns-then-b-eq-OPEN : goal.returns-then-b-eq-OPEN
returns-then-b-eq-OPEN c = let e = needed_open c.args.s.now c.if-b-eq-OPEN.true in sym (width_whole _ (omega arith) (omega arith) (omega arith) ∙ e)

pub returns-then-b-ne-ADD : goal.returns-then-b-ne-ADD
returns-then-b-ne-ADD c = let e = needed_five_is c.args.s.now c.if-b-eq-OPEN.false c.if-b-ne-ADD.true in sym (width_whole _ (omega arith) (omega arith) (omega arith) ∙ e)

pub returns-then-n-lt-CHUNK : goal.returns-then-n-lt-CHUNK
returns-then-n-lt-CHUNK c = let e = needed_add c.args.s.now c.if-b-ne-ADD.false in sym (width_cut _ (omega arith))

pub returns-then-n-w : goal.returns-then-n-w
returns-then-n-w c = let e = needed_add c.args.s.now c.if-b-ne-ADD.false in sym (width_cut _ (omega arith))

pub returns : goal.returns
returns c =
    let e = needed_add c.args.s.now c.if-b-ne-ADD.false in
    let h = c.read_two.ensures.0 in sym (width_whole _ (omega arith) (omega arith) (omega arith) ∙ e ∙ omega arith)
