-- `console_answers::put_signed` meets its contract. Assumes nothing.
use mathlib.Core.Path.{◌≡◌, ap, subst, ◌∙◌}
use mathlib.Core.Bool.{true, false}
use lib.IntN.{ℤ, pos, nat_abs}
use lib.Signed.{lt_z}
use Rattle.console_answers.specs.Texts.{signed_word}
use Rattle.console_answers.proofs.SignedLaws.{back}
use Rattle.console_answers.proofs.put_signed.Goals as goal

pub returns-then-z-lt0 : goal.returns-then-z-lt0
unfolding signed_word
returns-then-z-lt0 c =
    let z = c.args.z in
    let h = c.requires in
    let sign : lt_z z (pos 0) ≡ true = subst (λ (y : ℤ). lt_z y (pos 0) ≡ true) (back z h) c.if-z-lt0.true in
    let size = c.unsigned_abs-n.ensures.value ∙ ap nat_abs (back z h) in
    rw (sign, ← size) c.put_after.ensures

pub returns : goal.returns
unfolding signed_word
returns c =
    let z = c.args.z in
    let h = c.requires in
    let sign : lt_z z (pos 0) ≡ false = subst (λ (y : ℤ). lt_z y (pos 0) ≡ false) (back z h) c.if-z-lt0.false in
    let size = c.unsigned_abs-n.ensures.value ∙ ap nat_abs (back z h) in
    rw (sign, ← size) c.put_number.ensures
