-- `console_answers::put_offset` meets its contract. Assumes nothing.
use mathlib.Core.Path.{ap, subst, ◌∙◌}
use mathlib.Core.List.{◌++◌}
use lib.IntN.{ℤ, nat_abs}
use Prim.Native.Nat.{◌≤◌}
use Rattle.octets.specs.Ascii.{octets}
use Rattle.program_output.specs.Pages.{page, added}
use Rattle.program_output.proofs.PageLaws.{then}
use Rattle.value_offsets.specs.Minutes.{most_minutes, Bounded}
use Rattle.console_answers.specs.Texts.{signed_word, offset_text}
use Rattle.console_answers.proofs.SignedLaws.{back}
use Rattle.console_answers.proofs.put_offset.Goals as goal

pub put_signed-requires : goal.put_signed-requires
put_signed-requires c =
    let z = c.in-Minutes.z in
    let h : nat_abs z ≤ most_minutes = subst Bounded c.in-Minutes.is c.requires in
    rw (back z h) h

pub returns-in-Minutes : goal.returns-in-Minutes
unfolding offset_text octets
returns-in-Minutes c =
    let a = c.args in
    let z = c.in-Minutes.z in
    let h : nat_abs z ≤ most_minutes = subst Bounded c.in-Minutes.is c.requires in
    let p = page a.at a.out.now in
    rw c.in-Minutes.is (then (octets "ok ") (signed_word _) p c.put_all-word.ensures c.put_signed.ensures ∙ ap (λ (y : ℤ). added (octets "ok " ++ signed_word y) p) (back z h))

pub returns-in-Refused : goal.returns-in-Refused
unfolding offset_text
returns-in-Refused c = rw c.in-Refused.is c.put_no.ensures
