-- `program_output::digits::put_pair` meets its contract. Assumes nothing.
use mathlib.Core.Path.{ap, ◌∙◌}
use Prim.Native.Nat.{ℕ, ◌/◌, ◌%◌}
use mathlib.Core.List.{[], ◌∷◌}
use Rattle.program_output.specs.Digits.{hex_digit_ascii}
use Rattle.program_output.specs.Pages.{page, added}
use Rattle.program_output.proofs.PageLaws.{then}
use Rattle.program_output.proofs.digits.put_pair.Goals as goal

pub returns : goal.returns
returns c =
    let a = c.args in
    let p = page a.at a.room.now in
    let q = page c.put-next.result c.put-next.new.room in
    then (hex_digit_ascii (a.octet / 16) ∷ []) (hex_digit_ascii (a.octet % 16) ∷ []) p (c.put-next.ensures ∙ ap (λ (x : ℕ). added (x ∷ []) p) c.hex_digit.ensures) (c.put.ensures ∙ ap (λ (x : ℕ). added (x ∷ []) q) c.hex_digit-2.ensures)
