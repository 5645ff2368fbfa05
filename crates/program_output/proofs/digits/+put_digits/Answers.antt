-- `program_output::digits::put_digits` meets its contract. Assumes nothing.
use mathlib.Core.Path.{ap, sym, ◌∙◌}
use mathlib.Core.List.{List, [], ◌∷◌}
use Prim.Native.Nat.{ℕ, ◌-◌, ◌/◌, ◌%◌}
use native.Mathlib.Omega.{arith}
use Rattle.program_output.specs.Pages.{page, added}
use Rattle.program_output.specs.Digits.{hex_digit_ascii, decimal_in}
use Rattle.program_output.proofs.PageLaws.{then}
use Rattle.program_output.proofs.Decimals.{decimal_none, decimal_last, decimal_more}
use Rattle.program_output.proofs.digits.+put_digits.Goals as goal

pub returns-then-most-eq0 : goal.returns-then-most-eq0
returns-then-most-eq0 t c =
    let a = c.args in
    sym (decimal_none a.most a.n (page a.at a.room.now) (omega (arith, c.if-most-eq0.true)))

pub returns-then-n-lt10 : goal.returns-then-n-lt10
returns-then-n-lt10 t c =
    let a = c.args in
    let p = page a.at a.room.now in
    c.put.ensures ∙ ap (λ (x : ℕ). added (x ∷ []) p) c.hex_digit.ensures ∙ ap (λ (l : List ℕ). added l p) (sym (decimal_last a.most a.n (omega (arith, c.if-most-eq0.false)) (omega (arith, c.if-n-lt10.true))))

pub returns : goal.returns
returns t c =
    let a = c.args in
    let p = page a.at a.room.now in
    let q = page c.put_digits-next.result c.put_digits-next.new.room in
    then (decimal_in (a.most - 1) (a.n / 10)) (hex_digit_ascii (a.n % 10) ∷ []) p c.put_digits-next.ensures (c.put-2.ensures ∙ ap (λ (x : ℕ). added (x ∷ []) q) c.hex_digit-2.ensures)
    ∙ ap (λ (l : List ℕ). added l p) (sym (decimal_more a.most a.n (omega (arith, c.if-most-eq0.false)) (omega (arith, c.if-n-lt10.false))))
