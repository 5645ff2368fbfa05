-- `version3::sheet::place_line` meets its contract. Assumes nothing.
use mathlib.Core.Path.{◌≡◌, ap}
use native.Mathlib.Omega.{arith}
use Rattle.folder_line.specs.Pieces.{folded}
use Rattle.version3.specs.Card.{turn_number}
use Rattle.version3.specs.Places.{first_over, second_over, others_over}
use Rattle.version3.proofs.PlaceLaws.{own, own_over, other}
use Rattle.version3.proofs.sheet.place_line.Goals as goal

pub returns-in_err-n-in-First : goal.returns-in_err-n-in-First
returns-in_err-n-in-First c =
    let a = c.args in
    let h = rw c.in_err-n-in-First.was at c.add_line.ensures in
    rw c.from_residual.ensures (first_over (own_over 0 (turn_number a.turn) (folded a.l.now) a.first.now a.e.first (ap turn_number c.in-First.is) h))

pub returns-in_ok-n-in-First : goal.returns-in_ok-n-in-First
returns-in_ok-n-in-First c =
    let a = c.args in
    let x = folded a.l.now in
    let t = turn_number a.turn in
    let e : t ≡ 0 = ap turn_number c.in-First.is in
    record { first_share = own 0 t x e (rw c.in_ok-n-in-First.was at c.add_line.ensures); second_share = other 1 t x a.second.now a.e.second (λ q. omega (arith, q, e)) c.requires.1.second_in; others_share = other 2 t x a.others.now a.e.others (λ q. omega (arith, q, e)) c.requires.1.others_in }

pub returns-in_err-n-in-Second : goal.returns-in_err-n-in-Second
returns-in_err-n-in-Second c =
    let a = c.args in
    let h = rw c.in_err-n-in-Second.was at c.add_line-in-Second.ensures in
    rw c.from_residual-in_err-n-in-Second.ensures (second_over (own_over 1 (turn_number a.turn) (folded a.l.now) a.second.now a.e.second (ap turn_number c.in-Second.is) h))

pub returns-in_ok-n-in-Second : goal.returns-in_ok-n-in-Second
returns-in_ok-n-in-Second c =
    let a = c.args in
    let x = folded a.l.now in
    let t = turn_number a.turn in
    let e : t ≡ 1 = ap turn_number c.in-Second.is in
    record { first_share = other 0 t x a.first.now a.e.first (λ q. omega (arith, q, e)) c.requires.1.first_in; second_share = own 1 t x e (rw c.in_ok-n-in-Second.was at c.add_line-in-Second.ensures); others_share = other 2 t x a.others.now a.e.others (λ q. omega (arith, q, e)) c.requires.1.others_in }

pub returns-in_err-n-in-Others : goal.returns-in_err-n-in-Others
returns-in_err-n-in-Others c =
    let a = c.args in
    let h = rw c.in_err-n-in-Others.was at c.add_line-in-Others.ensures in
    rw c.from_residual-in_err-n-in-Others.ensures (others_over (own_over 2 (turn_number a.turn) (folded a.l.now) a.others.now a.e.others (ap turn_number c.in-Others.is) h))

pub returns-in_ok-n-in-Others : goal.returns-in_ok-n-in-Others
returns-in_ok-n-in-Others c =
    let a = c.args in
    let x = folded a.l.now in
    let t = turn_number a.turn in
    let e : t ≡ 2 = ap turn_number c.in-Others.is in
    record { first_share = other 0 t x a.first.now a.e.first (λ q. omega (arith, q, e)) c.requires.1.first_in; second_share = other 1 t x a.second.now a.e.second (λ q. omega (arith, q, e)) c.requires.1.second_in; others_share = own 2 t x e (rw c.in_ok-n-in-Others.was at c.add_line-in-Others.ensures) }
