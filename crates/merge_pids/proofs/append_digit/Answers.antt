-- `merge_pids::append_digit` meets its contract. Assumes nothing.
use Rattle.std.proofs.Common.{◌≡◌, ◌+◌, ◌-◌, ◌*◌, min, arith}
use lib.Dec.{ltb}
use borrow.Author.Tests.{ltb-true, ltb-false}
use Rattle.octets.proofs.Bools.{by}
use Rattle.merge_pids.specs.Numbers.{with_digit}
use Rattle.merge_pids.proofs.append_digit.Goals as goal

pub returns-clause-value : goal.returns-clause-value
unfolding with_digit
returns-clause-value c =
    let n = c.args.n * 10 + (c.args.b - 48) in
    let e : c.min.result ≡ min n 65536 = omega (arith, c.min.ensures, c.ones.ensures) in
    by (ltb 65535 n)
    (λ t. let h = ltb-true 65535 n t in rw t (omega arith))
    (λ t. let h = ltb-false 65535 n t in rw t (omega arith))
