-- `program_output::digits::decimal` meets its contract. Assumes nothing.
use Prim.Native.Nat.{◌+◌}
use mathlib.Core.Path.{◌≡◌}
use lib.ListN.{length, take}
use native.Mathlib.Omega.{arith}
use Rattle.program_output.specs.Digits.{decimal}
use Rattle.program_output.proofs.Decimals.{decimal_has, added_front}
use Rattle.program_output.proofs.digits.decimal.Goals as goal
use Rattle.program_output.proofs.digits.decimal.Goals.{After-put_number}

front : (c : After-put_number) → (c.put_number.result ≡ 0 + length (decimal c.args.n)) × (take c.put_number.result c.put_number.new.room ≡ decimal c.args.n)
front c =
    let a = c.args in
    added_front (decimal a.n) a.room.now 0 (omega (arith, c.told-room, decimal_has a.n)) c.put_number.result c.put_number.new.room c.put_number.ensures

pub returns-clause-value : goal.returns-clause-value
returns-clause-value c = (front c).1

pub returns-clause-upper_bound : goal.returns-clause-upper_bound
returns-clause-upper_bound c = omega (arith, (front c).0, decimal_has c.args.n)
