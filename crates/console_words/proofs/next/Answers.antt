-- `console_words::next` meets its contract. Assumes nothing.
use mathlib.Core.Path.{◌≡◌}
use native.Mathlib.Omega.{arith}
use Prim.Native.Nat.{◌-◌, ◌≤◌}
use lib.ListN.{length, take, drop, length-drop, drop_of_length-le}
use lib.Seq.{take_all}
use Rattle.octets.specs.Classes.{run}
use Rattle.console_words.specs.Words.{next_of}
use Rattle.console_words.proofs.WordLaws.{next_placed}
use Rattle.console_words.proofs.next.Goals as goal

pub returns-then-s-from-clause-value : goal.returns-then-s-from-clause-value
unfolding next_of run
returns-then-s-from-clause-value c =
    let h : length c.args.s.now ≤ c.args.from = omega arith in
    rw (drop_of_length-le c.args.s.now h) (omega arith)

pub returns-clause-value : goal.returns-clause-value
returns-clause-value c =
    let a = c.args in
    let whole : take (length a.s.now - a.from) (drop a.from a.s.now) ≡ drop a.from a.s.now = take_all _ (drop a.from a.s.now) (omega (arith, length-drop a.from a.s.now)) in
    next_placed a.octet a.s.now a.from c.place.result c.unwrap_or.result (rw whole at c.place.ensures) (rw whole at c.unwrap_or.ensures)
