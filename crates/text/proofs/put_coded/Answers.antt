-- `text::put_coded` meets its contract. Assumes nothing.
use mathlib.Core.Path.{sym, ap, ◌∙◌}
use mathlib.Core.List.{◌++◌}
use Prim.Native.Nat.{ℕ, ◌+◌}
use native.Mathlib.Omega.{arith}
use lib.ListN.{length, drop}
use Rattle.octets.proofs.RoomLaws.{fill_short, fill_fits, over_bound, within_bound}
use Rattle.text_escaping.specs.Coded.{coded}
use Rattle.text.proofs.put_coded.Goals as goal

pub returns-then-n-gt-OCTETS : goal.returns-then-n-gt-OCTETS
returns-then-n-gt-OCTETS c =
    let a = c.args in
    over_bound (coded a.lead a.t.now a.text.now) a.out.now (length a.text.now + a.pairs) c.requires.pairs_counted c.if-n-gt-OCTETS.true

pub returns-then-out-n : goal.returns-then-out-n
returns-then-out-n c =
    let a = c.args in
    let x = coded a.lead a.t.now a.text.now in
    fill_short x a.out.now (length a.text.now + a.pairs) c.requires.pairs_counted c.if-out-n.true
    ∙ within_bound x a.out.now (length a.text.now + a.pairs) c.requires.pairs_counted (omega arith)

pub write-requires : goal.write-requires
write-requires c = omega (arith, c.requires.pairs_counted)

pub returns : goal.returns
returns c =
    let a = c.args in
    let x = coded a.lead a.t.now a.text.now in
    let e = c.requires.pairs_counted in
    fill_fits x a.out.now (length a.text.now + a.pairs) e (omega arith) c.write.new.out (c.write.ensures ∙ ap (λ (m : ℕ). x ++ drop m a.out.now) (sym e))
    ∙ within_bound x a.out.now (length a.text.now + a.pairs) e (omega arith)
