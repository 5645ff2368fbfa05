-- `version3::sheet::write_all` meets its contract. Assumes nothing.
use mathlib.Core.Path.{refl, ap, ◌∙◌}
use mathlib.Core.List.{List}
use Prim.Native.Nat.{ℕ}
use Rattle.octets.specs.Room.{refuse}
use Rattle.version3.specs.Card.{card_text}
use Rattle.version3.proofs.OutcomeLaws.{bound_over}
use Rattle.version3.proofs.PlaceLaws.{narrowed, narrow_over}
use Rattle.version3.proofs.sheet.write_all.Goals as goal

pub returns-in-Some : goal.returns-in-Some
returns-in-Some c = rw c.in-Some.is at c.write_with.ensures

pub returns-in-None : goal.returns-in-None
returns-in-None c =
    let a = c.args in
    let r = rw c.in-None.is at c.write_with.ensures in
    ap (λ (o : List ℕ). refuse 16 16384 o) r.0 ∙ bound_over (card_text a.way a.s.now) a.out.now (narrow_over a.way a.s.now (narrowed r.1 refl refl refl))
