-- `label::decode_each` meets its contract. Assumes nothing.
use mathlib.Core.Path.{sym, ap, ◌∙◌}
use mathlib.Core.List.{◌++◌}
use Prim.Native.Nat.{ℕ}
use native.Mathlib.Omega.{arith}
use lib.ListN.{drop}
use Rattle.octets.proofs.RoomLaws.{fill_short, fill_fits}
use Rattle.label_carets.specs.Decoded.{decoded}
use Rattle.label_carets.specs.declared.Rule.TheVariants.{Rfc6868}
use Rattle.label_carets.proofs.PairLaws.{decoded_short}
use Rattle.label.proofs.decode_each.Goals as goal

pub write-kept-requires : goal.write-kept-requires
write-kept-requires c = omega (arith, decoded_short Rfc6868 c.args.label.now)

pub returns-then-label-out : goal.returns-then-label-out
returns-then-label-out c =
    let a = c.args in
    let d = decoded Rfc6868 a.label.now in
    let w = c.write-kept in
    fill_fits d a.out.now w.result w.ensures.value (omega (arith, w.ensures.value, decoded_short Rfc6868 a.label.now)) w.new.out
    (w.ensures.out_after ∙ ap (λ (k : ℕ). d ++ drop k a.out.now) (sym w.ensures.value))

pub returns-then-out-n : goal.returns-then-out-n
returns-then-out-n c =
    let a = c.args in
    let m = c.measure-n in
    fill_short (decoded Rfc6868 a.label.now) a.out.now m.result m.ensures c.if-out-n.true

pub returns : goal.returns
returns c =
    let a = c.args in
    let d = decoded Rfc6868 a.label.now in
    let m = c.measure-n in
    let w = c.write in
    fill_fits d a.out.now m.result m.ensures (omega arith) w.new.out (w.ensures.out_after ∙ ap (λ (k : ℕ). d ++ drop k a.out.now) (sym m.ensures))
