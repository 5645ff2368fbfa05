-- `text::unescape_each` meets its contract. Assumes nothing.
use borrow.Author.Rules.{rules}
use mathlib.Core.Path.{◌≡◌, sym, ap, ◌∙◌}
use mathlib.Core.List.{◌++◌}
use Prim.Native.Nat.{ℕ}
use native.Mathlib.Omega.{arith}
use lib.ListN.{drop}
use Rattle.std.proofs.lemmas.Result.{err_from_is_err_and}
use Rattle.numbers.specs.declared.refusal.Refusal.{Refusal}
use Rattle.numbers.specs.declared.refusal.Reason.TheVariants.{Escape}
use Rattle.octets.proofs.RoomLaws.{fill_short, fill_fits}
use Rattle.text_unescaping.specs.Unescaped.{unescaped}
use Rattle.text.proofs.OutcomeLaws.{was_ok, was_err, fault_outcome, told, whole_outcome}
use Rattle.text.proofs.unescape_each.Goals as goal

pub returns-in_err-kept : goal.returns-in_err-kept
returns-in_err-kept c =
    let p = err_from_is_err_and c.from_residual.result c.from_residual.ensures.1 in
    let q = was_err Refusal c.measure.result c.in_err-kept.field-0.0 c.in_err-kept.ensures.cases in
    let h = q.2 in
    let k : c.in_err-kept.field-0.0 ≡ record { 0 = Escape; 1 = q.0 } = search rules in
    rw (p.1, p.2, k) (fault_outcome c.args.text.now c.args.out.now c.measure.ensures q.1)

pub returns-then-out-kept : goal.returns-then-out-kept
returns-then-out-kept c =
    let t = c.args.text.now in
    let room = c.args.out.now in
    let q = was_ok Refusal c.measure.result c.in_ok-kept.kept c.in_ok-kept.ensures.cases in
    whole_outcome t room c.measure.ensures q (fill_short (unescaped t) room _ (told t room c.measure.ensures q).0 c.if-out-kept.true)

pub write-requires : goal.write-requires
write-requires c =
    let w = told c.args.text.now c.args.out.now c.measure.ensures (was_ok Refusal c.measure.result c.in_ok-kept.kept c.in_ok-kept.ensures.cases) in
    record { text_value = w.1; text_in_bounds = omega (arith, w.0) }

pub returns : goal.returns
returns c =
    let t = c.args.text.now in
    let room = c.args.out.now in
    let q = was_ok Refusal c.measure.result c.in_ok-kept.kept c.in_ok-kept.ensures.cases in
    let e = (told t room c.measure.ensures q).0 in
    whole_outcome t room c.measure.ensures q
    (fill_fits (unescaped t) room _ e (omega arith) c.write.new.out (c.write.ensures ∙ ap (λ (k : ℕ). unescaped t ++ drop k room) (sym e)))
