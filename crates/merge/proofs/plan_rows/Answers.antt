-- `merge::plan_rows` meets its contract. Assumes nothing.
use borrow.Author.Tests.{lt-ltb, le-ltb}
use mathlib.Core.Path.{sym, ap, refl, ◌∙◌}
use mathlib.Core.List.{List}
use Prim.Native.Nat.{ℕ, ◌*◌}
use native.Mathlib.Omega.{arith}
use lib.ListN.{length, replicate}
use Rattle.std.proofs.lemmas.Result.{err_from_is_err_and}
use Rattle.merge_partners.specs.Pairs.{pairs_from}
use Rattle.merge.specs.Paired.{Pairs}
use Rattle.merge.specs.Sides.{read_of, Settled}
use Rattle.merge.specs.Outcome.{planned, write_of}
use Rattle.merge.proofs.SettleLaws.{pair_count}
use Rattle.merge.proofs.WriteLaws.{flatten_length, pairs_few}
use Rattle.merge.proofs.OutcomeLaws.{plan_first, plan_second, plan_both}
use Rattle.merge.proofs.plan_rows.Goals as goal

pub returns-in_err-x_counts : goal.returns-in_err-x_counts
unfolding read_of
returns-in_err-x_counts c =
    let a = c.args in
    let p = err_from_is_err_and c.from_residual.result c.from_residual.ensures.1 in
    rw (p.1, p.2) (sym (plan_first a.first.now a.second.now a.a a.b _ _ _ c.in_err-x_counts.ensures a.out.now _ _ refl))

pub returns-in_err-y_counts : goal.returns-in_err-y_counts
unfolding read_of
returns-in_err-y_counts c =
    let a = c.args in
    let p = err_from_is_err_and c.from_residual-in_err-y_counts.result c.from_residual-in_err-y_counts.ensures.1 in
    rw (p.1, p.2) (sym (plan_second a.first.now a.second.now a.a a.b _ _ _ c.in_ok-x_counts.ensures _ _ refl _ _ _ c.in_err-y_counts.ensures a.out.now _ _ refl))

pub returns-in_err-n : goal.returns-in_err-n
unfolding read_of
returns-in_err-n c =
    let a = c.args in
    let p = err_from_is_err_and c.from_residual-in_err-n.result c.from_residual-in_err-n.ensures.1 in
    rw (p.1, p.2)
    (sym (plan_both a.first.now a.second.now a.a a.b _ _ _ c.in_ok-x_counts.ensures _ _ refl _ _ _ c.in_ok-y_counts.ensures _ _ refl a.out.now
    ∙ ap (λ (z : Settled). write_of z a.out.now) (sym c.in_err-n.ensures)))

pub overflow_mul-n : goal.overflow_mul-n
unfolding read_of
overflow_mul-n c =
    let a = c.args in
    let p = c.settle.new.p in
    omega (arith, pair_count _ _ a.a a.b (replicate 4096 0) _ p c.in_ok-n.ensures, pairs_few p 0 4096)

pub overflow_mul-result : goal.overflow_mul-result
unfolding read_of
overflow_mul-result c =
    let a = c.args in
    let p = c.settle.new.p in
    omega (arith, pair_count _ _ a.a a.b (replicate 4096 0) _ p c.in_ok-n.ensures, pairs_few p 0 4096)

pub returns-then-out-n : goal.returns-then-out-n
unfolding read_of
returns-then-out-n c =
    let a = c.args in
    sym (plan_both a.first.now a.second.now a.a a.b _ _ _ c.in_ok-x_counts.ensures _ _ refl _ _ _ c.in_ok-y_counts.ensures _ _ refl a.out.now
    ∙ ap (λ (z : Settled). write_of z a.out.now) (sym c.in_ok-n.ensures)
    ∙ rw (lt-ltb (length a.out.now) (c.in_ok-n.n * 2) c.if-out-n.true))

pub put_pairs-requires : goal.put_pairs-requires
unfolding read_of
put_pairs-requires c =
    let a = c.args in
    let p = c.settle.new.p in
    omega (arith, flatten_length (pairs_from p 0 4096), pair_count _ _ a.a a.b (replicate 4096 0) _ p c.in_ok-n.ensures, c.if-out-n.false)

pub returns : goal.returns
unfolding read_of
returns c =
    let a = c.args in
    ap (λ (o : List ℕ). planned (Pairs c.in_ok-n.n) o) c.put_pairs.ensures
    ∙ sym (plan_both a.first.now a.second.now a.a a.b _ _ _ c.in_ok-x_counts.ensures _ _ refl _ _ _ c.in_ok-y_counts.ensures _ _ refl a.out.now
    ∙ ap (λ (z : Settled). write_of z a.out.now) (sym c.in_ok-n.ensures)
    ∙ rw (le-ltb (length a.out.now) (c.in_ok-n.n * 2) c.if-out-n.false))
