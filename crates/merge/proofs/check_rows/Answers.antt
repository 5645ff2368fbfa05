-- `merge::check_rows` meets its contract. Assumes nothing.
use mathlib.Core.Path.{sym, ap, refl, ◌∙◌}
use mathlib.Core.Bool.{Bool}
use mathlib.Core.List.{List}
use Prim.Native.Nat.{ℕ}
use Rattle.std.proofs.lemmas.Result.{err_from_is_err_and}
use Rattle.merge_partners.specs.Pairs.{First, joined_first}
use Rattle.merge.specs.Sides.{Side, side, read_of, Settled}
use Rattle.merge.specs.Outcome.{plan_in, entered, judge_of}
use Rattle.merge.proofs.OutcomeLaws.{check_first, check_second, check_both}
use Rattle.merge.proofs.check_rows.Goals as goal

pub returns-in_err-x_counts : goal.returns-in_err-x_counts
unfolding read_of
returns-in_err-x_counts c =
    let a = c.args in
    let p = err_from_is_err_and c.from_residual.result c.from_residual.ensures.1 in
    rw (p.1, p.2) (sym (check_first a.first.now a.second.now a.a a.b _ _ _ c.in_err-x_counts.ensures a.plan.now _ _ refl))

pub returns-in_err-y_counts : goal.returns-in_err-y_counts
unfolding read_of
returns-in_err-y_counts c =
    let a = c.args in
    let p = err_from_is_err_and c.from_residual-in_err-y_counts.result c.from_residual-in_err-y_counts.ensures.1 in
    rw (p.1, p.2) (sym (check_second a.first.now a.second.now a.a a.b _ _ _ c.in_ok-x_counts.ensures _ _ refl _ _ _ c.in_err-y_counts.ensures a.plan.now _ _ refl))

pub returns-in_err-settle : goal.returns-in_err-settle
unfolding read_of
returns-in_err-settle c =
    let a = c.args in
    let x : Side = side c.read.new.copy c.read.new.records c.in_ok-x_counts.x_counts.cards c.in_ok-x_counts.x_counts.lines in
    let y : Side = side c.read-2.new.copy c.read-2.new.records c.in_ok-y_counts.y_counts.cards c.in_ok-y_counts.y_counts.lines in
    let p = err_from_is_err_and c.from_residual-in_err-settle.result c.from_residual-in_err-settle.ensures.1 in
    rw (p.1, p.2)
    (sym (check_both a.first.now a.second.now a.a a.b _ _ _ c.in_ok-x_counts.ensures _ _ refl _ _ _ c.in_ok-y_counts.ensures _ _ refl a.plan.now
    ∙ ap (λ (z : Settled). judge_of z x y a.plan.now) (sym c.in_err-settle.ensures)))

pub returns-then-not-enter_plan : goal.returns-then-not-enter_plan
unfolding read_of plan_in
returns-then-not-enter_plan c =
    let a = c.args in
    let x : Side = side c.read.new.copy c.read.new.records c.in_ok-x_counts.x_counts.cards c.in_ok-x_counts.x_counts.lines in
    let y : Side = side c.read-2.new.copy c.read-2.new.records c.in_ok-y_counts.y_counts.cards c.in_ok-y_counts.y_counts.lines in
    let p : List ℕ = c.settle.new.p in
    let q : List ℕ = c.enter_plan.new.p in
    sym (check_both a.first.now a.second.now a.a a.b _ _ _ c.in_ok-x_counts.ensures _ _ refl _ _ _ c.in_ok-y_counts.ensures _ _ refl a.plan.now
    ∙ ap (λ (z : Settled). judge_of z x y a.plan.now) (sym c.in_ok-settle.ensures)
    ∙ ap (λ (f : First). entered f p a.plan.now) (sym c.enter_plan.ensures)
    ∙ ap (λ (t : Bool). entered (joined_first t q) p a.plan.now) c.if-not-enter_plan.true)

pub returns-then-not-covers : goal.returns-then-not-covers
unfolding read_of plan_in
returns-then-not-covers c =
    let a = c.args in
    let x : Side = side c.read.new.copy c.read.new.records c.in_ok-x_counts.x_counts.cards c.in_ok-x_counts.x_counts.lines in
    let y : Side = side c.read-2.new.copy c.read-2.new.records c.in_ok-y_counts.y_counts.cards c.in_ok-y_counts.y_counts.lines in
    let p : List ℕ = c.settle.new.p in
    let q : List ℕ = c.enter_plan.new.p in
    sym (check_both a.first.now a.second.now a.a a.b _ _ _ c.in_ok-x_counts.ensures _ _ refl _ _ _ c.in_ok-y_counts.ensures _ _ refl a.plan.now
    ∙ ap (λ (z : Settled). judge_of z x y a.plan.now) (sym c.in_ok-settle.ensures)
    ∙ ap (λ (f : First). entered f p a.plan.now) (sym c.enter_plan.ensures)
    ∙ ap (λ (t : Bool). entered (joined_first t q) p a.plan.now) c.if-not-enter_plan.false ∙ rw (sym c.covers.ensures ∙ c.if-not-covers.true))

pub returns : goal.returns
unfolding read_of plan_in
returns c =
    let a = c.args in
    let x : Side = side c.read.new.copy c.read.new.records c.in_ok-x_counts.x_counts.cards c.in_ok-x_counts.x_counts.lines in
    let y : Side = side c.read-2.new.copy c.read-2.new.records c.in_ok-y_counts.y_counts.cards c.in_ok-y_counts.y_counts.lines in
    let p : List ℕ = c.settle.new.p in
    let q : List ℕ = c.enter_plan.new.p in
    sym (check_both a.first.now a.second.now a.a a.b _ _ _ c.in_ok-x_counts.ensures _ _ refl _ _ _ c.in_ok-y_counts.ensures _ _ refl a.plan.now
    ∙ ap (λ (z : Settled). judge_of z x y a.plan.now) (sym c.in_ok-settle.ensures)
    ∙ ap (λ (f : First). entered f p a.plan.now) (sym c.enter_plan.ensures)
    ∙ ap (λ (t : Bool). entered (joined_first t q) p a.plan.now) c.if-not-enter_plan.false ∙ rw (sym c.covers.ensures ∙ c.if-not-covers.false))
