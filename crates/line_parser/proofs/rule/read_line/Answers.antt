-- `line_parser::rule::read_line` meets its contract. Assumes nothing.
use Rattle.std.proofs.lemmas.Result.{err_from_is_err_and}
use Rattle.line_parser.proofs.Steps.{named_ok, named_err, listed_err, line_bad, line_bad_params, line_told}
use Rattle.line_parser.specs.Places.{named, counted}
use Rattle.line_parser.specs.Rule.{head, params}
use lib.ListN.{length, drop}
use mathlib.Core.Path.{ap}
use native.Mathlib.Omega.{arith}
use Prim.Native.Nat.{suc}
use Rattle.line_parser.proofs.rule.read_line.Goals as goal

pub returns-in_err-head : goal.returns-in_err-head
returns-in_err-head c =
    let s = c.args.s.now in
    let p = err_from_is_err_and c.from_residual.result c.from_residual.ensures.1 in
    rw (p.1, p.2) (named_err (head s) c.read_head.ensures c.in_err-head.was (λ x q. line_bad s x q))

pub returns-in_err-params : goal.returns-in_err-params
returns-in_err-params c =
    let s = c.args.s.now in
    let n = c.in_ok-head.head.name_end in
    let m = params (suc (length (drop n s))) (drop n s) in
    named_ok (head s) c.read_head.ensures c.in_ok-head.was (λ h q g.
    let p = err_from_is_err_and c.from_residual-in_err-params.result c.from_residual-in_err-params.ensures.1 in
    rw (p.1, p.2) (listed_err 0 n m c.read_params.ensures c.in_err-params.was (λ x p. line_bad_params s h n q x p)))

pub overflow_add-result : goal.overflow_add-result
overflow_add-result c =
    let s = c.args.s.now in
    omega (arith, (line_told s c.read_head.ensures (ap named c.in_ok-head.was) c.read_params.ensures (ap counted c.in_ok-params.was)).0)

pub returns : goal.returns
returns c =
    let s = c.args.s.now in
    (line_told s c.read_head.ensures (ap named c.in_ok-head.was) c.read_params.ensures (ap counted c.in_ok-params.was)).1
