-- `line_parser::rule::read_param` meets its contract. Assumes nothing.
use Rattle.std.proofs.lemmas.Result.{err_from_is_err_and}
use Rattle.line_parser.proofs.Steps.{ok_upto, err_up, past, param_bad, param_none, param_values}
use Rattle.line_parser.specs.Places.{place}
use Rattle.line_parser.specs.Rule.{word, values}
use lib.ListN.{drop, get_or}
use native.Mathlib.Omega.{arith}
use Prim.Native.Nat.{ℕ, ◌+◌}
use mathlib.Core.Path.{sym, ap, ◌∙◌}
use Rattle.line_parser.proofs.rule.read_param.Goals as goal

pub returns-in_err-name_end : goal.returns-in_err-name_end
returns-in_err-name_end c =
    let a = c.args in
    let s = a.s.now in
    let p = err_from_is_err_and c.from_residual.result c.from_residual.ensures.1 in
    rw (p.1, p.2) (err_up a.at (word 41 (drop a.at s)) c.read_word.ensures c.in_err-name_end.was (λ x q. param_bad s a.at x q))

pub returns-then-s-name_end : goal.returns-then-s-name_end
returns-then-s-name_end c =
    let a = c.args in
    let s = a.s.now in
    let over = c.if-s-name_end.true in
    ok_upto a.at (word 41 (drop a.at s)) c.read_word.ensures c.in_ok-name_end.was (λ w k q h.
    sym (param_none s a.at w k q (past s (a.at + k) 61 (omega arith) (omega arith))))

pub returns-then-s-name_end-ne61 : goal.returns-then-s-name_end-ne61
returns-then-s-name_end-ne61 c =
    let a = c.args in
    let s = a.s.now in
    let other = c.if-s-name_end-ne61.true in
    ok_upto a.at (word 41 (drop a.at s)) c.read_word.ensures c.in_ok-name_end.was (λ w k q h.
    sym (param_none s a.at w k q (λ e. other (ap (λ (i : ℕ). get_or s i 0) h ∙ e))))

pub returns : goal.returns
returns c =
    let a = c.args in
    let s = a.s.now in
    let same = c.if-s-name_end-ne61.false in
    let r = c.read_values.ensures in
    ok_upto a.at (word 41 (drop a.at s)) c.read_word.ensures c.in_ok-name_end.was (λ w k q h.
    r ∙ ap (λ (i : ℕ). place (i + 1) (values (drop (i + 1) s))) h
    ∙ sym (param_values s a.at w k q (ap (λ (i : ℕ). get_or s i 0) (sym h) ∙ same)))
