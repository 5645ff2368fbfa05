-- `line_parser::rule::read_head` meets its contract. Assumes nothing.
use Rattle.std.proofs.lemmas.Result.{err_from_is_err_and}
use Rattle.line_parser.proofs.Steps.{ok_first, ok_upto, err_up, past, head_bad, head_plain, head_bad_name, head_grouped}
use Rattle.line_parser.specs.Places.{Named}
use Rattle.line_parser.specs.Rule.{word}
use lib.ListN.{drop}
use native.Mathlib.Omega.{arith}
use Prim.Native.Nat.{◌+◌}
use mathlib.Core.Path.{sym, ap, ◌∙◌}
use Rattle.line_parser.proofs.rule.read_head.Goals as goal

pub returns-in_err-end : goal.returns-in_err-end
returns-in_err-end c =
    let s = c.args.s.now in
    let p = err_from_is_err_and c.from_residual.result c.from_residual.ensures.1 in
    rw (p.1, p.2) (err_up 0 (word 40 s) c.read_word.ensures c.in_err-end.was (λ x q. head_bad s x q))

pub returns-then-s-end : goal.returns-then-s-end
returns-then-s-end c =
    let s = c.args.s.now in
    let n = c.in_ok-end.end in
    let over = c.if-s-end.true in
    ok_first (word 40 s) c.read_word.ensures c.in_ok-end.was (λ w q.
    sym (head_plain s w n q (past s n 46 (omega arith) over)))

pub returns-then-s-end-ne46 : goal.returns-then-s-end-ne46
returns-then-s-end-ne46 c =
    let s = c.args.s.now in
    ok_first (word 40 s) c.read_word.ensures c.in_ok-end.was (λ w q.
    sym (head_plain s w c.in_ok-end.end q c.if-s-end-ne46.true))

pub returns-in_err-name_end : goal.returns-in_err-name_end
returns-in_err-name_end c =
    let s = c.args.s.now in
    let n = c.in_ok-end.end in
    ok_first (word 40 s) c.read_word.ensures c.in_ok-end.was (λ w q.
    let p = err_from_is_err_and c.from_residual-in_err-name_end.result c.from_residual-in_err-name_end.ensures.1 in
    rw (p.1, p.2) (err_up (n + 1) (word 40 (drop (n + 1) s)) c.read_word-2.ensures c.in_err-name_end.was (λ x p.
    head_bad_name s w n q x c.if-s-end-ne46.false p)))

pub returns : goal.returns
returns c =
    let s = c.args.s.now in
    let n = c.in_ok-end.end in
    ok_first (word 40 s) c.read_word.ensures c.in_ok-end.was (λ w q.
    ok_upto (n + 1) (word 40 (drop (n + 1) s)) c.read_word-2.ensures c.in_ok-name_end.was (λ b i p g.
    ap (Named n) g ∙ sym (head_grouped s w n q b i c.if-s-end-ne46.false p)))
