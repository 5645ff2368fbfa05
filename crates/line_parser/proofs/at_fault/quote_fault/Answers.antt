-- `line_parser::at_fault::quote_fault` meets its contract. Assumes nothing.
use native.Mathlib.Omega.{arith}
use mathlib.Core.Path.{sym, ap, ◌∙◌}
use Prim.Native.Nat.{ℕ, ◌<◌}
use lib.ListN.{length}
use Rattle.line_parser.specs.AtFault.{quote_by}
use Rattle.line_parser.proofs.FaultSteps.{inside, quote_past, quote_in, quote_bare, quote_followed, quote_open}
use borrow.Author.Rules.{rules}
use Rattle.line_parser.proofs.at_fault.quote_fault.Goals as goal

pub returns-then-s-name_end : goal.returns-then-s-name_end
returns-then-s-name_end c = quote_past c.args.s.now c.args.name_end c.if-s-name_end.true

pub returns-then-octet_at-ne34 : goal.returns-then-octet_at-ne34
returns-then-octet_at-ne34 c =
    let a = c.args in
    quote_bare a.s.now _ (λ e. c.if-octet_at-ne34.true (c.octet_at.ensures ∙ e))
    ∙ ap (λ (k : ℕ). quote_by k a.s.now) c.value_from-start.ensures ∙ sym (quote_in a.s.now a.name_end c.if-s-name_end.false)

pub overflow_add-start : goal.overflow_add-start
overflow_add-start c =
    let start_inside : c.value_from-start.result < length c.args.s.now = inside c.args.s.now c.value_from-start.result 34 (omega arith) (sym c.octet_at.ensures ∙ c.if-octet_at-ne34.false) in
    search (rules, start_inside)

pub span-requires : goal.span-requires
span-requires c =
    let start_inside : c.value_from-start.result < length c.args.s.now = inside c.args.s.now c.value_from-start.result 34 (omega arith) (sym c.octet_at.ensures ∙ c.if-octet_at-ne34.false) in
    search (rules, start_inside)

pub returns-then-span-s : goal.returns-then-span-s
returns-then-span-s c =
    let a = c.args in
    quote_followed a.s.now _ (sym c.octet_at.ensures ∙ c.if-octet_at-ne34.false) c.span.ensures.value c.if-span-s.true
    ∙ ap (λ (k : ℕ). quote_by k a.s.now) c.value_from-start.ensures ∙ sym (quote_in a.s.now a.name_end c.if-s-name_end.false)

pub returns : goal.returns
returns c =
    let a = c.args in
    quote_open a.s.now _ (sym c.octet_at.ensures ∙ c.if-octet_at-ne34.false) c.span.ensures.value c.if-span-s.false
    ∙ ap (λ (k : ℕ). quote_by k a.s.now) c.value_from-start.ensures ∙ sym (quote_in a.s.now a.name_end c.if-s-name_end.false)
