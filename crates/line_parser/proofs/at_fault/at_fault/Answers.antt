-- `line_parser::at_fault::at_fault` meets its contract. Assumes nothing.
use mathlib.Core.Path.{sym, ap, ◌∙◌}
use mathlib.Core.Bool.{true, false}
use Prim.Native.Nat.{ℕ}
use Rattle.line_parser.specs.AtFault.{word_from, after_name, at_fault}
use Rattle.line_parser.specs.declared.at_fault.AtFault.{AtFault}
use Rattle.line_parser.proofs.FaultSteps.{after_none, after_other, after_param}
use Rattle.line_parser.proofs.at_fault.at_fault.Goals as goal

pub returns-then-name : goal.returns-then-name
unfolding at_fault
returns-then-name c =
    let s = c.args.s.now in
    let w = c.word_from-name.ensures ∙ ap (λ (k : ℕ). word_from false k s) c.name_from.ensures in
    after_none s _ c.if-name.true ∙ ap (λ (x : AtFault). after_name x s) w

pub returns-then-octet_at-ne59 : goal.returns-then-octet_at-ne59
unfolding at_fault
returns-then-octet_at-ne59 c =
    let s = c.args.s.now in
    let w = c.word_from-name.ensures ∙ ap (λ (k : ℕ). word_from false k s) c.name_from.ensures in
    after_other s _ c.if-name.false (λ e. c.if-octet_at-ne59.true (c.octet_at.ensures ∙ e)) ∙ ap (λ (x : AtFault). after_name x s) w

pub returns : goal.returns
unfolding at_fault
returns c =
    let s = c.args.s.now in
    let w = c.word_from-name.ensures ∙ ap (λ (k : ℕ). word_from false k s) c.name_from.ensures in
    c.word_from.ensures ∙ ap (λ (k : ℕ). word_from true k s) c.param_from.ensures
    ∙ after_param s _ c.if-name.false (sym c.octet_at.ensures ∙ c.if-octet_at-ne59.false) ∙ ap (λ (x : AtFault). after_name x s) w
