-- `line_parameters::param_first` meets its contract. Assumes nothing.
use Rattle.line_parser.proofs.Steps.{ok_upto, place_fault, not_upto, past}
use Rattle.line_parameters.proofs.FirstSteps.{NameEnd, first_none, first_bad, name_end_lem, first_hit, first_on}
use Rattle.line_parameters.specs.First.{find_first}
use Rattle.line_parser.specs.Parse.{got}
use Rattle.line_parser.specs.Grammar.{Param}
use Rattle.line_parser.specs.Rule.{param}
use Rattle.std.specs.Prelude.{Result, Ok}
use Rattle.numbers.specs.declared.refusal.Reason.{Reason}
use Rattle.line_parser.specs.Places.{place, upto}
use Rattle.octets.specs.Classes.{run, has, name_mask}
use mathlib.Core.List.{List}
use lib.ListN.{length, drop, length-drop}
use native.Mathlib.Omega.{arith}
use Prim.Native.Nat.{ℕ, suc, ◌+◌, ◌-◌}
use mathlib.Core.Path.{◌≡◌, sym, ap, ◌∙◌, refl}
use borrow.Author.Rules.{rules}
use Rattle.line_parameters.proofs.param_first.Goals as goal

-- after a parameter that was read, and the end of its name
taken : {C : Type 0} (s : List ℕ) (at : ℕ) {r : Result ℕ Reason} {j e : ℕ} → upto r ≡ place at (param (drop at s)) → r ≡ Ok j
    → e ≡ at + run (has name_mask) (drop at s)
    → ((p : Param) (k : ℕ) → param (drop at s) ≡ got p k → j ≡ at + k → NameEnd s at p e → C) → C
taken s at {r} {j} {e} h u g f = ok_upto at (param (drop at s)) h u (λ p k q i. f p k q i (name_end_lem s at p k e q g))

pub loop-at-init : goal.loop-at-init
loop-at-init c =
    let a = c.args in
    (suc (length (drop a.from a.s.now)), rw length-drop (omega arith), refl)

pub returns-then-s-at-ne59 : goal.returns-then-s-at-ne59
returns-then-s-at-ne59 c =
    let a = c.args in
    let l = c.loop-at in
    sym (l.invariant.2 ∙ first_none a.name.now a.s.now l.at l.invariant.0 c.if-s-at-ne59.true)

pub returns-in_default : goal.returns-in_default
returns-in_default c =
    let a = c.args in
    let s = a.s.now in
    let l = c.loop-at in
    place_fault (l.at + 1) (param (drop (l.at + 1) s)) c.read_param.ensures (not_upto c.read_param.result c.in_default.not-Ok) (λ x q.
    sym (l.invariant.2 ∙ first_bad a.name.now s l.at l.invariant.0 x c.if-s-at-ne59.false q))

pub value_span-requires : goal.value_span-requires
value_span-requires c =
    taken c.args.s.now (c.loop-at.at + 1) c.read_param.ensures c.in-Ok.is c.span-name_end.ensures.value (λ p k q h w.
    let i = w.within_line in
    record { classes = search rules; at_in_bounds = search rules })

pub returns-then-same_name : goal.returns-then-same_name
returns-then-same_name c =
    let s = c.args.s.now in
    let l = c.loop-at in
    let found = sym c.same_name.ensures ∙ c.if-same_name.true in
    taken s (l.at + 1) c.read_param.ensures c.in-Ok.is c.span-name_end.ensures.value (λ p k q h w.
    c.value_span.ensures ∙ sym (l.invariant.2
    ∙ first_hit _ s l.at l.invariant.0 (omega arith) c.if-s-at-ne59.false p k q c.span-name_end.result w found))

pub loop-at-smaller : goal.loop-at-smaller
loop-at-smaller c =
    let lt = c.loop-at-test.true in
    taken c.args.s.now (c.loop-at.at + 1) c.read_param.ensures c.in-Ok.is c.span-name_end.ensures.value (λ p k q h w. omega arith)

pub loop-at-preserved : goal.loop-at-preserved
loop-at-preserved c =
    let s = c.args.s.now in
    let l = c.loop-at in
    let lt = c.loop-at-test.true in
    let other = sym c.same_name.ensures ∙ c.if-same_name.false in
    taken s (l.at + 1) c.read_param.ensures c.in-Ok.is c.span-name_end.ensures.value (λ p k q h w. (
      l.invariant.0 - 1,
      omega arith,
      l.invariant.2 ∙ first_on _ s l.at l.invariant.0 (omega arith) c.if-s-at-ne59.false p k q c.span-name_end.result w other
          ∙ ap (λ (i : ℕ). find_first c.args.name.now i (l.invariant.0 - 1) (drop i s)) (sym h),
    ))

pub returns : goal.returns
returns c =
    let a = c.args in
    let s = a.s.now in
    let l = c.loop-at in
    sym (l.invariant.2 ∙ first_none a.name.now s l.at l.invariant.0 (past s l.at 59 (omega arith) c.loop-at-test.false))
