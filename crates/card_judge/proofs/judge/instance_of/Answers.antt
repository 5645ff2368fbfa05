-- `card_judge::judge::instance_of` meets its contract. Assumes nothing.
use borrow.Author.Rules.{rules}
use borrow.Author.Tests.{not-true, not-false}
use mathlib.Core.Path.{◌≡◌, refl, ap, subst}
use Rattle.std.specs.Prelude.{Option, Some, None}
use Rattle.line_parameters.specs.declared.Span.{Span}
use mathlib.Core.Option.{none}
use mathlib.Core.List.{List}
use Prim.Native.Nat.{ℕ}
use native.Mathlib.Omega.{arith}
use lib.Dec.{eqb}
use Rattle.octets.specs.Pick.{pick}
use Rattle.line_parameters.specs.First.{First, first}
use Rattle.line_parameters.specs.First.{Nothing}
use Rattle.card_line.specs.Parts.{altid_name, first_value}
use Rattle.card_judge.specs.Judge.{Spans}
use Rattle.card_judge.proofs.SettleLaws.{found_once, told_none, told_first, told_again}
use Rattle.card_judge.proofs.judge.instance_of.Goals as goal

none_first : (f : Option Span) → ((x : Span) → f ≡ Some x → ⊥) → first f ≡ Nothing
none_first (Some x) h = absurd (h x refl)
none_first None h = refl

found : (s : List ℕ) (k : ℕ) (g f : First) → Spans g s (pick (eqb k 0) none (first_value altid_name s)) → g ≡ f → Spans f s (pick (eqb k 0) none (first_value altid_name s))
found s k g f h e = subst (λ (x : First). Spans x s (pick (eqb k 0) none (first_value altid_name s))) e h

pub returns-then-again : goal.returns-then-again
returns-then-again c =
    rw c.if-again.true at (told_none c.args.c c.args.store.now c.args.s.now c.args.k _ c.args.again c.requires.k_le_singles.1 (found c.args.s.now c.args.k (first c.args.f) Nothing c.requires.spans (none_first c.args.f c.in_default.not-Some)))

pub returns-else-again : goal.returns-else-again
returns-else-again c =
    rw c.if-again.false at (told_none c.args.c c.args.store.now c.args.s.now c.args.k _ c.args.again c.requires.k_le_singles.1 (found c.args.s.now c.args.k (first c.args.f) Nothing c.requires.spans (none_first c.args.f c.in_default.not-Some)))

pub returns-then-not-again : goal.returns-then-not-again
returns-then-not-again c =
    let there = found c.args.s.now c.args.k (first c.args.f) _ c.requires.spans (ap first c.in-Some.is) in
    let h = there in
    told_first c.args.c c.args.store.now c.args.s.now c.args.k _ c.args.again c.requires.k_le_singles.1 _ _ h.0 h.1
    (not-true c.args.again c.if-not-again.true-raw) h.2

pub slice_bounds-is_kept-count : goal.slice_bounds-is_kept-count
slice_bounds-is_kept-count c =
    let there = found c.args.s.now c.args.k (first c.args.f) _ c.requires.spans (ap first c.in-Some.is) in
    let h = there in omega (arith, h.0)

pub slice_bounds-is_kept-start : goal.slice_bounds-is_kept-start
slice_bounds-is_kept-start c =
    let there = found c.args.s.now c.args.k (first c.args.f) _ c.requires.spans (ap first c.in-Some.is) in
    let h = there in search (rules, h.0, h.1)

pub slice_bounds-is_kept-end : goal.slice_bounds-is_kept-end
slice_bounds-is_kept-end c =
    let there = found c.args.s.now c.args.k (first c.args.f) _ c.requires.spans (ap first c.in-Some.is) in
    let h = there in search (rules, h.0, h.1)

pub is_kept-requires : goal.is_kept-requires
is_kept-requires c =
    let there = found c.args.s.now c.args.k (first c.args.f) _ c.requires.spans (ap first c.in-Some.is) in
    let h = there in
    let stored = c.requires.stored in
    record { k_nonzero = ((found_once c.args.k _ _ h.2).0, c.requires.k_le_singles.0); inside = rw stored.all stored.lies }

pub returns-then-is_kept : goal.returns-then-is_kept
returns-then-is_kept c =
    let there = found c.args.s.now c.args.k (first c.args.f) _ c.requires.spans (ap first c.in-Some.is) in
    let h = there in
    rw c.if-is_kept.true at (told_again c.args.c c.args.store.now c.args.s.now c.args.k _ c.args.again c.requires.k_le_singles.1 _ c.is_kept.result
    (not-false c.args.again c.if-not-again.false-raw) h.2 c.is_kept.ensures)

pub returns-else-is_kept : goal.returns-else-is_kept
returns-else-is_kept c =
    let there = found c.args.s.now c.args.k (first c.args.f) _ c.requires.spans (ap first c.in-Some.is) in
    let h = there in
    rw c.if-is_kept.false at (told_again c.args.c c.args.store.now c.args.s.now c.args.k _ c.args.again c.requires.k_le_singles.1 _ c.is_kept.result
    (not-false c.args.again c.if-not-again.false-raw) h.2 c.is_kept.ensures)
