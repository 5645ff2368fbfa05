-- `merge_partners::class_of` meets its contract. Assumes nothing.
use borrow.Author.Tests.{lt-ltb, le-ltb}
use mathlib.Core.Path.{◌≡◌, refl, sym, ap, ◌∙◌}
use mathlib.Core.Bool.{true, false}
use mathlib.Core.List.{List}
use Prim.Native.Nat.{ℕ}
use native.Mathlib.Omega.{arith}
use lib.ListN.{get_or}
use Rattle.merge_sources.specs.Row.{none}
use Rattle.merge_sides.specs.Lines.{same_octets}
use Rattle.merge_sides.proofs.Walks.{left, over}
use Rattle.merge_partners.specs.Keys.{uri_of, class_from, class_of}
use Rattle.merge_partners.proofs.class_of.Goals as goal

pub loop-i-init : goal.loop-i-init
loop-i-init c = (refl)

pub returns-then-a-i : goal.returns-then-a-i
unfolding class_of class_from
returns-then-a-i c = record { value = sym (c.loop-i.invariant ∙ rw (left 16 c.loop-i.i c.loop-i-test.true, le-ltb c.loop-i.i c.args.a.count c.if-a-i.true)); upper_bound = omega arith }

pub returns-then-same_octets : goal.returns-then-same_octets
unfolding class_of class_from
returns-then-same_octets c =
    let e : same_octets (uri_of c.args.ca.now (get_or c.args.a.entries c.loop-i.i none)) c.args.uri.now ≡ true = ap (λ (u : List ℕ). same_octets u c.args.uri.now) (sym c.uri_of.ensures) ∙ sym c.same_octets.ensures ∙ c.if-same_octets.true in
    record { value = sym (c.loop-i.invariant ∙ rw (left 16 c.loop-i.i c.loop-i-test.true, lt-ltb c.loop-i.i c.args.a.count c.if-a-i.false, e)); upper_bound = omega arith }

pub loop-i-preserved : goal.loop-i-preserved
unfolding class_from
loop-i-preserved c =
    let e : same_octets (uri_of c.args.ca.now (get_or c.args.a.entries c.loop-i.i none)) c.args.uri.now ≡ false = ap (λ (u : List ℕ). same_octets u c.args.uri.now) (sym c.uri_of.ensures) ∙ sym c.same_octets.ensures ∙ c.if-same_octets.false in
    (c.loop-i.invariant ∙ rw (left 16 c.loop-i.i c.loop-i-test.true, lt-ltb c.loop-i.i c.args.a.count c.if-a-i.false, e))

pub returns : goal.returns
unfolding class_of class_from
returns c = record { value = sym (c.loop-i.invariant ∙ rw (over 16 c.loop-i.i c.loop-i-test.false)); upper_bound = omega arith }
