-- `merge_partners::same_uids` meets its contract. Assumes nothing.
use borrow.Author.Tests.{lt-ltb, le-ltb}
use mathlib.Core.Path.{◌≡◌, ap, ◌∙◌}
use mathlib.Core.List.{List}
use Prim.Native.Nat.{ℕ}
use native.Mathlib.Omega.{arith}
use Rattle.merge_sides.specs.Lines.{first_line, value_at, same_octets}
use Rattle.merge_partners.specs.Pairs.{same_uids}
use Rattle.merge_partners.proofs.same_uids.Goals as goal

pub returns-then-x-i : goal.returns-then-x-i
unfolding same_uids
returns-then-x-i c = rw (le-ltb (first_line c.args.x.now.records.now 31 0 c.args.x.now.lines) c.args.x.now.lines (omega (arith, c.if-x-i.true, c.find_line-i.ensures.value)))

pub returns-then-y-j : goal.returns-then-y-j
unfolding same_uids
returns-then-y-j c = rw (lt-ltb (first_line c.args.x.now.records.now 31 0 c.args.x.now.lines) c.args.x.now.lines (omega (arith, c.if-x-i.false, c.find_line-i.ensures.value)), le-ltb (first_line c.args.y.now.records.now 31 0 c.args.y.now.lines) c.args.y.now.lines (omega (arith, c.if-y-j.true, c.find_line-j.ensures.value)))

pub returns : goal.returns
unfolding same_uids
returns c =
    let x : c.value_of.result.now ≡ value_at c.args.x.now.copy.now c.args.x.now.records.now (first_line c.args.x.now.records.now 31 0 c.args.x.now.lines) = c.value_of.ensures.result_value ∙ ap (value_at c.args.x.now.copy.now c.args.x.now.records.now) c.find_line-i.ensures.value in
    let y : c.value_of-2.result.now ≡ value_at c.args.y.now.copy.now c.args.y.now.records.now (first_line c.args.y.now.records.now 31 0 c.args.y.now.lines) = c.value_of-2.ensures.result_value ∙ ap (value_at c.args.y.now.copy.now c.args.y.now.records.now) c.find_line-j.ensures.value in
    rw (lt-ltb (first_line c.args.x.now.records.now 31 0 c.args.x.now.lines) c.args.x.now.lines (omega (arith, c.if-x-i.false, c.find_line-i.ensures.value)), lt-ltb (first_line c.args.y.now.records.now 31 0 c.args.y.now.lines) c.args.y.now.lines (omega (arith, c.if-y-j.false, c.find_line-j.ensures.value)))
    (c.same_octets.ensures ∙ ap (λ (u : List ℕ). same_octets u c.value_of-2.result.now) x ∙ ap (same_octets (value_at c.args.x.now.copy.now c.args.x.now.records.now (first_line c.args.x.now.records.now 31 0 c.args.x.now.lines))) y)
