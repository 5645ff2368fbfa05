-- `version3_text::marks::has_mark` meets its contract. Assumes nothing.
use mathlib.Core.Path.{◌≡◌, sym, ap, ◌∙◌}
use mathlib.Core.List.{List}
use Prim.Native.Nat.{ℕ, ◌+◌, ◌-◌, ◌<◌, ◌≤◌}
use native.Mathlib.Omega.{arith}
use mathlib.Core.Bool.{true}
use lib.ListN.{length, get_or, take, drop, length-take, length-drop}
use Rattle.std.proofs.lemmas.List.{get_or-take, get_or-drop}
use Rattle.version3_text.specs.Renewed.{unmarked}
use borrow.Author.Count.{below_none, below_more}
use borrow.Author.Tests.{not-false, eqb-true}
use Rattle.version3_text.proofs.MarkLaws.{looked}
use Rattle.version3_text.proofs.marks.has_mark.Goals as goal

pub loop-b-init : goal.loop-b-init
loop-b-init c = λ z. below_none _

-- an octet of the sixteen, in the text
octet : (s : List ℕ) (i k : ℕ) → k < length (take (i + 16 - i) (drop i s)) → get_or (take (i + 16 - i) (drop i s)) k 0 ≡ get_or s (i + k) 0
octet s i k h = get_or-take (i + 16 - i) (drop i s) k 0 (omega (arith, length-take (i + 16 - i) (drop i s))) ∙ get_or-drop i s k 0

sixteen : (s : List ℕ) (i : ℕ) → i + 16 ≤ length s → length (take (i + 16 - i) (drop i s)) ≡ 16
sixteen s i h = simp (length-take, length-drop) (omega arith)

pub loop-b-preserved : goal.loop-b-preserved
loop-b-preserved c =
    let a = c.args in
    let l = c.loop-b in
    let e = octet a.s.now a.i l.b-index c.loop-b-test.true in
    let look = looked _ l.hit in
    λ z. below_more (λ (m : ℕ). unmarked (get_or a.s.now (a.i + m) 0) ≡ true) l.b-index (l.invariant (look z).0) (ap unmarked (sym e) ∙ (look z).1)

pub returns : goal.returns
returns c = λ e m h. c.loop-b.invariant (eqb-true c.loop-b.hit 0 (not-false _ e)) m (omega (arith, sixteen c.args.s.now c.args.i c.requires, c.loop-b-test.false))
