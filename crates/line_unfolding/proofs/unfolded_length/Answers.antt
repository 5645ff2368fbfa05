-- `line_unfolding::unfolded_length` meets its contract. Assumes nothing.
use borrow.Author.Rules.{rules}
use mathlib.Core.Path.{◌≡◌, sym, ap, ◌∙◌}
use mathlib.Core.List.{List}
use mathlib.Core.Bool.{Bool, true, false}
use Prim.Native.Nat.{ℕ, ◌≤◌, ◌+◌, ◌*◌}
use native.Mathlib.Nat.{zero-add}
use native.Mathlib.Omega.{arith}
use lib.ListN.{length, drop}
use Rattle.octets.specs.Classes.{bit}
use Rattle.line_folds.specs.Folds.{fold_at, unfolded}
use Rattle.line_folds.proofs.FoldLaws.{fold_three}
use Rattle.line_unfolding.proofs.CountLaws.{fold_count, count_step, count_short, count_law}
use Rattle.line_unfolding.proofs.unfolded_length.Goals as goal

-- the bit of this turn is at most 1, and counts the fold here
small : (l : List ℕ) (n : ℕ) → n ≡ bit (fold_at l) 1 → n ≤ 1
small l n e = rw e (by (fold_at l))
  where
    by : (t : Bool) → bit t 1 ≤ 1
    by true = omega arith
    by false = omega arith

pub returns-then-s-lt-FOLD_LENGTH : goal.returns-then-s-lt-FOLD_LENGTH
returns-then-s-lt-FOLD_LENGTH c = omega (arith, count_law c.args.s.now, count_short c.args.s.now 0 (omega arith))

pub loop-i-init : goal.loop-i-init
loop-i-init c = (omega arith, search rules, search rules, sym (zero-add _))

pub overflow_cast-folds : goal.overflow_cast-folds
overflow_cast-folds c =
    let here : c.fold_bit.result ≡ bit (fold_at (drop c.loop-i.i c.args.s.now)) 1 = c.fold_bit.ensures ∙ ap (λ (t : Bool). bit t 1) (fold_three c.args.s.now c.loop-i.i) in
    let mark : c.fold_bit.result ≤ 1 = small (drop c.loop-i.i c.args.s.now) c.fold_bit.result here in
    omega (arith, mark)

pub overflow_add-folds : goal.overflow_add-folds
overflow_add-folds c =
    let here : c.fold_bit.result ≡ bit (fold_at (drop c.loop-i.i c.args.s.now)) 1 = c.fold_bit.ensures ∙ ap (λ (t : Bool). bit t 1) (fold_three c.args.s.now c.loop-i.i) in
    let mark : c.fold_bit.result ≤ 1 = small (drop c.loop-i.i c.args.s.now) c.fold_bit.result here in
    omega (arith, mark)

pub loop-i-preserved : goal.loop-i-preserved
loop-i-preserved c =
    let here : c.fold_bit.result ≡ bit (fold_at (drop c.loop-i.i c.args.s.now)) 1 = c.fold_bit.ensures ∙ ap (λ (t : Bool). bit t 1) (fold_three c.args.s.now c.loop-i.i) in
    let mark : c.fold_bit.result ≤ 1 = small (drop c.loop-i.i c.args.s.now) c.fold_bit.result here in
    let one : fold_count (drop c.loop-i.i c.args.s.now) ≡ c.fold_bit.result + fold_count (drop (c.loop-i.i + 1) c.args.s.now) = count_step c.args.s.now c.loop-i.i c.fold_bit.result (omega arith) here in
    (c.loop-i.invariant.0, omega arith, omega (arith, mark), omega (arith, c.loop-i.invariant.3, one))

pub overflow_cast-result : goal.overflow_cast-result
overflow_cast-result c = omega arith

pub overflow_mul-result : goal.overflow_mul-result
overflow_mul-result c = omega arith

pub overflow_sub-result : goal.overflow_sub-result
overflow_sub-result c =
    let total : length (unfolded c.args.s.now) + 3 * c.loop-i.folds ≡ length c.args.s.now =
    let s = c.args.s.now in
    let l = c.loop-i in
    omega (arith, count_law s, l.invariant.3, count_short s l.i (omega arith)) in
    omega (arith, total)

pub returns : goal.returns
returns c =
    let total : length (unfolded c.args.s.now) + 3 * c.loop-i.folds ≡ length c.args.s.now =
    let s = c.args.s.now in
    let l = c.loop-i in
    omega (arith, count_law s, l.invariant.3, count_short s l.i (omega arith)) in
    omega (arith, total)
