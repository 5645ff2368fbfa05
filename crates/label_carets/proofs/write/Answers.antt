-- `label_carets::write` meets its contract. Assumes nothing.
use borrow.Author.Rules.{rules}
use mathlib.Core.Path.{◌≡◌, sym, ap, ◌∙◌}
use mathlib.Core.Bool.{true}
use mathlib.Core.List.{[], ◌∷◌, ◌++◌}
use Prim.Native.Nat.{ℕ, ◌≤◌, ◌+◌}
use native.Mathlib.Omega.{arith}
use lib.ListN.{length, drop, get_or}
use Rattle.octets.proofs.Writes.{start, finish}
use Rattle.octets.proofs.PieceLaws.{one_room, put_one, all_written}
use Rattle.label_carets.specs.Decoded.{pair_at, decoded}
use Rattle.label_carets.specs.declared.Rule.TheVariants.{Rfc6868}
use Rattle.label_carets.proofs.PairLaws.{pair_inside, decoded_pair, decoded_octet, decoded_end}
use Rattle.label_carets.proofs.write.Goals as goal

pub loop-i-init : goal.loop-i-init
loop-i-init c = (search rules, start (decoded Rfc6868 c.args.label.now) c.args.out.now)

pub overflow_add-i : goal.overflow_add-i
overflow_add-i c =
    let paired : pair_at Rfc6868 (drop c.loop-i.i c.args.label.now) ≡ true = sym c.pair_at.ensures ∙ c.if-pair_at.true in
    let inside : c.loop-i.i + 2 ≤ length c.args.label.now = pair_inside c.args.label.now c.loop-i.i paired in
    omega (arith, inside)

pub bounds-label-i : goal.bounds-label-i
bounds-label-i c =
    let paired : pair_at Rfc6868 (drop c.loop-i.i c.args.label.now) ≡ true = sym c.pair_at.ensures ∙ c.if-pair_at.true in
    let inside : c.loop-i.i + 2 ≤ length c.args.label.now = pair_inside c.args.label.now c.loop-i.i paired in
    omega (arith, inside)

pub bounds-out-j : goal.bounds-out-j
bounds-out-j c =
    let room_for_pair : c.loop-i.j + 1 ≤ length c.loop-i.out = one_room c.loop-i.invariant.1 c.requires _ _ (decoded_pair c.args.label.now c.loop-i.i c.loop-i-test.true (sym c.pair_at.ensures ∙ c.if-pair_at.true)) in
    omega (arith, room_for_pair)

pub overflow_add-j : goal.overflow_add-j
overflow_add-j c =
    let room_for_pair : c.loop-i.j + 1 ≤ length c.loop-i.out = one_room c.loop-i.invariant.1 c.requires _ _ (decoded_pair c.args.label.now c.loop-i.i c.loop-i-test.true (sym c.pair_at.ensures ∙ c.if-pair_at.true)) in
    omega (arith, room_for_pair, c.loop-i.invariant.1.same)

pub overflow_add-i-then-pair_at : goal.overflow_add-i-then-pair_at
overflow_add-i-then-pair_at c =
    let paired : pair_at Rfc6868 (drop c.loop-i.i c.args.label.now) ≡ true = sym c.pair_at.ensures ∙ c.if-pair_at.true in
    let inside : c.loop-i.i + 2 ≤ length c.args.label.now = pair_inside c.args.label.now c.loop-i.i paired in
    omega (arith, inside)

pub loop-i-smaller-then-pair_at : goal.loop-i-smaller-then-pair_at
loop-i-smaller-then-pair_at c =
    let paired : pair_at Rfc6868 (drop c.loop-i.i c.args.label.now) ≡ true = sym c.pair_at.ensures ∙ c.if-pair_at.true in
    let inside : c.loop-i.i + 2 ≤ length c.args.label.now = pair_inside c.args.label.now c.loop-i.i paired in
    omega (arith, inside)

pub loop-i-preserved-then-pair_at : goal.loop-i-preserved-then-pair_at
loop-i-preserved-then-pair_at c =
    let paired : pair_at Rfc6868 (drop c.loop-i.i c.args.label.now) ≡ true = sym c.pair_at.ensures ∙ c.if-pair_at.true in
    let inside : c.loop-i.i + 2 ≤ length c.args.label.now = pair_inside c.args.label.now c.loop-i.i paired in
    let s = c.args.label.now in
    let e = decoded_pair s c.loop-i.i c.loop-i-test.true paired ∙ ap (λ (b : ℕ). (b ∷ []) ++ decoded Rfc6868 (drop (c.loop-i.i + 2) s)) (sym c.meant_by.ensures) in
    (inside, put_one c.loop-i.invariant.1 c.requires (decoded Rfc6868 (drop (c.loop-i.i + 2) s)) c.meant_by.result e)

pub bounds-out-j-else-pair_at : goal.bounds-out-j-else-pair_at
bounds-out-j-else-pair_at c =
    let room_for_octet : c.loop-i.j + 1 ≤ length c.loop-i.out = one_room c.loop-i.invariant.1 c.requires _ _ (decoded_octet c.args.label.now c.loop-i.i c.loop-i-test.true (sym c.pair_at.ensures ∙ c.if-pair_at.false)) in
    omega (arith, room_for_octet)

pub overflow_add-j-else-pair_at : goal.overflow_add-j-else-pair_at
overflow_add-j-else-pair_at c =
    let room_for_octet : c.loop-i.j + 1 ≤ length c.loop-i.out = one_room c.loop-i.invariant.1 c.requires _ _ (decoded_octet c.args.label.now c.loop-i.i c.loop-i-test.true (sym c.pair_at.ensures ∙ c.if-pair_at.false)) in
    omega (arith, room_for_octet, c.loop-i.invariant.1.same)

pub loop-i-preserved : goal.loop-i-preserved
loop-i-preserved c =
    let s = c.args.label.now in
    (omega arith, put_one c.loop-i.invariant.1 c.requires (decoded Rfc6868 (drop (c.loop-i.i + 1) s)) (get_or s c.loop-i.i 0) (decoded_octet c.args.label.now c.loop-i.i c.loop-i-test.true (sym c.pair_at.ensures ∙ c.if-pair_at.false)))

pub shape_of-out : goal.shape_of-out
shape_of-out c = c.loop-i.invariant.1.same

pub returns : goal.returns
returns c =
    let e = decoded_end c.args.label.now c.loop-i.i c.loop-i-test.false in
    record { out_after = all_written c.loop-i.invariant.1 e; value = (finish (rw e at c.loop-i.invariant.1)).0 }
