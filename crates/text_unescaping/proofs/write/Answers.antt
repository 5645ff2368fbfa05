-- `text_unescaping::write` meets its contract. Assumes nothing.
use borrow.Author.Rules.{rules}
use mathlib.Core.Path.{◌≡◌, sym, ap, ◌∙◌}
use mathlib.Core.List.{List, [], ◌∷◌, ◌++◌}
use Prim.Native.Nat.{ℕ, ◌≤◌, ◌<◌, ◌+◌}
use native.Mathlib.Nat.{zero-add}
use native.Mathlib.Omega.{arith}
use lib.ListN.{length, drop, get_or}
use Rattle.octets.proofs.Writes.{start}
use Rattle.text_unescaping.specs.Unescaped.{meant, first_fault, unescaped}
use Rattle.text_unescaping.proofs.UnescapeLaws.{escape_not, escape_inside, whole_escape, on_escape, on_octet, unescaped_escape, unescaped_octet, unescaped_end}
use Rattle.octets.proofs.PieceLaws.{one_room, put_one, all_written}
use Rattle.text_unescaping.proofs.write.Goals as goal

-- an escape is written next
escape_next : (s : List ℕ) (i : ℕ) → i < length s → i + first_fault (drop i s) ≡ length s → get_or s i 0 ≡ 92
    → unescaped (drop i s) ≡ (meant (get_or s (i + 1) 0) ∷ []) ++ unescaped (drop (i + 2) s)
escape_next s i h f e = unescaped_escape s i h (whole_escape s i h f e)

-- it stands whole
escape_whole : (s : List ℕ) (i : ℕ) → i < length s → i + first_fault (drop i s) ≡ length s → get_or s i 0 ≡ 92 → i + 2 ≤ length s
escape_whole s i h f e = escape_inside s i (whole_escape s i h f e)

-- any other octet is written next
octet_next : (s : List ℕ) (i : ℕ) → i < length s → (get_or s i 0 ≡ 92 → ⊥)
    → unescaped (drop i s) ≡ (get_or s i 0 ∷ []) ++ unescaped (drop (i + 1) s)
octet_next s i h e = unescaped_octet s i h (escape_not s i e)

pub loop-i-init : goal.loop-i-init
loop-i-init c = (search rules, zero-add _ ∙ c.requires.text_value, start (unescaped c.args.text.now) c.args.out.now)

pub overflow_add-i : goal.overflow_add-i
overflow_add-i c =
    let inside = escape_whole c.args.text.now c.loop-i.i c.loop-i-test.true c.loop-i.invariant.1 c.if-text-i-eq92.true in
    omega (arith, inside)

pub bounds-text-i-then-text-i-eq92 : goal.bounds-text-i-then-text-i-eq92
bounds-text-i-then-text-i-eq92 c =
    let inside = escape_whole c.args.text.now c.loop-i.i c.loop-i-test.true c.loop-i.invariant.1 c.if-text-i-eq92.true in
    omega (arith, inside)

pub bounds-out-j : goal.bounds-out-j
bounds-out-j c =
    let room_for_escape : c.loop-i.j + 1 ≤ length c.loop-i.out = one_room c.loop-i.invariant.2 c.requires.text_in_bounds _ _ (escape_next c.args.text.now c.loop-i.i c.loop-i-test.true c.loop-i.invariant.1 c.if-text-i-eq92.true) in
    omega (arith, room_for_escape)

pub overflow_add-j : goal.overflow_add-j
overflow_add-j c =
    let room_for_escape : c.loop-i.j + 1 ≤ length c.loop-i.out = one_room c.loop-i.invariant.2 c.requires.text_in_bounds _ _ (escape_next c.args.text.now c.loop-i.i c.loop-i-test.true c.loop-i.invariant.1 c.if-text-i-eq92.true) in
    omega (arith, room_for_escape, c.loop-i.invariant.2.same)

pub overflow_add-i-then-text-i-eq92 : goal.overflow_add-i-then-text-i-eq92
overflow_add-i-then-text-i-eq92 c =
    let inside = escape_whole c.args.text.now c.loop-i.i c.loop-i-test.true c.loop-i.invariant.1 c.if-text-i-eq92.true in
    omega (arith, inside)

pub loop-i-smaller-then-text-i-eq92 : goal.loop-i-smaller-then-text-i-eq92
loop-i-smaller-then-text-i-eq92 c =
    let inside = escape_whole c.args.text.now c.loop-i.i c.loop-i-test.true c.loop-i.invariant.1 c.if-text-i-eq92.true in
    omega (arith, inside)

pub loop-i-preserved-then-text-i-eq92 : goal.loop-i-preserved-then-text-i-eq92
loop-i-preserved-then-text-i-eq92 c =
    let inside = escape_whole c.args.text.now c.loop-i.i c.loop-i-test.true c.loop-i.invariant.1 c.if-text-i-eq92.true in
    let s = c.args.text.now in
    let l = c.loop-i in
    let e = escape_next s l.i c.loop-i-test.true l.invariant.1 c.if-text-i-eq92.true ∙ ap (λ (b : ℕ). (b ∷ []) ++ unescaped (drop (l.i + 2) s)) (sym c.meant_by.ensures) in
    (inside, on_escape s l.i c.loop-i-test.true l.invariant.1 c.if-text-i-eq92.true, put_one l.invariant.2 c.requires.text_in_bounds (unescaped (drop (l.i + 2) s)) c.meant_by.result e)

pub bounds-out-j-else-text-i-eq92 : goal.bounds-out-j-else-text-i-eq92
bounds-out-j-else-text-i-eq92 c =
    let room_for_octet : c.loop-i.j + 1 ≤ length c.loop-i.out = one_room c.loop-i.invariant.2 c.requires.text_in_bounds _ _ (octet_next c.args.text.now c.loop-i.i c.loop-i-test.true c.if-text-i-eq92.false) in
    omega (arith, room_for_octet)

pub overflow_add-j-else-text-i-eq92 : goal.overflow_add-j-else-text-i-eq92
overflow_add-j-else-text-i-eq92 c =
    let room_for_octet : c.loop-i.j + 1 ≤ length c.loop-i.out = one_room c.loop-i.invariant.2 c.requires.text_in_bounds _ _ (octet_next c.args.text.now c.loop-i.i c.loop-i-test.true c.if-text-i-eq92.false) in
    omega (arith, room_for_octet, c.loop-i.invariant.2.same)

pub loop-i-preserved : goal.loop-i-preserved
loop-i-preserved c =
    let s = c.args.text.now in
    let l = c.loop-i in
    (omega arith, on_octet s l.i c.loop-i-test.true l.invariant.1 c.if-text-i-eq92.false, put_one l.invariant.2 c.requires.text_in_bounds (unescaped (drop (l.i + 1) s)) (get_or s l.i 0) (octet_next c.args.text.now c.loop-i.i c.loop-i-test.true c.if-text-i-eq92.false))

pub shape_of-out : goal.shape_of-out
shape_of-out c = c.loop-i.invariant.2.same

pub returns : goal.returns
returns c = all_written c.loop-i.invariant.2 (unescaped_end c.args.text.now c.loop-i.i c.loop-i-test.false)
