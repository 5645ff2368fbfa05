-- `folder_line::folding::fold_line` meets its contract. Assumes nothing.
use mathlib.Core.Path.{◌≡◌, sym, ap, ◌∙◌}
use mathlib.Core.List.{List, [], ◌∷◌, ◌++◌, append-nil}
use Prim.Native.Nat.{ℕ, ◌+◌, ◌-◌, ◌≤◌, ◌<◌}
use native.Mathlib.Omega.{arith}
use lib.ListN.{length, take, drop, length-append, length-take, length-drop}
use lib.Seq.{take_all}
use borrow.Rule.Slice.PartMut.{put_mid}
use Rattle.octets.proofs.Writes.{Written, start, room, finish}
use Rattle.folder_line.specs.Pieces.{pieces, folded, first, Clean}
use Rattle.folder_line.proofs.Turns.{folded_from, turn_fits, turn_clean, turn, last_piece}
use Rattle.line_unfolding.proofs.PutLaws.{put_part}
use Rattle.folder_line.proofs.folding.fold_line.Goals as goal

-- the piece of a turn, with the fold behind it
abbrev P : List ℕ → ℕ → ℕ → List ℕ
P s a e = take (e - a) (drop a s) ++ (13 ∷ 10 ∷ 32 ∷ [])

len : (s : List ℕ) (a e : ℕ) → length (P s a e) ≡ length (take (e - a) (drop a s)) + 3
len s a e = length-append (take (e - a) (drop a s)) (13 ∷ 10 ∷ 32 ∷ [])

-- a turn that cuts at e
module _ (s d₀ d : List ℕ) (a w r e : ℕ) (clean : Clean (drop a s)) (four : 4 ≤ r) (more : r < length s - a) (q : e ≡ a + length (first (drop a s) r))
    (z : Written (folded s) (folded_from (drop a s) r) d₀ d w) (fit : length (folded s) ≤ length d₀) where
  roomy : w + length (P s a e) ≤ length d
  roomy = omega (arith, room z fit, ap length (turn s a r e clean four more q) ∙ length-append (P s a e) (folded_from (drop e s) 74))

-- what is left behind the loop, with the line's end
abbrev L : List ℕ → ℕ → List ℕ
L s a = take (length s - a) (drop a s)

abbrev Q : List ℕ → ℕ → List ℕ
Q s a = L s a ++ (13 ∷ 10 ∷ [])

last_len : (s : List ℕ) (a : ℕ) → length (Q s a) ≡ length (L s a) + 2
last_len s a = length-append (L s a) (13 ∷ 10 ∷ [])

module _ (s : List ℕ) (a r : ℕ) (clean : Clean (drop a s)) (less : length s - a ≤ r) where
  last : folded_from (drop a s) r ≡ Q s a ++ []
  last =
      let d : length (drop a s) ≤ r = rw (length-drop a s) less in
      let t : take (length s - a) (drop a s) ≡ drop a s = take_all (length s - a) (drop a s) (rw (length-drop a s) (omega arith)) in
      last_piece (drop a s) r clean d ∙ ap (λ (x : List ℕ). x ++ (13 ∷ 10 ∷ [])) (sym t) ∙ sym (append-nil (Q s a))

  last_roomy : (d₀ d : List ℕ) (w : ℕ) → Written (folded s) (folded_from (drop a s) r) d₀ d w → length (folded s) ≤ length d₀ → w + length (Q s a) ≤ length d
  last_roomy d₀ d w z fit = omega (arith, room z fit, ap length (last ∙ append-nil (Q s a)))

pub loop-room-init : goal.loop-room-init
unfolding folded pieces
loop-room-init c = (omega arith, c.requires.0, omega arith, omega arith, start _ _)

pub slice_bounds-put_cut-end : goal.slice_bounds-put_cut-end
slice_bounds-put_cut-end c =
    let s = c.args.s.now in
    let l = c.loop-room in
    let e = c.cut-e.result in
    let four : 4 ≤ l.room = omega arith in
    let f = turn_fits s l.a l.room e l.invariant.1 four c.loop-room-test.true c.cut-e.ensures in
    omega arith

pub put_cut-n-requires : goal.put_cut-n-requires
put_cut-n-requires c =
    let s = c.args.s.now in
    let l = c.loop-room in
    let e = c.cut-e.result in
    let four : 4 ≤ l.room = omega arith in
    let r = roomy s c.args.d.now l.d l.a l.w l.room e l.invariant.1 four c.loop-room-test.true c.cut-e.ensures l.invariant.4 c.requires.1 in
    simp (length-take, length-drop) (omega (arith, r, len s l.a e))

pub loop-room-smaller : goal.loop-room-smaller
loop-room-smaller c =
    let s = c.args.s.now in
    let l = c.loop-room in
    let e = c.cut-e.result in
    let four : 4 ≤ l.room = omega arith in
    let f = turn_fits s l.a l.room e l.invariant.1 four c.loop-room-test.true c.cut-e.ensures in
    omega arith

pub loop-room-preserved : goal.loop-room-preserved
loop-room-preserved c =
    let p = c.put_cut-n in
    let s = c.args.s.now in
    let l = c.loop-room in
    let e = c.cut-e.result in
    let four : 4 ≤ l.room = omega arith in
    let f = turn_fits s l.a l.room e l.invariant.1 four c.loop-room-test.true c.cut-e.ensures in
    let r = roomy s c.args.d.now l.d l.a l.w l.room e l.invariant.1 four c.loop-room-test.true c.cut-e.ensures l.invariant.4 c.requires.1 in
    let same : p.result ≡ length (P s l.a e) = p.ensures.0 ∙ sym (len s l.a e) in (
      omega arith,
      turn_clean s l.a l.room e l.invariant.1 four c.loop-room-test.true c.cut-e.ensures,
      omega arith,
      omega arith,
      rw same (put_part l.invariant.4 (P s l.a e) (folded_from (drop e s) 74) _ (turn s l.a l.room e l.invariant.1 four c.loop-room-test.true c.cut-e.ensures) r p.ensures.1),
    )

pub put_last-n-requires : goal.put_last-n-requires
put_last-n-requires c =
    let s = c.args.s.now in
    let l = c.loop-room in
    let r = last_roomy s l.a l.room l.invariant.1 c.loop-room-test.false c.args.d.now l.d l.w l.invariant.4 c.requires.1 in
    simp (length-take, length-drop) (omega (arith, r, last_len s l.a))

pub shape_of-d : goal.shape_of-d
shape_of-d c =
    let s = c.args.s.now in
    let l = c.loop-room in
    let r = last_roomy s l.a l.room l.invariant.1 c.loop-room-test.false c.args.d.now l.d l.w l.invariant.4 c.requires.1 in
    let p = c.put_last-n in
    let same : p.result ≡ length (Q s l.a) = p.ensures.0 ∙ sym (last_len s l.a) in
    let whole : Written (folded s) [] c.args.d.now (put_mid l.w (length l.d - l.w) l.d p.new.d) (l.w + p.result) = rw same (put_part l.invariant.4 (Q s l.a) [] _ (last s l.a l.room l.invariant.1 c.loop-room-test.false) r p.ensures.1) in
    whole.same

pub returns : goal.returns
returns c =
    let s = c.args.s.now in
    let l = c.loop-room in
    let r = last_roomy s l.a l.room l.invariant.1 c.loop-room-test.false c.args.d.now l.d l.w l.invariant.4 c.requires.1 in
    let p = c.put_last-n in
    let same : p.result ≡ length (Q s l.a) = p.ensures.0 ∙ sym (last_len s l.a) in
    let whole : Written (folded s) [] c.args.d.now (put_mid l.w (length l.d - l.w) l.d p.new.d) (l.w + p.result) = rw same (put_part l.invariant.4 (Q s l.a) [] _ (last s l.a l.room l.invariant.1 c.loop-room-test.false) r p.ensures.1) in
    let f = finish whole in
    (f.0, f.1 ∙ rw f.0)
