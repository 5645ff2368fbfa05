-- What a state keeps at the front of the scratch when a line was judged behind it, and octets moved down. Assumes nothing.
use mathlib.Core.Path.{◌≡◌, refl, sym, ap, subst, ◌∙◌}
use mathlib.Core.Bool.{Bool, true, false}
use mathlib.Core.List.{List, [], ◌∷◌, ◌++◌, append-nil, append_assoc}
use Prim.Native.Nat.{ℕ, suc, ◌+◌, ◌-◌, ◌<◌, ◌≤◌}
use native.Mathlib.Numerals.{add-one}
use native.Mathlib.Omega.{arith}
use lib.Dec.{eqb}
use lib.ListN.{length, get_or, take, drop, set, length-drop, length-append, take-append-drop, drop_of_length-le}
use lib.Seq.{take-append-le, take-append_seam, drop-append_seam, drop-append-le, drop-append-add, length-take-le, take_all, drop-cons, get_or-drop, drop-drop}
use borrow.Rule.Slice.PartMut.{put_mid}
use Rattle.std.specs.List.{copy_within}
use Rattle.octets.specs.Pick.{pick}
use Rattle.octets.specs.Room.{overlay}
use Rattle.octets.proofs.Writes.{Written, finish}
use Rattle.octets.proofs.PieceLaws.{put_one}
use Rattle.card_state.specs.State.{Card}
use Rattle.card_state.specs.Kept.{Lies, card_of, step_of}
use Rattle.card_state.specs.declared.Card.{Card as Kept}
use Rattle.card_state.proofs.KeptLaws.{card_front, step_front}
use Rattle.property_table.specs.declared.Edition.{Edition}
use Rattle.card_judge.specs.Judge.{part, read_by, judge_line, Keeping}
use Rattle.card_judge.specs.declared.judge.Judgement.{Judgement}
use Rattle.card_judge.proofs.SettleLaws.{part_size}
use Rattle.line_folds.specs.Folds.{unfolded}
use Rattle.line_folds.proofs.FoldLaws.{unfold_shorter}
use Rattle.reader_walk.specs.Walk.{behind, added_of, Left}

-- a part that was lent from a place on is back
pub put_behind : (p q e : List ℕ) (a : ℕ) → a ≤ length p → e ≡ overlay q (take (length p - a) (drop a p)) → put_mid a (length p - a) p e ≡ behind a q p
unfolding behind
put_behind p q e a h w =
    let k : length (drop a p) ≤ length p - a = rw length-drop (omega arith) in
    let x : take (length p - a) (drop a p) ≡ drop a p = take_all (length p - a) (drop a p) k in
    let y : drop (length p - a) (drop a p) ≡ [] = drop_of_length-le (drop a p) k in
    let z : e ≡ overlay q (drop a p) = rw x at w in
    rw (z, y, append-nil)

pub behind_none : (a : ℕ) (p : List ℕ) → behind a [] p ≡ p
unfolding behind
behind_none a p = take-append-drop a p

-- what was laid behind the first octets stands there
pub behind_front : (a : ℕ) (q p : List ℕ) → a ≤ length p → take (a + length q) (behind a q p) ≡ take a p ++ q
unfolding behind
behind_front a q p h =
    let n : length (take a p) ≡ a = length-take-le a p h in
    let m : length (take a p ++ q) ≡ a + length q = length-append (take a p) q ∙ ap (λ (k : ℕ). k + length q) n in
    rw (← m, ← append_assoc (take a p) q (drop (length q) (drop a p))) (take-append_seam (take a p ++ q) (drop (length q) (drop a p)))

pub behind_before : (a : ℕ) (q p : List ℕ) → a ≤ length p → take a (behind a q p) ≡ take a p
unfolding behind
behind_before a q p h =
    let n : length (take a p) ≡ a = length-take-le a p h in
    ap (λ (k : ℕ). take k (take a p ++ overlay q (drop a p))) (sym n) ∙ take-append_seam (take a p) (overlay q (drop a p))

pub behind_after : (a : ℕ) (q p : List ℕ) → a ≤ length p → drop a (behind a q p) ≡ overlay q (drop a p)
unfolding behind
behind_after a q p h =
    let n : length (take a p) ≡ a = length-take-le a p h in
    ap (λ (k : ℕ). drop k (take a p ++ overlay q (drop a p))) (sym n) ∙ drop-append_seam (take a p) (overlay q (drop a p))

-- what lies behind the octets that were laid stays
pub behind_past : (a n : ℕ) (q p : List ℕ) → a ≤ length p → length q ≤ n → drop (a + n) (behind a q p) ≡ drop (a + n) p
behind_past a n q p h g =
    let k : length q + (n - length q) ≡ n = omega arith in
    sym (drop-drop n a (behind a q p))
    ∙ ap (drop n) (behind_after a q p h)
    ∙ ap (λ (m : ℕ). drop m (overlay q (drop a p))) (sym k)
    ∙ drop-append-add q (drop (length q) (drop a p)) (n - length q)
    ∙ drop-drop (n - length q) (length q) (drop a p)
    ∙ ap (λ (m : ℕ). drop m (drop a p)) k
    ∙ drop-drop n a p

-- a line l was judged with the front of p as store, and what is to be kept of it was laid behind the front
module _ (ed : Edition) (c : Kept) (p q l : List ℕ) (j : Judgement) (at : ℕ) (lies : Lies c) (room : c.used ≤ length p) (added : List ℕ) (keeps : Keeping c l added j)
    (judged : read_by j (take c.used p) l ≡ judge_line ed (card_of c (take c.used p)) at l) (laid : q ≡ behind c.used (part j.from j.to l) p) where
  size : length (part j.from j.to l) ≡ j.to - j.from
  size = part_size j.from j.to l keeps.order keeps.inside

  front : take (c.used + (j.to - j.from)) q ≡ take (c.used + (j.to - j.from)) (take c.used p ++ part j.from j.to l)
  front =
      let n : length (take c.used p ++ part j.from j.to l) ≡ c.used + (j.to - j.from) =
      length-append (take c.used p) (part j.from j.to l) ∙ ap (λ (k : ℕ). k + length (part j.from j.to l)) (length-take-le c.used p room)
      ∙ ap (λ (k : ℕ). c.used + k) size in
      ap (take (c.used + (j.to - j.from))) laid
      ∙ ap (λ (k : ℕ). take (c.used + k) (behind c.used (part j.from j.to l) p)) (sym size)
      ∙ behind_front c.used (part j.from j.to l) p room
      ∙ sym (take_all (c.used + (j.to - j.from)) (take c.used p ++ part j.from j.to l) (omega (arith, n)))

  pub span_judged : step_of q j.step ≡ judge_line ed (card_of c p) at l
  unfolding read_by
  span_judged =
      step_front j.step (c.used + (j.to - j.from)) q (take c.used p ++ part j.from j.to l) keeps.holds front
      ∙ judged
      ∙ ap (λ (k : _). judge_line ed k at l) (card_front c (take c.used p) p lies (take_all c.used (take c.used p) (omega (arith, length-take-le c.used p room))))

-- the line that was unfolded behind the front of p
module _ (c : Kept) (p l : List ℕ) (n : ℕ) (lies : Lies c) (room : c.used + length l ≤ length p) (size : n ≡ length l) where
  abbrev laid : List ℕ
  laid = behind c.used l p

  within : c.used ≤ length p
  within = omega arith

  front_long : length (take c.used p) ≡ c.used
  front_long = length-take-le c.used p within

  buffer_is : take (c.used + n) laid ≡ take c.used p ++ l
  buffer_is = ap (λ (k : ℕ). take (c.used + k) laid) size ∙ behind_front c.used l p within

  pub store_is : take c.used (take (c.used + n) laid) ≡ take c.used laid
  store_is =
      ap (take c.used) buffer_is
      ∙ ap (λ (k : ℕ). take k (take c.used p ++ l)) (sym front_long)
      ∙ take-append_seam (take c.used p) l
      ∙ sym (behind_before c.used l p within)

  pub line_is : drop c.used (take (c.used + n) laid) ≡ l
  line_is =
      ap (drop c.used) buffer_is
      ∙ ap (λ (k : ℕ). drop k (take c.used p ++ l)) (sym front_long)
      ∙ drop-append_seam (take c.used p) l

  pub laid_length : length laid ≡ length p
  unfolding behind
  laid_length =
      length-append (take c.used p) (overlay l (drop c.used p))
      ∙ simp (length-append, length-drop) (omega (arith, front_long, length-drop c.used p, length-drop (length l) (drop c.used p)))

  -- a part of the line, where it stands
  moved : (from to : ℕ) → from ≤ to → to ≤ length l → take (to - from) (drop (c.used + from) laid) ≡ part from to l
  moved from to g h =
      let there : drop (c.used + from) laid ≡ drop from (overlay l (drop c.used p)) =
      sym (drop-drop from c.used laid) ∙ ap (drop from) (behind_after c.used l p within) in
      ap (take (to - from)) (there ∙ drop-append-le from l (drop (length l) (drop c.used p)) (omega arith))
      ∙ take-append-le (to - from) (drop from l) (drop (length l) (drop c.used p)) (rw length-drop (omega arith))

-- the line at hand, l: s itself, or laid behind the front of p
module _ (c : Kept) (p s l : List ℕ) (lies : Lies c) (room : c.used + length l ≤ length p) where
  abbrev hand : Bool → List ℕ
  hand folded = pick folded l []

  pub hand_room : (folded : Bool) → c.used + length (hand folded) ≤ length p
  hand_room true = room
  hand_room false = omega arith

  pub hand_line : (folded : Bool) → (folded ≡ false → l ≡ s)
      → pick folded (drop c.used (take (c.used + length (hand folded)) (behind c.used (hand folded) p))) s ≡ l
  hand_line true e = line_is c p l (length l) lies room refl
  hand_line false e = sym (e refl)

  hand_part : (folded : Bool) → (folded ≡ false → l ≡ s) → (from to : ℕ) → from ≤ to → to ≤ length l
      → part from to (pick folded (drop c.used (behind c.used (hand folded) p)) s) ≡ part from to l
  hand_part true e from to g h = ap (take (to - from)) (drop-drop from c.used (behind c.used l p)) ∙ moved c p l (length l) lies room refl from to g h
  hand_part false e from to g h = ap (part from to) (sym (e refl))

  pub hand_judged : (ed : Edition) (folded : Bool) → (folded ≡ false → l ≡ s) → (j : Judgement) (at : ℕ) (q added : List ℕ) → Keeping c l added j
      → read_by j (take c.used (behind c.used (hand folded) p)) l ≡ judge_line ed (card_of c (take c.used (behind c.used (hand folded) p))) at l
      → q ≡ behind c.used (part j.from j.to (pick folded (drop c.used (behind c.used (hand folded) p)) s)) (behind c.used (hand folded) p)
      → step_of q j.step ≡ judge_line ed (card_of c p) at l
  hand_judged ed folded e j at q added keeps judged there =
      let y = hand folded in
      let laid = behind c.used y p in
      span_judged ed c laid q l j at lies (omega (arith, hand_room folded, laid_length c p y (length y) lies (hand_room folded) refl)) added keeps judged
      (there ∙ ap (λ (x : List ℕ). behind c.used x laid) (hand_part folded e j.from j.to keeps.order keeps.inside))
      ∙ ap (λ (x : Card). judge_line ed x at l) (card_front c laid p lies (behind_before c.used y p (omega (arith, hand_room folded))))

  -- what the scratch holds then
  pub hand_left : (ed : Edition) (folded : Bool) → (folded ≡ false → l ≡ s) → l ≡ unfolded s → (j : Judgement) (q : List ℕ) → Keeping c l (added_of ed c s) j
      → q ≡ behind c.used (part j.from j.to (pick folded (drop c.used (behind c.used (hand folded) p)) s)) (behind c.used (hand folded) p)
      → Left ed c s p q j.step
  hand_left ed folded e u j q keeps there =
      let y = hand folded in
      let laid = behind c.used y p in
      let room' : c.used ≤ length p = omega (arith, hand_room folded) in
      let long : length laid ≡ length p = laid_length c p y (length y) lies (hand_room folded) refl in
      let x = part j.from j.to l in
      let size : length x ≡ j.to - j.from = part_size j.from j.to l keeps.order keeps.inside in
      let is : q ≡ behind c.used x laid = there ∙ ap (λ (z : List ℕ). behind c.used z laid) (hand_part folded e j.from j.to keeps.order keeps.inside) in
      let fits : length l ≤ length s = rw u (unfold_shorter s) in
      let hands : length y ≤ length s = pick_shorter folded fits in
      record {
        front = λ d z.
            subst (λ (w : List ℕ). take (c.used + length w) q ≡ take c.used p ++ w) (keeps.adds d z)
            (ap (take (c.used + length x)) is ∙ behind_front c.used x laid (omega (arith, long)) ∙ ap (λ (w : List ℕ). w ++ x) (behind_before c.used y p room'));
        short = λ d z. omega (arith, ap length (keeps.adds d z), size, keeps.inside, fits);
        counts = λ d z. subst (λ (n : ℕ). d.used ≡ pick (eqb d.phase 0) 0 n) (omega (arith, ap length (keeps.adds d z), size)) (keeps.counts d z);
        rest = ap (drop (c.used + length s)) is
            ∙ behind_past c.used (length s) x laid (omega (arith, long)) (omega (arith, size, keeps.inside, fits))
            ∙ behind_past c.used (length s) y p room' hands;
      }
    where
      pick_shorter : (f : Bool) → length l ≤ length s → length (pick f l []) ≤ length s
      pick_shorter true h = h
      pick_shorter false h = omega arith

-- n octets moved down
pub moved_down : (d : List ℕ) (to from n : ℕ) → from + n ≤ length d → copy_within d from (from + n) to ≡ behind to (take n (drop from d)) d
unfolding behind
moved_down d to from n h =
    let k : from + n - from ≡ n = omega arith in
    let size : length (take n (drop from d)) ≡ n = length-take-le n (drop from d) (rw length-drop (omega arith)) in
    rw k (append_assoc (take to d) (take n (drop from d)) (drop (to + n) d) ∙ rw (size, drop-drop n to d))

-- octets moved down one after the other
module _ (b₀ : List ℕ) (to from n : ℕ) (down : to ≤ from) (room : from + n ≤ length b₀) where
  abbrev whole : List ℕ
  whole = take to b₀ ++ take n (drop from b₀)

  abbrev Moved : List ℕ → ℕ → Type 0
  Moved b i = Written whole (take (n - i) (drop (from + i) b₀)) b₀ b (to + i)

  pub move_start : Moved b₀ 0
  move_start =
      let a : n - 0 ≡ n = omega arith in
      let e : from + 0 ≡ from = omega arith in
      let f : to + 0 ≡ to = omega arith in
      rw (a, e, f) (record { done = refl; left = refl; same = refl; inside = omega arith })

  pub move_turn : (b : List ℕ) (i : ℕ) → i < n → Moved b i → Moved (set b (to + i) (get_or b (from + i) 0)) (i + 1)
  move_turn b i h m =
      let there : (to + i) + (from - to) ≡ from + i = omega arith in
      let read : get_or b (from + i) 0 ≡ get_or b₀ (from + i) 0 =
      ap (λ (k : ℕ). get_or b k 0) (sym there)
      ∙ sym (get_or-drop (to + i) b (from - to) 0)
      ∙ ap (λ (x : List ℕ). get_or x (from - to) 0) m.left
      ∙ get_or-drop (to + i) b₀ (from - to) 0
      ∙ ap (λ (k : ℕ). get_or b₀ k 0) there in
      let less : n - i ≡ suc (n - (i + 1)) = omega arith in
      let on : suc (from + i) ≡ from + (i + 1) = omega arith in
      let rest : take (n - i) (drop (from + i) b₀) ≡ (get_or b (from + i) 0 ∷ []) ++ take (n - (i + 1)) (drop (from + (i + 1)) b₀) =
      ap (λ (x : List ℕ). take (n - i) x) (drop-cons b₀ (from + i) 0 (omega arith))
      ∙ ap (λ (k : ℕ). take k (get_or b₀ (from + i) 0 ∷ drop (suc (from + i)) b₀)) less
      ∙ rw (on, read) in
      let fits : length whole ≤ length b₀ = rw (length-append (take to b₀) (take n (drop from b₀)), length-take-le to b₀ (omega arith), length-take-le n (drop from b₀) (rw length-drop (omega arith))) (omega arith) in
      let up : to + i + 1 ≡ to + (i + 1) = omega arith in
      rw (← up) (put_one m fits (take (n - (i + 1)) (drop (from + (i + 1)) b₀)) (get_or b (from + i) 0) rest)

  pub move_end : (b : List ℕ) (i : ℕ) → n ≤ i → i ≤ n → Moved b i → b ≡ behind to (take n (drop from b₀)) b₀
  unfolding behind
  move_end b i g h m =
      let all : i ≡ n = omega arith in
      let none : n - n ≡ 0 = omega arith in
      let last : Written whole [] b₀ b (to + n) = rw (all, none) at m in
      let f = finish last in
      let size : length (take n (drop from b₀)) ≡ n = length-take-le n (drop from b₀) (rw length-drop (omega arith)) in
      f.1 ∙ append_assoc (take to b₀) (take n (drop from b₀)) (drop (to + n) b₀)
      ∙ rw (size, drop-drop n to b₀)
