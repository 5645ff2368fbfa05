-- What a room holds after one reading, and after one more. Assumes nothing.
use Prim.Native.Nat.{ℕ, ◌+◌, ◌-◌, ◌≤◌}
use mathlib.Core.Path.{◌≡◌, sym, ap, subst, ◌∙◌}
use mathlib.Core.List.{List, [], ◌++◌, append-nil}
use native.Mathlib.Omega.{arith}
use lib.ListN.{length, take, drop, length-take, length-append, length-drop, drop_of_length-le}
use lib.Seq.{length-take-le, take_all, drop-drop, drop-append_seam}
use borrow.Rule.Slice.PartMut.{put_mid}
use Rattle.octets.specs.Room.{overlay}
use Rattle.program_files.specs.Inputs.{FilledTo}

pub take_fits : (n : ℕ) (page old : List ℕ) → n ≤ length old → length (take n page) ≤ length old
take_fits n page old h = omega (arith, length-take n page, h)

-- the first n octets of a page at the start of a room
pub filled_over : (page old new : List ℕ) (n : ℕ) → n ≤ length page → n ≤ length old → new ≡ overlay (take n page) old → FilledTo n old new
filled_over page old new n h g e =
    let l : length (take n page) ≡ n = length-take-le n page h in
    let s : drop (length (take n page)) (overlay (take n page) old) ≡ drop (length (take n page)) old = drop-append_seam (take n page) (drop (length (take n page)) old) in
    rw e (g, length-append (take n page) (drop (length (take n page)) old) ∙ rw (length-drop, l) (omega arith), subst (λ (j : ℕ). drop j (overlay (take n page) old) ≡ drop j old) l s)

-- a room of which n octets were filled, and then k more
pub filled_on : (old room part : List ℕ) (n k : ℕ) → n ≤ length room → FilledTo n old room → FilledTo k (take (length room - n) (drop n room)) part
    → FilledTo (n + k) old (put_mid n (length room - n) room part)
filled_on old room part n k h (a, b, c) (x, y, z) =
    let f : length (drop n room) ≤ length room - n = rw length-drop (omega arith) in
    let whole : take (length room - n) (drop n room) ≡ drop n room = take_all (length room - n) (drop n room) f in
    let none : drop (length room - n) (drop n room) ≡ [] = drop_of_length-le (drop n room) f in
    let long : length (drop n room) ≡ length room - n = length-drop n room in
    let seam : length (take n room) ≡ n = length-take-le n room h in
    let same : put_mid n (length room - n) room part ≡ take n room ++ part = rw (none, append-nil) in
    let size : length part ≡ length room - n = y ∙ ap length whole ∙ long in
    let end : k ≤ length room - n = rw (whole, long) at x in
    let past : drop n (take n room ++ part) ≡ part = ap (λ (m : ℕ). drop m (take n room ++ part)) (sym seam) ∙ drop-append_seam (take n room) part in
    let rest : drop k part ≡ drop k (drop n room) = z ∙ ap (drop k) whole in
    rw same (
      omega arith,
      length-append (take n room) part ∙ omega arith,
      sym (drop-drop k n (take n room ++ part)) ∙ ap (drop k) past ∙ rest ∙ ap (drop k) c ∙ drop-drop k n old,
    )

-- and then none
pub filled_end : (old room part : List ℕ) (n k : ℕ) → n ≤ length room → FilledTo n old room → FilledTo k (take (length room - n) (drop n room)) part
    → k ≡ 0 → FilledTo n old (put_mid n (length room - n) room part)
filled_end old room part n k h f g e =
    let s : n + k ≡ n = omega arith in
    subst (λ (j : ℕ). FilledTo j old (put_mid n (length room - n) room part)) s (filled_on old room part n k h f g)
