-- What a slice holds when a part of it that was copied over or zeroed is back. Assumes nothing.
use Prim.Native.Nat.{ℕ, ◌+◌, ◌-◌, ◌≤◌}
use mathlib.Core.Path.{◌≡◌, refl, sym, ap, ◌∙◌}
use mathlib.Core.List.{List, [], append-nil}
use native.Mathlib.Omega.{arith}
use lib.ListN.{length, take, drop, replicate, length-replicate, length-drop, drop_of_length-le}
use lib.Seq.{length-take-le, take_all}
use borrow.Rule.Slice.PartMut.{put_mid}
use Rattle.octets.specs.Room.{overlay}
use Rattle.desk_pool.specs.Pools.{patch, zeros}

pub part_size : (a h : ℕ) → a + h - a ≡ h
part_size a h = omega arith

pub put_copied : (p q e : List ℕ) (a : ℕ) → a + length q ≤ length p → e ≡ overlay q (take (length p - a) (drop a p)) → put_mid a (length p - a) p e ≡ patch p a q
unfolding patch
put_copied p q e a h w =
    let k : length (drop a p) ≤ length p - a = rw length-drop (omega arith) in
    let x : take (length p - a) (drop a p) ≡ drop a p = take_all (length p - a) (drop a p) k in
    let y : drop (length p - a) (drop a p) ≡ [] = drop_of_length-le (drop a p) k in
    let z : e ≡ overlay q (drop a p) = rw x at w in
    rw (z, y, append-nil)

pub put_zeroed : (p e : List ℕ) (a n : ℕ) → a + n ≤ length p → e ≡ replicate (length (take (a + n - a) (drop a p))) 0
    → (z : List ℕ) → replicate n 0 ≡ z → put_mid a (a + n - a) p e ≡ patch p a z
unfolding patch
put_zeroed p e a n h w z v =
    let k : n ≤ length (drop a p) = rw length-drop (omega arith) in
    let x : length (take (a + n - a) (drop a p)) ≡ n = rw part_size (length-take-le n (drop a p) k) in
    let y : e ≡ z = (rw x at w) ∙ v in
    let l : length z ≡ n = sym (ap length v) ∙ length-replicate n 0 in
    rw (y, part_size, l)

pub zeros_are : replicate 16384 0 ≡ zeros
unfolding zeros
zeros_are = refl

pub zeros_length : length zeros ≡ 16384
zeros_length = sym (ap length zeros_are) ∙ length-replicate {A = ℕ} 16384 0
