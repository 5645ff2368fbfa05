-- A buffer that holds octets at its front: octets put behind them, and what lies behind them cleared. Assumes nothing.
use Prim.Native.Nat.{ℕ, zero, suc, ◌+◌, ◌-◌, ◌≤◌}
use mathlib.Core.Path.{◌≡◌, refl, sym, ap, ◌∙◌}
use mathlib.Core.List.{List, ◌++◌, append_assoc}
use native.Mathlib.Omega.{arith}
use lib.ListN.{length, take, drop, replicate, length-append, length-drop, length-replicate, replicate-append-replicate}
use lib.Seq.{length-take-le, take-append_seam, drop-append-add, drop-drop, drop-nil}
use borrow.Rule.Slice.PartMut.{put_mid}
use Rattle.desk_pool.specs.Pools.{patch}
use Rattle.watch_buffer.specs.Buffer.{padded}

drop_replicate : (n m : ℕ) → drop {A = ℕ} m (replicate n 0) ≡ replicate (n - m) 0
drop_replicate zero m = let z : 0 - m ≡ 0 = omega arith in rw z (drop-nil m)
drop_replicate (suc n) zero = let z : suc n - 0 ≡ suc n = omega arith in rw z
drop_replicate (suc n) (suc m) = let z : suc n - suc m ≡ n - m = omega arith in rw z (drop_replicate n m)

-- a part that was zeroed is back
pub put_cleared : (p e : List ℕ) (a to : ℕ) → a ≤ to → to ≤ length p → e ≡ replicate (length (take (to - a) (drop a p))) 0
    → put_mid a (to - a) p e ≡ patch p a (replicate (to - a) 0)
unfolding patch
put_cleared p e a to h g w =
    let k : length (take (to - a) (drop a p)) ≡ to - a = length-take-le (to - a) (drop a p) (rw length-drop (omega arith)) in
    let y : e ≡ replicate (to - a) 0 = rw k at w in
    rw (y, length-replicate {A = ℕ} (to - a) 0)

pub padded_length : (u : List ℕ) → length u ≤ 16384 → length (padded u) ≡ 16384
unfolding padded
padded_length u h = rw (length-append u (replicate (16384 - length u) 0), length-replicate {A = ℕ} (16384 - length u) 0) (omega arith)

pub padded_front : (u : List ℕ) → take (length u) (padded u) ≡ u
unfolding padded
padded_front u = take-append_seam u (replicate (16384 - length u) 0)

-- behind the octets it is 0
pub padded_rest : (u : List ℕ) (n : ℕ) → length u ≤ n → drop n (padded u) ≡ replicate (16384 - n) 0
unfolding padded
padded_rest u n h =
    let e : length u + (n - length u) ≡ n = omega arith in
    let d : 16384 - length u - (n - length u) ≡ 16384 - n = omega arith in
    ap (λ (m : ℕ). drop m (u ++ replicate (16384 - length u) 0)) (sym e)
    ∙ drop-append-add u (replicate (16384 - length u) 0) (n - length u)
    ∙ drop_replicate (16384 - length u) (n - length u)
    ∙ ap (λ (m : ℕ). replicate m 0) d

is : (u : List ℕ) → padded u ≡ u ++ replicate (16384 - length u) 0
unfolding padded
is u = refl

-- octets are put behind those that it holds
pub append_padded : (u x : List ℕ) → length u + length x ≤ 16384 → patch (padded u) (length u) x ≡ padded (u ++ x)
unfolding patch
append_padded u x h =
    let d : drop (length x) (drop (length u) (padded u)) ≡ replicate (16384 - (length u + length x)) 0 =
    drop-drop (length x) (length u) (padded u) ∙ padded_rest u (length u + length x) (omega arith) in
    let same : (u ++ x) ++ replicate (16384 - (length u + length x)) 0 ≡ padded (u ++ x) =
    ap (λ (m : ℕ). (u ++ x) ++ replicate (16384 - m) 0) (sym (length-append u x)) ∙ sym (is (u ++ x)) in
    rw (padded_front u, d) (sym (append_assoc u x (replicate (16384 - (length u + length x)) 0)) ∙ same)

-- what lies behind the octets that it is to hold is cleared up to a place from which on it is 0
pub clear_padded : (b u : List ℕ) (to : ℕ) → length u ≤ to → to ≤ 16384 → take (length u) b ≡ u → drop to b ≡ replicate (16384 - to) 0
    → patch b (length u) (replicate (to - length u) 0) ≡ padded u
unfolding patch padded
clear_padded b u to h g f r =
    let n : length (replicate {A = ℕ} (to - length u) 0) ≡ to - length u = length-replicate (to - length u) 0 in
    let e : length u + (to - length u) ≡ to = omega arith in
    let d : drop (to - length u) (drop (length u) b) ≡ replicate (16384 - to) 0 = drop-drop (to - length u) (length u) b ∙ ap (λ (m : ℕ). drop m b) e ∙ r in
    let s : to - length u + (16384 - to) ≡ 16384 - length u = omega arith in
    rw (f, n, d, replicate-append-replicate {A = ℕ} (to - length u) (16384 - to) 0, s)
