-- Laws of a list with a part of it replaced. Assumes nothing.
use Prim.Native.Nat.{ℕ, ◌+◌, ◌*◌, ◌-◌, ◌<◌, ◌≤◌}
use mathlib.Core.Path.{◌≡◌, refl, sym, ◌∙◌}
use mathlib.Core.Bool.{Bool, true, false}
use mathlib.Core.List.{List, ◌++◌, append_assoc}
use native.Mathlib.Omega.{arith}
use lib.Dec.{ltb}
use lib.ListN.{length, take, drop, length-append, length-drop, take-append-drop}
use lib.Seq.{length-take-le, drop-drop, take-append-le, drop-append-le, take-append-add, drop-append-add, drop_at, take-add, take-append_seam}
use borrow.Author.Tests.{ltb-true, ltb-false}
use Rattle.octets.specs.Room.{overlay}
use Rattle.desk_pool.specs.Pools.{patch}

prefix_part : (x y : List ℕ) (b h : ℕ) → b + h ≤ length x → take h (drop b (x ++ y)) ≡ take h (drop b x)
prefix_part x y b h k =
    let l : h ≤ length (drop b x) = rw length-drop (omega arith) in
    let m : b ≤ length x = omega arith in
    rw (drop-append-le b x y m) (take-append-le h (drop b x) y l)

patch_before : (p q : List ℕ) (a b h : ℕ) → b + h ≤ a → a ≤ length p → take h (drop b (patch p a q)) ≡ take h (drop b p)
unfolding patch
patch_before p q a b h k l =
    let n : b + h ≤ length (take a p) = rw (length-take-le a p l) k in
    let e : take h (drop b (take a p ++ drop a p)) ≡ take h (drop b (take a p)) = prefix_part (take a p) (drop a p) b h n in
    let f : take h (drop b p) ≡ take h (drop b (take a p)) = rw take-append-drop at e in
    prefix_part (take a p) (overlay q (drop a p)) b h n ∙ sym f

patch_after : (p q : List ℕ) (a b : ℕ) → a + length q ≤ b → a ≤ length p → drop b (patch p a q) ≡ drop b p
unfolding patch
patch_after p q a b k l =
    let n : length (take a p ++ q) ≡ a + length q = rw (length-append, length-take-le a p l) refl in
    let m : b ≡ length (take a p ++ q) + (b - (a + length q)) = rw n (omega arith) in
    let w : a + length q + (b - (a + length q)) ≡ b = omega arith in
    let e : drop (length (take a p ++ q) + (b - (a + length q))) ((take a p ++ q) ++ drop (length q) (drop a p)) ≡ drop (b - (a + length q)) (drop (length q) (drop a p)) = drop-append-add (take a p ++ q) (drop (length q) (drop a p)) (b - (a + length q)) in
    let f : drop (length q) (drop a p) ≡ drop (a + length q) p = drop-drop (length q) a p in
    let g : drop (b - (a + length q)) (drop (a + length q) p) ≡ drop (a + length q + (b - (a + length q))) p = drop-drop (b - (a + length q)) (a + length q) p in
    let h : drop (b - (a + length q)) (drop (a + length q) p) ≡ drop b p = rw w at g in
    let e' : drop b ((take a p ++ q) ++ drop (length q) (drop a p)) ≡ drop (b - (a + length q)) (drop (length q) (drop a p)) = rw (← m) at e in
    rw (← append_assoc) (e' ∙ rw f h)

-- what stood before the patch, and then the patch
pub patch_in : (p q : List ℕ) (b h : ℕ) → b + h ≤ length p → take (h + length q) (drop b (patch p (b + h) q)) ≡ take h (drop b p) ++ q
unfolding patch
patch_in p q b h k =
    let r : List ℕ = drop (length q) (drop (b + h) p) in
    let l : length (take b p) ≡ b = length-take-le b p (omega arith) in
    let m : length (take h (drop b p)) ≡ h = length-take-le h (drop b p) (rw length-drop (omega arith)) in
    let s : take (length (take h (drop b p)) + length q) (take h (drop b p) ++ (q ++ r)) ≡ take h (drop b p) ++ take (length q) (q ++ r) = take-append-add (take h (drop b p)) (q ++ r) (length q) in
    let s' : take (h + length q) (take h (drop b p) ++ (q ++ r)) ≡ take h (drop b p) ++ take (length q) (q ++ r) = rw m at s in
    rw (take-add b h p, append_assoc, drop_at (take b p) (take h (drop b p) ++ (q ++ r)) b l) (s' ∙ rw take-append_seam)

pub length_patch : (p q : List ℕ) (a : ℕ) → a + length q ≤ length p → length (patch p a q) ≡ length p
unfolding patch
length_patch p q a k = rw (length-append, length-append, length-drop, length-drop, length-take-le a p (omega arith)) (omega arith)

-- what another slot holds does not change
pub patch_other : (p q : List ℕ) (i j a h : ℕ) → (j ≡ i → ⊥) → i * 16384 ≤ a → a + length q ≤ i * 16384 + 16384 → a + length q ≤ length p → h ≤ 16384
    → take h (drop (j * 16384) (patch p a q)) ≡ take h (drop (j * 16384) p)
patch_other p q i j a h n low high fits small = go (ltb j i) refl
  where
    go : (t : Bool) → ltb j i ≡ t → take h (drop (j * 16384) (patch p a q)) ≡ take h (drop (j * 16384) p)
    go true e = let w : j < i = ltb-true j i e in patch_before p q a (j * 16384) h (omega arith) (omega arith)
    go false e = let w : i ≤ j = ltb-false j i e in rw (patch_after p q a (j * 16384) (omega arith) (omega arith))
