-- Loops that copy to the start of a list or set all of it to 0: each turn and the end. Assumes nothing.
use Prim.Native.Nat.{ℕ, suc, ◌+◌, ◌<◌, ◌≤◌}
use mathlib.Core.Path.{◌≡◌, ◌∙◌}
use mathlib.Core.List.{List, ◌++◌, append-nil}
use native.Mathlib.Numerals.{add-one}
use native.Mathlib.Omega.{arith}
use lib.ListN.{length, get_or, take, drop, set, replicate, length-replicate, get_or-replicate}
use lib.Seq.{set_at, length-take-le, drop-cons, take-suc, append_snoc, take-length, take_all, drop-length}
use Rattle.octets.specs.Room.{overlay}

pub copy_step : (d s e : List ℕ) (j : ℕ) → j < length d → j < length s → e ≡ take j s ++ drop j d
    → set e j (get_or s j 0) ≡ take (j + 1) s ++ drop (j + 1) d
copy_step d s e j hd hs h =
    rw (h, drop-cons d j 0 hd)
    (set_at (take j s) (get_or d j 0) (drop (suc j) d) (get_or s j 0) j (length-take-le j s (omega arith))
    ∙ (rw (add-one, take-suc s j 0 hs, append_snoc)))

pub copy_done : (d s e : List ℕ) (j : ℕ) → length s ≤ j → j ≤ length s → e ≡ take j s ++ drop j d → e ≡ overlay s d
copy_done d s e j h k p = let q : j ≡ length s = omega arith in rw (q, take-length) at p

pub zero_step : (d e : List ℕ) (j : ℕ) → j < length d → e ≡ take j (replicate (length d) 0) ++ drop j d
    → set e j 0 ≡ take (j + 1) (replicate (length d) 0) ++ drop (j + 1) d
zero_step d e j hd h =
    let z : ◌≡◌ {A = ℕ} (get_or (replicate (length d) 0) j 0) 0 = get_or-replicate (length d) j 0 0 hd in
    rw z at (copy_step d (replicate (length d) 0) e j hd (rw length-replicate hd) h)

pub zero_done : (d e : List ℕ) (j : ℕ) → length d ≤ j → j ≤ length d → e ≡ take j (replicate (length d) 0) ++ drop j d → e ≡ replicate (length d) 0
zero_done d e j h k p =
    let q : j ≡ length d = omega arith in
    p ∙ rw (q, drop-length, append-nil, take_all {A = ℕ} (length d) (replicate (length d) 0) (rw length-replicate (omega arith)))
