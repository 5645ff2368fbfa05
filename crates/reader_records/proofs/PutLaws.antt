-- A list d over which the first numbers of s were written from the place a on. Assumes nothing.
use mathlib.Core.Path.{◌≡◌, sym, ◌∙◌}
use mathlib.Core.List.{List, ◌++◌, append-nil, append_assoc}
use Prim.Native.Nat.{ℕ, suc, ◌+◌, ◌<◌}
use native.Mathlib.Nat.{add-zero}
use native.Mathlib.Numerals.{add-one}
use native.Mathlib.Omega.{arith}
use lib.ListN.{length, get_or, take, drop, set, length-append, take-append-drop}
use lib.Seq.{set_at, drop-cons, take-suc, length-take-le}

abbrev pub put : List ℕ → List ℕ → ℕ → ℕ → List ℕ
put d s a j = (take a d ++ take j s) ++ drop (a + j) d

pub put_none : (d s : List ℕ) (a : ℕ) → d ≡ put d s a 0
put_none d s a = sym (rw (append-nil (take a d), add-zero a) (take-append-drop a d))

pub put_next : (d s : List ℕ) (a j : ℕ) → a + j < length d → j < length s → set (put d s a j) (a + j) (get_or s j 0) ≡ put d s a (j + 1)
put_next d s a j h g =
    let front : length (take a d ++ take j s) ≡ a + j = length-append (take a d) (take j s) ∙ rw (length-take-le a d (omega arith), length-take-le j s (omega arith)) in
    let behind : a + suc j ≡ suc (a + j) = omega arith in
    rw (add-one j, drop-cons d (a + j) 0 h, behind, take-suc s j 0 g)
    (set_at (take a d ++ take j s) (get_or d (a + j) 0) (drop (suc (a + j)) d) (get_or s j 0) (a + j) front ∙ simp append_assoc)
