-- A log is injective: two lists of answers whose numbers have 32 bits and whose logs are equal are equal. Assumes nothing.
use Prim.Native.Nat.{ℕ, ◌/◌, ◌%◌, ◌<◌, ◌≤◌}
use mathlib.Core.Path.{◌≡◌, refl, sym, ap, ◌∙◌}
use mathlib.Core.List.{List, [], ◌∷◌, ◌++◌}
use native.Mathlib.Omega.{arith}
use lib.ListN.{length, get_or, take, drop, length-append}
use lib.Seq.{take-append_seam, drop-append_seam}
use Rattle.desk_ledger.specs.Ledger.{Reply, refused, told, counts, part}
use Rattle.replay_script.specs.Numerals.{two_octets, four_octets}
use Rattle.replay_log.specs.Logs.{entry, written}
use Rattle.replay_laws.specs.Tells.{Small, AllSmall}
use Rattle.replay_script.proofs.NumeralLaws.{four_value}
use Rattle.replay_log.proofs.LogLaws.{told_length, refused_length, counts_length, part_length}

four_same : (n m : ℕ) → n < 4294967296 → m < 4294967296 → n / 65536 / 256 % 256 ≡ m / 65536 / 256 % 256 → n / 65536 % 256 ≡ m / 65536 % 256
    → n / 256 % 256 ≡ m / 256 % 256 → n % 256 ≡ m % 256 → n ≡ m
four_same n m h k a b c d = sym (four_value n h) ∙ rw (a, b, c, d) (four_value m k)

-- octet k of two equal logs
at : (k : ℕ) {x y : List ℕ} → x ≡ y → get_or x k 0 ≡ get_or y k 0
at k e = ap (λ (l : List ℕ). get_or l k 0) e

-- the first answer, and what follows it
entry_same : (r r' : Reply) (x y : List ℕ) → Small r → Small r' → entry r ++ x ≡ entry r' ++ y → (r ≡ r') × (x ≡ y)
unfolding entry two_octets four_octets
entry_same (refused n p) (refused m q) x y h k e =
    let a : n ≡ m = four_same n m h.0 k.0 (at 1 e) (at 2 e) (at 3 e) (at 4 e) in
    let b : p ≡ q = four_same p q h.1 k.1 (at 5 e) (at 6 e) (at 7 e) (at 8 e) in
    (rw (a, b), ap (drop 9) e)
entry_same (told n) (told m) x y h k e = (ap told (four_same n m h k (at 1 e) (at 2 e) (at 3 e) (at 4 e)), ap (drop 5) e)
entry_same (counts n p) (counts m q) x y h k e =
    let a : n ≡ m = four_same n m h.0 k.0 (at 1 e) (at 2 e) (at 3 e) (at 4 e) in
    let b : p ≡ q = four_same p q h.1 k.1 (at 5 e) (at 6 e) (at 7 e) (at 8 e) in
    (rw (a, b), ap (drop 9) e)
entry_same (part o) (part v) x y h k e =
    let a : length o ≡ length v = four_same (length o) (length v) h k (at 1 e) (at 2 e) (at 3 e) (at 4 e) in
    let r : o ++ x ≡ v ++ y = ap (drop 5) e in (
      ap part (sym (take-append_seam o x) ∙ ap (take (length o)) r ∙ ap (λ (n : ℕ). take n (v ++ y)) a ∙ take-append_seam v y),
      sym (drop-append_seam o x) ∙ ap (drop (length o)) r ∙ ap (λ (n : ℕ). drop n (v ++ y)) a ∙ drop-append_seam v y,
    )
entry_same (refused n p) (told m) x y h k e = absurd (omega (arith, at 0 e))
entry_same (refused n p) (counts m q) x y h k e = absurd (omega (arith, at 0 e))
entry_same (refused n p) (part v) x y h k e = absurd (omega (arith, at 0 e))
entry_same (told n) (refused m q) x y h k e = absurd (omega (arith, at 0 e))
entry_same (told n) (counts m q) x y h k e = absurd (omega (arith, at 0 e))
entry_same (told n) (part v) x y h k e = absurd (omega (arith, at 0 e))
entry_same (counts n p) (refused m q) x y h k e = absurd (omega (arith, at 0 e))
entry_same (counts n p) (told m) x y h k e = absurd (omega (arith, at 0 e))
entry_same (counts n p) (part v) x y h k e = absurd (omega (arith, at 0 e))
entry_same (part o) (refused m q) x y h k e = absurd (omega (arith, at 0 e))
entry_same (part o) (told m) x y h k e = absurd (omega (arith, at 0 e))
entry_same (part o) (counts m q) x y h k e = absurd (omega (arith, at 0 e))

entry_some : (r : Reply) → 1 ≤ length (entry r)
entry_some (refused n p) = omega (arith, refused_length n p)
entry_some (told n) = omega (arith, told_length n)
entry_some (counts k n) = omega (arith, counts_length k n)
entry_some (part o) = omega (arith, part_length o)

none_more : (r : Reply) (x : List ℕ) → [] ≡ entry r ++ x → ⊥
none_more r x e =
    let l : 0 ≡ length (entry r ++ x) = ap length e in
    omega (arith, length-append (entry r) x, entry_some r)

pub unwritten : (rs ts : List Reply) → AllSmall rs → AllSmall ts → written rs ≡ written ts → rs ≡ ts
unfolding written AllSmall
unwritten [] [] h k e = refl
unwritten [] (t ∷ ts) h k e = absurd (none_more t (written ts) e)
unwritten (r ∷ rs) [] h k e = absurd (none_more r (written rs) (sym e))
unwritten (r ∷ rs) (t ∷ ts) h k e =
    let s = entry_same r t (written rs) (written ts) h.0 k.0 e in
    let w : rs ≡ ts = unwritten rs ts h.1 k.1 s.1 in
    rw (s.0, w)
