-- Numbers in octets: what is written is read. Assumes nothing.
use Prim.Native.Nat.{ℕ, suc, ◌+◌, ◌*◌, ◌/◌, ◌%◌, ◌<◌, ◌≤◌}
use mathlib.Core.Path.{◌≡◌, refl, sym, ◌∙◌}
use mathlib.Core.Bool.{Bool, true, false}
use mathlib.Core.List.{List}
use native.Mathlib.Omega.{arith}
use lib.Dec.{leb}
use lib.ListN.{set}
use lib.Seq.{sets}
use borrow.Author.Tests.{leb-true, le-leb}
use Rattle.replay_script.specs.Numerals.{two_octets, four_octets}

pub two_value : (n : ℕ) → n < 65536 → n / 256 % 256 * 256 + n % 256 ≡ n
two_value n h = omega arith

pub four_value : (n : ℕ) → n < 4294967296
    → (n / 65536 / 256 % 256 * 256 + n / 65536 % 256) * 65536 + (n / 256 % 256 * 256 + n % 256) ≡ n
four_value n h = omega arith

-- four octets stored one after the other
pub four_stores : (d : List ℕ) (at n a b c e : ℕ) → a ≡ n / 65536 / 256 % 256 → b ≡ n / 65536 % 256 → c ≡ n / 256 % 256 → e ≡ n % 256
    → set (set (set (set d at a) (at + 1) b) (at + 2) c) (at + 3) e ≡ sets d at (four_octets n)
unfolding two_octets four_octets
four_stores d at n a b c e p q r s =
    let x : at + 1 ≡ suc at = omega arith in
    let y : at + 2 ≡ suc (suc at) = omega arith in
    let z : at + 3 ≡ suc (suc (suc at)) = omega arith in
    rw (x, y, z, p, q, r, s)

pub leb_same : (a b c d : ℕ) → (a ≤ b → c ≤ d) → (c ≤ d → a ≤ b) → leb a b ≡ leb c d
leb_same a b c d f g = go (leb a b) refl
  where
    go : (t : Bool) → leb a b ≡ t → t ≡ leb c d
    go true e = sym (le-leb c d (f (leb-true a b e)))
    go false e = go₂ (leb c d) refl
      where
        go₂ : (t : Bool) → leb c d ≡ t → false ≡ t
        go₂ true q = sym e ∙ le-leb a b (g (leb-true c d q))
        go₂ false q = refl
