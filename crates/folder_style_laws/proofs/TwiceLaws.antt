-- A second raising changes nothing. Assumes nothing.
use mathlib.Core.Path.{◌≡◌, refl, sym, ap, ◌∙◌}
use mathlib.Core.List.{List, [], ◌∷◌, map}
use Prim.Native.Nat.{ℕ, ◌-◌, ◌≤◌}
use native.Mathlib.Omega.{arith}
use lib.Dec.{eqb}
use borrow.Author.Tests.{ne_eqb, lt-leb}
use Rattle.folder_raising.specs.Letters.{upper}
use Rattle.folder_raising.specs.Walk.{after, turned, raised_from, raised, written}
use Rattle.folder_raising.specs.declared.Style.{Style}
use Rattle.folder_raising.specs.declared.Style.TheVariants.{AsRead, Raised}
use Rattle.folder_raising.specs.declared.Spot.{Spot}
use Rattle.folder_raising.specs.declared.Spot.TheVariants.{Name, Values, Quotes, Past}
use Rattle.folder_raising.proofs.CleanLaws.{Upper, stays, small, upper_case}

upper_low : (c : ℕ) → c ≤ 96 → upper c ≡ c
unfolding upper
upper_low c h = rw (lt-leb 97 c (omega arith)) refl

upper_twice : (b : ℕ) → Upper b → upper (upper b) ≡ upper b
upper_twice b (stays e) = ap upper e
upper_twice b (small l m e) = rw e (upper_low (b - 32) (omega arith))

-- no letter is a colon or an equals sign
upper_mark : (b c : ℕ) → c ≤ 64 → Upper b → eqb (upper b) c ≡ eqb b c
upper_mark b c h (stays e) = ap (λ (x : ℕ). eqb x c) e
upper_mark b c h (small l m e) = rw e (ne_eqb (b - 32) c (λ q. omega arith) ∙ sym (ne_eqb b c (λ q. omega arith)))

turned_twice : (k : Spot) (b : ℕ) → turned k (turned k b) ≡ turned k b
turned_twice Name b = upper_twice b (upper_case b)
turned_twice Values b = refl
turned_twice Quotes b = refl
turned_twice Past b = refl

after_turned : (k : Spot) (b : ℕ) → after k (turned k b) ≡ after k b
after_turned Name b = rw (upper_mark b 58 (omega arith) (upper_case b), upper_mark b 61 (omega arith) (upper_case b)) refl
after_turned Values b = refl
after_turned Quotes b = refl
after_turned Past b = refl

from_twice : (k : Spot) (l : List ℕ) → raised_from k (raised_from k l) ≡ raised_from k l
unfolding raised_from
from_twice k [] = refl
from_twice k (x ∷ xs) =
    ap (λ (a : ℕ). a ∷ raised_from (after k (turned k x)) (raised_from (after k x) xs)) (turned_twice k x)
    ∙ ap (λ (j : Spot). turned k x ∷ raised_from j (raised_from (after k x) xs)) (after_turned k x)
    ∙ ap (λ (t : List ℕ). turned k x ∷ t) (from_twice (after k x) xs)

twice : (s : Style) (l : List ℕ) → written s (written s l) ≡ written s l
unfolding raised
twice AsRead l = refl
twice Raised l = from_twice Name l

pub map_twice : (s : Style) (ls : List (List ℕ)) → map (written s) (map (written s) ls) ≡ map (written s) ls
map_twice s [] = refl
map_twice s (l ∷ ls) = ap (λ (x : List ℕ). x ∷ map (written s) (map (written s) ls)) (twice s l) ∙ ap (λ (xs : List (List ℕ)). written s l ∷ xs) (map_twice s ls)
