-- A raised line has the characters that the line has, and as many pieces. Assumes nothing.
use mathlib.Core.Path.{◌≡◌, refl, ap, ◌∙◌}
use mathlib.Core.Bool.{Bool, true, false, ◌&&◌, ◌||◌}
use mathlib.Core.List.{List, [], ◌∷◌}
use Prim.Native.Nat.{ℕ, suc, pred, ◌-◌, ◌≤◌}
use native.Mathlib.Omega.{arith}
use lib.Dec.{leb, eqb}
use lib.ListN.{length}
use borrow.Author.Tests.{leb-true, le-leb}
use Rattle.octets.specs.Classes.{within, valued}
use Rattle.octets.proofs.Bools.{and_both}
use Rattle.utf8.specs.Characters.{allowed}
use Rattle.utf8.proofs.Chains.{Chars, end, start, inner}
use Rattle.folder_line.specs.Pieces.{over, later, pieces, Clean}
use Rattle.folder_line.proofs.PieceLaws.{later_over, later_goes}
use Rattle.folder_line.proofs.Turns.{clean_chars, chars_clean}
use Rattle.folder_raising.specs.Letters.{upper}
use Rattle.folder_raising.specs.Walk.{after, turned, raised_from, raised, written}
use Rattle.folder_raising.specs.declared.Style.{Style}
use Rattle.folder_raising.specs.declared.Style.TheVariants.{AsRead, Raised}
use Rattle.folder_raising.specs.declared.Spot.{Spot}
use Rattle.folder_raising.specs.declared.Spot.TheVariants.{Name, Values, Quotes, Past}
use Rattle.folder_raising.proofs.Kept.{near_turned, near_at, raised_length, tail_near, char_near, over_raised}

-- a small letter becomes its capital, any other octet stays
pub data Upper (b : ℕ) : Type 0 where
  stays : upper b ≡ b → Upper b
  small : 97 ≤ b → b ≤ 122 → upper b ≡ b - 32 → Upper b

pub upper_case : (b : ℕ) → Upper b
unfolding upper
upper_case b = go (within 97 122 b) refl
  where
    go : (t : Bool) → within 97 122 b ≡ t → Upper b
    go true e = let h = and_both (leb 97 b) _ e in small (leb-true 97 b h.0) (leb-true b 122 h.1) (rw e)
    go false e = stays (rw e)

-- a capital is allowed
capital_allowed : (c : ℕ) → 65 ≤ c → c ≤ 90 → allowed false c ≡ true
unfolding allowed valued
capital_allowed c h k = or-true (eqb c 9) (leb 0x80 c) (le-leb 0x20 c (omega arith)) (le-leb c 0x7e (omega arith))
  where
    or-true : (a b : Bool) → leb 0x20 c ≡ true → leb c 0x7e ≡ true → ((a || ((leb 0x20 c && leb c 0x7e) || b)) || (false && eqb c 10)) ≡ true
    or-true true b p q = refl
    or-true false b p q = rw (p, q) refl

upper_allowed : (b : ℕ) → Upper b → allowed false b ≡ true → allowed false (upper b) ≡ true
upper_allowed b (stays e) h = rw e h
upper_allowed b (small l m e) h = rw e (capital_allowed (b - 32) (omega arith) (omega arith))

turned_allowed : (k : Spot) (b : ℕ) → allowed false b ≡ true → allowed false (turned k b) ≡ true
turned_allowed Name b h = upper_allowed b (upper_case b) h
turned_allowed Values b h = h
turned_allowed Quotes b h = h
turned_allowed Past b h = h

chars_raised : {m : ℕ} {l : List ℕ} → Chars (allowed false) m l → (k : Spot) → Chars (allowed false) m (raised_from k l)
unfolding raised_from
chars_raised end k = end
chars_raised (start {x} {m} {xs} a e c) k =
    start (turned_allowed k x a) (char_near (raised_from k (x ∷ xs)) (x ∷ xs) (raised_length k (x ∷ xs)) (near_at k (x ∷ xs)) ∙ e) (chars_raised c (after k x))
chars_raised (inner {x} {k = n} {xs} e c) k = inner (tail_near (turned k x) x (near_turned k x) ∙ e) (chars_raised c (after k x))

-- A clean line is clean in either style.
pub clean_written : (s : Style) (l : List ℕ) → Clean l → Clean (written s l)
unfolding raised
clean_written AsRead l c = c
clean_written Raised l c = chars_clean (raised l) (chars_raised (clean_chars l c) Name)

-- it is cut as often
later_raised : (k : Spot) (l : List ℕ) (r : ℕ) → length (later (raised_from k l) r) ≡ length (later l r)
unfolding raised_from later
later_raised k [] r = refl
later_raised k (x ∷ xs) r = go (over (x ∷ xs) r) (λ q. later_raised (after k x) xs q) refl
  where
    go : (t : Bool) → ((q : ℕ) → length (later (raised_from (after k x) xs) q) ≡ length (later xs q)) → over (x ∷ xs) r ≡ t
        → length (later (turned k x ∷ raised_from (after k x) xs) r) ≡ length (later (x ∷ xs) r)
    go true f e =
        rw (later_over (turned k x) (raised_from (after k x) xs) r (over_raised k (x ∷ xs) r ∙ e), later_over x xs r e) (ap suc (f 73))
    go false f e =
        rw (later_goes (turned k x) (raised_from (after k x) xs) r (over_raised k (x ∷ xs) r ∙ e), later_goes x xs r e) (f (pred r))

-- A line has as many pieces in either style.
pub pieces_written : (s : Style) (l : List ℕ) → length (pieces (written s l)) ≡ length (pieces l)
unfolding pieces raised
pieces_written AsRead l = refl
pieces_written Raised l = ap suc (later_raised Name l 75)
