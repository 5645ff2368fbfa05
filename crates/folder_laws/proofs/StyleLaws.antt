-- Lines in a style: clean and led by no space or tab where the lines are, as read the lines themselves, and cut as often. Assumes nothing.
use mathlib.Core.Path.{◌≡◌, refl, sym, ap, ◌∙◌}
use mathlib.Core.List.{List, [], ◌∷◌, map}
use Prim.Native.Nat.{ℕ, ◌≤◌}
use native.Mathlib.Omega.{arith}
use lib.ListN.{length}
use Rattle.line_laws.specs.Lined.{Unled, Lined}
use Rattle.folder_line.specs.Pieces.{folded_lines, Clean, All}
use Rattle.folder_raising.specs.Letters.{upper}
use Rattle.folder_raising.specs.Walk.{raised_from, raised, written}
use Rattle.folder_raising.specs.declared.Style.{Style}
use Rattle.folder_raising.specs.declared.Style.TheVariants.{AsRead, Raised}
use Rattle.folder_raising.proofs.CleanLaws.{Upper, stays, small, upper_case, clean_written, pieces_written}
use Rattle.folder_laws.specs.Foldings.{Billed}
use Rattle.folder_laws.specs.Physical.{physical}
use Rattle.folder_laws.proofs.Fewest.{our_text, fewest}

pub as_read : (ls : List (List ℕ)) → map (written AsRead) ls ≡ ls
as_read [] = refl
as_read (l ∷ ls) = ap (λ (ms : List (List ℕ)). l ∷ ms) (as_read ls)

pub clean_styled : (s : Style) (ls : List (List ℕ)) → All Clean ls → All Clean (map (written s) ls)
unfolding All
clean_styled s [] c = tt
clean_styled s (l ∷ ls) c = (clean_written s l c.0, clean_styled s ls c.1)

-- no letter becomes a space or a tab
low : (b c : ℕ) → c ≤ 64 → Upper b → upper b ≡ c → b ≡ c
low b c h (stays e) q = sym e ∙ q
low b c h (small l m e) q = absurd (omega (arith, e, q))

unled_raised : (l : List ℕ) → Unled l → Unled (raised l)
unfolding Unled raised raised_from
unled_raised [] u = u
unled_raised (x ∷ xs) u = (λ e. u.0 (low x 32 (omega arith) (upper_case x) e), λ e. u.1 (low x 9 (omega arith) (upper_case x) e))

unled_written : (s : Style) (l : List ℕ) → Unled l → Unled (written s l)
unled_written AsRead l u = u
unled_written Raised l u = unled_raised l u

pub unled_styled : (s : Style) (ls : List (List ℕ)) → All Unled ls → All Unled (map (written s) ls)
unfolding All
unled_styled s [] u = tt
unled_styled s (l ∷ ls) u = (unled_written s l u.0, unled_styled s ls u.1)

-- The folded text has as many physical lines in either style.
pub as_many : (s : Style) (ls : List (List ℕ)) → All Clean ls → length (physical (folded_lines (map (written s) ls))) ≡ length (physical (folded_lines ls))
unfolding All folded_lines
as_many s [] c = refl
as_many s (l ∷ ls) c =
    omega (arith, our_text (written s l) (map (written s) ls) (clean_written s l c.0), our_text l ls c.0, pieces_written s l, as_many s ls c.1)

-- No octets with these logical lines have fewer physical lines than the folded text in either style.
pub fewest_styled : (s : Style) {t : List ℕ} {rs ls : List (List ℕ)} → All Clean ls → Lined t rs ls → Billed t
    → length (physical (folded_lines (map (written s) ls))) ≤ length (physical t)
fewest_styled s {ls = ls} c h b = omega (arith, as_many s ls c, fewest c h b)
