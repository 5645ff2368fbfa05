-- The physical lines of folded text: each has at most 75 octets, whole characters, and ends in CR LF. Assumes nothing.
use mathlib.Core.Path.{◌≡◌, refl, ap, ◌∙◌}
use mathlib.Core.Bool.{false}
use mathlib.Core.List.{List, [], ◌∷◌, ◌++◌, append_assoc}
use Prim.Native.Nat.{ℕ, ◌≤◌}
use native.Mathlib.Omega.{arith}
use lib.ListN.{length}
use borrow.Author.Tests.{ne_eqb}
use Rattle.octets.specs.Classes.{valued}
use Rattle.utf8.specs.Characters.{allowed}
use Rattle.utf8.proofs.Chars.{ascii}
use Rattle.utf8.proofs.Chains.{Chars, end, start, NoEnd, none, more, no_end}
use Rattle.folder_line.specs.Pieces.{first, later, pieces, joined, folded, folded_lines, Clean, All}
use Rattle.reader.specs.Outcome.{ended}
use Rattle.folder_line.proofs.PieceLaws.{first_fits}
use Rattle.folder_line.proofs.Turns.{clean_chars, chars_clean}
use Rattle.folder_laws.specs.Cuttings.{UpTo}
use Rattle.folder_laws.specs.Physical.{upto, behind, physical}
use Rattle.folder_laws.proofs.CutLaws.{Pieces, nil, one, first_whole, later_good}

-- whole characters, at most 75 octets
abbrev Good : List ℕ → Type 0
Good l = (length l ≤ 75) × Chars (allowed false) 0 l

-- a space before a piece is a character of its own
spaced : {q : List ℕ} → Chars (allowed false) 0 q → Chars (allowed false) 0 (32 ∷ q)
unfolding allowed valued
spaced {q} c = start refl (ascii (32 ∷ q) 0 (omega arith) (omega arith)) c

-- pieces as physical lines: each later one is led by a space; then other lines
unfoldable pub led : List (List ℕ) → List (List ℕ) → List (List ℕ)
led [] rest = rest
led (q ∷ qs) rest = (32 ∷ q) ∷ led qs rest

-- the physical lines of logical lines
unfoldable pub physical_of : List (List ℕ) → List (List ℕ)
physical_of [] = []
physical_of (l ∷ ls) = first l 75 ∷ led (later l 75) (physical_of ls)

joined_ended : (p : List ℕ) (ps rest : List (List ℕ)) → (joined (p ∷ ps) ++ (13 ∷ 10 ∷ [])) ++ ended rest ≡ ended (p ∷ led ps rest)
unfolding joined led ended
joined_ended p [] rest = append_assoc p (13 ∷ 10 ∷ []) (ended rest)
joined_ended p (q ∷ qs) rest =
    ap (λ (l : List ℕ). l ++ ended rest) (append_assoc p (13 ∷ 10 ∷ 32 ∷ joined (q ∷ qs)) (13 ∷ 10 ∷ []))
    ∙ append_assoc p (13 ∷ 10 ∷ 32 ∷ (joined (q ∷ qs) ++ (13 ∷ 10 ∷ []))) (ended rest)
    ∙ ap (λ (l : List ℕ). p ++ (13 ∷ 10 ∷ 32 ∷ l)) (joined_ended q qs rest)

-- Folded text is its physical lines, each ended by CR LF.
pub lines_ended : (ls : List (List ℕ)) → folded_lines ls ≡ ended (physical_of ls)
unfolding folded_lines physical_of ended folded pieces
lines_ended [] = refl
lines_ended (l ∷ ls) =
    ap (λ (t : List ℕ). (joined (first l 75 ∷ later l 75) ++ (13 ∷ 10 ∷ [])) ++ t) (lines_ended ls)
    ∙ joined_ended (first l 75) (later l 75) (physical_of ls)

led_good : {ps : List (List ℕ)} → Pieces 74 ps → (rest : List (List ℕ)) → All Good rest → All Good (led ps rest)
unfolding led All
led_good nil rest a = a
led_good (one w b g) rest a = ((omega arith, spaced w), led_good g rest a)

good_lines : (ls : List (List ℕ)) → All Clean ls → All Good (physical_of ls)
unfolding physical_of All
good_lines [] c = tt
good_lines (l ∷ ls) c =
    let w = clean_chars l c.0 in
    ((first_fits w 75 (omega arith), first_whole w 75 (omega arith)), led_good (later_good w 75 (omega arith)) (physical_of ls) (good_lines ls c.1))

pub clean_lines : (ls : List (List ℕ)) → All Clean ls → All Clean (physical_of ls)
unfolding All
clean_lines ls c = each (physical_of ls) (good_lines ls c)
  where
    each : (ps : List (List ℕ)) → All Good ps → All Clean ps
    each [] a = tt
    each (p ∷ ps) a = (chars_clean p a.0.1, each ps a.1)

-- they are what is read off the octets, with the empty line behind the last CR LF
upto_run : {p : List ℕ} → NoEnd p → (t : List ℕ) → upto (p ++ (13 ∷ t)) ≡ p
unfolding upto
upto_run none t = refl
upto_run (more {x} {xs} a b n) t = simp (ne_eqb x 13 a) (ap (λ (r : List ℕ). x ∷ r) (upto_run n t))

pub behind_run : {p : List ℕ} → NoEnd p → (t : List ℕ) → behind (p ++ (13 ∷ 10 ∷ t)) ≡ physical t
unfolding behind physical
behind_run none t = refl
behind_run (more {x} {xs} a b n) t = simp (ne_eqb x 10 b) (behind_run n t)

physical_line : {p : List ℕ} → NoEnd p → (t : List ℕ) → physical (p ++ (13 ∷ 10 ∷ t)) ≡ p ∷ physical t
unfolding physical
physical_line n t = rw (upto_run n (10 ∷ t), behind_run n t)

no_line : (P : List ℕ → Type 0) → P [] → All P (physical [])
unfolding All physical upto behind
no_line P z = (z, tt)

all_physical : (P : List ℕ → Type 0) → ((l : List ℕ) → Good l → P l) → (ps : List (List ℕ)) → All Good ps → All P (physical (ended ps))
unfolding ended All
all_physical P f [] a = no_line P (f [] (omega arith, end))
all_physical P f (p ∷ ps) a = rw (physical_line (no_end a.0.1) (ended ps)) (f p a.0, all_physical P f ps a.1)

module _ (ls : List (List ℕ)) (c : All Clean ls) where
  read_off : (P : List ℕ → Type 0) → ((l : List ℕ) → Good l → P l) → All P (physical (folded_lines ls))
  read_off P f = rw (lines_ended ls) (all_physical P f (physical_of ls) (good_lines ls c))

  -- Each physical line of the folded text has at most 75 octets.
  pub short_lines : All (UpTo 75) (physical (folded_lines ls))
  short_lines = read_off (UpTo 75) (λ l h. h.0)

  -- Each is whole characters.
  pub whole_lines : All Clean (physical (folded_lines ls))
  whole_lines = read_off Clean (λ l h. chars_clean l h.1)
