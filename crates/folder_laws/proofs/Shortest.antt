-- No octets that are a line with folds in it, in short physical lines of whole characters, have fewer physical lines than ours. Assumes nothing.
use mathlib.Core.Path.{◌≡◌, refl, sym, ap, subst, ◌∙◌}
use mathlib.Core.Bool.{Bool, true, false}
use mathlib.Core.List.{List, [], ◌∷◌, ◌++◌, flatten}
use mathlib.Core.Logic.{inl, inr}
use Prim.Native.Nat.{ℕ, zero, suc, ◌<◌, ◌≤◌}
use native.Mathlib.Omega.{arith}
use lib.ListN.{length}
use borrow.Author.Tests.{ne_eqb}
use Rattle.octets.specs.Classes.{valued}
use Rattle.utf8.specs.Characters.{allowed}
use Rattle.utf8.specs.Rfc3629.{Characters}
use Rattle.utf8_laws.specs.Texts.{Each}
use Rattle.utf8_laws.proofs.Utf8.{allowed_only}
use Rattle.utf8.proofs.Chars.{ascii}
use Rattle.utf8.proofs.Chains.{Chars, start, NoEnd, more, no_end}
use Rattle.line_laws.specs.Lined.{Blank, Folded, end, octet, fold}
use Rattle.folder_line.specs.Pieces.{pieces, Clean, All}
use Rattle.folder_line.proofs.Turns.{clean_chars, chars_clean}
use Rattle.folder_laws.specs.Cuttings.{UpTo}
use Rattle.folder_laws.specs.Foldings.{Parts, Folding}
use Rattle.folder_laws.specs.Physical.{upto, behind, physical}
use Rattle.folder_laws.proofs.CuttingLaws.{each_left, each_right, all_characters}
use Rattle.folder_laws.proofs.Least.{least}

-- the later physical lines are the parts, each behind its blank
data Led : List (List ℕ) → List (List ℕ) → Type 0 where
  nil : Led [] []
  one : {b : ℕ} {q : List ℕ} {qs ps : List (List ℕ)} → Blank b → Led qs ps → Led (q ∷ qs) ((b ∷ q) ∷ ps)

-- a line's parts on the physical lines of t
record Split (l t : List ℕ) : Type 0 where
  q : List ℕ
  qs : List (List ℕ)
  whole : flatten (q ∷ qs) ≡ l
  first : upto t ≡ q
  later : Led qs (behind t)

pub blank_not : (b : ℕ) → Blank b → (b ≡ 13 → ⊥) × (b ≡ 10 → ⊥)
blank_not b (inl e) = (λ q. omega arith, λ q. omega arith)
blank_not b (inr e) = (λ q. omega arith, λ q. omega arith)

pub upto_goes : (x : ℕ) (xs : List ℕ) → (x ≡ 13 → ⊥) → upto (x ∷ xs) ≡ x ∷ upto xs
unfolding upto
upto_goes x xs n = rw (ne_eqb x 13 n)

pub behind_goes : (x : ℕ) (xs : List ℕ) → (x ≡ 10 → ⊥) → behind (x ∷ xs) ≡ behind xs
unfolding behind
behind_goes x xs n = rw (ne_eqb x 10 n)

split : {l t : List ℕ} → Folded l t → NoEnd l → Split l t
unfolding flatten upto behind
split end n = record { q = []; qs = []; whole = refl; first = refl; later = nil }
split (octet {b} {l} {r} f) (more a c n) =
    let s = split f n in
    record {
      q = b ∷ s.q;
      qs = s.qs;
      whole = ap (λ (x : List ℕ). b ∷ x) s.whole;
      first = upto_goes b r a ∙ ap (λ (x : List ℕ). b ∷ x) s.first;
      later = rw (behind_goes b r c) s.later;
    }
split (fold {b} {l} {r} z f) n =
    let s = split f n in
    let k = blank_not b z in
    let e : upto (b ∷ r) ≡ b ∷ s.q = upto_goes b r k.0 ∙ ap (λ (x : List ℕ). b ∷ x) s.first in
    record {
      q = [];
      qs = s.q ∷ s.qs;
      whole = s.whole;
      first = refl;
      later = rw (e, behind_goes b r k.1) (one z s.later);
    }

led_count : {qs ps : List (List ℕ)} → Led qs ps → length qs ≡ length ps
led_count nil = refl
led_count (one b g) = ap suc (led_count g)

led_short : {qs ps : List (List ℕ)} → Led qs ps → All (UpTo 75) ps → All (UpTo 74) qs
unfolding All
led_short nil a = tt
led_short (one b g) a = (omega (arith, a.0), led_short g a.1)

-- a blank is an allowed character of its own
blank_allowed : (b : ℕ) → Blank b → allowed false b ≡ true
unfolding allowed valued
blank_allowed b (inl e) = rw e
blank_allowed b (inr e) = rw e

blank_small : (b : ℕ) → Blank b → b < 128
blank_small b (inl e) = omega arith
blank_small b (inr e) = omega arith

unled : {p : ℕ → Bool} {b : ℕ} {q : List ℕ} → Blank b → Chars p 0 (b ∷ q) → Chars p 0 q
unled {p} z (start {x} {m} {xs} a e c) = none_left m (omega (arith, sym e ∙ ascii (x ∷ xs) 0 (omega arith) (blank_small x z))) c
  where
    none_left : (k : ℕ) → k ≡ 0 → Chars p k xs → Chars p 0 xs
    none_left zero h d = d
    none_left (suc k) h d = absurd (omega arith)

-- parts of allowed octets on physical lines of whole characters are clean
led_clean : {qs ps : List (List ℕ)} → Led qs ps → All Characters ps → Each (allowed false) (flatten qs) → All Clean qs
unfolding All Each flatten Clean
led_clean nil a h = tt
led_clean (one {b} {q} {qs} z g) a h =
    let c : Clean (b ∷ q) = (allowed_only false (b ∷ q)).1 (a.0, (blank_allowed b z, each_left (allowed false) q (flatten qs) h)) in
    (chars_clean q (unled z (clean_chars (b ∷ q) c)), led_clean g a.1 (each_right (allowed false) q (flatten qs) h))

-- No folding of a line has fewer physical lines than the line has pieces.
pub least_lines : (l t : List ℕ) → Clean l → Folding l t → length (pieces l) ≤ length (physical t)
unfolding physical All Clean flatten
least_lines l t c f =
    let s = split f.folds (no_end (clean_chars l c)) in
    let e = s.first in
    let b = f.lines in
    let h : Each (allowed false) (s.q ++ flatten s.qs) = subst (Each (allowed false)) (sym s.whole) ((allowed_only false l).0 c).1 in
    let a = all_characters s.qs (led_clean s.later b.whole.1 (each_right (allowed false) s.q (flatten s.qs) h)) in
    let p : Parts l s.q s.qs = record { whole = s.whole; characters = (rw e at b.whole.0, a); start = rw e at b.short.0; others = led_short s.later b.short.1 } in
    omega (arith, least l s.q s.qs c p, led_count s.later)
