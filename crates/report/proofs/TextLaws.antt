-- The rows of a report, place by place, and how long they are. Assumes nothing.
use mathlib.Core.Path.{◌≡◌, refl, ap, ◌∙◌}
use mathlib.Core.Bool.{Bool, true, false, not}
use mathlib.Core.List.{List, [], ◌∷◌, ◌++◌}
use Prim.Native.Nat.{ℕ, zero, suc, ◌+◌, ◌-◌, ◌*◌, ◌/◌, ◌<◌, ◌≤◌}
use native.Mathlib.Nat.{add-zero}
use native.Mathlib.Numerals.{add-one}
use native.Mathlib.Omega.{arith}
use lib.Dec.{ltb, eqb}
use lib.ListN.{length, get_or, drop, length-append, drop_of_length-le}
use lib.Seq.{drop-cons, drop-drop, get_or-drop}
use borrow.Author.Tests.{ltb-true, ltb-false}
use Rattle.octets.specs.Ascii as ascii
use Rattle.octets.specs.Pick.{pick}
use Rattle.program_output.specs.Digits.{decimal_in, decimal}
use Rattle.program_output.specs.Pages.{Page, added}
use Rattle.report_weights.specs.Counts.{Count, uploads, accepted, cards, lines, octets, refused_with, lines_of, counts, refusal_at, total_at, count_at}
use Rattle.report_weights.proofs.PlaceLaws.{count_at_lem, counts_length, at_refusal, at_property}
use Rattle.report.specs.Text.{name, always, row, has, shown, rows_of}

-- ---- lengths

pick_length : (t : Bool) (a b : List ℕ) (n : ℕ) → length a ≤ n → length b ≤ n → length (pick t a b) ≤ n
pick_length true a b n h g = h
pick_length false a b n h g = g

digits_few : (k n : ℕ) → length (decimal_in k n) ≤ k
unfolding decimal_in
digits_few zero n = omega arith
digits_few (suc k) n = pick_length (ltb n 10) _ _ (suc k) (omega arith) (simp length-append (omega (arith, digits_few k (n / 10))))

decimal_few : (n : ℕ) → length (decimal n) ≤ 20
unfolding decimal
decimal_few n = digits_few 20 n

name_few : (c : Count) → length (name c) ≤ 21
unfolding name ascii.octets
name_few uploads = omega arith
name_few accepted = omega arith
name_few cards = omega arith
name_few lines = omega arith
name_few octets = omega arith
name_few (refused_with n) = omega (arith, decimal_few n)
name_few (lines_of n) = omega (arith, decimal_few n)

shown_few : (c : Count) (n : ℕ) → length (shown c n) ≤ 43
unfolding shown row
shown_few c n =
    pick_length (has c n) (name c ++ (32 ∷ (decimal n ++ (10 ∷ [])))) [] 43
    (omega (arith, name_few c, decimal_few n, length-append (name c) (32 ∷ (decimal n ++ (10 ∷ []))), length-append (decimal n) (10 ∷ []))) (omega arith)

rows_few : (cs : List Count) (ns : List ℕ) → length (rows_of cs ns) ≤ 43 * length cs
unfolding rows_of
rows_few [] ns = omega arith
rows_few (c ∷ cs) ns = omega (arith, rows_few cs (drop 1 ns), shown_few c (get_or ns 0 0), length-append (shown c (get_or ns 0 0)) (rows_of cs (drop 1 ns)))

pub text_few : (ns : List ℕ) → length (rows_of counts ns) ≤ 2560
text_few ns = omega (arith, rows_few counts ns, counts_length)

-- ---- a row

total_always : (p : ℕ) → p < 5 → always (count_at p) ≡ true
unfolding count_at total_at
total_always zero h = refl
total_always (suc zero) h = refl
total_always (suc (suc zero)) h = refl
total_always (suc (suc (suc zero))) h = refl
total_always (suc (suc (suc (suc zero)))) h = refl
total_always (suc (suc (suc (suc (suc p))))) h = absurd (omega arith)

never_always : (p : ℕ) → 5 ≤ p → always (count_at p) ≡ false
never_always p h = by (ltb p 20) refl
  where
    by : (t : Bool) → ltb p 20 ≡ t → always (count_at p) ≡ false
    by true q = rw (at_refusal p h (ltb-true p 20 q))
    by false q = rw (at_property p (ltb-false p 20 q))

pub total_has : (p n : ℕ) → p < 5 → true ≡ has (count_at p) n
unfolding has
total_has p n h = rw (total_always p h)

pub other_has : (p n : ℕ) → 5 ≤ p → not (eqb n 0) ≡ has (count_at p) n
unfolding has
other_has p n h = rw (never_always p h)

pub not_shown : (c : Count) (n : ℕ) (p : Page) → has c n ≡ false → p ≡ added (shown c n) p
unfolding shown added
not_shown c n p e = rw e

pub is_row : (c : Count) (n : ℕ) → has c n ≡ true → name c ++ (32 ∷ (decimal n ++ (10 ∷ []))) ≡ shown c n
unfolding shown row
is_row c n e = rw e

-- ---- names

-- the same text added
pub as_text : (a b : List ℕ) (p : Page) {q : Page} → q ≡ added a p → a ≡ b → q ≡ added b p
as_text a b p e h = e ∙ ap (λ (t : List ℕ). added t p) h

pub uploads_named : (p : ℕ) → p ≡ 0 → ascii.octets "uploads" ≡ name (count_at p)
unfolding count_at total_at name
uploads_named p e = rw e

pub cards_named : (p : ℕ) → p ≡ 2 → ascii.octets "cards" ≡ name (count_at p)
unfolding count_at total_at name
cards_named p e = rw e

pub lines_named : (p : ℕ) → p ≡ 3 → ascii.octets "lines" ≡ name (count_at p)
unfolding count_at total_at name
lines_named p e = rw e

pub octets_named : (p : ℕ) → p ≡ 4 → ascii.octets "octets" ≡ name (count_at p)
unfolding count_at total_at name
octets_named p e = rw e

one_named : (p : ℕ) → p ≡ 1 → ascii.octets "accepted" ≡ name (count_at p)
unfolding count_at total_at name
one_named p e = rw e

pub accepted_named : (p : ℕ) → p < 5 → (p ≡ 0 → ⊥) → (p ≡ 2 → ⊥) → (p ≡ 3 → ⊥) → (p ≡ 4 → ⊥) → ascii.octets "accepted" ≡ name (count_at p)
accepted_named p h a b c d = one_named p (omega arith)

pub refusal_named : (p n : ℕ) → 5 ≤ p → p < 20 → n ≡ refusal_at p → 114 ∷ decimal n ≡ name (count_at p)
unfolding name ascii.octets
refusal_named p n h k e = rw (at_refusal p h k, e)

pub property_named : (p : ℕ) → 20 ≤ p → 112 ∷ decimal (p - 20) ≡ name (count_at p)
unfolding name ascii.octets
property_named p h = rw (at_property p h)

-- ---- a turn of the loop over the rows

pub rows_turn : (ns : List ℕ) (p : ℕ) → p < 59
    → rows_of (drop p counts) (drop p ns) ≡ shown (count_at p) (get_or ns p 0) ++ rows_of (drop (p + 1) counts) (drop (p + 1) ns)
unfolding rows_of
rows_turn ns p h =
    let here : get_or (drop p ns) 0 0 ≡ get_or ns p 0 = get_or-drop p ns 0 0 ∙ ap (λ (k : ℕ). get_or ns k 0) (add-zero p) in
    let first : drop p counts ≡ count_at p ∷ drop (p + 1) counts =
    rw add-one (drop-cons counts p uploads (omega (arith, counts_length)) ∙ ap (λ (c : Count). c ∷ drop (suc p) counts) (count_at_lem p h)) in
    rw (first, here, drop-drop 1 p ns)

pub rows_done : (ns : List ℕ) (p : ℕ) (q : Page) → 59 ≤ p → added (rows_of (drop p counts) (drop p ns)) q ≡ q
unfolding rows_of added
rows_done ns p q h = rw (drop_of_length-le counts {i = p} (omega (arith, counts_length)))
