-- A raised line is cut where the line is cut: raising what was folded is folding what was raised. Assumes nothing.
use mathlib.Core.Path.{◌≡◌, refl, sym, ap, ◌∙◌}
use mathlib.Core.Bool.{Bool, true, false}
use mathlib.Core.List.{List, [], ◌∷◌, ◌++◌, map}
use Prim.Native.Nat.{ℕ, zero, suc, pred, ◌-◌, ◌<◌, ◌≤◌}
use native.Mathlib.Omega.{arith}
use lib.Dec.{leb, ltb}
use lib.ListN.{length, get_or, length-append}
use borrow.Author.Tests.{leb-true, lt-leb, lt-ltb}
use Rattle.octets.specs.Pick.{pick}
use Rattle.octets.specs.Classes.{within}
use Rattle.octets.proofs.Bools.{and_both}
use Rattle.utf8.specs.Characters.{length_by, second, tail, rest, char_length}
use Rattle.folder_line.specs.Pieces.{over, first, later, cut_from, pieces, joined, folded, folded_lines}
use Rattle.folder_line.proofs.PieceLaws.{first_over, first_goes, later_over, later_goes}
use Rattle.folder_raising.specs.Letters.{upper}
use Rattle.folder_raising.specs.Walk.{after, turned, raised_from, raised, written}
use Rattle.folder_raising.specs.declared.Style.{Style}
use Rattle.folder_raising.specs.declared.Style.TheVariants.{AsRead, Raised}
use Rattle.folder_raising.specs.declared.Spot.{Spot}
use Rattle.folder_raising.specs.declared.Spot.TheVariants.{Name, Values, Quotes, Past}

-- the same octet, or two of ASCII
pub data Near : ℕ → ℕ → Type 0 where
  same : {a : ℕ} → Near a a
  ascii : {a b : ℕ} → a < 128 → b < 128 → Near a b

near_upper : (b : ℕ) → Near (upper b) b
unfolding upper
near_upper b = go (within 97 122 b) refl
  where
    go : (t : Bool) → within 97 122 b ≡ t → Near (pick t (b - 32) b) b
    go true e = let h : b ≤ 122 = leb-true b 122 (and_both (leb 97 b) _ e).1 in ascii {a = b - 32} {b = b} (omega arith) (omega arith)
    go false e = same

pub near_turned : (k : Spot) (b : ℕ) → Near (turned k b) b
near_turned Name b = near_upper b
near_turned Values b = same
near_turned Quotes b = same
near_turned Past b = same

pub near_at : (k : Spot) (l : List ℕ) (i : ℕ) → Near (get_or (raised_from k l) i 0) (get_or l i 0)
unfolding raised_from
near_at k [] i = same
near_at k (x ∷ xs) zero = near_turned k x
near_at k (x ∷ xs) (suc i) = near_at (after k x) xs i

pub raised_length : (k : Spot) (l : List ℕ) → length (raised_from k l) ≡ length l
unfolding raised_from
raised_length k [] = refl
raised_length k (x ∷ xs) = ap suc (raised_length (after k x) xs)

-- ---- what starts at an octet is as long in both

within_near : (lo hi a b : ℕ) → 128 ≤ lo → Near a b → within lo hi a ≡ within lo hi b
within_near lo hi a b h same = refl
within_near lo hi a b h (ascii p q) = rw (lt-leb lo a (omega arith), lt-leb lo b (omega arith)) refl

second_near : (x a b : ℕ) → Near a b → second x a ≡ second x b
unfolding second
second_near x a b n =
    rw (within_near 0xa0 0xbf a b (omega arith) n, within_near 0x80 0x9f a b (omega arith) n, within_near 0x90 0xbf a b (omega arith) n, within_near 0x80 0x8f a b (omega arith) n, within_near 0x80 0xbf a b (omega arith) n)
    refl

pub tail_near : (a b : ℕ) → Near a b → tail a ≡ tail b
unfolding tail
tail_near a b n = within_near 0x80 0xbf a b (omega arith) n

by_ascii : (x : ℕ) → x < 128 → length_by x ≡ 1
unfolding length_by
by_ascii x h = simp (lt-ltb x 128 h)

module _ (l m : List ℕ) (e : length l ≡ length m) (n : (i : ℕ) → Near (get_or l i 0) (get_or m i 0)) where
  first_case : (a b : ℕ) → Near a b → get_or l 0 0 ≡ a → get_or m 0 0 ≡ b → char_length l ≡ char_length m
  unfolding char_length rest
  first_case a b same p q =
      rw (p, q, e, second_near a (get_or l 1 0) (get_or m 1 0) (n 1), tail_near (get_or l 2 0) (get_or m 2 0) (n 2), tail_near (get_or l 3 0) (get_or m 3 0) (n 3)) refl
  first_case a b (ascii h k) p q = rw (p, q, e, by_ascii a h, by_ascii b k) refl

  pub char_near : char_length l ≡ char_length m
  char_near = first_case (get_or l 0 0) (get_or m 0 0) (n 0) refl refl

pub over_raised : (k : Spot) (l : List ℕ) (r : ℕ) → over (raised_from k l) r ≡ over l r
unfolding over
over_raised k l r = ap (ltb r) (char_near (raised_from k l) l (raised_length k l) (near_at k l))

-- ---- a fold in the line changes nothing

-- CR, LF and the space are no letters, and leave the spot as it is
through : (k : Spot) (t : List ℕ) → raised_from k (13 ∷ 10 ∷ 32 ∷ t) ≡ 13 ∷ 10 ∷ 32 ∷ raised_from k t
unfolding raised_from upper
through Name t = refl
through Values t = refl
through Quotes t = refl
through Past t = refl

-- joined pieces, from the first octet on
abbrev text : List ℕ → ℕ → List ℕ
text l r = joined (cut_from l r)

text_goes : (x : ℕ) (xs : List ℕ) (r : ℕ) → over (x ∷ xs) r ≡ false → text (x ∷ xs) r ≡ x ∷ text xs (pred r)
unfolding joined
text_goes x xs r e = rw (first_goes x xs r e, later_goes x xs r e) (cons (later xs (pred r)))
  where
    cons : (qs : List (List ℕ)) → joined ((x ∷ first xs (pred r)) ∷ qs) ≡ x ∷ joined (first xs (pred r) ∷ qs)
    cons [] = refl
    cons (q ∷ qs) = refl

text_over : (x : ℕ) (xs : List ℕ) (r : ℕ) → over (x ∷ xs) r ≡ true → text (x ∷ xs) r ≡ 13 ∷ 10 ∷ 32 ∷ x ∷ text xs 73
unfolding joined
text_over x xs r e = rw (first_over x xs r e, later_over x xs r e) (cons (later xs 73))
  where
    cons : (qs : List (List ℕ)) → joined ([] ∷ (x ∷ first xs 73) ∷ qs) ≡ 13 ∷ 10 ∷ 32 ∷ x ∷ joined (first xs 73 ∷ qs)
    cons [] = refl
    cons (q ∷ qs) = refl

raised_text : (k : Spot) (l : List ℕ) (r : ℕ) → raised_from k (text l r) ≡ text (raised_from k l) r
unfolding raised_from first later joined
raised_text k [] r = refl
raised_text k (x ∷ xs) r = go (over (x ∷ xs) r) refl (raised_text (after k x) xs 73) (raised_text (after k x) xs (pred r))
  where
    go : (t : Bool) → over (x ∷ xs) r ≡ t → raised_from (after k x) (text xs 73) ≡ text (raised_from (after k x) xs) 73
        → raised_from (after k x) (text xs (pred r)) ≡ text (raised_from (after k x) xs) (pred r)
        → raised_from k (text (x ∷ xs) r) ≡ text (raised_from k (x ∷ xs)) r
    go true e a b =
        ap (raised_from k) (text_over x xs r e)
        ∙ through k (x ∷ text xs 73)
        ∙ ap (λ (t : List ℕ). 13 ∷ 10 ∷ 32 ∷ turned k x ∷ t) a
        ∙ sym (text_over (turned k x) (raised_from (after k x) xs) r (over_raised k (x ∷ xs) r ∙ e))
    go false e a b =
        ap (raised_from k) (text_goes x xs r e)
        ∙ ap (λ (t : List ℕ). turned k x ∷ t) b
        ∙ sym (text_goes (turned k x) (raised_from (after k x) xs) r (over_raised k (x ∷ xs) r ∙ e))

-- the end of a line is no letter
pub ends : (k : Spot) (l : List ℕ) → raised_from k (l ++ (13 ∷ 10 ∷ [])) ≡ raised_from k l ++ (13 ∷ 10 ∷ [])
unfolding raised_from upper
ends Name [] = refl
ends Values [] = refl
ends Quotes [] = refl
ends Past [] = refl
ends k (x ∷ xs) = ap (λ (t : List ℕ). turned k x ∷ t) (ends (after k x) xs)

-- Raising what was folded is folding what was raised.
pub raised_folded : (l : List ℕ) → raised (folded l) ≡ folded (raised l)
unfolding raised folded pieces
raised_folded l = ends Name (joined (pieces l)) ∙ ap (λ (t : List ℕ). t ++ (13 ∷ 10 ∷ [])) (raised_text Name l 75)

-- ---- in either style

pub styled_folded : (s : Style) (l : List ℕ) → length (folded (written s l)) ≡ length (folded l)
unfolding raised
styled_folded AsRead l = refl
styled_folded Raised l = ap length (sym (raised_folded l)) ∙ raised_length Name (folded l)

-- The folded form is as long in either style.
pub styled_lines : (s : Style) (ls : List (List ℕ)) → length (folded_lines (map (written s) ls)) ≡ length (folded_lines ls)
unfolding folded_lines
styled_lines s [] = refl
styled_lines s (l ∷ ls) =
    omega (arith, length-append (folded (written s l)) (folded_lines (map (written s) ls)), length-append (folded l) (folded_lines ls), styled_folded s l, styled_lines s ls)
