-- The places of what fold and unescape refuse: each fits its half of a word. Assumes nothing.
use mathlib.Core.Path.{◌≡◌, refl, ap, ◌∙◌}
use mathlib.Core.Bool.{Bool, true, false}
use mathlib.Core.List.{List, [], ◌∷◌, map}
use Prim.Native.Nat.{ℕ, zero, suc, pred, ◌≤◌}
use native.Mathlib.Omega.{arith}
use lib.Dec.{ltb}
use lib.ListN.{length}
use borrow.Author.Tests.{ltb-true, ltb-false}
use Rattle.octets.specs.Pick.{pick}
use Rattle.octets.specs.Scan.{gather}
use Rattle.octets.specs.Room.{Filled, filled, overlay, refuse, fill, fill_bounded}
use Rattle.utf8.specs.Characters.{allowed, first_bad}
use Rattle.octets.specs.Room.{Written}
use Rattle.octets.specs.Room.{Wrote}
use Rattle.text_unescaping.specs.Unescaped.{first_fault, passed, standing, unescaped}
use Rattle.text.specs.Outcomes.{checked, faultless, unescape_outcome}
use Rattle.folder_line.specs.Pieces.{folded_lines}
use Rattle.folder_raising.specs.Walk.{written}
use Rattle.folder_raising.specs.declared.Style.TheVariants.{Raised}
use Rattle.folder.specs.Outcome.{fold_by, fold_in, fold_outcome}
use Rattle.reader.specs.Outcome.{judge_of}
use Rattle.line_folds.specs.Logical.{logical_lines}
use Rattle.reader.specs.Outcome.{Verdict}
use Rattle.reader.specs.Outcome.{Accepted, Refused as Rejected}
use Rattle.firmware.specs.Word.{written_word, Low, worded, word_outcome}
use Rattle.firmware.proofs.Places.{place_low}

-- a refusal at a place below a length, or the outcome that is left
low_refused : (n p l : ℕ) (room : List ℕ) (f : Filled) → l ≤ 16384 → Low f.answer → Low (pick (ltb p l) (refuse n p room) f).answer
low_refused n p l room f h k = by (ltb p l) refl
  where
    by : (t : Bool) → ltb p l ≡ t → Low (pick t (refuse n p room) f).answer
    by true e = omega (arith, ltb-true p l e)
    by false e = k

low_fill : (xs room : List ℕ) → length xs ≤ 16384 → Low (fill xs room).answer
unfolding fill
low_fill xs room h = by (ltb (length room) (length xs))
  where
    by : (t : Bool) → Low (pick t (refuse 15 (length xs) room) (filled (Wrote (length xs)) (overlay xs room))).answer
    by true = omega arith
    by false = tt

low_bounded : (xs room : List ℕ) → Low (fill_bounded xs room).answer
unfolding fill_bounded
low_bounded xs room = by (ltb 16384 (length xs)) refl
  where
    by : (t : Bool) → ltb 16384 (length xs) ≡ t → Low (pick t (refuse 16 16384 room) (fill xs room)).answer
    by true e = omega arith
    by false e = low_fill xs room (ltb-false 16384 (length xs) e)

low_checked : (p : ℕ → Bool) (t room : List ℕ) (f : Filled) → (length t ≤ 16384 → Low f.answer) → Low (checked p t room f).answer
unfolding checked
low_checked p t room f g = by (ltb 16384 (length t)) refl
  where
    by : (b : Bool) → ltb 16384 (length t) ≡ b
        → Low (pick b (refuse 1 16384 room) (pick (ltb (first_bad p t) (length t)) (refuse 31 (first_bad p t) room) f)).answer
    by true e = omega arith
    by false e =
        let h = ltb-false 16384 (length t) e in
        low_refused 31 (first_bad p t) (length t) room f h (g h)

-- unescaping makes no text longer
shorter : (l : List ℕ) (k : ℕ) → length (gather passed (λ (m : List ℕ). standing m ∷ []) l k) ≤ length l
unfolding gather
shorter [] k = omega arith
shorter (x ∷ xs) zero = omega (arith, shorter xs (pred (passed (x ∷ xs))))
shorter (x ∷ xs) (suc k) = omega (arith, shorter xs k)

pub low_unescape : (t room : List ℕ) → Low (unescape_outcome t room).answer
unfolding unescape_outcome faultless unescaped
low_unescape t room =
    low_checked (allowed false) t room _ (λ h.
    low_refused 30 (first_fault t) (length t) room _ h (low_fill _ room (omega (arith, shorter t 0))))

pub low_fold : (i room : List ℕ) → Low (fold_outcome i room).answer
unfolding fold_in fold_by
low_fold i room = by (judge_of i) refl
  where
    by : (v : Verdict) → judge_of i ≡ v → Low (fold_by Raised v i room).answer
    by (Accepted k n) e = low_bounded (folded_lines (map (written Raised) (logical_lines i))) room
    by (Rejected n p) e = omega (arith, place_low i n p e)

-- what the entry answered, and the word of it
pub low_of : {w : Written} {room : List ℕ} {f : Filled} → filled w room ≡ f → Low f.answer → Low w
low_of e h = rw (ap (λ (g : Filled). g.answer) e) h

pub said : {r : ℕ} {w : Written} {room : List ℕ} {f : Filled} → r ≡ written_word w → filled w room ≡ f → worded r room ≡ word_outcome f
said {r} {w} {room} e h = ap (λ (n : ℕ). worded n room) e ∙ ap word_outcome h
