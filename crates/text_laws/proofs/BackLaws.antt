-- What escape wrote, unescape turns back: the law of demand 2. Assumes nothing.
use mathlib.Core.Path.{◌≡◌, refl, sym, ap, subst, ◌∙◌}
use mathlib.Core.Bool.{Bool, true, false, ◌||◌, true≢false}
use mathlib.Core.List.{List, [], ◌∷◌, ◌++◌}
use Prim.Native.Nat.{ℕ, ◌≤◌}
use native.Mathlib.Omega.{arith}
use lib.Dec.{eqb, ltb}
use lib.ListN.{length, take, drop}
use lib.Seq.{take_at}
use borrow.Author.Tests.{eqb-true, ltb-false, le-ltb}
use Rattle.octets.specs.Pick.{pick}
use Rattle.octets.specs.Room.{Filled, filled, refuse, overlay, fill, fill_bounded}
use Rattle.octets.specs.Room.{Wrote, Refused}
use Rattle.octets.proofs.Bools.{clash}
use Rattle.utf8.specs.Characters.{allowed, first_bad}
use Rattle.utf8.proofs.Chars.{bad_le}
use Rattle.text_marks.specs.Marks.{special, marked}
use Rattle.text_escaping.specs.Escaped.{letter, in_escape, escaped}
use Rattle.text_unescaping.specs.Unescaped.{first_fault, unescaped}
use Rattle.text.specs.Outcomes.{checked, faultless, escape_outcome, unescape_outcome}
use Rattle.text_laws.specs.Stands.{Escape, backslash, comma, semicolon, small_n, Stands, none, itself, escape}
use Rattle.text.proofs.OutcomeLaws.{no_fault}
use Rattle.octets.proofs.RoomLaws.{fill_fits}
use Rattle.text_laws.proofs.StandsLaws.{passes, gives}
use Rattle.text_laws.proofs.CleanLaws.{clean_escaped}

-- the escape of an octet that escaping changes
mark_escape : (x : ℕ) → marked x ≡ true → Escape (letter x) x
unfolding marked special letter
mark_escape x = by (eqb x 92) (eqb x 44) (eqb x 59) (eqb x 10) refl refl refl refl
  where
    is : (k : ℕ) → x ≡ k → Escape (letter k) k → Escape (letter x) x
    is k q e = subst (λ (n : ℕ). Escape (letter n) n) (sym q) e

    by : (a b c d : Bool) → eqb x 92 ≡ a → eqb x 44 ≡ b → eqb x 59 ≡ c → eqb x 10 ≡ d → ((a || (b || c)) || d) ≡ true → Escape (letter x) x
    by true b c d p q r s z = is 92 (eqb-true x 92 p) backslash
    by false true c d p q r s z = is 44 (eqb-true x 44 q) comma
    by false false true d p q r s z = is 59 (eqb-true x 59 r) semicolon
    by false false false true p q r s z = is 10 (eqb-true x 10 s) small_n
    by false false false false p q r s z = absurd (true≢false (sym z))

stays_itself : (x : ℕ) → marked x ≡ false → (x ≡ 44 → ⊥) × (x ≡ 92 → ⊥)
unfolding marked special
stays_itself x m = (λ e. true≢false (sym (ap (λ (n : ℕ). (eqb n 92 || (eqb n 44 || eqb n 59)) || eqb n 10) e) ∙ m), λ e. true≢false (sym (ap (λ (n : ℕ). (eqb n 92 || (eqb n 44 || eqb n 59)) || eqb n 10) e) ∙ m))

-- every text's escaped form is text with escapes, which stands for it
pub escaped_stands : (t : List ℕ) → Stands (escaped t) t
unfolding escaped in_escape
escaped_stands [] = none
escaped_stands (x ∷ xs) = by (marked x) refl (escaped_stands xs)
  where
    by : (m : Bool) → marked x ≡ m → Stands (escaped xs) xs → Stands (pick m (92 ∷ letter x ∷ []) (x ∷ []) ++ escaped xs) (x ∷ xs)
    by true m h = escape (mark_escape x m) h
    by false m h = itself (stays_itself x m).0 (stays_itself x m).1 h

-- what an accepted escape has shown
record Taken (t room : List ℕ) (m : ℕ) (after : List ℕ) : Type 0 where
  clean : first_bad (allowed true) t ≡ length t
  bound : length (escaped t) ≤ 16384
  count : m ≡ length (escaped t)
  wrote : after ≡ overlay (escaped t) room

apart : {A : Type 0} (n p m : ℕ) → Refused n p ≡ Wrote m → A
apart n p m e = clash cc

same_count : (n m : ℕ) → Wrote n ≡ Wrote m → m ≡ n
same_count n m e = cc

refused : {A : Type 0} (room after : List ℕ) (n p m : ℕ) → refuse n p room ≡ filled (Wrote m) after → A
refused room after n p m e = apart n p m (ap (λ (f : Filled). f.answer) e)

taken : (t room after : List ℕ) (m : ℕ) → escape_outcome t room ≡ filled (Wrote m) after → Taken t room m after
unfolding escape_outcome checked fill_bounded fill
taken t room after m = by (ltb 16384 (length t)) (ltb (first_bad (allowed true) t) (length t)) refl (ltb 16384 (length (escaped t))) refl (ltb (length room) (length (escaped t)))
  where
    by : (a b : Bool) → ltb (first_bad (allowed true) t) (length t) ≡ b → (c : Bool) → ltb 16384 (length (escaped t)) ≡ c → (d : Bool)
        → pick a (refuse 1 16384 room) (pick b (refuse 31 (first_bad (allowed true) t) room) (pick c (refuse 16 16384 room) (pick d (refuse 15 (length (escaped t)) room) (filled (Wrote (length (escaped t))) (overlay (escaped t) room)))))
        ≡ filled (Wrote m) after → Taken t room m after
    by true b p c q d e = refused room after 1 16384 m e
    by false true p c q d e = refused room after 31 (first_bad (allowed true) t) m e
    by false false p true q d e = refused room after 16 16384 m e
    by false false p false q true e = refused room after 15 (length (escaped t)) m e
    by false false p false q false e =
        record { clean = omega (arith, ltb-false (first_bad (allowed true) t) (length t) p, bad_le (allowed true) t); bound = ltb-false 16384 (length (escaped t)) q; count = same_count (length (escaped t)) m (ap (λ (f : Filled). f.answer) e); wrote = sym (ap (λ (f : Filled). f.room) e) }

-- a text that is not too long and has no bad octet passes both refusals
good : (t room : List ℕ) (left : Filled) → length t ≤ 16384 → first_bad (allowed false) t ≡ length t → left ≡ checked (allowed false) t room left
unfolding checked
good t room left h e = simp (le-ltb 16384 (length t) h, e, le-ltb (length t) (length t) (omega arith))

-- the escaped form of a text that escape takes gives the text back
pub back : (t room : List ℕ) → first_bad (allowed true) t ≡ length t → length (escaped t) ≤ 16384 → length t ≤ length room
    → unescape_outcome (escaped t) room ≡ filled (Wrote (length t)) (overlay t room)
unfolding unescape_outcome
back t room c h r =
    let s = escaped_stands t in
    sym
    (fill_fits (unescaped (escaped t)) room (length t) (ap length (sym (gives s))) r (overlay t room) (ap (λ (w : List ℕ). w ++ drop (length t) room) (sym (gives s)))
    ∙ no_fault (escaped t) room (fill (unescaped (escaped t)) room) (first_fault (escaped t)) refl (omega (arith, passes s))
    ∙ good (escaped t) room (faultless (escaped t) room (fill (unescaped (escaped t)) room)) h (clean_escaped t c))

-- where escape wrote m octets, unescaping those m octets, into any room that takes the text, gives the text back octet for octet
pub round_trip : (t out after room : List ℕ) (m : ℕ) → escape_outcome t out ≡ filled (Wrote m) after → length t ≤ length room
    → unescape_outcome (take m after) room ≡ filled (Wrote (length t)) (overlay t room)
round_trip t out after room m e r =
    let k = taken t out after m e in
    let w : take m after ≡ escaped t = ap (take m) k.wrote ∙ take_at (escaped t) (drop (length (escaped t)) out) m (sym k.count) in
    ap (λ (l : List ℕ). unescape_outcome l room) w ∙ back t room k.clean k.bound r
