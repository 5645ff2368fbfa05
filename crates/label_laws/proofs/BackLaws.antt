-- The laws of the outcomes, over the rule. Assumes nothing.
use mathlib.Core.Path.{◌≡◌, refl, sym, ap, ◌∙◌}
use mathlib.Core.Bool.{Bool, true, false}
use mathlib.Core.List.{List, [], ◌∷◌}
use Prim.Native.Nat.{ℕ, suc, ◌≤◌}
use native.Mathlib.Omega.{arith}
use lib.Dec.{ltb}
use lib.ListN.{length, take, drop}
use lib.Seq.{take-append_seam}
use borrow.Author.Tests.{ltb-false, le-ltb}
use Rattle.octets.specs.Pick.{pick}
use Rattle.octets.specs.Classes.{quoted, run, more}
use Rattle.octets.specs.Room.{Filled, filled, refuse, overlay, fill, fill_bounded}
use Rattle.octets.specs.Room.{Wrote, Refused}
use Rattle.octets.proofs.Bools.{clash}
use Rattle.utf8.specs.Characters.{allowed, first_bad}
use Rattle.utf8.proofs.Chars.{bad_le}
use Rattle.text.specs.Outcomes.{checked}
use Rattle.label_carets.specs.Encoded.{encoded}
use Rattle.label_carets.specs.Decoded.{decoded}
use Rattle.label_carets.specs.declared.Rule.{Rule}
use Rattle.label_carets.specs.declared.Rule.TheVariants.{Rfc6350, Rfc6868}
use Rattle.label.specs.Outcomes.{writable, sayable, encode_outcome, decode_outcome}
use Rattle.label_laws.specs.Reads.{Caretless, Sayable}
use Rattle.label_laws.proofs.ReadsLaws.{caretless, decoded_encoded}
use Rattle.label_laws.proofs.QuotedLaws.{encoded_fair, new_says, old_says}

-- xs stand at the start of the room, which is as it was past them
abbrev pub wrote : List ℕ → List ℕ → Filled
wrote xs room = filled (Wrote (length xs)) (overlay xs room)

-- Shown for both at once: whatever the room, a value without a caret has the same outcome under any two rules.
pub same_outcome : (r s : Rule) (t room : List ℕ) → Caretless t → decode_outcome r t room ≡ decode_outcome s t room
unfolding decode_outcome
same_outcome r s t room c = ap (λ (x : List ℕ). checked quoted t room (fill x room)) (caretless r t c ∙ sym (caretless s t c))

-- ---- where octets were written, no refusal was answered

never : {A : Type 0} (k p n : ℕ) (room after : List ℕ) → refuse k p room ≡ filled (Wrote n) after → A
never k p n room after e = let w : Refused k p ≡ Wrote n = ap (λ (f : Filled). f.answer) e in clash cc

module _ (n : ℕ) (after : List ℕ) where
  passed : (p : ℕ → Bool) (t room : List ℕ) (left : Filled) → checked p t room left ≡ filled (Wrote n) after → (first_bad p t ≡ length t) × (left ≡ filled (Wrote n) after)
  unfolding checked
  passed p t room left e = by (ltb 16384 (length t)) (ltb (first_bad p t) (length t)) refl e
    where
      by : (a b : Bool) → ltb (first_bad p t) (length t) ≡ b → pick a (refuse 1 16384 room) (pick b (refuse 31 (first_bad p t) room) left) ≡ filled (Wrote n) after
          → (first_bad p t ≡ length t) × (left ≡ filled (Wrote n) after)
      by true b h e = never 1 16384 n room after e
      by false true h e = never 31 (first_bad p t) n room after e
      by false false h e = (omega (arith, ltb-false (first_bad p t) (length t) h, bad_le p t), e)

  fit : (xs room : List ℕ) → fill xs room ≡ filled (Wrote n) after → (n ≡ length xs) × (after ≡ overlay xs room)
  unfolding fill
  fit xs room e = by (ltb (length room) (length xs)) e
    where
      count : Wrote (length xs) ≡ Wrote n → n ≡ length xs
      count e = cc

      by : (a : Bool) → pick a (refuse 15 (length xs) room) (wrote xs room) ≡ filled (Wrote n) after → (n ≡ length xs) × (after ≡ overlay xs room)
      by true e = never 15 (length xs) n room after e
      by false e = (count (ap (λ (f : Filled). f.answer) e), sym (ap (λ (f : Filled). f.room) e))

  bounded : (xs room : List ℕ) → fill_bounded xs room ≡ filled (Wrote n) after → (length xs ≤ 16384) × (fill xs room ≡ filled (Wrote n) after)
  unfolding fill_bounded
  bounded xs room e = by (ltb 16384 (length xs)) refl e
    where
      by : (a : Bool) → ltb 16384 (length xs) ≡ a → pick a (refuse 16 16384 room) (fill xs room) ≡ filled (Wrote n) after
          → (length xs ≤ 16384) × (fill xs room ≡ filled (Wrote n) after)
      by true h e = never 16 16384 n room after e
      by false h e = (ltb-false 16384 (length xs) h, e)

pub run_le : (p : ℕ → Bool) (l : List ℕ) → run p l ≤ length l
unfolding run
run_le p [] = omega arith
run_le p (x ∷ xs) = by (p x) (run_le p xs)
  where
    by : (b : Bool) → run p xs ≤ length xs → more b (run p xs) ≤ suc (length xs)
    by true h = omega arith
    by false h = omega arith

said : (r : Rule) (t room after : List ℕ) (n : ℕ) (left : Filled) → sayable r t room left ≡ filled (Wrote n) after → Sayable r t × (left ≡ filled (Wrote n) after)
said Rfc6868 t room after n left e = (new_says t, e)
said Rfc6350 t room after n left e = by (ltb (run writable t) (length t)) refl e
  where
    by : (b : Bool) → ltb (run writable t) (length t) ≡ b → pick b (refuse 44 (run writable t) room) left ≡ filled (Wrote n) after
        → Sayable Rfc6350 t × (left ≡ filled (Wrote n) after)
    by true h e = never 44 (run writable t) n room after e
    by false h e = (old_says t (omega (arith, ltb-false (run writable t) (length t) h, run_le writable t)), e)

-- ---- where encode and decode wrote

-- the label is short and may stand between quote marks, and its octets are those written
pub record Encoded (r : Rule) (t out after : List ℕ) (n : ℕ) : Type 0 where
  pub fair : first_bad quoted (encoded r t) ≡ length (encoded r t)
  pub short : length (encoded r t) ≤ 16384
  pub count : n ≡ length (encoded r t)
  pub holds : after ≡ overlay (encoded r t) out

pub wrote_encoded : (r : Rule) (t out after : List ℕ) (n : ℕ) → encode_outcome r t out ≡ filled (Wrote n) after → Encoded r t out after n
unfolding encode_outcome
wrote_encoded r t out after n e =
    let c = passed n after (allowed true) t out (sayable r t out (fill_bounded (encoded r t) out)) e in
    let s = said r t out after n (fill_bounded (encoded r t) out) c.1 in
    let b = bounded n after (encoded r t) out s.1 in
    let f = fit n after (encoded r t) out b.1 in
    record { fair = encoded_fair r t c.0 s.0; short = b.0; count = f.0; holds = f.1 }

pub wrote_decoded : (r : Rule) (t out after : List ℕ) (n : ℕ) → decode_outcome r t out ≡ filled (Wrote n) after → (n ≡ length (decoded r t)) × (after ≡ overlay (decoded r t) out)
unfolding decode_outcome
wrote_decoded r t out after n e = fit n after (decoded r t) out (passed n after quoted t out (fill (decoded r t) out) e).1

pub written : {r : Rule} {t out after : List ℕ} {n : ℕ} → Encoded r t out after n → take n after ≡ encoded r t
written {r} {t} {out} w = rw (w.count, w.holds) (take-append_seam (encoded r t) (drop (length (encoded r t)) out))

-- One statement for both rules: what encode wrote, decode gives back, where there is room.
pub back : (r : Rule) (t out after room : List ℕ) (n : ℕ) → encode_outcome r t out ≡ filled (Wrote n) after → length t ≤ length room
    → decode_outcome r (take n after) room ≡ wrote t room
unfolding decode_outcome checked fill
back r t out after room n e h =
    let w = wrote_encoded r t out after n e in
    rw (written w, decoded_encoded r t, le-ltb 16384 (length (encoded r t)) w.short, le-ltb (first_bad quoted (encoded r t)) (length (encoded r t)) (omega (arith, w.fair)), le-ltb (length room) (length t) h) refl
