-- Encoding and decoding as changes of a text: which octets they allow, which are marks, and that a text without marks stays. Assumes nothing.
use mathlib.Core.Path.{◌≡◌, refl, sym, ap, ◌∙◌}
use mathlib.Core.Bool.{Bool, true, false, not, cond, ◌||◌}
use mathlib.Core.List.{List, [], ◌∷◌}
use Prim.Native.Nat.{ℕ, ◌+◌, ◌<◌, ◌≤◌}
use native.Mathlib.Omega.{arith}
use lib.Dec.{eqb, ltb}
use lib.ListN.{length}
use borrow.Author.Tests.{lt-ltb, le-ltb, ltb-true, ltb-false}
use Rattle.std.specs.List.{position_or_len}
use Rattle.octets.specs.Pick.{pick}
use Rattle.std.proofs.Common.{Some, None}
use Rattle.octets.specs.Classes.{quoted, run, more}
use Rattle.octets.specs.Counts.{any}
use Rattle.octets.specs.Room.{Filled, refuse, fill, fill_bounded}
use Rattle.octets.proofs.Bools.{clash, or_none_left, or_none_right}
use Rattle.octets.proofs.RoomLaws.{within_bound}
use Rattle.utf8.specs.Characters.{allowed}
use Rattle.text.proofs.OutcomeLaws.{Change}
use Rattle.label_marks.specs.Seen.{mark, amiss}
use Rattle.label_carets.specs.Encoded.{marked, encoded}
use Rattle.label_carets.specs.Decoded.{decoded}
use Rattle.label_carets.specs.declared.Rule.{Rule}
use Rattle.label_carets.specs.declared.Rule.TheVariants.{Rfc6350, Rfc6868}
use Rattle.label_carets.proofs.EncodeLaws.{old_encoded, none_encoded}
use Rattle.label_carets.proofs.PairLaws.{bare, old_decoded}
use Rattle.label.specs.Outcomes.{writable, unwritable, sayable}

-- ---- 44

-- the first octet that RFC 6350 can't write was found, or there is none
module _ (t room : List ℕ) (left : Filled) (n : ℕ) (e : n ≡ run writable t) where
  pub not_said : n < length t → refuse 44 n room ≡ sayable Rfc6350 t room left
  not_said h = simp (sym e, lt-ltb n (length t) h)

  pub said : length t ≤ n → left ≡ sayable Rfc6350 t room left
  said h = simp (sym e, le-ltb n (length t) h)

-- what the search for that octet answers
searched : (t : List ℕ) → position_or_len (λ b. eqb b 10 || eqb b 34) t ≡ run writable t
unfolding run writable
searched [] = refl
searched (x ∷ xs) = by (eqb x 10 || eqb x 34) (searched xs)
  where
    by : (u : Bool) {n m : ℕ} → n ≡ m → cond (not u) (1 + n) 0 ≡ more (not u) m
    by true e = refl
    by false e = omega arith

pub searched_all : (t : List ℕ) (n : ℕ) → n ≡ position_or_len (λ b. eqb b 10 || eqb b 34) t → cond (ltb n (length t)) (Some n) None ≡ unwritable t
unfolding unwritable
searched_all t n e = rw (e, searched t) (by (ltb (run writable t) (length t)) (run writable t))
  where
    by : (u : Bool) (n : ℕ) → cond u (Some n) None ≡ pick u (Some n) None
    by true n = refl
    by false n = refl

module _ (t : List ℕ) where
  pub found : {n : ℕ} → Some n ≡ unwritable t → (n ≡ run writable t) × (n < length t)
  unfolding unwritable
  found {n} e = by (ltb (run writable t) (length t)) refl e
    where
      by : (b : Bool) → ltb (run writable t) (length t) ≡ b → Some n ≡ pick b (Some (run writable t)) None → (n ≡ run writable t) × (n < length t)
      by true h e = let q : n ≡ run writable t = cc in (q, omega (arith, q, ltb-true (run writable t) (length t) h))
      by false h e = clash cc

  pub not_found : None ≡ unwritable t → length t ≤ run writable t
  unfolding unwritable
  not_found e = by (ltb (run writable t) (length t)) refl e
    where
      by : (b : Bool) → ltb (run writable t) (length t) ≡ b → None ≡ pick b (Some (run writable t)) None → length t ≤ run writable t
      by true h e = clash cc
      by false h e = ltb-false (run writable t) (length t) h

-- a value without marks can be written by either rule
writable_all : (t : List ℕ) → any marked t ≡ false → length t ≤ run writable t
unfolding any mark run writable
writable_all [] e = omega arith
writable_all (x ∷ xs) e =
    let m = or_none_right (eqb x 94) (eqb x 10 || eqb x 34) (or_none_left (marked x) (any marked xs) e) in
    rw m (omega (arith, writable_all xs (or_none_right (marked x) (any marked xs) e)))

pub unmarked_said : (r : Rule) (t room : List ℕ) (left : Filled) → any marked t ≡ false → left ≡ sayable r t room left
unmarked_said Rfc6350 t room left e = said t room left (run writable t) refl (writable_all t e)
unmarked_said Rfc6868 t room left e = refl

-- ---- the two changes

pub encode_same : (r : Rule) (t room : List ℕ) → length t ≤ 16384 → any marked t ≡ false → fill t room ≡ sayable r t room (fill_bounded (encoded r t) room)
encode_same r t room h e =
    within_bound t room (length t) refl h
    ∙ ap (λ (l : List ℕ). fill_bounded l room) (sym (none_encoded r t e))
    ∙ unmarked_said r t room (fill_bounded (encoded r t) room) e

abbrev pub encoding : Rule → Change
encoding r =
    record {
      allows = allowed true;
      amiss = amiss 10 0;
      holds = marked;
      left = λ t room. sayable r t room (fill_bounded (encoded r t) room);
      same = encode_same r;
    }

pub decode_same : (r : Rule) (t room : List ℕ) → length t ≤ 16384 → any (mark 94 94) t ≡ false → fill t room ≡ fill (decoded r t) room
decode_same r t room h e = ap (λ (l : List ℕ). fill l room) (sym (bare r t e))

abbrev pub decoding : Rule → Change
decoding r = record { allows = quoted; amiss = amiss 94 34; holds = mark 94 94; left = λ t room. fill (decoded r t) room; same = decode_same r }

-- what RFC 6350 writes is the value itself, and what it reads the label itself
pub old_fill : (t room : List ℕ) → length t ≤ 16384 → fill t room ≡ fill_bounded (encoded Rfc6350 t) room
old_fill t room h = within_bound t room (length t) refl h ∙ ap (λ (l : List ℕ). fill_bounded l room) (sym (old_encoded t))

pub old_decode : (t room : List ℕ) → fill t room ≡ fill (decoded Rfc6350 t) room
old_decode t room = ap (λ (l : List ℕ). fill l room) (sym (old_decoded t))
