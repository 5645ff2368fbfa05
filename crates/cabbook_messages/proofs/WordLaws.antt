-- The search for a refusal's words: what the table has at the start of a message. Assumes nothing.
use mathlib.Core.Path.{◌≡◌, refl, sym, ap, ◌∙◌}
use mathlib.Core.List.{List, [], ◌∷◌, ◌++◌}
use Prim.Native.Nat.{ℕ, ◌+◌, ◌-◌, ◌<◌, ◌≤◌}
use native.Mathlib.Numerals.{unary_clauses}
use native.Mathlib.Omega.{arith}
use lib.ListN.{length, get_or, take, drop, length-drop, length-append}
use lib.Seq.{get_or-drop, drop-drop, take-append_seam, drop-append_seam}
use borrow.Author.Tests.{eq-eqb, ne_eqb}
use Rattle.octets.specs.Ascii.{octets}
use Rattle.cabbook_messages.specs.Words.{Message, messages, words_in, words_of, table_of}

-- from a place on the table has these messages, and the words of number n are among them
pub record Searched (t : List ℕ) (n i : ℕ) (ms : List Message) : Type 0 where
  pub inside : i ≤ length t
  pub rest : drop i t ≡ table_of ms
  pub same : words_of n ≡ words_in ms n

-- a message stands at a place: its number, the length of its words, its words, and then other messages
pub record Stands (t : List ℕ) (n i : ℕ) (m : Message) (ms : List Message) : Type 0 where
  pub number : get_or t i 0 ≡ m.number
  pub size : get_or t (i + 1) 0 ≡ length (octets m.text)
  pub fits : i + 2 + length (octets m.text) ≤ length t
  pub text : take (length (octets m.text)) (drop (i + 2) t) ≡ octets m.text
  pub next : drop (i + 2 + length (octets m.text)) t ≡ table_of ms
  pub same : words_of n ≡ words_in (m ∷ ms) n

pub begin : (t : List ℕ) (n : ℕ) → t ≡ table_of messages → Searched t n 0 messages
unfolding words_of
begin t n e = record { inside = omega arith; rest = e; same = refl }

module _ {t : List ℕ} {n i : ℕ} where
  stands_at : (m : Message) (ms : List Message) → Searched t n i (m ∷ ms) → Stands t n i m ms
  unfolding table_of
  stands_at m ms s =
      let w = octets m.text in
      let e = s.rest in
      let after : drop (i + 2) t ≡ w ++ table_of ms = sym (drop-drop 2 i t) ∙ ap (drop 2) e in
      let l : length t - i ≡ 2 + (length w + length (table_of ms)) = sym (length-drop i t) ∙ ap length e ∙ simp length-append (omega arith) in
      record {
        number = sym (simp unary_clauses at (get_or-drop i t 0 0)) ∙ ap (λ (x : List ℕ). get_or x 0 0) e;
        size = sym (get_or-drop i t 1 0) ∙ ap (λ (x : List ℕ). get_or x 1 0) e;
        fits = omega arith;
        text = ap (take (length w)) after ∙ take-append_seam w (table_of ms);
        next = sym (drop-drop (length w) (i + 2) t) ∙ ap (drop (length w)) after ∙ drop-append_seam w (table_of ms);
        same = s.same;
      }

  -- before the table's end a message stands
  pub stands : (ms : List Message) → Searched t n i ms → i < length t → (m : Message) × ((rest : List Message) × Stands t n i m rest)
  unfolding table_of
  stands [] s h = absurd (omega (arith, length-drop i t, ap length s.rest))
  stands (m ∷ ms) s h = (m, (ms, stands_at m ms s))

  pub found : {m : Message} {ms : List Message} → Stands t n i m ms → n ≡ get_or t i 0 → words_of n ≡ octets m.text
  unfolding words_in
  found {m} {ms} s e = s.same ∙ rw (eq-eqb n m.number (e ∙ s.number))

  pub passed : {m : Message} {ms : List Message} → Stands t n i m ms → (n ≡ get_or t i 0 → ⊥) → Searched t n (i + 2 + get_or t (i + 1) 0) ms
  unfolding words_in
  passed {m} {ms} s e =
      record {
        inside = omega (arith, s.size, s.fits);
        rest = rw s.size s.next;
        same = s.same ∙ rw (ne_eqb n m.number (λ q. e (q ∙ sym s.number)));
      }

  pub none : (ms : List Message) → Searched t n i ms → length t ≤ i → words_of n ≡ []
  unfolding table_of words_in
  none [] s h = s.same
  none (m ∷ ms) s h = absurd (omega (arith, length-drop i t, ap length s.rest))
