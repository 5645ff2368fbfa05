-- The rooms of a card's places: a room that grows, one that is too small, and all of them together. Assumes nothing.
use mathlib.Core.Path.{◌≡◌, refl, sym, ap, ◌∙◌}
use mathlib.Core.List.{List, [], ◌++◌, append-nil, append_assoc}
use Prim.Native.Nat.{ℕ, ◌+◌, ◌-◌, ◌<◌, ◌≤◌}
use native.Mathlib.Omega.{arith}
use lib.ListN.{length, take, drop, length-append}
use lib.Seq.{length-take-le}
use Rattle.std.specs.Prelude.{Option, Some, None, Result}
use borrow.Author.Tests.{eq-eqb, ne_eqb}
use borrow.Rule.Slice.PartMut.{put_mid}
use Rattle.octets.specs.Room.{overlay}
use Rattle.octets.proofs.Writes.{Written}
use Rattle.line_unfolding.proofs.PutLaws.{put_part}
use Rattle.numbers.specs.declared.refusal.Refusal.{Refusal}
use Rattle.line_folds.specs.Logical.{logical_lines}
use Rattle.version3_parameters.specs.declared.Way.{Way}
use Rattle.version3.specs.declared.sheet.Ends.{Ends}
use Rattle.line_folds.specs.Folds.{line_length, unfolded}
use Rattle.folder_line.specs.Pieces.{folded}
use Rattle.version3.specs.Card.{turn_of, form_of, card_text}
use Rattle.version3.specs.Places.{placed, share, Within, Lent, joined_by, Grown, Shared, Overfull, first_over, second_over, others_over, Sorted, Halfway, Narrow, first_narrow, second_narrow, others_narrow, TriedBy, Attempt}
use Rattle.version3.proofs.CardLaws.{card_places, places_turn, none_left, forms_none}

share_own : (n turn : ℕ) (x : List ℕ) → turn ≡ n → share n turn x ≡ x
unfolding share
share_own n turn x e = rw (eq-eqb turn n e)

share_none : (n turn : ℕ) (x : List ℕ) → (turn ≡ n → ⊥) → share n turn x ≡ []
unfolding share
share_none n turn x e = rw (ne_eqb turn n e)

-- the room of the line's own place, and the room of another one
module _ (n turn : ℕ) (x : List ℕ) where
  pub own : {a a' : List ℕ} {w m : ℕ} → turn ≡ n → Grown x a a' w m → Grown (share n turn x) a a' w m
  own e g = rw (share_own n turn x e) g

  pub own_over : (a : List ℕ) (w : ℕ) → turn ≡ n → length a < w + length x → length a < w + length (share n turn x)
  own_over a w e h = rw (share_own n turn x e) h

  pub other : (a : List ℕ) (w : ℕ) → (turn ≡ n → ⊥) → w ≤ length a → Grown (share n turn x) a a w w
  other a w e h = rw (share_none n turn x e) (record { upto = omega arith; inside = h; text = sym (append-nil (take w a)) })

-- x was put to the start of the tail of a room from w on
pub grown : (x room part : List ℕ) (w m : ℕ) → w + length x ≤ length room → m ≡ length x → part ≡ overlay x (take (length room - w) (drop w room))
    → Grown x room (put_mid w (length room - w) room part) w (w + m)
grown x room part w m h e q =
    let p : Written (take w room ++ x) [] room (put_mid w (length room - w) room part) (w + length x) = put_part {rest = x} (record { done = refl; left = refl; same = refl; inside = omega arith }) x [] part (sym (append-nil x)) h q in
    rw e (record { upto = refl; inside = p.inside; text = sym (p.done ∙ append-nil _) })

-- what was to be written to a room: x is next, and then the rest
module _ (all x rest room : List ℕ) (w : ℕ) (h : all ≡ take w room ++ (x ++ rest)) where
  pub grow : (room' : List ℕ) (m : ℕ) → Grown x room room' w m → all ≡ take m room' ++ rest
  grow room' m g = h ∙ sym (append_assoc (take w room) x rest) ∙ ap (λ (r : List ℕ). r ++ rest) (sym g.text)

  pub outgrown : w ≤ length room → length room < w + length x → length room < length all
  outgrown k o = omega (arith, ap length h, length-append (take w room) (x ++ rest), length-append x rest, length-take-le w room k)

-- no place has more than the card
module _ (w : Way) (i : List ℕ) where
  abbrev place : ℕ → List ℕ
  place n = placed w n (logical_lines i)

  sizes : length (card_text w i) ≡ length (place 0) + length (place 1) + length (place 2)
  sizes = ap length (card_places w i) ∙ length-append (place 0 ++ place 1) (place 2) ∙ ap (λ (k : ℕ). k + length (place 2)) (length-append (place 0) (place 1))

  pub first_size : (k : ℕ) → k < length (place 0) → k < length (card_text w i)
  first_size k h = omega (arith, sizes)

  pub second_size : (k : ℕ) → k < length (place 1) → k < length (card_text w i)
  second_size k h = omega (arith, sizes)

  pub others_size : (k : ℕ) → k < length (place 2) → k < length (card_text w i)
  others_size k h = omega (arith, sizes)

  pub joined_card : (e : Ends) (a b c : List ℕ) → Sorted w i e a b c → joined_by e a b c ≡ card_text w i
  joined_card e a b c r = sym (card_places w i ∙ sym (rw (r.first_lines, r.second_lines, r.others_lines)))

  -- with room for every card a card that does not fit is over 16,384 octets
  pub narrow_over : Narrow w i 16384 16384 16384 → 16384 < length (card_text w i)
  narrow_over (first_narrow k) = k
  narrow_over (second_narrow k) = k
  narrow_over (others_narrow k) = k

-- what was written to each room, one after the other
module _ (e : Ends) (a b c : List ℕ) (h : Within e a b c) where
  pub first_length : length (take e.first a) ≡ e.first
  first_length = length-take-le e.first a h.first_in

  pub second_length : length (take e.second b) ≡ e.second
  second_length = length-take-le e.second b h.second_in

  pub others_length : length (take e.others c) ≡ e.others
  others_length = length-take-le e.others c h.others_in

  pub both_length : e.first + e.second ≡ length (take e.first a ++ take e.second b)
  both_length = omega (arith, length-append (take e.first a) (take e.second b), first_length, second_length)

  pub joined_length : e.first + e.second + e.others ≡ length (joined_by e a b c)
  joined_length = omega (arith, length-append (take e.first a ++ take e.second b) (take e.others c), both_length, others_length)

pub begun : (w : Way) (s a b c : List ℕ) → Halfway w s a b c 0 (record { first = 0; second = 0; others = 0 })
begun w s a b c =
    record {
      first_in = omega arith;
      second_in = omega arith;
      others_in = omega arith;
      first_done = refl;
      second_done = refl;
      others_done = refl;
    }

module _ {w : Way} {s a b c : List ℕ} {at : ℕ} {e : Ends} (h : Halfway w s a b c at e) where
  pub within : Lent a b c → Within e a b c
  within m =
      record {
        first_in = h.first_in;
        second_in = h.second_in;
        others_in = h.others_in;
        first_most = m.0;
        second_most = m.1;
        others_most = m.2;
      }

  all_done : (n : ℕ) (all room : List ℕ) (k : ℕ) → length s ≤ at → all ≡ take k room ++ placed w n (logical_lines (drop at s)) → take k room ≡ all
  all_done n all room k z q =
      sym (q ∙ ap (λ (r : List ℕ). take k room ++ r) (ap (placed w n) (none_left s at z) ∙ forms_none w n) ∙ append-nil (take k room))

  pub ended : length s ≤ at → Lent a b c → Sorted w s e a b c
  ended z m =
      record {
        within = within m;
        first_lines = all_done 0 _ a e.first z h.first_done;
        second_lines = all_done 1 _ b e.second z h.second_done;
        others_lines = all_done 2 _ c e.others z h.others_done;
      }

  -- the line from `at` to t is next
  module _ (t : ℕ) (lt : at < length s) (he : t ≡ at + line_length (drop at s)) (le : t ≤ length s) where
    abbrev l : List ℕ
    l = unfolded (take (t - at) (drop at s))

    abbrev gets : ℕ → List ℕ
    gets n = share n (turn_of l) (folded (form_of w l))

    split : (n : ℕ) (all room : List ℕ) (k : ℕ) → all ≡ take k room ++ placed w n (logical_lines (drop at s))
        → all ≡ take k room ++ (gets n ++ placed w n (logical_lines (drop (t + 2) s)))
    split n all room k q = q ∙ ap (λ (r : List ℕ). take k room ++ r) (places_turn s at t lt he le w n)

    module _ (a' b' c' : List ℕ) (sa : length a' ≡ length a) (sb : length b' ≡ length b) (sc : length c' ≡ length c) where
      pub onward : (m : Ends) → Shared (turn_of l) (folded (form_of w l)) e m a b c a' b' c' → Halfway w s a' b' c' (t + 2) m
      onward m r =
          record {
            first_in = r.first_share.inside;
            second_in = r.second_share.inside;
            others_in = r.others_share.inside;
            first_done = grow _ (gets 0) (placed w 0 (logical_lines (drop (t + 2) s))) a e.first (split 0 _ a e.first h.first_done) a' m.first r.first_share;
            second_done = grow _ (gets 1) (placed w 1 (logical_lines (drop (t + 2) s))) b e.second (split 1 _ b e.second h.second_done) b' m.second r.second_share;
            others_done = grow _ (gets 2) (placed w 2 (logical_lines (drop (t + 2) s))) c e.others (split 2 _ c e.others h.others_done) c' m.others r.others_share;
          }

      pub cramped : Overfull (turn_of l) (folded (form_of w l)) e a b c → Narrow w s (length a') (length b') (length c')
      cramped (first_over o) =
          first_narrow (first_size w s (length a') (rw sa (outgrown _ (gets 0) (placed w 0 (logical_lines (drop (t + 2) s))) a e.first (split 0 _ a e.first h.first_done) h.first_in o)))
      cramped (second_over o) =
          second_narrow (second_size w s (length b') (rw sb (outgrown _ (gets 1) (placed w 1 (logical_lines (drop (t + 2) s))) b e.second (split 1 _ b e.second h.second_done) h.second_in o)))
      cramped (others_over o) =
          others_narrow (others_size w s (length c') (rw sc (outgrown _ (gets 2) (placed w 2 (logical_lines (drop (t + 2) s))) c e.others (split 2 _ c e.others h.others_done) h.others_in o)))

pub narrowed : {w : Way} {i : List ℕ} {a b c a' b' c' : ℕ} → Narrow w i a b c → a ≡ a' → b ≡ b' → c ≡ c' → Narrow w i a' b' c'
narrowed n p q r = rw (← p, ← q, ← r) n

pub attempted : (w : Way) (i : List ℕ) (a b c : ℕ) (before after : List ℕ) (r : Option (Result ℕ Refusal)) → TriedBy w i a b c before after r
    → Attempt w i before after r
attempted w i a b c before after (Some r) h = h
attempted w i a b c before after None h = h.0
