-- States that were handed on: they can be worked with, claim no more than the buffer has, and start with any buffer. Assumes nothing.
use mathlib.Core.Path.{◌≡◌, refl, sym, ap, subst, ◌∙◌}
use mathlib.Core.List.{List, [], ◌∷◌, ◌++◌}
use Prim.Native.Nat.{ℕ, ◌+◌, ◌-◌, ◌<◌, ◌≤◌}
use native.Mathlib.Omega.{arith}
use lib.ListN.{length, take, drop, replicate, drop_of_length-le}
use Rattle.card_state.specs.State.{Next, fresh_card}
use Rattle.card_state.specs.Kept.{fresh_kept}
use Rattle.card_state.specs.declared.Card.{Card as Kept}
use Rattle.card_state.proofs.KeptLaws.{card_front, none_lie, fresh_card_lem}
use Rattle.desk_pool.specs.Pools.{patch}
use Rattle.reader_walk.specs.Walk.{judge_lines}
use Rattle.watch_buffer.specs.Buffer.{padded}
use Rattle.watch_buffer.proofs.BufferLaws.{clear_padded}
use Rattle.watch_arrivals.specs.Arrivals.{tail_from, lone_from, next_from}
use Rattle.watch_arrivals.proofs.ArrivalLaws.{tail_short}
use Rattle.watch_lines.specs.Parting.{part_by, parted, open_line}
use Rattle.watch_lines.specs.Values.{values_from}
use Rattle.watch_lines.specs.Taking.{Within}
use Rattle.watch_lines.proofs.RunLaws.{open_law}
use Rattle.watch.specs.Octets.{judged, altid_octets, buffer_after}
use Rattle.watch.specs.declared.Watch.{Watch}
use Rattle.watch.specs.State.{fresh_watch, claims, Sound, Quiet, Stands, Reached}
use Rattle.watch.specs.State.Stands.{live, faulty, broken, over}
use Rattle.watch.proofs.ArriveLaws.{known_none, buffer_open}
use Rattle.watch.proofs.FaultLaws.{counted}

fresh_within : (n : ℕ) → Within fresh_kept n
fresh_within n = record { lies = none_lie; used = omega arith; cards = omega arith; lines = omega arith }

-- a state that claims nothing
quiet_within : (w : Watch) (n : ℕ) → Quiet w n → Within w.card w.start
quiet_within w n q = subst (λ (c : Kept). Within c w.start) (sym q.card) (fresh_within w.start)

pub reached_sound : (w : Watch) (b i : List ℕ) → Stands w b i → Sound w
reached_sound w b i (live l) =
    let t = tail_short 0 i in
    let u = tail_short 0 (open_line i) in
    record {
      counts = record {
        short = omega (arith, l.count, l.short);
        tail = omega (arith, l.tail, t, l.count);
        line = λ n. omega (arith, l.tail, (open_law i).tail, u, l.line);
      };
      card = l.within;
    }
reached_sound w b i (faulty f) =
    let q = f.quiet in
    record {
      counts = record { short = omega (arith, q.start, q.line, f.short); tail = omega (arith, f.tail, tail_short 0 i, q.start, q.line); line = λ n. absurd (n f.known) };
      card = quiet_within w (length i) q;
    }
reached_sound w b i (broken f) =
    let q = f.quiet in
    record {
      counts = record { short = omega (arith, q.start, q.line, f.short); tail = omega (arith, f.tail); line = λ n. omega (arith, f.tail) };
      card = quiet_within w (length i) q;
    }
reached_sound w b i (over f) =
    let q = f.quiet in
    record {
      counts = record { short = omega (arith, q.start, q.line); tail = omega (arith, f.tail); line = λ n. omega (arith, f.tail) };
      card = quiet_within w 16384 q;
    }

-- 46 is not met by a state that can be worked with
pub sound_claims : (w : Watch) → Sound w → claims w ≤ 16384
sound_claims w s = omega (arith, s.card.used, s.counts.short)

-- what a state says is in the values at the buffer's front
pub stands_front : (w : Watch) (b b' i : List ℕ) → take w.card.used b ≡ take w.card.used b' → Stands w b i → Stands w b' i
stands_front w b b' i e (faulty f) = faulty f
stands_front w b b' i e (broken f) = broken f
stands_front w b b' i e (over f) = over f
stands_front w b b' i e (live l) = live (record {
  known = l.known;
  short = l.short;
  fine = l.fine;
  card = l.card ∙ ap Next (card_front w.card b b' l.within.lies e);
  values = l.values;
  count = l.count;
  line = l.line;
  tail = l.tail;
  within = l.within;
})

-- before the first octet
pub none_judged : judged [] ≡ Next fresh_card
unfolding judged parted part_by next_from judge_lines
none_judged = refl

none_values : altid_octets [] ≡ []
unfolding altid_octets parted part_by next_from values_from
none_values = refl

none_open : open_line [] ≡ []
unfolding parted part_by next_from
none_open = refl

none_fine : lone_from 0 [] ≡ 1
unfolding lone_from
none_fine = refl

none_tail : tail_from 0 [] ≡ 0
unfolding tail_from
none_tail = refl

pub none_buffer : buffer_after [] ≡ padded []
none_buffer =
    buffer_open [] (known_none [] fresh_card (omega arith) none_fine none_judged)
    ∙ ap (λ (x : List ℕ). padded (x ++ open_line [])) none_values ∙ ap padded none_open

-- a fresh state, with any buffer
pub fresh_stands : (b : List ℕ) → Stands fresh_watch b []
fresh_stands b = live (record {
  known = refl;
  short = omega arith;
  fine = none_fine;
  card = none_judged ∙ ap Next (sym (fresh_card_lem b));
  values = ap length (sym none_values);
  count = refl;
  line = ap length (sym none_open);
  tail = sym none_tail;
  within = fresh_within 0;
})

empty : (i : List ℕ) → length i ≡ 0 → i ≡ []
empty [] h = refl
empty (x ∷ xs) h = absurd (omega arith)

-- no octet has come: the buffer is cleared
module _ (w : Watch) (b i b' : List ℕ) (r : Stands w b i) (none : w.start + w.«open» ≡ 0) (full : length b ≡ 16384) (laid : b' ≡ patch b 0 (replicate (16384 - 0) 0)) where
  not_over : w.known ≡ 3 → ⊥
  not_over h = by_state r
    where
      by_state : Stands w b i → ⊥
      by_state (live l) = omega (arith, h, l.known)
      by_state (faulty f) = omega (arith, h, f.known)
      by_state (broken f) = omega (arith, h, f.known)
      by_state (over f) = omega (arith, none, f.quiet.start)

  gone : i ≡ []
  gone = empty i (sym (counted w b i not_over r) ∙ none)

  pub first_buffer : b' ≡ buffer_after i
  first_buffer = laid ∙ clear_padded b [] 16384 (omega arith) (omega arith) refl nothing ∙ sym none_buffer ∙ ap buffer_after (sym gone)
    where
      nothing : drop 16384 b ≡ replicate (16384 - 16384) 0
      nothing = let h : length b ≤ 16384 = omega (arith, full) in drop_of_length-le b h

  pub first_stands : Stands w b' i
  first_stands =
      let s = reached_sound w b i r in
      let z : w.card.used ≡ 0 = omega (arith, s.card.used, none) in
      stands_front w b b' i (ap (λ (n : ℕ). take n b) z ∙ sym (ap (λ (n : ℕ). take n b') z)) r

-- an octet has come: the buffer is that of the octets
pub later_buffer : (w : Watch) (b i : List ℕ) → Reached w b i → (w.start + w.«open» ≡ 0 → ⊥) → b ≡ buffer_after i
later_buffer w b i r h = r.holds (some r.stands)
  where
    some : Stands w b i → 0 < length i
    some (live l) = omega (arith, l.count, h)
    some (faulty f) = omega (arith, f.quiet.start, f.quiet.line, h)
    some (broken f) = omega (arith, f.quiet.start, f.quiet.line, h)
    some (over f) = omega (arith, f.long)
