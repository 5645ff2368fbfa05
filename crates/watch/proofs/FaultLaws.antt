-- What a chunk makes of a state by the faults of 1 and 3, and of one that knows a fault. Assumes nothing.
use mathlib.Core.Path.{◌≡◌, refl, sym, ap, ◌∙◌}
use mathlib.Core.Bool.{true, ◌||◌, false≢true}
use mathlib.Core.List.{List, [], ◌++◌}
use Prim.Native.Nat.{ℕ, ◌+◌, ◌-◌, ◌<◌, ◌≤◌}
use native.Mathlib.Omega.{arith}
use lib.Dec.{ltb, leb}
use lib.ListN.{length, drop, replicate, length-append}
use borrow.Author.Tests.{lt-ltb, le-leb}
use Rattle.numbers.specs.declared.refusal.Reason.TheVariants.{TooLong, LoneCrOrLf}
use Rattle.octets.proofs.Bools.{or_left, or_right}
use Rattle.property_table.specs.declared.Edition.TheVariants.{First}
use Rattle.card_state.specs.State.{Card, Step, Next, Refused, Flawed, fresh_card}
use Rattle.card_state.specs.Kept.{card_of}
use Rattle.desk_pool.specs.Pools.{patch}
use Rattle.reader.specs.Outcome.{verdict_of}
use Rattle.reader_walk.specs.Walk.{onward, judge_lines}
use Rattle.watch_buffer.specs.Buffer.{padded}
use Rattle.watch_buffer.proofs.BufferLaws.{clear_padded, padded_rest}
use Rattle.watch_arrivals.specs.Arrivals.{tail_from, lone_from}
use Rattle.watch_arrivals.proofs.ArrivalLaws.{lone_append, lone_known, lone_le, tail_append}
use Rattle.watch_lines.specs.Parting.{ended_lines, open_line}
use Rattle.watch_lines.specs.Values.{halted}
use Rattle.watch_lines.proofs.RunLaws.{sizes, judge_append, ended_all}
use Rattle.watch.specs.Octets.{judged, altid_octets, known, buffer_after}
use Rattle.watch.specs.declared.Watch.{Watch}
use Rattle.watch.specs.State.{quiet_state, claims, Live, Stands, After}
use Rattle.watch.specs.State.Stands.{live, faulty, broken, over}
use Rattle.watch.proofs.ArriveLaws.{known_none, known_line, buffer_zero, buffer_open}

pub known_over : (i : List ℕ) → 16384 < length i → known i ≡ true
unfolding known
known_over i h = or_left (ltb 16384 (length i)) (leb (lone_from 0 i) (length i) || halted (judged i)) (lt-ltb 16384 (length i) h)

pub known_lone : (i : List ℕ) → lone_from 0 i ≤ length i → known i ≡ true
unfolding known
known_lone i h =
    or_right (ltb 16384 (length i)) (leb (lone_from 0 i) (length i) || halted (judged i))
    (or_left (leb (lone_from 0 i) (length i)) (halted (judged i)) (le-leb (lone_from 0 i) (length i) h))

-- after a refusal the lines that end later are not judged
pub stays : (x : Step) (f : Card → Step) → halted x ≡ true → onward x f ≡ x
stays (Next c) f h = absurd (false≢true h)
stays (Refused n p) f h = refl
stays (Flawed n o) f h = refl

pub halted_append : (i c : List ℕ) → halted (judged i) ≡ true → judged (i ++ c) ≡ judged i
unfolding judged
halted_append i c h =
    ap (λ (ls : List (List ℕ)). judge_lines First ls 0 fresh_card) (ended_all i c)
    ∙ judge_append First (ended_lines i) (ended_lines (open_line i ++ c)) 0 fresh_card
    ∙ stays (judge_lines First (ended_lines i) 0 fresh_card) (judge_lines First (ended_lines (open_line i ++ c)) (0 + sizes (ended_lines i))) h

-- the octets so far are counted
pub counted : (w : Watch) (b i : List ℕ) → (w.known ≡ 3 → ⊥) → Stands w b i → w.start + w.«open» ≡ length i
counted w b i h (live l) = l.count
counted w b i h (faulty f) = omega (arith, f.quiet.start, f.quiet.line)
counted w b i h (broken f) = omega (arith, f.quiet.start, f.quiet.line)
counted w b i h (over f) = absurd (h f.known)

abbrev Held : Watch → List ℕ → Type 0
Held w b = (u : List ℕ) × ((b ≡ padded u) × (length u ≤ claims w))

-- the buffer holds no more than the state claims
held : (w : Watch) (b i : List ℕ) → b ≡ buffer_after i → Stands w b i → Held w b
held w b i e (live l) =
    (altid_octets i ++ open_line i, (e ∙ buffer_open i (known_none i (card_of w.card b) l.short l.fine l.card), omega (arith, length-append (altid_octets i) (open_line i), l.values, l.line)))
held w b i e (faulty f) = ([], (e ∙ buffer_zero i (known_line i f.fault.0), omega arith))
held w b i e (broken f) = ([], (e ∙ buffer_zero i (known_lone i f.lone), omega arith))
held w b i e (over f) = ([], (e ∙ buffer_zero i (known_over i f.long), omega arith))

-- what it holds is cleared
pub cleared : (w : Watch) (b i b' : List ℕ) → b ≡ buffer_after i → Stands w b i → claims w ≤ 16384 → b' ≡ patch b 0 (replicate (claims w - 0) 0) → b' ≡ padded []
cleared w b i b' e s h laid =
    let u = held w b i e s in
    laid ∙ clear_padded b [] (claims w) (omega arith) h refl (ap (drop (claims w)) u.1.0 ∙ padded_rest u.0 (claims w) u.1.1)

module _ (w : Watch) (b i c : List ℕ) where
  all_long : length (i ++ c) ≡ length i + length c
  all_long = length-append i c

  -- the input was too long
  pub stays_over : w.known ≡ 3 → Stands w b i → b ≡ buffer_after i → After w b (i ++ c)
  stays_over h (live l) e = absurd (omega (arith, h, l.known))
  stays_over h (faulty f) e = absurd (omega (arith, h, f.known))
  stays_over h (broken f) e = absurd (omega (arith, h, f.known))
  stays_over h (over f) e =
      let long : 16384 < length (i ++ c) = omega (arith, all_long, f.long) in
      record {
        stands = over (record { known = f.known; long = long; quiet = f.quiet; tail = f.tail });
        holds = e ∙ buffer_zero i (known_over i f.long) ∙ sym (buffer_zero (i ++ c) (known_over (i ++ c) long));
      }

  -- it gets too long
  pub gets_over : (w.known ≡ 3 → ⊥) → Stands w b i → 16384 < w.start + w.«open» + length c → (b' : List ℕ) → b' ≡ padded []
      → After (quiet_state 3 TooLong 16384 16384 0) b' (i ++ c)
  gets_over n s h b' z =
      let long : 16384 < length (i ++ c) = omega (arith, all_long, counted w b i n s) in
      record {
        stands = over (record { known = refl; long = long; quiet = record { start = refl; line = refl; card = refl }; tail = refl });
        holds = z ∙ sym (buffer_zero (i ++ c) (known_over (i ++ c) long));
      }

  -- a lone CR or LF was known
  pub stays_broken : w.known ≡ 2 → Stands w b i → b ≡ buffer_after i → (n : ℕ) → n ≡ w.start + w.«open» + length c → n ≤ 16384
      → After (quiet_state 2 LoneCrOrLf w.place n 0) b (i ++ c)
  stays_broken h (live l) e n size low = absurd (omega (arith, h, l.known))
  stays_broken h (faulty f) e n size low = absurd (omega (arith, h, f.known))
  stays_broken h (over f) e n size low = absurd (omega (arith, h, f.known))
  stays_broken h (broken f) e n size low =
      let all : n ≡ length (i ++ c) = omega (arith, size, all_long, f.quiet.start, f.quiet.line) in
      let same : lone_from 0 (i ++ c) ≡ lone_from 0 i = lone_known 0 i c f.lone in
      let lone : lone_from 0 (i ++ c) ≤ length (i ++ c) = omega (arith, same, f.lone, all_long) in
      record {
        stands = broken (record { known = refl; short = omega (arith, all, low); place = f.place ∙ sym same; lone = lone; quiet = record { start = all; line = refl; card = refl }; tail = refl });
        holds = e ∙ buffer_zero i (known_lone i f.lone) ∙ sym (buffer_zero (i ++ c) (known_lone (i ++ c) lone));
      }

  -- the state says how the input ends, and no lone CR or LF is known
  abbrev Whole : Type 0
  Whole = (lone_from 0 i ≡ length i + 1) × (w.tail ≡ tail_from 0 i)

  pub whole : (w.known ≡ 3 → ⊥) → (w.known ≡ 2 → ⊥) → Stands w b i → Whole
  whole h g (live l) = (l.fine, l.tail)
  whole h g (faulty f) = (f.fine, f.tail)
  whole h g (broken f) = absurd (g f.known)
  whole h g (over f) = absurd (h f.known)

  -- one gets known
  pub gets_broken : (w.known ≡ 3 → ⊥) → (w.known ≡ 2 → ⊥) → Stands w b i → (n place : ℕ) → n ≡ w.start + w.«open» + length c → n ≤ 16384
      → lone_from w.tail c ≤ length c → place + 1 ≡ w.start + w.«open» + lone_from w.tail c → (b' : List ℕ) → b' ≡ padded []
      → After (quiet_state 2 LoneCrOrLf place n 0) b' (i ++ c)
  gets_broken h g s n place size low lone at b' z =
      let k = whole h g s in
      let count = counted w b i h s in
      let same : lone_from 0 (i ++ c) ≡ length i + lone_from w.tail c = lone_append 0 i c k.0 ∙ ap (λ (t : ℕ). length i + lone_from t c) (sym k.1) in
      let there : lone_from 0 (i ++ c) ≤ length (i ++ c) = omega (arith, same, lone, all_long) in
      let all : n ≡ length (i ++ c) = omega (arith, size, all_long, count) in
      record {
        stands = broken (record { known = refl; short = omega (arith, all, low); place = omega (arith, at, same, count); lone = there; quiet = record { start = all; line = refl; card = refl }; tail = refl });
        holds = z ∙ sym (buffer_zero (i ++ c) (known_lone (i ++ c) there));
      }

  -- the fault of a line was known
  pub stays_faulty : w.known ≡ 1 → Stands w b i → b ≡ buffer_after i → (n tail : ℕ) → n ≡ w.start + w.«open» + length c → n ≤ 16384
      → length c < lone_from w.tail c → tail ≡ tail_from w.tail c → After (quiet_state 1 w.fault w.place n tail) b (i ++ c)
  stays_faulty h (live l) e n tail size low fine ends = absurd (omega (arith, h, l.known))
  stays_faulty h (broken f) e n tail size low fine ends = absurd (omega (arith, h, f.known))
  stays_faulty h (over f) e n tail size low fine ends = absurd (omega (arith, h, f.known))
  stays_faulty h (faulty f) e n tail size low fine ends =
      let all : n ≡ length (i ++ c) = omega (arith, size, all_long, f.quiet.start, f.quiet.line) in
      let same : lone_from 0 (i ++ c) ≡ length i + lone_from w.tail c = lone_append 0 i c f.fine ∙ ap (λ (t : ℕ). length i + lone_from t c) (sym f.tail) in
      let j : judged (i ++ c) ≡ judged i = halted_append i c f.fault.0 in
      record {
        stands = faulty (record {
          known = refl;
          short = omega (arith, all, low);
          fine = omega (arith, same, fine, lone_le w.tail c, all_long);
          fault = (ap halted j ∙ f.fault.0, λ m. ap (verdict_of m) j ∙ f.fault.1 m);
          quiet = record { start = all; line = refl; card = refl };
          tail = ends ∙ ap (λ (t : ℕ). tail_from t c) f.tail ∙ sym (tail_append 0 i c);
        });
        holds = e ∙ buffer_zero i (known_line i f.fault.0) ∙ sym (buffer_zero (i ++ c) (known_line (i ++ c) (ap halted j ∙ f.fault.0)));
      }

  -- none is known
  pub lives : (w.known ≡ 3 → ⊥) → (w.known ≡ 2 → ⊥) → (w.known ≡ 1 → ⊥) → Stands w b i → Live w b i
  lives h g k (live l) = l
  lives h g k (faulty f) = absurd (k f.known)
  lives h g k (broken f) = absurd (g f.known)
  lives h g k (over f) = absurd (h f.known)
