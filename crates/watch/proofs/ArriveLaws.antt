-- What a chunk makes of a state with no fault known, and of its buffer. Assumes nothing.
use mathlib.Core.Path.{◌≡◌, refl, sym, ap, subst, ◌∙◌}
use mathlib.Core.Bool.{true, false, ◌||◌}
use mathlib.Core.List.{List, [], ◌∷◌, ◌++◌, append_assoc, append-nil}
use Prim.Native.Nat.{ℕ, ◌+◌, ◌-◌, ◌<◌, ◌≤◌}
use native.Mathlib.Omega.{arith}
use lib.Dec.{ltb, leb}
use lib.ListN.{length, take, drop, replicate, length-drop, length-append}
use lib.Seq.{length-take-le, take_at, drop_at}
use borrow.Author.Tests.{le-ltb, lt-leb}
use Rattle.octets.proofs.Bools.{or_right}
use Rattle.property_table.specs.declared.Edition.TheVariants.{First}
use Rattle.card_state.specs.State.{Card, Step, Next, fresh_card}
use Rattle.card_state.specs.Kept.{card_of, step_of}
use Rattle.card_state.specs.declared.Card.{Card as Kept}
use Rattle.card_state.specs.Kept.{KeptStep}
use Rattle.card_state.specs.Kept.{next, refused, flawed}
use Rattle.card_state.proofs.KeptLaws.{card_front}
use Rattle.desk_pool.specs.Pools.{patch}
use Rattle.reader.specs.Outcome.{verdict_of}
use Rattle.reader_walk.specs.Walk.{onward, judge_lines}
use Rattle.watch_buffer.specs.Buffer.{padded}
use Rattle.watch_buffer.proofs.BufferLaws.{append_padded, padded_rest}
use Rattle.watch_arrivals.specs.Arrivals.{tail_from, lone_from, next_from}
use Rattle.watch_arrivals.proofs.ArrivalLaws.{lone_append, tail_append}
use Rattle.watch_lines.specs.Parting.{Parting, with_line, parted, ended_lines, open_line}
use Rattle.watch_lines.specs.Values.{halted, values_on, values_from}
use Rattle.watch_lines.specs.Taking.{kept, joined_line, Within, Went}
use Rattle.watch_lines.proofs.RunLaws.{sizes, judge_append, values_append, halted_values, open_law, ended_all, open_all, none_ends, some_ends, two_there, line_ends}
use Rattle.watch.specs.Octets.{judged, altid_octets, known, used, buffer_after}
use Rattle.watch.specs.declared.Watch.{Watch}
use Rattle.watch.specs.State.{open_state, stopped_state, claims, Live, After}
use Rattle.watch.specs.State.Stands.{live, faulty}

abbrev Fine : List ℕ → Type 0
Fine i = lone_from 0 i ≡ length i + 1

-- no fault is known
pub known_none : (i : List ℕ) (x : Card) → length i ≤ 16384 → Fine i → judged i ≡ Next x → known i ≡ false
unfolding known
known_none i x s f j = rw (le-ltb 16384 (length i) s, f, lt-leb (length i + 1) (length i) (omega arith), j)

-- the fault of an ended line is known
pub known_line : (i : List ℕ) → halted (judged i) ≡ true → known i ≡ true
unfolding known
known_line i h = or_right (ltb 16384 (length i)) (leb (lone_from 0 i) (length i) || halted (judged i)) (or_right (leb (lone_from 0 i) (length i)) (halted (judged i)) h)

-- a buffer of zeros, once a fault is known
pub buffer_zero : (i : List ℕ) → known i ≡ true → buffer_after i ≡ padded []
unfolding buffer_after used
buffer_zero i h = rw h

pub buffer_open : (i : List ℕ) → known i ≡ false → buffer_after i ≡ padded (altid_octets i ++ open_line i)
unfolding buffer_after used
buffer_open i h = rw h

pub padded_before : (u x : List ℕ) (n : ℕ) → n ≡ length u → take n (padded (u ++ x)) ≡ u
unfolding padded
padded_before u x n e = ap (take n) (append_assoc u x (replicate (16384 - length (u ++ x)) 0)) ∙ take_at u (x ++ replicate (16384 - length (u ++ x)) 0) n (sym e)

abbrev Stopped : KeptStep → Type 0
Stopped j = (d : Kept) → j ≡ next d → ⊥

pub halts : (r : KeptStep) → Stopped r → (b : List ℕ) → halted (step_of b r) ≡ true
unfolding step_of
halts (next c) h b = absurd (h c refl)
halts (refused n p) h b = refl
halts (flawed n o) h b = refl

-- a line was refused
module _ (i b : List ℕ) (n tail : ℕ) (short : length i ≤ 16384) (fine : Fine i) (size : n ≡ length i) (ends : tail ≡ tail_from 0 i) where
  pub after_stopped : (r : KeptStep) → Stopped r → judged i ≡ step_of b r → b ≡ padded [] → After (stopped_state r n tail) b i
  unfolding step_of verdict_of
  after_stopped (next c) h j z = absurd (h c refl)
  after_stopped (refused k p) h j z = record {
    stands = faulty (record { known = refl; short = short; fine = fine; fault = (ap halted j, λ m. ap (verdict_of m) j); quiet = record { start = size; line = refl; card = refl }; tail = ends });
    holds = z ∙ sym (buffer_zero i (known_line i (ap halted j)));
  }
  after_stopped (flawed k o) h j z = record {
    stands = faulty (record { known = refl; short = short; fine = fine; fault = (ap halted j, λ m. ap (verdict_of m) j); quiet = record { start = size; line = refl; card = refl }; tail = ends });
    holds = z ∙ sym (buffer_zero i (known_line i (ap halted j)));
  }

-- a chunk c after the octets i, with no fault of 1 or 3 known
module _ (w : Watch) (b i c : List ℕ) (l : Live w b i) (holds : b ≡ buffer_after i) (room : w.start + w.«open» + length c ≤ 16384)
    (fine-c : lone_from w.tail c ≡ length c + 1) where
  abbrev a : List ℕ
  a = altid_octets i

  abbrev o : List ℕ
  o = open_line i

  all_long : length (i ++ c) ≡ length i + length c
  all_long = length-append i c

  pub all_short : length (i ++ c) ≤ 16384
  all_short = omega (arith, all_long, l.count, room)

  pub all_fine : Fine (i ++ c)
  all_fine =
      let f : lone_from (tail_from 0 i) c ≡ length c + 1 = subst (λ (t : ℕ). lone_from t c ≡ length c + 1) l.tail fine-c in
      lone_append 0 i c l.fine ∙ omega (arith, f, all_long)

  pub all_tail : tail_from w.tail c ≡ tail_from 0 (i ++ c)
  all_tail = ap (λ (t : ℕ). tail_from t c) l.tail ∙ sym (tail_append 0 i c)

  buffer_is : b ≡ padded (a ++ o)
  buffer_is = holds ∙ buffer_open i (known_none i (card_of w.card b) l.short l.fine l.card)

  buffer_parts : b ≡ a ++ (o ++ replicate (16384 - length (a ++ o)) 0)
  unfolding padded
  buffer_parts = buffer_is ∙ append_assoc a o (replicate (16384 - length (a ++ o)) 0)

  pub front_is : kept w.card b ≡ a
  front_is = ap (take w.card.used) buffer_parts ∙ take_at a (o ++ replicate (16384 - length (a ++ o)) 0) w.card.used (sym l.values)

  pub line_is : take w.«open» (drop w.card.used b) ≡ o
  line_is =
      ap (λ (x : List ℕ). take w.«open» (drop w.card.used x)) buffer_parts
      ∙ ap (take w.«open») (drop_at a (o ++ replicate (16384 - length (a ++ o)) 0) w.card.used (sym l.values))
      ∙ take_at o (replicate (16384 - length (a ++ o)) 0) w.«open» (sym l.line)

  place_is : 0 + sizes (ended_lines i) ≡ w.start
  place_is = omega (arith, (open_law i).size, l.count, l.line)

  -- the lines that end with the chunk are judged from the card so far on
  pub judged_all : judged (i ++ c) ≡ judge_lines First (ended_lines (o ++ c)) w.start (card_of w.card b)
  unfolding judged
  judged_all =
      ap (λ (ls : List (List ℕ)). judge_lines First ls 0 fresh_card) (ended_all i c)
      ∙ judge_append First (ended_lines i) (ended_lines (o ++ c)) 0 fresh_card
      ∙ ap (λ (s : Step). onward s (judge_lines First (ended_lines (o ++ c)) (0 + sizes (ended_lines i)))) l.card
      ∙ ap (λ (p : ℕ). judge_lines First (ended_lines (o ++ c)) p (card_of w.card b)) place_is

  pub values_all : altid_octets (i ++ c) ≡ values_from (ended_lines (o ++ c)) w.start (card_of w.card b) (kept w.card b)
  unfolding judged altid_octets
  values_all =
      ap (λ (ls : List (List ℕ)). values_from ls 0 fresh_card []) (ended_all i c)
      ∙ values_append (ended_lines i) (ended_lines (o ++ c)) 0 fresh_card []
      ∙ ap (λ (s : Step). values_on s (λ d. values_from (ended_lines (o ++ c)) (0 + sizes (ended_lines i)) d (values_from (ended_lines i) 0 fresh_card []))) l.card
      ∙ ap (λ (p : ℕ). values_from (ended_lines (o ++ c)) p (card_of w.card b) (values_from (ended_lines i) 0 fresh_card [])) place_is
      ∙ ap (values_from (ended_lines (o ++ c)) w.start (card_of w.card b)) (sym front_is)

  used_low : length (a ++ o) ≡ claims w
  used_low = length-append a o ∙ omega (arith, l.values, l.line)

  -- no line ends with the chunk
  pub after_open : length c ≤ next_from w.tail c → (tail : ℕ) → tail ≡ tail_from w.tail c → (b' : List ℕ) → b' ≡ patch b (claims w) c
      → After (open_state w.start (w.«open» + length c) tail w.card) b' (i ++ c)
  unfolding judge_lines values_from
  after_open h tail ends b' laid =
      let e = none_ends i c (subst (λ (t : ℕ). length c ≤ next_from t c) l.tail h) in
      let none : ended_lines (o ++ c) ≡ [] = ap (λ (q : Parting). q.ended) e in
      let low : claims w + length c ≤ 16384 = omega (arith, l.within.used, room) in
      let put : b' ≡ padded ((a ++ o) ++ c) =
      laid ∙ ap (λ (x : List ℕ). patch x (claims w) c) buffer_is ∙ ap (λ (n : ℕ). patch (padded (a ++ o)) n c) (sym used_low) ∙ append_padded (a ++ o) c (omega (arith, used_low, low)) in
      let put' : b' ≡ padded (a ++ (o ++ c)) = put ∙ ap padded (append_assoc a o c) in
      let front' : take w.card.used b' ≡ a = ap (take w.card.used) put' ∙ padded_before a (o ++ c) w.card.used l.values in
      let j : judged (i ++ c) ≡ Next (card_of w.card b) = judged_all ∙ ap (λ (ls : List (List ℕ)). judge_lines First ls w.start (card_of w.card b)) none in
      let j' : judged (i ++ c) ≡ Next (card_of w.card b') = j ∙ ap Next (card_front w.card b b' l.within.lies (front_is ∙ sym front')) in
      let v : altid_octets (i ++ c) ≡ a = values_all ∙ ap (λ (ls : List (List ℕ)). values_from ls w.start (card_of w.card b) (kept w.card b)) none ∙ front_is in
      let left : open_line (i ++ c) ≡ o ++ c = open_all i c ∙ ap (λ (q : Parting). q.left) e in
      record {
        stands = live (record {
          known = refl;
          short = all_short;
          fine = all_fine;
          card = j';
          values = l.values ∙ ap length (sym v);
          count = omega (arith, l.count, all_long);
          line = omega (arith, l.line, ap length left, length-append o c);
          tail = ends ∙ all_tail;
          within = l.within;
        });
        holds = put' ∙ ap padded (ap (λ (x : List ℕ). x ++ (o ++ c)) (sym v) ∙ ap (λ (x : List ℕ). altid_octets (i ++ c) ++ x) (sym left)) ∙ sym (buffer_open (i ++ c) (known_none (i ++ c) (card_of w.card b') all_short all_fine j'));
      }

  -- a line ends before octet k of the chunk
  module _ (k : ℕ) (k-is : k ≡ next_from w.tail c) (inside : k < length c) (full : length b ≡ 16384) where
    at_is : k ≡ next_from (tail_from 0 i) c
    at_is = k-is ∙ ap (λ (t : ℕ). next_from t c) l.tail

    there : next_from (tail_from 0 i) c < length c
    there = omega (arith, at_is, inside)

    -- the line, and the rest of the chunk
    abbrev s : List ℕ
    s = take (length o + k - 2) (o ++ c)

    abbrev m : List ℕ
    m = drop k c

    first_ends : parted (o ++ c) ≡ with_line s (parted m)
    first_ends = subst (λ (e : ℕ). parted (o ++ c) ≡ with_line (take (length o + e - 2) (o ++ c)) (parted (drop e c))) (sym at_is) (some_ends i c there)

    -- the line as it is joined
    abbrev joined_line_lem : List ℕ
    joined_line_lem = joined_line w.card w.«open» b (take k c)

    same_line : joined_line_lem ≡ s
    same_line =
        let n : length (take k c) ≡ k = length-take-le k c (omega arith) in
        let e : w.«open» + length (take k c) - 2 ≡ length o + k - 2 = omega (arith, n, l.line) in
        ap (λ (x : List ℕ). take (w.«open» + length (take k c) - 2) (x ++ take k c)) line_is
        ∙ ap (λ (z : ℕ). take z (o ++ take k c)) e
        ∙ subst (λ (z : ℕ). take (length o + z - 2) (o ++ take z c) ≡ take (length o + z - 2) (o ++ c)) (sym at_is) (line_ends i c there)

    two_octets : 2 ≤ length o + k
    two_octets = subst (λ (e : ℕ). 2 ≤ length o + e) (sym at_is) (two_there i c there)

    line_size : length joined_line_lem + 2 ≡ w.«open» + k
    line_size = omega (arith, ap length same_line, length-take-le (length o + k - 2) (o ++ c) (omega (arith, length-append o c)), l.line, two_octets)

    zero_behind : drop (w.card.used + length joined_line_lem + 2) b ≡ replicate (16384 - (w.card.used + length joined_line_lem + 2)) 0
    zero_behind =
        let n = w.card.used + length joined_line_lem + 2 in
        ap (drop n) buffer_is ∙ padded_rest (a ++ o) n (omega (arith, used_low, line_size))

    ended_is : ended_lines (o ++ c) ≡ joined_line_lem ∷ ended_lines m
    ended_is = ap (λ (q : Parting). q.ended) first_ends ∙ ap (λ (x : List ℕ). x ∷ ended_lines m) (sym same_line)

    -- the lines that end with the chunk were judged
    module _ (r : KeptStep) (b₂ : List ℕ) (at : ℕ) (g : Went w.card joined_line_lem m b b₂ w.start r (drop at c)) (at_low : k ≤ at) (at_high : at ≤ length c) where
      abbrev values : List ℕ
      values = values_from (joined_line_lem ∷ ended_lines m) w.start (card_of w.card b) (kept w.card b)

      values_are : altid_octets (i ++ c) ≡ values
      values_are = values_all ∙ ap (λ (ls : List (List ℕ)). values_from ls w.start (card_of w.card b) (kept w.card b)) ended_is

      judged_are : judged (i ++ c) ≡ step_of b₂ r
      judged_are = judged_all ∙ ap (λ (ls : List (List ℕ)). judge_lines First ls w.start (card_of w.card b)) ended_is ∙ sym g.step

      pub after_refused : Stopped r → (n tail : ℕ) → n ≡ w.start + w.«open» + length c → tail ≡ tail_from w.tail c → After (stopped_state r n tail) b₂ (i ++ c)
      after_refused h n tail size ends =
          let none : values ≡ [] = halted_values (joined_line_lem ∷ ended_lines m) w.start (card_of w.card b) (kept w.card b) (ap halted (sym g.step) ∙ halts r h b₂) in
          after_stopped (i ++ c) b₂ n tail all_short all_fine (omega (arith, size, l.count, all_long)) (ends ∙ all_tail) r h judged_are (g.buffer zero_behind ∙ ap padded none)

      pub after_kept : (f : Kept) → r ≡ next f → (tail : ℕ) → tail ≡ tail_from w.tail c → (b₃ : List ℕ) → b₃ ≡ patch b₂ f.used (drop at c)
          → After (open_state (w.start + w.«open» + at) (length c - at) tail f) b₃ (i ++ c)
      unfolding step_of
      after_kept f e tail ends b₃ laid =
          let left = drop at c in
          let n : length left ≡ length c - at = length-drop at c in
          let size : f.used ≡ length values = g.sized f e in
          let rest = g.rest f e in
          let p : w.start + (length joined_line_lem + 2) + (length m - length left) ≡ w.start + w.«open» + at = omega (arith, n, length-drop k c, line_size) in
          let win : Within f (w.start + w.«open» + at) = subst (Within f) p rest.1 in
          let put : b₃ ≡ padded (values ++ left) =
          laid ∙ ap (λ (x : List ℕ). patch x f.used left) (g.buffer zero_behind) ∙ ap (λ (z : ℕ). patch (padded values) z left) size
          ∙ append_padded values left (omega (arith, size, n, win.used, room)) in
          let same-front : take f.used b₂ ≡ take f.used b₃ =
          ap (take f.used) (g.buffer zero_behind ∙ ap padded (sym (append-nil values))) ∙ padded_before values [] f.used size ∙ sym (ap (take f.used) put ∙ padded_before values left f.used size) in
          let j : judged (i ++ c) ≡ Next (card_of f b₃) = judged_are ∙ ap (step_of b₂) e ∙ ap Next (card_front f b₂ b₃ win.lies same-front) in
          let line : open_line (i ++ c) ≡ left = open_all i c ∙ ap (λ (q : Parting). q.left) first_ends ∙ sym rest.0 in
          record {
            stands = live (record {
              known = refl;
              short = all_short;
              fine = all_fine;
              card = j;
              values = size ∙ ap length (sym values_are);
              count = omega (arith, l.count, all_long);
              line = sym n ∙ ap length (sym line);
              tail = ends ∙ all_tail;
              within = win;
            });
            holds = put ∙ ap padded (ap (λ (x : List ℕ). x ++ left) (sym values_are) ∙ ap (λ (x : List ℕ). altid_octets (i ++ c) ++ x) (sym line)) ∙ sym (buffer_open (i ++ c) (known_none (i ++ c) (card_of f b₃) all_short all_fine j));
          }
