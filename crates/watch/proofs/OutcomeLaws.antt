-- What a chunk and the end make of any state that can be worked with, case by case. Assumes nothing.
use mathlib.Core.Path.{◌≡◌, refl, sym, ap, subst, ◌∙◌}
use mathlib.Core.List.{List, [], ◌∷◌, ◌++◌}
use Prim.Native.Nat.{ℕ, ◌+◌, ◌-◌, ◌<◌, ◌≤◌}
use native.Mathlib.Omega.{arith}
use lib.ListN.{length, take, drop, replicate, length-drop, length-append, take-append-drop}
use lib.Seq.{length-take-le, take-append-le, take-take}
use borrow.Author.Tests.{eq-eqb, ne_eqb, lt-ltb, le-ltb, le-leb, lt-leb}
use Rattle.numbers.specs.Refusals.{number}
use Rattle.numbers.specs.declared.refusal.Reason.{Reason}
use Rattle.octets.specs.Room.{overlay}
use Rattle.property_table.specs.declared.Edition.TheVariants.{First}
use Rattle.card_state.specs.State.{Card, Step, Next}
use Rattle.card_state.specs.Kept.{places_of, tag_at, Lies, card_of, step_of}
use Rattle.card_state.specs.declared.Card.{Card as Kept}
use Rattle.card_state.specs.Kept.{KeptStep}
use Rattle.card_state.specs.Kept.{next, refused, flawed}
use Rattle.card_state.proofs.KeptLaws.{card_front, none_lie}
use Rattle.desk_pool.specs.Pools.{patch}
use Rattle.reader.specs.Outcome.{verdict_of}
use Rattle.reader.specs.Outcome.{Refused as Judged}
use Rattle.reader_walk.specs.Walk.{settled, judge_lines}
use Rattle.watch_arrivals.specs.Arrivals.{tail_step, tail_from, lone_from, next_from}
use Rattle.watch_arrivals.proofs.ArrivalLaws.{tail_append, tail_short, next_tail}
use Rattle.watch_lines.specs.Parting.{open_line}
use Rattle.watch_lines.specs.Values.{values_from, buffers_from}
use Rattle.watch_lines.specs.Taking.{kept, judgement, joined_line, Within, Went}
use Rattle.watch_lines.proofs.RunLaws.{open_law}
use Rattle.watch.specs.State.{quiet_state, open_state, stopped_state, claims, Sound}
use Rattle.watch.specs.Outcome.{view_of, quiet_view, open_view, Came, came, count, cleared, new_lines, after_lines, lines_came, octets_came, chunk_came, begun, Comes, last_line, end_came}
use Rattle.watch.specs.declared.Watch.{Watch}

abbrev Stopped : KeptStep → Type 0
Stopped j = (d : Kept) → j ≡ next d → ⊥

-- a state that claims nothing, as it is read
quiet_view_lem : (known : ℕ) (fault : Reason) (place n tail : ℕ) (b : List ℕ) → view_of (quiet_state known fault place n tail) b ≡ quiet_view known (number fault) place n tail
unfolding view_of card_of places_of tag_at
quiet_view_lem known fault place n tail b = refl

-- and it can be worked with
pub quiet_sound : (known : ℕ) (fault : Reason) (place n tail : ℕ) → n ≤ 16384 → tail ≤ n → ((known ≡ 1 → ⊥) → tail ≤ 0) → Sound (quiet_state known fault place n tail)
quiet_sound known fault place n tail h g l = record {
  counts = record { short = omega (arith, h); tail = omega (arith, g); line = l };
  card = record { lies = none_lie; used = omega arith; cards = omega arith; lines = omega arith };
}

pub quiet_comes : (known : ℕ) (fault : Reason) (place n tail : ℕ) (r : Watch) (b : List ℕ) (o : Came) → Sound (quiet_state known fault place n tail) → r ≡ quiet_state known fault place n tail
    → o ≡ came (quiet_view known (number fault) place n tail) b → Comes r b o
quiet_comes known fault place n tail r b o s e f = record {
  sound = subst Sound (sym e) s;
  view = ap (λ (w : Watch). view_of w b) e ∙ quiet_view_lem known fault place n tail b ∙ sym (ap (λ (x : Came). x.view) f);
  buffer = sym (ap (λ (x : Came). x.buffer) f);
}

-- octets that are put behind the values of a card leave it
card_put : (c : Kept) (b x : List ℕ) (n : ℕ) → Lies c → c.used ≤ n → n ≤ length b → card_of c (patch b n x) ≡ card_of c b
unfolding patch
card_put c b x n l h g =
    let m : length (take n b) ≡ n = length-take-le n b g in
    card_front c (take n b ++ overlay x (drop n b)) b l (take-append-le c.used (take n b) (overlay x (drop n b)) (omega (arith, m, h)) ∙ take-take c.used n b h)

-- after CR LF octets end as they do by themselves
tail_two : (l : List ℕ) → 0 < length l → tail_from 2 l ≡ tail_from 0 l
unfolding tail_from tail_step
tail_two [] h = absurd (omega arith)
tail_two (x ∷ xs) h = refl

-- where a line ends, the tail is no longer than the line that is open then
open_tail : (t : ℕ) (c : List ℕ) → next_from t c < length c → tail_from t c ≤ length (open_line (drop (next_from t c) c))
open_tail t c h =
    let k = next_from t c in
    let m = drop k c in
    let e : tail_from t c ≡ tail_from 0 m =
    ap (tail_from t) (sym (take-append-drop k c)) ∙ tail_append t (take k c) m ∙ ap (λ (u : ℕ). tail_from u m) (next_tail t c h) ∙ tail_two m (rw (length-drop k c) (omega arith)) in
    omega (arith, e, (open_law m).tail, tail_short 0 (open_line m))

-- a chunk c with which lines end, the first before its octet k
module _ (w : Watch) (b c : List ℕ) (k : ℕ) (k-is : k ≡ next_from w.tail c) (low-tail : w.tail ≤ w.«open») (win : Within w.card w.start) (room : w.start + w.«open» + length c ≤ 16384) (full : length b ≡ 16384)
    (two : 2 ≤ w.«open» + k) (inside : k < length c) where
  abbrev line : List ℕ
  line = joined_line w.card w.«open» b (take k c)

  taken : length (take k c) ≡ k
  taken = length-take-le k c (omega arith)

  line_size : length line ≡ w.«open» + length (take k c) - 2
  line_size =
      let m : length (take w.«open» (drop w.card.used b)) ≡ w.«open» = length-take-le w.«open» (drop w.card.used b) (rw length-drop (omega (arith, win.used, room, full))) in
      length-take-le (w.«open» + length (take k c) - 2) (take w.«open» (drop w.card.used b) ++ take k c)
      (rw (length-append (take w.«open» (drop w.card.used b)) (take k c)) (omega (arith, m)))

  -- the line with its CR LF
  pub line_long : length line + 2 ≡ w.«open» + k
  line_long = omega (arith, line_size, taken, two)

  module _ (n tail : ℕ) (n-is : n ≡ count w + length c) (tail_is : tail ≡ tail_from w.tail c) where
    by_judgement : (x : Step) (a d : List ℕ) → judge_lines First (new_lines w b c k) w.start (card_of w.card b) ≡ x
        → values_from (new_lines w b c k) w.start (card_of w.card b) (kept w.card b) ≡ a
        → buffers_from (new_lines w b c k) w.start (card_of w.card b) (kept w.card b) b ≡ d
        → lines_came w b c k ≡ after_lines x n tail a d (open_line (drop k c))
    unfolding lines_came
    by_judgement x a d e f g =
        let l = open_line (drop k c) in
        let m = count w + length c in
        let t = tail_from w.tail c in
        let v = values_from (new_lines w b c k) w.start (card_of w.card b) (kept w.card b) in
        let u = buffers_from (new_lines w b c k) w.start (card_of w.card b) (kept w.card b) b in
        ap (λ (y : Step). after_lines y m t v u l) e
        ∙ ap (λ (y : List ℕ). after_lines x m t y u l) f
        ∙ ap (λ (y : List ℕ). after_lines x m t a y l) g
        ∙ ap (λ (y : ℕ). after_lines x y t a d l) (sym n-is)
        ∙ ap (λ (y : ℕ). after_lines x n y a d l) (sym tail_is)

    stopped_sound : (m : Reason) (p : ℕ) → Sound (quiet_state 1 m p n tail)
    stopped_sound m p = quiet_sound 1 m p n tail (omega (arith, n-is, room)) (omega (arith, n-is, tail_is, tail_short w.tail c, low-tail)) (λ e. absurd (e refl))

    stopped_comes : (r : KeptStep) → Stopped r → (a d : List ℕ) → lines_came w b c k ≡ after_lines (step_of d r) n tail a d (open_line (drop k c)) → Comes (stopped_state r n tail) d (lines_came w b c k)
    unfolding step_of
    stopped_comes (next f) h a d e = absurd (h f refl)
    stopped_comes (refused m p) h a d e = quiet_comes 1 m p n tail (stopped_state (refused m p) n tail) d (lines_came w b c k) (stopped_sound m p) refl e
    stopped_comes (flawed m o) h a d e = quiet_comes 1 m o n tail (stopped_state (flawed m o) n tail) d (lines_came w b c k) (stopped_sound m o) refl e

    -- they led to r
    module _ (r : KeptStep) (b₂ : List ℕ) (at : ℕ) (g : Went w.card line (drop k c) b b₂ w.start r (drop at c)) where
      abbrev values : List ℕ
      values = values_from (new_lines w b c k) w.start (card_of w.card b) (kept w.card b)

      pub comes_refused : Stopped r → Comes (stopped_state r n tail) b₂ (lines_came w b c k)
      comes_refused h = stopped_comes r h values b₂ (by_judgement (step_of b₂ r) values b₂ (sym g.step) refl (sym g.whole))

      pub comes_kept : (f : Kept) → r ≡ next f → k ≤ at → at ≤ length c → length b₂ ≡ 16384 → (b₃ : List ℕ) → b₃ ≡ patch b₂ f.used (drop at c)
          → Comes (open_state (w.start + w.«open» + at) (length c - at) tail f) b₃ (lines_came w b c k)
      unfolding step_of view_of
      comes_kept f e low high full₂ b₃ laid =
          let l = drop at c in
          let rest = g.rest f e in
          let left : length l ≡ length c - at = length-drop at c in
          let p : n - length l ≡ w.start + w.«open» + at = omega (arith, left, n-is, high) in
          let all : lines_came w b c k ≡ came (open_view (n - length l) (length l) tail f.used (card_of f b₂)) (patch b₂ f.used l) =
          by_judgement (Next (card_of f b₂)) values b₂ (sym g.step ∙ ap (step_of b₂) e) refl (sym g.whole)
          ∙ ap (λ (x : List ℕ). after_lines (Next (card_of f b₂)) n tail values b₂ x) (sym rest.0)
          ∙ ap (λ (m : ℕ). came (open_view (n - length l) (length l) tail m (card_of f b₂)) (patch b₂ m l)) (sym (g.sized f e)) in
          let fits : f.used ≤ length b₂ = omega (arith, rest.1.used, full₂, room, left, length-drop k c, line_long, low, high) in
          let same : card_of f b₃ ≡ card_of f b₂ = ap (card_of f) laid ∙ card_put f b₂ l f.used rest.1.lies (omega arith) fits in
          let place : w.start + (length line + 2) + (length (drop k c) - length l) ≡ w.start + w.«open» + at = omega (arith, left, length-drop k c, line_long, low, high) in
          let short : tail ≤ length c - at =
          subst (λ (m : ℕ). tail ≤ m) (sym (ap length rest.0) ∙ left)
          (subst (λ (m : ℕ). tail ≤ length (open_line (drop m c))) (sym k-is) (omega (arith, tail_is, open_tail w.tail c (omega (arith, k-is, inside))))) in
          record {
            sound = record {
              counts = record { short = omega (arith, room, high); tail = omega (arith, short); line = λ q. short };
              card = subst (Within f) place rest.1;
            };
            view =
                ap (λ (x : ℕ). open_view x (length c - at) tail f.used (card_of f b₃)) (sym p)
                ∙ ap (λ (x : ℕ). open_view (n - length l) x tail f.used (card_of f b₃)) (sym left)
                ∙ ap (λ (x : Card). open_view (n - length l) (length l) tail f.used x) same
                ∙ sym (ap (λ (x : Came). x.view) all);
            buffer = laid ∙ sym (ap (λ (x : Came). x.buffer) all);
          }

-- the octets of a chunk with no fault of 1 or 3
module _ (w : Watch) (b c : List ℕ) where
  lines_come : next_from w.tail c < length c → octets_came w b c ≡ lines_came w b c (next_from w.tail c)
  unfolding octets_came
  lines_come h = rw (lt-ltb (next_from w.tail c) (length c) h)

  pub octets_lines : (k : ℕ) → k ≡ next_from w.tail c → k < length c → (r : Watch) (d : List ℕ) → Comes r d (lines_came w b c k) → Comes r d (octets_came w b c)
  octets_lines k e h r d o = subst (Comes r d) (ap (lines_came w b c) e ∙ sym (lines_come (omega arith))) o

  open_comes : length c ≤ next_from w.tail c
      → octets_came w b c ≡ came (open_view w.start (w.«open» + length c) (tail_from w.tail c) w.card.used (card_of w.card b)) (patch b (claims w) c)
  unfolding octets_came
  open_comes h = rw (le-ltb (next_from w.tail c) (length c) h)

  pub octets_open : length c ≤ next_from w.tail c → Within w.card w.start → w.tail ≤ w.«open» → w.start + w.«open» + length c ≤ 16384 → claims w ≤ length b → (tail : ℕ) → tail ≡ tail_from w.tail c
      → (r : Watch) → r ≡ open_state w.start (w.«open» + length c) tail w.card → (d : List ℕ) → d ≡ patch b (claims w) c → Comes r d (octets_came w b c)
  unfolding view_of
  octets_open h win low room fits tail e r f d laid =
      let same : card_of w.card d ≡ card_of w.card b = ap (card_of w.card) laid ∙ card_put w.card b c (claims w) win.lies (omega arith) fits in
      let short : tail ≤ w.«open» + length c = omega (arith, e, tail_short w.tail c, low) in
      record {
        sound = subst Sound (sym f) (record { counts = record { short = omega (arith, room); tail = omega (arith, short); line = λ q. short }; card = win });
        view =
            ap (λ (x : Watch). view_of x d) f
            ∙ ap (λ (x : ℕ). open_view w.start (w.«open» + length c) x w.card.used (card_of w.card d)) e
            ∙ ap (λ (x : Card). open_view w.start (w.«open» + length c) (tail_from w.tail c) w.card.used x) same
            ∙ sym (ap (λ (x : Came). x.view) (open_comes h));
        buffer = laid ∙ sym (ap (λ (x : Came). x.buffer) (open_comes h));
      }

  -- the cases of a chunk
  pub chunk_stays : w.known ≡ 3 → Sound w → Comes w b (chunk_came w b c)
  unfolding chunk_came
  chunk_stays h s = let t = eq-eqb w.known 3 h in record { view = rw t; buffer = rw t; sound = s }

  pub chunk_over : (w.known ≡ 3 → ⊥) → 16384 < count w + length c → chunk_came w b c ≡ came (quiet_view 3 1 16384 16384 0) (cleared w b)
  unfolding chunk_came
  chunk_over h g = rw (ne_eqb w.known 3 h, lt-ltb 16384 (count w + length c) g)

  pub chunk_broken : (w.known ≡ 3 → ⊥) → count w + length c ≤ 16384 → w.known ≡ 2 → chunk_came w b c ≡ came (quiet_view 2 3 w.place (count w + length c) 0) b
  unfolding chunk_came
  chunk_broken h g e = rw (ne_eqb w.known 3 h, le-ltb 16384 (count w + length c) g, eq-eqb w.known 2 e)

  module _ (o : w.known ≡ 3 → ⊥) (g : count w + length c ≤ 16384) (p : w.known ≡ 2 → ⊥) where
    pub chunk_breaks : lone_from w.tail c ≤ length c → chunk_came w b c ≡ came (quiet_view 2 3 (count w + lone_from w.tail c - 1) (count w + length c) 0) (cleared w b)
    unfolding chunk_came
    chunk_breaks l = rw (ne_eqb w.known 3 o, le-ltb 16384 (count w + length c) g, ne_eqb w.known 2 p, le-leb (lone_from w.tail c) (length c) l)

    pub chunk_faulty : length c < lone_from w.tail c → w.known ≡ 1
        → chunk_came w b c ≡ came (quiet_view 1 (number w.fault) w.place (count w + length c) (tail_from w.tail c)) b
    unfolding chunk_came
    chunk_faulty l e = rw (ne_eqb w.known 3 o, le-ltb 16384 (count w + length c) g, ne_eqb w.known 2 p, lt-leb (lone_from w.tail c) (length c) l, eq-eqb w.known 1 e)

    pub chunk_octets : length c < lone_from w.tail c → (w.known ≡ 1 → ⊥) → chunk_came w b c ≡ octets_came w b c
    unfolding chunk_came
    chunk_octets l e = rw (ne_eqb w.known 3 o, le-ltb 16384 (count w + length c) g, ne_eqb w.known 2 p, lt-leb (lone_from w.tail c) (length c) l, ne_eqb w.known 1 e)

-- what a state claims is cleared
pub cleared_is : (w : Watch) (b d : List ℕ) → d ≡ patch b 0 (replicate (claims w - 0) 0) → cleared w b ≡ d
cleared_is w b d e = let z : claims w - 0 ≡ claims w = omega arith in sym (e ∙ ap (λ (n : ℕ). patch b 0 (replicate n 0)) z)

pub broken_same : (w : Watch) (b c : List ℕ) (k : ℕ) → k ≡ lone_from w.tail c → (d : List ℕ) → d ≡ patch b 0 (replicate (claims w - 0) 0)
    → came (quiet_view 2 3 (count w + lone_from w.tail c - 1) (count w + length c) 0) (cleared w b) ≡ came (quiet_view 2 3 (count w + k - 1) (count w + length c) 0) d
broken_same w b c k e d f =
    ap (came (quiet_view 2 3 (count w + lone_from w.tail c - 1) (count w + length c) 0)) (cleared_is w b d f)
    ∙ ap (λ (m : ℕ). came (quiet_view 2 3 (count w + m - 1) (count w + length c) 0) d) (sym e)

pub faulty_same : (w : Watch) (b c : List ℕ) (t : ℕ) → t ≡ tail_from w.tail c
    → came (quiet_view 1 (number w.fault) w.place (count w + length c) (tail_from w.tail c)) b ≡ came (quiet_view 1 (number w.fault) w.place (count w + length c) t) b
faulty_same w b c t e = ap (λ (m : ℕ). came (quiet_view 1 (number w.fault) w.place (count w + length c) m) b) (sym e)

-- the buffer before the first octet, and after it
pub begun_first : (w : Watch) (b d : List ℕ) → count w ≡ 0 → d ≡ patch b 0 (replicate (16384 - 0) 0) → d ≡ begun w b
unfolding begun
begun_first w b d h e = e ∙ sym (rw (eq-eqb (count w) 0 h))

pub begun_later : (w : Watch) (b : List ℕ) → (count w ≡ 0 → ⊥) → b ≡ begun w b
unfolding begun
begun_later w b h = rw (ne_eqb (count w) 0 h)

-- the cases of the end
module _ (w : Watch) (b : List ℕ) where
  pub end_is_over : w.known ≡ 3 → Judged 1 16384 ≡ end_came w b
  unfolding end_came
  end_is_over h = rw (eq-eqb w.known 3 h)

  module _ (o : w.known ≡ 3 → ⊥) where
    pub end_is_empty : count w ≡ 0 → Judged 2 0 ≡ end_came w b
    unfolding end_came
    end_is_empty h = rw (ne_eqb w.known 3 o, eq-eqb (count w) 0 h)

    module _ (z : count w ≡ 0 → ⊥) where
      pub end_is_broken : w.known ≡ 2 → Judged 3 w.place ≡ end_came w b
      unfolding end_came
      end_is_broken h = rw (ne_eqb w.known 3 o, ne_eqb (count w) 0 z, eq-eqb w.known 2 h)

      module _ (p : w.known ≡ 2 → ⊥) where
        pub end_is_waiting : w.tail ≡ 1 → Judged 3 (count w - 1) ≡ end_came w b
        unfolding end_came
        end_is_waiting h = rw (ne_eqb w.known 3 o, ne_eqb (count w) 0 z, ne_eqb w.known 2 p, eq-eqb w.tail 1 h)

        module _ (q : w.tail ≡ 1 → ⊥) where
          pub end_is_open : (w.tail ≡ 2 → ⊥) → Judged 4 (count w) ≡ end_came w b
          unfolding end_came
          end_is_open h = rw (ne_eqb w.known 3 o, ne_eqb (count w) 0 z, ne_eqb w.known 2 p, ne_eqb w.tail 1 q, ne_eqb w.tail 2 h)

          module _ (t : w.tail ≡ 2) where
            pub end_is_faulty : w.known ≡ 1 → Judged (number w.fault) w.place ≡ end_came w b
            unfolding end_came
            end_is_faulty h = rw (ne_eqb w.known 3 o, ne_eqb (count w) 0 z, ne_eqb w.known 2 p, ne_eqb w.tail 1 q, eq-eqb w.tail 2 t, eq-eqb w.known 1 h)

            pub end_is_judged : (w.known ≡ 1 → ⊥) → verdict_of (count w) (settled w.start (last_line w b) (judgement w.card b (last_line w b) w.start)) ≡ end_came w b
            unfolding end_came
            end_is_judged h = rw (ne_eqb w.known 3 o, ne_eqb (count w) 0 z, ne_eqb w.known 2 p, ne_eqb w.tail 1 q, eq-eqb w.tail 2 t, ne_eqb w.known 1 h)
