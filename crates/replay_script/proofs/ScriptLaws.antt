-- The calls of a script: the width of one, the next one, and counting them. Assumes nothing.
use Prim.Native.Nat.{ℕ, zero, suc, pred, ◌+◌, ◌-◌, ◌<◌, ◌≤◌}
use mathlib.Core.Path.{◌≡◌, refl, sym, ap, ◌∙◌}
use mathlib.Core.Bool.{Bool, true, false, ◌&&◌}
use mathlib.Core.List.{List, [], ◌∷◌}
use native.Mathlib.Nat.{not-suc-le-zero}
use native.Mathlib.Omega.{arith}
use lib.Dec.{leb, eqb}
use lib.ListN.{length, get_or, take, drop, length-drop, drop_of_length-le}
use lib.Seq.{take_all, drop-drop}
use borrow.Author.Tests.{leb-true, le-leb, lt-leb, eq-eqb, ne_eqb}
use Rattle.octets.specs.Pick.{pick}
use Rattle.octets.specs.Classes.{within}
use Rattle.octets.specs.Scan.{scan}
use Rattle.octets.proofs.Scans.{scan_stop, scan_step, scan_end}
use Rattle.desk_ledger.specs.Ticks.{judging, showing, counting, releasing, Ticked, opens_at, adds_at, asks_of}
use Rattle.replay_script.specs.Numerals.{two_at, four_at}
use Rattle.replay_script.specs.Scripts.{needed, width, call_of, calls_in, decode}
use Rattle.replay_script.specs.Counts.{shows, shown, counted}
use Rattle.std.specs.Prelude.{Result, Ok, Err}
use Rattle.numbers.specs.declared.refusal.Reason.TheVariants.{ReplayCall}
use Rattle.numbers.specs.declared.refusal.Refusal.{Refusal}
use Rattle.replay_script.specs.declared.Counted.{Counted}

-- ---- the width of a call

cut : (t u : Bool) (n : ℕ) → u ≡ false → pick t (pick u n 0) 0 ≡ 0
cut true true n e = let z : ◌≡◌ {A = ℕ} 0 1 = cc in absurd (omega arith)
cut true false n e = refl
cut false u n e = refl

uncut : (t u : Bool) (n : ℕ) → 1 ≤ pick t (pick u n 0) 0 → (t ≡ true) × (u ≡ true)
uncut true true n h = (refl, refl)
uncut true false n h = absurd (omega arith)
uncut false u n h = absurd (omega arith)

both : (a b : ℕ) (n : ℕ) → within a b n ≡ true → (a ≤ n) × (n ≤ b)
both a b n e = go (leb a n) refl (leb n b) refl e
  where
    go : (x : Bool) → leb a n ≡ x → (y : Bool) → leb n b ≡ y → x && y ≡ true → (a ≤ n) × (n ≤ b)
    go true p true q h = (leb-true a n p, leb-true n b q)
    go true p false q h = let z : ◌≡◌ {A = ℕ} 0 1 = cc in absurd (omega arith)
    go false p y q h = let z : ◌≡◌ {A = ℕ} 0 1 = cc in absurd (omega arith)

module _ (s : List ℕ) where
  pub needed_five : 5 ≤ needed s
  unfolding needed
  needed_five = go (eqb (get_or s 0 0) 2) (eqb (get_or s 0 0) 1)
    where
      go : (t u : Bool) → 5 ≤ pick t (11 + two_at s 9) (pick u 9 5)
      go true u = omega arith
      go false true = omega arith
      go false false = omega arith

  pub needed_add : get_or s 0 0 ≡ 2 → needed s ≡ 11 + two_at s 9
  unfolding needed
  needed_add e = rw (eq-eqb (get_or s 0 0) 2 e)

  pub width_cut : length s < needed s → width s ≡ 0
  unfolding width
  width_cut h = cut (within 1 6 (get_or s 0 0)) (leb (needed s) (length s)) (needed s) (lt-leb (needed s) (length s) h)

  pub width_low : get_or s 0 0 < 1 → width s ≡ 0
  unfolding width
  width_low h = rw (lt-leb 1 (get_or s 0 0) h)

  pub width_high : 6 < get_or s 0 0 → width s ≡ 0
  unfolding width
  width_high h = rw (le-leb 1 (get_or s 0 0) (omega arith), lt-leb (get_or s 0 0) 6 h)

  pub width_whole : 1 ≤ get_or s 0 0 → get_or s 0 0 ≤ 6 → needed s ≤ length s → width s ≡ needed s
  unfolding width
  width_whole l h f = rw (le-leb 1 (get_or s 0 0) l, le-leb (get_or s 0 0) 6 h, le-leb (needed s) (length s) f)

  pub needed_five_is : (get_or s 0 0 ≡ 1 → ⊥) → (get_or s 0 0 ≡ 2 → ⊥) → needed s ≡ 5
  unfolding needed
  needed_five_is m n = rw (ne_eqb (get_or s 0 0) 2 n, ne_eqb (get_or s 0 0) 1 m)

  pub needed_open : get_or s 0 0 ≡ 1 → needed s ≡ 9
  unfolding needed
  needed_open e = rw e

-- a call that is known and not cut off
pub record Whole (s : List ℕ) : Type 0 where
  pub low : 1 ≤ get_or s 0 0
  pub high : get_or s 0 0 ≤ 6
  pub fits : needed s ≤ length s
  pub five : 5 ≤ length s
  pub size : width s ≡ needed s

pub whole : (s : List ℕ) → 1 ≤ width s → Whole s
unfolding width
whole s h =
    let u = uncut (within 1 6 (get_or s 0 0)) (leb (needed s) (length s)) (needed s) h in
    let b = both 1 6 (get_or s 0 0) u.0 in
    let f = leb-true (needed s) (length s) u.1 in
    let v = needed_five s in
    record { low = b.0; high = b.1; fits = f; five = omega arith; size = width_whole s b.0 b.1 f }

-- the tail of a script as a part of it
pub tail_is : (s : List ℕ) (at : ℕ) → take (length s - at) (drop at s) ≡ drop at s
tail_is s at = take_all (length s - at) (drop at s) (rw (length-drop at s) (omega arith))

-- ---- call by call

pass : (l : List ℕ) (k : ℕ) → calls_in l k ≡ calls_in (drop k l) 0
unfolding calls_in
pass l zero = refl
pass [] (suc k) = refl
pass (x ∷ xs) (suc k) = pass xs k

pub first : (l : List ℕ) (m : ℕ) → 1 ≤ length l → width l ≡ m → 1 ≤ m → calls_in l 0 ≡ call_of l ∷ calls_in (drop m l) 0
unfolding calls_in
first l zero h q pos = absurd (not-suc-le-zero pos)
first [] (suc m) h q pos = absurd (not-suc-le-zero h)
first (x ∷ xs) (suc m) h q pos =
    ap (λ (k : ℕ). call_of (x ∷ xs) ∷ calls_in xs (pred k)) q ∙ ap (λ (cs : List Ticked). call_of (x ∷ xs) ∷ cs) (pass xs m)

module _ (s : List ℕ) (i : ℕ) where
  pub calls_step : (m : ℕ) → i < length s → width (drop i s) ≡ m → 1 ≤ m → calls_in (drop i s) 0 ≡ call_of (drop i s) ∷ calls_in (drop (i + m) s) 0
  calls_step m h q pos =
      let k : 1 ≤ length (drop i s) = rw (length-drop i s) (omega arith) in
      first (drop i s) m k q pos ∙ ap (λ (l : List ℕ). call_of (drop i s) ∷ calls_in l 0) (drop-drop m i s)

  pub calls_end : length s ≤ i → calls_in (drop i s) 0 ≡ []
  unfolding calls_in
  calls_end h = rw (drop_of_length-le s h)

-- ---- shows among the calls

pub show_is : (s : List ℕ) → get_or s 0 0 ≡ 4 → shows (call_of s) ≡ 1
unfolding call_of
show_is s e = rw e

pub show_not : (s : List ℕ) → (get_or s 0 0 ≡ 4 → ⊥) → shows (call_of s) ≡ 0
unfolding call_of
show_not s n = rw (ne_eqb (get_or s 0 0) 4 n) (go (eqb (get_or s 0 0) 1) (eqb (get_or s 0 0) 2) (eqb (get_or s 0 0) 6) (eqb (get_or s 0 0) 3))
  where
    go : (a b c d : Bool)
        → shows (pick a (opens_at (four_at s 1) (four_at s 5)) (pick b (adds_at (four_at s 1) (take (two_at s 9) (drop 11 s)) (four_at s 5)) (asks_of (four_at s 1) (pick c releasing (pick d judging counting))))) ≡ 0
    go true b c d = refl
    go false true c d = refl
    go false false true d = refl
    go false false false true = refl
    go false false false false = refl

show_one : (c : Ticked) → shows c ≤ 1
show_one (opens_at m τ) = omega arith
show_one (adds_at t q τ) = omega arith
show_one (asks_of t judging) = omega arith
show_one (asks_of t showing) = omega arith
show_one (asks_of t counting) = omega arith
show_one (asks_of t releasing) = omega arith

-- ---- counting: n calls, m of them shows, stand before `at`

pub record Counting (s : List ℕ) (at n m : ℕ) : Type 0 where
  pub inside : at ≤ length s
  pub goes : at + scan width (drop at s) 0 ≡ scan width s 0
  pub calls : n + length (calls_in (drop at s) 0) ≡ length (calls_in s 0)
  pub shows : m + shown (calls_in (drop at s) 0) ≡ shown (calls_in s 0)
  pub few : n ≤ at
  pub fewer : m ≤ at

pub count_start : (s : List ℕ) → Counting s 0 0 0
count_start s = record { inside = omega arith; goes = omega arith; calls = omega arith; shows = omega arith; few = omega arith; fewer = omega arith }

module _ {s : List ℕ} {at n m : ℕ} (h : Counting s at n m) where
  pub next_fits : at < length s → 1 ≤ width (drop at s) → at + width (drop at s) ≤ length s
  next_fits l p =
      let w = whole (drop at s) p in
      let f = rw (length-drop at s) at w.fits in
      let e = w.size in
      omega arith

  pub count_step : at < length s → 1 ≤ width (drop at s) → Counting s (at + width (drop at s)) (n + 1) (m + shows (call_of (drop at s)))
  unfolding shown
  count_step l p =
      let f = next_fits l p in
      let c = calls_step s at (width (drop at s)) l refl p in
      let g = scan_step width s at (width (drop at s)) refl p f in
      let i = h.inside in
      let e = h.goes in
      let x = rw c at h.calls in
      let y = rw c at h.shows in
      record {
        inside = f;
        goes = omega arith;
        calls = omega arith;
        shows = omega arith;
        few = omega (arith, h.few);
        fewer = omega (arith, h.fewer, show_one (call_of (drop at s)));
      }

  pub count_stop : at < length s → width (drop at s) ≡ 0 → ◌≡◌ {A = Result Counted Refusal} (Err (record { 0 = ReplayCall; 1 = at })) (counted (decode s))
  unfolding decode
  count_stop l z =
      let e : scan width s 0 ≡ at = sym h.goes ∙ scan_stop width s at z in
      rw (e, ne_eqb at (length s) (λ q. omega arith))

  pub count_end : length s ≤ at → ◌≡◌ {A = Result Counted Refusal} (Ok (record { calls = n; shows = m })) (counted (decode s))
  unfolding decode shown
  count_end l =
      let i = h.inside in
      let e : scan width s 0 ≡ length s = sym h.goes ∙ scan_end width s at l ∙ omega arith in
      let x : n ≡ length (calls_in s 0) = omega (arith, rw (calls_end s at l) at h.calls) in
      let y : m ≡ shown (calls_in s 0) = omega (arith, rw (calls_end s at l) at h.shows) in
      rw (eq-eqb (scan width s 0) (length s) e, x, y)
