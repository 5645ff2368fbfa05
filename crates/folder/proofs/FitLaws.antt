-- Writing to room that may be too small: a piece alone, a run with a line behind it, and the last run of a text. Assumes nothing.
use mathlib.Core.Path.{◌≡◌, refl, sym, ap, ◌∙◌}
use mathlib.Core.Bool.{Bool, true, false}
use mathlib.Core.List.{List, [], ◌++◌, append-nil}
use Prim.Native.Nat.{ℕ, ◌+◌, ◌-◌, ◌<◌, ◌≤◌}
use native.Mathlib.Omega.{arith}
use lib.Dec.{leb}
use lib.ListN.{length, take, drop, length-append, length-drop}
use lib.Seq.{take_at, take-append_seam, drop-append_seam, drop-drop, length-take-le}
use borrow.Author.Tests.{leb-true, leb-false}
use borrow.Rule.Slice.PartMut.{put_mid}
use Rattle.octets.specs.Room.{overlay}
use Rattle.octets.specs.Room.{Written as Answer}
use Rattle.octets.specs.Room.{Wrote, Refused}
use Rattle.octets.proofs.Writes.{Written, finish}
use Rattle.line_unfolding.proofs.PutLaws.{put_part}
use Rattle.folder.specs.Fitting.{Fitted, Poured}

pub placed : (xs d₀ d : List ℕ) (n : ℕ) → n ≡ length xs → n ≤ length d₀ → d ≡ overlay xs d₀ → Fitted xs d₀ d n
placed xs d₀ d n e h q = record { fits = λ _. (e, q); over = λ l. absurd (omega arith) }

pub too_long : (xs d₀ d : List ℕ) (n : ℕ) → length d₀ < n → n ≤ length xs → Fitted xs d₀ d n
too_long xs d₀ d n h l = record { fits = λ f. absurd (omega arith); over = λ _. h }

module _ {xs d₀ d : List ℕ} {n : ℕ} (f : Fitted xs d₀ d n) where
  -- the answer is within the room: xs is there
  pub reach : n ≤ length d₀ → (n ≡ length xs) × (d ≡ overlay xs d₀) × (length xs ≤ length d₀)
  reach h = go (leb (length xs) (length d₀)) refl
    where
      go : (t : Bool) → leb (length xs) (length d₀) ≡ t → (n ≡ length xs) × (d ≡ overlay xs d₀) × (length xs ≤ length d₀)
      go true e = let l = leb-true _ _ e in let p = f.fits l in (p.0, p.1, l)
      go false e = absurd (omega (arith, f.over (leb-false _ _ e)))

  -- the answer is over the room: xs is
  pub missed : length d₀ < n → length d₀ < length xs
  missed h = go (leb (length xs) (length d₀)) refl
    where
      go : (t : Bool) → leb (length xs) (length d₀) ≡ t → length d₀ < length xs
      go true e = let l : length xs ≤ length d₀ = leb-true _ _ e in absurd (omega (arith, (f.fits l).0))
      go false e = leb-false _ _ e

-- ---- a piece is put behind what was written

pub left_as : {whole rest rest' d₀ d : List ℕ} {w : ℕ} → rest ≡ rest' → Written whole rest d₀ d w → Written whole rest' d₀ d w
left_as {d = d} {w = w} e h = record { done = h.done ∙ ap (λ (r : List ℕ). take w d ++ r) e; left = h.left; same = h.same; inside = h.inside }

module _ {whole d₀ d : List ℕ} {w : ℕ} (x : List ℕ) (h : Written whole x d₀ d w) where
  pub whole_length : length whole ≡ w + length x
  whole_length = ap length h.done ∙ length-append (take w d) x ∙ ap (λ (k : ℕ). k + length x) (length-take-le w d h.inside)

  -- the last piece, to the tail that is left
  pub put_last : (part : List ℕ) → w + length x ≤ length d → part ≡ overlay x (take (length d - w) (drop w d))
      → put_mid w (length d - w) d part ≡ overlay whole d₀
  put_last part fits q =
      let f = finish (put_part h x [] part (sym (append-nil x)) fits q) in
      f.1 ∙ ap (λ (k : ℕ). whole ++ drop k d₀) f.0

module _ (run x d₀ d₁ : List ℕ) (e : d₁ ≡ overlay run d₀) (fits : length run ≤ length d₀) where
  copied : Written (run ++ x) x d₀ d₁ (length run)
  copied =
      let len : length d₁ ≡ length d₀ = ap length e ∙ length-append run (drop (length run) d₀) ∙ rw (length-drop (length run) d₀) (omega arith) in
      record {
        done = ap (λ (r : List ℕ). r ++ x) (sym (ap (take (length run)) e ∙ take-append_seam run (drop (length run) d₀)));
        left = ap (drop (length run)) e ∙ drop-append_seam run (drop (length run) d₀);
        same = len;
        inside = rw len fits;
      }

  tail_length : length (take (length d₁ - length run) (drop (length run) d₁)) ≡ length d₁ - length run
  tail_length = length-take-le (length d₁ - length run) (drop (length run) d₁) (rw (length-drop (length run) d₁) (omega arith))

  pub behind_run : (part : List ℕ) (n : ℕ) → Fitted x (take (length d₁ - length run) (drop (length run) d₁)) part n
      → Fitted (run ++ x) d₀ (put_mid (length run) (length d₁ - length run) d₁ part) (length run + n)
  behind_run part n f =
      let t = tail_length in
      let a = length-append run x in
      let s = copied.same in
      record {
        fits = λ h. let p = f.fits (omega arith) in (omega (arith, p.0), put_last x copied part (omega arith) p.1);
        over = λ h. omega (arith, f.over (omega arith));
      }

-- ---- the last run

pub over_poured : (xs d₀ d : List ℕ) → length d₀ < length xs → Poured xs d₀ d (Refused 16 16384)
over_poured xs d₀ d h = record { fits = λ l. absurd (omega arith); over = λ _. refl }

pub run_poured : (run d part : List ℕ) (w : ℕ) → w ≤ length d → length run ≤ length d - w → part ≡ overlay run (take (length d - w) (drop w d))
    → Poured (take w d ++ run) d (put_mid w (length d - w) d part) (Wrote (w + length run))
run_poured run d part w i h q =
    let b : Written (take w d ++ run) run d d w = record { done = refl; left = refl; same = refl; inside = i } in
    let n = whole_length run b in
    record { fits = λ _. (ap Wrote (sym n), put_last run b part (omega arith) q); over = λ l. absurd (omega arith) }

pub poured_whole : {whole rest d₀ d d' : List ℕ} {w : ℕ} {a : Answer} → Written whole rest d₀ d w → Poured (take w d ++ rest) d d' a → Poured whole d₀ d' a
poured_whole {whole} {rest} {d₀} {d} {d'} {w} {a} h p =
    let n = whole_length rest h in
    let tail : drop (length whole) d ≡ drop (length whole) d₀ =
    rw n (sym (drop-drop (length rest) w d) ∙ ap (drop (length rest)) h.left ∙ drop-drop (length rest) w d₀) in
    let q : Poured whole d d' a = rw h.done p in
    let s = h.same in
    record {
      fits = λ l. let f = q.fits (omega arith) in (f.0, f.1 ∙ ap (λ (r : List ℕ). whole ++ r) tail);
      over = λ l. q.over (omega arith);
    }

-- ---- by the answer

abbrev wrote_count : Answer → ℕ
wrote_count (Wrote n) = n
wrote_count (Refused k p) = 0

abbrev is_wrote : Answer → ℕ
is_wrote (Wrote n) = 1
is_wrote (Refused k p) = 0

module _ {xs d₀ d : List ℕ} where
  pub poured_wrote : {n : ℕ} → Poured xs d₀ d (Wrote n) → (n ≡ length xs) × (d ≡ overlay xs d₀) × (length xs ≤ length d₀)
  poured_wrote {n} p = go (leb (length xs) (length d₀)) refl
    where
      go : (t : Bool) → leb (length xs) (length d₀) ≡ t → (n ≡ length xs) × (d ≡ overlay xs d₀) × (length xs ≤ length d₀)
      go true e = let l = leb-true _ _ e in let f = p.fits l in (ap wrote_count f.0, f.1, l)
      go false e = let z : ◌≡◌ {A = ℕ} 1 0 = ap is_wrote (p.over (leb-false _ _ e)) in absurd (omega arith)

  pub poured_refused : {k q : ℕ} → Poured xs d₀ d (Refused k q) → (Refused k q ≡ Refused 16 16384) × (length d₀ < length xs)
  poured_refused {k} {q} p = go (leb (length xs) (length d₀)) refl
    where
      go : (t : Bool) → leb (length xs) (length d₀) ≡ t → (Refused k q ≡ Refused 16 16384) × (length d₀ < length xs)
      go true e = let z : ◌≡◌ {A = ℕ} 0 1 = ap is_wrote (p.fits (leb-true _ _ e)).0 in absurd (omega arith)
      go false e = let l = leb-false _ _ e in (p.over l, l)

-- the octets that stand in a buffer, copied
pub from_buffer : {xs b₀ b : List ℕ} {n : ℕ} → Poured xs b₀ b (Wrote n) → (out out' : List ℕ) → out' ≡ overlay (take n b) out → out' ≡ xs ++ drop n out
from_buffer {xs} {b₀} {b} {n} p out out' r =
    let w = poured_wrote p in
    r
    ∙ ap (λ (x : List ℕ). overlay x out) (ap (take n) w.1 ∙ take_at xs (drop (length xs) b₀) n (sym w.0))
    ∙ ap (λ (k : ℕ). xs ++ drop k out) (sym w.0)
