-- Octets among which no fold starts: they stay as they are when a text is unfolded. Assumes nothing.
use mathlib.Core.Path.{◌≡◌, refl, sym, ap, ◌∙◌}
use mathlib.Core.Bool.{Bool, true, false, ◌&&◌, and-false, true≢false}
use mathlib.Core.List.{List, [], ◌∷◌, ◌++◌, append_assoc}
use Prim.Native.Nat.{ℕ, zero, suc, ◌+◌, ◌-◌, ◌<◌, ◌≤◌}
use native.Mathlib.Nat.{add-zero}
use native.Mathlib.Omega.{arith}
use lib.Bits.{bit_and, bit_or}
use lib.Dec.{eqb, leb, ltb}
use lib.ListN.{length, get_or, take, drop, length-drop}
use lib.Seq.{take-suc, get_or-drop}
use borrow.Author.Tests.{leb-false, ltb-true, ltb-false, ne_eqb}
use mir.Val.{bool_byte}
use Rattle.octets.specs.Classes.{run, more}
use Rattle.octets.specs.Scan.{gather}
use Rattle.line_folds.specs.Folds.{fold_at, passed, kept, not_cr}
use Rattle.octets.proofs.BitLaws.{and_bytes, byte_no, or_zero_right}
use Rattle.line_folds.proofs.FoldLaws.{fold_eq, not_cr_lem, octet_next}
use Rattle.line_folds.proofs.HopLaws.{a_cr}

-- no fold starts from a up to e
abbrev pub Flat : List ℕ → ℕ → ℕ → Type 0
Flat s a e = (k : ℕ) → a ≤ k → k < e → fold_at (drop k s) ≡ false

pub flat_join : (s : List ℕ) (a b e : ℕ) → Flat s a b → Flat s b e → Flat s a e
flat_join s a b e f g k ha he = by (ltb k b) refl
  where
    by : (t : Bool) → ltb k b ≡ t → fold_at (drop k s) ≡ false
    by true q = f k ha (ltb-true k b q)
    by false q = g k (ltb-false k b q) he

pub flat_sixteen : (s : List ℕ) (i : ℕ) → ((k : ℕ) → k < 16 → fold_at (drop (i + k) s) ≡ false) → Flat s i (i + 16)
flat_sixteen s i f k hi he =
    let q : i + (k - i) ≡ k = omega arith in
    ap (λ (n : ℕ). fold_at (drop n s)) (sym q) ∙ f (k - i) (omega arith)

-- no fold starts where no LF follows, or an octet over a space behind it
pub unmarked : (s : List ℕ) (i a : ℕ) → bit_or a (bit_and (bool_byte (eqb (get_or s (i + 1) 0) 10)) (bool_byte (leb (get_or s (i + 2) 0) 32))) ≡ 0
    → fold_at (drop i s) ≡ false
unmarked s i a e =
    let x = eqb (get_or s (i + 1) 0) 10 in
    let y = leb (get_or s (i + 2) 0) 32 in
    by x y refl refl (byte_no (x && y) (sym (and_bytes x y) ∙ or_zero_right a (bit_and (bool_byte x) (bool_byte y)) e))
  where
    by : (x y : Bool) → eqb (get_or s (i + 1) 0) 10 ≡ x → leb (get_or s (i + 2) 0) 32 ≡ y → (x && y) ≡ false → fold_at (drop i s) ≡ false
    by false y ex ey h = fold_eq s i ∙ simp (ex, and-false)
    by true false ex ey h =
        let c = leb-false (get_or s (i + 2) 0) 32 ey in
        fold_eq s i ∙ simp (ex, ne_eqb (get_or s (i + 2) 0) 32 (λ q. omega arith), ne_eqb (get_or s (i + 2) 0) 9 (λ q. omega arith), and-false)
    by true true ex ey h = absurd (true≢false h)

run_each : (p : ℕ → Bool) (l : List ℕ) (k : ℕ) → k < run p l → p (get_or l k 0) ≡ true
unfolding run
run_each p [] k h = absurd (omega arith)
run_each p (x ∷ xs) k h = by (p x) refl h (run_each p xs) k refl
  where
    by : (t : Bool) → p x ≡ t → k < more t (run p xs) → ((m : ℕ) → m < run p xs → p (get_or xs m 0) ≡ true) → (m : ℕ) → m ≡ k → p (get_or (x ∷ xs) m 0) ≡ true
    by true e h f zero q = e
    by true e h f (suc m) q = f m (omega arith)
    by false e h f m q = absurd (omega arith)

-- none up to the next CR
pub flat_run : (s : List ℕ) (i e : ℕ) → e ≡ i + run not_cr (drop i s) → Flat s i e
flat_run s i e q k hi he =
    let n : i + (k - i) ≡ k = omega arith in
    let c : not_cr (get_or s k 0) ≡ true =
    ap (λ (m : ℕ). not_cr (get_or s m 0)) (sym n) ∙ ap not_cr (sym (get_or-drop i s (k - i) 0)) ∙ run_each not_cr (drop i s) (k - i) (omega arith) in
    not_cr_lem s k (λ h. true≢false (sym c ∙ a_cr (get_or s k 0) h))

module _ (s : List ℕ) (i : ℕ) where
  pub flat_none : Flat s i i
  flat_none k hi he = absurd (omega arith)

  pub flat_one : fold_at (drop i s) ≡ false → Flat s i (i + 1)
  flat_one e k hi he = let q : k ≡ i = omega arith in ap (λ (n : ℕ). fold_at (drop n s)) q ∙ e

  run_kept : (n : ℕ) → i + n ≤ length s → Flat s i (i + n) → gather passed kept (drop i s) 0 ≡ take n (drop i s) ++ gather passed kept (drop (i + n) s) 0
  run_kept zero h f = ap (λ (m : ℕ). gather passed kept (drop m s) 0) (sym (add-zero i))
  run_kept (suc n) h f =
      let e : fold_at (drop (i + n) s) ≡ false = f (i + n) (omega arith) (omega arith) in
      let r : List ℕ = gather passed kept (drop (i + n + 1) s) 0 in
      let q : i + n + 1 ≡ i + suc n = omega arith in
      run_kept n (omega arith) (λ k a b. f k a (omega arith))
      ∙ ap (λ (l : List ℕ). take n (drop i s) ++ l)
      (octet_next s (i + n) (omega arith) e)
      ∙ sym (append_assoc (take n (drop i s)) (get_or s (i + n) 0 ∷ []) r)
      ∙ ap (λ (x : ℕ). take n (drop i s) ++ (x ∷ []) ++ r) (sym (get_or-drop i s n 0))
      ∙ ap (λ (l : List ℕ). l ++ r) (sym (take-suc (drop i s) n 0 (rw (length-drop i s) (omega arith))))
      ∙ ap (λ (m : ℕ). take (suc n) (drop i s) ++ gather passed kept (drop m s) 0) q

  -- such octets are kept
  pub flat_kept : (e : ℕ) → i ≤ e → e ≤ length s → Flat s i e → gather passed kept (drop i s) 0 ≡ take (e - i) (drop i s) ++ gather passed kept (drop e s) 0
  flat_kept e h g f =
      let q : i + (e - i) ≡ e = omega arith in
      run_kept (e - i) (omega arith) (λ k a b. f k a (omega arith)) ∙ ap (λ (m : ℕ). take (e - i) (drop i s) ++ gather passed kept (drop m s) 0) q
