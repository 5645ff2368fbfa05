-- Lists as parts and their rests, and any number of parts as they are written. Assumes nothing.
use mathlib.Core.Path.{◌≡◌, refl, sym, ap, ◌∙◌}
use mathlib.Core.Bool.{Bool, true, false}
use mathlib.Core.List.{List, [], ◌∷◌, ◌++◌, append_assoc}
use Prim.Native.Nat.{ℕ, zero, suc, ◌+◌, ◌<◌}
use native.Mathlib.Nat.{not-suc-le-zero}
use native.Mathlib.Omega.{arith}
use lib.Dec.{eqb}
use lib.ListN.{length, drop, length-append}
use lib.Seq.{drop-drop, drop-append_seam}
use borrow.Author.Tests.{eq-eqb, eqb-true}
use Rattle.line_parser.specs.Parse.{Parse, got, hd, many}
use Rattle.line_parser.specs.Grammar.{Each, led, value_text}
use Rattle.line_parser.specs.Rule.{Values}
use Rattle.line_parser.proofs.ParseLaws.{bad_got, guard_inv, pick_inv, next_inv, pick_yes, pick_no, guard_yes, next_got, drop_suc}

-- a list that is a part and its rest, where the rest is another part and its rest
pub chain : (l a b : List ℕ) (i j : ℕ) → l ≡ a ++ drop i l → drop i l ≡ b ++ drop j (drop i l) → l ≡ (a ++ b) ++ drop (i + j) l
chain l a b i j p q =
    p ∙ ap (λ (r : List ℕ). a ++ r) q ∙ sym (append_assoc a b (drop j (drop i l))) ∙ ap (λ (r : List ℕ). (a ++ b) ++ r) (drop-drop j i l)

-- an octet that is not 0 stands at the start
pub hd_cons : (c : ℕ) (l : List ℕ) → 0 < c → hd l ≡ c → l ≡ c ∷ drop 1 l
hd_cons c [] pos h = absurd (omega arith)
hd_cons c (x ∷ xs) pos h = ap (λ (y : ℕ). y ∷ xs) h

-- and a part after it
pub lead : (c : ℕ) (l b : List ℕ) (j : ℕ) → 0 < c → eqb (hd l) c ≡ true → drop 1 l ≡ b ++ drop j (drop 1 l) → l ≡ (c ∷ b) ++ drop (suc j) l
lead c l b j pos h q =
    hd_cons c l pos (eqb-true (hd l) c h) ∙ ap (λ (r : List ℕ). c ∷ r) (q ∙ ap (λ (r : List ℕ). b ++ r) (drop_suc j l))

-- a part, an octet after it, and the rest
pub part_then : (c : ℕ) (l a : List ℕ) (n : ℕ) → 0 < c → l ≡ a ++ drop n l → eqb (hd (drop n l)) c ≡ true → l ≡ a ++ c ∷ drop 1 (drop n l)
part_then c l a n pos p t = p ∙ ap (λ (s : List ℕ). a ++ s) (hd_cons c (drop n l) pos (eqb-true (hd (drop n l)) c t))

-- the values of a parameter as they are written
abbrev pub values_text : Values → List ℕ
values_text vs = value_text vs.first ++ led 44 value_text vs.more

module _ {A : Type 0} (c : ℕ) (p : List ℕ → Parse A) (ok : ℕ → Bool) (e : List ℕ → ℕ) (o : A → List ℕ) (W : A → Type 0) where
  -- what is accepted is good parts, written each after the octet c
  pub many_sound : 0 < c → ((l : List ℕ) (a : A) (k : ℕ) → p l ≡ got a k → W a × (l ≡ o a ++ drop k l))
      → (n : ℕ) (l : List ℕ) (xs : List A) (k : ℕ) → many c p ok e n l ≡ got xs k
      → Each W xs × (l ≡ led c o xs ++ drop k l)
  unfolding many Each led
  many_sound pos ps zero l xs k h = absurd (bad_got h)
  many_sound pos ps (suc n) l xs k h =
      pick_inv (eqb (hd l) c) _ _ h
      (λ t q. next_inv (p (drop 1 l)) _ q (λ a i p₁ q₁. next_inv (many c p ok e n (drop i (drop 1 l))) _ q₁ (λ ys j p₂ q₂.
      let one = ps (drop 1 l) a i p₁ in
      let rest = many_sound pos ps n (drop i (drop 1 l)) ys j p₂ in
      let ea : xs ≡ a ∷ ys = cc in
      let ek : k ≡ suc (i + j) = cc in
      rw (ea, ek) (
        (one.0, rest.0),
        lead c l (o a ++ led c o ys) (i + j) pos t
            (chain (drop 1 l) (o a) (led c o ys) i j one.1 rest.1),
      ))))
      (λ t q. guard_inv (ok (hd l)) _ _ q (λ t₁ q₁.
      let ea : xs ≡ [] = cc in
      let ek : k ≡ 0 = cc in
      rw (ea, ek) (tt, refl)))

  -- good parts, written so, are accepted; S is what must hold of the octet after a part
  pub many_complete : (S : ℕ → Type 0) → S c
      → ((a : A) (r : List ℕ) → W a → S (hd r) → p (o a ++ r) ≡ got a (length (o a)))
      → (n : ℕ) (xs : List A) (r : List ℕ) → Each W xs → S (hd r) → eqb (hd r) c ≡ false → ok (hd r) ≡ true
      → length (led c o xs) < n
      → many c p ok e n (led c o xs ++ r) ≡ got xs (length (led c o xs))
  unfolding many Each led
  many_complete S sc pc zero xs r w s d g h = absurd (not-suc-le-zero h)
  many_complete S sc pc (suc n) [] r w s d g h = pick_no _ _ d ∙ guard_yes _ _ g
  many_complete S sc pc (suc n) (a ∷ xs) r w s d g h =
      let lt : length (led c o xs) < n = omega (arith, length-append (o a) (led c o xs)) in
      let one : p ((o a ++ led c o xs) ++ r) ≡ got a (length (o a)) = rw append_assoc (pc a (led c o xs ++ r) w.0 (start xs)) in
      let rest : many c p ok e n (drop (length (o a)) ((o a ++ led c o xs) ++ r)) ≡ got xs (length (led c o xs)) =
      rw (append_assoc, drop-append_seam) (many_complete S sc pc n xs r w.1 s d g lt) in
      pick_yes _ _ (eq-eqb c c refl) ∙ next_got _ one ∙ next_got _ rest
      ∙ ap (λ (k : ℕ). got (a ∷ xs) (suc k)) (sym (length-append (o a) (led c o xs)))
    where
      start : (ys : List A) → S (hd (led c o ys ++ r))
      start [] = s
      start (y ∷ ys) = sc
