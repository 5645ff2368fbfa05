-- Marks written to a room that holds them all: what stands there, and whether a number is over 65,535. Assumes nothing.
use mathlib.Core.Path.{◌≡◌, refl, sym, ap, ◌∙◌}
use mathlib.Core.Bool.{Bool, true, false}
use mathlib.Core.List.{List, [], ◌∷◌, ◌++◌, append_assoc}
use mathlib.Core.Logic.{◌⊎◌, inl, inr}
use Prim.Native.Nat.{ℕ, zero, suc, ◌+◌, ◌-◌, ◌*◌, ◌<◌, ◌≤◌, min}
use native.Mathlib.Omega.{arith}
use lib.Dec.{ltb}
use lib.ListN.{length, drop, get_or, length-append, length-drop}
use lib.Seq.{sets-eq, take-append_seam, drop-append-add, drop-drop, get_or-append_seam}
use borrow.Author.Tests.{ltb-true, ltb-false, le-ltb}
use Rattle.octets.specs.Pick.{pick}
use Rattle.octets.proofs.Bools.{by, clash}
use Rattle.merge_pids.specs.Marks.{Mark, Marked, marked, write, put_mark, put_all}
use Rattle.merge_sides.specs.Marks.{over_from, over_marks}
use Rattle.merge_partners.specs.Keys.{number_at}
use Rattle.merge_words.specs.Lists.{Member, here, there, At, first, later}
use Rattle.merge_words.proofs.Members.{member_none, member_cases, at_below}

-- the numbers of marks one after the other
unfoldable pub flat : List Mark → List ℕ
flat [] = []
flat (m ∷ ms) = m.line ∷ m.first ∷ m.source ∷ flat ms

pub flat_length : (ms : List Mark) → length (flat ms) ≡ length ms * 3
unfolding flat
flat_length [] = refl
flat_length (m ∷ ms) = omega (arith, flat_length ms)

-- ---- writing

abbrev Three : Mark → List ℕ
Three m = m.line ∷ m.first ∷ m.source ∷ []

write_one : (pre tail : List ℕ) (m : Mark) → 3 ≤ length tail → write (length pre) m (pre ++ tail) ≡ pre ++ (Three m ++ drop 3 tail)
write_one pre tail m h =
    let n = length pre in
    let l : List ℕ = pre ++ tail in
    let a : n + 1 ≡ suc n = omega arith in
    let b : n + 2 ≡ suc (suc n) = omega arith in
    rw (a, b) (sets-eq (Three m) l n (omega (arith, length-append pre tail)) ∙ rw (take-append_seam pre tail, drop-append-add pre tail 3) (append_assoc pre (Three m) (drop 3 tail)))

put_one : (pre tail : List ℕ) (m : Mark) → 3 ≤ length tail
    → put_mark (marked (length pre) (pre ++ tail)) m ≡ marked (length pre + 3) (pre ++ (Three m ++ drop 3 tail))
unfolding put_mark
put_one pre tail m h =
    let n = length-append pre tail in
    rw (le-ltb (length (pre ++ tail)) 3 (omega (arith, n)), le-ltb (length (pre ++ tail) - 3) (length pre) (omega (arith, n)))
    (ap (marked (length pre + 3)) (write_one pre tail m h))

pub put_all_lem : (ms : List Mark) (pre tail : List ℕ) → length ms * 3 ≤ length tail
    → put_all (marked (length pre) (pre ++ tail)) ms ≡ marked (length pre + length ms * 3) (pre ++ (flat ms ++ drop (length ms * 3) tail))
unfolding put_all flat
put_all_lem [] pre tail h =
    let e : length pre + 0 * 3 ≡ length pre = omega arith in
    rw e
put_all_lem (m ∷ ms) pre tail h =
    let t = Three m in
    let on : List ℕ = pre ++ t in
    let n : length on ≡ length pre + 3 = length-append pre t in
    let a : pre ++ (t ++ drop 3 tail) ≡ on ++ drop 3 tail = sym (append_assoc pre t (drop 3 tail)) in
    let ih = put_all_lem ms on (drop 3 tail) (omega (arith, length-drop 3 tail)) in
    let c : length on + length ms * 3 ≡ length pre + suc (length ms) * 3 = omega arith in
    let k : 3 + length ms * 3 ≡ suc (length ms) * 3 = omega arith in
    let d : drop (length ms * 3) (drop 3 tail) ≡ drop (suc (length ms) * 3) tail = drop-drop (length ms * 3) 3 tail ∙ ap (λ (j : ℕ). drop j tail) k in
    let g : on ++ (flat ms ++ drop (suc (length ms) * 3) tail) ≡ pre ++ (t ++ (flat ms ++ drop (suc (length ms) * 3) tail)) =
    append_assoc pre t (flat ms ++ drop (suc (length ms) * 3) tail) in
    ap (λ (s : Marked). put_all s ms) (put_one pre tail m (omega arith) ∙ rw (a, ← n))
    ∙ ih ∙ rw (c, d, g)

-- ---- reading

three : (a b c : ℕ) (rest : List ℕ) (f : ℕ) → f < 3 → get_or (a ∷ b ∷ c ∷ rest) f 0 ≡ get_or (a ∷ b ∷ c ∷ []) f 0
three a b c rest zero h = refl
three a b c rest (suc zero) h = refl
three a b c rest (suc (suc zero)) h = refl
three a b c rest (suc (suc (suc f))) h = absurd (omega arith)

at_flat : {ms : List Mark} {k : ℕ} {m : Mark} → At ms k m → (rest : List ℕ) (f : ℕ) → f < 3 → get_or (flat ms ++ rest) (k * 3 + f) 0 ≡ get_or (Three m) f 0
unfolding flat
at_flat (first {x = m} {xs = ms}) rest f h =
    let e : 0 * 3 + f ≡ f = omega arith in
    rw e (three m.line m.first m.source (flat ms ++ rest) f h)
at_flat (later {y = n} {xs = ms} {i = k} a) rest f h =
    let e : suc k * 3 + f ≡ suc (suc (suc (k * 3 + f))) = omega arith in
    rw e (at_flat a rest f h)

-- a number of the mark k
pub number_at_lem : (ms : List Mark) (rest : List ℕ) → length ms ≤ 4096 → {k : ℕ} {m : Mark} → At ms k m → (f : ℕ) → f < 3
    → number_at (flat ms ++ rest) k f ≡ get_or (Three m) f 0
unfolding number_at
number_at_lem ms rest h {k} a f g = rw (le-ltb 4096 k (omega (arith, at_below a))) (at_flat a rest f g)

-- ---- a number over 65,535

unfoldable pub over_in : List ℕ → Bool
over_in [] = false
over_in (z ∷ zs) = pick (ltb 65535 z) true (over_in zs)

over_from_lem : (zs pre rest : List ℕ) → over_from (pre ++ (zs ++ rest)) (length pre) (length zs) ≡ over_in zs
unfolding over_from over_in
over_from_lem [] pre rest = refl
over_from_lem (z ∷ zs) pre rest =
    let n : length pre + 1 ≡ length (pre ++ z ∷ []) = sym (length-append pre (z ∷ [])) in
    let e : pre ++ (z ∷ (zs ++ rest)) ≡ (pre ++ z ∷ []) ++ (zs ++ rest) = sym (append_assoc pre (z ∷ []) (zs ++ rest)) in
    let ih : over_from (pre ++ (z ∷ (zs ++ rest))) (length pre + 1) (length zs) ≡ over_in zs = rw (e, n) (over_from_lem zs (pre ++ z ∷ []) rest) in
    rw (get_or-append_seam pre z (zs ++ rest) 0, ih)

pub over_marks_lem : (ms : List Mark) (rest : List ℕ) → over_marks (flat ms ++ rest) (length ms * 3) ≡ over_in (flat ms)
unfolding over_marks
over_marks_lem ms rest =
    let n : min (length ms * 3) (length (flat ms ++ rest)) ≡ length (flat ms) = omega (arith, flat_length ms, length-append (flat ms) rest) in
    rw n (over_from_lem (flat ms) [] rest)

-- one of the marks has one
pub data High (m : Mark) : Type 0 where
  high_line : 65535 < m.line → High m
  high_first : 65535 < m.first → High m
  high_source : 65535 < m.source → High m

pub record HighIn (ms : List Mark) : Type 0 where
  pub mark : Mark
  pub member : Member mark ms
  pub high : High mark

high_here : (m : Mark) (ms : List Mark) → High m → HighIn (m ∷ ms)
high_here m ms h = record { mark = m; member = here; high = h }

high_later : (m : Mark) (ms : List Mark) → HighIn ms → HighIn (m ∷ ms)
high_later m ms h = record { mark = h.mark; member = there h.member; high = h.high }

pub over_some : (ms : List Mark) → over_in (flat ms) ≡ true → HighIn ms
unfolding over_in flat
over_some [] e = clash cc
over_some (m ∷ ms) e =
    by (ltb 65535 m.line) (λ a. high_here m ms (high_line (ltb-true 65535 m.line a))) (λ a.
    by (ltb 65535 m.first) (λ b. high_here m ms (high_first (ltb-true 65535 m.first b))) (λ b.
    by (ltb 65535 m.source) (λ c. high_here m ms (high_source (ltb-true 65535 m.source c))) (λ c.
    high_later m ms (over_some ms (rw (a, b, c) at e)))))

-- none has one
pub record Low (m : Mark) : Type 0 where
  pub first : m.first ≤ 65535
  pub source : m.source ≤ 65535

low_one : (z : ℕ) (zs : List ℕ) → over_in (z ∷ zs) ≡ false → (z ≤ 65535) × (over_in zs ≡ false)
unfolding over_in
low_one z zs e = by (ltb 65535 z) (λ a. clash (let q : true ≡ false = (rw a at e) in cc)) (λ a. (ltb-false 65535 z a, rw a at e))

pub over_none : (ms : List Mark) → over_in (flat ms) ≡ false → (m : Mark) → Member m ms → Low m
unfolding flat
over_none [] e m h = member_none h refl
over_none (n ∷ ms) e m h = go (over_none ms d m) (member_cases h)
  where
    a : (n.line ≤ 65535) × (over_in (n.first ∷ n.source ∷ flat ms) ≡ false)
    a = low_one n.line (n.first ∷ n.source ∷ flat ms) e

    b : (n.first ≤ 65535) × (over_in (n.source ∷ flat ms) ≡ false)
    b = low_one n.first (n.source ∷ flat ms) a.1

    c : (n.source ≤ 65535) × (over_in (flat ms) ≡ false)
    c = low_one n.source (flat ms) b.1

    d : over_in (flat ms) ≡ false
    d = c.1

    go : (Member m ms → Low m) → (m ≡ n) ⊎ Member m ms → Low m
    go f (inl q) = rw q (record { first = b.0; source = c.0 })
    go f (inr g) = f g
