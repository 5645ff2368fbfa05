-- What is known of the parts that the line rule's readings accept: how many octets they take, and what stands after them.
-- Assumes nothing.
use mathlib.Core.Path.{◌≡◌, refl, sym, ap, ◌∙◌}
use mathlib.Core.Bool.{Bool, true, false}
use mathlib.Core.List.{List, [], ◌∷◌, ◌++◌, append_assoc}
use Prim.Native.Nat.{ℕ, suc, ◌+◌, ◌<◌, ◌≤◌}
use native.Mathlib.Omega.{arith}
use lib.Dec.{eqb, ltb}
use lib.ListN.{length, take, drop, length-append, length-drop}
use lib.Seq.{drop-drop, length-take-le}
use borrow.Author.Tests.{eqb-true, ltb-true, ltb-false}
use Rattle.octets.specs.Classes.{run, more, named}
use Rattle.line_parser.specs.Parse.{got, hd}
use Rattle.line_parser.specs.Grammar.{Value, Param, group_text}
use Rattle.line_parser.specs.Rule.{word, value, Values, ends, or_end, is_colon, more_values, values, param, params, Head, head}
use Rattle.line_parser.proofs.ParseLaws.{guard_inv, pick_inv, next_inv, drop_suc, many_stop}

more_le : (b : Bool) (m n : ℕ) → m ≤ n → more b m ≤ suc n
more_le true m n h = omega arith
more_le false m n h = omega arith

-- a run is no longer than its list
pub run_le : (p : ℕ → Bool) (l : List ℕ) → run p l ≤ length l
unfolding run
run_le p [] = omega arith
run_le p (x ∷ xs) = more_le (p x) (run p xs) (length xs) (run_le p xs)

-- an accepted word: the run of its octets, at least one
pub record Taken (l a : List ℕ) (k : ℕ) : Type 0 where
  pub some : 0 < k
  pub whole : k ≡ run named l
  pub octets : a ≡ take k l
  pub count : length a ≡ k

pub word_taken : (e : ℕ) (l a : List ℕ) (k : ℕ) → word e l ≡ got a k → Taken l a k
unfolding word
word_taken e l a k h =
    guard_inv (ltb 0 (run named l)) e _ h (λ t q.
    let ek : k ≡ run named l = cc in
    let ea : a ≡ take (run named l) l = cc in
    rw (ea, ek) record {
      some = ltb-true 0 (run named l) t;
      whole = refl;
      octets = refl;
      count = length-take-le (run named l) l (run_le named l);
    })

-- where an octet that is not 0 stands, the list has not ended
pub before_end : (l : List ℕ) (k : ℕ) → 0 < hd (drop k l) → k < length l
before_end l k h = go (ltb k (length l)) refl
  where
    empty : (r : List ℕ) → length r ≤ 0 → 0 < hd r → ⊥
    empty [] z p = omega arith
    empty (x ∷ xs) z p = omega arith

    go : (t : Bool) → ltb k (length l) ≡ t → k < length l
    go true e = ltb-true k (length l) e
    go false e = absurd (empty (drop k l) (omega (arith, length-drop k l, ltb-false k (length l) e)) h)

-- what an accepted parameter is made of, and that a `;` or a `:` stands after it
pub param_parts : {C : Type 0} (l : List ℕ) (p : Param) (k : ℕ) → param l ≡ got p k
    → ((n i : ℕ) → word 41 l ≡ got p.name n → hd (drop n l) ≡ 61 → value (drop 1 (drop n l)) ≡ got p.first i
    → ends (hd (drop k l)) ≡ true → C) → C
unfolding param values more_values
param_parts l p k h f =
    next_inv (word 41 l) _ h (λ a n p₁ q₁. guard_inv (eqb (hd (drop n l)) 61) _ _ q₁ (λ t q₂.
    let r : List ℕ = drop 1 (drop n l) in
    next_inv (values r) _ q₂ (λ vs j p₂ q.
    next_inv (value r) _ p₂ (λ v i p₃ q₃.
    next_inv (more_values (suc (length (drop i r))) (drop i r)) _ q₃ (λ ws m p₄ q₄.
    let ep : p ≡ record { name = a; first = vs.first; more = vs.more } = cc in
    let ev : vs ≡ record { first = v; more = ws } = cc in
    let ea : a ≡ p.name = ap (λ (x : Param). x.name) (sym ep) in
    let ef : v ≡ p.first = ap (λ (x : Values). x.first) (sym ev) ∙ ap (λ (x : Param). x.first) (sym ep) in
    let ek : k ≡ n + suc (i + m) = cc in
    let there : drop m (drop i r) ≡ drop k l =
    drop-drop m i r ∙ drop_suc (i + m) (drop n l) ∙ drop-drop (suc (i + m)) n l ∙ ap (λ (x : ℕ). drop x l) (sym ek) in
    let stop = many_stop 44 value ends (or_end 42 43) (suc (length (drop i r))) (drop i r) ws m p₄ in
    f n i (p₁ ∙ ap (λ (x : List ℕ). got x n) ea) (eqb-true _ 61 t) (p₃ ∙ ap (λ (x : Value). got x i) ef) (rw (sym there) stop))))))

pub group_dot : (a b : List ℕ) → 0 < length a → group_text a ++ b ≡ a ++ 46 ∷ b
unfolding group_text
group_dot [] b h = absurd (omega arith)
group_dot (x ∷ xs) b h = append_assoc (x ∷ xs) (46 ∷ []) b

-- what an accepted head is made of: a group, a dot and a name, or a name alone
pub head_parts : {C : Type 0} (l : List ℕ) (x : Head) (k : ℕ) → head l ≡ got x k
    → ((a b : List ℕ) (n m : ℕ) → x ≡ record { group = a; name = b } → k ≡ n + suc m → Taken l a n → Taken (drop 1 (drop n l)) b m → C)
    → ((a : List ℕ) → x ≡ record { group = []; name = a } → Taken l a k → C) → C
unfolding head
head_parts l x k h f g =
    next_inv (word 40 l) _ h (λ a n p₁ q₁.
    let i = word_taken 40 l a n p₁ in
    pick_inv (eqb (hd (drop n l)) 46) _ _ q₁
    (λ t q₂. next_inv _ _ q₂ (λ b m p₂ q. f a b n m (cc) (cc) i (word_taken 40 (drop 1 (drop n l)) b m p₂)))
    (λ t q.
    let ek : k ≡ n = cc in
    g a (cc) (rw ek i)))

-- the octets taken are those of group, dot and name
pub head_count : (l : List ℕ) (x : Head) (k : ℕ) → head l ≡ got x k → length (group_text x.group ++ x.name) ≡ k
unfolding group_text
head_count l x k h =
    head_parts l x k h
    (λ a b n m ea ek i j. rw (ea, ek, group_dot a b (omega arith), length-append) (omega arith))
    (λ a ea i. rw ea i.count)

-- after the parameters a colon stands
pub params_stop : (n : ℕ) (l : List ℕ) (ps : List Param) (k : ℕ) → params n l ≡ got ps k → hd (drop k l) ≡ 58
unfolding params is_colon
params_stop n l ps k h = eqb-true _ 58 (many_stop 59 param is_colon (or_end 40 43) n l ps k h)
