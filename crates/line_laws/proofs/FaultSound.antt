-- A line that is refused with a number has the fault of that number. Assumes nothing.
use mathlib.Core.Path.{◌≡◌, refl, sym, ap, ◌∙◌, subst}
use mathlib.Core.Bool.{Bool, true, false}
use mathlib.Core.List.{List, [], ◌∷◌, ◌++◌}
use Prim.Native.Nat.{ℕ, zero, suc, ◌+◌, ◌<◌}
use native.Mathlib.Nat.{not-suc-le-zero}
use native.Mathlib.Omega.{arith}
use lib.Dec.{eqb, ltb}
use lib.ListN.{length, take, drop, length-drop, take-append-drop}
use lib.Seq.{drop-drop, length-take-le}
use borrow.Author.Tests.{eqb-true, ltb-false}
use Rattle.octets.specs.Classes.{run, more, named, letter, digit, hyphen, quoted, valued, bare}
use Rattle.octets.proofs.Bools.{clash}
use Rattle.line_parser.specs.Parse.{Parse, got, bad, next, guard, hd, many}
use Rattle.line_parser.specs.Grammar.{Value, plain, in_quotes, GoodValue, value_text, param_text, group_text}
use Rattle.line_parser.specs.Rule.{word, closing, value, ends, is_colon, or_end, more_values, values, param, params, Head, head, parse_line}
use Rattle.line_parser.proofs.ParseLaws.{bad_got, guard_inv, guard_yes, pick_inv, next_inv, many_end, drop_suc}
use Rattle.line_parser.proofs.PartLaws.{run_le, word_taken, param_parts}
use Rattle.line_parameters.specs.Whole.{Whole}
use Rattle.line_laws.specs.Faults.{ValuesFault, ParamsFault, LineFault}
use Rattle.line_parameters.proofs.Pieces.{hd_cons, part_then}
use Rattle.line_parameters.proofs.Sound.{run_each, word_sound, value_sound, param_sound, head_sound}

module _ {A C : Type 0} where
  guard_fault : (t : Bool) (x : ℕ) (p : Parse A) {e : ℕ} → guard t x p ≡ bad e → (t ≡ false → x ≡ e → C) → (t ≡ true → p ≡ bad e → C) → C
  guard_fault true x p h f g = g refl h
  guard_fault false x p h f g = f refl (cc)

  next_fault : {B : Type 0} (m : Parse A) (k : A → ℕ → Parse B) {e : ℕ} → next m k ≡ bad e
      → (m ≡ bad e → C) → ((a : A) (n : ℕ) → m ≡ got a n → k a n ≡ bad e → C) → C
  next_fault (got a n) k h f g = g a n refl h
  next_fault (bad x) k h f g = f (ap bad (cc))

  no_fault : {a : A} {k e : ℕ} → got a k ≡ bad e → C
  no_fault h = absurd (bad_got (sym h))

-- after a run stands an octet of another class
more_stop : (p : ℕ → Bool) (x : ℕ) (xs : List ℕ) (t : Bool) → p x ≡ t → p (hd (drop (run p xs) xs)) ≡ false
    → p (hd (drop (more t (run p xs)) (x ∷ xs))) ≡ false
more_stop p x xs true e h = h
more_stop p x xs false e h = e

run_stop : (p : ℕ → Bool) → p 0 ≡ false → (l : List ℕ) → p (hd (drop (run p l) l)) ≡ false
unfolding run
run_stop p z [] = z
run_stop p z (x ∷ xs) = more_stop p x xs (p x) refl (run_stop p z xs)

named_zero : named 0 ≡ false
unfolding named letter digit hyphen
named_zero = refl

quoted_zero : quoted 0 ≡ false
unfolding quoted valued
quoted_zero = refl

bare_zero : bare 0 ≡ false
unfolding bare quoted valued
bare_zero = refl

word_fault : (x : ℕ) (l : List ℕ) (e : ℕ) → word x l ≡ bad e → (x ≡ e) × (named (hd l) ≡ false)
unfolding word
word_fault x l e h =
    guard_fault (ltb 0 (run named l)) x _ h (λ t q.
    let n : run named l ≡ 0 = omega (arith, ltb-false 0 (run named l) t) in
    (q, rw n at (run_stop named named_zero l)))
    (λ t q. no_fault q)

word_stop : (x : ℕ) (l a : List ℕ) (k : ℕ) → word x l ≡ got a k → named (hd (drop k l)) ≡ false
word_stop x l a k h = rw (word_taken x l a k h).whole (run_stop named named_zero l)

-- an accepted value is whole
value_whole_read : (l : List ℕ) (v : Value) (k : ℕ) → value l ≡ got v k → Whole v (drop k l)
unfolding value closing
value_whole_read l v k h =
    pick_inv (eqb (hd l) 34) _ _ h
    (λ t q. guard_inv (eqb (hd (drop (run quoted (drop 1 l)) (drop 1 l))) 34) 42 _ q (λ t₁ q₁.
    let ea : v ≡ in_quotes (take (run quoted (drop 1 l)) (drop 1 l)) = cc in
    rw ea tt))
    (λ t q.
    let ea : v ≡ plain (take (run bare l) l) = cc in
    let ek : k ≡ run bare l = cc in
    rw (ea, ek) (
      run_stop bare bare_zero l,
      λ z.
          let n : run bare l ≡ 0 = sym (length-take-le (run bare l) l (run_le bare l)) ∙ z in
          rw n t,
    ))

value_fault : (l : List ℕ) (e : ℕ) → value l ≡ bad e → ValuesFault e l
unfolding value closing
value_fault l e h =
    pick_inv (eqb (hd l) 34) _ _ h
    (λ t q. guard_fault (eqb (hd (drop (run quoted (drop 1 l)) (drop 1 l))) 34) 42 _ q
    (λ t₁ q₁.
    let m : List ℕ = drop 1 l in
    let line : l ≡ 34 ∷ (take (run quoted m) m ++ drop (run quoted m) m) =
    hd_cons 34 l (omega arith) (eqb-true (hd l) 34 t) ∙ ap (λ (s : List ℕ). 34 ∷ s) (sym (take-append-drop (run quoted m) m)) in
    rw (line, sym q₁) (ValuesFault.open_quote (take (run quoted m) m) (drop (run quoted m) m) (run_each quoted m) (run_stop quoted quoted_zero m) t₁))
    (λ t₁ q₁. no_fault q₁))
    (λ t q. no_fault q)

-- further values after a good one
after_value : (n : ℕ) (v : Value) (r : List ℕ) (e : ℕ) → length r < n → GoodValue v → Whole v r → more_values n r ≡ bad e
    → ValuesFault e (value_text v ++ r)
unfolding more_values many
after_value zero v r e lt w f h = absurd (not-suc-le-zero lt)
after_value (suc n) v r e lt w f h =
    pick_inv (eqb (hd r) 44) _ _ h
    (λ t q.
    let start = hd_cons 44 r (omega arith) (eqb-true (hd r) 44 t) in
    let on : ValuesFault e (drop 1 r) → ValuesFault e (value_text v ++ r) =
    λ b. subst (λ (s : List ℕ). ValuesFault e (value_text v ++ s)) (sym start) (ValuesFault.later e v (drop 1 r) w b) in
    next_fault (value (drop 1 r)) _ q
    (λ b. on (value_fault (drop 1 r) e b))
    (λ u i p₁ q₁. next_fault (many 44 value ends (or_end 42 43) n (drop i (drop 1 r))) _ q₁
    (λ b.
    let one = value_sound (drop 1 r) u i p₁ in
    let lt' : length (drop i (drop 1 r)) < n = rw (length-drop, length-drop) (omega (arith, ap length start)) in
    on (rw one.1 (after_value n u (drop i (drop 1 r)) e lt' one.0 (value_whole_read (drop 1 r) u i p₁) b)))
    (λ us j p₂ q₂. no_fault q₂)))
    (λ t q. guard_fault (ends (hd r)) _ _ q
    (λ t₁ q₁. subst (λ (m : ℕ). ValuesFault m (value_text v ++ r)) q₁ (ValuesFault.not_ended v r w f t t₁))
    (λ t₁ q₁. no_fault q₁))

values_fault : (l : List ℕ) (e : ℕ) → values l ≡ bad e → ValuesFault e l
unfolding values
values_fault l e h =
    next_fault (value l) _ h (value_fault l e)
    (λ v i p₁ q₁.
    let one = value_sound l v i p₁ in
    next_fault (more_values (suc (length (drop i l))) (drop i l)) _ q₁
    (λ b. rw one.1 (after_value (suc (length (drop i l))) v (drop i l) e (omega arith) one.0 (value_whole_read l v i p₁) b))
    (λ vs j p₂ q₂. no_fault q₂))

param_fault : (l : List ℕ) (e : ℕ) → param l ≡ bad e → ParamsFault e l
unfolding param
param_fault l e h =
    next_fault (word 41 l) _ h
    (λ b.
    let w = word_fault 41 l e b in
    subst (λ (n : ℕ). ParamsFault n l) w.0 (ParamsFault.no_name l w.1))
    (λ a n p₁ q₁.
    let one = word_sound 41 l a n p₁ in
    guard_fault (eqb (hd (drop n l)) 61) 41 _ q₁
    (λ t q. subst (λ (m : ℕ). ParamsFault m l) q (rw one.1 (ParamsFault.no_equals a (drop n l) one.0 (word_stop 41 l a n p₁) t)))
    (λ t q. next_fault (values (drop 1 (drop n l))) _ q
    (λ b.
    let line = part_then 61 l a n (omega arith) one.1 t in
    rw line (ParamsFault.in_values e a (drop 1 (drop n l)) one.0 (values_fault (drop 1 (drop n l)) e b)))
    (λ vs k p₂ q₂. no_fault q₂)))

colon_else : (c : ℕ) → ends c ≡ true → eqb c 59 ≡ false → is_colon c ≡ true
unfolding ends is_colon
colon_else c h d = rw d at h

-- parameters from a semicolon on
params_fault : (n : ℕ) (l : List ℕ) (e : ℕ) → length l < n → eqb (hd l) 59 ≡ true → params n l ≡ bad e → ParamsFault e (drop 1 l)
unfolding params many
params_fault zero l e lt semi h = absurd (not-suc-le-zero lt)
params_fault (suc n) l e lt semi h =
    pick_inv (eqb (hd l) 59) _ _ h
    (λ t q.
    let start = hd_cons 59 l (omega arith) (eqb-true (hd l) 59 t) in
    next_fault (param (drop 1 l)) _ q (param_fault (drop 1 l) e)
    (λ p i p₁ q₁.
    let r : List ℕ = drop i (drop 1 l) in
    next_fault (many 59 param is_colon (or_end 40 43) n r) _ q₁
    (λ b.
    let one = param_sound (drop 1 l) p i p₁ in
    let lt' : length (drop i (drop 1 l)) < n = rw (length-drop, length-drop) (omega (arith, ap length start)) in
    pick_inv (eqb (hd r) 59) true false refl
    (λ t₁ z.
    let line = part_then 59 (drop 1 l) (param_text p) i (omega arith) one.1 t₁ in
    rw line (ParamsFault.later e p (drop 1 r) one.0 (params_fault n r e lt' t₁ b)))
    (λ t₁ z.
    param_parts (drop 1 l) p i p₁ (λ m j u eq v stop.
    let full : many 59 param is_colon (or_end 40 43) n r ≡ got [] 0 =
    many_end 59 param is_colon (or_end 40 43) n r (omega arith) t₁ ∙ guard_yes _ _ (colon_else (hd r) stop t₁) in
    no_fault (sym full ∙ b))))
    (λ ps j p₂ q₂. no_fault q₂)))
    (λ t q. clash cc)

head_fault : (l : List ℕ) (e : ℕ) → head l ≡ bad e → LineFault e l
unfolding head
head_fault l e h =
    next_fault (word 40 l) _ h
    (λ b.
    let w = word_fault 40 l e b in
    subst (λ (n : ℕ). LineFault n l) w.0 (LineFault.no_name l w.1))
    (λ a n p₁ q₁.
    let one = word_sound 40 l a n p₁ in
    pick_inv (eqb (hd (drop n l)) 46) _ _ q₁
    (λ t q. next_fault (word 40 (drop 1 (drop n l))) _ q
    (λ b.
    let w = word_fault 40 (drop 1 (drop n l)) e b in
    let line = part_then 46 l a n (omega arith) one.1 t in
    subst (λ (m : ℕ). LineFault m l) w.0 (rw line (LineFault.no_name_after_group a (drop 1 (drop n l)) one.0 w.1)))
    (λ b m p₂ q₂. no_fault q₂))
    (λ t q. no_fault q))

-- after an accepted name stands no further octet of it, and no dot where there is no group
head_stop : (l : List ℕ) (x : Head) (k : ℕ) → head l ≡ got x k
    → (named (hd (drop k l)) ≡ false) × (length x.group ≡ 0 → eqb (hd (drop k l)) 46 ≡ false)
unfolding head
head_stop l x k h =
    next_inv (word 40 l) _ h (λ a n p₁ q₁.
    pick_inv (eqb (hd (drop n l)) 46) _ _ q₁
    (λ t q₂. next_inv (word 40 (drop 1 (drop n l))) _ q₂ (λ b m p₂ q.
    let ea : x ≡ record { group = a; name = b } = cc in
    let ek : k ≡ n + suc m = cc in
    let there : drop m (drop 1 (drop n l)) ≡ drop (n + suc m) l = drop_suc m (drop n l) ∙ drop-drop (suc m) n l in
    let w = word_taken 40 l a n p₁ in
    rw (ea, ek) (rw (sym there) (word_stop 40 (drop 1 (drop n l)) b m p₂), λ z. absurd (omega arith))))
    (λ t q.
    let ea : x ≡ record { group = []; name = a } = cc in
    let ek : k ≡ n = cc in
    rw (ea, ek) (word_stop 40 l a n p₁, λ z. t)))

pub line_fault : (l : List ℕ) (e : ℕ) → parse_line l ≡ bad e → LineFault e l
unfolding parse_line params
line_fault l e h =
    next_fault (head l) _ h (head_fault l e)
    (λ y n p₁ q₁.
    let one = head_sound l y n p₁ in
    let stop = head_stop l y n p₁ in
    let a = group_text y.group ++ y.name in
    let r : List ℕ = drop n l in
    next_fault (params (suc (length r)) r) _ q₁
    (λ b. pick_inv (eqb (hd r) 59) true false refl
    (λ t z.
    let line = part_then 59 l a n (omega arith) one.2 t in
    rw line (LineFault.in_params e y.group y.name (drop 1 r) one.0 one.1 (params_fault (suc (length r)) r e (omega arith) t b)))
    (λ t z. guard_fault (is_colon (hd r)) (or_end 40 43 r) (got [] 0) (sym (many_end 59 param is_colon (or_end 40 43) (suc (length r)) r (omega arith) t) ∙ b)
    (λ t₁ q.
    subst (λ (m : ℕ). LineFault m l) q
    (subst (LineFault (or_end 40 43 r)) (sym one.2) (LineFault.no_colon y.group y.name r one.0 one.1 stop.0 stop.1 t t₁)))
    (λ t₁ q. no_fault q)))
    (λ ps j p₂ q₂. no_fault q₂))
