-- What the line rule accepts is a well-formed line, written out. Assumes nothing.
use mathlib.Core.Path.{◌≡◌, refl, sym, ap, ◌∙◌}
use mathlib.Core.Bool.{Bool, true, false}
use mathlib.Core.List.{List, [], ◌∷◌, ◌++◌, append_assoc}
use Prim.Native.Nat.{ℕ, suc, ◌+◌}
use native.Mathlib.Omega.{arith}
use lib.Dec.{eqb}
use lib.ListN.{length, take, drop, take-append-drop}
use lib.Seq.{drop-drop}
use borrow.Author.Tests.{eq-eqb}
use Rattle.octets.specs.Classes.{run, more, named, quoted, bare}
use Rattle.line_parser.specs.Parse.{got, hd}
use Rattle.line_parser.specs.Grammar.{Value, plain, in_quotes, Param, Line, Each, Is, Word, GoodValue, GoodParam, WellFormed}
use Rattle.line_parser.specs.Grammar.{led, value_text, param_text, group_text, front, render}
use Rattle.line_parser.specs.Rule.{word, closing, value, Values, ends, or_end, is_colon, more_values, values, param, params, Head, head, parse_line}
use Rattle.line_parser.proofs.ParseLaws.{guard_inv, pick_inv, next_inv}
use Rattle.line_parser.proofs.PartLaws.{word_taken, group_dot, params_stop}
use Rattle.line_parameters.proofs.Pieces.{chain, lead, values_text, many_sound}

front_more : (p : ℕ → Bool) (x : ℕ) (xs : List ℕ) (b : Bool) → p x ≡ b → Each (Is p) (take (run p xs) xs)
    → Each (Is p) (take (more b (run p xs)) (x ∷ xs))
unfolding Each
front_more p x xs true e w = (e, w)
front_more p x xs false e w = tt

-- the octets of a run are of its class
pub run_each : (p : ℕ → Bool) (l : List ℕ) → Each (Is p) (take (run p l) l)
unfolding run Each
run_each p [] = tt
run_each p (x ∷ xs) = front_more p x xs (p x) refl (run_each p xs)

pub word_sound : (e : ℕ) (l a : List ℕ) (k : ℕ) → word e l ≡ got a k → Word a × (l ≡ a ++ drop k l)
word_sound e l a k h =
    let w = word_taken e l a k h in
    let ea : a ≡ take (run named l) l = w.octets ∙ ap (λ (n : ℕ). take n l) w.whole in
    let each : Each (Is named) a = rw ea (run_each named l) in
    let line : l ≡ a ++ drop k l = sym (take-append-drop k l) ∙ ap (λ (x : List ℕ). x ++ drop k l) (sym w.octets) in
    (record { some = omega arith; each = each }, line)

pub value_sound : (l : List ℕ) (v : Value) (k : ℕ) → value l ≡ got v k → GoodValue v × (l ≡ value_text v ++ drop k l)
unfolding value closing GoodValue value_text
value_sound l v k h =
    pick_inv (eqb (hd l) 34) _ _ h
    (λ t q. guard_inv (eqb (hd (drop (run quoted (drop 1 l)) (drop 1 l))) 34) 42 _ q (λ t₁ q₁.
    let m : List ℕ = drop 1 l in
    let n : ℕ = run quoted m in
    let ea : v ≡ in_quotes (take n m) = cc in
    let ek : k ≡ suc (n + 1) = cc in
    rw (ea, ek) (
      run_each quoted m,
      lead 34 l (take n m ++ 34 ∷ []) (n + 1) (omega arith) t
          (chain m (take n m) (34 ∷ []) n 1 (sym (take-append-drop n m)) (lead 34 (drop n m) [] 0 (omega arith) t₁ refl)),
    )))
    (λ t q.
    let ea : v ≡ plain (take (run bare l) l) = cc in
    let ek : k ≡ run bare l = cc in
    rw (ea, ek) (run_each bare l, sym (take-append-drop (run bare l) l)))

pub values_sound : (l : List ℕ) (vs : Values) (k : ℕ) → values l ≡ got vs k
    → GoodValue vs.first × Each GoodValue vs.more × (l ≡ values_text vs ++ drop k l)
unfolding values more_values
values_sound l vs k h =
    next_inv (value l) _ h (λ v i p₁ q₁. next_inv (more_values (suc (length (drop i l))) (drop i l)) _ q₁ (λ ws j p₂ q₂.
    let one = value_sound l v i p₁ in
    let rest = many_sound 44 value ends (or_end 42 43) value_text GoodValue (omega arith) value_sound _ (drop i l) ws j p₂ in
    let ea : vs ≡ record { first = v; more = ws } = cc in
    let ek : k ≡ i + j = cc in
    rw (ea, ek) (one.0, rest.0, chain l (value_text v) (led 44 value_text ws) i j one.1 rest.1)))

pub param_sound : (l : List ℕ) (p : Param) (k : ℕ) → param l ≡ got p k → GoodParam p × (l ≡ param_text p ++ drop k l)
unfolding param param_text
param_sound l p k h =
    next_inv (word 41 l) _ h (λ a n p₁ q₁. guard_inv (eqb (hd (drop n l)) 61) _ _ q₁ (λ t q₂.
    next_inv (values (drop 1 (drop n l))) _ q₂ (λ vs j p₂ q.
    let one = word_sound 41 l a n p₁ in
    let rest = values_sound (drop 1 (drop n l)) vs j p₂ in
    let ea : p ≡ record { name = a; first = vs.first; more = vs.more } = cc in
    let ek : k ≡ n + suc j = cc in
    rw (ea, ek) (
      record { name = one.0; first = rest.0; more = rest.1 },
      chain l a (61 ∷ values_text vs) n (suc j) one.1 (lead 61 (drop n l) (values_text vs) j (omega arith) t rest.2),
    ))))

pub head_sound : (l : List ℕ) (x : Head) (k : ℕ) → head l ≡ got x k
    → Each (Is named) x.group × Word x.name × (l ≡ (group_text x.group ++ x.name) ++ drop k l)
unfolding head group_text Each
head_sound l x k h =
    next_inv (word 40 l) _ h (λ a n p₁ q₁.
    let one = word_sound 40 l a n p₁ in
    pick_inv (eqb (hd (drop n l)) 46) _ _ q₁
    (λ t q₂. next_inv _ _ q₂ (λ b m p₂ q.
    let two = word_sound 40 (drop 1 (drop n l)) b m p₂ in
    let ea : x ≡ record { group = a; name = b } = cc in
    let ek : k ≡ n + suc m = cc in
    rw (ea, ek, group_dot a b one.0.some)
    (one.0.each, two.0, chain l a (46 ∷ b) n (suc m) one.1 (lead 46 (drop n l) b m (omega arith) t two.1))))
    (λ t q.
    let ea : x ≡ record { group = []; name = a } = cc in
    let ek : k ≡ n = cc in
    rw (ea, ek) (tt, one.0, one.1)))

pub line_sound : (l : List ℕ) (x : Line) (k : ℕ) → parse_line l ≡ got x k → WellFormed x × (l ≡ render x)
unfolding parse_line params render front is_colon
line_sound l x k h =
    next_inv (head l) _ h (λ y n p₁ q₁. next_inv (params (suc (length (drop n l))) (drop n l)) _ q₁ (λ ps j p₂ q₂.
    let one = head_sound l y n p₁ in
    let two = many_sound 59 param is_colon (or_end 40 43) param_text GoodParam (omega arith) param_sound _ (drop n l) ps j p₂ in
    let r : List ℕ = drop j (drop n l) in
    let colon : eqb (hd r) 58 ≡ true = eq-eqb (hd r) 58 (params_stop (suc (length (drop n l))) (drop n l) ps j p₂) in
    let ea : x ≡ record { group = y.group; name = y.name; params = ps; value = drop 1 r } = cc in
    let parts : l ≡ ((group_text y.group ++ y.name) ++ led 59 param_text ps) ++ (58 ∷ drop 1 r) =
    chain l (group_text y.group ++ y.name) (led 59 param_text ps) n j one.2 two.1
    ∙ ap (λ (s : List ℕ). ((group_text y.group ++ y.name) ++ led 59 param_text ps) ++ s)
    (sym (drop-drop j n l) ∙ lead 58 r [] 0 (omega arith) colon refl) in
    rw ea (record { group = one.0; name = one.1; params = two.0 }, parts ∙ simp append_assoc)))
