-- The walk over a line's octets finds the marks of its parameters. Assumes nothing.
use mathlib.Core.Path.{◌≡◌, sym}
use mathlib.Core.List.{List, [], ◌∷◌}
use Prim.Native.Nat.{ℕ, zero, suc, ◌+◌, ◌≤◌}
use native.Mathlib.Omega.{arith}
use lib.Dec.{eqb}
use lib.ListN.{length, take, drop, length-drop}
use lib.Seq.{drop-drop}
use Rattle.octets.specs.Pick.{pick}
use Rattle.octets.specs.Cases.{same}
use Rattle.octets.specs.Classes.{run, named, quoted, bare}
use Rattle.line_parser.specs.Parse.{got, hd, many}
use Rattle.line_parser.specs.Grammar.{Value, plain, in_quotes, Param, Line, name_end}
use Rattle.line_parser.specs.Rule.{closing, value, Values, ends, is_colon, or_end, word, more_values, values, param, params, head, parse_line}
use Rattle.line_parser.proofs.ParseLaws.{bad_got, guard_inv, pick_inv, next_inv}
use Rattle.line_parser.proofs.PartLaws.{word_taken, head_count}
use Rattle.line_parameters.specs.First.{value_octets}
use Rattle.merge_pids.specs.Marks.{pid_name, body_at, width_at, values_marks, named_marks, params_marks}
use Rattle.merge_words.specs.ByLines.{values_pids, params_pids}

-- the octets of a value that was read, and how many it takes
value_body : (l : List ℕ) (v : Value) (k : ℕ) → value l ≡ got v k → (body_at l ≡ value_octets v) × (width_at l ≡ k)
unfolding value closing body_at width_at value_octets
value_body l v k h =
    pick_inv (eqb (hd l) 34) _ _ h
    (λ t q. guard_inv (eqb (hd (drop (run quoted (drop 1 l)) (drop 1 l))) 34) _ _ q (λ u r.
    let e : v ≡ in_quotes (take (run quoted (drop 1 l)) (drop 1 l)) = cc in
    let f : k ≡ suc (run quoted (drop 1 l) + 1) = cc in
    (rw (t, e), rw (t, f) (omega arith))))
    (λ t r.
    let e : v ≡ plain (take (run bare l) l) = cc in
    let f : k ≡ run bare l = cc in
    (rw (t, e), rw (t, f)))

-- values, each after a comma
values_walk : (i n m : ℕ) (l : List ℕ) (v : Value) (k : ℕ) (vs : List Value) (j : ℕ) → value l ≡ got v k
    → many 44 value ends (or_end 42 43) n (drop k l) ≡ got vs j → n ≤ m → values_marks i m l ≡ values_pids i (v ∷ vs)
unfolding many values_marks values_pids
values_walk i zero m l v k vs j h q b = absurd (bad_got q)
values_walk i (suc n) zero l v k vs j h q b = absurd (omega arith)
values_walk i (suc n) (suc m) l v k vs j h q b =
    let w = value_body l v k h in
    pick_inv (eqb (hd (drop k l)) 44) _ _ q
    (λ t r. next_inv (value (drop 1 (drop k l))) _ r (λ u a p₁ q₁. next_inv (many 44 value ends (or_end 42 43) n (drop a (drop 1 (drop k l)))) _ q₁ (λ us d p₂ q₂.
    let e : vs ≡ u ∷ us = cc in
    let ih : values_marks i m (drop 1 (drop k l)) ≡ values_pids i (u ∷ us) = values_walk i n m (drop 1 (drop k l)) u a us d p₁ p₂ (omega arith) in
    rw (w.0, w.1, t, ← drop-drop 1 k l, ih, e))))
    (λ t r. guard_inv (ends (hd (drop k l))) _ _ r (λ t₁ r₁.
    let e : vs ≡ [] = cc in
    rw (w.0, w.1, t, e)))

values_law : (i : ℕ) (l : List ℕ) (vs : Values) (k : ℕ) → values l ≡ got vs k → values_marks i (suc (length l)) l ≡ values_pids i (vs.first ∷ vs.more)
unfolding values more_values
values_law i l vs k h =
    next_inv (value l) _ h (λ v a p₁ q₁. next_inv (many 44 value ends (or_end 42 43) (suc (length (drop a l))) (drop a l)) _ q₁ (λ ws j p₂ q₂.
    let e : vs ≡ record { first = v; more = ws } = cc in
    rw e (values_walk i (suc (length (drop a l))) (suc (length l)) l v a ws j p₁ p₂ (omega (arith, length-drop a l)))))

-- a parameter that was read
param_law : (i : ℕ) (l : List ℕ) (p : Param) (k : ℕ) → param l ≡ got p k
    → named_marks i (take (run named l) l) (drop (run named l + 1) l) ≡ pick (same p.name pid_name) (values_pids i (p.first ∷ p.more)) []
unfolding param named_marks
param_law i l p k h =
    next_inv (word 41 l) _ h (λ a n p₁ q₁. guard_inv (eqb (hd (drop n l)) 61) _ _ q₁ (λ t q₂.
    next_inv (values (drop 1 (drop n l))) _ q₂ (λ vs j p₂ q.
    let w = word_taken 41 l a n p₁ in
    let e : p ≡ record { name = a; first = vs.first; more = vs.more } = cc in
    let m : run named l ≡ n = sym w.whole in
    rw (m, ← w.octets, ← drop-drop 1 n l, values_law i (drop 1 (drop n l)) vs j p₂, e))))

params_walk : (i n m : ℕ) (l : List ℕ) (ps : List Param) (k : ℕ) → params n l ≡ got ps k → n ≤ m → params_marks i m l ≡ params_pids i ps
unfolding params many params_marks params_pids
params_walk i zero m l ps k h b = absurd (bad_got h)
params_walk i (suc n) zero l ps k h b = absurd (omega arith)
params_walk i (suc n) (suc m) l ps k h b =
    pick_inv (eqb (hd l) 59) _ _ h
    (λ t q. next_inv (param (drop 1 l)) _ q (λ p a p₁ q₁. next_inv (many 59 param is_colon (or_end 40 43) n (drop a (drop 1 l))) _ q₁ (λ qs j p₂ q₂.
    let ih = params_walk i n m (drop a (drop 1 l)) qs j p₂ (omega arith) in
    let e : ps ≡ p ∷ qs = cc in
    rw (t, p₁, ih, param_law i (drop 1 l) p a p₁, e))))
    (λ t q. guard_inv (is_colon (hd l)) _ _ q (λ t₁ q₁.
    let e : ps ≡ [] = cc in
    rw (t, e)))

-- behind the name of an accepted line
pub line_marks_lem : (i : ℕ) (l : List ℕ) (x : Line) (k : ℕ) → parse_line l ≡ got x k
    → params_marks i (suc (length (drop (name_end x) l))) (drop (name_end x) l) ≡ params_pids i x.params
unfolding parse_line name_end
line_marks_lem i l x k h =
    next_inv (head l) _ h (λ y n p₁ q₁. next_inv (params (suc (length (drop n l))) (drop n l)) _ q₁ (λ ps j p₂ q₂.
    let e : x ≡ record { group = y.group; name = y.name; params = ps; value = drop 1 (drop j (drop n l)) } = cc in
    rw (e, head_count l y n p₁) (params_walk i _ (suc (length (drop n l))) (drop n l) ps j p₂ (omega arith))))
