-- A line that has a fault is refused with its number; so no line has two faults, and a good line none. Assumes nothing.
use mathlib.Core.Path.{◌≡◌, refl, ap, ◌∙◌}
use mathlib.Core.Bool.{Bool, true, false}
use mathlib.Core.List.{List, [], ◌∷◌, ◌++◌}
use mathlib.Core.Logic.{◌↔◌}
use Prim.Native.Nat.{ℕ, zero, suc, ◌+◌, ◌<◌}
use native.Mathlib.Nat.{not-suc-le-zero}
use native.Mathlib.Omega.{arith}
use lib.Dec.{eqb}
use lib.ListN.{length, drop, length-drop, length-append}
use lib.Seq.{drop-append_seam}
use borrow.Author.Tests.{eq-eqb}
use Rattle.octets.specs.Classes.{run, named, quoted}
use Rattle.line_parser.specs.Parse.{Parse, got, bad, next, hd, many}
use Rattle.line_parser.specs.Grammar.{Value, Param, Each, Is, value_text, param_text, group_text}
use Rattle.line_parser.specs.Rule.{word, closing, value, ends, is_colon, or_end, more_values, values, param, params, head, parse_line}
use Rattle.line_parser.proofs.ParseLaws.{next_got, next_bad, guard_yes, guard_no, pick_yes, many_end}
use Rattle.line_laws.specs.Faults.{ValuesFault, ParamsFault, LineFault}
use Rattle.line_parameters.proofs.Complete.{run_append, word_complete, value_whole, value_complete, comma, param_complete, semicolon, head_complete, equals_not, dot_not, named_not}
use Rattle.line_laws.proofs.FaultSound.{line_fault}

run_none : (p : ℕ → Bool) (l : List ℕ) → p (hd l) ≡ false → run p l ≡ 0
unfolding run
run_none p [] h = refl
run_none p (x ∷ xs) h = rw h

word_none : (e : ℕ) (l : List ℕ) → named (hd l) ≡ false → word e l ≡ bad e
unfolding word
word_none e l h = rw (run_none named l h)

quote_open : (xs r : List ℕ) → Each (Is quoted) xs → quoted (hd r) ≡ false → eqb (hd r) 34 ≡ false → value (34 ∷ (xs ++ r)) ≡ bad 42
unfolding value closing
quote_open xs r w s o = rw (run_append quoted xs r w s, drop-append_seam xs r, o)

-- a part that is refused after the octet c, or any after it
many_later : {A : Type 0} (c : ℕ) (p : List ℕ → Parse A) (ok : ℕ → Bool) (e : List ℕ → ℕ) (m : ℕ) (l : List ℕ) (x : ℕ) → length (c ∷ l) < m
    → ((j : ℕ) → length l < j → next (p l) (λ a k. next (many c p ok e j (drop k l)) (λ xs i. got (a ∷ xs) (suc (k + i)))) ≡ bad x)
    → many c p ok e m (c ∷ l) ≡ bad x
unfolding many
many_later c p ok e zero l x lt f = absurd (not-suc-le-zero lt)
many_later c p ok e (suc j) l x lt f = pick_yes _ _ (eq-eqb c c refl) ∙ f j (omega arith)

-- values from after `=` or a comma on, whatever is made of them; n bounds the count of further ones
values_broken : {B : Type 0} (e : ℕ) (l : List ℕ) → ValuesFault e l → (n : ℕ → ℕ) → ((k : ℕ) → length (drop k l) < n k)
    → (g : Value → ℕ → List Value → ℕ → Parse B) → next (value l) (λ v k. next (more_values (n k) (drop k l)) (g v k)) ≡ bad e
unfolding more_values
values_broken e l (ValuesFault.open_quote xs r w s o) n lt g = next_bad _ (quote_open xs r w s o)
values_broken e l (ValuesFault.not_ended v r w f d s) n lt g =
    let t = value_text v in
    let here : drop (length t) (t ++ r) ≡ r = drop-append_seam t r in
    let pos : 0 < n (length t) = omega (arith, lt (length t)) in
    next_got _ (value_whole v r w f)
    ∙ next_bad _ (ap (many 44 value ends (or_end 42 43) (n (length t))) here
    ∙ many_end 44 value ends (or_end 42 43) (n (length t)) r pos d ∙ guard_no _ _ s)
values_broken e l (ValuesFault.later e' v r w b) n lt g =
    let t = value_text v in
    let here : drop (length t) (t ++ 44 ∷ r) ≡ 44 ∷ r = drop-append_seam t (44 ∷ r) in
    let more : length (44 ∷ r) < n (length t) = rw here at (lt (length t)) in
    next_got _ (value_complete v (44 ∷ r) w comma)
    ∙ next_bad _ (ap (many 44 value ends (or_end 42 43) (n (length t))) here
    ∙ many_later 44 value ends (or_end 42 43) (n (length t)) r e' more (λ j h.
    values_broken e' r b (λ k. j) (λ k. omega (arith, length-drop k r)) (λ u k us i. got (u ∷ us) (suc (k + i)))))

values_refused : (e : ℕ) (l : List ℕ) → ValuesFault e l → values l ≡ bad e
unfolding values
values_refused e l b = values_broken e l b (λ k. suc (length (drop k l))) (λ k. omega arith) _

-- parameters from after a semicolon on
params_broken : {B : Type 0} (e : ℕ) (l : List ℕ) → ParamsFault e l → (n : ℕ) → length l < n
    → (g : Param → ℕ → List Param → ℕ → Parse B) → next (param l) (λ p k. next (params n (drop k l)) (g p k)) ≡ bad e
unfolding param params
params_broken e l (ParamsFault.no_name l' h) n lt g = next_bad _ (next_bad _ (word_none 41 l' h))
params_broken e l (ParamsFault.no_equals a r w s d) n lt g =
    let q : eqb (hd (drop (length a) (a ++ r))) 61 ≡ false = rw (drop-append_seam a r) d in
    next_bad _ (next_got _ (word_complete 41 a r w s) ∙ guard_no _ _ q)
params_broken e l (ParamsFault.in_values e' a r w b) n lt g =
    let here : drop (length a) (a ++ 61 ∷ r) ≡ 61 ∷ r = drop-append_seam a (61 ∷ r) in
    let t : eqb (hd (drop (length a) (a ++ 61 ∷ r))) 61 ≡ true = rw here in
    let q : values (drop 1 (drop (length a) (a ++ 61 ∷ r))) ≡ bad e' = rw here (values_refused e' r b) in
    next_bad _ (next_got _ (word_complete 41 a (61 ∷ r) w equals_not) ∙ guard_yes _ _ t ∙ next_bad _ q)
params_broken e l (ParamsFault.later e' p r w b) n lt g =
    let t = param_text p in
    let here : drop (length t) (t ++ 59 ∷ r) ≡ 59 ∷ r = drop-append_seam t (59 ∷ r) in
    let more : length (59 ∷ r) < n = omega (arith, length-append t (59 ∷ r)) in
    next_got _ (param_complete p (59 ∷ r) w semicolon)
    ∙ next_bad _ (ap (many 59 param is_colon (or_end 40 43) n) here
    ∙ many_later 59 param is_colon (or_end 40 43) n r e' more (λ j h. params_broken e' r b j h (λ q k qs i. got (q ∷ qs) (suc (k + i)))))

line_refused : (e : ℕ) (l : List ℕ) → LineFault e l → parse_line l ≡ bad e
unfolding parse_line head params
line_refused e l (LineFault.no_name l' h) = next_bad _ (next_bad _ (word_none 40 l' h))
line_refused e l (LineFault.no_name_after_group g r w h) =
    let here : drop (length g) (g ++ 46 ∷ r) ≡ 46 ∷ r = drop-append_seam g (46 ∷ r) in
    let t : eqb (hd (drop (length g) (g ++ 46 ∷ r))) 46 ≡ true = rw here in
    let q : word 40 (drop 1 (drop (length g) (g ++ 46 ∷ r))) ≡ bad 40 = rw here (word_none 40 r h) in
    next_bad _ (next_got _ (word_complete 40 g (46 ∷ r) w dot_not) ∙ pick_yes _ _ t ∙ next_bad _ q)
line_refused e l (LineFault.in_params e' g n r wg wn b) =
    let a = group_text g ++ n in
    let here : drop (length a) (a ++ 59 ∷ r) ≡ 59 ∷ r = drop-append_seam a (59 ∷ r) in
    next_got _ (head_complete g n (59 ∷ r) wg wn (named_not semicolon) (λ z. refl))
    ∙ next_bad _ (ap (λ (s : List ℕ). many 59 param is_colon (or_end 40 43) (suc (length s)) s) here
    ∙ many_later 59 param is_colon (or_end 40 43) (suc (length (59 ∷ r))) r e' (omega arith) (λ j h. params_broken e' r b j h (λ q k qs i. got (q ∷ qs) (suc (k + i)))))
line_refused e l (LineFault.no_colon g n r wg wn s d t u) =
    let a = group_text g ++ n in
    let here : drop (length a) (a ++ r) ≡ r = drop-append_seam a r in
    next_got _ (head_complete g n r wg wn s d)
    ∙ next_bad _ (ap (λ (x : List ℕ). many 59 param is_colon (or_end 40 43) (suc (length x)) x) here
    ∙ many_end 59 param is_colon (or_end 40 43) (suc (length r)) r (omega arith) t ∙ guard_no _ _ u)

-- a line is refused with a number exactly when it has the fault of that number
pub fault_law : (l : List ℕ) (e : ℕ) → (parse_line l ≡ bad e) ↔ LineFault e l
fault_law l e = (line_fault l e, line_refused e l)
