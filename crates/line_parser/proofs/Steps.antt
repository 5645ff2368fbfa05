-- The readings at a place of a line, by what the code tests there. Assumes nothing.
use mathlib.Core.Path.{◌≡◌, refl, sym, ap, ◌∙◌}
use mathlib.Core.Bool.{Bool, true, false}
use mathlib.Core.List.{List, [], ◌∷◌}
use Prim.Native.Nat.{ℕ, suc, ◌+◌, ◌-◌, ◌<◌, ◌≤◌}
use native.Mathlib.Nat.{add-zero}
use native.Mathlib.Omega.{arith}
use lib.Dec.{eqb}
use lib.ListN.{length, get_or, take, drop, drop_of_length-le, get_or-eq_default, length-drop}
use lib.Seq.{drop-drop, get_or-drop}
use borrow.Author.Tests.{eq-eqb, ne_eqb, lt-ltb, le-ltb}
use Rattle.std.specs.Prelude.{Result, Ok, Err}
use Rattle.numbers.specs.Refusals.{number}
use Rattle.numbers.specs.declared.refusal.Reason.{Reason}
use Rattle.line_parser.specs.declared.rule.Named.{Named as NamedPart}
use Rattle.line_parser.specs.declared.rule.Listed.{Listed as ListedPart}
use Rattle.octets.specs.Classes.{run, has, named, quoted, bare, bare_mask, name_mask, quoted_mask}
use Rattle.octets.proofs.Runs.{run_has}
use Rattle.octets.proofs.Masks.{has_named, has_bare, has_quoted}
use Rattle.octets.proofs.Bools.{clash}
use Rattle.line_parser.specs.Parse.{Parse, got, bad, next, guard, hd, many}
use Rattle.line_parser.specs.Grammar.{Value, in_quotes, Param, name_end}
use Rattle.line_parser.specs.Rule.{word, closing, value, ends, or_end, is_colon, more_values, values, param, params, Head, head, parse_line}
use Rattle.line_parser.specs.Places.{place, listed, headed, outcome, upto, named as head_told, counted}
use Rattle.line_parser.specs.Places.{Part}
use Rattle.line_parser.specs.Places.{Upto, Named, Listed, Parsed, Fault}
use Rattle.line_parser.proofs.PartLaws.{word_taken, before_end, head_count, params_stop}
use Rattle.line_parser.proofs.ParseLaws.{next_got, next_bad, pick_yes, pick_no, guard_yes, guard_no, many_end, many_bad, many_on}

-- an answer that no accepted reading has is a fault
module _ {A : Type 0} (f : Parse A → Part) where
  only_fault : {C : Type 0} (m : Parse A) {r : Part} → r ≡ f m → ((a : A) (k : ℕ) → r ≡ f (got a k) → ⊥) → ((x : ℕ) → m ≡ bad x → C) → C
  only_fault (bad x) h k g = g x refl
  only_fault (got a n) h k g = absurd (k a n h)

  -- and is handed up unchanged
  fault_up : ((x : ℕ) → f (bad x) ≡ Fault x) → (m : Parse A) {r g : Part} → r ≡ f m → ((a : A) (k : ℕ) → r ≡ f (got a k) → ⊥)
      → ((x : ℕ) → m ≡ bad x → g ≡ Fault x) → r ≡ g
  fault_up fb m h k g = only_fault m h k (λ x q. h ∙ ap f q ∙ fb x ∙ sym (g x q))

-- a result that is no end, and an error
pub not_upto : (r : Result ℕ Reason) → ((e : ℕ) → r ≡ Ok e → ⊥) → (e : ℕ) → upto r ≡ Upto e → ⊥
not_upto (Ok n) k e p = k n refl
not_upto (Err x) k e p = let z : Fault (number x) ≡ Upto e = p in clash cc

err_never : {r : Result ℕ Reason} {x : Reason} → r ≡ Err x → (e : ℕ) → upto r ≡ Upto e → ⊥
err_never {r} {x} q e p = let z : Fault (number x) ≡ Upto e = sym (ap upto q) ∙ p in clash cc

-- what the code learns of a reading whose answer it takes apart
module _ {A : Type 0} where
  pub place_upto : {C : Type 0} (at : ℕ) (m : Parse A) {r : Part} {e : ℕ} → r ≡ place at m → r ≡ Upto e
      → ((a : A) (k : ℕ) → m ≡ got a k → e ≡ at + k → C) → C
  place_upto at (got a k) h q f = f a k refl (cc)
  place_upto at (bad x) h q f = clash cc

  -- the same at the start of the line
  pub place_first : {C : Type 0} (m : Parse A) {r : Part} {e : ℕ} → r ≡ place 0 m → r ≡ Upto e → ((a : A) → m ≡ got a e → C) → C
  place_first m {r} {e} h q f = place_upto 0 m h q (λ a k p g.
      let i : k ≡ e = omega arith in
      f a (p ∙ ap (got a) i))

  pub place_fault : {C : Type 0} (at : ℕ) (m : Parse A) {r : Part} → r ≡ place at m → ((e : ℕ) → r ≡ Upto e → ⊥)
      → ((x : ℕ) → m ≡ bad x → C) → C
  place_fault at m h n = only_fault (place at) m h (λ a k. n (at + k))

  pub hand_up : (at : ℕ) (m : Parse A) {r g : Part} → r ≡ place at m → ((e : ℕ) → r ≡ Upto e → ⊥)
      → ((x : ℕ) → m ≡ bad x → g ≡ Fault x) → r ≡ g
  hand_up at m h n = fault_up (place at) (λ x. refl) m h (λ a k. n (at + k))

  -- a result of the code, taken apart
  pub ok_upto : {C : Type 0} (at : ℕ) (m : Parse A) {r : Result ℕ Reason} {e : ℕ} → upto r ≡ place at m → r ≡ Ok e
      → ((a : A) (k : ℕ) → m ≡ got a k → e ≡ at + k → C) → C
  ok_upto at m h q f = place_upto at m h (ap upto q) f

  pub ok_first : {C : Type 0} (m : Parse A) {r : Result ℕ Reason} {e : ℕ} → upto r ≡ place 0 m → r ≡ Ok e → ((a : A) → m ≡ got a e → C) → C
  ok_first m h q f = place_first m h (ap upto q) f

  pub err_fault : {C : Type 0} (at : ℕ) (m : Parse A) {r : Result ℕ Reason} {x : Reason} → upto r ≡ place at m → r ≡ Err x
      → ((y : ℕ) → m ≡ bad y → C) → C
  err_fault at m h q = place_fault at m h (err_never q)

  pub err_up : (at : ℕ) (m : Parse A) {r : Result ℕ Reason} {x : Reason} {g : Part} → upto r ≡ place at m → r ≡ Err x
      → ((y : ℕ) → m ≡ bad y → g ≡ Fault y) → Fault (number x) ≡ g
  err_up at m h q f = sym (ap upto q) ∙ hand_up at m h (err_never q) f

  pub place_shift : {B : Type 0} (m : Parse A) (at b : ℕ) (f : A → B) (h : ℕ → ℕ) → ((j : ℕ) → at + h j ≡ b + j)
      → place at (next m (λ a j. got (f a) (h j))) ≡ place b m
  place_shift (got a j) at b f h e = ap Upto (e j)
  place_shift (bad x) at b f h e = refl

  pub listed_shift : (m : Parse (List A)) (c at k : ℕ) (a : A)
      → listed c at (next m (λ xs j. got (a ∷ xs) (suc (k + j)))) ≡ listed (c + 1) (at + 1 + k) m
  listed_shift (got xs j) c at k a =
      let p : c + suc (length xs) ≡ c + 1 + length xs = omega arith in
      let q : at + suc (k + j) ≡ at + 1 + k + j = omega arith in
      rw (p, q)
  listed_shift (bad x) c at k a = refl

module _ (s : List ℕ) (at : ℕ) where
  pub look : hd (drop at s) ≡ get_or s at 0
  look = get_or-drop at s 0 0 ∙ ap (λ (k : ℕ). get_or s k 0) (add-zero at)

  pub is : (c : ℕ) → get_or s at 0 ≡ c → eqb (hd (drop at s)) c ≡ true
  is c h = eq-eqb (hd (drop at s)) c (look ∙ h)

  pub isnt : (c : ℕ) → (get_or s at 0 ≡ c → ⊥) → eqb (hd (drop at s)) c ≡ false
  isnt c h = ne_eqb (hd (drop at s)) c (λ e. h (sym look ∙ e))

  -- past the end stands no octet
  pub past : (c : ℕ) → 0 < c → length s ≤ at → get_or s at 0 ≡ c → ⊥
  past c pos h q = let z = get_or-eq_default s 0 h in omega arith

  module _ (f : ℕ) where
    pub word_none : (e : ℕ) → e ≡ at + run (has name_mask) (drop at s) → e ≡ at → place at (word f (drop at s)) ≡ Fault f
    unfolding word
    word_none e h q =
        let n : run (has name_mask) (drop at s) ≡ run named (drop at s) = run_has name_mask named has_named (drop at s) in
        ap (place at) (guard_no f _ (le-ltb 0 (run named (drop at s)) (omega arith)))

    pub word_some : (e : ℕ) → e ≡ at + run (has name_mask) (drop at s) → (e ≡ at → ⊥) → place at (word f (drop at s)) ≡ Upto e
    unfolding word
    word_some e h q =
        let n : run (has name_mask) (drop at s) ≡ run named (drop at s) = run_has name_mask named has_named (drop at s) in
        let w : at + run named (drop at s) ≡ e = omega arith in
        ap (place at) (guard_yes f _ (lt-ltb 0 (run named (drop at s)) (omega arith))) ∙ ap Upto w

  pub value_none : length s ≤ at → place at (value (drop at s)) ≡ Upto at
  unfolding value run
  value_none h = rw drop_of_length-le (ap Upto (add-zero at))

  pub value_bare : (e : ℕ) → (get_or s at 0 ≡ 34 → ⊥) → e ≡ at + run (has bare_mask) (drop at s) → place at (value (drop at s)) ≡ Upto e
  unfolding value
  value_bare e q h =
      let n : run (has bare_mask) (drop at s) ≡ run bare (drop at s) = run_has bare_mask bare has_bare (drop at s) in
      let w : at + run bare (drop at s) ≡ e = omega arith in
      ap (place at) (pick_no _ _ (isnt 34 q)) ∙ ap Upto w

  module _ (e : ℕ) (q : get_or s at 0 ≡ 34) (h : e ≡ at + 1 + run (has quoted_mask) (drop (at + 1) s)) where
    after_quote : value (drop at s) ≡ guard (eqb (get_or s e 0) 34) 42
        (got (in_quotes (take (run quoted (drop (at + 1) s)) (drop (at + 1) s))) (suc (run quoted (drop (at + 1) s) + 1)))
    unfolding value closing
    after_quote =
        let n : run (has quoted_mask) (drop (at + 1) s) ≡ run quoted (drop (at + 1) s) = run_has quoted_mask quoted has_quoted (drop (at + 1) s) in
        let w : at + 1 + run quoted (drop (at + 1) s) ≡ e = omega arith in
        pick_yes _ _ (is 34 q)
        ∙ rw (drop-drop 1 at s, drop-drop (run quoted (drop (at + 1) s)) (at + 1) s, w, get_or-drop e s 0 0, add-zero e)

    pub value_open : (get_or s e 0 ≡ 34 → ⊥) → place at (value (drop at s)) ≡ Fault 42
    value_open g = ap (place at) (after_quote ∙ guard_no 42 _ (ne_eqb (get_or s e 0) 34 g))

    pub value_quoted : get_or s e 0 ≡ 34 → place at (value (drop at s)) ≡ Upto (e + 1)
    value_quoted g =
        let n : run (has quoted_mask) (drop (at + 1) s) ≡ run quoted (drop (at + 1) s) = run_has quoted_mask quoted has_quoted (drop (at + 1) s) in
        let w : at + suc (run quoted (drop (at + 1) s) + 1) ≡ e + 1 = omega arith in
        ap (place at) (after_quote ∙ guard_yes 42 _ (eq-eqb (get_or s e 0) 34 g)) ∙ ap Upto w

-- whether the line goes on at a place
module _ (s : List ℕ) (at a b : ℕ) where
  pub goes_on : at < length s → or_end a b (drop at s) ≡ a
  goes_on h = rw (lt-ltb 0 (length (drop at s)) (rw length-drop (omega arith)))

  pub is_over : length s ≤ at → or_end a b (drop at s) ≡ b
  is_over h = rw (le-ltb 0 (length (drop at s)) (rw length-drop (omega arith)))

-- one turn of a loop over parts
module _ {A : Type 0} (c : ℕ) (p : List ℕ → Parse A) (ok : ℕ → Bool) (e : List ℕ → ℕ) (s : List ℕ) (at n : ℕ) (pos : 0 < n) where
  pub turn_end : (get_or s at 0 ≡ c → ⊥) → many c p ok e n (drop at s) ≡ guard (ok (hd (drop at s))) (e (drop at s)) (got [] 0)
  turn_end h = many_end c p ok e n (drop at s) pos (isnt s at c h)

  pub turn_bad : (x : ℕ) → get_or s at 0 ≡ c → p (drop (at + 1) s) ≡ bad x → many c p ok e n (drop at s) ≡ bad x
  turn_bad x h q = many_bad c p ok e n (drop at s) x pos (is s at c h) (rw drop-drop q)

  pub turn_on : (a : A) (k : ℕ) → get_or s at 0 ≡ c → p (drop (at + 1) s) ≡ got a k
      → many c p ok e n (drop at s) ≡ next (many c p ok e (n - 1) (drop (at + 1 + k) s)) (λ xs j. got (a ∷ xs) (suc (k + j)))
  turn_on a k h q =
      many_on c p ok e n (drop at s) a k pos (is s at c h) (rw drop-drop q)
      ∙ ap (λ (r : List ℕ). next (many c p ok e (n - 1) r) (λ xs j. got (a ∷ xs) (suc (k + j))))
      (ap (drop k) (drop-drop 1 at s) ∙ drop-drop k (at + 1) s)

-- the values of a parameter
module _ (s : List ℕ) (at : ℕ) where
  pub values_bad : (x : ℕ) → value (drop at s) ≡ bad x → place at (values (drop at s)) ≡ Fault x
  unfolding values
  values_bad x q = ap (place at) (next_bad _ q)

  pub values_first : (v : Value) (k : ℕ) → value (drop at s) ≡ got v k
      → place at (values (drop at s)) ≡ place (at + k) (more_values (suc (length (drop (at + k) s))) (drop (at + k) s))
  unfolding values
  values_first v k q =
      ap (place at) (next_got _ q)
      ∙ place_shift (more_values (suc (length (drop k (drop at s)))) (drop k (drop at s))) at (at + k)
      (λ vs. record { first = v; more = vs }) (λ j. k + j) (λ j. omega arith)
      ∙ ap (λ (r : List ℕ). place (at + k) (more_values (suc (length r)) r)) (drop-drop k at s)

  module _ (n : ℕ) (pos : 0 < n) where
    pub more_bad : (x : ℕ) → get_or s at 0 ≡ 44 → value (drop (at + 1) s) ≡ bad x → place at (more_values n (drop at s)) ≡ Fault x
    unfolding more_values
    more_bad x h q = ap (place at) (turn_bad 44 value ends (or_end 42 43) s at n pos x h q)

    pub more_on : (v : Value) (k : ℕ) → get_or s at 0 ≡ 44 → value (drop (at + 1) s) ≡ got v k
        → place at (more_values n (drop at s)) ≡ place (at + 1 + k) (more_values (n - 1) (drop (at + 1 + k) s))
    unfolding more_values
    more_on v k h q =
        ap (place at) (turn_on 44 value ends (or_end 42 43) s at n pos v k h q)
        ∙ place_shift (more_values (n - 1) (drop (at + 1 + k) s)) at (at + 1 + k) (λ vs. v ∷ vs) (λ j. suc (k + j)) (λ j. omega arith)

    pub more_semicolon : get_or s at 0 ≡ 59 → place at (more_values n (drop at s)) ≡ Upto at
    unfolding more_values ends
    more_semicolon h =
        let t : ends (hd (drop at s)) ≡ true = rw (is s at 59 h) in
        ap (place at) (turn_end 44 value ends (or_end 42 43) s at n pos (λ e. omega arith) ∙ guard_yes _ _ t) ∙ ap Upto (add-zero at)

    pub more_colon : get_or s at 0 ≡ 58 → place at (more_values n (drop at s)) ≡ Upto at
    unfolding more_values ends
    more_colon h =
        let t : ends (hd (drop at s)) ≡ true = rw (isnt s at 59 (λ e. omega arith), is s at 58 h) in
        ap (place at) (turn_end 44 value ends (or_end 42 43) s at n pos (λ e. omega arith) ∙ guard_yes _ _ t) ∙ ap Upto (add-zero at)

    pub more_else : at < length s → (get_or s at 0 ≡ 44 → ⊥) → (get_or s at 0 ≡ 59 → ⊥) → (get_or s at 0 ≡ 58 → ⊥)
        → place at (more_values n (drop at s)) ≡ Fault 42
    unfolding more_values ends
    more_else h a b d =
        let t : ends (hd (drop at s)) ≡ false = rw (isnt s at 59 b, isnt s at 58 d) in
        ap (place at) (turn_end 44 value ends (or_end 42 43) s at n pos a ∙ guard_no _ _ t) ∙ ap Fault (goes_on s at 42 43 h)

    pub more_end : length s ≤ at → place at (more_values n (drop at s)) ≡ Fault 43
    unfolding more_values ends
    more_end h =
        let t : ends (hd (drop at s)) ≡ false = rw (isnt s at 59 (past s at 59 (omega arith) h), isnt s at 58 (past s at 58 (omega arith) h)) in
        ap (place at) (turn_end 44 value ends (or_end 42 43) s at n pos (past s at 44 (omega arith) h) ∙ guard_no _ _ t)
        ∙ ap Fault (is_over s at 42 43 h)

-- the parameters
module _ (s : List ℕ) (at c n : ℕ) (pos : 0 < n) where
  pub params_bad : (x : ℕ) → get_or s at 0 ≡ 59 → param (drop (at + 1) s) ≡ bad x → listed c at (params n (drop at s)) ≡ Fault x
  unfolding params
  params_bad x h q = ap (listed c at) (turn_bad 59 param is_colon (or_end 40 43) s at n pos x h q)

  pub params_on : (p : Param) (k : ℕ) → get_or s at 0 ≡ 59 → param (drop (at + 1) s) ≡ got p k
      → listed c at (params n (drop at s)) ≡ listed (c + 1) (at + 1 + k) (params (n - 1) (drop (at + 1 + k) s))
  unfolding params
  params_on p k h q =
      ap (listed c at) (turn_on 59 param is_colon (or_end 40 43) s at n pos p k h q)
      ∙ listed_shift (params (n - 1) (drop (at + 1 + k) s)) c at k p

  pub params_colon : get_or s at 0 ≡ 58 → listed c at (params n (drop at s)) ≡ Listed c at
  unfolding params is_colon
  params_colon h =
      ap (listed c at) (turn_end 59 param is_colon (or_end 40 43) s at n pos (λ e. omega arith) ∙ guard_yes _ _ (is s at 58 h))
      ∙ rw (add-zero c, add-zero at)

  pub params_else : at < length s → (get_or s at 0 ≡ 59 → ⊥) → (get_or s at 0 ≡ 58 → ⊥) → listed c at (params n (drop at s)) ≡ Fault 40
  unfolding params is_colon
  params_else h a b =
      ap (listed c at) (turn_end 59 param is_colon (or_end 40 43) s at n pos a ∙ guard_no _ _ (isnt s at 58 b))
      ∙ ap Fault (goes_on s at 40 43 h)

  pub params_end : length s ≤ at → listed c at (params n (drop at s)) ≡ Fault 43
  unfolding params is_colon
  params_end h =
      ap (listed c at) (turn_end 59 param is_colon (or_end 40 43) s at n pos (past s at 59 (omega arith) h)
      ∙ guard_no _ _ (isnt s at 58 (past s at 58 (omega arith) h)))
      ∙ ap Fault (is_over s at 40 43 h)

-- one parameter
module _ (s : List ℕ) (at : ℕ) where
  pub param_bad : (x : ℕ) → word 41 (drop at s) ≡ bad x → place at (param (drop at s)) ≡ Fault x
  unfolding param
  param_bad x q = ap (place at) (next_bad _ q)

  module _ (a : List ℕ) (k : ℕ) (q : word 41 (drop at s) ≡ got a k) where
    rest_at : hd (drop k (drop at s)) ≡ get_or s (at + k) 0
    rest_at = ap hd (drop-drop k at s) ∙ look s (at + k)

    pub param_none : (get_or s (at + k) 0 ≡ 61 → ⊥) → place at (param (drop at s)) ≡ Fault 41
    unfolding param
    param_none h = ap (place at) (next_got _ q ∙ guard_no _ _ (ne_eqb _ 61 (λ e. h (sym rest_at ∙ e))))

    pub param_values : get_or s (at + k) 0 ≡ 61 → place at (param (drop at s)) ≡ place (at + k + 1) (values (drop (at + k + 1) s))
    unfolding param
    param_values h =
        ap (place at) (next_got _ q ∙ guard_yes _ _ (eq-eqb _ 61 (rest_at ∙ h)))
        ∙ place_shift (values (drop 1 (drop k (drop at s)))) at (at + k + 1)
        (λ vs. record { name = a; first = vs.first; more = vs.more }) (λ j. k + suc j) (λ j. omega arith)
        ∙ ap (λ (r : List ℕ). place (at + k + 1) (values r)) (ap (drop 1) (drop-drop k at s) ∙ drop-drop 1 (at + k) s)

-- group and name
module _ (s : List ℕ) where
  pub head_bad : (x : ℕ) → word 40 s ≡ bad x → headed (head s) ≡ Fault x
  unfolding head
  head_bad x q = ap headed (next_bad _ q)

  module _ (a : List ℕ) (n : ℕ) (q : word 40 s ≡ got a n) where
    pub head_plain : (get_or s n 0 ≡ 46 → ⊥) → headed (head s) ≡ Named 0 n
    unfolding head
    head_plain h = ap headed (next_got _ q ∙ pick_no _ _ (isnt s n 46 h))

    pub head_bad_name : (x : ℕ) → get_or s n 0 ≡ 46 → word 40 (drop (n + 1) s) ≡ bad x → headed (head s) ≡ Fault x
    unfolding head
    head_bad_name x h r =
        let w : word 40 (drop 1 (drop n s)) ≡ bad x = rw drop-drop r in
        ap headed (next_got _ q ∙ pick_yes _ _ (is s n 46 h) ∙ next_bad _ w)

    pub head_grouped : (b : List ℕ) (m : ℕ) → get_or s n 0 ≡ 46 → word 40 (drop (n + 1) s) ≡ got b m
        → headed (head s) ≡ Named n (n + 1 + m)
    unfolding head
    head_grouped b m h r =
        let e : n + suc m ≡ n + 1 + m = omega arith in
        let w : word 40 (drop 1 (drop n s)) ≡ got b m = rw drop-drop r in
        ap headed (next_got _ q ∙ pick_yes _ _ (is s n 46 h) ∙ next_got _ w) ∙ rw ((word_taken 40 s a n q).count, e)

-- the whole line
pub headed_named : {C : Type 0} (m : Parse Head) {r : Part} {g n : ℕ} → r ≡ headed m → r ≡ Named g n
    → ((h : Head) → m ≡ got h n → g ≡ length h.group → C) → C
headed_named (got h k) {r} {g} {n} p q f =
    let e : k ≡ n = cc in
    f h (ap (got h) e) (cc)
headed_named (bad x) p q f = clash cc

pub headed_up : (m : Parse Head) {r g : Part} → r ≡ headed m → ((g n : ℕ) → r ≡ Named g n → ⊥)
    → ((x : ℕ) → m ≡ bad x → g ≡ Fault x) → r ≡ g
headed_up m h n = fault_up headed (λ x. refl) m h (λ a k. n (length a.group) k)

module _ {A : Type 0} (c at : ℕ) where
  pub listed_list : {C : Type 0} (m : Parse (List A)) {r : Part} {d e : ℕ} → r ≡ listed c at m → r ≡ Listed d e
      → ((xs : List A) (k : ℕ) → m ≡ got xs k → d ≡ c + length xs → e ≡ at + k → C) → C
  listed_list (got xs k) p q f = f xs k refl (cc) (cc)
  listed_list (bad x) p q f = clash cc

  pub listed_up : (m : Parse (List A)) {r g : Part} → r ≡ listed c at m → ((d e : ℕ) → r ≡ Listed d e → ⊥)
      → ((x : ℕ) → m ≡ bad x → g ≡ Fault x) → r ≡ g
  listed_up m h n = fault_up (listed c at) (λ x. refl) m h (λ xs k. n (c + length xs) (at + k))

-- results of the code, taken apart
pub named_ok : {C : Type 0} (m : Parse Head) {r : Result NamedPart Reason} {h : NamedPart} → head_told r ≡ headed m → r ≡ Ok h
    → ((x : Head) → m ≡ got x h.name_end → h.group_length ≡ length x.group → C) → C
named_ok m p q f = headed_named m p (ap head_told q) f

pub named_err : (m : Parse Head) {r : Result NamedPart Reason} {x : Reason} {g : Part} → head_told r ≡ headed m → r ≡ Err x
    → ((y : ℕ) → m ≡ bad y → g ≡ Fault y) → Fault (number x) ≡ g
named_err m {r} {x} p q f =
    sym (ap head_told q) ∙ headed_up m p (λ g n h. let z : Fault (number x) ≡ Named g n = sym (ap head_told q) ∙ h in clash cc) f

pub listed_err : {A : Type 0} (c at : ℕ) (m : Parse (List A)) {r : Result ListedPart Reason} {x : Reason} {g : Part} → counted r ≡ listed c at m → r ≡ Err x
    → ((y : ℕ) → m ≡ bad y → g ≡ Fault y) → Fault (number x) ≡ g
listed_err c at m {r} {x} p q f =
    sym (ap counted q) ∙ listed_up c at m p (λ d e h. let z : Fault (number x) ≡ Listed d e = sym (ap counted q) ∙ h in clash cc) f

-- an octet that is not 0 stands inside the line
pub inside : (s : List ℕ) (at k c : ℕ) → 0 < c → hd (drop k (drop at s)) ≡ c → at + k < length s
inside s at k c pos h = omega (arith, before_end (drop at s) k (rw h pos), length-drop at s)

colon_inside : (s : List ℕ) (at n : ℕ) (ps : List Param) (k : ℕ) → params n (drop at s) ≡ got ps k → at + k < length s
colon_inside s at n ps k h = inside s at k 58 (omega arith) (params_stop n (drop at s) ps k h)

module _ (s : List ℕ) where
  pub line_bad : (x : ℕ) → head s ≡ bad x → outcome (parse_line s) ≡ Fault x
  unfolding parse_line
  line_bad x q = ap outcome (next_bad _ q)

  module _ (h : Head) (n : ℕ) (q : head s ≡ got h n) where
    pub line_bad_params : (x : ℕ) → params (suc (length (drop n s))) (drop n s) ≡ bad x → outcome (parse_line s) ≡ Fault x
    unfolding parse_line
    line_bad_params x r = ap outcome (next_got _ q ∙ next_bad _ r)

    pub line_whole : (ps : List Param) (k : ℕ) → params (suc (length (drop n s))) (drop n s) ≡ got ps k
        → outcome (parse_line s) ≡ Parsed (length h.group) n (length ps) (n + k + 1)
    unfolding parse_line name_end
    line_whole ps k r =
        ap outcome (next_got _ q ∙ next_got _ r)
        ∙ ap (λ (e : ℕ). Parsed (length h.group) e (length ps) (n + k + 1)) (head_count s h n q)

    line_answer : (ps : List Param) (k : ℕ) (g d e : ℕ) → params (suc (length (drop n s))) (drop n s) ≡ got ps k
        → g ≡ length h.group → d ≡ 0 + length ps → e ≡ n + k → Parsed g n d (e + 1) ≡ outcome (parse_line s)
    line_answer ps k g d e r eg ed ee =
        let w = line_whole ps k r in
        let ed' : d ≡ length ps = omega arith in
        cc

  -- by the answers on the head and on the parameters: the colon stands in the line, and what the whole answer is
  pub line_told : {r q : Part} {g n d e : ℕ} → r ≡ headed (head s) → r ≡ Named g n → q ≡ listed 0 n (params (suc (length (drop n s))) (drop n s))
      → q ≡ Listed d e → (e < length s) × (Parsed g n d (e + 1) ≡ outcome (parse_line s))
  line_told {r} {q} {g} {n} {d} {e} hr er hq eq =
      headed_named (head s) hr er (λ h p eg. listed_list 0 n _ hq eq (λ ps k m ed ee.
      let i = colon_inside s n (suc (length (drop n s))) ps k m in
      (omega arith, line_answer h n p ps k g d e m eg ed ee)))
