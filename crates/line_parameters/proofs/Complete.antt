-- A well-formed line, written out, is accepted with its own parts. Assumes nothing.
use mathlib.Core.Path.{◌≡◌, refl, sym, ap, ◌∙◌}
use mathlib.Core.Bool.{Bool, true, false, not, ◌&&◌, ◌||◌}
use mathlib.Core.List.{List, [], ◌∷◌, ◌++◌, append_assoc}
use Prim.Native.Nat.{ℕ, suc, ◌+◌}
use native.Mathlib.Omega.{arith}
use lib.Dec.{eqb}
use lib.ListN.{length, length-append}
use lib.Seq.{drop-append_seam, take-append_seam}
use borrow.Author.Tests.{lt-ltb}
use Rattle.octets.specs.Classes.{run, named, quoted, bare, valued, letter, digit, hyphen}
use Rattle.line_parser.specs.Parse.{got, hd, many}
use Rattle.line_parser.specs.Grammar.{Value, plain, in_quotes, Param, Line, Each, Is, Word, GoodValue, GoodParam, WellFormed}
use Rattle.line_parser.specs.Grammar.{led, value_text, param_text, group_text, front, render}
use Rattle.line_parser.specs.Rule.{word, closing, value, Values, ends, or_end, is_colon, more_values, values, param, params, Head, head, parse_line}
use Rattle.line_parser.proofs.ParseLaws.{pick_no}
use Rattle.line_parser.proofs.PartLaws.{group_dot}
use Rattle.line_parameters.specs.Whole.{Whole}
use Rattle.line_parameters.proofs.Pieces.{values_text, many_complete}

pub run_append : (p : ℕ → Bool) (xs r : List ℕ) → Each (Is p) xs → p (hd r) ≡ false → run p (xs ++ r) ≡ length xs
unfolding run Each
run_append p [] [] w e = refl
run_append p [] (y ∷ ys) w e = rw e
run_append p (x ∷ xs) r w e = rw (w.0, run_append p xs r w.1 e)

pub word_complete : (e : ℕ) (a r : List ℕ) → Word a → named (hd r) ≡ false → word e (a ++ r) ≡ got a (length a)
unfolding word
word_complete e a r w s =
    rw (run_append named a r w.each s, take-append_seam a r, lt-ltb 0 (length a) w.some)

-- , ; or : comes after a value, ; or : after a parameter
pub data AfterValue : ℕ → Type 0 where
  comma : AfterValue 44
  semicolon : AfterValue 59
  colon : AfterValue 58

pub data AfterParam : ℕ → Type 0 where
  semicolon : AfterParam 59
  colon : AfterParam 58

-- none of these is in a bare value, and none starts a quoted one
not_bare : {c : ℕ} → AfterValue c → bare c ≡ false
unfolding bare quoted valued
not_bare comma = refl
not_bare semicolon = refl
not_bare colon = refl

not_quote : {c : ℕ} → AfterValue c → eqb c 34 ≡ false
not_quote comma = refl
not_quote semicolon = refl
not_quote colon = refl

after : {c : ℕ} → AfterParam c → AfterValue c
after semicolon = semicolon
after colon = colon

not_comma : {c : ℕ} → AfterParam c → eqb c 44 ≡ false
not_comma semicolon = refl
not_comma colon = refl

ended : {c : ℕ} → AfterParam c → ends c ≡ true
unfolding ends
ended semicolon = refl
ended colon = refl

bare_quote : (c : ℕ) → bare c ≡ true → eqb c 34 ≡ false
unfolding bare quoted
bare_quote c h = go (valued c) (eqb c 34) (eqb c 44 || (eqb c 58 || eqb c 59)) h
  where
    go : (v q o : Bool) → (v && not q) && not o ≡ true → q ≡ false
    go true true o h = cc
    go true false o h = refl
    go false true o h = cc
    go false false o h = refl

start_bare : (xs r : List ℕ) → Each (Is bare) xs → (length xs ≡ 0 → eqb (hd r) 34 ≡ false) → eqb (hd (xs ++ r)) 34 ≡ false
unfolding Each
start_bare [] r w s = s refl
start_bare (x ∷ xs) r w s = bare_quote x w.0

quote_not : quoted 34 ≡ false
unfolding quoted valued
quote_not = refl

pub value_whole : (v : Value) (r : List ℕ) → GoodValue v → Whole v r → value (value_text v ++ r) ≡ got v (length (value_text v))
unfolding value closing GoodValue value_text
value_whole (plain xs) r w f =
    pick_no _ _ (start_bare xs r w f.1) ∙ rw (run_append bare xs r w f.0, take-append_seam xs r)
value_whole (in_quotes xs) r w f =
    rw (append_assoc, run_append quoted xs (34 ∷ r) w quote_not, take-append_seam xs (34 ∷ r), drop-append_seam xs (34 ∷ r), length-append)

ended_whole : (v : Value) (r : List ℕ) → AfterValue (hd r) → Whole v r
ended_whole (plain xs) r s = (not_bare s, λ e. not_quote s)
ended_whole (in_quotes xs) r s = tt

pub value_complete : (v : Value) (r : List ℕ) → GoodValue v → AfterValue (hd r) → value (value_text v ++ r) ≡ got v (length (value_text v))
value_complete v r w s = value_whole v r w (ended_whole v r s)

start_led : (xs : List Value) (r : List ℕ) → AfterParam (hd r) → AfterValue (hd (led 44 value_text xs ++ r))
unfolding led
start_led [] r s = after s
start_led (x ∷ xs) r s = comma

pub values_complete : (vs : Values) (r : List ℕ) → GoodValue vs.first → Each GoodValue vs.more → AfterParam (hd r)
    → values (values_text vs ++ r) ≡ got vs (length (values_text vs))
unfolding values more_values
values_complete vs r w ws s =
    let a = value_text vs.first in
    let b = led 44 value_text vs.more in
    let one : value (a ++ (b ++ r)) ≡ got vs.first (length a) = value_complete vs.first (b ++ r) w (start_led vs.more r s) in
    let rest : many 44 value ends (or_end 42 43) (suc (length (b ++ r))) (b ++ r) ≡ got vs.more (length b) =
    many_complete 44 value ends (or_end 42 43) value_text GoodValue AfterValue comma value_complete _ vs.more r ws (after s) (not_comma s) (ended s)
    (omega (arith, length-append b r)) in
    rw (append_assoc, one, drop-append_seam a (b ++ r), rest, length-append)

pub named_not : {c : ℕ} → AfterParam c → named c ≡ false
unfolding named letter digit hyphen
named_not semicolon = refl
named_not colon = refl

pub equals_not : named 61 ≡ false
unfolding named letter digit hyphen
equals_not = refl

pub dot_not : named 46 ≡ false
unfolding named letter digit hyphen
dot_not = refl

pub param_complete : (p : Param) (r : List ℕ) → GoodParam p → AfterParam (hd r) → param (param_text p ++ r) ≡ got p (length (param_text p))
unfolding param param_text
param_complete p r w s =
    let vs : Values = record { first = p.first; more = p.more } in
    let b = values_text vs in
    let l : List ℕ = 61 ∷ (b ++ r) in
    let one : word 41 (p.name ++ l) ≡ got p.name (length p.name) = word_complete 41 p.name l w.name equals_not in
    let rest : values (b ++ r) ≡ got vs (length b) = values_complete vs r w.first w.more s in
    rw (append_assoc p.name (61 ∷ b) r, one, drop-append_seam p.name l, rest, length-append p.name (61 ∷ b))

pub not_dot : {c : ℕ} → AfterParam c → eqb c 46 ≡ false
not_dot semicolon = refl
not_dot colon = refl

grouped : (g n r : List ℕ) → Word g → Word n → named (hd r) ≡ false
    → head (g ++ 46 ∷ (n ++ r)) ≡ got (record { group = g; name = n }) (length g + suc (length n))
unfolding head
grouped g n r wg wn s =
    rw (word_complete 40 g (46 ∷ (n ++ r)) wg dot_not, drop-append_seam g (46 ∷ (n ++ r)), word_complete 40 n r wn s)

pub head_complete : (g n r : List ℕ) → Each (Is named) g → Word n → named (hd r) ≡ false → (length g ≡ 0 → eqb (hd r) 46 ≡ false)
    → head ((group_text g ++ n) ++ r) ≡ got (record { group = g; name = n }) (length (group_text g ++ n))
unfolding head group_text
head_complete [] n r wg wn s d = rw (word_complete 40 n r wn s, drop-append_seam n r, d refl)
head_complete (y ∷ ys) n r wg wn s d =
    let g : List ℕ = y ∷ ys in
    let dot = group_dot g n (omega arith) in
    ap (λ (t : List ℕ). head (t ++ r)) dot ∙ ap head (append_assoc g (46 ∷ n) r)
    ∙ grouped g n r (record { some = omega arith; each = wg }) wn s
    ∙ ap (got (record { group = g; name = n })) (sym (ap length dot ∙ length-append g (46 ∷ n)))

start_params : (ps : List Param) (v : List ℕ) → AfterParam (hd (led 59 param_text ps ++ 58 ∷ v))
unfolding led
start_params [] v = colon
start_params (p ∷ ps) v = semicolon

pub line_complete : (x : Line) → WellFormed x → parse_line (render x) ≡ got x (length (front x))
unfolding parse_line params render front is_colon
line_complete x w =
    let a = group_text x.group ++ x.name in
    let b = led 59 param_text x.params in
    let r : List ℕ = b ++ 58 ∷ x.value in
    let h : Head = record { group = x.group; name = x.name } in
    let same : render x ≡ a ++ r = simp append_assoc in
    let s = start_params x.params x.value in
    let one : head (a ++ r) ≡ got h (length a) = head_complete x.group x.name r w.group w.name (named_not s) (λ e. not_dot s) in
    let two : many 59 param is_colon (or_end 40 43) (suc (length r)) r ≡ got x.params (length b) =
    many_complete 59 param is_colon (or_end 40 43) param_text GoodParam AfterParam semicolon param_complete _ x.params (58 ∷ x.value) w.params
    colon refl refl
    (omega (arith, length-append b (58 ∷ x.value))) in
    let len : length (front x) ≡ length a + length b + 1 = simp length-append (omega arith) in
    ap parse_line same ∙ rw (one, drop-append_seam a r, two, drop-append_seam b (58 ∷ x.value), len)
