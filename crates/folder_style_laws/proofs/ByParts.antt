-- Raised octet by octet, a line is the one with its parts raised. Assumes nothing.
use mathlib.Core.Path.{◌≡◌, refl, sym, ap, ◌∙◌}
use mathlib.Core.Bool.{Bool, true, false, true≢false}
use mathlib.Core.List.{List, [], ◌∷◌, ◌++◌, map, append_assoc}
use Prim.Native.Nat.{ℕ}
use lib.Dec.{eqb}
use borrow.Author.Tests.{ne_eqb}
use Rattle.octets.specs.Classes.{letter, digit, hyphen, valued, quoted, bare, named}
use Rattle.line_parser.specs.Grammar.{Value, plain, in_quotes, Param, Line, Each, Is, GoodValue, GoodParam, WellFormed, led, value_text, param_text, group_text, front, render}
use Rattle.folder_raising.specs.Letters.{upper}
use Rattle.folder_style_laws.specs.Capitals.{raised_param, raised_line}
use Rattle.folder_raising.specs.Walk.{raised_from, raised}
use Rattle.folder_raising.specs.declared.Spot.{Spot}
use Rattle.folder_raising.specs.declared.Spot.TheVariants.{Name, Values, Quotes}
use Rattle.folder_raising.proofs.Steps.{past}

-- an octet that a class has is none that it lacks
unlike : (p : ℕ → Bool) (b c : ℕ) → p c ≡ false → p b ≡ true → eqb b c ≡ false
unlike p b c f e = ne_eqb b c (λ q. true≢false (sym e ∙ ap p q ∙ f))

-- ---- through names

in_name : (xs t : List ℕ) → Each (Is named) xs → raised_from Name (xs ++ t) ≡ map upper xs ++ raised_from Name t
unfolding raised_from Each named letter digit hyphen
in_name [] t e = refl
in_name (x ∷ xs) t e =
    rw (unlike named x 58 refl e.0, unlike named x 61 refl e.0) (ap (λ (r : List ℕ). upper x ∷ r) (in_name xs t e.1))

-- ---- through values

in_bare : (xs t : List ℕ) → Each (Is bare) xs → raised_from Values (xs ++ t) ≡ xs ++ raised_from Values t
unfolding raised_from Each bare quoted valued
in_bare [] t e = refl
in_bare (x ∷ xs) t e =
    rw (unlike bare x 34 refl e.0, unlike bare x 59 refl e.0, unlike bare x 58 refl e.0) (ap (λ (r : List ℕ). x ∷ r) (in_bare xs t e.1))

in_quotes_lem : (xs t : List ℕ) → Each (Is quoted) xs → raised_from Quotes (xs ++ 34 ∷ t) ≡ xs ++ 34 ∷ raised_from Values t
unfolding raised_from Each quoted valued
in_quotes_lem [] t e = refl
in_quotes_lem (x ∷ xs) t e = rw (unlike quoted x 34 refl e.0) (ap (λ (r : List ℕ). x ∷ r) (in_quotes_lem xs t e.1))

in_value : (v : Value) (t : List ℕ) → GoodValue v → raised_from Values (value_text v ++ t) ≡ value_text v ++ raised_from Values t
unfolding raised_from value_text GoodValue
in_value (plain xs) t g = in_bare xs t g
in_value (in_quotes xs) t g =
    ap (λ (r : List ℕ). 34 ∷ r)
    (ap (raised_from Quotes) (append_assoc xs (34 ∷ []) t) ∙ in_quotes_lem xs t g ∙ sym (append_assoc xs (34 ∷ []) (raised_from Values t)))

in_more : (vs : List Value) (t : List ℕ) → Each GoodValue vs → raised_from Values (led 44 value_text vs ++ t) ≡ led 44 value_text vs ++ raised_from Values t
unfolding raised_from led Each
in_more [] t g = refl
in_more (v ∷ vs) t g =
    ap (λ (r : List ℕ). 44 ∷ r)
    (ap (raised_from Values) (append_assoc (value_text v) (led 44 value_text vs) t)
    ∙ in_value v (led 44 value_text vs ++ t) g.0
    ∙ ap (λ (r : List ℕ). value_text v ++ r) (in_more vs t g.1)
    ∙ sym (append_assoc (value_text v) (led 44 value_text vs) (raised_from Values t)))

-- ---- through parameters: in values before, in values after

in_param : (p : Param) (t : List ℕ) → GoodParam p → raised_from Name (param_text p ++ t) ≡ param_text (raised_param p) ++ raised_from Values t
unfolding raised_from param_text upper
in_param p t g =
    ap (raised_from Name) (append_assoc p.name (61 ∷ (value_text p.first ++ led 44 value_text p.more)) t)
    ∙ in_name p.name (61 ∷ ((value_text p.first ++ led 44 value_text p.more) ++ t)) g.name.each
    ∙ ap (λ (r : List ℕ). map upper p.name ++ 61 ∷ r)
    (ap (raised_from Values) (append_assoc (value_text p.first) (led 44 value_text p.more) t)
    ∙ in_value p.first (led 44 value_text p.more ++ t) g.first
    ∙ ap (λ (r : List ℕ). value_text p.first ++ r) (in_more p.more t g.more)
    ∙ sym (append_assoc (value_text p.first) (led 44 value_text p.more) (raised_from Values t)))
    ∙ sym (append_assoc (map upper p.name) (61 ∷ (value_text p.first ++ led 44 value_text p.more)) (raised_from Values t))

-- a semicolon, from a name or from values; and the colon
data Front : Spot → Type 0 where
  name : Front Name
  values : Front Values

in_next : (p : Param) (ps : List Param) (v : List ℕ) → GoodParam p → raised_from Values (led 59 param_text ps ++ 58 ∷ v) ≡ led 59 param_text (map raised_param ps) ++ 58 ∷ v
    → raised_from Name ((param_text p ++ led 59 param_text ps) ++ 58 ∷ v) ≡ (param_text (raised_param p) ++ led 59 param_text (map raised_param ps)) ++ 58 ∷ v
in_next p ps v g i =
    ap (raised_from Name) (append_assoc (param_text p) (led 59 param_text ps) (58 ∷ v))
    ∙ in_param p (led 59 param_text ps ++ 58 ∷ v) g
    ∙ ap (λ (r : List ℕ). param_text (raised_param p) ++ r) i
    ∙ sym (append_assoc (param_text (raised_param p)) (led 59 param_text (map raised_param ps)) (58 ∷ v))

in_params : {k : Spot} → Front k → (ps : List Param) (v : List ℕ) → Each GoodParam ps
    → raised_from k (led 59 param_text ps ++ 58 ∷ v) ≡ led 59 param_text (map raised_param ps) ++ 58 ∷ v
unfolding raised_from led Each upper
in_params name [] v g = ap (λ (r : List ℕ). 58 ∷ r) (past v)
in_params values [] v g = ap (λ (r : List ℕ). 58 ∷ r) (past v)
in_params name (p ∷ ps) v g = ap (λ (r : List ℕ). 59 ∷ r) (in_next p ps v g.0 (in_params values ps v g.1))
in_params values (p ∷ ps) v g = ap (λ (r : List ℕ). 59 ∷ r) (in_next p ps v g.0 (in_params values ps v g.1))

in_group : (g t : List ℕ) → Each (Is named) g → raised_from Name (group_text g ++ t) ≡ group_text (map upper g) ++ raised_from Name t
unfolding raised_from group_text upper
in_group [] t e = refl
in_group (x ∷ xs) t e =
    ap (raised_from Name) (append_assoc (x ∷ xs) (46 ∷ []) t)
    ∙ in_name (x ∷ xs) (46 ∷ t) e
    ∙ sym (append_assoc (map upper (x ∷ xs)) (46 ∷ []) (raised_from Name t))

-- A line that is well-formed, raised octet by octet, is the one with its parts raised.
pub raised_render : (x : Line) → WellFormed x → raised (render x) ≡ render (raised_line x)
unfolding raised render front
raised_render x w =
    ap (raised_from Name) (append_assoc (group_text x.group) (x.name ++ (led 59 param_text x.params ++ 58 ∷ [])) x.value)
    ∙ in_group x.group ((x.name ++ (led 59 param_text x.params ++ 58 ∷ [])) ++ x.value) w.group
    ∙ ap (λ (r : List ℕ). group_text (map upper x.group) ++ r) rest
    ∙ sym (append_assoc (group_text (map upper x.group)) (map upper x.name ++ (led 59 param_text (map raised_param x.params) ++ 58 ∷ [])) x.value)
  where
    rest : raised_from Name ((x.name ++ (led 59 param_text x.params ++ 58 ∷ [])) ++ x.value)
        ≡ (map upper x.name ++ (led 59 param_text (map raised_param x.params) ++ 58 ∷ [])) ++ x.value
    rest =
        ap (raised_from Name) (append_assoc x.name (led 59 param_text x.params ++ 58 ∷ []) x.value ∙ ap (λ (r : List ℕ). x.name ++ r) (append_assoc (led 59 param_text x.params) (58 ∷ []) x.value))
        ∙ in_name x.name (led 59 param_text x.params ++ 58 ∷ x.value) w.name.each
        ∙ ap (λ (r : List ℕ). map upper x.name ++ r) (in_params name x.params x.value w.params)
        ∙ sym (append_assoc (map upper x.name) (led 59 param_text (map raised_param x.params) ++ 58 ∷ []) x.value ∙ ap (λ (r : List ℕ). map upper x.name ++ r) (append_assoc (led 59 param_text (map raised_param x.params)) (58 ∷ []) x.value))
