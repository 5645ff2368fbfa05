-- The parameters of a line that is taken in or given out. In: TYPE values pref, in any case and without their quotes, go, and a TYPE so left
-- with none too; then `;PREF=1` comes last, once. Out: PREF goes, and `;TYPE=pref` comes last. All else stays. Assumes nothing.
use Rattle.std.specs.Prelude.{ℕ, ◌+◌, Bool, true, false, ◌&&◌, ◌||◌, List, [], ◌∷◌, ◌++◌, eqb, ltb, length, get_or}
use Rattle.octets.specs.Ascii as ascii
use Rattle.octets.specs.Ascii.{octets}
use Rattle.octets.specs.Pick.{pick}
use Rattle.octets.specs.Classes.{bit}
use Rattle.octets.specs.Cases.{same}
use Rattle.line_parser.specs.Grammar.{Value, plain, Param, led, param_text}
use Rattle.line_parameters.specs.First.{value_octets}
use Rattle.version3_parameters.specs.declared.Way.{Way}
use Rattle.version3_parameters.specs.declared.Way.TheVariants.{Inward, Outward}

abbrev pub type_name : List ℕ
type_name = octets "TYPE"

abbrev pub pref_name : List ℕ
pref_name = octets "PREF"

abbrev pub pref_text : List ℕ
pref_text = octets "pref"

-- pref in any case, quotes off
unfoldable pub is_pref : Value → Bool
is_pref v = same (value_octets v) pref_text

-- the values that stay
unfoldable pub kept : List Value → List Value
kept [] = []
kept (v ∷ vs) = pick (is_pref v) (kept vs) (v ∷ kept vs)

-- some value goes
unfoldable pub any_pref : List Value → Bool
any_pref [] = false
any_pref (v ∷ vs) = is_pref v || any_pref vs

abbrev pub values_of : Param → List Value
values_of p = p.first ∷ p.more

-- a parameter with these values, and none where none is left
abbrev pub with_values : List ℕ → List Value → List Param
with_values n [] = []
with_values n (v ∷ vs) = record { name = n; first = v; more = vs } ∷ []

abbrev pub is_type : Param → Bool
is_type p = same p.name type_name

abbrev pub is_pref_param : Param → Bool
is_pref_param p = same p.name pref_name

-- what becomes of a parameter
unfoldable pub changed : Way → Param → List Param
changed Inward p = pick (is_type p) (with_values p.name (kept (values_of p))) (p ∷ [])
changed Outward p = pick (is_pref_param p) [] (p ∷ [])

-- whether it says that its line is preferred
unfoldable pub prefers : Way → Param → Bool
prefers Inward p = is_type p && any_pref (values_of p)
prefers Outward p = is_pref_param p

unfoldable pub changed_all : Way → List Param → List Param
changed_all w [] = []
changed_all w (p ∷ ps) = changed w p ++ changed_all w ps

unfoldable pub any_prefers : Way → List Param → Bool
any_prefers w [] = false
any_prefers w (p ∷ ps) = prefers w p || any_prefers w ps

-- the parameter that says so in the other version
abbrev pub mark : Way → Param
mark Inward = record { name = pref_name; first = plain (octets "1"); more = [] }
mark Outward = record { name = type_name; first = plain pref_text; more = [] }

unfoldable pub new_params : Way → List Param → List Param
new_params w ps = changed_all w ps ++ pick (any_prefers w ps) (mark w ∷ []) []

-- as they are written
unfoldable pub params_text : List Param → List ℕ
params_text ps = led ascii.semicolon param_text ps

-- the octet 1 alone
unfoldable pub one_text : List ℕ → Bool
one_text l = eqb (length l) 1 && eqb (get_or l 0 0) 49

abbrev pub one_value : List Value → Value → Bool
one_value [] v = one_text (value_octets v)
one_value (u ∷ us) v = false

-- a PREF that may be there: in none, out one with the single value 1, quotes off
abbrev pub lawful : Way → Param → Bool
lawful Inward p = false
lawful Outward p = one_value p.more p.first

-- each PREF is lawful
unfoldable pub all_lawful : Way → List Param → Bool
all_lawful w [] = true
all_lawful w (p ∷ ps) = pick (is_pref_param p) (lawful w p) true && all_lawful w ps

-- how many there are
unfoldable pub prefs : List Param → ℕ
prefs [] = 0
prefs (p ∷ ps) = bit (is_pref_param p) 1 + prefs ps

unfoldable pub prefs_fit : Way → List Param → Bool
prefs_fit w ps = all_lawful w ps && ltb (prefs ps) 2
