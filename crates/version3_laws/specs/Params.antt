-- The parameters of a line in both versions: TYPE=pref in version 3, PREF=1 in version 4. Assumes nothing.
use Rattle.std.specs.Prelude.{ℕ, ◌≡◌, true, List, [], ◌∷◌, ◌++◌}
use Rattle.octets.specs.Ascii.{octets}
use Rattle.octets.specs.Cases.{same}
use Rattle.line_parser.specs.Grammar.{Value, plain, Param, Each}
use Rattle.line_parameters.specs.First.{value_octets}

-- a parameter of that name in any case
abbrev pub Named : List ℕ → Param → Type 0
Named n p = same p.name n ≡ true

-- none of the parameters has that name
abbrev pub Nowhere : List ℕ → List Param → Type 0
Nowhere n ps = Each (λ p. Named n p → ⊥) ps

-- P holds of one of the elements
pub data Some {A : Type 0} (P : A → Type 0) : List A → Type 0 where
  here : {a : A} {xs : List A} → P a → Some P (a ∷ xs)
  there : {a : A} {xs : List A} → Some P xs → Some P (a ∷ xs)

-- a value that is pref, in any case and quotes off
abbrev pub Pref : Value → Type 0
Pref v = same (value_octets v) (octets "pref") ≡ true

abbrev pub values_of : Param → List Value
values_of p = p.first ∷ p.more

-- a TYPE with a value pref stands among the parameters
abbrev pub Preferred : List Param → Type 0
Preferred ps = Some (λ p. Named (octets "TYPE") p × Some Pref (values_of p)) ps

-- the values but those that are pref
pub data Without : List Value → List Value → Type 0 where
  none : Without [] []
  goes : {v : Value} {vs ws : List Value} → Pref v → Without vs ws → Without (v ∷ vs) ws
  stays : {v : Value} {vs ws : List Value} → (Pref v → ⊥) → Without vs ws → Without (v ∷ vs) (v ∷ ws)

-- what is left of a parameter: "TYPE values pref (any case, quotes off) go, a TYPE so left with none too"
pub data Pruned : Param → List Param → Type 0 where
  other : {p : Param} → (Named (octets "TYPE") p → ⊥) → Pruned p (p ∷ [])
  left : {p : Param} {v : Value} {vs : List Value} → Named (octets "TYPE") p → Without (values_of p) (v ∷ vs)
      → Pruned p (record { name = p.name; first = v; more = vs } ∷ [])
  emptied : {p : Param} → Named (octets "TYPE") p → Without (values_of p) [] → Pruned p []

pub data PrunedAll : List Param → List Param → Type 0 where
  none : PrunedAll [] []
  more : {p : Param} {ps qs rs : List Param} → Pruned p qs → PrunedAll ps rs → PrunedAll (p ∷ ps) (qs ++ rs)

abbrev pub pref_one : Param
pref_one = record { name = octets "PREF"; first = plain (octets "1"); more = [] }

abbrev pub type_pref : Param
type_pref = record { name = octets "TYPE"; first = plain (octets "pref"); more = [] }

-- taken in: without a TYPE=pref they stay; else these values go, "and then `;PREF=1` comes last, once"
pub data ParamsIn : List Param → List Param → Type 0 where
  plainly : {ps : List Param} → (Preferred ps → ⊥) → ParamsIn ps ps
  preferred : {ps qs : List Param} → Preferred ps → PrunedAll ps qs → ParamsIn ps (qs ++ (pref_one ∷ []))

-- a PREF with the single value 1, quotes off
pub record PrefOne (p : Param) : Type 0 where
  pub name : Named (octets "PREF") p
  pub value : value_octets p.first ≡ octets "1"
  pub single : p.more ≡ []

-- given out: without a PREF they stay; "a single PREF=1 (quotes off)" goes, and "`;TYPE=pref`" comes last
pub data ParamsOut : List Param → List Param → Type 0 where
  plainly : {ps : List Param} → Nowhere (octets "PREF") ps → ParamsOut ps ps
  preferred : {p : Param} (ps qs : List Param) → PrefOne p → Nowhere (octets "PREF") ps → Nowhere (octets "PREF") qs
      → ParamsOut (ps ++ (p ∷ qs)) ((ps ++ qs) ++ (type_pref ∷ []))
