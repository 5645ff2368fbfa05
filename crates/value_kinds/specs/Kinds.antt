-- The kinds of value and the fixed values of a card, each a regular expression, by REFERENCE, The kinds of value. Assumes nothing.
use Rattle.std.specs.Prelude.{ℕ, zero, suc, ◌-◌, List, [], ◌∷◌, eqb, get_or}
use Rattle.numbers.specs.Properties as property
use Rattle.octets.specs.Pick.{pick}
use Rattle.property_table.specs.declared.Edition.{Edition}
use Rattle.property_table.specs.declared.Edition.TheVariants.{First, Second}
use Rattle.value_kinds.specs.Octets.{Octets, any, plain, inner, escapee, backslash, comma, semicolon, colon, letter, scheme, graphic, digit, sex, the_v, the_c, the_a, the_r, the_d, four, point, nought}
use Rattle.value_kinds.specs.Shapes.{Shape, never, empty, one, ◌then◌, ◌or◌, many, fault_from}
use Rattle.value_kinds.specs.Dates.{date_and_or_time, timestamp, offset}
use Rattle.value_kinds.specs.declared.Fault.{Fault}

-- one or none
abbrev pub maybe : Shape → Shape
maybe a = a or empty

-- one or more, with a mark between each two
abbrev pub split : Octets → Shape → Shape
split mark a = a then many (one mark then a)

-- octets that stand for themselves, and escapes
abbrev pub text_of : Octets → Shape
text_of own = many (one own or one backslash then one escapee)

unfoldable pub text : Shape
text = text_of plain

unfoldable pub texts : Shape
texts = split comma text

unfoldable pub uri : Shape
uri = one letter then many (one scheme) then one colon then many (one graphic)

-- a component: a list of texts in which a bare `;` ends it
unfoldable pub component : Shape
component = split comma (text_of inner)

-- exactly so many components, split by bare `;`
unfoldable pub parts : ℕ → Shape
parts zero = never
parts (suc zero) = component
parts (suc (suc n)) = component then one semicolon then parts (suc n)

-- one component and at most so many more
unfoldable pub up_to : ℕ → Shape
up_to zero = component
up_to (suc m) = component then maybe (one semicolon then up_to m)

-- so many components, and at most m more
unfoldable pub spread : ℕ → ℕ → Shape
spread zero m = never
spread (suc zero) m = up_to m
spread (suc (suc n)) m = component then one semicolon then spread (suc n) m

-- from lo to hi components
abbrev pub between : ℕ → ℕ → Shape
between lo hi = spread lo (hi - lo)

-- the fewest components of N and of ADR, and the most in each edition
abbrev pub fewest_of_name : ℕ
fewest_of_name = 5

abbrev pub most_of_name : Edition → ℕ
most_of_name First = 5
most_of_name Second = 7

abbrev pub fewest_of_address : ℕ
fewest_of_address = 7

abbrev pub most_of_address : Edition → ℕ
most_of_address First = 7
most_of_address Second = 18

-- one or more components, no bare comma
unfoldable pub components : Shape
components = split semicolon (text_of inner)

unfoldable pub gender : Shape
gender = maybe (one sex) then maybe (one semicolon then text)

unfoldable pub pidmap : Shape
pidmap = one digit then many (one digit) then one semicolon then uri

-- kinds 0 to 11 in an edition; no other number is a kind's
unfoldable pub shape_in : Edition → ℕ → Shape
shape_in e k =
    get_or
    (many (one any) ∷ text ∷ texts ∷ uri ∷ between fewest_of_name (most_of_name e) ∷ between fewest_of_address (most_of_address e)
    ∷ components ∷ gender ∷ pidmap ∷ date_and_or_time ∷ timestamp ∷ offset ∷ [])
    k never

unfoldable pub kind_in : Edition → ℕ → List ℕ → Fault
kind_in e k v = fault_from (shape_in e k) 0 v

abbrev pub kind_scan : ℕ → List ℕ → Fault
kind_scan = kind_in First

-- VCARD in any case
unfoldable pub vcard : Shape
vcard = one the_v then one the_c then one the_a then one the_r then one the_d

-- exactly 4.0
unfoldable pub version : Shape
version = one four then one point then one nought

-- the value of a line: rows 1 BEGIN and 2 END have VCARD, 34 VERSION has 4.0, any other row a value of the line's kind
unfoldable pub line_shape : Edition → ℕ → ℕ → Shape
line_shape e row k = pick (eqb row property.begin) vcard (pick (eqb row property.end) vcard (pick (eqb row property.version) version (shape_in e k)))

unfoldable pub value_in : Edition → ℕ → ℕ → List ℕ → Fault
value_in e row k v = fault_from (line_shape e row k) 0 v

abbrev pub value_scan : ℕ → ℕ → List ℕ → Fault
value_scan = value_in First
