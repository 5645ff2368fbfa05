-- What a line is by REFERENCE, The line rule, `[group "."] name *(";" parameter) ":" value`: its parts, when they are well-formed, and
-- how they are written. Assumes nothing.
use Rattle.std.specs.Prelude.{ℕ, ◌<◌, ◌≡◌, Bool, true, List, [], ◌∷◌, ◌++◌, length}
use Rattle.octets.specs.Ascii as ascii
use Rattle.octets.specs.Classes.{named, quoted, bare}

-- "A value is quoted [..] or bare"; the quote marks are no part of it
pub data Value : Type 0 where
  plain : List ℕ → Value
  in_quotes : List ℕ → Value

-- "A parameter is a name, `=`, and one or more values"
pub record Param : Type 0 where
  pub name : List ℕ
  pub first : Value
  pub more : List Value

-- a line without group has the empty list there
pub record Line : Type 0 where
  pub group : List ℕ
  pub name : List ℕ
  pub params : List Param
  pub value : List ℕ

-- P holds of each element
unfoldable pub Each : {A : Type 0} → (A → Type 0) → List A → Type 0
Each P [] = Unit {0}
Each P (x ∷ xs) = P x × Each P xs

abbrev pub Is : (ℕ → Bool) → ℕ → Type 0
Is p b = p b ≡ true

-- "one or more letters, digits or hyphens"
pub record Word (xs : List ℕ) : Type 0 where
  pub some : 0 < length xs
  pub each : Each (Is named) xs

-- "quoted (anything but the quote mark inside) or bare (possibly empty, without quote mark, `;`, `:`, `,`)"
unfoldable pub GoodValue : Value → Type 0
GoodValue (plain xs) = Each (Is bare) xs
GoodValue (in_quotes xs) = Each (Is quoted) xs

pub record GoodParam (p : Param) : Type 0 where
  pub name : Word p.name
  pub first : GoodValue p.first
  pub more : Each GoodValue p.more

-- "Group, name and parameter name are one or more letters, digits or hyphens", where there is a group
pub record WellFormed (x : Line) : Type 0 where
  pub group : Each (Is named) x.group
  pub name : Word x.name
  pub params : Each GoodParam x.params

-- the parts, each after the octet c
unfoldable pub led : {A : Type 0} → ℕ → (A → List ℕ) → List A → List ℕ
led c o [] = []
led c o (a ∷ xs) = c ∷ (o a ++ led c o xs)

unfoldable pub value_text : Value → List ℕ
value_text (plain xs) = xs
value_text (in_quotes xs) = ascii.quote ∷ (xs ++ ascii.quote ∷ [])

-- the name, `=`, and the values "split by commas"
unfoldable pub param_text : Param → List ℕ
param_text p = p.name ++ ascii.equals ∷ (value_text p.first ++ led ascii.comma value_text p.more)

-- `[group "."]`
unfoldable pub group_text : List ℕ → List ℕ
group_text [] = []
group_text (x ∷ xs) = (x ∷ xs) ++ ascii.dot ∷ []

-- `[group "."] name *(";" parameter) ":"`
unfoldable pub front : Line → List ℕ
front x = group_text x.group ++ (x.name ++ (led ascii.semicolon param_text x.params ++ ascii.colon ∷ []))

-- "The property value is the rest, possibly empty"
unfoldable pub render : Line → List ℕ
render x = front x ++ x.value

-- where the name ends: past the group and its dot, and the name
unfoldable pub name_end : Line → ℕ
name_end x = length (group_text x.group ++ x.name)
