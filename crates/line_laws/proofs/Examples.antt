-- Lines of each kind and each fault, and named parameters, computed. Assumes nothing.
use mathlib.Core.Path.{◌≡◌, refl}
use mathlib.Core.List.{List, [], ◌∷◌, map}
use Prim.Native.Nat.{suc}
use Prim.Native.String.{String}
use lib.ListN.{length}
use Rattle.octets.specs.Ascii.{octets}
use Rattle.octets.specs.Classes.{run, named, letter, digit, hyphen, bare, quoted, valued}
use Rattle.octets.specs.Cases.{lower, same}
use Rattle.line_parser.specs.Parse.{many}
use Rattle.line_parser.specs.Grammar.{group_text, name_end}
use Rattle.line_parser.specs.Rule.{word, closing, value, ends, is_colon, more_values, values, param, params, head, parse_line}
use Rattle.line_parser.specs.Places.{outcome}
use Rattle.line_parameters.specs.First.{find_first}
use Rattle.line_parser.specs.Places.{Part}
use Rattle.line_parser.specs.Places.{Parsed, Fault}
use Rattle.line_parameters.specs.First.{First}
use Rattle.line_parameters.specs.First.{Between, Nothing}

pub record Example : Type 0 where
  pub line : String
  pub answer : Part

abbrev example : String → Part → Example
example l a = record { line = l; answer = a }

abbrev pub lines : List Example
lines =
    example "FN:A" (Parsed 0 2 0 3)
    ∷ example "FN:" (Parsed 0 2 0 3)
    ∷ example "a.FN;T=\"x,y\",b;U=:v" (Parsed 1 4 2 18)
    ∷ example "TEL;TYPE=\"voice,home\":1" (Parsed 0 3 1 22)
    ∷ example "TEL;TYPE=voice,home:1" (Parsed 0 3 1 20)
    ∷ example "NOTE;X=\"a:b;c\":d" (Parsed 0 4 1 15)
    ∷ example "" (Fault 40)
    ∷ example ":v" (Fault 40)
    ∷ example ";A=b:v" (Fault 40)
    ∷ example ".X:v" (Fault 40)
    ∷ example "g." (Fault 40)
    ∷ example "g.:v" (Fault 40)
    ∷ example "g.h.X:v" (Fault 40)
    ∷ example "X Y" (Fault 40)
    ∷ example "X=1:v" (Fault 40)
    ∷ example "F\"N:x" (Fault 40)
    ∷ example " X:1" (Fault 40)
    ∷ example "BDAY;19531015T231000Z" (Fault 41)
    ∷ example "X;" (Fault 41)
    ∷ example "X;A" (Fault 41)
    ∷ example "X;A:v" (Fault 41)
    ∷ example "X;A;B=1:v" (Fault 41)
    ∷ example "X;;" (Fault 41)
    ∷ example "X;=v:v" (Fault 41)
    ∷ example "X;A\"=1:v" (Fault 41)
    ∷ example "X;A b=1:v" (Fault 41)
    ∷ example "X;A=\"b" (Fault 42)
    ∷ example "X;A=\"b\"c:v" (Fault 42)
    ∷ example "X;A=\"b\"\"c\":v" (Fault 42)
    ∷ example "X;A=b\"c:v" (Fault 42)
    ∷ example "X;A=b\"" (Fault 42)
    ∷ example "X" (Fault 43)
    ∷ example "g.X" (Fault 43)
    ∷ example "X;A=" (Fault 43)
    ∷ example "X;A=b" (Fault 43)
    ∷ example "X;A=b," (Fault 43)
    ∷ example "X;A=\"b\"" (Fault 43)
    ∷ []

-- each line is answered as the table says
pub lines_answered : map (λ (x : Example). outcome (parse_line (octets x.line))) lines ≡ map (λ (x : Example). x.answer) lines
unfolding octets run named letter digit hyphen bare quoted valued many word closing value ends is_colon more_values values param params head parse_line group_text name_end
lines_answered = refl

pub record Asked : Type 0 where
  pub params : String
  pub name : String
  pub answer : First

abbrev asked : String → String → First → Asked
asked p n a = record { params = p; name = n; answer = a }

-- from the end of the name on, at place 2
abbrev pub questions : List Asked
questions =
    asked ";VALUE=text,uri:x" "value" (Between 9 13)
    ∷ asked ";Value=\"text,uri\":x" "VALUE" (Between 10 18)
    ∷ asked ";X=\";VALUE=uri\";VALUE=text:x" "VALUE" (Between 24 28)
    ∷ asked ";VALUE=x;VALUE=text:y" "VALUE" (Between 9 10)
    ∷ asked ";VALUE=:y" "VALUE" (Between 9 9)
    ∷ asked ";X=VALUE:y" "VALUE" Nothing
    ∷ asked ":VALUE=uri" "VALUE" Nothing
    ∷ []

pub questions_answered : map (λ (x : Asked). find_first (octets x.name) 2 (suc (length (octets x.params))) (octets x.params)) questions
    ≡ map (λ (x : Asked). x.answer) questions
unfolding octets lower same run named letter digit hyphen bare quoted valued many word closing value ends more_values values param find_first
questions_answered = refl
