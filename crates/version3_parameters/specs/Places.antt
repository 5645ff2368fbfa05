-- What stands at a place of a line, and what is written of it. Assumes nothing.
use Rattle.std.specs.Prelude.{ℕ, ◌+◌, ◌-◌, ◌≤◌, ◌≡◌, Bool, true, false, ◌&&◌, List, [], ◌∷◌, ◌++◌, eqb, length, get_or, take, drop}
use Rattle.octets.specs.Ascii as ascii
use Rattle.octets.specs.Pick.{pick}
use Rattle.octets.specs.Cases.{same}
use Rattle.octets.specs.Room.{overlay}
use Rattle.line_parser.specs.Parse.{Parse, got, bad}
use Rattle.line_parser.specs.Grammar.{Value, Param, Line, value_text}
use Rattle.line_parser.specs.Rule.{param, parse_line}
use Rattle.line_parameters.specs.First.{value_octets}
use Rattle.version3_parameters.specs.declared.Way.{Way}
use Rattle.version3_parameters.specs.declared.Put.{Put}
use Rattle.version3_parameters.specs.declared.ValueSpan.{ValueSpan}
use Rattle.version3_parameters.specs.Params.{kept, any_pref, values_of, with_values, lawful, changed, prefers, params_text}

-- the value v stands in the line s from a place on: its octets, quotes taken off, and all of it
pub record Holds (s : List ℕ) (at : ℕ) (v : Value) (r : ValueSpan) : Type 0 where
  pub order : r.start ≤ r.end
  pub from : at ≤ r.next
  pub shut : r.end ≤ r.next
  pub inside : r.next ≤ length s
  pub octets : take (r.end - r.start) (drop r.start s) ≡ value_octets v
  pub text : take (r.next - at) (drop at s) ≡ value_text v

-- a parameter stands in the line s from a place up to another
pub record ParamAt (s : List ℕ) (at end : ℕ) : Type 0 where
  pub it : Param
  pub count : ℕ
  pub read : param (drop at s) ≡ got it count
  pub ends : end ≡ at + count

-- a value is written behind the parameter's name where it is the first, else behind a comma
unfoldable pub piece : Bool → List ℕ → List ℕ → List ℕ
piece true n v = (ascii.semicolon ∷ n) ++ (ascii.equals ∷ v)
piece false n v = ascii.comma ∷ v

-- of a TYPE: its values but pref
abbrev pub type_by : Parse Param → List ℕ
type_by (got p k) = params_text (with_values p.name (kept (values_of p)))
type_by (bad e) = []

abbrev pub pref_by : Parse Param → Bool
pref_by (got p k) = any_pref (values_of p)
pref_by (bad e) = false

abbrev pub named_by : List ℕ → Parse Param → Bool
named_by n (got p k) = same p.name n
named_by n (bad e) = false

abbrev pub lawful_by : Way → Parse Param → Bool
lawful_by w (got p k) = lawful w p
lawful_by w (bad e) = false

-- what is written of a parameter, and whether it says that its line is preferred
abbrev pub text_by : Way → Parse Param → List ℕ
text_by w (got p k) = params_text (changed w p)
text_by w (bad e) = []

abbrev pub prefers_by : Way → Parse Param → Bool
prefers_by w (got p k) = prefers w p
prefers_by w (bad e) = false

-- the parameters of a line
abbrev pub params_by : Parse Line → List Param
params_by (got x k) = x.params
params_by (bad e) = []

unfoldable pub params_of : List ℕ → List Param
params_of l = params_by (parse_line l)

-- the values of a PREF, as they are written, are 1 alone, quotes off
unfoldable pub one_written : List ℕ → Bool
one_written l =
    pick (eqb (length l) 1) (eqb (get_or l 0 0) 49)
    (eqb (length l) 3 && (eqb (get_or l 0 0) ascii.quote && (eqb (get_or l 1 0) 49 && eqb (get_or l 2 0) ascii.quote)))

-- the text was written to the start of a room, and it was said, or not, that the line is preferred
pub record Puts (text : List ℕ) (says : Bool) (r : Put) (before after : List ℕ) : Type 0 where
  pub count : r.length ≡ length text
  pub said : r.gone ≡ says
  pub room : after ≡ overlay text before
