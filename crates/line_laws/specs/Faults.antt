-- What is wrong with a line that breaks the rule: a good beginning, and what stands there that cannot go on from it. The numbers are those
-- of the rule's readings. Assumes nothing.
use Rattle.std.specs.Prelude.{ℕ, ◌≡◌, false, List, ◌∷◌, ◌++◌, eqb, length}
use Rattle.numbers.specs.Refusals as refusal
use Rattle.octets.specs.Ascii as ascii
use Rattle.octets.specs.Classes.{named, quoted}
use Rattle.line_parser.specs.Parse.{hd}
use Rattle.line_parser.specs.Grammar.{Value, Param, Each, Is, Word, GoodValue, GoodParam, value_text, param_text, group_text}
use Rattle.line_parser.specs.Rule.{ends, is_colon, or_end}
use Rattle.line_parameters.specs.Whole.{Whole}

-- from after `=` or a comma on: a quote left open; a value with something else after it than , ; : or the end; or a later value
pub data ValuesFault : ℕ → List ℕ → Type 0 where
  open_quote : (xs r : List ℕ) → Each (Is quoted) xs → quoted (hd r) ≡ false → eqb (hd r) ascii.quote ≡ false
      → ValuesFault refusal.quote (ascii.quote ∷ (xs ++ r))
  not_ended : (v : Value) (r : List ℕ) → GoodValue v → Whole v r → eqb (hd r) ascii.comma ≡ false → ends (hd r) ≡ false
      → ValuesFault (or_end refusal.quote refusal.no_colon r) (value_text v ++ r)
  later : (e : ℕ) (v : Value) (r : List ℕ) → GoodValue v → ValuesFault e r → ValuesFault e (value_text v ++ ascii.comma ∷ r)

-- from after a semicolon on: no name; a name with no `=` after it; its values; or a later parameter
pub data ParamsFault : ℕ → List ℕ → Type 0 where
  no_name : (l : List ℕ) → named (hd l) ≡ false → ParamsFault refusal.parameter l
  no_equals : (a r : List ℕ) → Word a → named (hd r) ≡ false → eqb (hd r) ascii.equals ≡ false → ParamsFault refusal.parameter (a ++ r)
  in_values : (e : ℕ) (a r : List ℕ) → Word a → ValuesFault e r → ParamsFault e (a ++ ascii.equals ∷ r)
  later : (e : ℕ) (p : Param) (r : List ℕ) → GoodParam p → ParamsFault e r → ParamsFault e (param_text p ++ ascii.semicolon ∷ r)

-- no name; a group and no name; parameters; or a name with something else after it than a dot (no group before it), `;` or `:`
pub data LineFault : ℕ → List ℕ → Type 0 where
  no_name : (l : List ℕ) → named (hd l) ≡ false → LineFault refusal.name l
  no_name_after_group : (g r : List ℕ) → Word g → named (hd r) ≡ false → LineFault refusal.name (g ++ ascii.dot ∷ r)
  in_params : (e : ℕ) (g n r : List ℕ) → Each (Is named) g → Word n → ParamsFault e r → LineFault e ((group_text g ++ n) ++ ascii.semicolon ∷ r)
  no_colon : (g n r : List ℕ) → Each (Is named) g → Word n → named (hd r) ≡ false → (length g ≡ 0 → eqb (hd r) ascii.dot ≡ false)
      → eqb (hd r) ascii.semicolon ≡ false → is_colon (hd r) ≡ false → LineFault (or_end refusal.name refusal.no_colon r) ((group_text g ++ n) ++ r)
