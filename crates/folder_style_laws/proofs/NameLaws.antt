-- A line with its names raised has the row and the kind of the line, is by the line rule, and its parts are as long. Assumes nothing.
use mathlib.Core.Path.{◌≡◌, refl, sym, ap, ◌∙◌}
use mathlib.Core.Bool.{true}
use mathlib.Core.List.{List, [], ◌∷◌, map}
use mathlib.Core.Option.{Option}
use Prim.Native.Nat.{ℕ, suc, ◌+◌, ◌-◌, ◌≤◌}
use native.Mathlib.Omega.{arith}
use lib.ListN.{length, length-append, length-map}
use borrow.Author.Tests.{le-leb, lt-leb}
use Rattle.octets.specs.Classes.{letter, named}
use Rattle.octets.specs.Cases.{lower, same}
use Rattle.line_parser.specs.Grammar.{Param, Line, Each, Is, Word, GoodParam, WellFormed, front, render}
use Rattle.line_parameters.specs.First.{first_named}
use Rattle.property_table.specs.Rows.{Row, search, rows_of, row_of, line_kind, value_name, calscale_name}
use Rattle.card_line.specs.Parts.{octets_of, param_value, row_of_line, kind_of_line}
use Rattle.folder_raising.specs.Letters.{upper}
use Rattle.folder_style_laws.specs.Capitals.{raised_param, raised_line}
use Rattle.folder_raising.specs.Walk.{raised}
use Rattle.folder_raising.specs.declared.Spot.TheVariants.{Name}
use Rattle.folder_raising.proofs.Kept.{raised_length}
use Rattle.folder_raising.proofs.CleanLaws.{Upper, stays, small, upper_case}
use Rattle.folder_style_laws.proofs.ByParts.{raised_render}
use Rattle.property_table.specs.declared.Edition.{Edition}

-- ---- names compare without case

lower_capital : (c : ℕ) → 65 ≤ c → c ≤ 90 → lower c ≡ c + 32
unfolding lower
lower_capital c h k = rw (le-leb 65 c h, le-leb c 90 k) refl

lower_small : (b : ℕ) → 91 ≤ b → lower b ≡ b
unfolding lower
lower_small b h = rw (le-leb 65 b (omega arith), lt-leb b 90 (omega arith)) refl

lower_by : (b : ℕ) → Upper b → lower (upper b) ≡ lower b
lower_by b (stays e) = ap lower e
lower_by b (small l m e) = omega (arith, ap lower e, lower_capital (b - 32) (omega arith) (omega arith), lower_small b (omega arith))

same_upper : (v w : List ℕ) → same (map upper v) w ≡ same v w
unfolding same
same_upper [] [] = refl
same_upper [] (y ∷ ys) = refl
same_upper (x ∷ xs) [] = refl
same_upper (x ∷ xs) (y ∷ ys) = rw (lower_by x (upper_case x), same_upper xs ys) refl

search_upper : (v : List ℕ) (i : ℕ) (rs : List Row) → search (map upper v) i rs ≡ search v i rs
unfolding search
search_upper v i [] = refl
search_upper v i (r ∷ rs) = rw (same_upper v r.name, search_upper v (suc i) rs) refl

named_params : (name : List ℕ) (ps : List Param) → first_named name (map raised_param ps) ≡ first_named name ps
unfolding first_named
named_params name [] = refl
named_params name (p ∷ ps) = rw (same_upper p.name name, named_params name ps) refl

module _ (x : Line) where
  pub row_raised : (ed : Edition) → row_of_line ed (raised_line x) ≡ row_of_line ed x
  unfolding row_of_line row_of
  row_raised ed = search_upper x.name 1 (rows_of ed)

  pub param_raised : (name : List ℕ) → param_value name (raised_line x) ≡ param_value name x
  unfolding param_value
  param_raised name = ap octets_of (named_params name x.params)

  pub kind_raised : (ed : Edition) → kind_of_line ed (raised_line x) ≡ kind_of_line ed x
  unfolding kind_of_line
  kind_raised ed =
      ap (λ (n : ℕ). line_kind n (param_value value_name (raised_line x)) (param_value calscale_name (raised_line x))) (row_raised ed)
      ∙ ap (λ (v : Option (List ℕ)). line_kind (row_of_line ed x) v (param_value calscale_name (raised_line x))) (param_raised value_name)
      ∙ ap (line_kind (row_of_line ed x) (param_value value_name x)) (param_raised calscale_name)

-- ---- the line rule

named_by : (b : ℕ) → Upper b → named b ≡ true → named (upper b) ≡ true
unfolding named letter
named_by b (stays e) h = rw e h
named_by b (small l m e) h = rw (e, le-leb 65 (b - 32) (omega arith), le-leb (b - 32) 90 (omega arith)) refl

each_named : (xs : List ℕ) → Each (Is named) xs → Each (Is named) (map upper xs)
unfolding Each
each_named [] h = tt
each_named (x ∷ xs) h = (named_by x (upper_case x) h.0, each_named xs h.1)

word_raised : (xs : List ℕ) → Word xs → Word (map upper xs)
word_raised xs w = record { some = rw (length-map xs upper) w.some; each = each_named xs w.each }

params_raised : (ps : List Param) → Each GoodParam ps → Each GoodParam (map raised_param ps)
unfolding Each
params_raised [] g = tt
params_raised (p ∷ ps) g =
    (record { name = word_raised p.name g.0.name; first = g.0.first; more = g.0.more }, params_raised ps g.1)

pub formed_raised : (x : Line) → WellFormed x → WellFormed (raised_line x)
formed_raised x w =
    record { group = each_named x.group w.group; name = word_raised x.name w.name; params = params_raised x.params w.params }

-- ---- lengths

module _ (x : Line) (w : WellFormed x) where
  pub render_length : length (render (raised_line x)) ≡ length (render x)
  unfolding raised
  render_length = ap length (sym (raised_render x w)) ∙ raised_length Name (render x)

  pub front_length : length (front (raised_line x)) ≡ length (front x)
  unfolding render
  front_length = omega (arith, render_length, length-append (front (raised_line x)) x.value, length-append (front x) x.value)
