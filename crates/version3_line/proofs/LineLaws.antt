-- What is written for a value, case by case, and for a line, piece by piece. Assumes nothing.
use mathlib.Core.Path.{◌≡◌, refl, sym, ap, ◌∙◌}
use mathlib.Core.Bool.{true, false}
use mathlib.Core.List.{List, [], ◌∷◌, ◌++◌, append_assoc}
use Prim.Native.Nat.{ℕ, ◌+◌, ◌-◌, ◌<◌, ◌≤◌}
use native.Mathlib.Omega.{arith}
use lib.Dec.{eqb}
use lib.ListN.{length, take, drop, set, replicate, length-append, length-replicate}
use lib.Seq.{take-append_seam}
use borrow.Author.Tests.{eq-eqb, ne_eqb}
use Rattle.octets.specs.Room.{overlay}
use Rattle.octets.specs.Ascii.{octets}
use Rattle.folder_line.proofs.Puts.{marked}
use Rattle.line_parser.specs.Grammar.{led, param_text, group_text, front, render, name_end}
use Rattle.line_parser.specs.Rule.{parse_line}
use Rattle.line_parameters.proofs.Sound.{line_sound}
use Rattle.property_table.specs.declared.Edition.TheVariants.{First}
use Rattle.card_line.specs.declared.Parts.{Parts}
use Rattle.card_line.proofs.PartLaws.{Read}
use Rattle.version3_text.specs.Renewed.{renewed, semicolons}
use Rattle.version3_parameters.specs.declared.Way.{Way}
use Rattle.version3_parameters.specs.declared.Way.TheVariants.{Inward, Outward}
use Rattle.version3_parameters.specs.Params.{new_params, params_text}
use Rattle.version3_parameters.specs.Places.{params_by, params_of}
use Rattle.version3_line.specs.Lines.{needed, parted, anew_by, lacking, filled_by, version_text, geo_by, text_by, new_value, new_line, written_by}

module _ (k : ℕ) where
  pub needed_name : k ≡ 4 → 4 ≡ needed k
  unfolding needed
  needed_name e = sym (rw (eq-eqb k 4 e))

  pub needed_address : (k ≡ 4 → ⊥) → k ≡ 5 → 6 ≡ needed k
  unfolding needed
  needed_address n e = sym (rw (ne_eqb k 4 n, eq-eqb k 5 e))

  pub needed_none : (k ≡ 4 → ⊥) → (k ≡ 5 → ⊥) → 0 ≡ needed k
  unfolding needed
  needed_none n m = sym (rw (ne_eqb k 4 n, ne_eqb k 5 m))

  pub parted_name : k ≡ 4 → true ≡ parted k
  unfolding parted
  parted_name e = sym (rw (eq-eqb k 4 e))

  pub parted_address : (k ≡ 4 → ⊥) → k ≡ 5 → true ≡ parted k
  unfolding parted
  parted_address n e = sym (rw (ne_eqb k 4 n, eq-eqb k 5 e))

  pub parted_by : (k ≡ 4 → ⊥) → (k ≡ 5 → ⊥) → eqb k 6 ≡ parted k
  unfolding parted
  parted_by n m = sym (rw (ne_eqb k 4 n, ne_eqb k 5 m))

  module _ (v : List ℕ) where
    pub anew_text : k ≡ 1 → anew_by k v ≡ renewed true v
    unfolding anew_by
    anew_text e = rw (eq-eqb k 1 e)

    pub anew_parted : (k ≡ 1 → ⊥) → true ≡ parted k → anew_by k v ≡ renewed false v
    unfolding anew_by
    anew_parted n e = rw (ne_eqb k 1 n, ← e)

    pub anew_other : (k ≡ 1 → ⊥) → false ≡ parted k → anew_by k v ≡ v
    unfolding anew_by
    anew_other n e = rw (ne_eqb k 1 n, ← e)

    pub lacking_none : (m : ℕ) → m ≡ needed k → m ≡ 0 → 0 ≡ lacking k v
    unfolding lacking
    lacking_none m e z = omega (arith, e, z)

    pub lacking_full : (m n : ℕ) → m ≡ needed k → n ≡ length (semicolons v) → m < n → 0 ≡ lacking k v
    unfolding lacking
    lacking_full m n e f h = omega (arith, e, f, h)

    pub lacking_some : (m n : ℕ) → m ≡ needed k → n ≡ length (semicolons v) → m - n ≡ lacking k v
    unfolding lacking
    lacking_some m n e f = omega (arith, e, f)

    pub filled_length : length (filled_by k v) ≡ length (anew_by k v) + lacking k v
    unfolding filled_by
    filled_length = length-append (anew_by k v) (replicate (lacking k v) 59) ∙ ap (λ (j : ℕ). length (anew_by k v) + j) (length-replicate (lacking k v) 59)

pub version_length : (w : Way) → length (version_text w) ≡ 3
unfolding octets
version_length Inward = refl
version_length Outward = refl

module _ (w : Way) (row k : ℕ) (v : List ℕ) where
  pub value_version : row ≡ 34 → new_value w row k v ≡ version_text w
  unfolding new_value
  value_version e = rw (eq-eqb row 34 e)

  pub value_geo : (row ≡ 34 → ⊥) → row ≡ 19 → new_value w row k v ≡ geo_by w v
  unfolding new_value
  value_geo n e = rw (ne_eqb row 34 n, eq-eqb row 19 e)

  pub value_other : (row ≡ 34 → ⊥) → (row ≡ 19 → ⊥) → new_value w row k v ≡ text_by w k v
  unfolding new_value
  value_other n m = rw (ne_eqb row 34 n, ne_eqb row 19 m)

-- a line, piece by piece: up to the end of its name, its parameters, the colon and its value
module _ (w : Way) (s : List ℕ) (x : Parts) (r : Read First s x) where
  whole : s ≡ (group_text r.parts.group ++ r.parts.name) ++ (led 59 param_text r.parts.params ++ (58 ∷ r.parts.value))
  unfolding render front
  whole = (line_sound s r.parts x.value_start r.parsed).1 ∙ simp append_assoc

  name_there : take x.name_end s ≡ group_text r.parts.group ++ r.parts.name
  unfolding name_end
  name_there = rw r.ends (ap (take (length (group_text r.parts.group ++ r.parts.name))) whole ∙ take-append_seam (group_text r.parts.group ++ r.parts.name) _)

  pub name_inside : x.name_end ≤ length s
  unfolding name_end
  name_inside = rw r.ends (omega (arith, ap length whole ∙ length-append (group_text r.parts.group ++ r.parts.name) _))

  params_there : params_of s ≡ r.parts.params
  unfolding params_of
  params_there = ap params_by r.parsed

  pub line_written : written_by w (parse_line s)
      ≡ ((take x.name_end s ++ params_text (new_params w (params_of s))) ++ (58 ∷ [])) ++ new_value w x.row x.kind (drop x.value_start s)
  unfolding new_line render front params_text
  line_written =
      ap (written_by w) r.parsed
      ∙ sym (rw (name_there, params_there, r.row, r.kind, r.value) (simp append_assoc))

-- an octet stored behind a list that was written to the start of room
pub colon_put : (d u e : List ℕ) (n : ℕ) → n ≡ length u → n + 1 ≤ length d → e ≡ overlay u d → set e n 58 ≡ overlay (u ++ (58 ∷ [])) d
colon_put d u e n h fits q = ap (λ (l : List ℕ). set l n 58) q ∙ marked d u (58 ∷ []) n h fits
