-- Request 3, in the words of REFERENCE, The property table: which rows a name is compared with, and what the comparison finds. Assumes nothing.
use Rattle.std.specs.Prelude.{ℕ, ◌<◌, ◌≤◌, ◌≡◌, true, false, ◌↔◌, ◌⊎◌, length}
use mathlib.Core.List.{List, [], ◌∷◌, Memᴰ}
use Rattle.numbers.specs.Properties as property
use Rattle.octets.specs.Pick.{pick}
use Rattle.octets.specs.Classes.{within}
use Rattle.octets.specs.Cases.{same}
use Rattle.property_table.specs.declared.Edition.{Edition}
use Rattle.property_table.specs.Rows.{row_count, row_at, row_of, initial, agrees, chosen}

-- the first of these rows whose name is v without case; 0 where there is none
unfoldable pub among : List ℕ → List ℕ → ℕ
among v [] = 0
among v (n ∷ ns) = pick (same v (row_at n).name) n (among v ns)

-- what holds of the rows chosen for a name in an edition
pub record Choosing (e : Edition) (v : List ℕ) : Type 0 where
  -- exactly the rows that agree with it in length and first letter
  pub exact : (n : ℕ) → Memᴰ n (chosen e v) ↔ ((0 < n) × (n < row_count e) × (agrees v (row_at n) ≡ true))
  -- never more than two, and two only for the letters and lengths of LANG and LOGO, and of UID and URL
  pub most : length (chosen e v) ≤ 2
  pub pairs : length (chosen e v) ≡ 2 → (chosen e v ≡ property.lang ∷ property.logo ∷ []) ⊎ (chosen e v ≡ property.uid ∷ property.url ∷ [])
  -- none where the name starts with no letter
  pub letterless : within 97 122 (initial v) ≡ false → chosen e v ≡ []
  -- the search over them answers as the search over all rows of the edition
  pub answers : among v (chosen e v) ≡ row_of e v
