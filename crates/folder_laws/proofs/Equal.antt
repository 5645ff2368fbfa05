-- As read, two inputs are written to equal octets exactly when their copies are equal; in either style what is written has the fewest physical
-- lines. Assumes nothing.
use mathlib.Core.Path.{◌≡◌, sym, ap, subst, ◌∙◌}
use mathlib.Core.List.{List}
use mathlib.Core.Logic.{◌↔◌}
use Prim.Native.Nat.{ℕ, ◌≤◌}
use lib.ListN.{length}
use Rattle.line_folds.specs.Logical.{logical_lines}
use Rattle.line_laws.specs.Lined.{Lined}
use Rattle.reader.specs.Outcome.{copy_of}
use Rattle.folder_line.specs.Pieces.{folded_lines}
use Rattle.folder_raising.specs.declared.Style.{Style}
use Rattle.folder_raising.specs.declared.Style.TheVariants.{AsRead}
use Rattle.folder_laws.specs.Foldings.{Billed}
use Rattle.folder_laws.specs.Physical.{physical}
use Rattle.folder_laws.proofs.BackLaws.{same_octets, same_copies}
use Rattle.folder_laws.proofs.StyleLaws.{as_read, fewest_styled}
use Rattle.folder_laws.proofs.WrittenLaws.{Form}

plain : {i t : List ℕ} → Form AsRead i t → t ≡ folded_lines (logical_lines i)
plain {i} f = f.octets ∙ ap folded_lines (as_read (logical_lines i))

-- Equal octets are written exactly of equal copies.
pub equal : {i j s t : List ℕ} → Form AsRead i s → Form AsRead j t → (s ≡ t) ↔ (copy_of i ≡ copy_of j)
unfolding copy_of
equal {i} {j} f g = (
  λ e. same_copies (logical_lines i) (logical_lines j) f.clean f.unled g.clean g.unled (sym (plain f) ∙ e ∙ plain g),
  λ e. plain f ∙ same_octets (logical_lines i) (logical_lines j) f.clean f.unled g.clean g.unled e ∙ sym (plain g),
)

-- No octets with the same logical lines have fewer physical lines than what was written.
pub fewest_written : (s : Style) {i t : List ℕ} → Form s i t → (u : List ℕ) (rs : List (List ℕ)) → Lined u rs (logical_lines i) → Billed u
    → length (physical t) ≤ length (physical u)
fewest_written s f u rs h b = subst (λ (o : List ℕ). length (physical o) ≤ length (physical u)) (sym f.octets) (fewest_styled s f.clean h b)
