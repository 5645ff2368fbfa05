-- The shape of a line's value by whether its row frames a card. Assumes nothing.
use mathlib.Core.Path.{◌≡◌, refl, sym, ap, ◌∙◌}
use mathlib.Core.List.{List}
use mathlib.Core.Bool.{Bool, true, false, ◌||◌, false≢true}
use Prim.Native.Nat.{ℕ}
use lib.Dec.{eqb}
use Rattle.octets.specs.Pick.{pick}
use Rattle.property_table.specs.declared.Edition.{Edition}
use Rattle.property_table.specs.Rows.{framing}
use Rattle.value_kinds.specs.Shapes.{Shape, Matches, fault_from}
use Rattle.value_kinds.specs.Kinds.{shape_in, vcard, version, line_shape, value_in}
use Rattle.value_kinds.specs.declared.Fault.TheVariants.{Fits}
use Rattle.value_kinds.proofs.ShapeLaws.{fits_from}

-- the shape of a line by the tests of its row, BEGIN, VERSION and END
other : (b v e : Bool) (x y z : Shape) → (b || (v || e)) ≡ false → pick b x (pick e x (pick v y z)) ≡ z
other true v e x y z h = absurd (false≢true (sym h))
other false true e x y z h = absurd (false≢true (sym h))
other false false true x y z h = absurd (false≢true (sym h))
other false false false x y z h = refl

fixed : (b v e : Bool) (x y z : Shape) → (b || (v || e)) ≡ true → v ≡ false → pick b x (pick e x (pick v y z)) ≡ x
fixed true v e x y z h g = refl
fixed false v true x y z h g = refl
fixed false true false x y z h g = absurd (false≢true (sym g))
fixed false false false x y z h g = absurd (false≢true h)

module _ (e : Edition) (row k : ℕ) where
  pub of_kind_lem : framing row ≡ false → line_shape e row k ≡ shape_in e k
  unfolding framing line_shape
  of_kind_lem h = other (eqb row 1) (eqb row 34) (eqb row 2) vcard version (shape_in e k) h

  pub of_frame : framing row ≡ true → eqb row 34 ≡ false → line_shape e row k ≡ vcard
  unfolding framing line_shape
  of_frame h f = fixed (eqb row 1) (eqb row 34) (eqb row 2) vcard version (shape_in e k) h f

-- a value that matches what its row asks
pub framed : (ed : Edition) (row k : ℕ) (r : Shape) (s : List ℕ) → line_shape ed row k ≡ r → Matches r s → Fits ≡ value_in ed row k s
unfolding value_in
framed ed row k r s e h = sym (ap (λ (q : Shape). fault_from q 0 s) e ∙ fits_from r 0 s h)
