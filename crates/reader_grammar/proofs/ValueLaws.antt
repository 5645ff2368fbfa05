-- The value of a line fits exactly where it is as REFERENCE, The kinds of value says, and so for clean lines and for lines without group and parameter.
-- Assumes nothing.
use mathlib.Core.Path.{◌≡◌, sym, subst, ◌∙◌}
use mathlib.Core.Bool.{false}
use mathlib.Core.List.{List}
use mathlib.Core.Logic.{◌↔◌}
use Prim.Native.Nat.{ℕ, zero, suc, ◌<◌}
use native.Mathlib.Omega.{arith}
use lib.Dec.{eqb, ltb}
use lib.ListN.{length}
use borrow.Author.Tests.{le-ltb, ltb-false, eqb-true, eqb-false}
use Rattle.utf8.specs.Characters.{allowed, first_bad}
use Rattle.utf8.proofs.Chars.{bad_le}
use Rattle.utf8_laws.proofs.Utf8.{allowed_only}
use Rattle.numbers.specs.Kinds as kinds
use Rattle.value_kinds.specs.Kinds.{shape_in, line_shape, kind_in, value_in}
use Rattle.value_kinds.specs.Shapes.{Matches}
use Rattle.value_kinds.specs.declared.Fault.TheVariants.{Fits, Breaks}
use Rattle.octets.proofs.Bools.{by}
use Rattle.value_laws.specs.Dead.{Dead}
use Rattle.value_laws.proofs.DeadLaws.{dead_alike}
use Rattle.value_laws.proofs.KindLaws.{fits_kind, fits_line, breaks_line}
use Rattle.value_laws.proofs.DateWords.{kind_9, kind_10, kind_11}
use Rattle.value_laws.proofs.Plain.{kind_0, kind_1, kind_2, kind_3, kind_4, kind_5, kind_6, kind_7, kind_8, fixed_begin, fixed_end, fixed_version, by_kind}
use Rattle.reader_grammar.specs.Values.{OfKind, anything, text, texts, uri, name, address, components, gender, pidmap, date, timestamp, offset, Fitting}
use Rattle.reader_grammar.specs.Cards.{Clean}
use Rattle.property_table.specs.declared.Edition.{Edition}

module _ (ed : Edition) where
  kind_to : (k : ℕ) (v : List ℕ) → kind_in ed k v ≡ Fits → OfKind ed k v
  unfolding shape_in Matches
  kind_to zero v e = anything
  kind_to (suc zero) v e = text ((kind_1 ed v).0 e)
  kind_to (suc (suc zero)) v e = texts ((kind_2 ed v).0 e)
  kind_to (suc (suc (suc zero))) v e = uri ((kind_3 ed v).0 e)
  kind_to (suc (suc (suc (suc zero)))) v e = name ((kind_4 ed v).0 e)
  kind_to (suc (suc (suc (suc (suc zero))))) v e = address ((kind_5 ed v).0 e)
  kind_to (suc (suc (suc (suc (suc (suc zero)))))) v e = components ((kind_6 ed v).0 e)
  kind_to (suc (suc (suc (suc (suc (suc (suc zero))))))) v e = gender ((kind_7 ed v).0 e)
  kind_to (suc (suc (suc (suc (suc (suc (suc (suc zero)))))))) v e = pidmap ((kind_8 ed v).0 e)
  kind_to (suc (suc (suc (suc (suc (suc (suc (suc (suc zero))))))))) v e = date ((kind_9 ed v).0 e)
  kind_to (suc (suc (suc (suc (suc (suc (suc (suc (suc (suc zero)))))))))) v e = timestamp ((kind_10 ed v).0 e)
  kind_to (suc (suc (suc (suc (suc (suc (suc (suc (suc (suc (suc zero))))))))))) v e = offset ((kind_11 ed v).0 e)
  kind_to (suc (suc (suc (suc (suc (suc (suc (suc (suc (suc (suc (suc k)))))))))))) v e = absurd ((fits_kind ed (suc (suc (suc (suc (suc (suc (suc (suc (suc (suc (suc (suc k)))))))))))) v).0 e)

  kind_from : {k : ℕ} {v : List ℕ} → OfKind ed k v → kind_in ed k v ≡ Fits
  kind_from (anything {v = v}) = kind_0 ed v
  kind_from (text {v = v} h) = (kind_1 ed v).1 h
  kind_from (texts {v = v} h) = (kind_2 ed v).1 h
  kind_from (uri {v = v} h) = (kind_3 ed v).1 h
  kind_from (name {v = v} h) = (kind_4 ed v).1 h
  kind_from (address {v = v} h) = (kind_5 ed v).1 h
  kind_from (components {v = v} h) = (kind_6 ed v).1 h
  kind_from (gender {v = v} h) = (kind_7 ed v).1 h
  kind_from (pidmap {v = v} h) = (kind_8 ed v).1 h
  kind_from (date {v = v} h) = (kind_9 ed v).1 h
  kind_from (timestamp {v = v} h) = (kind_10 ed v).1 h
  kind_from (offset {v = v} h) = (kind_11 ed v).1 h

  -- a value fits its kind's scan exactly where it is of the kind
  pub of_kind_lem : (k : ℕ) (v : List ℕ) → (kind_in ed k v ≡ Fits) ↔ OfKind ed k v
  of_kind_lem k v = (kind_to k v, kind_from)

  module _ (row k : ℕ) (v : List ℕ) where
    abbrev scanned : ℕ → Type 0
    scanned n = value_in ed n k v ≡ Fits

    value_to : value_in ed row k v ≡ Fits → Fitting ed row k v
    value_to e = record {
      begin = λ r. (fixed_begin ed k v).0 (subst scanned r e);
      end = λ r. (fixed_end ed k v).0 (subst scanned r e);
      version = λ r. (fixed_version ed k v).0 (subst scanned r e);
      other = λ a b c. kind_to k v (sym (by_kind ed row k v a b c) ∙ e);
    }

    value_from : Fitting ed row k v → value_in ed row k v ≡ Fits
    value_from f =
        by (eqb row 1) (λ a. let r = eqb-true row 1 a in subst scanned (sym r) ((fixed_begin ed k v).1 (f.begin r)))
        (λ a. by (eqb row 2) (λ b. let r = eqb-true row 2 b in subst scanned (sym r) ((fixed_end ed k v).1 (f.end r)))
        (λ b. by (eqb row 34) (λ c. let r = eqb-true row 34 c in subst scanned (sym r) ((fixed_version ed k v).1 (f.version r)))
        (λ c.
        let p = eqb-false row 1 a in
        let q = eqb-false row 2 b in
        let s = eqb-false row 34 c in
        by_kind ed row k v p q s ∙ kind_from (f.other p q s))))

    pub value_fits : (value_in ed row k v ≡ Fits) ↔ Fitting ed row k v
    value_fits = (value_to, value_from)

  -- a value breaks off where the scan says so, by every continuation
  pub value_dead : (row k : ℕ) (v : List ℕ) (o : ℕ) → k < kinds.count → (value_in ed row k v ≡ Breaks o) ↔ Dead (Fitting ed row k) v o
  value_dead row k v o h =
      let b = breaks_line ed row k v o h in
      let same : (w : List ℕ) → Matches (line_shape ed row k) w ↔ Fitting ed row k w =
      λ w. (λ m. (value_fits row k w).0 ((fits_line ed row k w).1 m), λ m. (fits_line ed row k w).0 ((value_fits row k w).1 m)) in (
        λ e. dead_alike (Matches (line_shape ed row k)) (Fitting ed row k) same v o (b.0 e),
        λ d. b.1 (dead_alike (Fitting ed row k) (Matches (line_shape ed row k)) (λ w. ((same w).1, (same w).0)) v o d),
      )

  -- no octet of the line is bad exactly where it is clean
  pub clean_law : (l : List ℕ) → (ltb (first_bad (allowed false) l) (length l) ≡ false) ↔ Clean l
  clean_law l = (
    λ e.
        let a = (allowed_only false l).0 (omega (arith, ltb-false (first_bad (allowed false) l) (length l) e, bad_le (allowed false) l)) in
        record { characters = a.0; octets = a.1 },
    λ h.
        let a = (allowed_only false l).1 (h.characters, h.octets) in
        le-ltb (first_bad (allowed false) l) (length l) (omega arith),
  )
