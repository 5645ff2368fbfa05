-- The minutes that an offset's octets give are those that it stands for, and it stands for no others; other octets are refused where they break off. Assumes nothing.
use mathlib.Core.Path.{◌≡◌, refl, sym, ap, subst, ◌∙◌}
use mathlib.Core.List.{List, ◌∷◌, ◌++◌}
use mathlib.Core.Logic.{inl, inr, ◌↔◌}
use Prim.Native.Nat.{ℕ, ◌+◌, ◌*◌}
use native.Mathlib.Omega.{arith}
use lib.IntN.{ℤ, pos, neg_ℤ}
use Rattle.numbers.specs.Refusals as refusal
use Rattle.property_table.specs.declared.Edition.TheVariants.{First}
use Rattle.value_kinds.specs.Shapes.{Matches}
use Rattle.value_kinds.specs.Kinds.{shape_in, kind_scan}
use Rattle.value_kinds.specs.declared.Fault.{Fault}
use Rattle.value_kinds.specs.declared.Fault.TheVariants.{Fits as fitting, Breaks as breaking}
use Rattle.value_offsets.specs.Minutes.{digit_at, pair_at, time_of, is_behind, signed, minutes_by, minutes_of}
use Rattle.value_offsets.specs.declared.Offset.TheVariants.{Minutes, Refused}
use Rattle.value_laws.specs.Calendar.{two, Offset, offset_hours, offset_minutes, StandsFor, hours_ahead, minutes_ahead, hours_behind, minutes_behind, Within}
use Rattle.value_laws.specs.Dead.{Dead}
use Rattle.value_laws.proofs.DeadLaws.{dead_alike}
use Rattle.value_laws.proofs.KindLaws.{fits_kind, breaks_kind}
use Rattle.value_laws.proofs.DateWords.{kind_11}

time_hours : (s h : ℕ) → time_of (s ∷ two h) ≡ h * 60
unfolding time_of pair_at digit_at
time_hours s h = omega arith

time_minutes : (s h m : ℕ) → time_of (s ∷ (two h ++ two m)) ≡ h * 60 + m
unfolding time_of pair_at digit_at
time_minutes s h m = omega arith

-- what an offset gives, it stands for
offset_stands : (v : List ℕ) → Offset v → StandsFor (signed (is_behind v) (time_of v)) v
unfolding is_behind signed
offset_stands v (offset_hours {s = s} {h = h} (inl e) l) = rw (e, time_hours 43 h) (hours_ahead l)
offset_stands v (offset_hours {s = s} {h = h} (inr e) l) = rw (e, time_hours 45 h) (hours_behind l)
offset_stands v (offset_minutes {s = s} {h = h} {m = m} (inl e) l k) = rw (e, time_minutes 43 h m) (minutes_ahead l k)
offset_stands v (offset_minutes {s = s} {h = h} {m = m} (inr e) l k) = rw (e, time_minutes 45 h m) (minutes_behind l k)

stands_offset : {z : ℤ} {v : List ℕ} → StandsFor z v → Offset v
stands_offset (hours_ahead l) = offset_hours (inl refl) l
stands_offset (minutes_ahead l k) = offset_minutes (inl refl) l k
stands_offset (hours_behind l) = offset_hours (inr refl) l
stands_offset (minutes_behind l k) = offset_minutes (inr refl) l k

-- what it stands for, an offset gives
stands_gives : {z : ℤ} {v : List ℕ} → StandsFor z v → signed (is_behind v) (time_of v) ≡ z
unfolding is_behind signed
stands_gives (hours_ahead {h = h} l) = ap pos (time_hours 43 h)
stands_gives (minutes_ahead {h = h} {m = m} l k) = ap pos (time_minutes 43 h m)
stands_gives (hours_behind {h = h} l) = ap (λ (n : ℕ). neg_ℤ (pos n)) (time_hours 45 h)
stands_gives (minutes_behind {h = h} {m = m} l k) = ap (λ (n : ℕ). neg_ℤ (pos n)) (time_minutes 45 h m)

minutes_from : (v : List ℕ) (z : ℤ) → StandsFor z v → minutes_of v ≡ Minutes z
unfolding minutes_of
minutes_from v z h = ap (λ (f : Fault). minutes_by f v) ((kind_11 First v).1 (stands_offset h)) ∙ ap Minutes (stands_gives h)

by_fault : (v : List ℕ) (z : ℤ) (f : Fault) → kind_scan 11 v ≡ f → minutes_by f v ≡ Minutes z → StandsFor z v
by_fault v z fitting e h =
    let same : signed (is_behind v) (time_of v) ≡ z = cc in
    subst (λ (y : ℤ). StandsFor y v) same (offset_stands v ((kind_11 First v).0 e))
by_fault v z (breaking o) e h = let n : ◌≡◌ {A = ℕ} 0 1 = cc in absurd (omega arith)

minutes_to : (v : List ℕ) (z : ℤ) → minutes_of v ≡ Minutes z → StandsFor z v
unfolding minutes_of
minutes_to v z h = by_fault v z (kind_scan 11 v) refl h

-- the minutes are answered exactly where the octets stand for them
pub minutes_law : (v : List ℕ) (z : ℤ) → (minutes_of v ≡ Minutes z) ↔ StandsFor z v
minutes_law v z = (minutes_to v z, minutes_from v z)

-- octets stand for one number of minutes at most
pub one_meaning : (v : List ℕ) (y z : ℤ) → StandsFor y v → StandsFor z v → y ≡ z
one_meaning v y z g h = sym (stands_gives g) ∙ stands_gives h

pub range_law : {z : ℤ} {v : List ℕ} → StandsFor z v → Within 1439 z
range_law (hours_ahead {h = h} l) = (h * 60, omega arith, inl refl)
range_law (minutes_ahead {h = h} {m = m} l k) = (h * 60 + m, omega arith, inl refl)
range_law (hours_behind {h = h} l) = (h * 60, omega arith, inr refl)
range_law (minutes_behind {h = h} {m = m} l k) = (h * 60 + m, omega arith, inr refl)

-- the scan breaks off where an offset does
breaks_offset : (v : List ℕ) (o : ℕ) → (kind_scan 11 v ≡ breaking o) ↔ Dead Offset v o
breaks_offset v o =
    let b = breaks_kind First 11 v o (omega arith) in
    let same : (w : List ℕ) → Matches (shape_in First 11) w ↔ Offset w = λ w. (λ m. (kind_11 First w).0 ((fits_kind First 11 w).1 m), λ m. (fits_kind First 11 w).0 ((kind_11 First w).1 m)) in (
      λ e. dead_alike (Matches (shape_in First 11)) Offset same v o (b.0 e),
      λ h. b.1 (dead_alike Offset (Matches (shape_in First 11)) (λ w. ((same w).1, (same w).0)) v o h),
    )

refused_to : (v : List ℕ) (n p : ℕ) (f : Fault) → kind_scan 11 v ≡ f → minutes_by f v ≡ Refused n p → (n ≡ refusal.value) × Dead Offset v p
refused_to v n p fitting e h = let k : ◌≡◌ {A = ℕ} 0 1 = cc in absurd (omega arith)
refused_to v n p (breaking o) e h = let q : o ≡ p = cc in (cc, (breaks_offset v p).0 (e ∙ ap breaking q))

-- 7 is answered exactly where they are no offset, with the first octet from which no continuation is one
pub no_minutes : (v : List ℕ) (n p : ℕ) → (minutes_of v ≡ Refused n p) ↔ ((n ≡ refusal.value) × Dead Offset v p)
unfolding minutes_of
no_minutes v n p = (
  λ h. refused_to v n p (kind_scan 11 v) refl h,
  λ h. rw h.0 (ap (λ (f : Fault). minutes_by f v) ((breaks_offset v p).1 h.1)),
)
