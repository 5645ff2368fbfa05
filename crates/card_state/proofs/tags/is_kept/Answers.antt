-- `card_state::tags::is_kept` meets its contract. Assumes nothing.
use mathlib.Core.Path.{◌≡◌, refl, sym, ap, ◌∙◌}
use mathlib.Core.Bool.{false}
use mathlib.Core.List.{List, map}
use mathlib.Core.Option.{Option, some}
use Prim.Native.Nat.{ℕ, zero, suc, ◌+◌, ◌-◌, ◌/◌, ◌%◌, ◌≤◌}
use native.Mathlib.Omega.{arith}
use lib.ListN.{length, get_or, take, drop, get_or-map}
use Rattle.card_state.specs.State.{equal, same_tag, tag_of}
use Rattle.card_state.specs.Kept.{places_of, end_of, tag_at}
use Rattle.card_state.proofs.KeptLaws.{equal_is, inside_at}
use Rattle.card_state.proofs.tags.is_kept.Goals as goal

tag_there : (store ps : List ℕ) (k : ℕ) → tag_of (map (tag_at store) ps) k ≡ tag_at store (get_or ps (k - 1) 0)
unfolding tag_of tag_at
tag_there store ps k = get_or-map (tag_at store) ps (k - 1) 0

no_tag : (store ps v : List ℕ) (k : ℕ) → get_or ps (k - 1) 0 ≡ 0 → false ≡ same_tag (tag_of (map (tag_at store) ps) k) (some v)
unfolding same_tag tag_at
no_tag store ps v k e = sym (ap (λ (o : Option (List ℕ)). same_tag o (some v)) (tag_there store ps k ∙ ap (tag_at store) e))

end_there : (p : ℕ) → (p ≡ 0 → ⊥) → end_of p ≡ (p - 1) / 32768 + (p - 1) % 32768
unfolding end_of
end_there zero h = absurd (h refl)
end_there (suc p) h = let back : suc p - 1 ≡ p = omega arith in rw back

some_tag : (store ps v : List ℕ) (k p : ℕ) → get_or ps (k - 1) 0 ≡ p → (p ≡ 0 → ⊥)
    → equal (take ((p - 1) % 32768) (drop ((p - 1) / 32768) store)) v ≡ same_tag (tag_of (map (tag_at store) ps) k) (some v)
unfolding same_tag tag_at
some_tag store ps v k zero e h = absurd (h refl)
some_tag store ps v k (suc p) e h =
    let back : suc p - 1 ≡ p = omega arith in
    rw back (sym (ap (λ (o : Option (List ℕ)). same_tag o (some v)) (tag_there store ps k ∙ ap (tag_at store) e)))

pub returns-then-place-eq0 : goal.returns-then-place-eq0
returns-then-place-eq0 c =
    let a = c.args in
    no_tag a.store.now (places_of a.t) a.value.now a.k (sym c.place_at-place.ensures ∙ c.if-place-eq0.true)

pub slice_bounds-eq-end : goal.slice_bounds-eq-end
slice_bounds-eq-end c =
    let within : (c.place_at-place.result - 1) / 32768 + (c.place_at-place.result - 1) % 32768 ≤ length c.args.store.now = let p = c.place_at-place in
    rw (← end_there p.result c.if-place-eq0.false, p.ensures) (inside_at (places_of c.args.t) (length c.args.store.now) (c.args.k - 1) c.requires.inside) in
    within

pub returns : goal.returns
returns c =
    let a = c.args in
    let p = c.place_at-place in
    let from = (p.result - 1) / 32768 in
    let n = (p.result - 1) % 32768 in
    let size : from + n - from ≡ n = omega arith in
    c.eq.ensures
    ∙ equal_is _ a.value.now
    ∙ ap (λ (m : ℕ). equal (take m (drop from a.store.now)) a.value.now) size
    ∙ some_tag a.store.now (places_of a.t) a.value.now a.k p.result (sym p.ensures) c.if-place-eq0.false
