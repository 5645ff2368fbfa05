-- The parameters that are written are those of the relations, in both ways. Assumes nothing.
use mathlib.Core.Path.{◌≡◌, refl, sym, ap, subst, ◌∙◌}
use mathlib.Core.Bool.{true, false, ◌&&◌, false≢true}
use mathlib.Core.List.{List, [], ◌∷◌, ◌++◌, append-nil}
use mathlib.Core.Logic.{◌⊎◌, inl, inr, ◌↔◌}
use Prim.Native.Nat.{ℕ, ◌+◌}
use native.Mathlib.Omega.{arith}
use lib.Dec.{eqb, ltb}
use lib.ListN.{length, get_or}
use borrow.Author.Tests.{eqb-true, lt-ltb, ltb-true}
use Rattle.octets.specs.Ascii.{octets}
use Rattle.octets.specs.Cases.{same}
use Rattle.octets.proofs.Bools.{by, and_both, or_left, or_right}
use Rattle.line_parser.specs.Grammar.{Value, Param, Each}
use Rattle.line_parameters.specs.First.{value_octets}
use Rattle.version3_parameters.specs.declared.Way.{Way}
use Rattle.version3_parameters.specs.declared.Way.TheVariants.{Inward, Outward}
use Rattle.version3_parameters.specs.Params.{is_pref, kept, any_pref, with_values, is_type, changed, prefers, changed_all, any_prefers, new_params, one_text, one_value, lawful, all_lawful, prefs, prefs_fit}
use Rattle.version3_laws.specs.Params.{Named, Nowhere, Some, here, there, Pref, values_of, Preferred, Without, none, goes, stays, Pruned, other, left, emptied, PrunedAll, pref_one, type_pref, ParamsIn, plainly, preferred, PrefOne, ParamsOut}
use Rattle.version3_laws.specs.Params as params
use Rattle.version3_laws.proofs.Small.{clash}

-- ---- taken in

any_to : (vs : List Value) → any_pref vs ≡ true → Some Pref vs
unfolding any_pref is_pref
any_to [] e = absurd (false≢true e)
any_to (v ∷ vs) e = by (same (value_octets v) (octets "pref")) (λ p. here p) (λ p. there (any_to vs (rw p at e)))

any_from : {vs : List Value} → Some Pref vs → any_pref vs ≡ true
unfolding any_pref is_pref
any_from (here {a = v} {xs = vs} p) = or_left (same (value_octets v) (octets "pref")) (any_pref vs) p
any_from (there {a = v} {xs = vs} s) = or_right (same (value_octets v) (octets "pref")) (any_pref vs) (any_from s)

prefers_to : (ps : List Param) → any_prefers Inward ps ≡ true → Preferred ps
unfolding any_prefers prefers
prefers_to [] e = absurd (false≢true e)
prefers_to (p ∷ ps) e =
    by (is_type p && any_pref (values_of p))
    (λ q. let r = and_both (is_type p) (any_pref (values_of p)) q in here (r.0, any_to (values_of p) r.1))
    (λ q. there (prefers_to ps (rw q at e)))

prefers_from : {ps : List Param} → Preferred ps → any_prefers Inward ps ≡ true
unfolding any_prefers prefers
prefers_from (here {a = p} {xs = ps} h) = rw (h.0, any_from h.1)
prefers_from (there {a = p} {xs = ps} h) = or_right (is_type p && any_pref (values_of p)) (any_prefers Inward ps) (prefers_from h)

-- a TYPE=pref stands there exactly where the test says so
pub preferred_law : (ps : List Param) → (any_prefers Inward ps ≡ true) ↔ Preferred ps
preferred_law ps = (prefers_to ps, prefers_from)

without_kept : (vs : List Value) → Without vs (kept vs)
unfolding kept is_pref
without_kept [] = none
without_kept (v ∷ vs) = by (same (value_octets v) (octets "pref")) (λ p. rw p (goes p (without_kept vs))) (λ p. rw p (stays (λ q. clash q p) (without_kept vs)))

without_only : {vs ws : List Value} → Without vs ws → ws ≡ kept vs
unfolding kept is_pref
without_only none = refl
without_only (goes {v = v} {vs = vs} p w) = without_only w ∙ rw p
without_only (stays {v = v} {vs = vs} n w) =
    by (same (value_octets v) (octets "pref")) (λ p. absurd (n p)) (λ p. ap (λ (us : List Value). v ∷ us) (without_only w) ∙ rw p)

pruned_by : (p : Param) → Named (octets "TYPE") p → (us : List Value) → Without (values_of p) us → Pruned p (with_values p.name us)
pruned_by p t [] w = emptied t w
pruned_by p t (v ∷ vs) w = left t w

changed_pruned : (p : Param) → Pruned p (changed Inward p)
unfolding changed
changed_pruned p =
    by (same p.name (octets "TYPE"))
    (λ t. rw t (pruned_by p t (kept (values_of p)) (without_kept (values_of p))))
    (λ t. rw t (other (λ q. clash q t)))

pruned_only : {p : Param} {qs : List Param} → Pruned p qs → qs ≡ changed Inward p
unfolding changed
pruned_only (other {p = p} n) = by (same p.name (octets "TYPE")) (λ t. absurd (n t)) (λ t. rw t)
pruned_only (left {p = p} {v = v} {vs = vs} t w) = ap (with_values p.name) (without_only w) ∙ rw t
pruned_only (emptied {p = p} t w) = ap (with_values p.name) (without_only w) ∙ rw t

all_pruned : (ps : List Param) → PrunedAll ps (changed_all Inward ps)
unfolding changed_all
all_pruned [] = params.PrunedAll.none
all_pruned (p ∷ ps) = params.PrunedAll.more (changed_pruned p) (all_pruned ps)

all_only : {ps qs : List Param} → PrunedAll ps qs → qs ≡ changed_all Inward ps
unfolding changed_all
all_only params.PrunedAll.none = refl
all_only (params.PrunedAll.more {p = p} {ps = ps} {qs = qs} {rs = rs} h g) =
    ap (λ (l : List Param). l ++ rs) (pruned_only h) ∙ ap (λ (l : List Param). changed Inward p ++ l) (all_only g)

kept_all : (vs : List Value) → (Some Pref vs → ⊥) → kept vs ≡ vs
unfolding kept is_pref
kept_all [] n = refl
kept_all (v ∷ vs) n =
    by (same (value_octets v) (octets "pref")) (λ p. absurd (n (here p))) (λ p. rw p (ap (λ (us : List Value). v ∷ us) (kept_all vs (λ s. n (there s)))))

changed_same : (p : Param) → (Named (octets "TYPE") p × Some Pref (values_of p) → ⊥) → changed Inward p ≡ p ∷ []
unfolding changed
changed_same p n =
    by (same p.name (octets "TYPE"))
    (λ t. rw (t, kept_all (values_of p) (λ s. n (t, s))))
    (λ t. rw t)

all_same : (ps : List Param) → (Preferred ps → ⊥) → changed_all Inward ps ≡ ps
unfolding changed_all
all_same [] n = refl
all_same (p ∷ ps) n = ap (λ (l : List Param). l ++ changed_all Inward ps) (changed_same p (λ h. n (here h))) ∙ ap (λ (l : List Param). p ∷ l) (all_same ps (λ h. n (there h)))

new_plain : (ps : List Param) → (Preferred ps → ⊥) → new_params Inward ps ≡ ps
unfolding new_params
new_plain ps n =
    by (any_prefers Inward ps) (λ e. absurd (n (prefers_to ps e))) (λ e. rw e (append-nil (changed_all Inward ps) ∙ all_same ps n))

new_preferred : (ps : List Param) → Preferred ps → new_params Inward ps ≡ changed_all Inward ps ++ (pref_one ∷ [])
unfolding new_params
new_preferred ps h = rw (prefers_from h)

-- the parameters that are taken in are those that are written
pub params_in : (ps : List Param) → ParamsIn ps (new_params Inward ps)
params_in ps =
    by (any_prefers Inward ps)
    (λ e. let h = prefers_to ps e in rw (new_preferred ps h) (preferred h (all_pruned ps)))
    (λ e. let n : Preferred ps → ⊥ = λ h. clash (prefers_from h) e in rw (new_plain ps n) (plainly n))

pub params_in_only : {ps qs : List Param} → ParamsIn ps qs → qs ≡ new_params Inward ps
params_in_only (plainly {ps = ps} n) = sym (new_plain ps n)
params_in_only (preferred {ps = ps} h g) = ap (λ (l : List Param). l ++ (pref_one ∷ [])) (all_only g) ∙ sym (new_preferred ps h)

-- ---- PREFs

no_prefs : (w : Way) (us qs : List Param) → Nowhere (octets "PREF") us → (all_lawful w (us ++ qs) ≡ all_lawful w qs) × (prefs (us ++ qs) ≡ prefs qs)
unfolding Each all_lawful prefs
no_prefs w [] qs h = (refl, refl)
no_prefs w (p ∷ us) qs h =
    by (same p.name (octets "PREF"))
    (λ t. absurd (h.0 t))
    (λ t. let r = no_prefs w us qs h.1 in (rw t r.0, rw t (omega (arith, r.1))))

-- the first PREF, where there is one
split : (ps : List Param)
    → Nowhere (octets "PREF") ps ⊎ ((us : List Param) × (p : Param) × (vs : List Param) × (ps ≡ us ++ (p ∷ vs)) × Nowhere (octets "PREF") us × Named (octets "PREF") p)
unfolding Each
split [] = inl tt
split (p ∷ ps) = by (same p.name (octets "PREF")) (λ t. inr ([], p, ps, refl, tt, t)) (λ t. go (split ps) (λ q. clash q t))
  where
    go : Nowhere (octets "PREF") ps ⊎ ((us : List Param) × (q : Param) × (vs : List Param) × (ps ≡ us ++ (q ∷ vs)) × Nowhere (octets "PREF") us × Named (octets "PREF") q) → (Named (octets "PREF") p → ⊥)
        → Nowhere (octets "PREF") (p ∷ ps) ⊎ ((us : List Param) × (q : Param) × (vs : List Param) × (p ∷ ps ≡ us ++ (q ∷ vs)) × Nowhere (octets "PREF") us × Named (octets "PREF") q)
    go (inl h) n = inl (n, h)
    go (inr (us, q, vs, e, h, t)) n = inr (p ∷ us, q, vs, ap (λ (l : List Param). p ∷ l) e, (n, h), t)

lawful_here : (w : Way) (p : Param) (vs : List Param) → Named (octets "PREF") p → all_lawful w (p ∷ vs) ≡ true → (lawful w p ≡ true) × (all_lawful w vs ≡ true)
unfolding all_lawful
lawful_here w p vs t e = and_both (lawful w p) (all_lawful w vs) (rw t at e)

prefs_here : (p : Param) (vs : List Param) → Named (octets "PREF") p → prefs (p ∷ vs) ≡ 1 + prefs vs
unfolding prefs
prefs_here p vs t = rw t

prefs_none : (vs : List Param) → prefs vs ≡ 0 → Nowhere (octets "PREF") vs
unfolding Each prefs
prefs_none [] e = tt
prefs_none (p ∷ vs) e =
    by (same p.name (octets "PREF"))
    (λ t. absurd (omega (arith, prefs_here p vs t, e)))
    (λ t. ((λ q. clash q t), prefs_none vs (omega (arith, rw t at e))))

fits_to : (w : Way) (ps : List Param) → prefs_fit w ps ≡ true → (all_lawful w ps ≡ true) × (ltb (prefs ps) 2 ≡ true)
unfolding prefs_fit
fits_to w ps e = and_both (all_lawful w ps) (ltb (prefs ps) 2) e

fits_none : (w : Way) (ps : List Param) → Nowhere (octets "PREF") ps → prefs_fit w ps ≡ true
unfolding prefs_fit all_lawful prefs
fits_none w ps h =
    let r = no_prefs w ps [] h in
    let a : all_lawful w ps ≡ true = ap (all_lawful w) (sym (append-nil ps)) ∙ r.0 in
    let b : prefs ps ≡ 0 = ap prefs (sym (append-nil ps)) ∙ r.1 in
    rw (a, lt-ltb (prefs ps) 2 (omega arith))

-- taken in: no PREF
pub no_pref_law : (ps : List Param) → (prefs_fit Inward ps ≡ true) ↔ Nowhere (octets "PREF") ps
no_pref_law ps = (λ e. go e (split ps), fits_none Inward ps)
  where
    go : prefs_fit Inward ps ≡ true → Nowhere (octets "PREF") ps ⊎ ((us : List Param) × (p : Param) × (vs : List Param) × (ps ≡ us ++ (p ∷ vs)) × Nowhere (octets "PREF") us × Named (octets "PREF") p)
        → Nowhere (octets "PREF") ps
    go e (inl h) = h
    go e (inr (us, p, vs, q, h, t)) =
        let a = (fits_to Inward ps e).0 in
        let b : all_lawful Inward (p ∷ vs) ≡ true = sym (no_prefs Inward us (p ∷ vs) h).0 ∙ ap (all_lawful Inward) (sym q) ∙ a in
        absurd (false≢true (lawful_here Inward p vs t b).0)

-- ---- given out

one_text_lem : (l : List ℕ) → one_text l ≡ true → l ≡ octets "1"
unfolding one_text octets
one_text_lem l e = go l (eqb-true (length l) 1 (and_both (eqb (length l) 1) (eqb (get_or l 0 0) 49) e).0) (eqb-true (get_or l 0 0) 49 (and_both (eqb (length l) 1) (eqb (get_or l 0 0) 49) e).1)
  where
    go : (l : List ℕ) → length l ≡ 1 → get_or l 0 0 ≡ 49 → l ≡ 49 ∷ []
    go [] n q = absurd (omega arith)
    go (x ∷ []) n q = ap (λ (y : ℕ). y ∷ []) q
    go (x ∷ y ∷ l) n q = absurd (omega arith)

text_one : one_text (octets "1") ≡ true
unfolding one_text octets
text_one = refl

one_to : (p : Param) → lawful Outward p ≡ true → (value_octets p.first ≡ octets "1") × (p.more ≡ [])
one_to p e = go p.more refl e
  where
    go : (us : List Value) → p.more ≡ us → one_value us p.first ≡ true → (value_octets p.first ≡ octets "1") × (p.more ≡ [])
    go [] q e = (one_text_lem (value_octets p.first) e, q)
    go (u ∷ us) q e = absurd (false≢true e)

one_from : (p : Param) → PrefOne p → lawful Outward p ≡ true
one_from p h = rw (h.single, h.value) text_one

module _ (us qs : List Param) (h : Nowhere (octets "PREF") us) where
  skip_changed : changed_all Outward (us ++ qs) ≡ us ++ changed_all Outward qs
  unfolding changed_all changed Each
  skip_changed = go us h
    where
      go : (vs : List Param) → Nowhere (octets "PREF") vs → changed_all Outward (vs ++ qs) ≡ vs ++ changed_all Outward qs
      go [] h = refl
      go (p ∷ vs) h = by (same p.name (octets "PREF")) (λ t. absurd (h.0 t)) (λ t. rw t (ap (λ (l : List Param). p ∷ l) (go vs h.1)))

  skip_prefers : any_prefers Outward (us ++ qs) ≡ any_prefers Outward qs
  unfolding any_prefers prefers Each
  skip_prefers = go us h
    where
      go : (vs : List Param) → Nowhere (octets "PREF") vs → any_prefers Outward (vs ++ qs) ≡ any_prefers Outward qs
      go [] h = refl
      go (p ∷ vs) h = by (same p.name (octets "PREF")) (λ t. absurd (h.0 t)) (λ t. rw t (go vs h.1))

nothing_changed : (changed_all Outward [] ≡ []) × (any_prefers Outward [] ≡ false)
unfolding changed_all any_prefers
nothing_changed = (refl, refl)

out_plain : (ps : List Param) → Nowhere (octets "PREF") ps → new_params Outward ps ≡ ps
unfolding new_params
out_plain ps h =
    let a : changed_all Outward ps ≡ ps
    = ap (changed_all Outward) (sym (append-nil ps)) ∙ skip_changed ps [] h ∙ ap (λ (l : List Param). ps ++ l) nothing_changed.0 ∙ append-nil ps in
    let b : any_prefers Outward ps ≡ false = ap (any_prefers Outward) (sym (append-nil ps)) ∙ skip_prefers ps [] h ∙ nothing_changed.1 in
    rw (a, b) (append-nil ps)

changed_here : (p : Param) (qs : List Param) → Named (octets "PREF") p → (changed_all Outward (p ∷ qs) ≡ changed_all Outward qs) × (any_prefers Outward (p ∷ qs) ≡ true)
unfolding changed_all changed any_prefers prefers
changed_here p qs t = (rw t, rw t)

out_preferred : (p : Param) (us qs : List Param) → Named (octets "PREF") p → Nowhere (octets "PREF") us → Nowhere (octets "PREF") qs
    → new_params Outward (us ++ (p ∷ qs)) ≡ (us ++ qs) ++ (type_pref ∷ [])
unfolding new_params
out_preferred p us qs t h g =
    let c = changed_here p qs t in
    let q : changed_all Outward qs ≡ qs
    = ap (changed_all Outward) (sym (append-nil qs)) ∙ skip_changed qs [] g ∙ ap (λ (l : List Param). qs ++ l) nothing_changed.0 ∙ append-nil qs in
    let a : changed_all Outward (us ++ (p ∷ qs)) ≡ us ++ qs = skip_changed us (p ∷ qs) h ∙ ap (λ (l : List Param). us ++ l) (c.0 ∙ q) in
    let b : any_prefers Outward (us ++ (p ∷ qs)) ≡ true = skip_prefers us (p ∷ qs) h ∙ c.1 in
    rw (a, b)

prefs_nil : prefs [] ≡ 0
unfolding prefs
prefs_nil = refl

one_fits : (p : Param) (us qs : List Param) → PrefOne p → Nowhere (octets "PREF") us → Nowhere (octets "PREF") qs → prefs_fit Outward (us ++ (p ∷ qs)) ≡ true
unfolding prefs_fit all_lawful
one_fits p us qs o h g =
    let r = no_prefs Outward us (p ∷ qs) h in
    let s = fits_to Outward qs (fits_none Outward qs g) in
    let z = no_prefs Outward qs [] g in
    let n : prefs (us ++ (p ∷ qs)) ≡ 1 + prefs qs = r.1 ∙ prefs_here p qs o.name in
    let m : prefs qs ≡ prefs [] = ap prefs (sym (append-nil qs)) ∙ z.1 in
    let a : all_lawful Outward (us ++ (p ∷ qs)) ≡ true = r.0 ∙ rw (o.name, one_from p o, s.0) in
    rw (a, lt-ltb (prefs (us ++ (p ∷ qs))) 2 (omega (arith, n, m, prefs_nil)))

-- the parameters that are given out are those that are written, and their PREFs fit
pub params_out_only : {ps qs : List Param} → ParamsOut ps qs → (qs ≡ new_params Outward ps) × (prefs_fit Outward ps ≡ true)
params_out_only (params.ParamsOut.plainly {ps = ps} h) = (sym (out_plain ps h), fits_none Outward ps h)
params_out_only (params.ParamsOut.preferred {p = p} us qs o h g) = (sym (out_preferred p us qs o.name h g), one_fits p us qs o h g)

pub params_out : (ps : List Param) → prefs_fit Outward ps ≡ true → ParamsOut ps (new_params Outward ps)
params_out ps e = go (split ps)
  where
    go : Nowhere (octets "PREF") ps ⊎ ((us : List Param) × (p : Param) × (vs : List Param) × (ps ≡ us ++ (p ∷ vs)) × Nowhere (octets "PREF") us × Named (octets "PREF") p)
        → ParamsOut ps (new_params Outward ps)
    go (inl h) = rw (out_plain ps h) (params.ParamsOut.plainly h)
    go (inr (us, p, vs, q, h, t)) =
        let f = fits_to Outward ps e in
        let r = no_prefs Outward us (p ∷ vs) h in
        let l = lawful_here Outward p vs t (sym r.0 ∙ ap (all_lawful Outward) (sym q) ∙ f.0) in
        let n : prefs ps ≡ 1 + prefs vs = ap prefs q ∙ r.1 ∙ prefs_here p vs t in
        let g = prefs_none vs (omega (arith, n, ltb-true (prefs ps) 2 f.1)) in
        let o = one_to p l.0 in
        subst (λ (l : List Param). ParamsOut l (new_params Outward l)) (sym q)
        (rw (out_preferred p us vs t h g) (params.ParamsOut.preferred us vs (record { name = t; value = o.0; single = o.1 }) h g))
