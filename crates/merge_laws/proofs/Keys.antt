-- Two keys are equal exactly where the first numbers are and the source numbers lead to one URI. Assumes nothing.
use mathlib.Core.Path.{◌≡◌, refl, sym, ap, subst, ◌∙◌}
use mathlib.Core.Bool.{true, false≢true}
use mathlib.Core.List.{List}
use Prim.Native.Nat.{ℕ, zero, suc, ◌+◌, ◌*◌, ◌<◌, ◌≤◌}
use native.Mathlib.Omega.{arith}
use lib.Dec.{ltb}
use lib.ListN.{length, get_or, replicate}
use borrow.Author.Tests.{ltb-true, ltb-false, lt-ltb, le-ltb}
use Rattle.octets.proofs.Bools.{by}
use Rattle.line_parser.specs.Grammar.{Line}
use Rattle.merge_sources.specs.Row.{none, row_of, first_in}
use Rattle.merge_sources.specs.declared.Source.{Source}
use Rattle.merge_sources.specs.declared.Row.{Row}
use Rattle.std.specs.Prelude.{Option, Some, None}
use Rattle.merge_sides.specs.Lines.{same_octets}
use Rattle.merge_partners.specs.Keys.{uri_of, class_from, class_of, class_at, classes_of, class_by, no_key, key_by}
use Rattle.merge_partners.proofs.WalkLaws.{sets_at}
use Rattle.merge_words.specs.Sources.{Leads}
use Rattle.merge_words.specs.Sides.{Held}
use Rattle.merge_laws.proofs.Lines.{octets_equal, octets_same}
use Rattle.merge_laws.proofs.Sources.{leads_found, found_leads, row_entries, row_count, least_is}

-- the class of a URI
module _ (ca : List ℕ) (a : Row) (u : List ℕ) where
  abbrev Uri : ℕ → List ℕ
  Uri n = uri_of ca (get_or a.entries n none)

  class_from_lem : (k i : ℕ) → class_from ca a u i k < 16 → Uri (class_from ca a u i k) ≡ u
  unfolding class_from
  class_from_lem zero i h = absurd (omega arith)
  class_from_lem (suc k) i h =
      by (ltb i a.count)
      (λ e.
      by (same_octets (Uri i) u)
      (λ s. rw (e, s) (octets_equal (Uri i) u s))
      (λ s. rw (e, s) (class_from_lem k (i + 1) (rw (e, s) at h))))
      (λ e. absurd (omega (arith, rw e at h)))

  class_some : (k i n : ℕ) → i ≤ n → n < i + k → n < a.count → i + k ≤ 16 → Uri n ≡ u → class_from ca a u i k < 16
  unfolding class_from
  class_some zero i n f b c l e = absurd (omega arith)
  class_some (suc k) i n f b c l e =
      let t : ltb i a.count ≡ true = lt-ltb i a.count (omega arith) in
      by (same_octets (Uri i) u)
      (λ s. rw (t, s) (omega arith))
      (λ s.
      let d : i ≡ n → ⊥ = λ q. false≢true (sym s ∙ octets_same (Uri i) u (ap Uri q ∙ e)) in
      rw (t, s) (class_some k (i + 1) n (omega arith) (omega arith) c (omega arith) e))

  pub class_uri : class_of ca a u < 16 → Uri (class_of ca a u) ≡ u
  unfolding class_of
  class_uri h = class_from_lem 16 0 h

  pub uri_class : (n : ℕ) → n < 16 → n < a.count → Uri n ≡ u → class_of ca a u < 16
  unfolding class_of
  uri_class n h g e = class_some 16 0 n (omega arith) (omega arith) g (omega arith) e

pub classes_at : (ca : List ℕ) (a : Row) (c : List ℕ) (own : Row) (n : ℕ) → n < 16 → get_or (classes_of ca a c own) n 0 ≡ class_of ca a (uri_of c (get_or own.entries n none))
unfolding classes_of class_at
classes_at ca a c own n h = sets_at (class_at ca a c own) 16 (replicate 16 16) 0 n (omega arith) (omega arith) (omega arith)

-- a key
module _ (class first : ℕ) where
  pub key_is : class < 16 → first ≤ 65535 → key_by class first ≡ first * 16 + class
  unfolding key_by
  key_is h g = rw (lt-ltb class 16 h, le-ltb 65535 first g)

  pub key_some : (key_by class first ≡ no_key → ⊥) → (class < 16) × (first ≤ 65535)
  unfolding key_by
  key_some d =
      by (ltb class 16)
      (λ e. by (ltb 65535 first) (λ f. absurd (d (rw (e, f)))) (λ f. (ltb-true class 16 e, ltb-false 65535 first f)))
      (λ e. absurd (d (rw e)))

-- a side's row as it was lent, and what its source numbers lead to
module _ (ca : List ℕ) (a : Row) (c : List ℕ) (xs : List Line) (m : List Source) (few : length m ≤ 16) (held : Held c xs m) where
  abbrev Classes : List ℕ
  Classes = classes_of ca a c (row_of m)

  abbrev Class : ℕ → ℕ
  Class s = class_by (row_of m) Classes s

  abbrev Entry : ℕ → List ℕ
  Entry n = uri_of c (get_or (row_of m).entries n none)

  -- in a row that is lent, a class is that of the first entry
  class_in : (s n : ℕ) → first_in (row_of m).entries 0 (length m) s ≡ Some n → n < 16 → Class s ≡ class_of ca a (Entry n)
  unfolding class_by row_of
  class_in s n e h =
      rw (row_count m, least_is (length m) few, e, lt-ltb n 16 h) (classes_at ca a c (row_of m) n h)

  class_none : (s : ℕ) → first_in (row_of m).entries 0 (length m) s ≡ None → Class s ≡ 16
  unfolding class_by
  class_none s e = rw (row_count m, least_is (length m) few, e)

  pub record Classed (s : ℕ) : Type 0 where
    pub place : ℕ
    pub below : place < length m
    pub leads : Leads xs s (Entry place)
    pub class : Class s ≡ class_of ca a (Entry place)

  classed_by : (s : ℕ) → Class s < 16 → (f : Option ℕ) → first_in (row_of m).entries 0 (length m) s ≡ f → Classed s
  classed_by s h (Some n) e =
      let l = found_leads c (row_of m).entries s 0 n held (row_entries m few) e in
      record { place = n; below = omega (arith, l.below); leads = l.leads; class = class_in s n e (omega (arith, l.below)) }
  classed_by s h None e = absurd (omega (arith, h, class_none s e))

  -- a source number with a class leads to a URI of that class
  pub class_leads : (s : ℕ) → Class s < 16 → Classed s
  class_leads s h = classed_by s h (first_in (row_of m).entries 0 (length m) s) refl

  pub leads_class : (s : ℕ) (uri : List ℕ) → Leads xs s uri → (n : ℕ) × (n < length m) × (Entry n ≡ uri) × (Class s ≡ class_of ca a uri)
  leads_class s uri l =
      let f = leads_found c (row_of m).entries s 0 uri held (row_entries m few) l in
      (f.place, omega (arith, f.below), f.has, class_in s f.place f.is (omega (arith, f.below)) ∙ ap (class_of ca a) f.has)

-- both sides
module _ (ca cb : List ℕ) (xs ys : List Line) (m n : List Source) (few : length m ≤ 16) (few_too : length n ≤ 16) (held : Held ca xs m) (held_too : Held cb ys n) where
  abbrev pub KeyA : ℕ → ℕ → ℕ
  KeyA p s = key_by (class_by (row_of m) (classes_of ca (row_of m) ca (row_of m)) s) p

  abbrev pub KeyB : ℕ → ℕ → ℕ
  KeyB q t = key_by (class_by (row_of n) (classes_of ca (row_of m) cb (row_of n)) t) q

  pub record Global (p s q t : ℕ) : Type 0 where
    pub first : p ≡ q
    pub uri : List ℕ
    pub there : Leads xs s uri
    pub too : Leads ys t uri

  pub keys_global : (p s q t : ℕ) → (KeyA p s ≡ no_key → ⊥) → KeyB q t ≡ KeyA p s → Global p s q t
  keys_global p s q t d e =
      let a = key_some (class_by (row_of m) (classes_of ca (row_of m) ca (row_of m)) s) p d in
      let b = key_some (class_by (row_of n) (classes_of ca (row_of m) cb (row_of n)) t) q (λ z. d (sym e ∙ z)) in
      let ka = key_is (class_by (row_of m) (classes_of ca (row_of m) ca (row_of m)) s) p a.0 a.1 in
      let kb = key_is (class_by (row_of n) (classes_of ca (row_of m) cb (row_of n)) t) q b.0 b.1 in
      let c : class_by (row_of m) (classes_of ca (row_of m) ca (row_of m)) s ≡ class_by (row_of n) (classes_of ca (row_of m) cb (row_of n)) t = omega (arith, ka, kb, e, a.0, b.0) in
      let f : p ≡ q = omega (arith, ka, kb, e, a.0, b.0) in
      let x = class_leads ca (row_of m) ca xs m few held s a.0 in
      let y = class_leads ca (row_of m) cb ys n few_too held_too t b.0 in
      let u : List ℕ = uri_of ca (get_or (row_of m).entries x.place none) in
      let v : List ℕ = uri_of cb (get_or (row_of n).entries y.place none) in
      let r : class_of ca (row_of m) u ≡ class_of ca (row_of m) v = sym x.class ∙ c ∙ y.class in
      let g : uri_of ca (get_or (row_of m).entries (class_of ca (row_of m) u) none) ≡ u = class_uri ca (row_of m) u (omega (arith, a.0, x.class)) in
      let h : uri_of ca (get_or (row_of m).entries (class_of ca (row_of m) v) none) ≡ v = class_uri ca (row_of m) v (omega (arith, b.0, y.class)) in
      let w : v ≡ u = sym h ∙ ap (λ (k : ℕ). uri_of ca (get_or (row_of m).entries k none)) (sym r) ∙ g in
      record { first = f; uri = u; there = x.leads; too = subst (Leads ys t) w y.leads }

  pub global_keys : (p s t : ℕ) → p ≤ 65535 → (uri : List ℕ) → Leads xs s uri → Leads ys t uri → (KeyA p s ≡ no_key → ⊥) × (KeyB p t ≡ KeyA p s)
  global_keys p s t l uri f g =
      let x = leads_class ca (row_of m) ca xs m few held s uri f in
      let y = leads_class ca (row_of m) cb ys n few_too held_too t uri g in
      let low : class_of ca (row_of m) uri < 16 = uri_class ca (row_of m) uri x.0 (omega (arith, x.1)) (omega (arith, x.1, row_count m)) x.2 in
      let ka = key_is (class_by (row_of m) (classes_of ca (row_of m) ca (row_of m)) s) p (omega (arith, low, x.3)) l in
      (λ z. omega (arith, z, ka, low, x.3, l), ap (λ (k : ℕ). key_by k p) (y.3 ∙ sym x.3))
