-- The URI that a source number leads to, by a row of a card's own sources. Assumes nothing.
use mathlib.Core.Path.{◌≡◌, refl, sym, ap, subst, ◌∙◌}
use mathlib.Core.Bool.{true, false≢true}
use mathlib.Core.List.{List, [], ◌∷◌, ◌++◌}
use Prim.Native.Nat.{ℕ, zero, suc, ◌+◌, ◌<◌, ◌≤◌}
use native.Mathlib.Omega.{arith}
use lib.Dec.{eqb, ltb}
use lib.ListN.{length, get_or}
use borrow.Author.Tests.{ltb-false, eqb-true, eqb-false, eq-eqb, ne_eqb}
use Rattle.octets.specs.Classes.{digit}
use Rattle.octets.proofs.Bools.{by, clash}
use Rattle.line_parser.specs.Grammar.{Line, Each, Is}
use Rattle.merge_sources.specs.Row.{none, entries_from, row_of, least, first_in}
use Rattle.merge_sources.specs.declared.Source.{Source}
use Rattle.std.specs.Prelude.{Some}
use Rattle.merge_partners.specs.Keys.{uri_of}
use Rattle.merge_words.specs.Pids.{decimal}
use Rattle.merge_words.specs.Sources.{Maps, Leads}
use Rattle.merge_words.specs.Sources.Leads.{found, further}
use Rattle.merge_words.specs.Sides.{Held}
use Rattle.merge_words.specs.Sides.Held.{none as no-entry, passed, entry}

-- digits end at the semicolon
no_digit : (b : ℕ) → b ≡ 59 → digit b ≡ true → ⊥
unfolding digit
no_digit b e d = false≢true (subst (λ (n : ℕ). digit n ≡ true) e d)

split_same : (a b u v : List ℕ) → Each (Is digit) a → Each (Is digit) b → a ++ 59 ∷ u ≡ b ++ 59 ∷ v → (a ≡ b) × (u ≡ v)
unfolding Each
split_same [] [] u v f g e = (refl, cc)
split_same [] (y ∷ b) u v f g e =
    let h : y ≡ 59 = cc in
    absurd (no_digit y h g.0)
split_same (x ∷ a) [] u v f g e =
    let h : x ≡ 59 = cc in
    absurd (no_digit x h f.0)
split_same (x ∷ a) (y ∷ b) u v f g e =
    let h : x ≡ y = cc in
    let t : a ++ 59 ∷ u ≡ b ++ 59 ∷ v = cc in
    let r = split_same a b u v f.1 g.1 t in
    let s : a ≡ b = r.0 in
    (cc, r.1)

pub maps_same : {x : Line} {n m : ℕ} {u v : List ℕ} → Maps x n u → Maps x m v → (n ≡ m) × (u ≡ v)
maps_same {x} {n} {m} {u} {v} p q =
    let r = split_same p.digits q.digits u v p.number.each q.number.each (sym p.value ∙ q.value) in
    let s : p.digits ≡ q.digits = r.0 in
    (p.number.stands ∙ ap (decimal 0) s ∙ sym q.number.stands, r.1)

-- the entries from i on are those of the row
abbrev pub Rowed : List Source → ℕ → List Source → Type 0
Rowed es i m = (k : ℕ) → k < length m → get_or es (i + k) none ≡ get_or m k none

rowed_head : (es : List Source) (i : ℕ) (e : Source) (m : List Source) → Rowed es i (e ∷ m) → get_or es i none ≡ e
rowed_head es i e m r = ap (λ (n : ℕ). get_or es n none) (omega arith) ∙ r 0 (omega arith)

rowed_tail : (es : List Source) (i : ℕ) (e : Source) (m : List Source) → Rowed es i (e ∷ m) → Rowed es (i + 1) m
rowed_tail es i e m r k h = ap (λ (n : ℕ). get_or es n none) (omega arith) ∙ r (suc k) (omega arith)

pub record FoundAt (c : List ℕ) (es : List Source) (i k n : ℕ) (uri : List ℕ) : Type 0 where
  pub place : ℕ
  pub is : first_in es i k n ≡ Some place
  pub from : i ≤ place
  pub below : place < i + k
  pub has : uri_of c (get_or es place none) ≡ uri

module _ (c : List ℕ) (es : List Source) (n : ℕ) where
  pub leads_found : {xs : List Line} {m : List Source} (i : ℕ) (uri : List ℕ) → Held c xs m → Rowed es i m → Leads xs n uri → FoundAt c es i (length m) n uri
  unfolding first_in
  leads_found i uri no-entry r h = elim h [ ]
  leads_found i uri (passed d h) r (found p) = absurd (d p.row)
  leads_found i uri (passed d h) r (further f l) = leads_found i uri h r l
  leads_found i uri (entry {m = m} {e = e} q h) r (found p) =
      let s = maps_same q p in
      let z : get_or es i none ≡ e = rowed_head es i e m r in
      let t : (get_or es i none).number ≡ n = ap (λ (y : Source). y.number) z ∙ s.0 in
      record {
        place = i;
        is = rw (eq-eqb (get_or es i none).number n t);
        from = omega arith;
        below = omega arith;
        has = ap (uri_of c) z ∙ s.1;
      }
  leads_found i uri (entry {x = x} {m = m} {e = e} q h) r (further f l) =
      let z : get_or es i none ≡ e = rowed_head es i e m r in
      let d : (get_or es i none).number ≡ n → ⊥ = λ t. f (uri_of c e) (subst (λ (k : ℕ). Maps x k (uri_of c e)) (sym (ap (λ (y : Source). y.number) z) ∙ t) q) in
      let w = leads_found (i + 1) uri h (rowed_tail es i e m r) l in
      record {
        place = w.place;
        is = rw (ne_eqb (get_or es i none).number n d) w.is;
        from = omega (arith, w.from);
        below = omega (arith, w.below);
        has = w.has;
      }

  pub record LeadsAt (xs : List Line) (i k place : ℕ) : Type 0 where
    pub below : place < i + k
    pub leads : Leads xs n (uri_of c (get_or es place none))

  pub found_leads : {xs : List Line} {m : List Source} (i place : ℕ) → Held c xs m → Rowed es i m → first_in es i (length m) n ≡ Some place → LeadsAt xs i (length m) place
  unfolding first_in
  found_leads i k no-entry r e = clash cc
  found_leads i k (passed d h) r e =
      let w = found_leads i k h r e in
      record { below = w.below; leads = further (λ u p. d p.row) w.leads }
  found_leads i k (entry {x = x} {xs = xs} {m = m} {e = en} q h) r e =
      let z : get_or es i none ≡ en = rowed_head es i en m r in
      by (eqb (get_or es i none).number n)
      (λ t.
      let s : (get_or es i none).number ≡ n = eqb-true (get_or es i none).number n t in
      let a : Some i ≡ Some k = rw t at e in
      let j : i ≡ k = cc in
      let mp : Maps x n (uri_of c en) = subst (λ (y : ℕ). Maps x y (uri_of c en)) (sym (ap (λ (y : Source). y.number) z) ∙ s) q in
      let v : uri_of c en ≡ uri_of c (get_or es k none) = ap (uri_of c) (sym z) ∙ ap (λ (y : ℕ). uri_of c (get_or es y none)) j in
      record { below = omega arith; leads = found (subst (Maps x n) v mp) })
      (λ t.
      let d = eqb-false (get_or es i none).number n t in
      let w = found_leads (i + 1) k h (rowed_tail es i en m r) (rw t at e) in
      record { below = omega (arith, w.below); leads = further (λ u p. d (ap (λ (y : Source). y.number) z ∙ (maps_same q p).0)) w.leads })

-- a row as a value has the first sixteen entries
entries_at : (ys : List Source) (k i n : ℕ) → n < k → get_or (entries_from ys i k) n none ≡ get_or ys (i + n) none
unfolding entries_from
entries_at ys zero i n h = absurd (omega arith)
entries_at ys (suc k) i zero h = ap (λ (j : ℕ). get_or ys j none) (omega arith)
entries_at ys (suc k) i (suc n) h = entries_at ys k (i + 1) n (omega arith) ∙ ap (λ (j : ℕ). get_or ys j none) (omega arith)

pub row_entries : (m : List Source) → length m ≤ 16 → Rowed (row_of m).entries 0 m
unfolding row_of
row_entries m h k l = ap (λ (j : ℕ). get_or (entries_from m 0 16) j none) (omega arith) ∙ entries_at m 16 0 k (omega arith) ∙ ap (λ (j : ℕ). get_or m j none) (omega arith)

pub row_count : (m : List Source) → (row_of m).count ≡ length m
unfolding row_of
row_count m = refl

pub least_is : (n : ℕ) → n ≤ 16 → least n ≡ n
unfolding least
least_is n h = by (ltb n 16) (λ e. rw e) (λ e. rw e (omega (arith, ltb-false n 16 e)))
