-- A card taken in and given out keeps what its values say, and taken in again it is the same octets. Assumes nothing.
use mathlib.Core.Path.{◌≡◌, refl, sym, ap, subst, ◌∙◌}
use mathlib.Core.Bool.{Bool, true, false, ◌||◌, false≢true, true≢false}
use mathlib.Core.List.{List, [], ◌∷◌, ◌++◌, append-nil, append_assoc}
use Prim.Native.Nat.{ℕ, zero, suc, ◌-◌}
use native.Mathlib.Omega.{arith}
use lib.Dec.{eqb}
use lib.ListN.{length, replicate, length-append, length-replicate}
use borrow.Author.Tests.{eqb-true, eqb-false}
use Rattle.octets.specs.Ascii.{octets}
use Rattle.octets.specs.Pick.{pick}
use Rattle.octets.specs.Cases.{lower, same}
use Rattle.text_marks.specs.Marks.{special, marked}
use Rattle.text_escaping.specs.Escaped.{letter, in_escape, escaped}
use Rattle.text_laws.specs.Stands.{Escape}
use Rattle.text_laws.specs.Stands as stands
use Rattle.text_laws.proofs.BackLaws.{escaped_stands}
use Rattle.line_parser.specs.Grammar.{Value, Param, Each, led}
use Rattle.line_parameters.specs.First.{value_octets}
use Rattle.version3_laws.specs.Says.{Member, Joined, one, more, Listed, Alone, alone, worded, Says, text, name, address, organization, other, between, text_in, component, written, wanted, blank, padded}
use Rattle.version3_laws.specs.Says as says
use Rattle.version3_laws.specs.Params.{Named, Nowhere, Some, here, there, Pref, values_of, Without, Pruned, PrunedAll, pref_one, type_pref, ParamsIn, ParamsOut}
use Rattle.version3_laws.specs.Params as params
use Rattle.version3_laws.specs.Lines.{ValueIn, ValueOut}
use Rattle.version3_laws.specs.Lines as lines
use Rattle.version3_laws.specs.Keeps.{SameValue}
use Rattle.version3_laws.specs.Keeps as keeps
use Rattle.version3_laws.proofs.PlaceLaws.{each_append}
use Rattle.version3_laws.proofs.Small.{worded_name, worded_address, worded_organization}

-- ---- a value that is written says what it was written for

member_by : (x : ℕ) {w t : List ℕ} → Member w t → Member (in_escape x ++ w) (x ∷ t)
unfolding in_escape marked special letter
member_by x {w} {t} m = go (eqb x 92) (eqb x 44) (eqb x 59) (eqb x 10) refl refl refl refl
  where
    is : (k y : ℕ) → x ≡ k → Escape y k → (l : List ℕ) → l ≡ 92 ∷ y ∷ w → Member l (x ∷ t)
    is k y q e l f = subst (λ (u : List ℕ). Member u (x ∷ t)) (sym f) (subst (λ (n : ℕ). Member (92 ∷ y ∷ w) (n ∷ t)) (sym q) (says.Member.escape e m))

    go : (a b c d : Bool) → eqb x 92 ≡ a → eqb x 44 ≡ b → eqb x 59 ≡ c → eqb x 10 ≡ d
        → Member (pick ((a || (b || c)) || d) (92 ∷ pick d 110 x ∷ []) (x ∷ []) ++ w) (x ∷ t)
    go true b c true p q r s = absurd (omega (arith, eqb-true x 92 p, eqb-true x 10 s))
    go true b c false p q r s = let e = eqb-true x 92 p in is 92 92 e stands.backslash (92 ∷ x ∷ w) (ap (λ (n : ℕ). 92 ∷ n ∷ w) e)
    go false true c true p q r s = absurd (omega (arith, eqb-true x 44 q, eqb-true x 10 s))
    go false true c false p q r s = let e = eqb-true x 44 q in is 44 44 e stands.comma (92 ∷ x ∷ w) (ap (λ (n : ℕ). 92 ∷ n ∷ w) e)
    go false false true true p q r s = absurd (omega (arith, eqb-true x 59 r, eqb-true x 10 s))
    go false false true false p q r s = let e = eqb-true x 59 r in is 59 59 e stands.semicolon (92 ∷ x ∷ w) (ap (λ (n : ℕ). 92 ∷ n ∷ w) e)
    go false false false true p q r s = is 10 110 (eqb-true x 10 s) stands.small_n (92 ∷ 110 ∷ w) refl
    go false false false false p q r s = says.Member.itself (eqb-false x 44 q) (eqb-false x 59 r) (eqb-false x 92 p) m

member_escaped : (t : List ℕ) → Member (escaped t) t
unfolding escaped
member_escaped [] = says.Member.none
member_escaped (x ∷ t) = member_by x (member_escaped t)

-- parts with a mark between them are joined by it
joined_between : {A : Type 0} {mark : ℕ} {R : List ℕ → A → Type 0} (f : A → List ℕ) (P : A → Type 0) → ((a : A) → P a → R (f a) a) → (a : A) (xs : List A) → Each P (a ∷ xs)
    → Joined mark R (between mark f (a ∷ xs)) (a ∷ xs)
unfolding led Each
joined_between {mark = mark} {R = R} f P g a [] h = subst (λ (l : List ℕ). Joined mark R l (a ∷ [])) (sym (append-nil (f a))) (one (g a h.0))
joined_between f P g a (b ∷ xs) h = more (g a h.0) (joined_between f P g b xs h.1)

-- one text or more
abbrev Texts : List (List ℕ) → Type 0
Texts ts = (t : List ℕ) × (us : List (List ℕ)) × (ts ≡ t ∷ us)

abbrev OneText : List (List ℕ) → Type 0
OneText ts = (t : List ℕ) × (ts ≡ t ∷ [])

joined_texts : {v : List ℕ} {ts : List (List ℕ)} → Listed v ts → Texts ts
joined_texts (one {a = a} r) = (a, [], refl)
joined_texts (more {a = a} {xs = xs} r j) = (a, xs, refl)

all_texts : {v : List ℕ} {cs : List (List (List ℕ))} → Joined 59 Listed v cs → Each Texts cs
unfolding Each
all_texts (one r) = (joined_texts r, tt)
all_texts (more r j) = (joined_texts r, all_texts j)

one_text_lem : {v : List ℕ} {ts : List (List ℕ)} → Alone v ts → OneText ts
one_text_lem (alone {t = t} m) = (t, refl)

all_one : {v : List ℕ} {cs : List (List (List ℕ))} → Joined 59 Alone v cs → Each OneText cs
unfolding Each
all_one (one r) = (one_text_lem r, tt)
all_one (more r j) = (one_text_lem r, all_one j)

anything : List ℕ → Type 0
anything t = Unit {0}

each_anything : (ts : List (List ℕ)) → Each anything ts
unfolding Each anything
each_anything [] = tt
each_anything (t ∷ ts) = (tt, each_anything ts)

text_member : (k : ℕ) → worded k ≡ true → (t : List ℕ) → Member (text_in k t) t
unfolding text_in
text_member k e t = rw e (member_escaped t)

listed_component : (k : ℕ) → worded k ≡ true → (ts : List (List ℕ)) → Texts ts → Listed (component k ts) ts
unfolding component
listed_component k e ts (t, us, q) =
    subst (λ (l : List (List ℕ)). Listed (between 44 (text_in k) l) l) (sym q) (joined_between (text_in k) anything (λ u h. text_member k e u) t us (each_anything (t ∷ us)))

alone_component : (k : ℕ) → worded k ≡ true → (ts : List (List ℕ)) → OneText ts → Alone (component k ts) ts
unfolding component led
alone_component k e ts (t, q) =
    subst (λ (l : List (List ℕ)). Alone (between 44 (text_in k) l) l) (sym q) (subst (λ (l : List ℕ). Alone l (t ∷ [])) (sym (append-nil (text_in k t))) (alone (text_member k e t)))

each_blank : (n : ℕ) → Each Texts (replicate n blank)
unfolding Each
each_blank zero = tt
each_blank (suc n) = (([], [], refl), each_blank n)

some_parts : {R : List ℕ → List (List ℕ) → Type 0} {v : List ℕ} {cs : List (List (List ℕ))} → Joined 59 R v cs → (c : List (List ℕ)) × (ds : List (List (List ℕ))) × (cs ≡ c ∷ ds)
some_parts (one {a = a} r) = (a, [], refl)
some_parts (more {a = a} {xs = xs} r j) = (a, xs, refl)

padded_none : (k : ℕ) (cs : List (List (List ℕ))) → wanted k ≡ 0 → padded k cs ≡ cs
unfolding padded
padded_none k cs e = let z : wanted k - length cs ≡ 0 = omega (arith, e) in rw z (append-nil cs)

wanted_none : (wanted 1 ≡ 0) × (wanted 6 ≡ 0)
unfolding wanted
wanted_none = (refl, refl)

components_again : (k : ℕ) → worded k ≡ true → {v : List ℕ} {cs : List (List (List ℕ))} → Joined 59 Listed v cs → Joined 59 Listed (written k (padded k cs)) (padded k cs)
unfolding written padded
components_again k e {v} {cs} j =
    let c = some_parts j in
    let n = wanted k - length cs in
    let h = each_append Texts cs (replicate n blank) (all_texts j) (each_blank n) in
    let q : cs ++ replicate n blank ≡ c.0 ∷ (c.1 ++ replicate n blank) = ap (λ (l : List (List (List ℕ))). l ++ replicate n blank) c.2 in
    subst (λ (l : List (List (List ℕ))). Joined 59 Listed (between 59 (component k) l) l) (sym q)
    (joined_between (component k) Texts (listed_component k e) c.0 (c.1 ++ replicate n blank) (subst (Each Texts) q h))

units_again : {v : List ℕ} {cs : List (List (List ℕ))} → Joined 59 Alone v cs → Joined 59 Alone (written 6 cs) cs
unfolding written
units_again {v} {cs} j =
    let c = some_parts j in
    subst (λ (l : List (List (List ℕ))). Joined 59 Alone (between 59 (component 6) l) l) (sym c.2)
    (joined_between (component 6) OneText (alone_component 6 worded_organization) c.0 c.1 (subst (Each OneText) c.2 (all_one j)))

text_written : (t : List ℕ) → written 1 ((t ∷ []) ∷ []) ≡ escaped t
unfolding written component text_in worded led
text_written t = append-nil (escaped t ++ []) ∙ append-nil (escaped t)

plain_written : (k : ℕ) → worded k ≡ false → (v : List ℕ) → written k ((v ∷ []) ∷ []) ≡ v
unfolding written component text_in led
plain_written k e v = rw e (append-nil (v ++ []) ∙ append-nil v)

plain_wanted : (k : ℕ) → worded k ≡ false → wanted k ≡ 0
unfolding worded wanted
plain_wanted k e = go (eqb k 1) (eqb k 4) (eqb k 5) (eqb k 6) e
  where
    go : (a b c d : Bool) → (a || (b || (c || d))) ≡ false → ◌≡◌ {A = ℕ} (pick b 5 (pick c 7 0)) 0
    go false false false false e = refl
    go true b c d e = absurd (true≢false e)
    go false true c d e = absurd (true≢false e)
    go false false true d e = absurd (true≢false e)
    go false false false true e = absurd (true≢false e)

-- written with its components filled up, it says these
pub says_again : {k : ℕ} {v : List ℕ} {cs : List (List (List ℕ))} → Says k v cs → Says k (written k (padded k cs)) (padded k cs)
says_again (text {t = t} h) =
    subst (λ (ds : List (List (List ℕ))). Says 1 (written 1 ds) ds) (sym (padded_none 1 ((t ∷ []) ∷ []) wanted_none.0))
    (subst (λ (l : List ℕ). Says 1 l ((t ∷ []) ∷ [])) (sym (text_written t)) (text (escaped_stands t)))
says_again (name j) = name (components_again 4 worded_name j)
says_again (address j) = address (components_again 5 worded_address j)
says_again (organization {cs = cs} j) =
    subst (λ (ds : List (List (List ℕ))). Says 6 (written 6 ds) ds) (sym (padded_none 6 cs wanted_none.1)) (organization (units_again j))
says_again (other {k = k} {v = v} e) =
    subst (λ (ds : List (List (List ℕ))). Says k (written k ds) ds) (sym (padded_none k ((v ∷ []) ∷ []) (plain_wanted k e)))
    (subst (λ (l : List ℕ). Says k l ((v ∷ []) ∷ [])) (sym (plain_written k e v)) (other e))

padded_twice : (k : ℕ) (cs : List (List (List ℕ))) → padded k (padded k cs) ≡ padded k cs
unfolding padded
padded_twice k cs =
    let n = wanted k - length cs in
    let z : wanted k - length (cs ++ replicate n blank) ≡ 0 = omega (arith, length-append cs (replicate n blank), length-replicate n blank) in
    rw z (append-nil (cs ++ replicate n blank))

-- a value that was taken in, given out and taken in again
pub record ValueBack (row k : ℕ) (v w : List ℕ) : Type 0 where
  pub out : List ℕ
  pub given : ValueOut row k w out
  pub again : ValueIn row k out w
  pub kept : SameValue row k v out

pub value_back : {row k : ℕ} {v w : List ℕ} → ValueIn row k v w → ValueBack row k v w
value_back (lines.ValueIn.place {v = v} o m) = record { out = v; given = lines.ValueOut.place m o; again = lines.ValueIn.place o m; kept = keeps.place }
value_back (lines.ValueIn.said {row = row} {k = k} {v = v} {cs = cs} n s) =
    let t = says_again s in
    record {
      out = written k (padded k cs);
      given = lines.ValueOut.said n t;
      again = subst (λ (ds : List (List (List ℕ))). ValueIn row k (written k (padded k cs)) (written k ds)) (padded_twice k cs) (lines.ValueIn.said n t);
      kept = keeps.said n s t;
    }

-- ---- parameters

without_again : {vs ws : List Value} → Without vs ws → Without ws ws
without_again params.Without.none = params.Without.none
without_again (params.Without.goes p w) = without_again w
without_again (params.Without.stays n w) = params.Without.stays n (without_again w)

pruned_again : {p : Param} {qs : List Param} → Pruned p qs → PrunedAll qs qs
pruned_again (params.Pruned.other n) = params.PrunedAll.more (params.Pruned.other n) params.PrunedAll.none
pruned_again (params.Pruned.left t w) = params.PrunedAll.more (params.Pruned.left t (without_again w)) params.PrunedAll.none
pruned_again (params.Pruned.emptied t w) = params.PrunedAll.none

pruned_join : {ps qs rs ss : List Param} → PrunedAll ps qs → PrunedAll rs ss → PrunedAll (ps ++ rs) (qs ++ ss)
pruned_join params.PrunedAll.none g = g
pruned_join {rs = rs} {ss = ss} (params.PrunedAll.more {p = p} {ps = ps} {qs = qs} {rs = us} h f) g =
    subst (PrunedAll (p ∷ (ps ++ rs))) (sym (append_assoc qs us ss)) (params.PrunedAll.more h (pruned_join f g))

all_again : {ps qs : List Param} → PrunedAll ps qs → PrunedAll qs qs
all_again params.PrunedAll.none = params.PrunedAll.none
all_again (params.PrunedAll.more h f) = pruned_join (pruned_again h) (all_again f)

-- what is left of parameters without a PREF has none
pruned_nowhere : {p : Param} {qs : List Param} → Pruned p qs → (Named (octets "PREF") p → ⊥) → Nowhere (octets "PREF") qs
unfolding Each
pruned_nowhere (params.Pruned.other n) h = (h, tt)
pruned_nowhere (params.Pruned.left t w) h = (h, tt)
pruned_nowhere (params.Pruned.emptied t w) h = tt

all_nowhere : {ps qs : List Param} → PrunedAll ps qs → Nowhere (octets "PREF") ps → Nowhere (octets "PREF") qs
unfolding Each
all_nowhere params.PrunedAll.none h = tt
all_nowhere (params.PrunedAll.more {qs = qs} {rs = rs} g f) h =
    each_append (λ (p : Param). Named (octets "PREF") p → ⊥) qs rs (pruned_nowhere g h.0) (all_nowhere f h.1)

marks : (Named (octets "PREF") pref_one) × (Named (octets "TYPE") type_pref) × (Pref type_pref.first) × (Named (octets "PREF") type_pref → ⊥) × (value_octets pref_one.first ≡ octets "1")
unfolding octets same lower value_octets
marks = (refl, refl, refl, (λ e. false≢true e), refl)

some_last : {A : Type 0} (P : A → Type 0) (xs : List A) (a : A) → P a → Some P (xs ++ (a ∷ []))
some_last P [] a h = here h
some_last P (x ∷ xs) a h = there (some_last P xs a h)

pub record ParamsBack (qs : List Param) : Type 0 where
  pub out : List Param
  pub given : ParamsOut qs out
  pub again : ParamsIn out qs
  pub nowhere : Nowhere (octets "PREF") out

pub params_back : {ps qs : List Param} → ParamsIn ps qs → Nowhere (octets "PREF") ps → ParamsBack qs
unfolding Each
params_back (params.ParamsIn.plainly {ps = ps} n) h = record { out = ps; given = params.ParamsOut.plainly h; again = params.ParamsIn.plainly n; nowhere = h }
params_back (params.ParamsIn.preferred {qs = us} p g) h =
    let a = all_nowhere g h in
    let m = marks in
    let e = append-nil us in
    let gone : PrunedAll (type_pref ∷ []) [] = params.PrunedAll.more (params.Pruned.emptied m.1 (params.Without.goes m.2 params.Without.none)) params.PrunedAll.none in
    let all : PrunedAll (us ++ (type_pref ∷ [])) us = subst (PrunedAll (us ++ (type_pref ∷ []))) e (pruned_join (all_again g) gone) in
    record {
      out = us ++ (type_pref ∷ []);
      given = subst (λ (l : List Param). ParamsOut (us ++ (pref_one ∷ [])) (l ++ (type_pref ∷ []))) e
          (params.ParamsOut.preferred {p = pref_one} us [] (record { name = m.0; value = m.4; single = refl }) a tt);
      again = params.ParamsIn.preferred (some_last (λ (q : Param). Named (octets "TYPE") q × Some Pref (values_of q)) us type_pref (m.1, here m.2)) all;
      nowhere = each_append (λ (q : Param). Named (octets "PREF") q → ⊥) us (type_pref ∷ []) a (m.3, tt);
    }
