-- A line has the kind that its row and its parameters give it in plain words, and no other. Assumes nothing.
use mathlib.Core.Path.{◌≡◌, refl, sym, ap, subst, ◌∙◌}
use mathlib.Core.Bool.{true, false, ◌||◌, false≢true}
use mathlib.Core.List.{List}
use mathlib.Core.Logic.{inl, inr, ⊎_elim, ◌↔◌}
use mathlib.Core.Option.{Option, none, some}
use Prim.Native.Nat.{ℕ, ◌<◌}
use native.Mathlib.Omega.{arith}
use lib.Dec.{eqb}
use borrow.Author.Tests.{eq-eqb, eqb-true}
use Rattle.octets.specs.Pick.{pick}
use Rattle.octets.specs.Cases.{lower, same}
use Rattle.octets.specs.Ascii.{octets}
use Rattle.property_table.specs.Rows.{rows, newer, all_rows, row_at, kind_at, framing, takes_value, rule_at, kind_named, says, value_kind, date_kind, zone_kind, line_kind}
use Rattle.octets.proofs.Bools.{by, or_some}
use Rattle.octets.proofs.Upto.{upto, alike}
use Rattle.value_laws.proofs.RowLaws.{same_both}
use Rattle.value_laws.specs.LineKinds.{Is, IsOther, Birthday, Valued, KindOf, date_text, date_foreign, date, offset, text, uri, other, unnamed, fixed}

-- the rule of a row, by what the row is
rule_by : (n : ℕ) → n < 44 → rule_at n ≡ pick (eqb n 10 || eqb n 11) 2 (pick (eqb n 18) 3 (pick (takes_value n) 1 0))
unfolding upto rule_at takes_value framing kind_at row_at rows newer all_rows
rule_by n h = alike rule_at (λ j. pick (eqb j 10 || eqb j 11) 2 (pick (eqb j 18) 3 (pick (takes_value j) 1 0))) 44 refl n h

birthday_kind : takes_value 10 ≡ false
unfolding takes_value framing kind_at row_at rows newer all_rows
birthday_kind = refl

anniversary_kind : takes_value 11 ≡ false
unfolding takes_value framing kind_at row_at rows newer all_rows
anniversary_kind = refl

zone_valued : takes_value 18 ≡ true
unfolding takes_value framing kind_at row_at rows newer all_rows
zone_valued = refl

zone_own : kind_at 18 ≡ 1
unfolding kind_at row_at rows newer all_rows
zone_own = refl

is_birthday : (n : ℕ) → Birthday n → (eqb n 10 || eqb n 11) ≡ true
is_birthday n (inl e) = rw e refl
is_birthday n (inr e) = rw e refl

birthday_is : (n : ℕ) → (eqb n 10 || eqb n 11) ≡ true → Birthday n
birthday_is n e = ⊎_elim (λ h. inl (eqb-true n 10 h)) (λ h. inr (eqb-true n 11 h)) (or_some (eqb n 10) (eqb n 11) e)

-- the kind by the rule
module _ (n : ℕ) (value calscale : Option (List ℕ)) (low : n < 44) where
  of_date : Birthday n → line_kind n value calscale ≡ date_kind value calscale
  unfolding line_kind
  of_date b = rw (rule_by n low, is_birthday n b)

  of_zone : n ≡ 18 → line_kind n value calscale ≡ zone_kind value
  unfolding line_kind
  of_zone e = rw (rule_by n low, e)

  of_value : (eqb n 10 || eqb n 11) ≡ false → eqb n 18 ≡ false → takes_value n ≡ true → line_kind n value calscale ≡ value_kind (kind_at n) value
  unfolding line_kind
  of_value d z t = rw (rule_by n low, d, z, t)

  of_row : (eqb n 10 || eqb n 11) ≡ false → eqb n 18 ≡ false → takes_value n ≡ false → line_kind n value calscale ≡ kind_at n
  unfolding line_kind
  of_row d z t = rw (rule_by n low, d, z, t)

-- what a parameter says
says_is : (t : List ℕ) (o : Option (List ℕ)) → says t false o ≡ true → Is t o
unfolding says
says_is t none e = absurd (false≢true e)
says_is t (some v) e = (v, refl, e)

is_says : (t : List ℕ) (o : Option (List ℕ)) → Is t o → says t false o ≡ true
unfolding says
is_says t o (v, e, f) = rw e f

not_says : (t : List ℕ) (o : Option (List ℕ)) → (Is t o → ⊥) → says t false o ≡ false
not_says t o f = by (says t false o) (λ e. absurd (f (says_is t o e))) (λ e. e)

says_not : (t : List ℕ) (o : Option (List ℕ)) → says t false o ≡ false → Is t o → ⊥
says_not t o e i = false≢true (sym e ∙ is_says t o i)

foreign_is : (t : List ℕ) (o : Option (List ℕ)) → says t true o ≡ false → IsOther t o
unfolding says
foreign_is t none e = absurd (false≢true (sym e))
foreign_is t (some v) e = (v, refl, e)

is_foreign : (t : List ℕ) (o : Option (List ℕ)) → IsOther t o → says t true o ≡ false
unfolding says
is_foreign t o (v, e, f) = rw e f

not_foreign : (t : List ℕ) (o : Option (List ℕ)) → (IsOther t o → ⊥) → says t true o ≡ true
not_foreign t o f = by (says t true o) (λ e. e) (λ e. absurd (f (foreign_is t o e)))

foreign_not : (t : List ℕ) (o : Option (List ℕ)) → says t true o ≡ true → IsOther t o → ⊥
foreign_not t o e i = false≢true (sym (is_foreign t o i) ∙ e)

-- a value is one text at most
one_text_lem : (o : Option (List ℕ)) (s t : List ℕ) → same s t ≡ false → Is s o → Is t o → ⊥
one_text_lem o s t d (v, e, f) (w, g, h) =
    let k : w ≡ v = cc in
    false≢true (sym d ∙ same_both v s t f (subst (λ (u : List ℕ). same u t ≡ true) k h))

text_no_offset : same (octets "text") (octets "utc-offset") ≡ false
unfolding same octets lower
text_no_offset = refl

uri_no_offset : same (octets "uri") (octets "utc-offset") ≡ false
unfolding same octets lower
uri_no_offset = refl

text_no_uri : same (octets "text") (octets "uri") ≡ false
unfolding same octets lower
text_no_uri = refl

-- no row whose kind VALUE sets is a birthday's
valued_no_date : (n : ℕ) → Valued n → (eqb n 10 || eqb n 11) ≡ false
valued_no_date n t = by (eqb n 10 || eqb n 11) (λ e. absurd (clash (birthday_is n e))) (λ e. e)
  where
    clash : Birthday n → ⊥
    clash (inl e) = false≢true (sym birthday_kind ∙ subst (λ (k : ℕ). takes_value k ≡ true) e t)
    clash (inr e) = false≢true (sym anniversary_kind ∙ subst (λ (k : ℕ). takes_value k ≡ true) e t)

module _ (n : ℕ) (value calscale : Option (List ℕ)) (low : n < 44) where
  abbrev NoOffset : Type 0
  NoOffset = n ≡ 18 → Is (octets "utc-offset") value → ⊥

  by_value : Valued n → NoOffset → line_kind n value calscale ≡ value_kind (kind_at n) value
  unfolding zone_kind
  by_value t f = by (eqb n 18) zone (λ z. of_value n value calscale low (valued_no_date n t) z t)
    where
      zone : eqb n 18 ≡ true → line_kind n value calscale ≡ value_kind (kind_at n) value
      zone z =
          let e = eqb-true n 18 z in
          of_zone n value calscale low e ∙ rw (not_says (octets "utc-offset") value (f e)) (ap (λ (k : ℕ). value_kind k value) (sym (ap kind_at e ∙ zone_own)))

  kind_from : {k : ℕ} → KindOf n value calscale k → line_kind n value calscale ≡ k
  unfolding date_kind zone_kind value_kind kind_named
  kind_from (date_text b i) = of_date n value calscale low b ∙ rw (is_says (octets "text") value i)
  kind_from (date_foreign b f i) = of_date n value calscale low b ∙ rw (not_says (octets "text") value f, is_foreign (octets "gregorian") calscale i)
  kind_from (date b f g) = of_date n value calscale low b ∙ rw (not_says (octets "text") value f, not_foreign (octets "gregorian") calscale g)
  kind_from (offset e i) = of_zone n value calscale low e ∙ rw (is_says (octets "utc-offset") value i)
  kind_from (text t i) =
      by_value t (λ e j. one_text_lem value (octets "text") (octets "utc-offset") text_no_offset i j) ∙ rw (i.1, i.2)
  kind_from (uri t i) =
      let no : same i.0 (octets "text") ≡ false =
      by (same i.0 (octets "text")) (λ e. absurd (one_text_lem value (octets "text") (octets "uri") text_no_uri (i.0, i.1, e) i)) (λ e. e) in
      by_value t (λ e j. one_text_lem value (octets "uri") (octets "utc-offset") uri_no_offset i j) ∙ rw (i.1, no, i.2)
  kind_from (other t f a b) =
      let same-value : b.0 ≡ a.0 = cc (a.1, b.1) in
      let no-uri : same a.0 (octets "uri") ≡ false = subst (λ (v : List ℕ). same v (octets "uri") ≡ false) same-value b.2 in
      by_value t f ∙ rw (a.1, a.2, no-uri)
  kind_from (unnamed t e) = by_value t (λ z i. no_some i.0 (sym e ∙ i.1)) ∙ rw e
    where
      no_some : (v : List ℕ) → none ≡ some v → ⊥
      no_some v q = let z : ◌≡◌ {A = ℕ} 0 1 = cc in omega arith
  kind_from (fixed x) =
      of_row n value calscale low (by (eqb n 10 || eqb n 11) (λ e. absurd (x.no_date (birthday_is n e))) (λ e. e))
      (by (eqb n 18) (λ e. absurd (false≢true (sym x.no_value ∙ ap takes_value (eqb-true n 18 e) ∙ zone_valued))) (λ e. e)) x.no_value

valued_to : (n : ℕ) (value calscale : Option (List ℕ)) → Valued n → (n ≡ 18 → Is (octets "utc-offset") value → ⊥)
    → KindOf n value calscale (value_kind (kind_at n) value)
unfolding value_kind kind_named
valued_to n none calscale t f = unnamed t refl
valued_to n (some v) calscale t f =
    by (same v (octets "text")) (λ e. rw e (text t (v, refl, e)))
    (λ e. by (same v (octets "uri")) (λ g. rw (e, g) (uri t (v, refl, g))) (λ g. rw (e, g) (other t f (v, refl, e) (v, refl, g))))

module _ (n : ℕ) (value calscale : Option (List ℕ)) (low : n < 44) where
  date_to : Birthday n → KindOf n value calscale (date_kind value calscale)
  unfolding date_kind
  date_to b =
      by (says (octets "text") false value)
      (λ e. rw e (date_text b (says_is (octets "text") value e)))
      (λ e. by (says (octets "gregorian") true calscale)
      (λ g. rw (e, g) (date b (says_not (octets "text") value e) (foreign_not (octets "gregorian") calscale g)))
      (λ g. rw (e, g) (date_foreign b (says_not (octets "text") value e) (foreign_is (octets "gregorian") calscale g))))

  value_to : Valued n → (n ≡ 18 → Is (octets "utc-offset") value → ⊥) → KindOf n value calscale (line_kind n value calscale)
  value_to t f = rw (by_value n value calscale low t f) (valued_to n value calscale t f)

  zone_to : n ≡ 18 → KindOf n value calscale (line_kind n value calscale)
  zone_to e =
      by (says (octets "utc-offset") false value)
      (λ g. let i = says_is (octets "utc-offset") value g in rw (kind_from n value calscale low (offset e i)) (offset e i))
      (λ g. value_to (ap takes_value e ∙ zone_valued) (λ z. says_not (octets "utc-offset") value g))

  own_kind : KindOf n value calscale (line_kind n value calscale)
  own_kind =
      by (eqb n 10 || eqb n 11)
      (λ d. let b = birthday_is n d in rw (of_date n value calscale low b) (date_to b))
      (λ d. by (eqb n 18) (λ z. zone_to (eqb-true n 18 z))
      (λ z. by (takes_value n) (λ t. value_to t (λ e i. false≢true (sym z ∙ eq-eqb n 18 e)))
      (λ t. rw (of_row n value calscale low d z t) (fixed (record { no_date = λ b. false≢true (sym d ∙ is_birthday n b); no_value = t })))))

  -- a line has the kind k exactly where its row and its parameters give it
  pub kind_law : (k : ℕ) → (line_kind n value calscale ≡ k) ↔ KindOf n value calscale k
  kind_law k = (λ e. subst (KindOf n value calscale) e own_kind, λ h. kind_from n value calscale low h)
