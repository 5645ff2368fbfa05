-- A plan passes exactly where its pairs can be entered and cover the demanded ones; none does where these can't be joined; else they alone do. Assumes nothing.
use mathlib.Core.Path.{◌≡◌, refl, sym, ap, subst}
use mathlib.Core.Bool.{true, false≢true}
use mathlib.Core.List.{List}
use mathlib.Core.Logic.{◌⊎◌, inl, inr}
use Prim.Native.Nat.{ℕ, ◌+◌, ◌/◌, ◌<◌, ◌≤◌}
use native.Mathlib.Omega.{arith}
use lib.Dec.{eqb, ltb}
use lib.ListN.{length, get_or, replicate, length-replicate, get_or-replicate, get_or-eq_default}
use borrow.Author.Tests.{ltb-true, ltb-false, eqb-true, eqb-false}
use Rattle.octets.proofs.Bools.{by}
use Rattle.line_parser.specs.Grammar.{Line}
use Rattle.property_table.specs.declared.Edition.TheVariants.{First}
use Rattle.property_table.specs.Rows.{single, row_at}
use Rattle.card_line.specs.Parts.{row_of_line}
use Rattle.merge_sources.specs.Row.{row_of}
use Rattle.merge_sources.specs.declared.Source.{Source}
use Rattle.merge_partners.specs.Pairs.{Pair, pair, Joined, joined, join_all, demanded_pairs, pairs_from}
use Rattle.merge.specs.Plans.{flatten, enter_all, covers_from}
use Rattle.merge.specs.Sides.{Side, marks_of}
use Rattle.merge_words.specs.Lists.{Member, At}
use Rattle.merge_words.specs.Sources.{Over}
use Rattle.merge_laws.specs.Plans.{SameProperty, Demanded, FirstUid, Passes}
use Rattle.merge_laws.specs.Plans.SameProperty.{listed}
use Rattle.merge_laws.specs.Plans.Demanded.{shared, alone}
use Rattle.merge_words.specs.Sides.{Held, SideOf}
use Rattle.merge_words.proofs.Members.{at_below, member_at}
use Rattle.merge_laws.proofs.Lists.{at_some, at_same}
use Rattle.merge_laws.proofs.Partners.{Done}
use Rattle.merge_laws.proofs.Joining.{Sound, joined_all, Apart, Low, apart_joins}
use Rattle.merge_laws.proofs.Walks.{from_member, member_from, from_once, covers_true, covers_all}
use Rattle.merge_laws.proofs.Entering.{Fits, entered_all, enter_each, enter_even}
use Rattle.merge_laws.proofs.Lines.{same_property_lem}
use Rattle.merge_laws.proofs.Demanded.{pairs_demanded, demanded_pairs_lem}

-- no line has a partner
abbrev pub Zeros : List ℕ
Zeros = replicate 4096 0

pub zero_at : (i : ℕ) → get_or Zeros i 0 ≡ 0
zero_at i =
    by (ltb i 4096)
    (λ e. get_or-replicate 4096 i 0 0 (ltb-true i 4096 e))
    (λ e.
    let past : length Zeros ≤ i = omega (arith, length-replicate {A = ℕ} 4096 0, ltb-false i 4096 e) in
    get_or-eq_default Zeros 0 past)

zero_not : {A : Type 0} (i j : ℕ) → get_or Zeros i 0 ≡ j + 1 → A
zero_not i j e = absurd (omega (arith, e, zero_at i))

pub zeros_sound : Sound Zeros Zeros
zeros_sound =
    record {
      size = length-replicate {A = ℕ} 4096 0;
      size_too = length-replicate {A = ℕ} 4096 0;
      two = record { forth = λ i j e. zero_not i j e; back = λ i j e. zero_not i j e };
    }

-- number 0 is not marked *1
other_often : (row : ℕ) → single row ≡ true → row ≡ 0 → ⊥
unfolding single row_at
other_often row s e = false≢true (subst (λ (k : ℕ). single k ≡ true) e s)

-- a demanded pair is of two lines of one property
module _ (xs ys : List Line) where
  pub record Lines (i j : ℕ) : Type 0 where
    pub x : Line
    pub y : Line
    pub at : At xs i x
    pub at_too : At ys j y
    pub property : SameProperty x y

  pub demanded_lines : (i j : ℕ) → Demanded xs ys i j → Lines i j
  demanded_lines i j (shared {x = x} {y = y} h k w sh) = record { x = x; y = y; at = h; at_too = k; property = w }
  demanded_lines i j (alone {x = x} {y = y} h k s e c d) = record { x = x; y = y; at = h; at_too = k; property = listed e (other_often (row_of_line First x) s) }

module _ (X Y : Side) (xs ys : List Line) (sx : SideOf X xs) (sy : SideOf Y ys) (m n : List Source)
    (in_x : Over X.cards xs m → ⊥) (in_y : Over Y.cards ys n → ⊥) (held : Held X.copy xs m) (held_too : Held Y.copy ys n) where
  abbrev All : List Pair
  All = demanded_pairs X.copy X.records X.lines (marks_of X).room ((marks_of X).next / 3) (row_of m) Y.copy Y.records Y.lines (marks_of Y).room ((marks_of Y).next / 3) (row_of n)

  -- the demanded pairs joined, and a plan entered
  abbrev pub Join : Joined
  Join = join_all (joined true Zeros Zeros) All

  abbrev pub Enter : List ℕ → Joined
  Enter plan = enter_all X.copy X.records X.lines Y.copy Y.records Y.lines (joined true Zeros Zeros) plan

  to_words : (q : Pair) → Member q All → Demanded xs ys q.left q.right
  to_words = pairs_demanded X Y xs ys sx sy m n in_x in_y held held_too

  of_words : (i j : ℕ) → Demanded xs ys i j → Member (pair i j) All
  of_words = demanded_pairs_lem X Y xs ys sx sy m n in_x in_y held held_too

  lines_low : (i j : ℕ) → Demanded xs ys i j → (i < 4096) × (j < 4096)
  lines_low i j d =
      let l = demanded_lines xs ys i j d in
      (omega (arith, at_below l.at, sx.few), omega (arith, at_below l.at_too, sy.few))

  module _ (ok : Join.ok ≡ true) where
    done : Done All Zeros Join
    done = joined_all All Zeros Zeros zeros_sound ok

    pub partner_demanded : (i j : ℕ) → get_or Join.first i 0 ≡ j + 1 → Demanded xs ys i j
    partner_demanded i j e = go (done.only i j e)
      where
        go : Member (pair i j) All ⊎ (get_or Zeros i 0 ≡ j + 1) → Demanded xs ys i j
        go (inl h) = to_words (pair i j) h
        go (inr h) = zero_not i j h

    pub demanded_partner : (i j : ℕ) → Demanded xs ys i j → get_or Join.first i 0 ≡ j + 1
    demanded_partner i j d = done.took i j (of_words i j d)

    abbrev pub Plan : List Pair
    Plan = pairs_from Join.first 0 4096

    pub plan_demanded : (q : Pair) → Member q Plan → Demanded xs ys q.left q.right
    plan_demanded q h = partner_demanded q.left q.right (from_member Join.first 4096 0 q h).has

    pub demanded_plan : (i j : ℕ) → Demanded xs ys i j → Member (pair i j) Plan
    demanded_plan i j d = member_from Join.first 4096 0 (pair i j) (record { from = omega arith; below = omega (arith, lines_low i j d); has = demanded_partner i j d })

  -- where a plan passes, the demanded pairs can be joined,
  module _ (plan : List ℕ) (pass : Passes xs ys plan) where
    apart : Apart All
    apart q r h k =
        let a = member_at (pass.demanded q.left q.right (to_words q h)) in
        let b = member_at (pass.demanded r.left r.right (to_words r k)) in
        by (eqb a.0 b.0)
        (λ e.
        let s : q ≡ r = at_same a.1 (subst (λ (i : ℕ). At pass.pairs i r) (sym (eqb-true a.0 b.0 e)) b.1) in
        (λ z. ap (λ (p : Pair). p.right) s, λ z. ap (λ (p : Pair). p.left) s))
        (λ e.
        let o = pass.once a.0 b.0 q r a.1 b.1 (eqb-false a.0 b.0 e) in
        (λ z. absurd (o.0 z), λ z. absurd (o.1 z)))

    low : Low All
    low q h = lines_low q.left q.right (to_words q h)

    pub passes_joined : Join.ok ≡ true
    passes_joined = apart_joins All apart low All (λ q h. h) Zeros Zeros (record { sound = zeros_sound; of = λ i j e. zero_not i j e })

    fits : (q : Pair) → Member q pass.pairs → Fits X.copy X.records X.lines Y.copy Y.records Y.lines q
    fits q h =
        let l = pass.lines q h in
        let a = at_some xs q.left l.0 in
        let b = at_some ys q.right l.1 in
        record {
          left = omega (arith, l.0, sx.count);
          right = omega (arith, l.1, sy.count);
          few = omega (arith, l.0, sx.few);
          few_too = omega (arith, l.1, sy.few);
          property = (same_property_lem X Y xs ys sx sy q.left q.right a.0 b.0 a.1 b.1).1 (pass.property q a.0 b.0 h a.1 b.1);
        }

    entered_pairs : (Enter (flatten pass.pairs)).ok ≡ true
    entered_pairs =
        enter_each X.copy X.records X.lines Y.copy Y.records Y.lines pass.pairs Zeros Zeros zeros_sound fits pass.once (λ r h. (zero_at r.left, zero_at r.right))

    -- and it is entered
    pub passes_entered : (Enter plan).ok ≡ true
    passes_entered = subst (λ (l : List ℕ). (Enter l).ok ≡ true) (sym pass.flat) entered_pairs

    -- and covers them
    pub passes_covers : covers_from Join.first (Enter plan).first 0 4096 ≡ true
    passes_covers =
        let en = entered_all X.copy X.records X.lines Y.copy Y.records Y.lines pass.pairs Zeros Zeros zeros_sound entered_pairs in
        let all = covers_all Join.first (Enter (flatten pass.pairs)).first (λ i j e. en.done.took i j (pass.demanded i j (partner_demanded passes_joined i j e))) 4096 0 in
        subst (λ (l : List ℕ). covers_from Join.first (Enter l).first 0 4096 ≡ true) (sym pass.flat) all

  module _ (ok : Join.ok ≡ true) where
    -- the demanded pairs alone pass
    pub plan_passes : (u : List ℕ) → FirstUid xs u → FirstUid ys u → Passes xs ys (flatten (Plan ok))
    plan_passes u f g =
        record {
          value = u;
          uid_first = f;
          uid_second = g;
          pairs = Plan ok;
          flat = refl;
          lines = λ q h. let l = demanded_lines xs ys q.left q.right (plan_demanded ok q h) in (at_below l.at, at_below l.at_too);
          once = from_once Join.first Join.second (done ok).two 4096 0;
          property = λ q x y h a b. same q x y a b (demanded_lines xs ys q.left q.right (plan_demanded ok q h));
          demanded = demanded_plan ok;
        }
      where
        same : (q : Pair) (x y : Line) → At xs q.left x → At ys q.right y → Lines xs ys q.left q.right → SameProperty x y
        same q x y a b l = subst (λ (z : Line). SameProperty z y) (at_same l.at a) (subst (SameProperty l.x) (at_same l.at_too b) l.property)

    -- a plan that is entered and covers the demanded pairs passes
    module _ (plan : List ℕ) (u : List ℕ) (f : FirstUid xs u) (g : FirstUid ys u) (can : (Enter plan).ok ≡ true) (covers : covers_from Join.first (Enter plan).first 0 4096 ≡ true) where
      passes_by : (qs : List Pair) → plan ≡ flatten qs → Passes xs ys plan
      passes_by qs e =
          let ok-too : (Enter (flatten qs)).ok ≡ true = subst (λ (l : List ℕ). (Enter l).ok ≡ true) e can in
          let en = entered_all X.copy X.records X.lines Y.copy Y.records Y.lines qs Zeros Zeros zeros_sound ok-too in
          let has : covers_from Join.first (Enter (flatten qs)).first 0 4096 ≡ true = subst (λ (l : List ℕ). covers_from Join.first (Enter l).first 0 4096 ≡ true) e covers in
          record {
            value = u;
            uid_first = f;
            uid_second = g;
            pairs = qs;
            flat = e;
            lines = λ q h. let z = en.each q h in (omega (arith, z.left, sx.count), omega (arith, z.right, sy.count));
            once = en.once;
            property = λ q x y h a b. (same_property_lem X Y xs ys sx sy q.left q.right x y a b).0 (en.each q h).property;
            demanded = λ i j d. only i j (en.done.only i j (covers_true Join.first (Enter (flatten qs)).first 4096 0 has i (omega arith) (omega (arith, lines_low i j d)) j (demanded_partner ok i j d)));
          }
        where
          only : (i j : ℕ) → Member (pair i j) qs ⊎ (get_or Zeros i 0 ≡ j + 1) → Member (pair i j) qs
          only i j (inl h) = h
          only i j (inr h) = zero_not i j h

      pub entered_passes : Passes xs ys plan
      entered_passes =
          let z = enter_even X.copy X.records X.lines Y.copy Y.records Y.lines plan (joined true Zeros Zeros) can in
          passes_by z.0 z.1
