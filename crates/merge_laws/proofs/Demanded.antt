-- The demanded pairs that are computed are the demanded pairs. Assumes nothing.
use mathlib.Core.Path.{◌≡◌, refl, sym, ap, subst, ◌∙◌}
use mathlib.Core.Bool.{Bool, true, false}
use mathlib.Core.List.{List, [], ◌∷◌, ◌++◌}
use mathlib.Core.Logic.{◌⊎◌, inl, inr}
use Prim.Native.Nat.{ℕ, zero, suc, ◌+◌, ◌/◌, ◌<◌, ◌≤◌, min}
use native.Mathlib.Omega.{arith}
use lib.Dec.{eqb, ltb}
use lib.ListN.{length, get_or, replicate, length-take, length-replicate}
use lib.Seq.{get_or-take}
use borrow.Author.Tests.{ltb-true, ltb-false, eqb-true, eqb-false, eq-eqb, ne_eqb}
use Rattle.octets.specs.Pick.{pick}
use Rattle.octets.proofs.Bools.{by}
use Rattle.line_parser.specs.Grammar.{Line}
use Rattle.property_table.specs.declared.Edition.TheVariants.{First}
use Rattle.property_table.specs.Rows.{single, once_at}
use Rattle.property_table.proofs.RowLaws.{row_low}
use Rattle.card_line.specs.Parts.{row_of_line}
use Rattle.reader_grammar.specs.Cards.{lines_of}
use Rattle.reader_grammar.proofs.Flags.{once_some}
use Rattle.merge_sources.specs.Row.{row_of}
use Rattle.merge_sources.specs.declared.Source.{Source}
use Rattle.merge_sources.specs.declared.Row.{Row}
use Rattle.merge_pids.specs.Marks.{mark}
use Rattle.merge_sides.specs.Lines.{same_property, first_line, count_lines}
use Rattle.merge_partners.specs.Keys.{sets_from, classes_of, class_by, no_key, key_by, key_of, number_at, key_at}
use Rattle.merge_partners.proofs.WalkLaws.{sets_at, sets_length}
use Rattle.merge_partners.specs.Pairs.{Pair, pair, hit_pair, key_pair, hit_pairs, mark_pairs, shared_pairs, row_pairs, single_pairs, keys_of, demanded_pairs}
use Rattle.merge.specs.Sides.{Side, marks_of}
use Rattle.merge_words.specs.Lists.{Member, At}
use Rattle.merge_words.specs.Lists.Member.{here}
use Rattle.merge_words.specs.Pids.{PidOf}
use Rattle.merge_words.specs.Sources.{Over}
use Rattle.merge_words.specs.Sources.Over.{entries, first as over_first, source as over-source}
use Rattle.merge_laws.specs.Plans.{SameProperty, Shares, Demanded}
use Rattle.merge_laws.specs.Plans.Demanded.{shared, alone}
use Rattle.merge_words.specs.Sides.{capped, MarkOf, Held, SideOf}
use Rattle.merge_words.proofs.NumberLaws.{capped_low}
use Rattle.merge_words.proofs.Members.{at_below, at_member, member_at, member_cases, member_none, member_left, member_right, member_append}
use Rattle.merge_laws.proofs.Lists.{at_some}
use Rattle.merge_laws.proofs.Lines.{same_property_lem, leading_at, leading_row, only_leads, one_leads, side_count, side_line}
use Rattle.merge_laws.proofs.Keys.{keys_global, global_keys}

-- lists one after the other, from k on
walk : (ℕ → List Pair) → ℕ → ℕ → List Pair
walk f k zero = []
walk f k (suc n) = f k ++ walk f (k + 1) n

pub record Within (f : ℕ → List Pair) (k n : ℕ) (q : Pair) : Type 0 where
  pub place : ℕ
  pub from : k ≤ place
  pub below : place < k + n
  pub has : Member q (f place)

module _ (f : ℕ → List Pair) (q : Pair) where
  walk_in : (n k : ℕ) → Member q (walk f k n) → Within f k n q
  unfolding walk
  walk_in zero k m = member_none m refl
  walk_in (suc n) k m = go (member_append (f k) (walk f (k + 1) n) m) (walk_in n (k + 1))
    where
      go : Member q (f k) ⊎ Member q (walk f (k + 1) n) → (Member q (walk f (k + 1) n) → Within f (k + 1) n q) → Within f k (suc n) q
      go (inl h) r = record { place = k; from = omega arith; below = omega arith; has = h }
      go (inr h) r =
          let w = r h in
          record { place = w.place; from = omega (arith, w.from); below = omega (arith, w.below); has = w.has }

  in_walk : (n k : ℕ) → Within f k n q → Member q (walk f k n)
  unfolding walk
  in_walk zero k w = absurd (omega (arith, w.from, w.below))
  in_walk (suc n) k w =
      by (eqb k w.place)
      (λ e. member_left (subst (λ (j : ℕ). Member q (f j)) (sym (eqb-true k w.place e)) w.has) (walk f (k + 1) n))
      (λ e.
      let d = eqb-false k w.place e in
      member_right (f k) (in_walk n (k + 1) (record { place = w.place; from = omega (arith, w.from, d); below = omega (arith, w.below); has = w.has })))

pick_some : (b : Bool) (l : List Pair) (q : Pair) → Member q (pick b l []) → (b ≡ true) × Member q l
pick_some true l q m = (refl, m)
pick_some false l q m = member_none m refl

pick_left : (b : Bool) (l : List Pair) (q : Pair) → Member q (pick b [] l) → (b ≡ false) × Member q l
pick_left true l q m = member_none m refl
pick_left false l q m = (refl, m)

only_one : (q r : Pair) → Member q (r ∷ []) → q ≡ r
only_one q r m = go (member_cases m)
  where
    go : (q ≡ r) ⊎ Member q [] → q ≡ r
    go (inl e) = e
    go (inr n) = member_none n refl

-- a hit of a mark of the first card among the keys of the second
module _ (ca ra : List ℕ) (i key : ℕ) (cb rb marks keys : List ℕ) where
  abbrev Key : ℕ → List Pair
  Key = key_pair ca ra i key cb rb marks keys

  hits_walk : (n k : ℕ) → hit_pairs ca ra i key cb rb marks keys k n ≡ walk Key k n
  unfolding hit_pairs walk
  hits_walk zero k = refl
  hits_walk (suc n) k = ap (λ (l : List Pair). Key k ++ l) (hits_walk n (k + 1))

  pub record Hit (q : Pair) : Type 0 where
    pub lead : key ≡ no_key → ⊥
    pub place : ℕ
    pub below : place < length keys
    pub same : get_or keys place 0 ≡ key
    pub property : same_property ca ra i cb rb (number_at marks place 0) ≡ true
    pub is : q ≡ pair i (number_at marks place 0)

  mark_hit : (q : Pair) → Member q (mark_pairs ca ra i key cb rb marks keys) → Hit q
  unfolding mark_pairs key_pair hit_pair
  mark_hit q m =
      let a = pick_left (eqb key no_key) (hit_pairs ca ra i key cb rb marks keys 0 (length keys)) q m in
      let w = walk_in Key q (length keys) 0 (subst (Member q) (hits_walk (length keys) 0) a.1) in
      let b = pick_some (eqb (get_or keys w.place 0) key) (hit_pair ca ra i cb rb (number_at marks w.place 0)) q w.has in
      let c = pick_some (same_property ca ra i cb rb (number_at marks w.place 0)) (pair i (number_at marks w.place 0) ∷ []) q b.1 in
      record {
        lead = eqb-false key no_key a.0;
        place = w.place;
        below = omega (arith, w.below);
        same = eqb-true (get_or keys w.place 0) key b.0;
        property = c.0;
        is = only_one q (pair i (number_at marks w.place 0)) c.1;
      }

  hit_key : (q : Pair) (h : Hit q) → Member q (Key h.place)
  unfolding key_pair hit_pair
  hit_key q h = rw (eq-eqb (get_or keys h.place 0) key h.same, h.property, h.is) here

  hit_mark : (q : Pair) → Hit q → Member q (mark_pairs ca ra i key cb rb marks keys)
  unfolding mark_pairs
  hit_mark q h =
      let w : Within Key 0 (length keys) q = record { place = h.place; from = omega arith; below = omega (arith, h.below); has = hit_key q h } in
      rw (ne_eqb key no_key h.lead) (subst (Member q) (sym (hits_walk (length keys) 0)) (in_walk Key q (length keys) 0 w))

-- by all marks of the first card
module _ (ca ra firsts : List ℕ) (own : Row) (classes cb rb marks keys : List ℕ) where
  abbrev Marked : ℕ → List Pair
  Marked k = mark_pairs ca ra (number_at firsts k 0) (key_at firsts own classes k) cb rb marks keys

  shared_walk : (n k : ℕ) → shared_pairs ca ra firsts own classes cb rb marks keys k n ≡ walk Marked k n
  unfolding shared_pairs walk
  shared_walk zero k = refl
  shared_walk (suc n) k = ap (λ (l : List Pair). Marked k ++ l) (shared_walk n (k + 1))

  pub shared_in : (q : Pair) (n : ℕ) → Member q (shared_pairs ca ra firsts own classes cb rb marks keys 0 n) → (k : ℕ) × (k < n) × Hit ca ra (number_at firsts k 0) (key_at firsts own classes k) cb rb marks keys q
  shared_in q n m =
      let w = walk_in Marked q n 0 (subst (Member q) (shared_walk n 0) m) in
      (w.place, omega (arith, w.below), mark_hit ca ra (number_at firsts w.place 0) (key_at firsts own classes w.place) cb rb marks keys q w.has)

  pub in_shared : (q : Pair) (n k : ℕ) → k < n → Hit ca ra (number_at firsts k 0) (key_at firsts own classes k) cb rb marks keys q → Member q (shared_pairs ca ra firsts own classes cb rb marks keys 0 n)
  in_shared q n k l h =
      subst (Member q) (sym (shared_walk n 0))
      (in_walk Marked q n 0 (record { place = k; from = omega arith; below = omega arith; has = hit_mark ca ra (number_at firsts k 0) (key_at firsts own classes k) cb rb marks keys q h }))

-- by the properties marked *1
module _ (ra : List ℕ) (na : ℕ) (rb : List ℕ) (nb : ℕ) where
  abbrev Rows : ℕ → List Pair
  Rows row = row_pairs row ra na rb nb

  singles_walk : (n k : ℕ) → single_pairs ra na rb nb k n ≡ walk Rows k n
  unfolding single_pairs walk
  singles_walk zero k = refl
  singles_walk (suc n) k = ap (λ (l : List Pair). Rows k ++ l) (singles_walk n (k + 1))

  pub record Lone (q : Pair) : Type 0 where
    pub row : ℕ
    pub low : row < 39
    pub once : once_at row ≡ 0 → ⊥
    pub one : count_lines ra row 0 na ≡ 1
    pub one_too : count_lines rb row 0 nb ≡ 1
    pub is : q ≡ pair (first_line ra row 0 na) (first_line rb row 0 nb)

  pub single_in : (q : Pair) → Member q (single_pairs ra na rb nb 0 39) → Lone q
  unfolding row_pairs
  single_in q m =
      let w = walk_in Rows q 39 0 (subst (Member q) (singles_walk 39 0) m) in
      let r : ℕ = w.place in
      let a = pick_left (eqb (once_at w.place) 0) _ q w.has in
      let b = pick_some (eqb (count_lines ra w.place 0 na) 1) _ q a.1 in
      let c = pick_some (eqb (count_lines rb w.place 0 nb) 1) _ q b.1 in
      record {
        row = w.place;
        low = omega (arith, w.below);
        once = eqb-false (once_at w.place) 0 a.0;
        one = eqb-true (count_lines ra w.place 0 na) 1 b.0;
        one_too = eqb-true (count_lines rb w.place 0 nb) 1 c.0;
        is = only_one q (pair (first_line ra w.place 0 na) (first_line rb w.place 0 nb)) c.1;
      }

  lone_row : (q : Pair) (l : Lone q) → Member q (Rows l.row)
  unfolding row_pairs
  lone_row q l = rw (ne_eqb (once_at l.row) 0 l.once, eq-eqb (count_lines ra l.row 0 na) 1 l.one, eq-eqb (count_lines rb l.row 0 nb) 1 l.one_too, l.is) here

  pub in_single : (q : Pair) → Lone q → Member q (single_pairs ra na rb nb 0 39)
  in_single q l =
      subst (Member q) (sym (singles_walk 39 0))
      (in_walk Rows q 39 0 (record { place = l.row; from = omega arith; below = omega (arith, l.low); has = lone_row q l }))

-- the keys of at most 4,096 marks
module _ (marks : List ℕ) (own : Row) (classes : List ℕ) (k : ℕ) (few : k ≤ 4096) where
  size : length (sets_from (key_at marks own classes) (replicate 4096 0) 0 k) ≡ 4096
  size = sets_length (key_at marks own classes) k (replicate 4096 0) 0 ∙ length-replicate {A = ℕ} 4096 0

  many : min k 4096 ≡ k
  many = omega arith

  pub keys_length : length (keys_of marks k own classes) ≡ k
  unfolding keys_of
  keys_length = length-take (min k 4096) (sets_from (key_at marks own classes) (replicate 4096 0) 0 k) ∙ omega (arith, size)

  pub keys_at : (n : ℕ) → n < k → get_or (keys_of marks k own classes) n 0 ≡ key_at marks own classes n
  unfolding keys_of
  keys_at n h =
      get_or-take (min k 4096) (sets_from (key_at marks own classes) (replicate 4096 0) 0 k) n 0 (omega arith)
      ∙ sets_at (key_at marks own classes) k (replicate 4096 0) 0 n (omega arith) (omega arith) (omega (arith, length-replicate {A = ℕ} 4096 0))

-- a side within the limits: its marks are the PIDs of its lines
module _ (s : Side) (xs : List Line) (so : SideOf s xs) (m : List Source) (inside : Over s.cards xs m → ⊥) where
  abbrev Room : List ℕ
  Room = (marks_of s).room

  abbrev pub Count : ℕ
  Count = (marks_of s).next / 3

  pub row_few : length m ≤ 16
  row_few = by (ltb 16 (length m)) (λ e. absurd (inside (entries (ltb-true 16 (length m) e)))) (λ e. ltb-false 16 (length m) e)

  pub marks_few : Count ≤ 4096
  marks_few = omega (arith, so.marked.many, so.marked.few)

  first_low : {x : Line} {p q : ℕ} → Member x xs → PidOf x p q → p ≤ 65535
  first_low {p = p} h g = by (ltb 65535 p) (λ e. absurd (inside (over_first h g (ltb-true 65535 p e)))) (λ e. ltb-false 65535 p e)

  source_low : {x : Line} {p q : ℕ} → Member x xs → PidOf x p q → q ≤ 65535
  source_low {q = q} h g = by (ltb 65535 q) (λ e. absurd (inside (over-source h g (ltb-true 65535 q e)))) (λ e. ltb-false 65535 q e)

  -- the mark k is of a line
  pub record MarkAt (k : ℕ) : Type 0 where
    pub line : Line
    pub at : At xs (number_at Room k 0) line
    pub pid : PidOf line (number_at Room k 1) (number_at Room k 2)

  pub mark_at : (k : ℕ) → k < Count → MarkAt k
  mark_at k h =
      let z = at_some so.marked.marks k (omega (arith, h, so.marked.many)) in
      let o : MarkOf xs z.0 = so.marked.each z.0 (at_member z.1) in
      let a : number_at Room k 0 ≡ z.0.line = so.marked.lines k z.0 z.1 in
      let b : number_at Room k 1 ≡ o.first =
      so.marked.firsts k z.0 z.1 ∙ o.first_is ∙ capped_low o.first (first_low (at_member o.at) o.pid) in
      let c : number_at Room k 2 ≡ o.source =
      so.marked.sources k z.0 z.1 ∙ o.source_is ∙ capped_low o.source (source_low (at_member o.at) o.pid) in
      record {
        line = o.line;
        at = subst (λ (i : ℕ). At xs i o.line) (sym a) o.at;
        pid = subst (λ (p : ℕ). PidOf o.line p (number_at Room k 2)) (sym b) (subst (PidOf o.line o.first) (sym c) o.pid);
      }

  -- and each PID of a line has a mark
  pub record Has (i p q : ℕ) : Type 0 where
    pub place : ℕ
    pub below : place < Count
    pub line : number_at Room place 0 ≡ i
    pub first : number_at Room place 1 ≡ p
    pub source : number_at Room place 2 ≡ q
    pub low : p ≤ 65535

  pub at_mark : (i p q : ℕ) (x : Line) → At xs i x → PidOf x p q → Has i p q
  at_mark i p q x h g =
      let z = member_at (so.marked.every i p q x h g) in
      let a = first_low (at_member h) g in
      record {
        place = z.0;
        below = omega (arith, at_below z.1, so.marked.many);
        line = so.marked.lines z.0 (mark i (capped p) (capped q)) z.1;
        first = so.marked.firsts z.0 (mark i (capped p) (capped q)) z.1 ∙ capped_low p a;
        source = so.marked.sources z.0 (mark i (capped p) (capped q)) z.1 ∙ capped_low q (source_low (at_member h) g);
        low = a;
      }

single_of : (row : ℕ) → (once_at row ≡ 0 → ⊥) → single row ≡ true
unfolding once_at
single_of row d = by (single row) (λ e. e) (λ e. absurd (d (rw e)))

row_listed : (x : Line) → row_of_line First x < 39
unfolding row_of_line
row_listed x = row_low First x.name

-- two sides within the limits, and rows that are theirs
module _ (X Y : Side) (xs ys : List Line) (sx : SideOf X xs) (sy : SideOf Y ys) (m n : List Source)
    (in_x : Over X.cards xs m → ⊥) (in_y : Over Y.cards ys n → ⊥) (held : Held X.copy xs m) (held_too : Held Y.copy ys n) where
  abbrev FX : List ℕ
  FX = (marks_of X).room

  abbrev FY : List ℕ
  FY = (marks_of Y).room

  abbrev CX : List ℕ
  CX = classes_of X.copy (row_of m) X.copy (row_of m)

  abbrev CY : List ℕ
  CY = classes_of X.copy (row_of m) Y.copy (row_of n)

  abbrev KX : ℕ
  KX = (marks_of X).next / 3

  abbrev KY : ℕ
  KY = (marks_of Y).next / 3

  abbrev Keys : List ℕ
  Keys = keys_of FY KY (row_of n) CY

  abbrev pub All : List Pair
  All = demanded_pairs X.copy X.records X.lines FX KX (row_of m) Y.copy Y.records Y.lines FY KY (row_of n)

  few_y : KY ≤ 4096
  few_y = marks_few Y ys sy n in_y

  key_x : (k : ℕ) → key_at FX (row_of m) CX k ≡ key_by (class_by (row_of m) CX (number_at FX k 2)) (number_at FX k 1)
  unfolding key_at key_of
  key_x k = refl

  key_y : (k : ℕ) → key_at FY (row_of n) CY k ≡ key_by (class_by (row_of n) CY (number_at FY k 2)) (number_at FY k 1)
  unfolding key_at key_of
  key_y k = refl

  abbrev HitOf : ℕ → Pair → Type 0
  HitOf k q = Hit X.copy X.records (number_at FX k 0) (key_at FX (row_of m) CX k) Y.copy Y.records FY Keys q

  hit_demanded : (k : ℕ) → k < KX → (q : Pair) → HitOf k q → Demanded xs ys q.left q.right
  hit_demanded k h q hit =
      let l : hit.place < KY = omega (arith, hit.below, keys_length FY (row_of n) CY KY few_y) in
      let same : key_at FY (row_of n) CY hit.place ≡ key_at FX (row_of m) CX k = sym (keys_at FY (row_of n) CY KY few_y hit.place l) ∙ hit.same in
      let a = mark_at X xs sx m in_x k h in
      let b = mark_at Y ys sy n in_y hit.place l in
      let g = keys_global X.copy Y.copy xs ys m n (row_few X xs sx m in_x) (row_few Y ys sy n in_y) held held_too
      (number_at FX k 1) (number_at FX k 2) (number_at FY hit.place 1) (number_at FY hit.place 2)
      (λ e. hit.lead (key_x k ∙ e)) (sym (key_y hit.place) ∙ same ∙ key_x k) in
      let w : SameProperty a.line b.line =
      (same_property_lem X Y xs ys sx sy (number_at FX k 0) (number_at FY hit.place 0) a.line b.line a.at b.at).0 hit.property in
      let shares : Shares xs ys a.line b.line =
      record {
        first = number_at FX k 1;
        source = number_at FX k 2;
        other = number_at FY hit.place 2;
        of_x = a.pid;
        of_y = subst (λ (p : ℕ). PidOf b.line p (number_at FY hit.place 2)) (sym g.first) b.pid;
        uri = g.uri;
        there = g.there;
        too = g.too;
      } in
      subst (λ (r : Pair). Demanded xs ys r.left r.right) (sym hit.is) (shared a.at b.at w shares)

  lone_demanded : (q : Pair) → Lone X.records X.lines Y.records Y.lines q → Demanded xs ys q.left q.right
  lone_demanded q l =
      let r : ℕ = l.row in
      let cx : lines_of First l.row xs ≡ 1 = sym (side_count X xs sx l.row) ∙ l.one in
      let cy : lines_of First l.row ys ≡ 1 = sym (side_count Y ys sy l.row) ∙ l.one_too in
      let a = one_leads l.row xs cx in
      let b = one_leads l.row ys cy in
      let ra : row_of_line First a.1 ≡ l.row = leading_row a.2 in
      let rb : row_of_line First b.1 ≡ l.row = leading_row b.2 in
      let d : Demanded xs ys a.0 b.0 =
      alone (leading_at a.2) (leading_at b.2) (ap single ra ∙ single_of l.row l.once) (ra ∙ sym rb)
      (ap (λ (k : ℕ). lines_of First k xs) ra ∙ cx) (ap (λ (k : ℕ). lines_of First k ys) rb ∙ cy) in
      subst (λ (p : Pair). Demanded xs ys p.left p.right) (sym l.is)
      (subst (λ (i : ℕ). Demanded xs ys i (first_line Y.records l.row 0 Y.lines)) (sym (side_line X xs sx l.row a.0 a.1 a.2))
      (subst (λ (j : ℕ). Demanded xs ys a.0 j) (sym (side_line Y ys sy l.row b.0 b.1 b.2)) d))

  -- a computed pair is demanded,
  pub pairs_demanded : (q : Pair) → Member q All → Demanded xs ys q.left q.right
  unfolding demanded_pairs
  pairs_demanded q h = go (member_append (shared_pairs X.copy X.records FX (row_of m) CX Y.copy Y.records FY Keys 0 KX) (single_pairs X.records X.lines Y.records Y.lines 0 39) h)
    where
      go : Member q (shared_pairs X.copy X.records FX (row_of m) CX Y.copy Y.records FY Keys 0 KX) ⊎ Member q (single_pairs X.records X.lines Y.records Y.lines 0 39)
          → Demanded xs ys q.left q.right
      go (inl a) =
          let z = shared_in X.copy X.records FX (row_of m) CX Y.copy Y.records FY Keys q KX a in
          hit_demanded z.0 z.1 q z.2
      go (inr a) = lone_demanded q (single_in X.records X.lines Y.records Y.lines q a)

  demanded_hit : (i j : ℕ) (x y : Line) → At xs i x → At ys j y → SameProperty x y → Shares xs ys x y → (k : ℕ) × (k < KX) × HitOf k (pair i j)
  demanded_hit i j x y hx hy w sh =
      let a = at_mark X xs sx m in_x i sh.first sh.source x hx sh.of_x in
      let b = at_mark Y ys sy n in_y j sh.first sh.other y hy sh.of_y in
      let g = global_keys X.copy Y.copy xs ys m n (row_few X xs sx m in_x) (row_few Y ys sy n in_y) held held_too
      sh.first sh.source sh.other a.low sh.uri sh.there sh.too in
      let kx : key_at FX (row_of m) CX a.place ≡ key_by (class_by (row_of m) CX sh.source) sh.first =
      key_x a.place ∙ ap (λ (p : ℕ). key_by (class_by (row_of m) CX (number_at FX a.place 2)) p) a.first ∙ ap (λ (t : ℕ). key_by (class_by (row_of m) CX t) sh.first) a.source in
      let ky : key_at FY (row_of n) CY b.place ≡ key_by (class_by (row_of n) CY sh.other) sh.first =
      key_y b.place ∙ ap (λ (p : ℕ). key_by (class_by (row_of n) CY (number_at FY b.place 2)) p) b.first ∙ ap (λ (t : ℕ). key_by (class_by (row_of n) CY t) sh.first) b.source in
      let prop : same_property X.copy X.records i Y.copy Y.records j ≡ true = (same_property_lem X Y xs ys sx sy i j x y hx hy).1 w in (
        a.place,
        a.below,
        record {
          lead = λ e. g.0 (sym kx ∙ e);
          place = b.place;
          below = omega (arith, b.below, keys_length FY (row_of n) CY KY few_y);
          same = keys_at FY (row_of n) CY KY few_y b.place b.below ∙ ky ∙ g.1 ∙ sym kx;
          property =
              ap (λ (k : ℕ). same_property X.copy X.records k Y.copy Y.records (number_at FY b.place 0)) a.line
              ∙ ap (λ (k : ℕ). same_property X.copy X.records i Y.copy Y.records k) b.line ∙ prop;
          is = ap (λ (k : ℕ). pair k j) (sym a.line) ∙ ap (pair (number_at FX a.place 0)) (sym b.line);
        },
      )

  demanded_lone : (i j : ℕ) (x y : Line) → At xs i x → At ys j y → single (row_of_line First x) ≡ true → row_of_line First x ≡ row_of_line First y
      → lines_of First (row_of_line First x) xs ≡ 1 → lines_of First (row_of_line First y) ys ≡ 1 → Lone X.records X.lines Y.records Y.lines (pair i j)
  demanded_lone i j x y hx hy s e cx cy =
      let r : ℕ = row_of_line First x in
      let lx = side_line X xs sx (row_of_line First x) i x (only_leads (row_of_line First x) xs i x hx refl cx) in
      let dy : lines_of First (row_of_line First x) ys ≡ 1 = ap (λ (k : ℕ). lines_of First k ys) e ∙ cy in
      let ly = side_line Y ys sy (row_of_line First x) j y (only_leads (row_of_line First x) ys j y hy (sym e) dy) in
      record {
        row = row_of_line First x;
        low = row_listed x;
        once = λ z. absurd (omega (arith, z, once_some (row_of_line First x) (omega (arith, row_listed x)) s));
        one = side_count X xs sx (row_of_line First x) ∙ cx;
        one_too = side_count Y ys sy (row_of_line First x) ∙ dy;
        is = ap (λ (k : ℕ). pair k j) (sym lx) ∙ ap (pair (first_line X.records (row_of_line First x) 0 X.lines)) (sym ly);
      }

  -- and a demanded pair is computed
  pub demanded_pairs_lem : (i j : ℕ) → Demanded xs ys i j → Member (pair i j) All
  unfolding demanded_pairs
  demanded_pairs_lem i j (shared {x = x} {y = y} hx hy w sh) =
      let z = demanded_hit i j x y hx hy w sh in
      member_left (in_shared X.copy X.records FX (row_of m) CX Y.copy Y.records FY Keys (pair i j) KX z.0 z.1 z.2)
      (single_pairs X.records X.lines Y.records Y.lines 0 39)
  demanded_pairs_lem i j (alone {x = x} {y = y} hx hy s e cx cy) =
      member_right (shared_pairs X.copy X.records FX (row_of m) CX Y.copy Y.records FY Keys 0 KX)
      (in_single X.records X.lines Y.records Y.lines (pair i j) (demanded_lone i j x y hx hy s e cx cy))
