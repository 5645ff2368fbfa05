-- Two texts compared octet for octet, the values that are kept in a store, and that a value kept later leaves those before it. Assumes nothing.
use mathlib.Core.Path.{◌≡◌, refl, sym, ap, ◌∙◌}
use mathlib.Core.Bool.{Bool, true}
use mathlib.Core.List.{List, [], ◌∷◌, ◌++◌, map}
use mathlib.Core.Option.{Option, some}
use Prim.Native.Nat.{ℕ, zero, suc, ◌+◌, ◌-◌, ◌*◌, ◌/◌, ◌%◌, ◌<◌, ◌≤◌}
use native.Mathlib.Numerals.{add-one}
use native.Mathlib.Omega.{arith}
use lib.Dec.{eqb, leb}
use lib.ListN.{length, get_or, take, drop, set}
use lib.Seq.{drop-append_seam, take-append-le, take-length}
use borrow.Author.Tests.{leb-true}
use lib.Pointwise.{pointwise}
use Rattle.octets.proofs.Upto.{upto, alike}
use Rattle.property_table.specs.Rows.{rows, newer, all_rows, row_at, single, marks, once_at}
use Rattle.card_state.specs.State.{Next, fresh_card, equal, tagged, going}
use Rattle.card_state.specs.Kept.{places_of, span, place_of, end_of, tag_at, Inside, Lies, card_of, step_of, Holds, no_tags, fresh_kept, gone_on, Keeps}
use Rattle.card_state.specs.declared.Card.{Card as Kept}
use Rattle.card_state.specs.Kept.{KeptStep}
use Rattle.card_state.specs.Kept.{next, refused, flawed}

-- there are ten properties marked *1
pub once_ten : (row : ℕ) → row < 44 → once_at row ≤ 10
unfolding upto once_at single marks row_at rows newer all_rows
once_ten row h = leb-true _ _ (alike (λ j. leb (once_at j) 10) (λ j. true) 44 refl row h)

-- what the library says of two texts that are compared
pub equal_is : (a b : List ℕ) → pointwise eqb a b ≡ equal a b
unfolding equal
equal_is [] [] = refl
equal_is [] (y ∷ ys) = refl
equal_is (x ∷ xs) [] = refl
equal_is (x ∷ xs) (y ∷ ys) = rw (equal_is xs ys) refl

-- a part of the first n octets goes by these alone
part_front : (f k n : ℕ) (s : List ℕ) → f + k ≤ n → take k (drop f (take n s)) ≡ take k (drop f s)
part_front zero zero n s h = refl
part_front zero (suc k) zero s h = absurd (omega arith)
part_front zero (suc k) (suc n) [] h = refl
part_front zero (suc k) (suc n) (x ∷ s) h = ap (λ (l : List ℕ). x ∷ l) (part_front zero k n s (omega arith))
part_front (suc f) k zero s h = absurd (omega arith)
part_front (suc f) k (suc n) [] h = refl
part_front (suc f) k (suc n) (x ∷ s) h = part_front f k n s (omega arith)

tag_front : (p n : ℕ) (a b : List ℕ) → end_of p ≤ n → take n a ≡ take n b → tag_at a p ≡ tag_at b p
unfolding end_of tag_at
tag_front zero n a b h e = refl
tag_front (suc p) n a b h e =
    ap some
    (sym (part_front (p / span) (p % span) n a h)
    ∙ ap (λ (l : List ℕ). take (p % span) (drop (p / span) l)) e
    ∙ part_front (p / span) (p % span) n b h)

tags_front : (ps : List ℕ) (n : ℕ) (a b : List ℕ) → Inside n ps → take n a ≡ take n b → map (tag_at a) ps ≡ map (tag_at b) ps
unfolding Inside
tags_front [] n a b h e = refl
tags_front (p ∷ ps) n a b h e = rw (tag_front p n a b h.0 e, tags_front ps n a b h.1 e)

-- a state goes by the octets that it uses
pub card_front : (c : Kept) (a b : List ℕ) → Lies c → take c.used a ≡ take c.used b → card_of c a ≡ card_of c b
unfolding card_of
card_front c a b h e = rw (tags_front (places_of c.tags) c.used a b h e)

-- lists that begin alike begin alike before that
front_less : (m n : ℕ) (a b : List ℕ) → m ≤ n → take n a ≡ take n b → take m a ≡ take m b
front_less m n a b h e =
    let w : 0 + m ≤ n = omega arith in
    sym (part_front 0 m n a w) ∙ ap (take m) e ∙ part_front 0 m n b w

pub step_front : (s : KeptStep) (n : ℕ) (a b : List ℕ) → Holds n s → take n a ≡ take n b → step_of a s ≡ step_of b s
unfolding Holds step_of
step_front (next c) n a b h e = ap Next (card_front c a b h.0 (front_less c.used n a b h.1 e))
step_front (refused k p) n a b h e = refl
step_front (flawed k o) n a b h e = refl

pub inside_at : (ps : List ℕ) (n i : ℕ) → Inside n ps → end_of (get_or ps i 0) ≤ n
unfolding Inside end_of
inside_at [] n i h = omega arith
inside_at (p ∷ ps) n zero h = h.0
inside_at (p ∷ ps) n (suc i) h = inside_at ps n i h.1

pub inside_more : (ps : List ℕ) (n m : ℕ) → n ≤ m → Inside n ps → Inside m ps
unfolding Inside
inside_more [] n m g h = tt
inside_more (p ∷ ps) n m g h = (omega (arith, h.0), inside_more ps n m g h.1)

-- where no value is kept
pub none_lie : Inside 0 (places_of no_tags)
unfolding Inside places_of end_of
none_lie = (omega arith, (omega arith, (omega arith, (omega arith, (omega arith, (omega arith, (omega arith, (omega arith, (omega arith, (omega arith, tt))))))))))

-- before the first line nothing is kept
pub fresh_card_lem : (store : List ℕ) → card_of fresh_kept store ≡ fresh_card
unfolding card_of places_of tag_at
fresh_card_lem store = refl

pub holds_more : (s : KeptStep) (n m : ℕ) → n ≤ m → Holds n s → Holds m s
unfolding Holds
holds_more (next c) n m h g = (g.0, omega (arith, g.1))
holds_more (refused k p) n m h g = tt
holds_more (flawed k o) n m h g = tt

-- a line that keeps no value leaves the tags
pub gone_card : (c : Kept) (store : List ℕ) (row : ℕ) (group : Bool) → card_of (gone_on c row group) store ≡ going (card_of c store) (card_of c store).tags row group
unfolding card_of gone_on
gone_card c store row group = refl

inside_set : (ps : List ℕ) (n i q : ℕ) → end_of q ≤ n → Inside n ps → Inside n (set ps i q)
unfolding Inside
inside_set [] n i q g h = tt
inside_set (p ∷ ps) n zero q g h = (g, h.1)
inside_set (p ∷ ps) n (suc i) q g h = (h.0, inside_set ps n i q g h.1)

map_set : {A B : Type 0} (f : A → B) (l : List A) (i : ℕ) (a : A) → map f (set l i a) ≡ set (map f l) i (f a)
map_set f [] i a = refl
map_set f (x ∷ xs) zero a = refl
map_set {B = B} f (x ∷ xs) (suc i) a = ap (λ (l : List B). f x ∷ l) (map_set f xs i a)

-- the place of a value of n octets behind `from`
place_end : (from n : ℕ) → n ≤ 16384 → end_of (place_of from n) ≡ from + n
unfolding end_of
place_end from n h = rw (add-one (from * 32768 + n)) (omega arith)

own_tag : (store v : List ℕ) → length v ≤ 16384 → tag_at (store ++ v) (place_of (length store) (length v)) ≡ some v
unfolding tag_at
own_tag store v h =
    let start : (length store * 32768 + length v) / 32768 ≡ length store = omega arith in
    let size : (length store * 32768 + length v) % 32768 ≡ length v = omega arith in
    rw (add-one (length store * 32768 + length v), start, size, drop-append_seam store v, take-length v)

tagged_at : (k : ℕ) → 0 < k → (ts : List (Option (List ℕ))) (v : List ℕ) → tagged ts k (some v) ≡ set ts (k - 1) (some v)
unfolding tagged
tagged_at zero h ts v = absurd (omega arith)
tagged_at (suc k) h ts v = let back : suc k - 1 ≡ k = omega arith in rw back

-- a value kept behind the others
module _ (c r : Kept) (k n : ℕ) (keeps : Keeps c k n r) (lies : Lies c) (short : n ≤ 16384) where
  pub keep_lies : Lies r
  keep_lies =
      rw (keeps.places, keeps.used)
      (inside_set (places_of c.tags) (c.used + n) (k - 1) (place_of c.used n) (omega (arith, place_end c.used n short)) (inside_more (places_of c.tags) c.used (c.used + n) (omega arith) lies))

  module _ (store v : List ℕ) (all : length store ≡ c.used) (size : length v ≡ n) (some-k : 0 < k) where
    keep_tags : map (tag_at (store ++ v)) (places_of r.tags) ≡ set (map (tag_at store) (places_of c.tags)) (k - 1) (some v)
    keep_tags =
        let front : take c.used (store ++ v) ≡ take c.used store = take-append-le c.used store v (omega arith) in
        ap (map (tag_at (store ++ v))) keeps.places
        ∙ map_set (tag_at (store ++ v)) (places_of c.tags) (k - 1) (place_of c.used n)
        ∙ rw (tags_front (places_of c.tags) c.used (store ++ v) store lies front, sym all, sym size, own_tag store v (omega arith))

    -- the state then
    pub keep_card : card_of r (store ++ v) ≡ record {
      phase = c.phase;
      seen = c.seen;
      tags = tagged (map (tag_at store) (places_of c.tags)) k (some v);
      has_fn = c.has_fn;
      has_member = c.has_member;
      is_group = c.is_group;
      cards = c.cards;
      lines = c.lines;
    }
    unfolding card_of
    keep_card = rw (keep_tags, keeps.phase, keeps.seen, keeps.has_fn, keeps.has_member, keeps.is_group, keeps.cards, keeps.lines, tagged_at k some-k (map (tag_at store) (places_of c.tags)) v)
