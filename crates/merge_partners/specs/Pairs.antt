-- The demanded pairs of two sides, one after the other, and how the lines are joined by them. Assumes nothing.
use Rattle.std.specs.Prelude.{ℕ, zero, suc, ◌+◌, ◌-◌, min, Bool, true, false, List, [], ◌∷◌, ◌++◌, eqb, ltb, length, get_or, take, set, replicate}
use Rattle.numbers.specs.Limits as limit
use Rattle.numbers.specs.Properties as property
use Rattle.octets.specs.Pick.{pick}
use Rattle.property_table.specs.Rows.{once_at}
use Rattle.merge_sources.specs.declared.Row.{Row}
use Rattle.merge_sides.specs.Lines.{value_at, same_octets, same_property, first_line, count_lines}
use Rattle.merge_partners.specs.Keys.{sets_from, classes_of, no_key, number_at, line, key_at}

-- a line of the first card and one of the second
pub record Pair : Type 0 where
  pub left : ℕ
  pub right : ℕ

abbrev pub pair : ℕ → ℕ → Pair
pair i j = record { left = i; right = j }

-- whether no line has had two partners, and the partners of each card's lines, counted from 1, 0 for none
pub record Joined : Type 0 where
  pub ok : Bool
  pub first : List ℕ
  pub second : List ℕ

abbrev pub joined : Bool → List ℕ → List ℕ → Joined
joined ok p t = record { ok = ok; first = p; second = t }

-- a pair that is joined already changes nothing; one of which a line has another partner can't be joined
unfoldable pub join_to : List ℕ → List ℕ → ℕ → ℕ → Joined
join_to p t i j =
    pick (ltb i limit.lines)
    (pick (ltb j limit.lines)
    (pick (eqb (get_or p i 0) (j + 1)) (joined true p t)
    (pick (eqb (get_or p i 0) 0)
    (pick (eqb (get_or t j 0) 0) (joined true (set p i (j + 1)) (set t j (i + 1))) (joined false p t))
    (joined false p t)))
    (joined false p t))
    (joined false p t)

-- pairs one after the other, up to the first that can't be joined
unfoldable pub join_all : Joined → List Pair → Joined
join_all s [] = s
join_all s (q ∷ qs) = pick s.ok (join_all (join_to s.first s.second q.left q.right) qs) s

-- two lines where they have one property
unfoldable pub hit_pair : List ℕ → List ℕ → ℕ → List ℕ → List ℕ → ℕ → List Pair
hit_pair ca ra i cb rb j = pick (same_property ca ra i cb rb j) (pair i j ∷ []) []

-- line i and the line of the second card's mark k, where the mark has the key
unfoldable pub key_pair : List ℕ → List ℕ → ℕ → ℕ → List ℕ → List ℕ → List ℕ → List ℕ → ℕ → List Pair
key_pair ca ra i key cb rb marks keys k = pick (eqb (get_or keys k 0) key) (hit_pair ca ra i cb rb (number_at marks k line)) []

-- and the lines of n marks from k on
unfoldable pub hit_pairs : List ℕ → List ℕ → ℕ → ℕ → List ℕ → List ℕ → List ℕ → List ℕ → ℕ → ℕ → List Pair
hit_pairs ca ra i key cb rb marks keys k zero = []
hit_pairs ca ra i key cb rb marks keys k (suc n) = key_pair ca ra i key cb rb marks keys k ++ hit_pairs ca ra i key cb rb marks keys (k + 1) n

-- none where the key leads nowhere
unfoldable pub mark_pairs : List ℕ → List ℕ → ℕ → ℕ → List ℕ → List ℕ → List ℕ → List ℕ → List Pair
mark_pairs ca ra i key cb rb marks keys = pick (eqb key no_key) [] (hit_pairs ca ra i key cb rb marks keys 0 (length keys))

-- by n marks of the first card from k on
unfoldable pub shared_pairs : List ℕ → List ℕ → List ℕ → Row → List ℕ → List ℕ → List ℕ → List ℕ → List ℕ → ℕ → ℕ → List Pair
shared_pairs ca ra firsts own classes cb rb marks keys k zero = []
shared_pairs ca ra firsts own classes cb rb marks keys k (suc n) =
    mark_pairs ca ra (number_at firsts k line) (key_at firsts own classes k) cb rb marks keys
    ++ shared_pairs ca ra firsts own classes cb rb marks keys (k + 1) n

-- the lines of a property marked *1 where each card has one
unfoldable pub row_pairs : ℕ → List ℕ → ℕ → List ℕ → ℕ → List Pair
row_pairs row ra na rb nb =
    pick (eqb (once_at row) 0) []
    (pick (eqb (count_lines ra row 0 na) 1)
    (pick (eqb (count_lines rb row 0 nb) 1) (pair (first_line ra row 0 na) (first_line rb row 0 nb) ∷ []) [])
    [])

-- of k properties from row on
unfoldable pub single_pairs : List ℕ → ℕ → List ℕ → ℕ → ℕ → ℕ → List Pair
single_pairs ra na rb nb row zero = []
single_pairs ra na rb nb row (suc k) = row_pairs row ra na rb nb ++ single_pairs ra na rb nb (row + 1) k

-- the keys of the first k marks, at most 4,096
unfoldable pub keys_of : List ℕ → ℕ → Row → List ℕ → List ℕ
keys_of marks k own classes = take (min k limit.lines) (sets_from (key_at marks own classes) (replicate limit.lines 0) 0 k)

-- all demanded pairs
unfoldable pub demanded_pairs : List ℕ → List ℕ → ℕ → List ℕ → ℕ → Row → List ℕ → List ℕ → ℕ → List ℕ → ℕ → Row → List Pair
demanded_pairs ca ra na firsts ka a cb rb nb seconds kb b =
    shared_pairs ca ra firsts a (classes_of ca a ca a) cb rb seconds (keys_of seconds kb b (classes_of ca a cb b)) 0 ka
    ++ single_pairs ra na rb nb 0 property.count

-- without the partners of the second card's lines
pub record First : Type 0 where
  pub ok : Bool
  pub partners : List ℕ

abbrev pub joined_first : Bool → List ℕ → First
joined_first ok p = record { ok = ok; partners = p }

abbrev pub first_of : Joined → First
first_of s = joined_first s.ok s.first

-- the pairs of k lines from i on, by the first card's lines
unfoldable pub pairs_from : List ℕ → ℕ → ℕ → List Pair
pairs_from p i zero = []
pairs_from p i (suc k) = pick (eqb (get_or p i 0) 0) (pairs_from p (i + 1) k) (pair i (get_or p i 0 - 1) ∷ pairs_from p (i + 1) k)

-- both cards have a UID line, and the first ones have the same value
unfoldable pub same_uids : List ℕ → List ℕ → ℕ → List ℕ → List ℕ → ℕ → Bool
same_uids ca ra na cb rb nb =
    pick (ltb (first_line ra property.uid 0 na) na)
    (pick (ltb (first_line rb property.uid 0 nb) nb)
    (same_octets (value_at ca ra (first_line ra property.uid 0 na)) (value_at cb rb (first_line rb property.uid 0 nb)))
    false)
    false
