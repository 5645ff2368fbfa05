-- A clean line has one greedy cutting by RFC 3629's grammar, and that is its pieces. Assumes nothing.
use mathlib.Core.Path.{◌≡◌, sym, subst}
use mathlib.Core.Bool.{Bool, false}
use mathlib.Core.List.{List, [], ◌∷◌, ◌++◌, flatten}
use mathlib.Core.Logic.{◌↔◌}
use Prim.Native.Nat.{ℕ, zero, suc, ◌+◌, ◌<◌, ◌≤◌}
use native.Mathlib.Omega.{arith}
use lib.ListN.{length}
use Rattle.utf8.specs.Characters.{char_length, allowed}
use Rattle.utf8.specs.Rfc3629.{Characters}
use Rattle.utf8_laws.specs.Texts.{Begins, Each}
use Rattle.utf8_laws.proofs.Starts.{char_found}
use Rattle.utf8_laws.proofs.Walks.{begins}
use Rattle.utf8_laws.proofs.Utf8.{allowed_only}
use Rattle.folder_line.specs.Pieces.{first, later, pieces, Clean, All}
use Rattle.folder_laws.specs.Cuttings.{UpTo, Full, AllFull, Cutting}
use Rattle.folder_laws.proofs.Cut.{Tight, AllTight, Cut}
use Rattle.folder_laws.proofs.CutLaws.{cutting}
use Rattle.folder_laws.proofs.Greedy.{only}

-- the first character behind a piece that is no longer than it may be
tight_full : (r : ℕ) (p : List ℕ) (ps : List (List ℕ)) → length p ≤ r → Tight r p ps → Full r p ps
tight_full r p [] h f = tt
tight_full r p (q ∷ qs) h f = go (char_length q) (λ n e. char_found q n e) f
  where
    go : (n : ℕ) → ((m : ℕ) → n ≡ suc m → (c : List ℕ) × Begins q c × (length c ≡ suc m)) → r < length p + n → (c : List ℕ) × Begins q c × (r < length p + length c)
    go zero g k = absurd (omega arith)
    go (suc m) g k = let c = g m (omega arith) in (c.0, c.1, omega (arith, c.2))

full_tight : (r : ℕ) (p : List ℕ) (ps : List (List ℕ)) → Full r p ps → Tight r p ps
full_tight r p [] f = tt
full_tight r p (q ∷ qs) (c, b, h) = omega (arith, begins q c b)

tight_fulls : (ps : List (List ℕ)) → All (UpTo 74) ps → AllTight ps → AllFull ps
unfolding All AllTight AllFull
tight_fulls [] h f = tt
tight_fulls (p ∷ ps) h f = (tight_full 74 p ps h.0 f.0, tight_fulls ps h.1 f.1)

full_tights : (ps : List (List ℕ)) → AllFull ps → AllTight ps
unfolding AllTight AllFull
full_tights [] f = tt
full_tights (p ∷ ps) f = (full_tight 74 p ps f.0, full_tights ps f.1)

-- allowed octets of two lists that are joined
pub each_left : (f : ℕ → Bool) (xs ys : List ℕ) → Each f (xs ++ ys) → Each f xs
unfolding Each
each_left f [] ys h = tt
each_left f (x ∷ xs) ys h = (h.0, each_left f xs ys h.1)

pub each_right : (f : ℕ → Bool) (xs ys : List ℕ) → Each f (xs ++ ys) → Each f ys
unfolding Each
each_right f [] ys h = h
each_right f (x ∷ xs) ys h = each_right f xs ys h.1

-- the pieces of a clean line that are whole characters are clean
all_clean : (ps : List (List ℕ)) → All Characters ps → Each (allowed false) (flatten ps) → All Clean ps
unfolding All Clean flatten
all_clean [] c h = tt
all_clean (p ∷ ps) c h =
    ((allowed_only false p).1 (c.0, each_left (allowed false) p (flatten ps) h), all_clean ps c.1 (each_right (allowed false) p (flatten ps) h))

pub parts_clean : (l : List ℕ) (ps : List (List ℕ)) → Clean l → flatten ps ≡ l → All Characters ps → All Clean ps
unfolding Clean
parts_clean l ps c e a = all_clean ps a (subst (Each (allowed false)) (sym e) ((allowed_only false l).0 c).1)

pub all_characters : (ps : List (List ℕ)) → All Clean ps → All Characters ps
unfolding All Clean
all_characters [] c = tt
all_characters (p ∷ ps) c = (((allowed_only false p).0 c.0).0, all_characters ps c.1)

module _ (l p : List ℕ) (ps : List (List ℕ)) (clean : Clean l) where
  cut_cutting : Cut l p ps → Cutting l p ps
  cut_cutting c = record {
    whole = c.whole;
    characters = all_characters (p ∷ ps) c.clean;
    start = c.start;
    others = c.others;
    full = tight_full 75 p ps c.start c.full;
    fulls = tight_fulls ps c.others c.fulls;
  }

  cutting_cut : Cutting l p ps → Cut l p ps
  cutting_cut c = record {
    whole = c.whole;
    clean = parts_clean l (p ∷ ps) clean c.whole c.characters;
    start = c.start;
    others = c.others;
    full = full_tight 75 p ps c.full;
    fulls = full_tights ps c.fulls;
  }

  -- The pieces are a greedy cutting, and there is no other.
  pub cutting_law : Cutting l p ps ↔ (p ∷ ps ≡ pieces l)
  unfolding pieces
  cutting_law = (λ c. only l p ps (cutting_cut c), so)
    where
      so : p ∷ ps ≡ first l 75 ∷ later l 75 → Cutting l p ps
      so e =
          let a : p ≡ first l 75 = cc in
          let b : ps ≡ later l 75 = cc in
          cut_cutting (rw (a, b) (cutting l clean))
