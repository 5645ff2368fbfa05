-- A value says one thing. Assumes nothing.
use mathlib.Core.Path.{◌≡◌, refl, sym, ap, subst, ◌∙◌}
use mathlib.Core.List.{List, [], ◌∷◌, ◌++◌}
use Prim.Native.Nat.{ℕ}
use native.Mathlib.Omega.{arith}
use Rattle.text_laws.specs.Stands.{Stands}
use Rattle.text_laws.specs.Stands as stands
use Rattle.text_laws.proofs.StandsLaws.{gives}
use Rattle.version3_laws.specs.Says.{Member, Joined, one, more, Listed, Alone, alone, Says, text, name, address, organization, other}
use Rattle.version3_laws.specs.Says as says
use Rattle.version3_laws.proofs.Small.{clash, both, worded_text, worded_name, worded_address, worded_organization}

-- text in which no mark is bare: a backslash takes the next octet along
data Free (mark : ℕ) : List ℕ → Type 0 where
  none : Free mark []
  octet : {x : ℕ} {v : List ℕ} → (x ≡ mark → ⊥) → (x ≡ 92 → ⊥) → Free mark v → Free mark (x ∷ v)
  pair : {y : ℕ} {v : List ℕ} → Free mark v → Free mark (92 ∷ y ∷ v)

free_append : {mark : ℕ} {u v : List ℕ} → Free mark u → Free mark v → Free mark (u ++ v)
free_append none g = g
free_append (octet n m f) g = octet n m (free_append f g)
free_append (pair f) g = pair (free_append f g)

module _ (mark : ℕ) (plain : mark ≡ 92 → ⊥) where
  -- the first bare mark is where it is
  cut : {u v : List ℕ} (w z : List ℕ) → Free mark u → Free mark v → u ++ (mark ∷ w) ≡ v ++ (mark ∷ z) → (u ≡ v) × (w ≡ z)
  cut w z none none e = (refl, cc)
  cut w z none (octet {x = x} n m g) e = let q : mark ≡ x = cc in absurd (n (sym q))
  cut w z none (pair g) e = let q : mark ≡ 92 = cc in absurd (plain q)
  cut w z (octet {x = x} n m f) none e = let q : x ≡ mark = cc in absurd (n q)
  cut w z (octet {x = x} {v = u} n m f) (octet {x = y} {v = v} a b g) e =
      let q : x ≡ y = cc in
      let r : u ++ (mark ∷ w) ≡ v ++ (mark ∷ z) = cc in
      let s = cut w z f g r in
      (both q s.0, s.1)
  cut w z (octet {x = x} n m f) (pair g) e = let q : x ≡ 92 = cc in absurd (m q)
  cut w z (pair f) none e = let q : mark ≡ 92 = cc in absurd (plain q)
  cut w z (pair f) (octet {x = x} n m g) e = let q : x ≡ 92 = cc in absurd (m q)
  cut w z (pair {y = a} {v = u} f) (pair {y = b} {v = v} g) e =
      let q : a ≡ b = cc in
      let r : u ++ (mark ∷ w) ≡ v ++ (mark ∷ z) = cc in
      let s = cut w z f g r in
      (both refl (both q s.0), s.1)

  -- and text without one has none
  uncut : {u v : List ℕ} (w : List ℕ) → Free mark u → Free mark v → u ++ (mark ∷ w) ≡ v → ⊥
  uncut w none none e = let z : ◌≡◌ {A = ℕ} 0 1 = cc in omega arith
  uncut w none (octet {x = x} n m g) e = let q : mark ≡ x = cc in n (sym q)
  uncut w none (pair g) e = let q : mark ≡ 92 = cc in plain q
  uncut w (octet n m f) none e = let z : ◌≡◌ {A = ℕ} 0 1 = cc in omega arith
  uncut w (octet {v = u} n m f) (octet {v = v} a b g) e = let r : u ++ (mark ∷ w) ≡ v = cc in uncut w f g r
  uncut w (octet {x = x} n m f) (pair g) e = let q : x ≡ 92 = cc in m q
  uncut w (pair f) none e = let z : ◌≡◌ {A = ℕ} 0 1 = cc in omega arith
  uncut w (pair f) (octet {x = x} n m g) e = let q : x ≡ 92 = cc in m q
  uncut w (pair {v = u} f) (pair {v = v} g) e = let r : u ++ (mark ∷ w) ≡ v = cc in uncut w f g r

  -- parts that are free of the mark, and that say one thing each
  joined_one : {A : Type 0} {R : List ℕ → A → Type 0} {u v : List ℕ} {xs ys : List A} → ((w : List ℕ) (a : A) → R w a → Free mark w) → ((w : List ℕ) (a b : A) → R w a → R w b → a ≡ b)
      → Joined mark R u xs → Joined mark R v ys → u ≡ v → xs ≡ ys
  joined_one {R = R} f g (one {v = u} {a = a} r) (one {v = v} {a = b} s) e = ap (λ (k : _). k ∷ []) (g v a b (subst (λ (l : List ℕ). R l a) e r) s)
  joined_one f g (one {v = u} {a = a} r) (more {v = v} {w = w} {a = b} s j) e = absurd (uncut w (f v b s) (f u a r) (sym e))
  joined_one f g (more {v = u} {w = w} {a = a} r i) (one {v = v} {a = b} s) e = absurd (uncut w (f u a r) (f v b s) e)
  joined_one {R = R} f g (more {v = u} {w = w} {a = a} {xs = xs} r i) (more {v = v} {w = z} {a = b} {xs = ys} s j) e =
      let c = cut w z (f u a r) (f v b s) e in
      let q : a ≡ b = g v a b (subst (λ (l : List ℕ). R l a) c.0 r) s in
      ap (λ (k : _). k ∷ xs) q ∙ ap (λ (l : List _). b ∷ l) (joined_one f g i j c.1)

member_stands : {w t : List ℕ} → Member w t → Stands w t
member_stands says.Member.none = stands.none
member_stands (says.Member.itself n s m h) = stands.itself n m (member_stands h)
member_stands (says.Member.escape e h) = stands.escape e (member_stands h)

member_one : (w t u : List ℕ) → Member w t → Member w u → t ≡ u
member_one w t u m n = sym (gives (member_stands m)) ∙ gives (member_stands n)

member_commas : {w t : List ℕ} → Member w t → Free 44 w
member_commas says.Member.none = none
member_commas (says.Member.itself n s m h) = octet n m (member_commas h)
member_commas (says.Member.escape e h) = pair (member_commas h)

member_semicolons : {w t : List ℕ} → Member w t → Free 59 w
member_semicolons says.Member.none = none
member_semicolons (says.Member.itself n s m h) = octet s m (member_semicolons h)
member_semicolons (says.Member.escape e h) = pair (member_semicolons h)

listed_semicolons : {w : List ℕ} {ts : List (List ℕ)} → Listed w ts → Free 59 w
listed_semicolons (one m) = member_semicolons m
listed_semicolons (more m j) = free_append (member_semicolons m) (octet (λ (e : 44 ≡ 59). omega arith) (λ (e : 44 ≡ 92). omega arith) (listed_semicolons j))

listed_one : (w : List ℕ) (ts us : List (List ℕ)) → Listed w ts → Listed w us → ts ≡ us
listed_one w ts us m n = joined_one 44 (λ e. omega arith) (λ v t h. member_commas h) member_one m n refl

alone_one : (w : List ℕ) (ts us : List (List ℕ)) → Alone w ts → Alone w us → ts ≡ us
alone_one w ts us (alone {t = t} m) (alone {t = u} n) = ap (λ (k : List ℕ). k ∷ []) (member_one w t u m n)

alone_semicolons : (w : List ℕ) (ts : List (List ℕ)) → Alone w ts → Free 59 w
alone_semicolons w ts (alone m) = member_semicolons m

-- what a value of each kind says, whatever says so
says_by : {k : ℕ} {v : List ℕ} {cs ds : List (List (List ℕ))} → Says k v cs → Says k v ds → cs ≡ ds
says_by (text {v = v} h) (text g) = ap (λ (t : List ℕ). (t ∷ []) ∷ []) (sym (gives h) ∙ gives g)
says_by (text h) (other e) = clash worded_text e
says_by (name j) (name i) = joined_one 59 (λ e. omega arith) (λ v t h. listed_semicolons h) listed_one j i refl
says_by (name j) (other e) = clash worded_name e
says_by (address j) (address i) = joined_one 59 (λ e. omega arith) (λ v t h. listed_semicolons h) listed_one j i refl
says_by (address j) (other e) = clash worded_address e
says_by (organization j) (organization i) = joined_one 59 (λ e. omega arith) alone_semicolons alone_one j i refl
says_by (organization j) (other e) = clash worded_organization e
says_by (other e) (text h) = clash worded_text e
says_by (other e) (name h) = clash worded_name e
says_by (other e) (address h) = clash worded_address e
says_by (other e) (organization h) = clash worded_organization e
says_by (other e) (other f) = refl

pub says_one : (k : ℕ) (v : List ℕ) (cs ds : List (List (List ℕ))) → Says k v cs → Says k v ds → cs ≡ ds
says_one k v cs ds h g = says_by h g
