-- The laws of octets that all pass a test, and what they say of the loose kinds. Assumes nothing.
use mathlib.Core.Path.{◌≡◌, refl, sym, ap, subst, ◌∙◌}
use mathlib.Core.Bool.{Bool, true, false, not, ◌&&◌, false≢true}
use mathlib.Core.List.{List, [], ◌∷◌, ◌++◌, append-nil}
use mathlib.Core.Logic.{◌⊎◌, inl, inr, ⊎_elim}
use Prim.Native.Nat.{ℕ, zero, suc, ◌+◌, ◌<◌, ◌≤◌}
use native.Mathlib.Omega.{arith}
use lib.Dec.{eqb, leb, ltb}
use borrow.Author.Tests.{ne_eqb, eqb-true, ltb-false, leb-false}
use Rattle.octets.specs.Classes.{bit}
use Rattle.value_kinds.specs.Octets.{Octets, any, plain, inner, comma, semicolon, backslash, escapee, neither, holds}
use Rattle.value_kinds.specs.Shapes.{Shape, one, ◌then◌, ◌or◌, many, joined, Every, Matches, fault_from}
use Rattle.value_kinds.specs.Kinds.{text_of, text, texts, component, parts, up_to, spread, most_of_name, most_of_address, components, split, shape_in, kind_in}
use Rattle.value_kinds.specs.AtOnce.{lacking, divided, fits_at_once}
use Rattle.octets.specs.Counts.{all_in, count}
use Rattle.octets.specs.Pick.{pick}
use Rattle.property_table.specs.declared.Edition.{Edition}
use Rattle.property_table.specs.declared.Edition.TheVariants.{First, Second}
use Rattle.value_kinds.specs.declared.Fault.TheVariants.{Fits}
use Rattle.octets.proofs.Bools.{by, and_both}
use Rattle.value_kinds.proofs.ShapeLaws.{fits_from}

-- octets that each make a text of the shape are a run of it
pub put : (a : Shape) (x : ℕ) (xs : List ℕ) → Matches a (x ∷ []) → Matches (many a) xs → Matches (many a) (x ∷ xs)
unfolding Matches joined Every
put a x xs h (vs, e, k) = ((x ∷ []) ∷ vs, ap (λ (l : List ℕ). x ∷ l) e, (h, k))

pub run_many : (a : Shape) (p : ℕ → Bool) → ((x : ℕ) → p x ≡ true → Matches a (x ∷ [])) → (v : List ℕ) → all_in p v ≡ true → Matches (many a) v
unfolding Matches all_in joined Every
run_many a p f [] e = ([], refl, tt)
run_many a p f (x ∷ xs) e =
    let h = and_both (p x) (all_in p xs) e in
    put a x xs (f x h.0) (run_many a p f xs h.1)

pub itself : (p : Octets) (x : ℕ) → holds p x ≡ true → Matches (one p) (x ∷ [])
unfolding Matches
itself p x h = (x, h, refl)

pub bare : (own : Octets) (x : ℕ) → holds own x ≡ true → Matches (one own or one backslash then one escapee) (x ∷ [])
unfolding Matches
bare own x h = inl (x, h, refl)

-- the first of a list's texts goes on by an octet; a mark opens a new one
module _ (mark own : Octets) where
  pub grow : (x : ℕ) (xs : List ℕ) → holds own x ≡ true → Matches (split mark (text_of own)) xs → Matches (split mark (text_of own)) (x ∷ xs)
  unfolding Matches
  grow x xs h (u, w, e, f, g) =
      (x ∷ u, w, ap (λ (l : List ℕ). x ∷ l) e, put (one own or one backslash then one escapee) x u (bare own x h) f, g)

  pub cut : (x : ℕ) (xs : List ℕ) → holds mark x ≡ true → Matches (split mark (text_of own)) xs → Matches (split mark (text_of own)) (x ∷ xs)
  unfolding Matches joined Every
  cut x xs h (u, w, e, f, (vs, q, k)) =
      ([], x ∷ xs, refl, ([], refl, tt), ((x ∷ u) ∷ vs, ap (λ (l : List ℕ). x ∷ l) (e ∙ ap (λ (l : List ℕ). u ++ l) q), ((x ∷ [], u, refl, (x, h, refl), f), k)))

  pub nothing : Matches (split mark (text_of own)) []
  unfolding Matches joined Every
  nothing = ([], [], refl, ([], refl, tt), ([], refl, tt))

  run_split : (p : ℕ → Bool) → ((x : ℕ) → p x ≡ true → (holds mark x ≡ true) ⊎ (holds own x ≡ true)) → (v : List ℕ) → all_in p v ≡ true
      → Matches (split mark (text_of own)) v
  unfolding all_in
  run_split p f [] e = nothing
  run_split p f (x ∷ xs) e =
      let h = and_both (p x) (all_in p xs) e in
      let rest = run_split p f xs h.1 in
      ⊎_elim (λ k. cut x xs k rest) (λ k. grow x xs k rest) (f x h.0)

-- an octet that is no backslash is a comma or plain; a plain one is a semicolon or one that every text takes bare
pub comma_or : (x : ℕ) → neither 92 92 x ≡ true → (holds comma x ≡ true) ⊎ (holds plain x ≡ true)
unfolding holds
comma_or x e = two (eqb x 92) (eqb x 44) e
  where
    two : (a b : Bool) → (not a && not a) ≡ true → (b ≡ true) ⊎ ((not a && not b) ≡ true)
    two true b e = absurd (false≢true e)
    two false true e = inl refl
    two false false e = inr refl

pub semicolon_or : (x : ℕ) → holds plain x ≡ true → (holds semicolon x ≡ true) ⊎ ((holds inner x ≡ true) × (holds semicolon x ≡ false))
unfolding holds
semicolon_or x e = three (eqb x 92) (eqb x 44) (eqb x 59) e
  where
    three : (a b c : Bool) → (not a && not b) ≡ true → (c ≡ true) ⊎ (((not a && (not b && not c)) ≡ true) × (c ≡ false))
    three true b c e = absurd (false≢true e)
    three false true c e = absurd (false≢true e)
    three false false true e = inl refl
    three false false false e = inr (refl, refl)

comma_no_semicolon : (x : ℕ) → holds comma x ≡ true → holds semicolon x ≡ false
unfolding holds
comma_no_semicolon x e = ne_eqb x 59 (λ f. omega (arith, eqb-true x 44 e))

-- components: an octet of the first one, a comma in it, a semicolon that ends it
module _ (x : ℕ) (xs : List ℕ) where
  pub part_first : (n : ℕ) → ((u : List ℕ) → Matches component u → Matches component (x ∷ u)) → Matches (parts (suc n)) xs → Matches (parts (suc n)) (x ∷ xs)
  unfolding Matches parts
  part_first zero f k = f xs k
  part_first (suc n) f (u, w, e, k, g) = (x ∷ u, w, ap (λ (l : List ℕ). x ∷ l) e, f u k, g)

  pub part_next : (n : ℕ) → holds semicolon x ≡ true → Matches (parts (suc n)) xs → Matches (parts (suc (suc n))) (x ∷ xs)
  unfolding Matches parts component
  part_next n h k = ([], x ∷ xs, refl, nothing comma inner, (x ∷ [], xs, refl, (x, h, refl), k))

pub part_own : (x : ℕ) → holds inner x ≡ true → (u : List ℕ) → Matches component u → Matches component (x ∷ u)
unfolding component
part_own x h u k = grow comma inner x u h k

pub part_comma : (x : ℕ) → holds comma x ≡ true → (u : List ℕ) → Matches component u → Matches component (x ∷ u)
unfolding component
part_comma x h u k = cut comma inner x u h k

count_as : (x : ℕ) (xs : List ℕ) (t : Bool) (n : ℕ) → holds semicolon x ≡ t → bit t 1 + count (holds semicolon) xs ≡ n
    → Matches (parts (suc n)) (x ∷ xs) → Matches (parts (suc (count (holds semicolon) (x ∷ xs)))) (x ∷ xs)
unfolding count
count_as x xs t n e f h = subst (λ (m : ℕ). Matches (parts (suc m)) (x ∷ xs)) (sym (ap (λ (b : Bool). bit b 1 + count (holds semicolon) xs) e ∙ f)) h

run_parts : (v : List ℕ) → all_in (neither 92 92) v ≡ true → Matches (parts (suc (count (holds semicolon) v))) v
unfolding all_in count parts component
run_parts [] e = nothing comma inner
run_parts (x ∷ xs) e =
    let h = and_both (neither 92 92 x) (all_in (neither 92 92) xs) e in
    let rest = run_parts xs h.1 in
    let m = count (holds semicolon) xs in
    let more : 1 + m ≡ suc m = omega arith in
    let same : 0 + m ≡ m = omega arith in
    ⊎_elim
    (λ k. count_as x xs false m (comma_no_semicolon x k) same (part_first x xs m (part_comma x k) rest))
    (λ k. ⊎_elim
    (λ l. count_as x xs true (suc m) l more (part_next x xs m l rest))
    (λ l. count_as x xs false m l.1 same (part_first x xs m (part_own x l.0) rest))
    (semicolon_or x k))
    (comma_or x h.0)

-- exactly so many components are some number of them from a least to a most
few_up : (m s : ℕ) (v : List ℕ) → s ≤ m → Matches (parts (suc s)) v → Matches (up_to m) v
unfolding Matches parts up_to
few_up zero zero v h k = k
few_up zero (suc s) v h k = absurd (omega arith)
few_up (suc m) zero v h k = (v, [], sym (append-nil v), k, inr refl)
few_up (suc m) (suc s) v h (u, w, e, k, (a, b, f, o, g)) = (u, w, e, k, inl (a, b, f, o, few_up m s b (omega arith) g))

pub widen : (n m s : ℕ) (v : List ℕ) → n ≤ s → s ≤ n + m → Matches (parts (suc s)) v → Matches (spread (suc n) m) v
unfolding Matches parts spread
widen zero m s v g h k = few_up m s v (omega arith) k
widen (suc n) m zero v g h k = absurd (omega arith)
widen (suc n) m (suc s) v g h (u, w, e, k, (a, b, f, o, l)) = (u, w, e, k, (a, b, f, o, widen n m s b (omega arith) (omega arith) l))

pub whole : (v : List ℕ) → Matches (many (one any)) v
unfolding Matches joined Every holds
whole [] = ([], refl, tt)
whole (x ∷ xs) = put (one any) x xs (x, refl, refl) (whole xs)

-- what the tests of each octet say
module _ (e : Edition) (v : List ℕ) where
  at_once_any : kind_in e 0 v ≡ Fits
  unfolding kind_in shape_in
  at_once_any = fits_from (many (one any)) 0 v (whole v)

  at_once_text : lacking 92 44 v ≡ true → kind_in e 1 v ≡ Fits
  unfolding kind_in shape_in text holds
  at_once_text h = fits_from text 0 v (run_many (one plain or one backslash then one escapee) (neither 92 44) (bare plain) v h)

  at_once_texts : lacking 92 92 v ≡ true → kind_in e 2 v ≡ Fits
  unfolding kind_in shape_in text texts
  at_once_texts h = fits_from texts 0 v (run_split comma plain (neither 92 92) comma_or v h)

  at_once_components : lacking 92 44 v ≡ true → kind_in e 6 v ≡ Fits
  unfolding kind_in shape_in components holds
  at_once_components h =
      fits_from components 0 v (run_split semicolon inner (neither 92 44) (λ x k. ⊎_elim (λ l. inl l) (λ l. inr l.0) (semicolon_or x k)) v h)

-- the three tests of `divided`
divided_parts : (v : List ℕ) (n hi : ℕ) → divided n hi v ≡ true
    → (n ≤ count (holds semicolon) v) × (count (holds semicolon) v < hi) × (lacking 92 92 v ≡ true)
divided_parts v n hi h =
    let c = count (holds semicolon) v in
    by (ltb c n)
    (λ q. absurd (false≢true (rw q at h)))
    (λ q. by (leb hi c)
    (λ r. absurd (false≢true (rw (q, r) at h)))
    (λ r. (ltb-false c n q, leb-false hi c r, rw (q, r) at h)))

at_once_parts : (v : List ℕ) (n m : ℕ) → divided n (suc n + m) v ≡ true → fault_from (spread (suc n) m) 0 v ≡ Fits
at_once_parts v n m h =
    let d = divided_parts v n (suc n + m) h in
    fits_from (spread (suc n) m) 0 v (widen n m (count (holds semicolon) v) v d.0 (omega (arith, d.1)) (run_parts v d.2))

at_once_name : (e : Edition) (v : List ℕ) → divided 4 (most_of_name e) v ≡ true → kind_in e 4 v ≡ Fits
unfolding kind_in shape_in
at_once_name First v h = at_once_parts v 4 0 h
at_once_name Second v h = at_once_parts v 4 2 h

at_once_address : (e : Edition) (v : List ℕ) → divided 6 (most_of_address e) v ≡ true → kind_in e 5 v ≡ Fits
unfolding kind_in shape_in
at_once_address First v h = at_once_parts v 6 0 h
at_once_address Second v h = at_once_parts v 6 11 h

-- a choice by the kind's number that is true: of the kind, or of the others
pub chosen : {A : Type 0} (k n : ℕ) (a b : Bool) → (k ≡ n → a ≡ true → A) → (b ≡ true → A) → pick (eqb k n) a b ≡ true → A
chosen k n a b f g e =
    by (eqb k n) (λ q. f (eqb-true k n q) (sym (ap (λ (t : Bool). pick t a b) q) ∙ e)) (λ q. g (sym (ap (λ (t : Bool). pick t a b) q) ∙ e))

-- a value fits its kind where the tests of each octet say so
pub at_once : (e : Edition) (k : ℕ) (v : List ℕ) → fits_at_once e k v ≡ true → kind_in e k v ≡ Fits
unfolding fits_at_once
at_once e k v t =
    chosen k 0 true _ (λ q h. its 0 q (at_once_any e v))
    (chosen k 1 (lacking 92 44 v) _ (λ q h. its 1 q (at_once_text e v h))
    (chosen k 2 (lacking 92 92 v) _ (λ q h. its 2 q (at_once_texts e v h))
    (chosen k 4 (divided 4 (most_of_name e) v) _ (λ q h. its 4 q (at_once_name e v h))
    (chosen k 5 (divided 6 (most_of_address e) v) _ (λ q h. its 5 q (at_once_address e v h))
    (chosen k 6 (lacking 92 44 v) false (λ q h. its 6 q (at_once_components e v h)) (λ h. absurd (false≢true h)))))))
    t
  where
    its : (n : ℕ) → k ≡ n → kind_in e n v ≡ Fits → kind_in e k v ≡ Fits
    its n q h = ap (λ (m : ℕ). kind_in e m v) q ∙ h
