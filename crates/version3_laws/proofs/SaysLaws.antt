-- What a value says, and the value as it is read: every text of its kind says something, and written anew it is the value renewed.
-- Assumes nothing.
use mathlib.Core.Path.{◌≡◌, refl, sym, ap, subst, ◌∙◌}
use mathlib.Core.Bool.{Bool, true, false, ◌||◌, false≢true, true≢false}
use mathlib.Core.List.{List, [], ◌∷◌, ◌++◌, append-nil, append_assoc}
use Prim.Native.Nat.{ℕ, zero, suc, ◌+◌, ◌-◌}
use native.Mathlib.Omega.{arith}
use lib.Dec.{eqb}
use lib.ListN.{length, replicate}
use borrow.Author.Tests.{eqb-true, eqb-false, ne_eqb}
use Rattle.octets.specs.Pick.{pick}
use Rattle.octets.proofs.Bools.{by, or_none_left, or_none_right}
use Rattle.text_marks.specs.Marks.{special, marked}
use Rattle.text_escaping.specs.Escaped.{letter, in_escape, escaped}
use Rattle.text_laws.specs.Stands.{Escape, backslash, comma, semicolon, small_n, capital_n, Stands}
use Rattle.text_laws.specs.Stands as stands
use Rattle.line_parser.specs.Grammar.{led}
use Rattle.line_laws.specs.Lined.{Unbroken}
use Rattle.value_kinds.specs.Octets.{escapee, holds}
use Rattle.value_kinds.specs.Octets as octets
use Rattle.value_laws.specs.Words.{In, Text, Escaped, ends, bare, bare_comma, bare_semicolon, escape}
use Rattle.version3_text.specs.Renewed.{small, renewed, semicolons}
use Rattle.version3_line.specs.Lines.{needed, parted, anew_by, lacking, filled_by}
use Rattle.version3_parameters.proofs.EachLaws.{led_append}
use Rattle.version3_laws.specs.Says.{Member, none, Joined, one, more, Listed, Alone, alone, worded, Says, text, name, address, organization, other, between, text_in, component, written, wanted, blank, padded}
use Rattle.version3_laws.specs.Says as says
use Rattle.version3_laws.proofs.TextLaws.{inner_is, is_inner, comma_is, semicolon_is, backslash_is, marks_in, renewed_nil, renewed_octet, renewed_mark, renewed_pair, semicolons_count, escaped_append, renewed_append}
use Rattle.version3_laws.proofs.Small.{worded_text, worded_name, worded_address, worded_organization}

-- ---- escapes

code_in : {y x : ℕ} → Escape y x → In escapee y
unfolding holds
code_in backslash = refl
code_in comma = refl
code_in semicolon = refl
code_in small_n = refl
code_in capital_n = refl

in_code_lem : (y : ℕ) → In escapee y → (x : ℕ) × Escape y x
unfolding holds
in_code_lem y h = go (eqb y 92) (eqb y 44) (eqb y 59) (eqb y 110) (eqb y 78) refl refl refl refl refl h
  where
    is : (k x : ℕ) → y ≡ k → Escape k x → (x : ℕ) × Escape y x
    is k x q e = (x, subst (λ (n : ℕ). Escape n x) (sym q) e)

    go : (a b c d e : Bool) → eqb y 92 ≡ a → eqb y 44 ≡ b → eqb y 59 ≡ c → eqb y 110 ≡ d → eqb y 78 ≡ e → (a || (b || (c || (d || e)))) ≡ true → (x : ℕ) × Escape y x
    go true b c d e p q r s t z = is 92 92 (eqb-true y 92 p) backslash
    go false true c d e p q r s t z = is 44 44 (eqb-true y 44 q) comma
    go false false true d e p q r s t z = is 59 59 (eqb-true y 59 r) semicolon
    go false false false true e p q r s t z = is 110 10 (eqb-true y 110 s) small_n
    go false false false false true p q r s t z = is 78 10 (eqb-true y 78 t) capital_n
    go false false false false false p q r s t z = absurd (false≢true z)

-- the escape that is written for the octet is the one renewed
anew_code : {y x : ℕ} → Escape y x → in_escape x ≡ 92 ∷ small y ∷ []
unfolding in_escape marked special letter small
anew_code backslash = refl
anew_code comma = refl
anew_code semicolon = refl
anew_code small_n = refl
anew_code capital_n = refl

plain_code : (x : ℕ) → (x ≡ 92 → ⊥) → (x ≡ 44 → ⊥) → (x ≡ 59 → ⊥) → (x ≡ 10 → ⊥) → in_escape x ≡ x ∷ []
unfolding in_escape marked special
plain_code x a b c d = simp (ne_eqb x 92 a, ne_eqb x 44 b, ne_eqb x 59 c, ne_eqb x 10 d)

semicolon_code : in_escape 59 ≡ 92 ∷ 59 ∷ []
unfolding in_escape marked special letter
semicolon_code = refl

-- ---- from what is said to text by its kind

pub stands_text : {v t : List ℕ} → Stands v t → Text v
stands_text stands.none = (0, ends)
stands_text (stands.itself {x = x} n m h) =
    let r = stands_text h in
    by (eqb x 59)
    (λ e. (suc r.0, bare_semicolon (subst (λ (k : ℕ). In octets.semicolon k) (sym (eqb-true x 59 e)) marks_in.2) r.1))
    (λ e. (r.0, bare (is_inner x m n (eqb-false x 59 e)) r.1))
stands_text (stands.escape e h) = let r = stands_text h in (r.0, escape marks_in.0 (code_in e) r.1)

pub member_text : {v t : List ℕ} → Member v t → Escaped 0 0 v
member_text none = ends
member_text (says.itself {x = x} n s m h) = bare (is_inner x m n s) (member_text h)
member_text (says.escape e h) = escape marks_in.0 (code_in e) (member_text h)

alone_text : {v : List ℕ} {ts : List (List ℕ)} → Alone v ts → Escaped 0 0 v
alone_text (alone m) = member_text m

listed_text : {v : List ℕ} {ts : List (List ℕ)} → Listed v ts → (c : ℕ) × Escaped c 0 v
listed_text (one m) = (0, member_text m)
listed_text (more m j) =
    let r = listed_text j in
    (0 + suc r.0, escaped_append (member_text m) (bare_comma marks_in.1 r.1))

pub components_text : {v : List ℕ} {cs : List (List (List ℕ))} → Joined 59 Listed v cs → (c : ℕ) × (s : ℕ) × Escaped c s v × (length cs ≡ suc s)
components_text (one l) = let r = listed_text l in (r.0, 0, r.1, refl)
components_text (more l j) =
    let a = listed_text l in
    let r = components_text j in
    (a.0 + r.0, 0 + suc r.1, escaped_append a.1 (bare_semicolon marks_in.2 r.2), omega (arith, r.3))

pub units_text : {v : List ℕ} {cs : List (List (List ℕ))} → Joined 59 Alone v cs → Text v
units_text (one l) = (0, alone_text l)
units_text (more l j) =
    let r = units_text j in
    (0 + suc r.0, escaped_append (alone_text l) (bare_semicolon marks_in.2 r.1))

-- ---- from text to what it says

-- octets more at the start, which go to the first part
grows : {A : Type 0} {mark : ℕ} {R : List ℕ → A → Type 0} {v : List ℕ} {xs : List A} (p : List ℕ)
    → ((u : List ℕ) (a : A) → R u a → (b : A) × R (p ++ u) b) → Joined mark R v xs → (bs : List A) × Joined mark R (p ++ v) bs × (length bs ≡ length xs)
grows p g (one {v = v} {a = a} r) = let b = g v a r in (b.0 ∷ [], one b.1, refl)
grows {A} {mark} {R} p g (more {v = v} {w = w} {a = a} {xs = xs} r j) =
    let b = g v a r in
    (b.0 ∷ xs, subst (λ (l : List ℕ). Joined mark R l (b.0 ∷ xs)) (append_assoc p v (mark ∷ w)) (more b.1 j), refl)

member_octet : (x : ℕ) → In octets.inner x → (u t : List ℕ) → Member u t → (s : List ℕ) × Member (x ∷ u) s
member_octet x h u t m = let n = inner_is x h in (x ∷ t, says.itself n.1 n.2 n.0 m)

member_pair : (b x : ℕ) → In octets.backslash b → In escapee x → (u t : List ℕ) → Member u t → (s : List ℕ) × Member (b ∷ x ∷ u) s
member_pair b x h k u t m =
    let c = in_code_lem x k in
    (c.0 ∷ t, subst (λ (n : ℕ). Member (n ∷ x ∷ u) (c.0 ∷ t)) (sym (backslash_is b h)) (says.escape c.1 m))

listed_grows : (p : List ℕ) → ((u t : List ℕ) → Member u t → (s : List ℕ) × Member (p ++ u) s) → (u : List ℕ) (ts : List (List ℕ)) → Listed u ts
    → (ss : List (List ℕ)) × Listed (p ++ u) ss
listed_grows p g u ts l = let r = grows p g l in (r.0, r.1)

alone_grows : (p : List ℕ) → ((u t : List ℕ) → Member u t → (s : List ℕ) × Member (p ++ u) s) → {u : List ℕ} {ts : List (List ℕ)} → Alone u ts
    → (ss : List (List ℕ)) × Alone (p ++ u) ss
alone_grows p g (alone {v = v} {t = t} m) = let r = g v t m in (r.0 ∷ [], alone r.1)

comma_grows : (x : ℕ) → In octets.comma x → (u : List ℕ) (ts : List (List ℕ)) → Listed u ts → (ss : List (List ℕ)) × Listed (x ∷ u) ss
comma_grows x h u ts l = ([] ∷ ts, subst (λ (n : ℕ). Listed (n ∷ u) ([] ∷ ts)) (sym (comma_is x h)) (more none l))

pub text_components : {c s : ℕ} {v : List ℕ} → Escaped c s v → (cs : List (List (List ℕ))) × Joined 59 Listed v cs × (length cs ≡ suc s)
text_components ends = (blank ∷ [], one (one none), refl)
text_components (bare {x = x} h e) =
    let r = text_components e in
    let q = grows (x ∷ []) (listed_grows (x ∷ []) (member_octet x h)) r.1 in
    (q.0, q.1, q.2 ∙ r.2)
text_components (bare_comma {x = x} h e) =
    let r = text_components e in
    let q = grows (x ∷ []) (comma_grows x h) r.1 in
    (q.0, q.1, q.2 ∙ r.2)
text_components (bare_semicolon {x = x} {v = v} h e) =
    let r = text_components e in
    (blank ∷ r.0, subst (λ (n : ℕ). Joined 59 Listed (n ∷ v) (blank ∷ r.0)) (sym (semicolon_is x h)) (more (one none) r.1), ap suc r.2)
text_components (escape {b = b} {x = x} h k e) =
    let r = text_components e in
    let q = grows (b ∷ x ∷ []) (listed_grows (b ∷ x ∷ []) (member_pair b x h k)) r.1 in
    (q.0, q.1, q.2 ∙ r.2)

units : {c s : ℕ} {v : List ℕ} → Escaped c s v → c ≡ 0 → (cs : List (List (List ℕ))) × Joined 59 Alone v cs
units ends z = (blank ∷ [], one (alone none))
units (bare {x = x} h e) z =
    let r = units e z in
    let q = grows (x ∷ []) (λ u ts l. alone_grows (x ∷ []) (member_octet x h) l) r.1 in
    (q.0, q.1)
units (bare_comma h e) z = absurd (omega arith)
units (bare_semicolon {x = x} {v = v} h e) z =
    let r = units e z in
    (blank ∷ r.0, subst (λ (n : ℕ). Joined 59 Alone (n ∷ v) (blank ∷ r.0)) (sym (semicolon_is x h)) (more (alone none) r.1))
units (escape {b = b} {x = x} h k e) z =
    let r = units e z in
    let q = grows (b ∷ x ∷ []) (λ u ts l. alone_grows (b ∷ x ∷ []) (member_pair b x h k) l) r.1 in
    (q.0, q.1)

pub text_units : {v : List ℕ} → Text v → (cs : List (List (List ℕ))) × Joined 59 Alone v cs
text_units t = units t.1 refl

stood : {c s : ℕ} {v : List ℕ} → Escaped c s v → c ≡ 0 → (t : List ℕ) × Stands v t
stood ends z = ([], stands.none)
stood (bare {x = x} h e) z =
    let r = stood e z in
    let n = inner_is x h in
    (x ∷ r.0, stands.itself n.1 n.0 r.1)
stood (bare_comma h e) z = absurd (omega arith)
stood (bare_semicolon {x = x} h e) z =
    let r = stood e z in
    let q = semicolon_is x h in
    (x ∷ r.0, stands.itself (λ (f : x ≡ 44). omega arith) (λ (f : x ≡ 92). omega arith) r.1)
stood (escape {b = b} {x = x} {v = v} h k e) z =
    let r = stood e z in
    let c = in_code_lem x k in
    (c.0 ∷ r.0, subst (λ (n : ℕ). Stands (n ∷ x ∷ v) (c.0 ∷ r.0)) (sym (backslash_is b h)) (stands.escape c.1 r.1))

pub text_stands : {v : List ℕ} → Text v → (t : List ℕ) × Stands v t
text_stands t = stood t.1 refl

-- ---- escaped anew

pub stands_anew : {v t : List ℕ} → Stands v t → Unbroken v → escaped t ≡ renewed true v
unfolding escaped Unbroken
stands_anew stands.none u = sym (renewed_nil true)
stands_anew (stands.itself {x = x} {w = w} {t = t} n m h) u =
    by (eqb x 59)
    (λ e.
    let q = eqb-true x 59 e in
    subst (λ (k : ℕ). in_escape k ++ escaped t ≡ renewed true (k ∷ w)) (sym q)
    (ap (λ (l : List ℕ). l ++ escaped t) semicolon_code ∙ ap (λ (l : List ℕ). 92 ∷ 59 ∷ l) (stands_anew h u.1) ∙ sym (renewed_mark w)))
    (λ e.
    ap (λ (l : List ℕ). l ++ escaped t) (plain_code x m n (eqb-false x 59 e) u.0.1) ∙ ap (λ (l : List ℕ). x ∷ l) (stands_anew h u.1)
    ∙ sym (renewed_octet true x w m (ne_eqb x 59 (eqb-false x 59 e))))
stands_anew (stands.escape {y = y} {x = x} {w = w} {t = t} e h) u =
    ap (λ (l : List ℕ). l ++ escaped t) (anew_code e) ∙ ap (λ (l : List ℕ). 92 ∷ small y ∷ l) (stands_anew h u.1.1) ∙ sym (renewed_pair true y w)

member_anew : {v t : List ℕ} → Member v t → Unbroken v → escaped t ≡ renewed false v
unfolding escaped Unbroken
member_anew none u = sym (renewed_nil false)
member_anew (says.itself {x = x} {w = w} {t = t} n s m h) u =
    ap (λ (l : List ℕ). l ++ escaped t) (plain_code x m n s u.0.1) ∙ ap (λ (l : List ℕ). x ∷ l) (member_anew h u.1) ∙ sym (renewed_octet false x w m refl)
member_anew (says.escape {y = y} {x = x} {w = w} {t = t} e h) u =
    ap (λ (l : List ℕ). l ++ escaped t) (anew_code e) ∙ ap (λ (l : List ℕ). 92 ∷ small y ∷ l) (member_anew h u.1.1) ∙ sym (renewed_pair false y w)

unbroken_left : (u w : List ℕ) → Unbroken (u ++ w) → Unbroken u
unfolding Unbroken
unbroken_left [] w h = tt
unbroken_left (x ∷ u) w h = (h.0, unbroken_left u w h.1)

pub unbroken_right : (u w : List ℕ) → Unbroken (u ++ w) → Unbroken w
unfolding Unbroken
unbroken_right [] w h = h
unbroken_right (x ∷ u) w h = unbroken_right u w h.1

led_between : {A : Type 0} {mark : ℕ} {R : List ℕ → A → Type 0} {v : List ℕ} {xs : List A} (f : A → List ℕ) → Joined mark R v xs → led mark f xs ≡ mark ∷ between mark f xs
unfolding led
led_between f (one r) = refl
led_between f (more r j) = refl

-- parts that are text, with a mark between them that is no backslash
joined_anew : {A : Type 0} {mark : ℕ} {R : List ℕ → A → Type 0} {v : List ℕ} {xs : List A} (f : A → List ℕ) → (mark ≡ 92 → ⊥)
    → ((u : List ℕ) (a : A) → R u a → (c : ℕ) × (s : ℕ) × Escaped c s u) → ((u : List ℕ) (a : A) → R u a → Unbroken u → f a ≡ renewed false u)
    → Joined mark R v xs → Unbroken v → between mark f xs ≡ renewed false v
unfolding led
joined_anew f n g h (one {v = v} {a = a} r) u = append-nil (f a) ∙ h v a r u
joined_anew {mark = mark} f n g h (more {v = v} {w = w} {a = x} {xs = xs} r j) u =
    let a = unbroken_left v (mark ∷ w) u in
    let b = unbroken_right v (mark ∷ w) u in
    let e = g v x r in
    ap (λ (l : List ℕ). f x ++ l) (led_between f j) ∙ ap (λ (l : List ℕ). l ++ (mark ∷ between mark f xs)) (h v x r a)
    ∙ ap (λ (l : List ℕ). renewed false v ++ (mark ∷ l)) (joined_anew f n g h j (unbroken_right (mark ∷ []) w b))
    ∙ ap (λ (l : List ℕ). renewed false v ++ l) (sym (renewed_octet false mark w n refl))
    ∙ sym (renewed_append false e.2 (mark ∷ w))

text_of : (k : ℕ) → worded k ≡ true → (t : List ℕ) → text_in k t ≡ escaped t
unfolding text_in
text_of k e t = rw e

listed_anew : (k : ℕ) → worded k ≡ true → (v : List ℕ) (ts : List (List ℕ)) → Listed v ts → Unbroken v → component k ts ≡ renewed false v
unfolding component
listed_anew k e v ts l u =
    joined_anew (text_in k) (λ f. omega arith) (λ v t m. (0, 0, member_text m)) (λ v t m b. text_of k e t ∙ member_anew m b) l u

alone_anew : (k : ℕ) → worded k ≡ true → {v : List ℕ} {ts : List (List ℕ)} → Alone v ts → Unbroken v → component k ts ≡ renewed false v
unfolding component led
alone_anew k e (alone {t = t} m) u = append-nil (text_in k t) ∙ text_of k e t ∙ member_anew m u

pub unworded : (k : ℕ) → worded k ≡ false → (v : List ℕ) → anew_by k v ≡ v
unfolding worded anew_by parted
unworded k e v = go (eqb k 1) (eqb k 4) (eqb k 5) (eqb k 6) e
  where
    go : (a b c d : Bool) → (a || (b || (c || d))) ≡ false → pick a (renewed true v) (pick (b || (c || d)) (renewed false v) v) ≡ v
    go false false false false e = refl
    go true b c d e = absurd (true≢false e)
    go false true c d e = absurd (true≢false e)
    go false false true d e = absurd (true≢false e)
    go false false false true e = absurd (true≢false e)

as_it_is : (k : ℕ) → worded k ≡ false → (v : List ℕ) → written k ((v ∷ []) ∷ []) ≡ v
unfolding written component text_in led
as_it_is k e v = rw e (append-nil ((v ++ [])) ∙ append-nil v)

-- a value written anew is the value renewed octet by octet
pub anew_law : {k : ℕ} {v : List ℕ} {cs : List (List (List ℕ))} → Says k v cs → Unbroken v → written k cs ≡ anew_by k v
unfolding written component anew_by parted led
anew_law (text {v = v} {t = t} h) u = append-nil (text_in 1 t ++ []) ∙ append-nil (text_in 1 t) ∙ text_of 1 worded_text t ∙ stands_anew h u
anew_law (name j) u = joined_anew (component 4) (λ f. omega arith) (λ v ts l. let r = listed_text l in (r.0, 0, r.1)) (listed_anew 4 worded_name) j u
anew_law (address j) u = joined_anew (component 5) (λ f. omega arith) (λ v ts l. let r = listed_text l in (r.0, 0, r.1)) (listed_anew 5 worded_address) j u
anew_law (organization j) u = joined_anew (component 6) (λ f. omega arith) (λ v ts l. (0, 0, alone_text l)) (λ v ts l b. alone_anew 6 worded_organization l b) j u
anew_law (other {k = k} {v = v} e) u = as_it_is k e v ∙ sym (unworded k e v)

-- ---- filled up

some_components : {mark : ℕ} {R : List ℕ → List (List ℕ) → Type 0} {v : List ℕ} {cs : List (List (List ℕ))} → Joined mark R v cs
    → (c : List (List ℕ)) × (ds : List (List (List ℕ))) × (cs ≡ c ∷ ds)
some_components (one {a = a} r) = (a, [], refl)
some_components (more {a = a} {xs = xs} r j) = (a, xs, refl)

pub says_some : {k : ℕ} {v : List ℕ} {cs : List (List (List ℕ))} → Says k v cs → (c : List (List ℕ)) × (ds : List (List (List ℕ))) × (cs ≡ c ∷ ds)
says_some (text {t = t} h) = (t ∷ [], [], refl)
says_some (name j) = some_components j
says_some (address j) = some_components j
says_some (organization j) = some_components j
says_some (other {v = v} e) = (v ∷ [], [], refl)

blank_written : (k : ℕ) → component k blank ≡ []
unfolding component text_in escaped led
blank_written k = go (worded k)
  where
    go : (a : Bool) → pick a (escaped []) [] ++ [] ≡ []
    go true = refl
    go false = refl

blanks_led : (k n : ℕ) → led 59 (component k) (replicate n blank) ≡ replicate n 59
unfolding led
blanks_led k zero = refl
blanks_led k (suc n) = ap (λ (l : List ℕ). 59 ∷ (l ++ led 59 (component k) (replicate n blank))) (blank_written k) ∙ ap (λ (l : List ℕ). 59 ∷ l) (blanks_led k n)

-- components that say nothing, behind others, are written as semicolons
blanks_written : (k n : ℕ) (cs : List (List (List ℕ))) (c : List (List ℕ)) (ds : List (List (List ℕ))) → cs ≡ c ∷ ds
    → written k (cs ++ replicate n blank) ≡ written k cs ++ replicate n 59
unfolding written
blanks_written k n cs c ds e =
    subst (λ (bs : List (List (List ℕ))). between 59 (component k) (bs ++ replicate n blank) ≡ between 59 (component k) bs ++ replicate n 59) (sym e)
    (ap (λ (l : List ℕ). component k c ++ l) (led_append 59 (component k) ds (replicate n blank) ∙ ap (λ (l : List ℕ). led 59 (component k) ds ++ l) (blanks_led k n))
    ∙ sym (append_assoc (component k c) (led 59 (component k) ds) (replicate n 59)))

pub no_name : (k : ℕ) → worded k ≡ false → eqb k 4 ≡ false
unfolding worded
no_name k e = or_none_left (eqb k 4) (eqb k 5 || eqb k 6) (or_none_right (eqb k 1) (eqb k 4 || (eqb k 5 || eqb k 6)) e)

pub no_address : (k : ℕ) → worded k ≡ false → eqb k 5 ≡ false
unfolding worded
no_address k e =
    or_none_left (eqb k 5) (eqb k 6) (or_none_right (eqb k 4) (eqb k 5 || eqb k 6) (or_none_right (eqb k 1) (eqb k 4 || (eqb k 5 || eqb k 6)) e))

-- how many semicolons a value lacks is how many components it lacks
lacking_law : {k : ℕ} {v : List ℕ} {cs : List (List (List ℕ))} → Says k v cs → wanted k - length cs ≡ lacking k v
unfolding wanted lacking needed
lacking_law (text {v = v} h) = omega arith
lacking_law (name {v = v} j) = let r = components_text j in omega (arith, semicolons_count r.2, r.3)
lacking_law (address {v = v} j) = let r = components_text j in omega (arith, semicolons_count r.2, r.3)
lacking_law (organization {v = v} j) = omega arith
lacking_law (other {k = k} {v = v} e) = go (eqb k 4) (eqb k 5) (no_name k e) (no_address k e)
  where
    go : (a b : Bool) → a ≡ false → b ≡ false → pick a 5 (pick b 7 0) - 1 ≡ pick a 4 (pick b 6 0) - length (semicolons v)
    go false false p q = omega arith
    go true b p q = absurd (true≢false p)
    go false true p q = absurd (true≢false q)

-- a value filled up and written anew is the value renewed octet by octet, and semicolons
pub filled_law : {k : ℕ} {v : List ℕ} {cs : List (List (List ℕ))} → Says k v cs → Unbroken v → written k (padded k cs) ≡ filled_by k v
unfolding padded filled_by
filled_law {k} {v} {cs} s u =
    let c = says_some s in
    blanks_written k (wanted k - length cs) cs c.0 c.1 c.2
    ∙ ap (λ (l : List ℕ). l ++ replicate (wanted k - length cs) 59) (anew_law s u)
    ∙ ap (λ (n : ℕ). anew_by k v ++ replicate n 59) (lacking_law s)
