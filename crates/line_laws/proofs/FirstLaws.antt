-- A line has the fault of a number exactly when that number is of its first fault from the left: no good line has one octet more of it. Assumes
-- nothing.
use mathlib.Core.Path.{◌≡◌, refl, sym, ap, subst, ◌∙◌}
use mathlib.Core.Bool.{Bool, true, false}
use mathlib.Core.List.{List, [], ◌∷◌, ◌++◌, append_assoc, append-nil}
use mathlib.Core.Logic.{◌↔◌}
use Prim.Native.Nat.{ℕ, ◌≤◌}
use native.Mathlib.Omega.{arith}
use lib.Dec.{eqb, ltb}
use lib.ListN.{length, length-append}
use borrow.Author.Tests.{lt-ltb}
use Rattle.octets.specs.Pick.{pick}
use Rattle.octets.specs.Classes.{named, letter, digit, hyphen, quoted, valued, bare}
use Rattle.line_parser.specs.Parse.{hd, bad}
use Rattle.line_parser.specs.Grammar.{Line, Value, plain, in_quotes, Param, Each, Is, Word, GoodValue, GoodParam, WellFormed, led, value_text, param_text, group_text, front, render}
use Rattle.line_parser.specs.Rule.{ends, is_colon, or_end, parse_line}
use Rattle.line_parameters.specs.Whole.{Whole}
use Rattle.line_parameters.proofs.Law.{refused_law}
use Rattle.line_laws.specs.Faults.{ValuesFault, ParamsFault, LineFault}
use Rattle.line_laws.specs.FirstFault.{Opens, Leftmost, goes_on, InValues, InParams, Reading, FirstFault}
use Rattle.line_laws.proofs.FaultComplete.{fault_law}

-- a fault F of l that lies after the beginning b, in the part R: it stays whatever comes after the octet that follows b
record Cut (F : ℕ → List ℕ → Type 0) (R : List ℕ → Bool → ℕ → Type 0) (e : ℕ) (l : List ℕ) : Type 0 where
  b : List ℕ
  rest : List ℕ
  whole : l ≡ b ++ rest
  part : R b (goes_on rest) e
  stays : (c : ℕ) (r w : List ℕ) → rest ≡ c ∷ r → F e (b ++ (c ∷ w))

-- a cut of what stands after the text t and the octet c
module _ {F G : ℕ → List ℕ → Type 0} {R S : List ℕ → Bool → ℕ → Type 0} (t : List ℕ) (c : ℕ) where
  later_cut : {e : ℕ} {l : List ℕ} → ((b : List ℕ) (f : Bool) → R b f e → S (t ++ c ∷ b) f e) → ((m : List ℕ) → F e m → G e (t ++ c ∷ m))
      → Cut F R e l → Cut G S e (t ++ c ∷ l)
  later_cut {e} s g k =
      record {
        b = t ++ c ∷ k.b;
        rest = k.rest;
        whole = ap (λ (m : List ℕ). t ++ c ∷ m) k.whole ∙ sym (append_assoc t (c ∷ k.b) k.rest);
        part = s k.b (goes_on k.rest) k.part;
        stays = λ d r w q. subst (G e) (sym (append_assoc t (c ∷ k.b) (d ∷ w))) (g (k.b ++ (d ∷ w)) (k.stays d r w q));
      }

goes_on_lem : (r : List ℕ) → ltb 0 (length r) ≡ goes_on r
unfolding goes_on
goes_on_lem [] = refl
goes_on_lem (c ∷ r) = lt-ltb 0 (length (c ∷ r)) (omega arith)

-- the number after a good part where a line goes on, whatever comes later
on_number : (a b : ℕ) (r : List ℕ) (c : ℕ) (t m : List ℕ) → r ≡ c ∷ t → or_end a b (c ∷ m) ≡ or_end a b r
unfolding goes_on
on_number a b r c t m q = rw (q, goes_on_lem (c ∷ m), goes_on_lem (c ∷ t))

values_cut : {e : ℕ} {l : List ℕ} → ValuesFault e l → Cut ValuesFault InValues e l
values_cut (ValuesFault.open_quote xs r w s o) =
    record {
      b = 34 ∷ xs;
      rest = r;
      whole = refl;
      part = InValues.in_quotes xs w;
      stays = λ c t m q. ValuesFault.open_quote xs (c ∷ m) w (rw q at s) (rw q at o);
    }
values_cut (ValuesFault.not_ended v r w f d s) =
    record {
      b = value_text v;
      rest = r;
      whole = refl;
      part = rw (goes_on_lem r) (InValues.after_value v w);
      stays = λ c t m q.
          subst (λ (n : ℕ). ValuesFault n (value_text v ++ (c ∷ m))) (on_number 42 43 r c t m q)
          (ValuesFault.not_ended v (c ∷ m) w (whole_on v r c t m q f) (rw q at d) (rw q at s));
    }
  where
    whole_on : (v : Value) (r : List ℕ) (c : ℕ) (t m : List ℕ) → r ≡ c ∷ t → Whole v r → Whole v (c ∷ m)
    whole_on (in_quotes xs) r c t m q h = h
    whole_on (plain xs) r c t m q h = (rw q at h.0, λ z. rw q at (h.1 z))
values_cut (ValuesFault.later e v r w b) = later_cut (value_text v) 44 (λ m f i. InValues.later v w i) (λ m f. ValuesFault.later e v m w f) (values_cut b)

params_cut : {e : ℕ} {l : List ℕ} → ParamsFault e l → Cut ParamsFault InParams e l
unfolding Each
params_cut (ParamsFault.no_name l h) =
    record {
      b = [];
      rest = l;
      whole = refl;
      part = InParams.in_name [] tt;
      stays = λ c t m q. ParamsFault.no_name (c ∷ m) (rw q at h);
    }
params_cut (ParamsFault.no_equals a r w s d) =
    record {
      b = a;
      rest = r;
      whole = refl;
      part = InParams.in_name a w.each;
      stays = λ c t m q. ParamsFault.no_equals a (c ∷ m) w (rw q at s) (rw q at d);
    }
params_cut (ParamsFault.in_values e a r w b) = later_cut a 61 (λ m f i. InParams.in_values a w i) (λ m f. ParamsFault.in_values e a m w f) (values_cut b)
params_cut (ParamsFault.later e p r w b) = later_cut (param_text p) 59 (λ m f i. InParams.later p w i) (λ m f. ParamsFault.later e p m w f) (params_cut b)

line_cut : {e : ℕ} {l : List ℕ} → LineFault e l → Cut LineFault Reading e l
unfolding Each group_text
line_cut (LineFault.no_name l h) =
    record {
      b = [];
      rest = l;
      whole = refl;
      part = Reading.no_name [] tt;
      stays = λ c t m q. LineFault.no_name (c ∷ m) (rw q at h);
    }
line_cut (LineFault.no_name_after_group [] r w h) = absurd (omega (arith, w.some))
line_cut (LineFault.no_name_after_group (x ∷ xs) r w h) =
    let g : List ℕ = x ∷ xs in
    record {
      b = g ++ 46 ∷ [];
      rest = r;
      whole = sym (append_assoc g (46 ∷ []) r);
      part = Reading.no_name g w.each;
      stays = λ c t m q. subst (LineFault 40) (sym (append_assoc g (46 ∷ []) (c ∷ m))) (LineFault.no_name_after_group g (c ∷ m) w (rw q at h));
    }
line_cut (LineFault.in_params e g n r wg wn b) =
    later_cut (group_text g ++ n) 59 (λ m f i. Reading.in_params g n wg wn i) (λ m f. LineFault.in_params e g n m wg wn f) (params_cut b)
line_cut (LineFault.no_colon g n r wg wn s d t u) =
    record {
      b = group_text g ++ n;
      rest = r;
      whole = refl;
      part = rw (goes_on_lem r) (Reading.after_name g n wg wn);
      stays = λ c k m q.
          subst (λ (x : ℕ). LineFault x ((group_text g ++ n) ++ (c ∷ m))) (on_number 40 43 r c k m q)
          (LineFault.no_colon g n (c ∷ m) wg wn (rw q at s) (λ z. rw q at (d z)) (rw q at t) (rw q at u));
    }

-- good values that start with b
record ValuesOpen (b : List ℕ) : Type 0 where
  first : Value
  more : List Value
  w : List ℕ
  good : GoodValue first × Each GoodValue more
  text : value_text first ++ led 44 value_text more ≡ b ++ w

values_open : {b : List ℕ} {f : Bool} {e : ℕ} → InValues b f e → ValuesOpen b
unfolding Each GoodValue value_text led
values_open (InValues.in_quotes xs h) = record { first = in_quotes xs; more = []; w = 34 ∷ []; good = (h, tt); text = append-nil _ }
values_open (InValues.after_value v h) = record { first = v; more = []; w = []; good = (h, tt); text = refl }
values_open (InValues.later v h i) =
    let o = values_open i in
    record {
      first = v;
      more = o.first ∷ o.more;
      w = o.w;
      good = (h, o.good);
      text = ap (λ (m : List ℕ). value_text v ++ 44 ∷ m) o.text ∙ sym (append_assoc (value_text v) _ o.w);
    }

-- good parameters that start with b
record ParamsOpen (b : List ℕ) : Type 0 where
  first : Param
  more : List Param
  w : List ℕ
  good : GoodParam first × Each GoodParam more
  text : param_text first ++ led 59 param_text more ≡ b ++ w

-- a name with one letter more
each_more : (a : List ℕ) → Each (Is named) a → Each (Is named) (a ++ 65 ∷ [])
unfolding Each named letter digit hyphen
each_more [] h = (refl, tt)
each_more (x ∷ xs) h = (h.0, each_more xs h.1)

word_more : (a : List ℕ) → Each (Is named) a → Word (a ++ 65 ∷ [])
word_more a h = record { some = rw length-append (omega arith); each = each_more a h }

params_open : {b : List ℕ} {f : Bool} {e : ℕ} → InParams b f e → ParamsOpen b
unfolding Each GoodValue param_text value_text led
params_open (InParams.in_name a h) =
    record {
      first = record { name = a ++ 65 ∷ []; first = plain []; more = [] };
      more = [];
      w = 65 ∷ 61 ∷ [];
      good = (record { name = word_more a h; first = tt; more = tt }, tt);
      text = append-nil _ ∙ append_assoc a (65 ∷ []) (61 ∷ []);
    }
params_open (InParams.in_values a h i) =
    let o = values_open i in
    record {
      first = record { name = a; first = o.first; more = o.more };
      more = [];
      w = o.w;
      good = (record { name = h; first = o.good.0; more = o.good.1 }, tt);
      text = append-nil _ ∙ ap (λ (m : List ℕ). a ++ 61 ∷ m) o.text ∙ sym (append_assoc a _ o.w);
    }
params_open (InParams.later p h i) =
    let o = params_open i in
    record {
      first = p;
      more = o.first ∷ o.more;
      w = o.w;
      good = (h, o.good);
      text = ap (λ (m : List ℕ). param_text p ++ 59 ∷ m) o.text ∙ sym (append_assoc (param_text p) _ o.w);
    }

-- a good line starts as far as a part of a line is being read
pub line_opens : {b : List ℕ} {f : Bool} {e : ℕ} → Reading b f e → Opens b
unfolding Each named letter digit hyphen led front render
line_opens (Reading.no_name g h) = (
  record { group = g; name = 65 ∷ []; params = []; value = [] },
  65 ∷ 58 ∷ [],
  record { group = h; name = record { some = omega arith; each = (refl, tt) }; params = tt },
  append-nil _,
)
line_opens (Reading.after_name g n h k) = (
  record { group = g; name = n; params = []; value = [] },
  58 ∷ [],
  record { group = h; name = k; params = tt },
  append-nil _ ∙ sym (append_assoc (group_text g) n (58 ∷ [])),
)
line_opens (Reading.in_params g n {b = b₁} h k i) =
    let o = params_open i in (
      record { group = g; name = n; params = o.first ∷ o.more; value = [] },
      o.w ++ 58 ∷ [],
      record { group = h; name = k; params = o.good },
      append-nil _
          ∙ ap (λ (m : List ℕ). group_text g ++ (n ++ 59 ∷ (m ++ 58 ∷ []))) o.text
          ∙ ap (λ (m : List ℕ). group_text g ++ (n ++ 59 ∷ m)) (append_assoc b₁ o.w (58 ∷ []))
          ∙ sym (append_assoc (group_text g) n _)
          ∙ sym (append_assoc (group_text g ++ n) (59 ∷ b₁) (o.w ++ 58 ∷ [])),
    )

-- no line that has a fault is good
no_good : {e : ℕ} {l : List ℕ} → LineFault e l → (x : Line) → WellFormed x → l ≡ render x → ⊥
no_good {e} {l} f = (refused_law l).0 (e, (fault_law l e).1 f)

-- a line with a fault has it as its first from the left
first_of : (l : List ℕ) (e : ℕ) → LineFault e l → FirstFault e l
first_of l e f =
    let k = line_cut f in
    record {
      upto = k.b;
      rest = k.rest;
      leftmost =
          record {
            whole = k.whole;
            opens = line_opens k.part;
            dead = λ c r q o. no_good (k.stays c r o.1 q) o.0 o.2 (sym (o.3 ∙ append_assoc k.b (c ∷ []) o.1));
            bad = no_good f;
          };
      reading = k.part;
    }

-- an octet that no part of a line may have, where one follows
abbrev follower : Bool → List ℕ
follower true = 1 ∷ []
follower false = []

module _ (f : Bool) where
  follower_number : (a b : ℕ) → pick f a b ≡ or_end a b (follower f)
  follower_number a b = by f
    where
      by : (t : Bool) → pick t a b ≡ or_end a b (follower t)
      by true = refl
      by false = refl

-- tests of the follower
module _ (p : ℕ → Bool) where
  none : (f : Bool) → p 1 ≡ false → p 0 ≡ false → p (hd (follower f)) ≡ false
  none true h k = h
  none false h k = k

whole_before : (f : Bool) (v : Value) → Whole v (follower f)
unfolding bare valued quoted
whole_before f (in_quotes xs) = tt
whole_before true (plain xs) = (refl, λ z. refl)
whole_before false (plain xs) = (refl, λ z. refl)

values_broken : {b : List ℕ} {f : Bool} {e : ℕ} → InValues b f e → ValuesFault e (b ++ follower f)
unfolding quoted valued ends
values_broken {b} {f} (InValues.in_quotes xs h) = ValuesFault.open_quote xs (follower f) h (none quoted f refl refl) (none (λ (c : ℕ). eqb c 34) f refl refl)
values_broken {b} {f} (InValues.after_value v h) =
    rw (follower_number f 42 43) (ValuesFault.not_ended v (follower f) h (whole_before f v) (none (λ (c : ℕ). eqb c 44) f refl refl) (none ends f refl refl))
values_broken {b} {f} (InValues.later v {b = b₁} {e = e₁} h i) =
    subst (ValuesFault e₁) (sym (append_assoc (value_text v) (44 ∷ b₁) (follower f))) (ValuesFault.later e₁ v (b₁ ++ follower f) h (values_broken i))

params_broken : {b : List ℕ} {f : Bool} {e : ℕ} → InParams b f e → ParamsFault e (b ++ follower f)
unfolding named letter digit hyphen
params_broken {b} {f} (InParams.in_name [] h) = ParamsFault.no_name (follower f) (none named f refl refl)
params_broken {b} {f} (InParams.in_name (x ∷ xs) h) =
    ParamsFault.no_equals (x ∷ xs) (follower f) (record { some = omega arith; each = h }) (none named f refl refl) (none (λ (c : ℕ). eqb c 61) f refl refl)
params_broken {b} {f} (InParams.in_values a {b = b₁} {e = e₁} h i) =
    subst (ParamsFault e₁) (sym (append_assoc a (61 ∷ b₁) (follower f))) (ParamsFault.in_values e₁ a (b₁ ++ follower f) h (values_broken i))
params_broken {b} {f} (InParams.later p {b = b₁} {e = e₁} h i) =
    subst (ParamsFault e₁) (sym (append_assoc (param_text p) (59 ∷ b₁) (follower f))) (ParamsFault.later e₁ p (b₁ ++ follower f) h (params_broken i))

-- a line that breaks off in a part, or goes on there as no line may, has the fault of that part
line_broken : {b : List ℕ} {f : Bool} {e : ℕ} → Reading b f e → LineFault e (b ++ follower f)
unfolding named letter digit hyphen group_text is_colon
line_broken {b} {f} (Reading.no_name [] h) = LineFault.no_name (follower f) (none named f refl refl)
line_broken {b} {f} (Reading.no_name (x ∷ xs) h) =
    subst (LineFault 40) (sym (append_assoc (x ∷ xs) (46 ∷ []) (follower f)))
    (LineFault.no_name_after_group (x ∷ xs) (follower f) (record { some = omega arith; each = h }) (none named f refl refl))
line_broken {b} {f} (Reading.after_name g n h k) =
    rw (follower_number f 40 43)
    (LineFault.no_colon g n (follower f) h k (none named f refl refl) (λ z. none (λ (c : ℕ). eqb c 46) f refl refl) (none (λ (c : ℕ). eqb c 59) f refl refl) (none is_colon f refl refl))
line_broken {b} {f} (Reading.in_params g n {b = b₁} {e = e₁} h k i) =
    subst (LineFault e₁) (sym (append_assoc (group_text g ++ n) (59 ∷ b₁) (follower f))) (LineFault.in_params e₁ g n (b₁ ++ follower f) h k (params_broken i))

-- a line has one fault number
pub one_fault : {d e : ℕ} {l : List ℕ} → LineFault d l → LineFault e l → d ≡ e
one_fault {d} {e} {l} f g =
    let p = sym ((fault_law l d).1 f) ∙ (fault_law l e).1 g in
    cc

-- two beginnings of one line: they are the same, or one goes on from the other
data Beside (b r c s : List ℕ) : Type 0 where
  same : b ≡ c → r ≡ s → Beside b r c s
  shorter : (x : ℕ) (t : List ℕ) → c ≡ b ++ (x ∷ t) → r ≡ x ∷ (t ++ s) → Beside b r c s
  longer : (x : ℕ) (t : List ℕ) → b ≡ c ++ (x ∷ t) → s ≡ x ∷ (t ++ r) → Beside b r c s

beside : (b r c s : List ℕ) → b ++ r ≡ c ++ s → Beside b r c s
beside [] r [] s e = Beside.same refl e
beside [] r (x ∷ t) s e = Beside.shorter x t refl e
beside (x ∷ t) r [] s e = Beside.longer x t refl (sym e)
beside (x ∷ t) r (y ∷ u) s e = on (beside t r u s (cc))
  where
    on : Beside t r u s → Beside (x ∷ t) r (y ∷ u) s
    on (Beside.same p q) = Beside.same (cc) q
    on (Beside.shorter z v p q) = Beside.shorter z v (cc) q
    on (Beside.longer z v p q) = Beside.longer z v (cc) q

-- what opens with more opens with less
opens_less : (b : List ℕ) (x : ℕ) (t : List ℕ) → Opens (b ++ (x ∷ t)) → Opens (b ++ (x ∷ []))
opens_less b x t o = (o.0, t ++ o.1, o.2, o.3 ∙ append_assoc b (x ∷ t) o.1 ∙ sym (append_assoc b (x ∷ []) (t ++ o.1)))

-- a line has one longest beginning that a good line has
pub one_longest : {l b r c s : List ℕ} → Leftmost l b r → Leftmost l c s → (b ≡ c) × (r ≡ s)
one_longest {l} {b} {r} {c} {s} m n = on (beside b r c s (sym m.whole ∙ n.whole))
  where
    on : Beside b r c s → (b ≡ c) × (r ≡ s)
    on (Beside.same p q) = (p, q)
    on (Beside.shorter x t p q) = absurd (m.dead x (t ++ s) q (opens_less b x t (subst Opens p n.opens)))
    on (Beside.longer x t p q) = absurd (n.dead x (t ++ r) q (opens_less c x t (subst Opens p m.opens)))

-- a line has one first fault
pub one_first : {d e : ℕ} {l : List ℕ} → FirstFault d l → FirstFault e l → d ≡ e
one_first {d} {e} f g =
    let same = one_longest f.leftmost g.leftmost in
    let there : Reading f.upto (goes_on f.rest) e = rw (same.0, same.1) g.reading in
    one_fault (line_broken f.reading) (line_broken there)

fault_of : (l : List ℕ) (e : ℕ) → FirstFault e l → LineFault e l
fault_of l e f =
    let r = (refused_law l).1 f.leftmost.bad in
    let g = (fault_law l r.0).0 r.1 in
    subst (λ (n : ℕ). LineFault n l) (one_first (first_of l r.0 g) f) g

-- a fault of a line is its first from the left, in both directions
pub first_law : (l : List ℕ) (e : ℕ) → LineFault e l ↔ FirstFault e l
first_law l e = (first_of l e, fault_of l e)

-- a line is refused with a number exactly when its first fault from the left has that number
pub first_fault_law : (l : List ℕ) (e : ℕ) → (parse_line l ≡ bad e) ↔ FirstFault e l
first_fault_law l e = (λ h. first_of l e ((fault_law l e).0 h), λ f. (fault_law l e).1 (fault_of l e f))

values_number : {b : List ℕ} {f : Bool} {e : ℕ} → InValues b f e → (40 ≤ e) × (e ≤ 43)
values_number (InValues.in_quotes xs h) = (omega arith, omega arith)
values_number (InValues.after_value v {f = true} h) = (omega arith, omega arith)
values_number (InValues.after_value v {f = false} h) = (omega arith, omega arith)
values_number (InValues.later v h i) = values_number i

params_number : {b : List ℕ} {f : Bool} {e : ℕ} → InParams b f e → (40 ≤ e) × (e ≤ 43)
params_number (InParams.in_name a h) = (omega arith, omega arith)
params_number (InParams.in_values a h i) = values_number i
params_number (InParams.later p h i) = params_number i

line_number : {b : List ℕ} {f : Bool} {e : ℕ} → Reading b f e → (40 ≤ e) × (e ≤ 43)
line_number (Reading.no_name g h) = (omega arith, omega arith)
line_number (Reading.after_name g n {f = true} h k) = (omega arith, omega arith)
line_number (Reading.after_name g n {f = false} h k) = (omega arith, omega arith)
line_number (Reading.in_params g n h k i) = params_number i

-- a fault of the line rule is one of 40 to 43
pub first_number : {e : ℕ} {l : List ℕ} → FirstFault e l → (40 ≤ e) × (e ≤ 43)
first_number f = line_number f.reading
