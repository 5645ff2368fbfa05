-- The numbers that the line rule answers, and what the parts of the line say of them. Assumes nothing.
use mathlib.Core.Path.{◌≡◌, refl, sym, ap, ◌∙◌}
use mathlib.Core.Bool.{Bool, true, false}
use mathlib.Core.Option.{Option, none, some}
use mathlib.Core.List.{List, [], ◌∷◌}
use Prim.Native.Nat.{ℕ, zero, suc, ◌+◌, ◌-◌, ◌<◌, ◌≤◌}
use native.Mathlib.Omega.{arith}
use lib.Dec.{eqb}
use lib.ListN.{length, take, drop}
use borrow.Author.Tests.{ne_eqb}
use Rattle.line_parser.specs.Parse.{Parse, got, bad}
use Rattle.line_parser.specs.Grammar.{Value, Param, Line, name_end}
use Rattle.line_parser.specs.Rule.{parse_line}
use Rattle.std.specs.Prelude.{Result, Ok, Err, Option as Maybe, Some, None}
use Rattle.numbers.specs.Refusals.{number}
use Rattle.numbers.specs.declared.refusal.Reason.{Reason}
use Rattle.line_parser.specs.declared.rule.Parsed.{Parsed as ParsedLine}
use Rattle.line_parameters.specs.declared.Span.{Span}
use Rattle.octets.proofs.Bools.{clash}
use Rattle.line_parser.specs.Places.{outcome, parsed}
use Rattle.line_parameters.specs.First.{first_named, find_first, first}
use Rattle.line_parameters.specs.First.{First}
use Rattle.line_parameters.specs.First.{Between, Nothing}
use Rattle.line_parser.specs.Places.{Part as Answer}
use Rattle.line_parser.specs.Places.{Upto, Named, Listed, Parsed, Fault}
use Rattle.line_parser.proofs.Inside.{InLine, in_line}
use Rattle.line_parameters.specs.Placed.{Placed}
use Rattle.line_parameters.specs.Found.{Found}
use Rattle.line_parameters.proofs.Law.{line_law}
use Rattle.line_parameters.proofs.PlacesLaw.{places_law}
use Rattle.line_parameters.proofs.FirstLaw.{first_law}
use Rattle.octets.specs.Pick.{pick}
use Rattle.octets.proofs.Upto.{upto, alike}
use Rattle.octets.specs.Cases.{same}
use Rattle.octets.specs.Ascii.{octets}
use Rattle.property_table.specs.declared.Edition.{Edition}
use Rattle.property_table.specs.Rows.{rows, newer, all_rows, row_at, kind_at, framing, takes_value, rule_at, kind_named, says, value_kind, date_kind, zone_kind, line_kind, value_name, calscale_name}
use Rattle.property_table.proofs.RowLaws.{count_low, row_low, kind_low}
use Rattle.card_line.specs.Parts.{parted, octets_of, param_value, row_of_line, kind_of_line, Accepted, first_value, value_by, line_parts_by, line_parts_of}
use Rattle.card_line.specs.declared.Parts.{Parts}
use Rattle.card_line.specs.Parts.{line, fault}

-- a line that was read with these numbers
pub record Known (l : List ℕ) (g n c v : ℕ) : Type 0 where
  pub parts : Line
  pub parsed : parse_line l ≡ got parts v
  pub placed : Placed l parts g n c v
  pub inside : InLine l g n c v

pub known : (l : List ℕ) (g n c v : ℕ) → Parsed g n c v ≡ outcome (parse_line l) → Known l g n c v
known l g n c v e =
    let p = (places_law l g n c v).0 (sym e) in
    record {
      parts = p.0;
      parsed = (line_law l p.0 v).1 (p.1, p.2, p.3.value_start);
      placed = p.3;
      inside = in_line l g n c v (sym e);
    }

pub accepted : (l : List ℕ) (g n c v : ℕ) → Known l g n c v → Accepted l n
accepted l g n c v k = record { parts = k.parts; start = v; parsed = k.parsed; ends = k.placed.name_end }

-- a parameter that is not there, and one that is
pub value_none : (k : ℕ) (o : Option (List ℕ)) → o ≡ none → k ≡ value_kind k o
unfolding value_kind
value_none k o e = rw e

pub value_some : (k : ℕ) (o : Option (List ℕ)) (v : List ℕ) → o ≡ some v → kind_named v ≡ value_kind k o
unfolding value_kind
value_some k o v e = rw e

pub says_none : (t : List ℕ) (m : Bool) (o : Option (List ℕ)) → o ≡ none → m ≡ says t m o
unfolding says
says_none t m o e = rw e

pub says_some : (t : List ℕ) (m : Bool) (o : Option (List ℕ)) (v : List ℕ) → o ≡ some v → same v t ≡ says t m o
unfolding says
says_some t m o v e = rw e

-- what was found says whether such a parameter stands there
none_by : (l : List ℕ) (o : Option Value) (r : First) → Found l o r → r ≡ Nothing → octets_of o ≡ none
none_by l none r f e = refl
none_by l (some v) r f e = let a = f.answer in let z : ◌≡◌ {A = ℕ} 0 1 = cc in absurd (omega arith)

pub record Part (l : List ℕ) (a e : ℕ) (o : Option (List ℕ)) : Type 0 where
  pub order : a ≤ e
  pub inside : e ≤ length l
  pub octets : o ≡ some (take (e - a) (drop a l))

some_by : (l : List ℕ) (o : Option Value) (r : First) (a e : ℕ) → Found l o r → r ≡ Between a e → Part l a e (octets_of o)
some_by l none r a e f q = let z : ◌≡◌ {A = ℕ} 0 1 = cc in absurd (omega arith)
some_by l (some v) r a e f q =
    let w = f.answer in
    let ea : f.start ≡ a = cc in
    let ee : f.end ≡ e = cc in
    record {
      order = rw (← ea, ← ee) f.order;
      inside = rw (← ee) f.inside;
      octets = ap some (sym f.octets ∙ ap (λ (i : ℕ). take (f.end - i) (drop i l)) ea ∙ ap (λ (i : ℕ). take (i - a) (drop a l)) ee);
    }

module _ (l : List ℕ) (end : ℕ) (a : Accepted l end) (name : List ℕ) where
  abbrev asked : First
  asked = find_first name end (suc (length (drop end l))) (drop end l)

  found : Found l (first_named name a.parts.params) asked
  found =
      let w = (line_law l a.parts a.start).0 a.parsed in
      rw (a.ends, w.1) (first_law name a.parts w.0)

  pub value_is : first_value name l ≡ octets_of (first_named name a.parts.params)
  unfolding first_value param_value
  value_is = ap (value_by name) a.parsed

  pub value_missing : asked ≡ Nothing → first_value name l ≡ none
  value_missing e = value_is ∙ none_by l (first_named name a.parts.params) asked found e

  pub value_there : (i j : ℕ) → asked ≡ Between i j → Part l i j (first_value name l)
  value_there i j e = rw value_is (some_by l (first_named name a.parts.params) asked i j found e)

-- a line without parameters has no value of one
unnamed : (l : List ℕ) (end : ℕ) (a : Accepted l end) (name : List ℕ) → length a.parts.params ≡ 0 → first_value name l ≡ none
unfolding first_named
unnamed l end a name e = value_is l end a name ∙ by a.parts.params e
  where
    by : (ps : List Param) → length ps ≡ 0 → octets_of (first_named name ps) ≡ none
    by [] e = refl
    by (p ∷ ps) e = absurd (omega arith)

pub uncounted : (l : List ℕ) (g n c v : ℕ) → Known l g n c v → c ≡ 0 → (name : List ℕ) → first_value name l ≡ none
unfolding accepted
uncounted l g n c v k e name = unnamed l n (accepted l g n c v k) name (sym k.placed.count ∙ e)

-- so it has its row's own kind
pub own_kind : (row : ℕ) (value calscale : Option (List ℕ)) → row < 44 → value ≡ none → calscale ≡ none → kind_at row ≡ line_kind row value calscale
unfolding upto line_kind rule_at takes_value framing kind_at row_at rows newer all_rows value_kind date_kind zone_kind says
own_kind row value calscale h e f = rw (e, f) (alike kind_at (λ n. line_kind n none none) 44 refl row h)

-- the parts of a line
pub parts_by : (ed : Edition) (l : List ℕ) (g n c v : ℕ) (k : Known l g n c v) (row kind : ℕ) → row ≡ row_of_line ed k.parts
    → kind ≡ line_kind row (first_value value_name l) (first_value calscale_name l)
    → line (record { row = row; group_length = g; name_end = n; param_count = c; value_start = v; kind = kind }) ≡ line_parts_of ed l
unfolding line_parts_of kind_of_line first_value
parts_by ed l g n c v k row kind er ek =
    let t = ap (line_parts_by ed) k.parsed in
    let value = ap (value_by value_name) k.parsed in
    let calscale = ap (value_by calscale_name) k.parsed in
    let w : kind ≡ line_kind (row_of_line ed k.parts) (param_value value_name k.parts) (param_value calscale_name k.parts) = cc (ek, value, calscale, er) in
    rw t (cc (er, w, k.placed.group_length, k.placed.name_end, k.placed.count))

-- what the code learns of a line that was read, and of one that was refused
pub was_read : (l : List ℕ) {r : Result ParsedLine Reason} {x : ParsedLine} → parsed r ≡ outcome (parse_line l) → r ≡ Ok x
    → Known l x.group_length x.name_end x.param_count x.value_start
was_read l e q = known _ _ _ _ _ (sym (ap parsed q) ∙ e)

pub refused : (ed : Edition) (l : List ℕ) {r : Result ParsedLine Reason} {x : Reason} → parsed r ≡ outcome (parse_line l) → r ≡ Err x
    → fault (number x) ≡ line_parts_of ed l
unfolding line_parts_of
refused ed l {r} {x} e q = by (parse_line l) (sym (ap parsed q) ∙ e)
  where
    by : (m : Parse Line) → Fault (number x) ≡ outcome m → fault (number x) ≡ line_parts_by ed m
    by (bad y) h = let w : number x ≡ y = cc in ap fault w
    by (got y n) h = clash cc

-- the parts of a line that were answered
pub parts_ok : (ed : Edition) (l : List ℕ) {r : Result Parts Reason} {x : Parts} → parted r ≡ line_parts_of ed l → r ≡ Ok x → line x ≡ line_parts_of ed l
parts_ok ed l e q = sym (ap parted q) ∙ e

-- where a value was found or not
pub sought : (l : List ℕ) (end : ℕ) → Accepted l end → (name : List ℕ) {r : Maybe Span} {x : Span} → first r ≡ find_first name end (suc (length (drop end l))) (drop end l)
    → r ≡ Some x → Part l x.start x.end (first_value name l)
sought l end a name e q = value_there l end a name _ _ (sym e ∙ ap first q)

pub unsought : (l : List ℕ) (end : ℕ) → Accepted l end → (name : List ℕ) {r : Maybe Span} → first r ≡ find_first name end (suc (length (drop end l))) (drop end l)
    → r ≡ None → first_value name l ≡ none
unsought l end a name e q = value_missing l end a name (sym e ∙ ap first q)

pub group_low : (l : List ℕ) (g n c v : ℕ) → InLine l g n c v → length l ≤ 16384 → g ≤ 16384
group_low l zero n c v i h = omega arith
group_low l (suc g) n c v i h =
    let k : suc g + 1 < n = rw (ne_eqb (suc g) 0 (λ e. omega arith)) at i.name in
    omega (arith, i.params, i.value)

-- a kind's number is below 12
pick_low : (t : Bool) (a b : ℕ) → a < 12 → b < 12 → pick t a b < 12
pick_low true a b g h = g
pick_low false a b g h = h

named_low : (v : List ℕ) → kind_named v < 12
unfolding kind_named
named_low v = pick_low (same v (octets "text")) _ _ (omega arith) (pick_low (same v (octets "uri")) _ _ (omega arith) (omega arith))

value_low : (k : ℕ) (o : Option (List ℕ)) → k < 12 → value_kind k o < 12
unfolding value_kind
value_low k none h = h
value_low k (some v) h = named_low v

line_kind_low : (n : ℕ) (o p : Option (List ℕ)) → n < 44 → line_kind n o p < 12
unfolding line_kind date_kind zone_kind
line_kind_low n o p h =
    pick_low (eqb (rule_at n) 0) _ _ (kind_low n h)
    (pick_low (eqb (rule_at n) 1) _ _ (value_low (kind_at n) o (kind_low n h))
    (pick_low (eqb (rule_at n) 2) _ _
    (pick_low (says (octets "text") false o) _ _ (omega arith) (pick_low (says (octets "gregorian") true p) _ _ (omega arith) (omega arith)))
    (pick_low (says (octets "utc-offset") false o) _ _ (omega arith) (value_low 1 o (omega arith)))))

pub row_of_line_lem : (ed : Edition) (y : Line) → row_of_line ed y < 44
unfolding row_of_line
row_of_line_lem ed y = omega (arith, row_low ed y.name, count_low ed)

pub kind_of_line_lem : (ed : Edition) (y : Line) → kind_of_line ed y < 12
unfolding kind_of_line
kind_of_line_lem ed y = line_kind_low (row_of_line ed y) (param_value value_name y) (param_value calscale_name y) (row_of_line_lem ed y)

-- what is known of a line by its parts
pub record Read (ed : Edition) (l : List ℕ) (x : Parts) : Type 0 where
  pub parts : Line
  pub parsed : parse_line l ≡ got parts x.value_start
  pub row : x.row ≡ row_of_line ed parts
  pub group : x.group_length ≡ length parts.group
  pub params : x.param_count ≡ length parts.params
  pub kind : x.kind ≡ kind_of_line ed parts
  pub listed : x.row < 44
  pub low : x.kind < 12
  pub ends : x.name_end ≡ name_end parts
  pub inside : x.value_start ≤ length l
  pub value : drop x.value_start l ≡ parts.value

pub read : (ed : Edition) (l : List ℕ) (x : Parts) → line x ≡ line_parts_of ed l → Read ed l x
unfolding line_parts_of
read ed l x h = by (parse_line l) refl h
  where
    by : (m : Parse Line) → parse_line l ≡ m → line x ≡ line_parts_by ed m → Read ed l x
    by (bad e) p q = let z : ◌≡◌ {A = ℕ} 0 1 = cc in absurd (omega arith)
    by (got y k) p q =
        let w = known l (length y.group) (name_end y) (length y.params) k (sym (ap outcome p)) in
        let e : x ≡ record { row = row_of_line ed y; group_length = length y.group; name_end = name_end y; param_count = length y.params; value_start = k; kind = kind_of_line ed y } = cc in
        let same_parts : w.parts ≡ y = cc (w.parsed, p) in
        rw e record {
          parts = y;
          parsed = p;
          row = refl;
          group = refl;
          params = refl;
          kind = refl;
          listed = row_of_line_lem ed y;
          low = kind_of_line_lem ed y;
          ends = refl;
          inside = w.inside.value;
          value = w.placed.value ∙ ap (λ (z : Line). z.value) same_parts;
        }

-- the line rule accepts a line that has parts
abbrev pub read_accepted : (ed : Edition) (l : List ℕ) (x : Parts) → Read ed l x → Accepted l x.name_end
read_accepted ed l x r = record { parts = r.parts; start = x.value_start; parsed = r.parsed; ends = r.ends }

pub no_params : (ed : Edition) (l : List ℕ) (x : Parts) → (r : Read ed l x) → (name : List ℕ) → x.param_count ≡ 0 → first_value name l ≡ none
no_params ed l x r name e = unnamed l x.name_end (read_accepted ed l x r) name (sym r.params ∙ e)
