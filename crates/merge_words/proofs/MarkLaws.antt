-- The marks of a card's lines are its PIDs: each of them, and at most 4,096. Assumes nothing.
use mathlib.Core.Path.{◌≡◌, refl, sym, ap, subst, ◌∙◌}
use mathlib.Core.Bool.{true}
use mathlib.Core.List.{List, [], ◌∷◌, ◌++◌, map}
use mathlib.Core.Logic.{◌⊎◌, inl, inr}
use Prim.Native.Nat.{ℕ, suc, ◌+◌, ◌*◌, ◌≤◌}
use native.Mathlib.Omega.{arith}
use lib.ListN.{length, length-append}
use Rattle.octets.specs.Pick.{pick}
use Rattle.octets.specs.Cases.{same}
use Rattle.octets.proofs.Bools.{by}
use Rattle.line_parser.specs.Grammar.{Value, plain, in_quotes, Param, Line, led, value_text, param_text, group_text, front, render}
use Rattle.line_parameters.specs.First.{value_octets}
use Rattle.reader.specs.Outcome.{ended}
use Rattle.std.specs.Prelude.{Option, Some, None}
use Rattle.merge_pids.specs.Numbers.{pid as pid_numbers, pid_of}
use Rattle.merge_pids.specs.Marks.{Mark, mark, pid_name, value_marks}
use Rattle.merge_pids.specs.declared.Pid.{Pid}
use Rattle.merge_words.specs.Lists.{Member, here, there, At, first, later}
use Rattle.merge_words.specs.Pids.{PidText, PidOf, pid}
use Rattle.merge_words.specs.Sides.{capped, MarkOf}
use Rattle.merge_words.specs.ByLines.{values_pids, params_pids, lines_pids}
use Rattle.merge_words.proofs.Members.{member_none, member_cases, member_left, member_right, member_append}
use Rattle.merge_words.proofs.NumberLaws.{pid_complete, PidIn, pid_sound, pid_long}

-- ---- each mark is a PID's

record OneMark (i : ℕ) (o : Option Pid) (m : Mark) : Type 0 where
  p : ℕ
  s : ℕ
  pid_is : o ≡ Some (pid_numbers p s)
  mark_is : m ≡ mark i p s

one_mark : (i : ℕ) (o : Option Pid) (m : Mark) → Member m (value_marks i o) → OneMark i o m
one_mark i None m h = member_none h refl
one_mark i (Some v) m h = go (member_cases h)
  where
    go : (m ≡ mark i v.first v.source) ⊎ Member m [] → OneMark i (Some v) m
    go (inl e) = record { p = v.first; s = v.source; pid_is = refl; mark_is = e }
    go (inr g) = member_none g refl

-- of one of the values
record ValueMark (i : ℕ) (vs : List Value) (m : Mark) : Type 0 where
  value : Value
  member : Member value vs
  first : ℕ
  source : ℕ
  text : PidText (value_octets value) first source
  line_is : m.line ≡ i
  first_is : m.first ≡ capped first
  source_is : m.source ≡ capped source

value_mark : (i : ℕ) (v : Value) (vs : List Value) (m : Mark) → OneMark i (pid_of (value_octets v)) m → ValueMark i (v ∷ vs) m
value_mark i v vs m o =
    let t : PidIn (value_octets v) o.p o.s = pid_sound (value_octets v) o.p o.s o.pid_is in
    record {
      value = v;
      member = here;
      first = t.first;
      source = t.source;
      text = t.text;
      line_is = ap (λ (n : Mark). n.line) o.mark_is;
      first_is = ap (λ (n : Mark). n.first) o.mark_is ∙ t.first_is;
      source_is = ap (λ (n : Mark). n.source) o.mark_is ∙ t.source_is;
    }

value_later : (i : ℕ) (v : Value) (vs : List Value) (m : Mark) → ValueMark i vs m → ValueMark i (v ∷ vs) m
value_later i v vs m r =
    record {
      value = r.value;
      member = there r.member;
      first = r.first;
      source = r.source;
      text = r.text;
      line_is = r.line_is;
      first_is = r.first_is;
      source_is = r.source_is;
    }

values_each : (i : ℕ) (vs : List Value) (m : Mark) → Member m (values_pids i vs) → ValueMark i vs m
unfolding values_pids
values_each i [] m h = member_none h refl
values_each i (v ∷ vs) m h = go (values_each i vs m) (member_append (value_marks i (pid_of (value_octets v))) (values_pids i vs) h)
  where
    go : (Member m (values_pids i vs) → ValueMark i vs m) → Member m (value_marks i (pid_of (value_octets v))) ⊎ Member m (values_pids i vs) → ValueMark i (v ∷ vs) m
    go f (inl g) = value_mark i v vs m (one_mark i (pid_of (value_octets v)) m g)
    go f (inr g) = value_later i v vs m (f g)

-- of one of the parameters
record ParamMark (i : ℕ) (ps : List Param) (m : Mark) : Type 0 where
  param : Param
  member : Member param ps
  named : same param.name pid_name ≡ true
  value : ValueMark i (param.first ∷ param.more) m

param_later : (i : ℕ) (q : Param) (qs : List Param) (m : Mark) → ParamMark i qs m → ParamMark i (q ∷ qs) m
param_later i q qs m r = record { param = r.param; member = there r.member; named = r.named; value = r.value }

params_each : (i : ℕ) (ps : List Param) (m : Mark) → Member m (params_pids i ps) → ParamMark i ps m
unfolding params_pids
params_each i [] m h = member_none h refl
params_each i (q ∷ qs) m h = by (same q.name pid_name)
    (λ e. there_or e (params_each i qs m) (member_append (values_pids i (q.first ∷ q.more)) (params_pids i qs) (rw e at h)))
    (λ e. param_later i q qs m (params_each i qs m (rw e at h)))
  where
    there_or : same q.name pid_name ≡ true → (Member m (params_pids i qs) → ParamMark i qs m)
        → Member m (values_pids i (q.first ∷ q.more)) ⊎ Member m (params_pids i qs) → ParamMark i (q ∷ qs) m
    there_or e f (inl g) = record { param = q; member = here; named = e; value = values_each i (q.first ∷ q.more) m g }
    there_or e f (inr g) = param_later i q qs m (f g)

-- of one of the lines, the first of which has the number i
record LineMark (i : ℕ) (xs : List Line) (m : Mark) : Type 0 where
  place : ℕ
  line : Line
  at : At xs place line
  line_is : m.line ≡ i + place
  first : ℕ
  source : ℕ
  is_pid : PidOf line first source
  first_is : m.first ≡ capped first
  source_is : m.source ≡ capped source

line_mark : (i : ℕ) (x : Line) (xs : List Line) (m : Mark) → ParamMark i x.params m → LineMark i (x ∷ xs) m
line_mark i x xs m r =
    let v = r.value in
    record {
      place = 0;
      line = x;
      at = first;
      line_is = v.line_is ∙ omega arith;
      first = v.first;
      source = v.source;
      is_pid = pid r.member r.named v.member v.text;
      first_is = v.first_is;
      source_is = v.source_is;
    }

line_later : (i : ℕ) (x : Line) (xs : List Line) (m : Mark) → LineMark (suc i) xs m → LineMark i (x ∷ xs) m
line_later i x xs m r =
    record {
      place = suc r.place;
      line = r.line;
      at = later r.at;
      line_is = r.line_is ∙ omega arith;
      first = r.first;
      source = r.source;
      is_pid = r.is_pid;
      first_is = r.first_is;
      source_is = r.source_is;
    }

lines_each : (i : ℕ) (xs : List Line) (m : Mark) → Member m (lines_pids i xs) → LineMark i xs m
unfolding lines_pids
lines_each i [] m h = member_none h refl
lines_each i (x ∷ xs) m h = go (lines_each (suc i) xs m) (member_append (params_pids i x.params) (lines_pids (suc i) xs) h)
  where
    go : (Member m (lines_pids (suc i) xs) → LineMark (suc i) xs m) → Member m (params_pids i x.params) ⊎ Member m (lines_pids (suc i) xs) → LineMark i (x ∷ xs) m
    go f (inl g) = line_mark i x xs m (params_each i x.params m g)
    go f (inr g) = line_later i x xs m (f g)

pub marks_each : (xs : List Line) (m : Mark) → Member m (lines_pids 0 xs) → MarkOf xs m
marks_each xs m h =
    let r = lines_each 0 xs m h in
    let e : m.line ≡ r.place = omega (arith, r.line_is) in
    record {
      line = r.line;
      first = r.first;
      source = r.source;
      at = subst (λ (k : ℕ). At xs k r.line) (sym e) r.at;
      pid = r.is_pid;
      first_is = r.first_is;
      source_is = r.source_is;
    }

-- ---- each PID has its mark

values_every : (i p s : ℕ) {v : Value} {vs : List Value} → Member v vs → PidText (value_octets v) p s → Member (mark i (capped p) (capped s)) (values_pids i vs)
unfolding values_pids
values_every i p s (here {xs = vs}) t = rw (pid_complete _ p s t) here
values_every i p s (there {x = w} {xs = vs} h) t = member_right (value_marks i (pid_of (value_octets w))) (values_every i p s h t)

params_every : (i p s : ℕ) {q : Param} {v : Value} {ps : List Param} → Member q ps → same q.name pid_name ≡ true → Member v (q.first ∷ q.more)
    → PidText (value_octets v) p s → Member (mark i (capped p) (capped s)) (params_pids i ps)
unfolding params_pids
params_every i p s (here {xs = ps}) e g t = rw e (member_left (values_every i p s g t) (params_pids i ps))
params_every i p s (there {x = q} {xs = ps} h) e g t =
    member_right (pick (same q.name pid_name) (values_pids i (q.first ∷ q.more)) []) (params_every i p s h e g t)

line_every : (i p s : ℕ) {x : Line} → PidOf x p s → Member (mark i (capped p) (capped s)) (params_pids i x.params)
line_every i p s (pid q e v t) = params_every i p s q e v t

lines_every : (i p s : ℕ) {xs : List Line} {j : ℕ} {x : Line} → At xs j x → PidOf x p s → Member (mark (i + j) (capped p) (capped s)) (lines_pids i xs)
unfolding lines_pids
lines_every i p s (first {x = x} {xs = xs}) h =
    let e : i + 0 ≡ i = omega arith in
    rw e (member_left (line_every i p s h) (lines_pids (suc i) xs))
lines_every i p s (later {y = y} {xs = xs} {i = j} a) h =
    let e : i + suc j ≡ suc i + j = omega arith in
    rw e (member_right (params_pids i y.params) (lines_every (suc i) p s a h))

pub marks_every : (xs : List Line) (i p s : ℕ) (x : Line) → At xs i x → PidOf x p s → Member (mark i (capped p) (capped s)) (lines_pids 0 xs)
marks_every xs i p s x a h =
    let e : 0 + i ≡ i = omega arith in
    rw e at (lines_every 0 p s a h)

-- ---- a PID takes four octets or more of its line

value_long : (v : Value) → length (value_octets v) ≤ length (value_text v)
unfolding value_octets value_text
value_long (plain xs) = omega arith
value_long (in_quotes xs) = omega (arith, length-append xs (34 ∷ []))

one_few : (i : ℕ) (v : List ℕ) (o : Option Pid) → pid_of v ≡ o → length (value_marks i o) * 4 ≤ suc (length v)
one_few i v None e = omega arith
one_few i v (Some w) e = let t = pid_sound v w.first w.source e in omega (arith, pid_long v t.first t.source t.text)

values_few : (i : ℕ) (vs : List Value) → length (values_pids i vs) * 4 ≤ length (led 44 value_text vs)
unfolding values_pids led
values_few i [] = omega arith
values_few i (v ∷ vs) =
    omega (
      arith,
      one_few i (value_octets v) (pid_of (value_octets v)) refl,
      value_long v,
      values_few i vs,
      length-append (value_marks i (pid_of (value_octets v))) (values_pids i vs),
      length-append (value_text v) (led 44 value_text vs),
    )

param_few : (i : ℕ) (q : Param) → length (pick (same q.name pid_name) (values_pids i (q.first ∷ q.more)) []) * 4 ≤ length (param_text q)
unfolding param_text led
param_few i q = by (same q.name pid_name)
    (λ e. rw e (omega (
      arith,
      values_few i (q.first ∷ q.more),
      length-append q.name (61 ∷ (value_text q.first ++ led 44 value_text q.more)),
      length-append (value_text q.first) (led 44 value_text q.more),
    )))
    (λ e. rw e (omega arith))

params_few : (i : ℕ) (ps : List Param) → length (params_pids i ps) * 4 ≤ length (led 59 param_text ps)
unfolding params_pids led
params_few i [] = omega arith
params_few i (q ∷ qs) =
    omega (
      arith,
      param_few i q,
      params_few i qs,
      length-append (pick (same q.name pid_name) (values_pids i (q.first ∷ q.more)) []) (params_pids i qs),
      length-append (param_text q) (led 59 param_text qs),
    )

line_few : (i : ℕ) (x : Line) → length (params_pids i x.params) * 4 ≤ length (render x)
unfolding render front
line_few i x =
    let l = led 59 param_text x.params in
    omega (
      arith,
      params_few i x.params,
      length-append (group_text x.group ++ (x.name ++ (l ++ 58 ∷ []))) x.value,
      length-append (group_text x.group) (x.name ++ (l ++ 58 ∷ [])),
      length-append x.name (l ++ 58 ∷ []),
      length-append l (58 ∷ []),
    )

pub marks_few : (i : ℕ) (xs : List Line) → length (lines_pids i xs) * 4 ≤ length (ended (map render xs))
unfolding lines_pids ended
marks_few i [] = omega arith
marks_few i (x ∷ xs) =
    omega (
      arith,
      line_few i x,
      marks_few (suc i) xs,
      length-append (params_pids i x.params) (lines_pids (suc i) xs),
      length-append (render x) (13 ∷ 10 ∷ ended (map render xs)),
    )
