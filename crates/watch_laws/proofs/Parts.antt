-- An input as its ended lines and the open one, and the values that are kept. Assumes nothing.
use mathlib.Core.Path.{◌≡◌, refl, sym, ap, subst, ◌∙◌}
use mathlib.Core.Bool.{true, false, not, ◌&&◌, ◌||◌}
use mathlib.Core.List.{List, [], ◌∷◌, ◌++◌, append_assoc}
use mathlib.Core.Logic.{◌⊎◌, inl, inr}
use Prim.Native.Nat.{ℕ, zero, suc, ◌+◌, ◌-◌, ◌<◌, ◌≤◌}
use native.Mathlib.Omega.{arith}
use lib.Dec.{eqb, ltb, leb}
use lib.ListN.{length, get_or, take, drop, replicate, length-drop, length-append, take-append-drop}
use lib.Seq.{length-take-le, take-take, take-suc, take-length}
use borrow.Author.Tests.{ltb-true, ltb-false, eqb-true, eq-eqb, ne_eqb, leb-true}
use Rattle.octets.proofs.Bools.{by, and_both, or_some}
use Rattle.line_breaks.specs.Lone.{first_lone, ends_cr_lf}
use Rattle.line_folds.specs.Folds.{line_length, unfolded}
use Rattle.line_folds.specs.Logical.{raw_lines}
use Rattle.property_table.specs.declared.Edition.TheVariants.{First}
use Rattle.card_state.specs.State.{Card, Step, Next, Refused, Flawed, fresh_card}
use Rattle.card_judge.specs.Judge.{judge_line}
use Rattle.reader.specs.Outcome.{ended}
use Rattle.reader_walk.specs.Walk.{onward, settled, judge_lines}
use Rattle.watch_arrivals.specs.Arrivals.{tail_from, lone_from, next_from}
use Rattle.watch_arrivals.proofs.ArrivalLaws.{next_tail, next_least, ends_law, line_left, lone_known, lone_first}
use Rattle.watch_buffer.specs.Buffer.{padded}
use Rattle.watch_lines.specs.Parting.{Parting, ended_lines, open_line}
use Rattle.watch_lines.specs.Values.{halted, values_on, values_next, values_from}
use Rattle.watch_lines.proofs.PartingLaws.{parted_step, parted_open}
use Rattle.watch_lines.proofs.RunLaws.{open_law}
use Rattle.watch.specs.Octets.{judged, altid_octets, known, buffer_after}
use Rattle.watch.proofs.ArriveLaws.{known_line, buffer_zero}
use Rattle.watch.proofs.FaultLaws.{known_over, known_lone, halted_append}

-- a list that ends with CR LF
two_last : (l : List ℕ) → 2 ≤ length l → get_or l (length l - 2) 0 ≡ 13 → get_or l (length l - 1) 0 ≡ 10 → l ≡ take (length l - 2) l ++ (13 ∷ 10 ∷ [])
two_last l h e f =
    let a : suc (length l - 1) ≡ length l = omega arith in
    let b : suc (length l - 2) ≡ length l - 1 = omega arith in
    sym (take-length l) ∙ ap (λ (n : ℕ). take n l) (sym a) ∙ take-suc l (length l - 1) 0 (omega arith)
    ∙ ap (λ (x : ℕ). take (length l - 1) l ++ (x ∷ [])) f
    ∙ ap (λ (n : ℕ). take n l ++ (10 ∷ [])) (sym b)
    ∙ ap (λ (x : List ℕ). x ++ (10 ∷ [])) (take-suc l (length l - 2) 0 (omega arith))
    ∙ ap (λ (x : ℕ). (take (length l - 2) l ++ (x ∷ [])) ++ (10 ∷ [])) e
    ∙ append_assoc (take (length l - 2) l) (13 ∷ []) (10 ∷ [])

crlf_last : (l : List ℕ) → tail_from 0 l ≡ 2 → 2 ≤ length l → l ≡ take (length l - 2) l ++ (13 ∷ 10 ∷ [])
unfolding ends_cr_lf
crlf_last l t h =
    let e : ends_cr_lf l ≡ true = ends_law l ∙ eq-eqb (tail_from 0 l) 2 t in
    let p = (and_both (not (ltb (length l) 2)) (eqb (get_or l (length l - 2) 0) 13 && eqb (get_or l (length l - 1) 0) 10) e).1 in
    let q = and_both (eqb (get_or l (length l - 2) 0) 13) (eqb (get_or l (length l - 1) 0) 10) p in
    two_last l h (eqb-true (get_or l (length l - 2) 0) 13 q.0) (eqb-true (get_or l (length l - 1) 0) 10 q.1)

-- a line that has ended, its CR LF, and the rest
line_parts : (l : List ℕ) → next_from 0 l < length l → l ≡ take (next_from 0 l - 2) l ++ (13 ∷ 10 ∷ drop (next_from 0 l) l)
line_parts l h =
    let k = next_from 0 l in
    let n : length (take k l) ≡ k = length-take-le k l (omega arith) in
    let e = crlf_last (take k l) (next_tail 0 l h) (omega (arith, n, next_least l h)) in
    let t : take (length (take k l) - 2) (take k l) ≡ take (k - 2) l = ap (λ (m : ℕ). take (m - 2) (take k l)) n ∙ take-take (k - 2) k l (omega arith) in
    sym (take-append-drop k l)
    ∙ ap (λ (x : List ℕ). x ++ drop k l) (e ∙ ap (λ (x : List ℕ). x ++ (13 ∷ 10 ∷ [])) t)
    ∙ append_assoc (take (k - 2) l) (13 ∷ 10 ∷ []) (drop k l)

-- an input that is parted so
abbrev Joined : List ℕ → Parting → Type 0
Joined i q = i ≡ ended q.ended ++ q.left

parts_by : (n : ℕ) (i : List ℕ) → length i ≤ n → i ≡ ended (ended_lines i) ++ open_line i
unfolding ended
parts_by zero i h = subst (Joined i) (sym (parted_open i (omega arith))) refl
parts_by (suc n) i h =
    by (ltb (next_from 0 i) (length i))
    (λ p.
    let lt = ltb-true (next_from 0 i) (length i) p in
    let e = parted_step i lt in
    let k = next_from 0 i in
    let rest = parts_by n (drop k i) (omega (arith, length-drop k i, next_least i lt, lt)) in
    subst (Joined i) (sym e)
    (line_parts i lt
    ∙ ap (λ (x : List ℕ). take (k - 2) i ++ (13 ∷ 10 ∷ x)) rest
    ∙ sym (append_assoc (take (k - 2) i) (13 ∷ 10 ∷ ended (ended_lines (drop k i))) (open_line (drop k i)))))
    (λ p. subst (Joined i) (sym (parted_open i (ltb-false (next_from 0 i) (length i) p))) refl)

pub parts : (i : List ℕ) → i ≡ ended (ended_lines i) ++ open_line i
parts i = parts_by (length i) i (omega arith)

-- the reader's lines
fine_first : (i : List ℕ) → first_lone i ≡ length i → lone_from 0 i ≡ length i + 1
fine_first i h =
    let z : eqb (first_lone i + 1) (length i) ≡ false = ne_eqb (first_lone i + 1) (length i) (λ q. omega (arith, h, q)) in
    lone_first i ∙ rw z (omega (arith, h))

pub last : (i : List ℕ) → 0 < length i → first_lone i ≡ length i → ends_cr_lf i ≡ true → raw_lines i ≡ ended_lines i ++ (take (length (open_line i) - 2) (open_line i) ∷ [])
last i n h e =
    let f = fine_first i h in
    let o = open_law i in
    let t : tail_from 0 i ≡ 2 = eqb-true (tail_from 0 i) 2 (sym (ends_law i) ∙ e) in
    let k : line_length (open_line i) ≡ length (open_line i) - 2 = omega (arith, line_left (open_line i) (o.fine f) o.goes, o.tail, t) in
    o.lines f n ∙ ap (λ (m : ℕ). ended_lines i ++ (take m (open_line i) ∷ [])) k

-- a fault that is known
pub known_by : (i : List ℕ) → known i ≡ true → (16384 < length i) ⊎ ((lone_from 0 i ≤ length i) ⊎ (halted (judged i) ≡ true))
unfolding known
known_by i h = by_first (or_some (ltb 16384 (length i)) (leb (lone_from 0 i) (length i) || halted (judged i)) h)
  where
    by_second : ((leb (lone_from 0 i) (length i) ≡ true) ⊎ (halted (judged i) ≡ true)) → (16384 < length i) ⊎ ((lone_from 0 i ≤ length i) ⊎ (halted (judged i) ≡ true))
    by_second (inl e) = inr (inl (leb-true (lone_from 0 i) (length i) e))
    by_second (inr e) = inr (inr e)

    by_first : ((ltb 16384 (length i) ≡ true) ⊎ ((leb (lone_from 0 i) (length i) || halted (judged i)) ≡ true)) → (16384 < length i) ⊎ ((lone_from 0 i ≤ length i) ⊎ (halted (judged i) ≡ true))
    by_first (inl e) = inl (ltb-true 16384 (length i) e)
    by_first (inr e) = by_second (or_some (leb (lone_from 0 i) (length i)) (halted (judged i)) e)

pub stays : (i c : List ℕ) → known i ≡ true → known (i ++ c) ≡ true
stays i c h = by_fault (known_by i h)
  where
    by_fault : ((16384 < length i) ⊎ ((lone_from 0 i ≤ length i) ⊎ (halted (judged i) ≡ true))) → known (i ++ c) ≡ true
    by_fault (inl e) = known_over (i ++ c) (omega (arith, e, length-append i c))
    by_fault (inr (inl e)) = known_lone (i ++ c) (omega (arith, e, lone_known 0 i c e, length-append i c))
    by_fault (inr (inr e)) = known_line (i ++ c) (ap halted (halted_append i c e) ∙ e)

pub zeros : (i : List ℕ) → known i ≡ true → buffer_after i ≡ replicate 16384 0
unfolding padded
zeros i h = buffer_zero i h

-- no value is kept outside a card
gone_step : (j : Step) (p : ℕ) (x : List ℕ) (g : Card → Step) (f : Card → List ℕ) (d : Card) → ((e : Card) → g e ≡ Next d → f e ≡ []) → onward (settled p x j) g ≡ Next d → values_on j f ≡ []
gone_step (Next c) p x g f d k e = k c e
gone_step (Refused n q) p x g f d k e = refl
gone_step (Flawed n o) p x g f d k e = refl

gone_from : (ls : List (List ℕ)) (p : ℕ) (c : Card) (a : List ℕ) (d : Card) → (c.phase ≡ 0 → a ≡ []) → judge_lines First ls p c ≡ Next d → d.phase ≡ 0 → values_from ls p c a ≡ []
unfolding judge_lines values_from
gone_from [] p c a d h e z =
    let q : c ≡ d = cc in
    h (ap (λ (x : Card). x.phase) q ∙ z)
gone_from (l ∷ ls) p c a d h e z =
    gone_step (judge_line First c p (unfolded l)) p l (judge_lines First ls (p + length l + 2)) (λ x. values_from ls (p + length l + 2) x (values_next a c l x)) d
    (λ x q. gone_from ls (p + length l + 2) x (values_next a c l x) d (λ y. rw y) q z) e

pub gone : (i : List ℕ) (d : Card) → judged i ≡ Next d → d.phase ≡ 0 → altid_octets i ≡ []
unfolding judged altid_octets
gone i d e z = gone_from (ended_lines i) 0 fresh_card [] d (λ y. refl) e z
