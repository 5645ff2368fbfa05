-- The worked examples: what is computed of them, and the answers that follow. Assumes nothing.
use Prim.Native.Nat.{ℕ, zero, suc, ◌+◌, ◌-◌, ◌/◌, ◌≤◌}
use mathlib.Core.Path.{◌≡◌, refl, ap, ◌∙◌}
use mathlib.Core.Bool.{Bool, true, false}
use mathlib.Core.List.{List, [], ◌∷◌, ◌++◌}
use native.Mathlib.Omega.{arith}
use lib.Dec.{eqb, ltb}
use lib.ListN.{length, get_or, replicate, length-replicate, get_or-replicate, get_or-eq_default}
use lib.Seq.{get_or-append-add}
use borrow.Author.Tests.{ltb-true, ltb-false, eq-eqb}
use Rattle.octets.specs.Pick.{pick}
use Rattle.octets.specs.Room.{overlay}
use Rattle.octets.proofs.Bools.{by}
use Rattle.line_parser.specs.Grammar.{Each}
use Rattle.property_table.specs.declared.Edition.TheVariants.{First}
use Rattle.reader.specs.Outcome.{judge_of}
use Rattle.reader.specs.Outcome.{Accepted}
use Rattle.reader_grammar.proofs.Accepted.{accepted_law}
use Rattle.merge_sources.specs.Row as source
use Rattle.merge_sources.specs.Row.{row_of, same_row}
use Rattle.merge_pids.specs.Numbers as number
use Rattle.merge_pids.specs.Marks as mark
use Rattle.merge_sides.specs.Lines as lines
use Rattle.merge_sides.specs.Marks as marked
use Rattle.merge_sides.specs.Sources as own
use Rattle.merge_partners.specs.Keys as key
use Rattle.merge_partners.specs.Pairs as pairs
use Rattle.merge_partners.specs.Pairs.{Pair, pair, First as Joining, joined_first, same_uids, pairs_from}
use Rattle.merge.specs.Sides as sides
use Rattle.merge.specs.Sides.{Side, side, read_of, is_over, row_in, pairs_of, Settled, settled, settled_by, settle_of}
use Rattle.merge.specs.Plans as plans
use Rattle.merge.specs.Plans.{flatten, covers_from}
use Rattle.merge.specs.Outcome as outcome
use Rattle.merge.specs.Outcome.{planned, write_of, plan_in, judge_of as check_by, entered, plan_outcome, check_outcome}
use Rattle.merge.specs.Paired.{Pairs, Refused}
use Rattle.merge.proofs.SettleLaws.{settle_pairs}
use Rattle.merge_laws.specs.Demand11.{Both, Ready, Passing}
use Rattle.merge_laws.proofs.Walks.{covers_true, covers_all}
use Rattle.merge_laws.proofs.Passing.{Zeros}
use Rattle.merge_laws.proofs.Demand11.{demand11}
use Rattle.merge_laws.proofs.Pairing.{check_both, plan_both, settled_refuses}
use Rattle.demands.proofs.Examples.{by_octets, by_scans, by_characters, by_folds, by_lines, by_rule, by_kinds, by_dates, by_shapes, by_table, by_cards, by_tags, by_judge, by_reader}
use Rattle.demands_merge.specs.Examples.{card_a, card_b, card_c, row_a, row_b, row_c, Examples}

-- ---- what the examples compute by: to unfold a name of this part is to unfold what its own line names

by_rows : Unit {0}
unfolding source.row_of source.entries_from source.put source.filled source.least source.first_in source.same_entry source.same_entries source.same_row
by_rows = tt

by_pids : Unit {0}
unfolding number.with_digit number.digits number.after_dot number.pid_of mark.put_mark mark.put_all mark.body_at mark.width_at mark.values_marks mark.named_marks mark.params_marks
by_pids = tt

by_sides : Unit {0}
unfolding lines.field_at lines.name_start_at lines.name_at lines.value_at lines.same_from lines.same_octets lines.same_property lines.first_line lines.count_lines marked.behind_name marked.line_marks marked.marks_from marked.over_from marked.over_marks
by_sides = tt

by_own : Unit {0}
unfolding own.narrowed own.source_in own.source_at own.with_source own.with_line own.with_lines own.own_row own.over_entries
by_own = tt

by_keys : Unit {0}
unfolding key.sets_from key.uri_of key.class_from key.class_of key.class_at key.classes_of key.class_by key.key_by key.key_of key.number_at key.key_at
by_keys = tt

by_pairs : Unit {0}
unfolding pairs.join_to pairs.join_all pairs.hit_pair pairs.key_pair pairs.hit_pairs pairs.mark_pairs pairs.shared_pairs pairs.row_pairs pairs.single_pairs pairs.keys_of pairs.demanded_pairs pairs.same_uids
by_pairs = tt

by_merge : Unit {0}
unfolding sides.read_of sides.marks_of sides.row_in sides.over_side sides.is_over sides.pairs_of
by_merge = tt

by_plans : Unit {0}
unfolding plans.enter_to plans.enter_step plans.enter_all outcome.plan_in card_a card_b card_c
by_plans = tt

by_all : Unit {0}
unfolding by_octets by_scans by_characters by_folds by_lines by_rule by_kinds by_dates by_shapes by_table by_cards by_tags by_judge by_reader by_rows by_pids by_sides by_own by_keys by_pairs by_merge by_plans
by_all = tt

-- ---- walks over lines without partners

module _ (p : List ℕ) where
  pairs_add : (a b i : ℕ) → pairs_from p i (a + b) ≡ pairs_from p i a ++ pairs_from p (i + a) b
  unfolding pairs_from
  pairs_add zero b i =
      let none : zero + b ≡ b = omega arith in
      let here : i ≡ i + zero = omega arith in
      ap (pairs_from p i) none ∙ ap (λ (n : ℕ). pairs_from p n b) here
  pairs_add (suc a) b i =
      let more : suc a + b ≡ suc (a + b) = omega arith in
      let far : i + 1 + a ≡ i + suc a = omega arith in
      let rest = pairs_add a b (i + 1) ∙ ap (λ (n : ℕ). pairs_from p (i + 1) a ++ pairs_from p n b) far in
      ap (pairs_from p i) more
      ∙ by (eqb (get_or p i 0) 0) (λ e. rw e rest) (λ e. rw e (ap (λ (l : List Pair). pair i (get_or p i 0 - 1) ∷ l) rest))

  pairs_zero : (k i : ℕ) → ((n : ℕ) → i ≤ n → get_or p n 0 ≡ 0) → pairs_from p i k ≡ []
  unfolding pairs_from
  pairs_zero zero i z = refl
  pairs_zero (suc k) i z = rw (eq-eqb (get_or p i 0) 0 (z i (omega arith))) (pairs_zero k (i + 1) (λ n h. z n (omega arith)))

zero_past : (k n : ℕ) → ◌≡◌ {A = ℕ} (get_or (replicate k 0) n 0) 0
zero_past k n =
    by (ltb n k)
    (λ e. get_or-replicate k n 0 0 (ltb-true n k e))
    (λ e.
    let past : length (replicate {A = ℕ} k 0) ≤ n = omega (arith, length-replicate {A = ℕ} k 0, ltb-false n k e) in
    get_or-eq_default (replicate k 0) 0 past)

-- ---- what is computed

abbrev A : Side
A = side (read_of card_a).copy (read_of card_a).records 1 8

abbrev B : Side
B = side (read_of card_b).copy (read_of card_b).records 1 8

abbrev C : Side
C = side (read_of card_c).copy (read_of card_c).records 1 8

judge_a : judge_of card_a ≡ Accepted 1 8
unfolding by_all
judge_a = refl

judge_b : judge_of card_b ≡ Accepted 1 8
unfolding by_all
judge_b = refl

judge_c : judge_of card_c ≡ Accepted 1 8
unfolding by_all
judge_c = refl

in_a : is_over A (row_of row_a) ≡ false
unfolding by_all
in_a = refl

in_b : is_over B (row_of row_b) ≡ false
unfolding by_all
in_b = refl

in_c : is_over C (row_of row_c) ≡ false
unfolding by_all
in_c = refl

row_a_lem : same_row (row_in A) (row_of row_a) ≡ true
unfolding by_all
row_a_lem = refl

row_b_lem : same_row (row_in B) (row_of row_b) ≡ true
unfolding by_all
row_b_lem = refl

row_c_lem : same_row (row_in C) (row_of row_c) ≡ true
unfolding by_all
row_c_lem = refl

uid_b : same_uids A.copy A.records 8 B.copy B.records 8 ≡ true
unfolding by_all
uid_b = refl

uid_c : same_uids A.copy A.records 8 C.copy C.records 8 ≡ true
unfolding by_all
uid_c = refl

-- the partners of A's lines: 3 of line 2 and 5 of line 4, counted from 1
abbrev P : List ℕ
P = 0 ∷ 0 ∷ 4 ∷ 0 ∷ 6 ∷ replicate 4091 0

joins_b : pairs_of A B (row_of row_a) (row_of row_b) Zeros ≡ joined_first true P
unfolding by_all
joins_b = refl

abbrev F : Joining
F = pairs_of A C (row_of row_a) (row_of row_c) Zeros

joins_c : F.ok ≡ false
unfolding by_all
joins_c = refl

-- ---- what follows

abbrev both_b : Both card_a card_b
both_b =
    record { cards = 1; lines = 8; first = (accepted_law First card_a 1 8).0 judge_a; cards_too = 1; lines_too = 8; second = (accepted_law First card_b 1 8).0 judge_b }

abbrev both_c : Both card_a card_c
both_c =
    record { cards = 1; lines = 8; first = (accepted_law First card_a 1 8).0 judge_a; cards_too = 1; lines_too = 8; second = (accepted_law First card_c 1 8).0 judge_c }

first_pairs : pairs_from P 0 5 ≡ pair 2 3 ∷ pair 4 5 ∷ []
unfolding pairs_from
first_pairs = refl

past_five : (n : ℕ) → 5 ≤ n → get_or P n 0 ≡ 0
past_five n h =
    let so : n ≡ 5 + (n - 5) = omega arith in
    ap (λ (k : ℕ). get_or P k 0) so ∙ get_or-append-add (0 ∷ 0 ∷ 4 ∷ 0 ∷ 6 ∷ []) (replicate 4091 0) (n - 5) 0 ∙ zero_past 4091 (n - 5)

all_pairs : pairs_from P 0 4096 ≡ pair 2 3 ∷ pair 4 5 ∷ []
all_pairs = pairs_add P 5 4091 0 ∙ ap (λ (l : List Pair). l ++ pairs_from P 5 4091) first_pairs ∙ ap (λ (l : List Pair). pair 2 3 ∷ pair 4 5 ∷ l) (pairs_zero P 4091 5 past_five)

settle_b : settle_of A B (row_of row_a) (row_of row_b) Zeros ≡ settled (Pairs 2) P
settle_b =
    settle_pairs A B (row_of row_a) (row_of row_b) Zeros in_a in_b row_a_lem row_b_lem uid_b ∙ ap settled_by joins_b
    ∙ ap (λ (l : List Pair). settled (Pairs (length l)) P) all_pairs

settle_c : settle_of A C (row_of row_a) (row_of row_c) Zeros ≡ settled (Refused 70 0) F.partners
settle_c =
    settle_pairs A C (row_of row_a) (row_of row_c) Zeros in_a in_c row_a_lem row_c_lem uid_c
    ∙ ap (λ (t : Bool). settled (pick t (Pairs (length (pairs_from F.partners 0 4096))) (Refused 70 0)) F.partners) joins_c

two_planned : plan_outcome card_a card_b row_a row_b (replicate 6 7) ≡ planned (Pairs 2) (2 ∷ 3 ∷ 4 ∷ 5 ∷ 7 ∷ 7 ∷ [])
unfolding plans.flatten
two_planned =
    plan_both card_a card_b row_a row_b both_b (replicate 6 7) ∙ ap (λ (s : Settled). write_of s (replicate 6 7)) settle_b
    ∙ ap (λ (l : List Pair). planned (Pairs 2) (overlay (flatten l) (replicate 6 7))) all_pairs

too_small : plan_outcome card_a card_b row_a row_b (replicate 3 7) ≡ planned (Refused 14 4) (replicate 3 7)
too_small = plan_both card_a card_b row_a row_b both_b (replicate 3 7) ∙ ap (λ (s : Settled). write_of s (replicate 3 7)) settle_b

checks : (plan : List ℕ) → check_outcome card_a card_b row_a row_b plan ≡ entered (plan_in A B plan) P plan
checks plan = check_both card_a card_b row_a row_b both_b plan ∙ ap (λ (s : Settled). check_by s A B plan) settle_b

-- partners that have both pairs cover P
has_both : (q : List ℕ) → get_or q 2 0 ≡ 4 → get_or q 4 0 ≡ 6 → (n j : ℕ) → get_or P n 0 ≡ j + 1 → get_or q n 0 ≡ j + 1
has_both q a b zero j e = absurd (omega (arith, e))
has_both q a b (suc zero) j e = absurd (omega (arith, e))
has_both q a b (suc (suc zero)) j e = a ∙ e
has_both q a b (suc (suc (suc zero))) j e = absurd (omega (arith, e))
has_both q a b (suc (suc (suc (suc zero)))) j e = b ∙ e
has_both q a b (suc (suc (suc (suc (suc n))))) j e = absurd (omega (arith, e, zero_past 4091 n))

accepts : (plan q : List ℕ) → plan_in A B plan ≡ joined_first true q → get_or q 2 0 ≡ 4 → get_or q 4 0 ≡ 6 → check_outcome card_a card_b row_a row_b plan ≡ Pairs (length plan / 2)
accepts plan q e a b = checks plan ∙ ap (λ (f : Joining). entered f P plan) e ∙ rw (covers_all P q (has_both q a b) 4096 0)

refuses : (plan : List ℕ) → (plan_in A B plan).ok ≡ false → check_outcome card_a card_b row_a row_b plan ≡ Refused 73 0
refuses plan e =
    checks plan ∙ ap (λ (t : Bool). pick t (pick (covers_from P (plan_in A B plan).partners 0 4096) (Pairs (length plan / 2)) (Refused 73 0)) (Refused 73 0)) e

-- one without the second pair
lacks : (plan q : List ℕ) → plan_in A B plan ≡ joined_first true q → get_or q 4 0 ≡ 0 → check_outcome card_a card_b row_a row_b plan ≡ Refused 73 0
lacks plan q e a =
    checks plan ∙ ap (λ (f : Joining). entered f P plan) e
    ∙ by (covers_from P q 0 4096)
    (λ c. absurd (omega (arith, a, covers_true P q 4096 0 c 4 (omega arith) (omega arith) 5 refl)))
    (λ c. rw c)

in_order : plan_in A B (2 ∷ 3 ∷ 4 ∷ 5 ∷ []) ≡ joined_first true P
unfolding by_all
in_order = refl

other_order : plan_in A B (4 ∷ 5 ∷ 2 ∷ 3 ∷ []) ≡ joined_first true P
unfolding by_all
other_order = refl

more_tel : plan_in A B (2 ∷ 3 ∷ 4 ∷ 5 ∷ 5 ∷ 4 ∷ []) ≡ joined_first true (0 ∷ 0 ∷ 4 ∷ 0 ∷ 6 ∷ 5 ∷ replicate 4090 0)
unfolding by_all
more_tel = refl

more_begin : plan_in A B (2 ∷ 3 ∷ 4 ∷ 5 ∷ 0 ∷ 0 ∷ []) ≡ joined_first true (1 ∷ 0 ∷ 4 ∷ 0 ∷ 6 ∷ replicate 4091 0)
unfolding by_all
more_begin = refl

left_out : plan_in A B (2 ∷ 3 ∷ []) ≡ joined_first true (0 ∷ 0 ∷ 4 ∷ replicate 4093 0)
unfolding by_all
left_out = refl

odd_count : (plan_in A B (2 ∷ 3 ∷ 4 ∷ 5 ∷ 0 ∷ [])).ok ≡ false
unfolding by_all
odd_count = refl

twice : (plan_in A B (2 ∷ 3 ∷ 4 ∷ 5 ∷ 2 ∷ 3 ∷ [])).ok ≡ false
unfolding by_all
twice = refl

no_line : (plan_in A B (2 ∷ 3 ∷ 4 ∷ 5 ∷ 99 ∷ 0 ∷ [])).ok ≡ false
unfolding by_all
no_line = refl

two_properties : (plan_in A B (2 ∷ 3 ∷ 4 ∷ 5 ∷ 0 ∷ 1 ∷ [])).ok ≡ false
unfolding by_all
two_properties = refl

passing : (r : Ready card_a card_b row_a row_b) × Passing r (2 ∷ 3 ∷ 4 ∷ 5 ∷ [])
passing =
    let z = (demand11.pairs card_a card_b row_a row_b (2 ∷ 3 ∷ 4 ∷ 5 ∷ []) 2).0 (accepts (2 ∷ 3 ∷ 4 ∷ 5 ∷ []) P in_order refl refl) in
    (z.0, z.1)

pub examples : Examples
unfolding Each
examples =
    record {
      planned_two = two_planned;
      no_room = too_small;
      two = (accepts (2 ∷ 3 ∷ 4 ∷ 5 ∷ []) P in_order refl refl, (accepts (4 ∷ 5 ∷ 2 ∷ 3 ∷ []) P other_order refl refl, tt));
      three = (
        accepts (2 ∷ 3 ∷ 4 ∷ 5 ∷ 5 ∷ 4 ∷ []) (0 ∷ 0 ∷ 4 ∷ 0 ∷ 6 ∷ 5 ∷ replicate 4090 0) more_tel refl refl,
        (accepts (2 ∷ 3 ∷ 4 ∷ 5 ∷ 0 ∷ 0 ∷ []) (1 ∷ 0 ∷ 4 ∷ 0 ∷ 6 ∷ replicate 4091 0) more_begin refl refl, tt),
      );
      another = (
        lacks (2 ∷ 3 ∷ []) (0 ∷ 0 ∷ 4 ∷ replicate 4093 0) left_out refl,
        (
          refuses (2 ∷ 3 ∷ 4 ∷ 5 ∷ 0 ∷ []) odd_count,
          (refuses (2 ∷ 3 ∷ 4 ∷ 5 ∷ 2 ∷ 3 ∷ []) twice, (refuses (2 ∷ 3 ∷ 4 ∷ 5 ∷ 99 ∷ 0 ∷ []) no_line, (refuses (2 ∷ 3 ∷ 4 ∷ 5 ∷ 0 ∷ 1 ∷ []) two_properties, tt))),
        ),
      );
      met = passing;
      none_planned = (settled_refuses card_a card_c row_a row_c both_c 70 0 F.partners settle_c).plan;
      none = (settled_refuses card_a card_c row_a row_c both_c 70 0 F.partners settle_c).check;
    }
