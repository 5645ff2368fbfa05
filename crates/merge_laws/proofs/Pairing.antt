-- The answers of planner and checker are what the plain words say, for all inputs, rows, plans and rooms. Assumes nothing.
use mathlib.Core.Path.{◌≡◌, refl, sym, ap, ◌∙◌}
use mathlib.Core.Bool.{Bool, true, false, false≢true}
use mathlib.Core.List.{List}
use mathlib.Core.Logic.{◌⊎◌, inl, inr}
use Prim.Native.Nat.{ℕ, ◌*◌, ◌/◌}
use lib.Dec.{ltb}
use lib.ListN.{length}
use Rattle.octets.specs.Pick.{pick}
use Rattle.octets.specs.Room.{overlay}
use Rattle.octets.proofs.Bools.{by}
use Rattle.line_parser.specs.Grammar.{Line}
use Rattle.property_table.specs.declared.Edition.TheVariants.{First}
use Rattle.reader.specs.Outcome.{judge_of}
use Rattle.reader.specs.Outcome.{Verdict}
use Rattle.reader.specs.Outcome.{Accepted, Refused as Halted}
use Rattle.reader_grammar.specs.Inputs.{InputOf}
use Rattle.reader_grammar.specs.Refusals.{RefusedBy}
use Rattle.reader_grammar.proofs.Accepted.{accepted_law}
use Rattle.reader_grammar.proofs.Refused.{refused_law}
use Rattle.merge_sources.specs.Row.{row_of, same_row}
use Rattle.merge_sources.specs.declared.Source.{Source}
use Rattle.merge_partners.specs.Pairs.{Pair, Joined, pairs_from}
use Rattle.merge.specs.Plans.{flatten, covers_from}
use Rattle.merge.specs.Sides.{Side, side, read_of, row_in, is_over, Settled, settled, pairs_of, settle_of}
use Rattle.merge.specs.Outcome.{planned, write_of, plan_rows, plan_outcome, plan_in, judge_of as check_by, check_rows, check_outcome}
use Rattle.merge.specs.Paired.{Pairs, Refused}
use Rattle.merge.proofs.SettleLaws.{first_over, second_over, first_row, second_row, no_uids, settle_pairs}
use Rattle.merge_words.specs.Sources.{RowOf, Over}
use Rattle.merge_words.specs.Sides.{Held, SideOf}
use Rattle.merge_words.proofs.SideLaws.{sides_law}
use Rattle.merge_laws.specs.Demand11.{Both, TooMuch, WrongRow, Ready, Passing, Proposed, Judged}
use Rattle.merge_laws.specs.Demand11.Judged.{first, second}
use Rattle.merge_laws.proofs.Walks.{from_rises}
use Rattle.merge_laws.proofs.Lines.{Uids, uids_words, words_uids}
use Rattle.merge_laws.proofs.Passing.{Zeros, Join, Enter, plan_demanded, demanded_plan, plan_passes, entered_passes, passes_joined, passes_entered, passes_covers}

-- a refusal of both, whatever the plan and the room
pub record Refuses (i j : List ℕ) (m n : List Source) (a p : ℕ) : Type 0 where
  pub check : (plan : List ℕ) → check_outcome i j m n plan ≡ Refused a p
  pub plan : (out : List ℕ) → plan_outcome i j m n out ≡ planned (Refused a p) out

accepted : {i : List ℕ} {k n : ℕ} → InputOf i k n → (read_of i).answer ≡ Accepted k n
accepted {i} {k} {n} h = sides_law.judged i ∙ (accepted_law First i k n).1 h

halted : {i : List ℕ} {a p : ℕ} → RefusedBy i a p → (read_of i).answer ≡ Halted a p
halted {i} {a} {p} h = sides_law.judged i ∙ (refused_law First i a p).1 h

-- a judge's refusal
pub judged_refuses : (i j : List ℕ) (m n : List Source) (a p : ℕ) → Judged i j a p → Refuses i j m n a p
unfolding check_outcome check_rows plan_outcome plan_rows
judged_refuses i j m n a p (first h) = record { check = λ plan. rw (halted h); plan = λ out. rw (halted h) }
judged_refuses i j m n a p (second k l h g) = record { check = λ plan. rw (accepted h, halted g); plan = λ out. rw (accepted h, halted g) }

-- two accepted inputs
module _ (i j : List ℕ) (m n : List Source) (b : Both i j) where
  abbrev X : Side
  X = side (read_of i).copy (read_of i).records b.cards b.lines

  abbrev Y : Side
  Y = side (read_of j).copy (read_of j).records b.cards_too b.lines_too

  sx : SideOf X b.first.lines
  sx = sides_law.sides i b.cards b.lines b.first

  sy : SideOf Y b.second.lines
  sy = sides_law.sides j b.cards_too b.lines_too b.second

  abbrev Settle : Settled
  Settle = settle_of X Y (row_of m) (row_of n) Zeros

  pub check_both : (plan : List ℕ) → check_outcome i j m n plan ≡ check_by Settle X Y plan
  unfolding check_outcome check_rows
  check_both plan = rw (accepted b.first, accepted b.second)

  pub plan_both : (out : List ℕ) → plan_outcome i j m n out ≡ write_of Settle out
  unfolding plan_outcome plan_rows
  plan_both out = rw (accepted b.first, accepted b.second)

  pub settled_refuses : (a p : ℕ) (q : List ℕ) → Settle ≡ settled (Refused a p) q → Refuses i j m n a p
  settled_refuses a p q e =
      record {
        check = λ plan. check_both plan ∙ ap (λ (s : Settled). check_by s X Y plan) e;
        plan = λ out. plan_both out ∙ ap (λ (s : Settled). write_of s out) e;
      }

  neither : is_over X (row_of m) ≡ false → is_over Y (row_of n) ≡ false → TooMuch b m n → ⊥
  neither e f (inl x) = false≢true (sym e ∙ (sx.over m).1 x)
  neither e f (inr y) = false≢true (sym f ∙ (sy.over n).1 y)

  -- 71
  pub over_refuses : TooMuch b m n → Refuses i j m n 71 0
  over_refuses o =
      by (is_over X (row_of m))
      (λ e. settled_refuses 71 0 Zeros (first_over X Y (row_of m) (row_of n) Zeros e))
      (λ e.
      by (is_over Y (row_of n))
      (λ f. settled_refuses 71 0 Zeros (second_over X Y (row_of m) (row_of n) Zeros e f))
      (λ f. absurd (neither e f o)))

  pub over_or : TooMuch b m n ⊎ (TooMuch b m n → ⊥)
  over_or =
      by (is_over X (row_of m))
      (λ e. inl (inl ((sx.over m).0 e)))
      (λ e.
      by (is_over Y (row_of n))
      (λ f. inl (inr ((sy.over n).0 f)))
      (λ f. inr (neither e f)))

  module _ (within : TooMuch b m n → ⊥) where
    in_x : is_over X (row_of m) ≡ false
    in_x = by (is_over X (row_of m)) (λ e. absurd (within (inl ((sx.over m).0 e)))) (λ e. e)

    in_y : is_over Y (row_of n) ≡ false
    in_y = by (is_over Y (row_of n)) (λ e. absurd (within (inr ((sy.over n).0 e)))) (λ e. e)

    -- 72
    pub row_refuses : WrongRow b m n → Refuses i j m n 72 0
    row_refuses w =
        by (same_row (row_in X) (row_of m))
        (λ e.
        by (same_row (row_in Y) (row_of n))
        (λ f. absurd (both e f w))
        (λ f. settled_refuses 72 0 Zeros (second_row X Y (row_of m) (row_of n) Zeros in_x in_y e f)))
        (λ e. settled_refuses 72 0 Zeros (first_row X Y (row_of m) (row_of n) Zeros in_x in_y e))
      where
        both : same_row (row_in X) (row_of m) ≡ true → same_row (row_in Y) (row_of n) ≡ true → WrongRow b m n → ⊥
        both e f (inl d) = d ((sx.row m in_x).0 e)
        both e f (inr d) = d ((sy.row n in_y).0 f)

    pub row_or : WrongRow b m n ⊎ (RowOf 0 b.first.lines m × RowOf 0 b.second.lines n)
    row_or =
        by (same_row (row_in X) (row_of m))
        (λ e.
        by (same_row (row_in Y) (row_of n))
        (λ f. inr ((sx.row m in_x).0 e, (sy.row n in_y).0 f))
        (λ f. inl (inr (λ r. false≢true (sym f ∙ (sy.row n in_y).1 r)))))
        (λ e. inl (inl (λ r. false≢true (sym e ∙ (sx.row m in_x).1 r))))

-- two sides that are ready
pub data Fate {i j : List ℕ} {m n : List Source} (r : Ready i j m n) : Type 0 where
  none : ((p : List ℕ) → Passing r p → ⊥) → Refuses i j m n 70 0 → Fate r
  some : (ps : List Pair) → Proposed r ps
      → ((plan : List ℕ) → (Passing r plan × (check_outcome i j m n plan ≡ Pairs (length plan / 2))) ⊎ ((Passing r plan → ⊥) × (check_outcome i j m n plan ≡ Refused 73 0)))
      → ((out : List ℕ) → plan_outcome i j m n out
      ≡ pick (ltb (length out) (length ps * 2)) (planned (Refused 14 (length ps * 2)) out) (planned (Pairs (length ps)) (overlay (flatten ps) out))) → Fate r

module _ (i j : List ℕ) (m n : List Source) (r : Ready i j m n) where
  abbrev B : Both i j
  B = r.both

  abbrev SX : Side
  SX = X i j m n B

  abbrev SY : Side
  SY = Y i j m n B

  abbrev xs : List Line
  xs = B.first.lines

  abbrev ys : List Line
  ys = B.second.lines

  not_x : is_over SX (row_of m) ≡ false
  not_x = in_x i j m n B r.within

  not_y : is_over SY (row_of n) ≡ false
  not_y = in_y i j m n B r.within

  is_x : SideOf SX xs
  is_x = sx i j m n B

  is_y : SideOf SY ys
  is_y = sy i j m n B

  held : Held SX.copy xs m
  held = is_x.held m not_x r.row_first

  held_too : Held SY.copy ys n
  held_too = is_y.held n not_y r.row_second

  row_x : same_row (row_in SX) (row_of m) ≡ true
  row_x = (is_x.row m not_x).1 r.row_first

  row_y : same_row (row_in SY) (row_of n) ≡ true
  row_y = (is_y.row n not_y).1 r.row_second

  within_x : Over SX.cards xs m → ⊥
  within_x o = r.within (inl o)

  within_y : Over SY.cards ys n → ⊥
  within_y o = r.within (inr o)

  abbrev UidsOf : Bool
  UidsOf = Uids SX SY xs ys is_x is_y

  abbrev JoinOf : Joined
  JoinOf = Join SX SY xs ys is_x is_y m n within_x within_y held held_too

  abbrev EnterOf : List ℕ → Joined
  EnterOf = Enter SX SY xs ys is_x is_y m n within_x within_y held held_too

  no_uid : UidsOf ≡ false → Fate r
  no_uid e =
      none (λ p q. false≢true (sym e ∙ words_uids SX SY xs ys is_x is_y q.value q.uid_first q.uid_second))
      (settled_refuses i j m n B 70 0 Zeros (no_uids SX SY (row_of m) (row_of n) Zeros not_x not_y row_x row_y e))

  settle_is : UidsOf ≡ true → (ok : Bool) → JoinOf.ok ≡ ok
      → Settle i j m n B ≡ settled (pick ok (Pairs (length (pairs_from JoinOf.first 0 4096))) (Refused 70 0)) JoinOf.first
  unfolding pairs_of
  settle_is e ok o =
      settle_pairs SX SY (row_of m) (row_of n) Zeros not_x not_y row_x row_y e
      ∙ ap (λ (t : Bool). settled (pick t (Pairs (length (pairs_from JoinOf.first 0 4096))) (Refused 70 0)) JoinOf.first) o

  no_join : UidsOf ≡ true → JoinOf.ok ≡ false → Fate r
  no_join e o =
      none (λ p q. false≢true (sym o ∙ passes_joined SX SY xs ys is_x is_y m n within_x within_y held held_too p q))
      (settled_refuses i j m n B 70 0 JoinOf.first (settle_is e false o))

  module _ (u : UidsOf ≡ true) (ok : JoinOf.ok ≡ true) where
    abbrev PlanOf : List Pair
    PlanOf = pairs_from JoinOf.first 0 4096

    proposed : Proposed r PlanOf
    proposed =
        let w = uids_words SX SY xs ys is_x is_y u in
        record {
          passes = plan_passes SX SY xs ys is_x is_y m n within_x within_y held held_too ok w.0 w.1 w.2;
          alone = plan_demanded SX SY xs ys is_x is_y m n within_x within_y held held_too ok;
          each = demanded_plan SX SY xs ys is_x is_y m n within_x within_y held held_too ok;
          rises = from_rises JoinOf.first 4096 0;
        }

    check_is : (plan : List ℕ) → check_outcome i j m n plan
        ≡ pick (EnterOf plan).ok (pick (covers_from JoinOf.first (EnterOf plan).first 0 4096) (Pairs (length plan / 2)) (Refused 73 0)) (Refused 73 0)
    unfolding plan_in
    check_is plan = check_both i j m n B plan ∙ ap (λ (s : Settled). check_by s SX SY plan) (settle_is u true ok)

    checked : (plan : List ℕ) → (Passing r plan × (check_outcome i j m n plan ≡ Pairs (length plan / 2))) ⊎ ((Passing r plan → ⊥) × (check_outcome i j m n plan ≡ Refused 73 0))
    checked plan =
        by (EnterOf plan).ok
        (λ e.
        by (covers_from JoinOf.first (EnterOf plan).first 0 4096)
        (λ f.
        let w = uids_words SX SY xs ys is_x is_y u in
        inl (entered_passes SX SY xs ys is_x is_y m n within_x within_y held held_too ok plan w.0 w.1 w.2 e f, check_is plan ∙ rw (e, f)))
        (λ f. inr (λ q. false≢true (sym f ∙ passes_covers SX SY xs ys is_x is_y m n within_x within_y held held_too plan q), check_is plan ∙ rw (e, f))))
        (λ e. inr (λ q. false≢true (sym e ∙ passes_entered SX SY xs ys is_x is_y m n within_x within_y held held_too plan q), check_is plan ∙ rw e))

    plan_is : (out : List ℕ) → plan_outcome i j m n out
        ≡ pick (ltb (length out) (length PlanOf * 2)) (planned (Refused 14 (length PlanOf * 2)) out) (planned (Pairs (length PlanOf)) (overlay (flatten PlanOf) out))
    plan_is out = plan_both i j m n B out ∙ ap (λ (s : Settled). write_of s out) (settle_is u true ok)

  pub fate : Fate r
  fate =
      by UidsOf
      (λ u. by JoinOf.ok (λ ok. some (PlanOf u ok) (proposed u ok) (checked u ok) (plan_is u ok)) (λ o. no_join u o))
      no_uid

-- what there is to say of any two inputs and rows
pub data View (i j : List ℕ) (m n : List Source) : Type 0 where
  judged : (a p : ℕ) → Judged i j a p → View i j m n
  over : (b : Both i j) → TooMuch b m n → View i j m n
  wrong : (b : Both i j) → (TooMuch b m n → ⊥) → WrongRow b m n → View i j m n
  ready : Ready i j m n → View i j m n

module _ (i j : List ℕ) (m n : List Source) where
  by_row : (b : Both i j) (within : TooMuch b m n → ⊥) → WrongRow b m n ⊎ (RowOf 0 b.first.lines m × RowOf 0 b.second.lines n) → View i j m n
  by_row b within (inl w) = wrong b within w
  by_row b within (inr (x, y)) = ready (record { both = b; within = within; row_first = x; row_second = y })

  by_over : (b : Both i j) → TooMuch b m n ⊎ (TooMuch b m n → ⊥) → View i j m n
  by_over b (inl o) = over b o
  by_over b (inr within) = by_row b within (row_or i j m n b within)

  by_second : (k l : ℕ) → InputOf i k l → (v : Verdict) → judge_of j ≡ v → View i j m n
  by_second k l h (Accepted c d) e =
      let b : Both i j = record { cards = k; lines = l; first = h; cards_too = c; lines_too = d; second = (accepted_law First j c d).0 e } in
      by_over b (over_or i j m n b)
  by_second k l h (Halted a p) e = judged a p (second k l h ((refused_law First j a p).0 e))

  by_first : (v : Verdict) → judge_of i ≡ v → View i j m n
  by_first (Accepted k l) e = by_second k l ((accepted_law First i k l).0 e) (judge_of j) refl
  by_first (Halted a p) e = judged a p (first ((refused_law First i a p).0 e))

  pub view : View i j m n
  view = by_first (judge_of i) refl
