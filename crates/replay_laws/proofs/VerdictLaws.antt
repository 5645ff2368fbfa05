-- The numbers of the reader's answers: each has 32 bits. Assumes nothing.
use Prim.Native.Nat.{ℕ, ◌+◌, ◌≤◌}
use mathlib.Core.Path.{◌≡◌, refl, ap}
use mathlib.Core.List.{List, [], ◌∷◌}
use native.Mathlib.Omega.{arith}
use lib.ListN.{length}
use Rattle.line_folds.specs.Folds.{unfolded}
use Rattle.line_folds.specs.Logical.{raw_lines}
use Rattle.card_state.specs.State.{Card, Next, fresh_card}
use Rattle.card_judge.specs.Judge.{judge_line}
use Rattle.card_judge.proofs.CardLaws.{one_more}
use Rattle.reader_walk.specs.Walk.{judge_lines}
use Rattle.reader.specs.Outcome.{judge_of}
use Rattle.reader_walk.proofs.WalkLaws.{onward_next}
use Rattle.reader.proofs.AcceptLaws.{lines_few, accepting, lines_counted}
use Rattle.reader.specs.Outcome.{Verdict}
use Rattle.reader.specs.Outcome.{Accepted, Refused}
use Rattle.firmware.proofs.Places.{place_low}
use Rattle.reader_grammar.proofs.Refused.{refused_law}
use Rattle.reader_grammar.proofs.Numbers.{refusal_low}
use Rattle.desk_ledger.specs.Ledger.{verdict}
use Rattle.replay_laws.specs.Tells.{Small}
use Rattle.property_table.specs.declared.Edition.TheVariants.{First}

-- a line that is judged closes at most one card
cards_few : (ls : List (List ℕ)) (p : ℕ) (c c' : Card) → judge_lines First ls p c ≡ Next c' → c'.cards ≤ c.cards + length ls
unfolding judge_lines
cards_few [] p c c' e =
    let q : c ≡ c' = cc in
    omega (arith, ap (λ (x : Card). x.cards) q)
cards_few (l ∷ ls) p c c' e =
    onward_next p l (judge_line First c p (unfolded l)) (judge_lines First ls (p + length l + 2)) c' e
    (λ d q r. omega (arith, one_more First c d p (unfolded l) q, cards_few ls (p + length l + 2) d c' r))

pub verdict_small : (i : List ℕ) → Small (verdict (judge_of i))
verdict_small i = go (judge_of i) refl
  where
    go : (v : Verdict) → judge_of i ≡ v → Small (verdict v)
    go (Accepted k n) e =
        let a = accepting First i k n e in
        let c = cards_few (raw_lines i) 0 fresh_card a.last a.walked in
        let s = a.short in
        let q = a.cards in
        let f = lines_few i in
        let l = lines_counted First i k n e in
        (omega arith, omega arith)
    go (Refused n p) e = (omega (arith, refusal_low ((refused_law First i n p).0 e)), omega (arith, place_low i n p e))
