-- The worked examples of REFERENCE, Two edits of one card: two edits, A and B, a third card that leaves no plan, and what is answered. Assumes nothing.
use Rattle.std.specs.Prelude.{ℕ, ◌≡◌, List, [], ◌∷◌, ◌++◌, replicate}
use Prim.Native.String.{String}
use Rattle.octets.specs.Ascii.{octets}
use Rattle.line_parser.specs.Grammar.{Each}
use Rattle.merge_sources.specs.declared.Source.{Source}
use Rattle.merge.specs.Outcome.{planned, plan_outcome, check_outcome}
use Rattle.merge.specs.Paired.{Pairs, Refused}
use Rattle.merge_laws.specs.Demand11.{Ready, Passing}

-- a line with its CR LF
abbrev line : String → List ℕ
line s = octets s ++ 13 ∷ 10 ∷ []

unfoldable pub card_a : List ℕ
card_a =
    line "BEGIN:VCARD" ++ line "VERSION:4.0" ++ line "UID:urn:x" ++ line "FN:A" ++ line "TEL;PID=1.1:5" ++ line "TEL:6" ++ line "CLIENTPIDMAP:1;urn:a"
    ++ line "END:VCARD"

unfoldable pub card_b : List ℕ
card_b =
    line "BEGIN:VCARD" ++ line "VERSION:4.0" ++ line "FN:A" ++ line "UID:urn:x" ++ line "TEL:6" ++ line "TEL;PID=1.2:7" ++ line "CLIENTPIDMAP:2;urn:a"
    ++ line "END:VCARD"

-- B with the PID on its other TEL line too
unfoldable pub card_c : List ℕ
card_c =
    line "BEGIN:VCARD" ++ line "VERSION:4.0" ++ line "FN:A" ++ line "UID:urn:x" ++ line "TEL;PID=1.2:6" ++ line "TEL;PID=1.2:7" ++ line "CLIENTPIDMAP:2;urn:a"
    ++ line "END:VCARD"

abbrev pub row_a : List Source
row_a = record { number = 1; place = 80; length = 5 } ∷ []

abbrev pub row_b : List Source
row_b = record { number = 2; place = 80; length = 5 } ∷ []

abbrev pub row_c : List Source
row_c = record { number = 2; place = 88; length = 5 } ∷ []

-- a plan for A and B that passes with k pairs, and one that does not
abbrev pub Accepts : ℕ → List ℕ → Type 0
Accepts k plan = check_outcome card_a card_b row_a row_b plan ≡ Pairs k

abbrev pub Refuses : List ℕ → Type 0
Refuses plan = check_outcome card_a card_b row_a row_b plan ≡ Refused 73 0

pub record Examples : Type 0 where
  pub planned_two : plan_outcome card_a card_b row_a row_b (replicate 6 7) ≡ planned (Pairs 2) (2 ∷ 3 ∷ 4 ∷ 5 ∷ 7 ∷ 7 ∷ [])
  pub no_room : plan_outcome card_a card_b row_a row_b (replicate 3 7) ≡ planned (Refused 14 4) (replicate 3 7)
  pub two : Each (Accepts 2) ((2 ∷ 3 ∷ 4 ∷ 5 ∷ []) ∷ (4 ∷ 5 ∷ 2 ∷ 3 ∷ []) ∷ [])
  pub three : Each (Accepts 3) ((2 ∷ 3 ∷ 4 ∷ 5 ∷ 5 ∷ 4 ∷ []) ∷ (2 ∷ 3 ∷ 4 ∷ 5 ∷ 0 ∷ 0 ∷ []) ∷ [])
  -- a demanded pair left out, an odd count, a pair twice, a number that is no line's, two properties
  pub another :
      Each Refuses
      ((2 ∷ 3 ∷ []) ∷ (2 ∷ 3 ∷ 4 ∷ 5 ∷ 0 ∷ []) ∷ (2 ∷ 3 ∷ 4 ∷ 5 ∷ 2 ∷ 3 ∷ []) ∷ (2 ∷ 3 ∷ 4 ∷ 5 ∷ 99 ∷ 0 ∷ []) ∷ (2 ∷ 3 ∷ 4 ∷ 5 ∷ 0 ∷ 1 ∷ []) ∷ [])
  -- so the cards and rows are ready, and a plan passes in plain words
  pub met : (r : Ready card_a card_b row_a row_b) × Passing r (2 ∷ 3 ∷ 4 ∷ 5 ∷ [])
  -- line 4 of A shares its global value with two lines of C
  pub none_planned : (out : List ℕ) → plan_outcome card_a card_c row_a row_c out ≡ planned (Refused 70 0) out
  pub none : (plan : List ℕ) → check_outcome card_a card_c row_a row_c plan ≡ Refused 70 0
