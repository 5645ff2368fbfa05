-- The ALTID values that the buffer holds after some lines have ended, by the card's state after each, and the whole buffer then. Assumes nothing.
use Rattle.std.specs.Prelude.{ℕ, ◌+◌, ◌-◌, Bool, true, false, List, [], ◌∷◌, ◌++◌, eqb, length, drop, replicate}
use Rattle.octets.specs.Pick.{pick}
use Rattle.line_folds.specs.Folds.{unfolded}
use Rattle.property_table.specs.declared.Edition.TheVariants.{First}
use Rattle.card_state.specs.State.{Card, Step, Next, Refused, Flawed, before_begin}
use Rattle.card_judge.specs.Judge.{judge_line, added_by}

-- a refusal
abbrev pub halted : Step → Bool
halted (Next d) = false
halted (Refused n p) = true
halted (Flawed n o) = true

-- no values after a refusal
abbrev pub values_on : Step → (Card → List ℕ) → List ℕ
values_on (Next d) f = f d
values_on (Refused n p) f = []
values_on (Flawed n o) f = []

-- the values after the line l, which came to the card c with the values a and led to the card d: with what the line adds, and none after END
abbrev pub values_next : List ℕ → Card → List ℕ → Card → List ℕ
values_next a c l d = pick (eqb d.phase before_begin) [] (a ++ added_by First c.seen (unfolded l))

-- the values after lines as they came, the first of which starts at p, from the values a on
unfoldable pub values_from : List (List ℕ) → ℕ → Card → List ℕ → List ℕ
values_from [] p c a = a
values_from (l ∷ ls) p c a = values_on (judge_line First c p (unfolded l)) (λ d. values_from ls (p + length l + 2) d (values_next a c l d))

-- a buffer b whose first n octets are now the octets a, with 0 behind them
unfoldable pub laid_in : ℕ → List ℕ → List ℕ → List ℕ
laid_in n a b = a ++ (replicate (n - length a) 0 ++ drop n b)

-- what the buffer is by a judgement: b after a refusal
abbrev pub buffer_on : Step → (Card → List ℕ) → List ℕ → List ℕ
buffer_on (Next d) f b = f d
buffer_on (Refused n p) f b = b
buffer_on (Flawed n o) f b = b

-- the buffer after lines as they came, where it was b with the values a at its front: each line lays the values after it over those before it and as many
-- octets as the line with its CR LF has
unfoldable pub buffers_from : List (List ℕ) → ℕ → Card → List ℕ → List ℕ → List ℕ
buffers_from [] p c a b = b
buffers_from (l ∷ ls) p c a b =
    buffer_on (judge_line First c p (unfolded l))
    (λ d. buffers_from ls (p + length l + 2) d (values_next a c l d) (laid_in (length a + length l + 2) (values_next a c l d) b))
    (laid_in (length a + length l + 2) [] b)
