-- Octets as a word, and numbers joined, by their count. Assumes nothing.
use mathlib.Core.Path.{◌≡◌, refl}
use mathlib.Core.List.{List, [], ◌∷◌, ◌++◌}
use Prim.Native.Nat.{ℕ}
use native.Mathlib.Omega.{arith}
use lib.ListN.{length}
use Rattle.octets.specs.Ascii.{octets}
use Rattle.program_output.specs.Digits.{decimal, pair}
use Rattle.console_answers.specs.Texts.{pairs, octets_word, further, others, joined}

pub word_none : (s : List ℕ) → length s ≡ 0 → octets_word s ≡ 45 ∷ []
unfolding octets_word octets
word_none [] h = refl
word_none (x ∷ xs) h = absurd (omega arith)

pub word_some : (s : List ℕ) → (length s ≡ 0 → ⊥) → octets_word s ≡ pairs s
unfolding octets_word
word_some [] h = absurd (h refl)
word_some (x ∷ xs) h = refl

pub pairs_cons : (x : ℕ) (xs : List ℕ) → pairs (x ∷ xs) ≡ pair x ++ pairs xs
unfolding pairs
pairs_cons x xs = refl

pub pairs_nil : pairs [] ≡ []
unfolding pairs
pairs_nil = refl

pub others_cons : (x : ℕ) (xs : List ℕ) → others (x ∷ xs) ≡ further x ++ others xs
unfolding others
others_cons x xs = refl

pub others_nil : others [] ≡ []
unfolding others
others_nil = refl

pub joined_none : (s : List ℕ) → length s ≡ 0 → joined s ≡ []
unfolding joined
joined_none [] h = refl
joined_none (x ∷ xs) h = absurd (omega arith)

pub joined_cons : (x : ℕ) (xs : List ℕ) → joined (x ∷ xs) ≡ decimal x ++ others xs
unfolding joined
joined_cons x xs = refl
