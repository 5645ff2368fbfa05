-- Shapes are regular expressions over sets of octets: which texts match one, and its Brzozowski derivative by an octet. Assumes nothing.
use Rattle.std.specs.Prelude.{ℕ, ◌+◌, ◌≡◌, Bool, true, false, ◌&&◌, ◌||◌, List, [], ◌∷◌, ◌++◌, ◌⊎◌}
use Rattle.octets.specs.Pick.{pick}
use Rattle.value_kinds.specs.Octets.{Octets, holds}
use Rattle.value_kinds.specs.declared.Fault.{Fault}
use Rattle.value_kinds.specs.declared.Fault.TheVariants.{Fits, Breaks}

infixr 6 ◌then◌
infixr 5 ◌or◌
pub data Shape : Type 0 where
  never : Shape
  empty : Shape
  one : Octets → Shape
  ◌then◌ : Shape → Shape → Shape
  ◌or◌ : Shape → Shape → Shape
  many : Shape → Shape

-- the texts one behind the other
unfoldable pub joined : List (List ℕ) → List ℕ
joined [] = []
joined (v ∷ vs) = v ++ joined vs

-- each of the texts is P
unfoldable pub Every : (List ℕ → Type 0) → List (List ℕ) → Type 0
Every P [] = Unit {0}
Every P (v ∷ vs) = P v × Every P vs

-- a text matches a shape
unfoldable pub Matches : Shape → List ℕ → Type 0
Matches never v = ⊥
Matches empty v = v ≡ []
Matches (one p) v = (x : ℕ) × (holds p x ≡ true) × (v ≡ x ∷ [])
Matches (a then b) v = (u : List ℕ) × (w : List ℕ) × (v ≡ u ++ w) × Matches a u × Matches b w
Matches (a or b) v = Matches a v ⊎ Matches b v
Matches (many a) v = (vs : List (List ℕ)) × (v ≡ joined vs) × Every (Matches a) vs

-- the empty text matches the shape
unfoldable pub nullable : Shape → Bool
nullable never = false
nullable empty = true
nullable (one p) = false
nullable (a then b) = nullable a && nullable b
nullable (a or b) = nullable a || nullable b
nullable (many a) = true

-- no text matches the shape
unfoldable pub dead : Shape → Bool
dead never = true
dead empty = false
dead (one p) = false
dead (a then b) = dead a || dead b
dead (a or b) = dead a && dead b
dead (many a) = false

-- `then` and `or`, written shorter where a side is plainly idle
unfoldable pub chain : Shape → Shape → Shape
chain never b = never
chain empty b = b
chain (one p) b = one p then b
chain (a then c) b = (a then c) then b
chain (a or c) b = (a or c) then b
chain (many a) b = many a then b

-- the shape is `never` itself
unfoldable pub is_never : Shape → Bool
is_never never = true
is_never empty = false
is_never (one p) = false
is_never (a then b) = false
is_never (a or b) = false
is_never (many a) = false

unfoldable pub fork : Shape → Shape → Shape
fork a b = pick (is_never a) b (pick (is_never b) a (a or b))

-- the texts that match it are those which match the shape once x stands before them
unfoldable pub derivative : ℕ → Shape → Shape
derivative x never = never
derivative x empty = never
derivative x (one p) = pick (holds p x) empty never
derivative x (a then b) = pick (nullable a) (fork (chain (derivative x a) b) (derivative x b)) (chain (derivative x a) b)
derivative x (a or b) = fork (derivative x a) (derivative x b)
derivative x (many a) = chain (derivative x a) (many a)

-- the first octet, counted from i, from which no continuation matches the shape; the end where it only ends too early
unfoldable pub fault_from : Shape → ℕ → List ℕ → Fault
fault_from r i [] = pick (nullable r) Fits (Breaks i)
fault_from r i (x ∷ xs) = pick (dead (derivative x r)) (Breaks i) (fault_from (derivative x r) (i + 1) xs)
