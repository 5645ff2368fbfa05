-- What a value says by its kind: components, each a list of texts; the same escaped anew, and filled up. Assumes nothing.
use Rattle.std.specs.Prelude.{ℕ, ◌-◌, ◌≡◌, Bool, false, ◌||◌, List, [], ◌∷◌, ◌++◌, eqb, length, replicate}
use Rattle.numbers.specs.Kinds as kinds
use Rattle.octets.specs.Ascii as ascii
use Rattle.octets.specs.Pick.{pick}
use Rattle.line_parser.specs.Grammar.{led}
use Rattle.text_escaping.specs.Escaped.{escaped}
use Rattle.text_laws.specs.Stands.{Escape, Stands}

-- a text among others, and what it stands for: a comma, a semicolon or a backslash stands in it only in an escape
pub data Member : List ℕ → List ℕ → Type 0 where
  none : Member [] []
  itself : {x : ℕ} {w t : List ℕ} → (x ≡ ascii.comma → ⊥) → (x ≡ ascii.semicolon → ⊥) → (x ≡ ascii.backslash → ⊥) → Member w t → Member (x ∷ w) (x ∷ t)
  escape : {y x : ℕ} {w t : List ℕ} → Escape y x → Member w t → Member (ascii.backslash ∷ y ∷ w) (x ∷ t)

-- one or more parts with a mark between each two, and what each of them says
pub data Joined {A : Type 0} (mark : ℕ) (R : List ℕ → A → Type 0) : List ℕ → List A → Type 0 where
  one : {v : List ℕ} {a : A} → R v a → Joined mark R v (a ∷ [])
  more : {v w : List ℕ} {a : A} {xs : List A} → R v a → Joined mark R w xs → Joined mark R (v ++ (mark ∷ w)) (a ∷ xs)

-- a component: texts split by bare commas, or one text alone
abbrev pub Listed : List ℕ → List (List ℕ) → Type 0
Listed = Joined ascii.comma Member

pub data Alone : List ℕ → List (List ℕ) → Type 0 where
  alone : {v t : List ℕ} → Member v t → Alone v (t ∷ [])

-- kinds 1, 4, 5 and 6 are text
unfoldable pub worded : ℕ → Bool
worded k = eqb k kinds.text || (eqb k kinds.name || (eqb k kinds.address || eqb k kinds.organization))

-- what a value says: text is one component of one text; N, ADR and ORG have components split by bare semicolons; any other value is its octets
pub data Says : ℕ → List ℕ → List (List (List ℕ)) → Type 0 where
  text : {v t : List ℕ} → Stands v t → Says kinds.text v ((t ∷ []) ∷ [])
  name : {v : List ℕ} {cs : List (List (List ℕ))} → Joined ascii.semicolon Listed v cs → Says kinds.name v cs
  address : {v : List ℕ} {cs : List (List (List ℕ))} → Joined ascii.semicolon Listed v cs → Says kinds.address v cs
  organization : {v : List ℕ} {cs : List (List (List ℕ))} → Joined ascii.semicolon Alone v cs → Says kinds.organization v cs
  other : {k : ℕ} {v : List ℕ} → worded k ≡ false → Says k v ((v ∷ []) ∷ [])

-- the parts with a mark between each two
abbrev pub between : {A : Type 0} → ℕ → (A → List ℕ) → List A → List ℕ
between mark f [] = []
between mark f (a ∷ xs) = f a ++ led mark f xs

-- a text as a value of the kind has it: escaped anew, or as it is
unfoldable pub text_in : ℕ → List ℕ → List ℕ
text_in k t = pick (worded k) (escaped t) t

unfoldable pub component : ℕ → List (List ℕ) → List ℕ
component k ts = between ascii.comma (text_in k) ts

-- a value of the kind that says these components
unfoldable pub written : ℕ → List (List (List ℕ)) → List ℕ
written k cs = between ascii.semicolon (component k) cs

-- how many components N and ADR have; any number for other kinds
unfoldable pub wanted : ℕ → ℕ
wanted k = pick (eqb k kinds.name) 5 (pick (eqb k kinds.address) 7 0)

-- a component that says nothing
abbrev pub blank : List (List ℕ)
blank = [] ∷ []

-- "N and ADR short of five and seven components get empty ones"
unfoldable pub padded : ℕ → List (List (List ℕ)) → List (List (List ℕ))
padded k cs = cs ++ replicate (wanted k - length cs) blank
