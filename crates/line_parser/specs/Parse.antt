-- What reading a part at the start of a list answers: the part and how many octets it takes, or the number of the fault; and how
-- such readings are put together. Assumes nothing.
use Rattle.std.specs.Prelude.{ℕ, zero, suc, ◌+◌, Bool, true, false, List, [], ◌∷◌, eqb, get_or, drop}
use Rattle.octets.specs.Pick.{pick}

pub data Parse (A : Type 0) : Type 0 where
  got : A → ℕ → Parse A
  bad : ℕ → Parse A

-- "A step that meets a refused part hands that refusal up unchanged"
abbrev pub next : {A B : Type 0} → Parse A → (A → ℕ → Parse B) → Parse B
next (got a k) f = f a k
next (bad e) f = bad e

-- the fault e where the test fails
abbrev pub guard : {A : Type 0} → Bool → ℕ → Parse A → Parse A
guard true e p = p
guard false e p = bad e

-- the first octet; 0, which no class has, where there is none
abbrev pub hd : List ℕ → ℕ
hd l = get_or l 0 0

-- any number of parts, each after the octet c, up to an octet that ok allows, else the fault e of what stands there; n bounds
-- their count
unfoldable pub many : {A : Type 0} → ℕ → (List ℕ → Parse A) → (ℕ → Bool) → (List ℕ → ℕ) → ℕ → List ℕ → Parse (List A)
many c p ok e zero l = bad (e l)
many c p ok e (suc n) l =
    pick (eqb (hd l) c)
    (next (p (drop 1 l)) (λ a k. next (many c p ok e n (drop k (drop 1 l))) (λ xs j. got (a ∷ xs) (suc (k + j)))))
    (guard (ok (hd l)) (e l) (got [] 0))
