-- How many instances of a property there are among lines: counted along them, and that the first line decides. Assumes nothing.
use mathlib.Core.Path.{◌≡◌, refl, sym, ap, ◌∙◌}
use mathlib.Core.Bool.{Bool, true, false, not, ◌&&◌, false≢true}
use mathlib.Core.List.{List, [], ◌∷◌, ◌++◌, append-nil}
use mathlib.Core.Option.{some}
use mathlib.Core.Logic.{◌↔◌}
use Prim.Native.Nat.{ℕ, suc, ◌+◌, ◌≤◌}
use native.Mathlib.Omega.{arith}
use lib.Seq.{append_snoc}
use borrow.Author.Tests.{eqb-true, eq-eqb, ne_eqb}
use Rattle.line_parser.specs.Grammar.{Line, Each}
use Rattle.octets.proofs.Bools.{by, or_none_left, or_none_right}
use Rattle.card_line.specs.Parts.{row_of_line}
use Rattle.reader_grammar.specs.Cards.{counts, count, of_row, lines_of, any, OneInstance, alike, same_instance, instances}
use Rattle.reader_grammar.proofs.Known.{any_last, each_last, instance_law}
use Rattle.property_table.specs.declared.Edition.{Edition}

module _ (ed : Edition) where
  -- whether x, after the lines ys, starts an instance of the row
  abbrev starts : ℕ → List Line → Line → Bool
  starts row ys x = of_row ed row x && not (any (same_instance ed x) ys)

  counts_more : (t : Bool) (n m : ℕ) → counts t (n + m) ≡ counts t n + m
  counts_more true n m = omega arith
  counts_more false n m = refl

  pub instances_append : (row : ℕ) (ys xs zs : List Line) → instances ed row ys (xs ++ zs) ≡ instances ed row ys xs + instances ed row (ys ++ xs) zs
  unfolding instances
  instances_append row ys [] zs = rw (append-nil ys) (omega arith)
  instances_append row ys (x ∷ xs) zs =
      rw (instances_append row (ys ++ (x ∷ [])) xs zs, append_snoc ys x xs)
      (counts_more (starts row ys x) (instances ed row (ys ++ (x ∷ [])) xs) (instances ed row (ys ++ (x ∷ xs)) zs))

  -- one line more
  pub instances_last : (row : ℕ) (ys : List Line) (x : Line) → instances ed row [] (ys ++ (x ∷ [])) ≡ instances ed row [] ys + counts (starts row ys x) 0
  unfolding instances
  instances_last row ys x = instances_append row [] ys (x ∷ [])

  counts_le : (a b : Bool) (n m : ℕ) → n ≤ m → counts (a && b) n ≤ counts a m
  counts_le true true n m h = omega arith
  counts_le true false n m h = omega arith
  counts_le false b n m h = h

  pub instances_few : (row : ℕ) (ys xs : List Line) → instances ed row ys xs ≤ lines_of ed row xs
  unfolding instances count
  instances_few row ys [] = omega arith
  instances_few row ys (x ∷ xs) =
      counts_le (of_row ed row x) (not (any (same_instance ed x) ys)) (instances ed row (ys ++ (x ∷ [])) xs) (lines_of ed row xs) (instances_few row (ys ++ (x ∷ [])) xs)

  -- lines of other rows are of other instances
  pub unlike : (x : Line) (ys : List Line) → any (of_row ed (row_of_line ed x)) ys ≡ false → any (same_instance ed x) ys ≡ false
  unfolding any same_instance
  unlike x [] e = refl
  unlike x (y ∷ ys) e =
      rw (or_none_left (of_row ed (row_of_line ed x) y) (any (of_row ed (row_of_line ed x)) ys) e) (unlike x ys (or_none_right (of_row ed (row_of_line ed x) y) (any (of_row ed (row_of_line ed x)) ys) e))

  -- where there is a line of the row there is an instance
  pub some_instance : (row : ℕ) (ys xs : List Line) → any (of_row ed row) ys ≡ false → 1 ≤ lines_of ed row xs → 1 ≤ instances ed row ys xs
  unfolding instances count
  some_instance row ys [] e h = absurd (omega arith)
  some_instance row ys (x ∷ xs) e h =
      by (of_row ed row x)
      (λ t.
      let q = eqb-true (row_of_line ed x) row t in
      let n : any (same_instance ed x) ys ≡ false = unlike x ys (rw q e) in
      rw (t, n) (omega arith))
      (λ t.
      let later : 1 ≤ lines_of ed row xs = rw t at h in
      rw t (some_instance row (ys ++ (x ∷ [])) xs (any_last ed (of_row ed row) ys x ∙ rw (e, t)) later))

  -- two lines before which are of other rows
  pub past_two_any : (x b v : Line) (ys : List Line) → (row_of_line ed b ≡ row_of_line ed x → ⊥) → (row_of_line ed v ≡ row_of_line ed x → ⊥)
      → any (same_instance ed x) (b ∷ v ∷ ys) ≡ any (same_instance ed x) ys
  unfolding any same_instance
  past_two_any x b v ys f g = rw (ne_eqb (row_of_line ed b) (row_of_line ed x) f, ne_eqb (row_of_line ed v) (row_of_line ed x) g)

  one_row : {x y : Line} → OneInstance ed x y → row_of_line ed x ≡ row_of_line ed y
  one_row (alike r a b) = r

  -- two lines that are one instance with a third
  joined : {x y z : Line} → OneInstance ed x z → OneInstance ed z y → OneInstance ed x y
  joined (alike {v = v} r a b) (alike {v = w} q c d) = let e : w ≡ v = cc in alike (r ∙ q) a (d ∙ ap some e)

  counts_zero : (t : Bool) (n : ℕ) → counts t n ≡ 0 → (t ≡ false) × (n ≡ 0)
  counts_zero true n e = absurd (omega arith)
  counts_zero false n e = (refl, e)

  not_false_is : (t : Bool) → not t ≡ false → t ≡ true
  not_false_is true e = refl
  not_false_is false e = absurd (false≢true (sym e))

  -- the lines of a property after its first line x
  module _ (x : Line) where
    abbrev Same : Line → Type 0
    Same y = row_of_line ed y ≡ row_of_line ed x → OneInstance ed x y

    -- a line of the instance of x is of that of any line that x is one with
    sure : (ys : List Line) (y : Line) → any (same_instance ed y) (x ∷ ys) ≡ true → Each Same ys → row_of_line ed y ≡ row_of_line ed x → OneInstance ed x y
    unfolding any Each
    sure ys y e h r =
        by (same_instance ed y x) (λ t. (instance_law ed y x).0 t) (λ t. through ys h (rw t at e))
      where
        through : (ys : List Line) → Each Same ys → any (same_instance ed y) ys ≡ true → OneInstance ed x y
        through [] h e = absurd (false≢true e)
        through (z ∷ zs) h e =
            by (same_instance ed y z)
            (λ t. let o = (instance_law ed y z).0 t in joined (h.0 (one_row o ∙ r)) o)
            (λ t. through zs h.1 (rw t at e))

    same_none : (ys xs : List Line) → Each Same xs → instances ed (row_of_line ed x) (x ∷ ys) xs ≡ 0
    unfolding instances Each any
    same_none ys [] h = refl
    same_none ys (y ∷ xs) h =
        by (of_row ed (row_of_line ed x) y)
        (λ t. rw (t, (instance_law ed y x).1 (h.0 (eqb-true (row_of_line ed y) (row_of_line ed x) t)), same_none (ys ++ (y ∷ [])) xs h.1))
        (λ t. rw (t, same_none (ys ++ (y ∷ [])) xs h.1))

    none_same : (ys xs : List Line) → Each Same ys → instances ed (row_of_line ed x) (x ∷ ys) xs ≡ 0 → Each Same xs
    unfolding instances Each
    none_same ys [] g e = tt
    none_same ys (y ∷ xs) g e =
        let rest = counts_zero (starts (row_of_line ed x) (x ∷ ys) y) (instances ed (row_of_line ed x) (x ∷ (ys ++ (y ∷ []))) xs) e in
        let here : Same y = λ r. sure ys y (not_false_is (any (same_instance ed y) (x ∷ ys)) (rw (eq-eqb (row_of_line ed y) (row_of_line ed x) r) at rest.0)) g r in
        (here, none_same (ys ++ (y ∷ [])) xs (each_last ed Same ys y g here) rest.1)

    -- only the first line's ALTID need be kept: at most one instance exactly where each later line of the property is of the first one's
    pub first_decides : (xs : List Line) → (instances ed (row_of_line ed x) [] (x ∷ xs) ≤ 1) ↔ Each Same xs
    unfolding instances any Each
    first_decides xs = (
      λ h. none_same [] xs tt (less (rw (eq-eqb (row_of_line ed x) (row_of_line ed x) refl) at h)),
      λ h. rw (eq-eqb (row_of_line ed x) (row_of_line ed x) refl, same_none [] xs h) (omega arith),
    )
      where
        less : {n : ℕ} → suc n ≤ 1 → n ≡ 0
        less h = omega arith
