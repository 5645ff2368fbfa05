-- Marks written one after the other. Assumes nothing.
use mathlib.Core.Path.{◌≡◌, refl}
use mathlib.Core.List.{List, [], ◌∷◌, ◌++◌}
use Rattle.merge_pids.specs.Marks.{Mark, Marked, put_mark, put_all}

pub put_append : (s : Marked) (xs ys : List Mark) → put_all s (xs ++ ys) ≡ put_all (put_all s xs) ys
unfolding put_all
put_append s [] ys = refl
put_append s (x ∷ xs) ys = put_append (put_mark s x) xs ys
