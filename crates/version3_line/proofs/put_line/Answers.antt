-- `version3_line::put_line` meets its contract: the line by its parts. Assumes nothing.
use borrow.Rule.Slice.PartMut.{put_mid}
use lib.Seq.{length-take-le}
use mathlib.Core.Path.{◌≡◌, sym, ap, ◌∙◌}
use mathlib.Core.List.{List, [], ◌∷◌, ◌++◌}
use Prim.Native.Nat.{ℕ, ◌≤◌, ◌+◌, ◌-◌}
use native.Mathlib.Omega.{arith}
use lib.ListN.{length, take, drop, set, length-take, length-drop, length-set, length-append}
use Rattle.octets.specs.Room.{overlay}
use Rattle.version3_text.proofs.PutLaws.{rest_of, overlay_length, two_pieces}
use Rattle.line_parser.specs.Rule.{parse_line}
use Rattle.property_table.specs.declared.Edition.TheVariants.{First}
use Rattle.card_line.specs.declared.Parts.{Parts}
use Rattle.card_line.proofs.PartLaws.{Read, read, read_accepted}
use Rattle.version3_parameters.specs.declared.Way.{Way}
use Rattle.version3_parameters.specs.Params.{new_params, params_text}
use Rattle.version3_parameters.specs.Places.{params_of}
use Rattle.version3_line.specs.Lines.{new_value, written_by}
use Rattle.version3_line.proofs.LineLaws.{name_inside, line_written, colon_put}
use Rattle.version3_line.proofs.put_line.Goals as goal

-- a line s with the parts x, and room d for what becomes of it
module _ (way : Way) (s : List ℕ) (x : Parts) (d : List ℕ) (it : Read First s x) (has : length (written_by way (parse_line s)) + length s + 4 ≤ length d) where
  abbrev N : List ℕ
  N = take x.name_end s

  abbrev P : List ℕ
  P = params_text (new_params way (params_of s))

  abbrev Val : List ℕ
  Val = new_value way x.row x.kind (drop x.value_start s)

  -- how long its pieces are together, and room for them
  pub record Total : Type 0 where
    pub size : x.name_end + length P + 1 + length Val ≡ length (written_by way (parse_line s))
    pub room : length (written_by way (parse_line s)) + length s + 4 ≤ length d
    pub name : length N ≡ x.name_end
    pub inside : x.name_end ≤ length s

  total : Total
  total =
      let i = name_inside way s x it in
      let w = ap length (line_written way s x it) in
      let n : length N ≡ x.name_end = length-take-le x.name_end s i in
      record {
        size = omega (arith, w, n, length-append ((N ++ P) ++ (58 ∷ [])) Val, length-append (N ++ P) (58 ∷ []), length-append N P);
        room = has;
        name = n;
        inside = i;
      }

  -- the room after each piece
  module _ (d₁ : List ℕ) (first : d₁ ≡ overlay N d) where
    same_1 : length d₁ ≡ length d
    same_1 = ap length first ∙ overlay_length N d (omega (arith, total))

    module _ (n : ℕ) (is-n : n ≡ length P) (p : List ℕ) (second : p ≡ overlay P (take (length d₁ - x.name_end) (drop x.name_end d₁))) where
      abbrev D2 : List ℕ
      D2 = put_mid x.name_end (length d₁ - x.name_end) d₁ p

      written_2 : D2 ≡ overlay (N ++ P) d
      written_2 = let t = total in two_pieces d d₁ N P p x.name_end (sym t.name) first (omega (arith, t)) second

      same_2 : length D2 ≡ length d
      same_2 = let t = total in ap length written_2 ∙ overlay_length (N ++ P) d (omega (arith, t, length-append N P))

      abbrev D3 : List ℕ
      D3 = set D2 (x.name_end + n) 58

      abbrev M : ℕ
      M = x.name_end + n + 1

      whole : (q : List ℕ) → q ≡ overlay Val (take (length D3 - M) (drop M D3)) → put_mid M (length D3 - M) D3 q ≡ overlay (written_by way (parse_line s)) d
      whole q third =
          let t = total in
          let u = N ++ P in
          let lu = length-append N P in
          let lc = length-append u (58 ∷ []) in
          let k : x.name_end + n ≡ length u = omega (arith, t.name, lu, is-n) in
          let e = colon_put d u D2 (x.name_end + n) k (omega (arith, t, is-n)) written_2 in
          two_pieces d D3 (u ++ (58 ∷ [])) Val q M (omega (arith, k, lc)) e (omega (arith, t, lu, lc)) third
          ∙ ap (λ (l : List ℕ). overlay l d) (sym (line_written way s x it))

-- src/lib.rt:138:33
pub slice_bounds-copy_in-end : goal.slice_bounds-copy_in-end
slice_bounds-copy_in-end c =
    let line_of = read First c.args.s.now c.args.x c.requires.x_value in
    sym (simp length-take (omega (arith, name_inside c.args.way c.args.s.now c.args.x line_of)))

-- src/lib.rt:138:5
pub copy_in-requires : goal.copy_in-requires
copy_in-requires c =
    let line_of = read First c.args.s.now c.args.x c.requires.x_value in
    let t = total c.args.way c.args.s.now c.args.x c.args.d.now line_of c.requires.s_in_bounds in
    simp length-take (omega (arith, t))

-- src/lib.rt:139:66
pub slice_bounds-put_params-count : goal.slice_bounds-put_params-count
slice_bounds-put_params-count c =
    let line_of = read First c.args.s.now c.args.x c.requires.x_value in
    let t = total c.args.way c.args.s.now c.args.x c.args.d.now line_of c.requires.s_in_bounds in
    let l = same_1 c.args.way c.args.s.now c.args.x c.args.d.now line_of c.requires.s_in_bounds c.copy_in.new.dst c.copy_in.ensures in
    omega (arith, t, l)

-- src/lib.rt:139:66
pub slice_bounds-put_params-start : goal.slice_bounds-put_params-start
slice_bounds-put_params-start c =
    let line_of = read First c.args.s.now c.args.x c.requires.x_value in
    let t = total c.args.way c.args.s.now c.args.x c.args.d.now line_of c.requires.s_in_bounds in
    let l = same_1 c.args.way c.args.s.now c.args.x c.args.d.now line_of c.requires.s_in_bounds c.copy_in.new.dst c.copy_in.ensures in
    omega (arith, t, l)

-- src/lib.rt:139:9
pub put_params-n-requires : goal.put_params-n-requires
put_params-n-requires c =
    let line_of = read First c.args.s.now c.args.x c.requires.x_value in
    let t = total c.args.way c.args.s.now c.args.x c.args.d.now line_of c.requires.s_in_bounds in
    let l = same_1 c.args.way c.args.s.now c.args.x c.args.d.now line_of c.requires.s_in_bounds c.copy_in.new.dst c.copy_in.ensures in
    record { classes = c.requires.classes; accepted = read_accepted First c.args.s.now c.args.x line_of; s_in_bounds = simp (length-take, length-drop) (omega (arith, t, l)) }

-- src/lib.rt:140:17
pub overflow_add-colon : goal.overflow_add-colon
overflow_add-colon c =
    let line_of = read First c.args.s.now c.args.x c.requires.x_value in
    let t = total c.args.way c.args.s.now c.args.x c.args.d.now line_of c.requires.s_in_bounds in
    omega (arith, t, c.put_params-n.ensures.0)

-- src/lib.rt:141:5
pub bounds-d-colon : goal.bounds-d-colon
bounds-d-colon c =
    let line_of = read First c.args.s.now c.args.x c.requires.x_value in
    let t = total c.args.way c.args.s.now c.args.x c.args.d.now line_of c.requires.s_in_bounds in
    let l = same_2 c.args.way c.args.s.now c.args.x c.args.d.now line_of c.requires.s_in_bounds c.copy_in.new.dst c.copy_in.ensures c.put_params-n.result c.put_params-n.ensures.0 c.put_params-n.new.d c.put_params-n.ensures.1 in
    omega (arith, t, l, c.put_params-n.ensures.0)

-- src/lib.rt:143:17
pub overflow_add-start : goal.overflow_add-start
overflow_add-start c =
    let line_of = read First c.args.s.now c.args.x c.requires.x_value in
    let t = total c.args.way c.args.s.now c.args.x c.args.d.now line_of c.requires.s_in_bounds in
    omega (arith, t, c.put_params-n.ensures.0)

-- src/lib.rt:144:43
pub slice_bounds-put_value-count : goal.slice_bounds-put_value-count
slice_bounds-put_value-count c =
    let line_of = read First c.args.s.now c.args.x c.requires.x_value in
    line_of.inside

-- src/lib.rt:144:43
pub slice_bounds-put_value-start : goal.slice_bounds-put_value-start
slice_bounds-put_value-start c =
    let line_of = read First c.args.s.now c.args.x c.requires.x_value in
    line_of.inside

-- src/lib.rt:144:55
pub slice_bounds-put_value-count-2 : goal.slice_bounds-put_value-count-2
slice_bounds-put_value-count-2 c =
    let line_of = read First c.args.s.now c.args.x c.requires.x_value in
    let t = total c.args.way c.args.s.now c.args.x c.args.d.now line_of c.requires.s_in_bounds in
    let l = same_2 c.args.way c.args.s.now c.args.x c.args.d.now line_of c.requires.s_in_bounds c.copy_in.new.dst c.copy_in.ensures c.put_params-n.result c.put_params-n.ensures.0 c.put_params-n.new.d c.put_params-n.ensures.1 in
    simp length-set (omega (arith, t, l, c.put_params-n.ensures.0))

-- src/lib.rt:144:55
pub slice_bounds-put_value-start-2 : goal.slice_bounds-put_value-start-2
slice_bounds-put_value-start-2 c =
    let line_of = read First c.args.s.now c.args.x c.requires.x_value in
    let t = total c.args.way c.args.s.now c.args.x c.args.d.now line_of c.requires.s_in_bounds in
    let l = same_2 c.args.way c.args.s.now c.args.x c.args.d.now line_of c.requires.s_in_bounds c.copy_in.new.dst c.copy_in.ensures c.put_params-n.result c.put_params-n.ensures.0 c.put_params-n.new.d c.put_params-n.ensures.1 in
    simp length-set (omega (arith, t, l, c.put_params-n.ensures.0))

-- src/lib.rt:144:9
pub put_value-m-requires : goal.put_value-m-requires
put_value-m-requires c =
    let line_of = read First c.args.s.now c.args.x c.requires.x_value in
    let t = total c.args.way c.args.s.now c.args.x c.args.d.now line_of c.requires.s_in_bounds in
    let l = same_2 c.args.way c.args.s.now c.args.x c.args.d.now line_of c.requires.s_in_bounds c.copy_in.new.dst c.copy_in.ensures c.put_params-n.result c.put_params-n.ensures.0 c.put_params-n.new.d c.put_params-n.ensures.1 in
    let v = c.args.x.value_start in
    let s = c.args.s.now in
    let q = rest_of v s in
    let n = length-drop v s in
    rw q (simp (length-take, length-drop, length-set) (omega (arith, t, l, c.put_params-n.ensures.0)), simp (length-take, length-drop, length-set) (omega (arith, t, l, c.put_params-n.ensures.0)))

-- src/lib.rt:145:5
pub overflow_add-result : goal.overflow_add-result
overflow_add-result c =
    let line_of = read First c.args.s.now c.args.x c.requires.x_value in
    let t = total c.args.way c.args.s.now c.args.x c.args.d.now line_of c.requires.s_in_bounds in
    let q = rest_of c.args.x.value_start c.args.s.now in
    omega (arith, t, c.put_params-n.ensures.0, rw q at c.put_value-m.ensures.0)

-- src/lib.rt:131:1
pub returns : goal.returns
returns c =
    let line_of = read First c.args.s.now c.args.x c.requires.x_value in
    let t = total c.args.way c.args.s.now c.args.x c.args.d.now line_of c.requires.s_in_bounds in
    let q = rest_of c.args.x.value_start c.args.s.now in
    (omega (arith, t, c.put_params-n.ensures.0, rw q at c.put_value-m.ensures.0), whole c.args.way c.args.s.now c.args.x c.args.d.now line_of c.requires.s_in_bounds c.copy_in.new.dst c.copy_in.ensures c.put_params-n.result c.put_params-n.ensures.0 c.put_params-n.new.d c.put_params-n.ensures.1 c.put_value-m.new.d (rw q at c.put_value-m.ensures.1))
