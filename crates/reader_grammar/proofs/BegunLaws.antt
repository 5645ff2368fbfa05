-- The lines of a card that has not ended, one line further; and what each of its lines satisfies. Assumes nothing.
use mathlib.Core.Path.{◌≡◌, sym, ap, ◌∙◌}
use mathlib.Core.Bool.{Bool, true, false, not}
use mathlib.Core.List.{List, [], ◌∷◌, ◌++◌}
use mathlib.Core.Logic.{inl, inr}
use Prim.Native.Nat.{ℕ, ◌≤◌}
use native.Mathlib.Omega.{arith}
use borrow.Author.Tests.{eqb-true, ne_eqb}
use Rattle.line_parser.specs.Grammar.{Line, Each}
use Rattle.property_table.specs.Rows.{single}
use Rattle.octets.proofs.Bools.{by}
use Rattle.card_line.specs.Parts.{row_of_line, kind_of_line}
use Rattle.reader_grammar.specs.Values.{Fitting}
use Rattle.reader_grammar.specs.Cards.{Begins, Versions, Ends, Inside, counts, count, of_row, lines_of, says_group, group_lines, any, same_instance, instances, Inner, CardLines, card}
use Rattle.reader_grammar.specs.Refusals.{Begun, nothing, first, within, InPlace, Framing, Unladen}
use Rattle.reader_grammar.proofs.Known.{any_some, any_none, Joins}
use Rattle.reader_grammar.proofs.InstanceLaws.{instances_last, instances_few, past_two_any}
use Rattle.property_table.specs.declared.Edition.{Edition}

module _ (ed : Edition) where
  module _ {A : Type 0} (P : A → Type 0) where
    pub each_join : (xs ys : List A) → Each P xs → Each P ys → Each P (xs ++ ys)
    unfolding Each
    each_join [] ys h g = g
    each_join (x ∷ xs) ys h g = (h.0, each_join xs ys h.1 g)

    pub each_split : (xs ys : List A) → Each P (xs ++ ys) → Each P xs × Each P ys
    unfolding Each
    each_split [] ys h = (tt, h)
    each_split (x ∷ xs) ys h = let k = each_split xs ys h.1 in ((h.0, k.0), k.1)

  -- a line that may stand where it stands: in its place, no 8, no 7
  pub record Stands (ys : List Line) (x : Line) : Type 0 where
    pub place : InPlace ed ys x
    pub unladen : Unladen ed x
    pub fits : Fitting ed (row_of_line ed x) (kind_of_line ed x) x.value

  pub begin_stands : (x : Line) → Begins ed x → Stands [] x
  unfolding InPlace
  begin_stands x h = record {
    place = h.row;
    unladen = λ f. h.bare;
    fits = record {
      begin = λ e. h.value;
      end = λ e. absurd (omega (arith, h.row));
      version = λ e. absurd (omega (arith, h.row));
      other = λ a b c. absurd (a h.row);
    };
  }

  pub version_stands : (b x : Line) → Versions ed x → Stands (b ∷ []) x
  unfolding InPlace
  version_stands b x h = record {
    place = h.row;
    unladen = λ f. h.bare;
    fits = record {
      begin = λ e. absurd (omega (arith, h.row));
      end = λ e. absurd (omega (arith, h.row));
      version = λ e. h.value;
      other = λ a b c. absurd (c h.row);
    };
  }

  pub end_stands : (b v : Line) (ys : List Line) (x : Line) → Ends ed x → Stands (b ∷ v ∷ ys) x
  unfolding InPlace
  end_stands b v ys x h = record {
    place = (λ e. omega (arith, h.row), λ e. omega (arith, h.row));
    unladen = λ f. h.bare;
    fits = record {
      begin = λ e. absurd (omega (arith, h.row));
      end = λ e. h.value;
      version = λ e. absurd (omega (arith, h.row));
      other = λ a b c. absurd (b h.row);
    };
  }

  not_framing : (x : Line) → Inside ed x → Framing (row_of_line ed x) → ⊥
  not_framing x h (inl e) = h.begin e
  not_framing x h (inr (inl e)) = h.version e
  not_framing x h (inr (inr e)) = h.end e

  pub inside_stands : (b v : Line) (ys : List Line) (x : Line) → Inside ed x → Stands (b ∷ v ∷ ys) x
  unfolding InPlace
  inside_stands b v ys x h = record {
    place = (h.begin, h.version);
    unladen = λ f. absurd (not_framing x h f);
    fits = record {
      begin = λ e. absurd (h.begin e);
      end = λ e. absurd (h.end e);
      version = λ e. absurd (h.version e);
      other = λ a b c. h.value;
    };
  }

  -- two lines that don't pass the test
  pub past_two : (p : Line → Bool) (b v : Line) (ys : List Line) → p b ≡ false → p v ≡ false → count p (b ∷ v ∷ ys) ≡ count p ys
  unfolding count
  past_two p b v ys e f = rw (e, f)

  -- BEGIN and VERSION are no lines of another row
  pub frame_rows : (row : ℕ) (b v : Line) (ys : List Line) → (row ≡ 1 → ⊥) → (row ≡ 34 → ⊥) → Begins ed b → Versions ed v
      → lines_of ed row (b ∷ v ∷ ys) ≡ lines_of ed row ys
  frame_rows row b v ys f g h k =
      past_two (of_row ed row) b v ys
      (ne_eqb (row_of_line ed b) row (λ e. f (sym e ∙ h.row)))
      (ne_eqb (row_of_line ed v) row (λ e. g (sym e ∙ k.row)))

  pub frame_groups : (b v : Line) (ys : List Line) → Begins ed b → Versions ed v → group_lines ed (b ∷ v ∷ ys) ≡ group_lines ed ys
  frame_groups b v ys h k = past_two (says_group ed) b v ys (rw h.row) (rw k.row)

  module _ (x : Line) where
    -- BEGIN and VERSION are of no other row's instances
    pub frame_any : (b v : Line) (ys : List Line) → Begins ed b → Versions ed v → Inside ed x → any (same_instance ed x) (b ∷ v ∷ ys) ≡ any (same_instance ed x) ys
    frame_any b v ys h k i = past_two_any ed x b v ys (λ e. i.begin (sym e ∙ h.row)) (λ e. i.version (sym e ∙ k.row))

    -- a line that starts no second instance after ys
    once_next : (b v : Line) (ys : List Line) → Begins ed b → Versions ed v → Inner ed ys → Inside ed x → Joins ed (b ∷ v ∷ ys) x
        → (row : ℕ) → single row ≡ true → instances ed row [] (ys ++ (x ∷ [])) ≤ 1
    once_next b v ys begins versions h g f row e =
        rw (instances_last ed row ys x)
        (by (of_row ed row x)
        (λ t.
        let q = eqb-true (row_of_line ed x) row t in
        by (any (of_row ed row) ys)
        (λ o.
        let some : 1 ≤ lines_of ed (row_of_line ed x) ys = rw q (any_some ed (of_row ed row) ys o) in
        let all : lines_of ed (row_of_line ed x) (b ∷ v ∷ ys) ≡ lines_of ed (row_of_line ed x) ys = frame_rows (row_of_line ed x) b v ys g.begin g.version begins versions in
        let m : any (same_instance ed x) ys ≡ true = sym (frame_any b v ys begins versions g) ∙ f (ap single q ∙ e) (omega (arith, all)) in
        rw (t, m) (omega (arith, h.once row e)))
        (λ o. rw t (omega (arith, instances_few ed row [] ys, none_lines row ys o, one_more (not (any (same_instance ed x) ys))))))
        (λ t. rw t (omega (arith, h.once row e))))
      where
        one_more : (t : Bool) → counts t 0 ≤ 1
        one_more true = omega arith
        one_more false = omega arith

        none_lines : (row : ℕ) (ys : List Line) → any (of_row ed row) ys ≡ false → lines_of ed row ys ≡ 0
        none_lines row ys o = any_none ed (of_row ed row) ys o

    inner_next : (b v : Line) (ys : List Line) → Begins ed b → Versions ed v → Inner ed ys → Inside ed x → Joins ed (b ∷ v ∷ ys) x → Inner ed (ys ++ (x ∷ []))
    unfolding Each
    inner_next b v ys begins versions h g f = record {
      each = each_join (Inside ed) ys (x ∷ []) h.each (g, tt);
      once = once_next b v ys begins versions h g f;
    }

    -- a line that is no END
    pub begun_next : {ys : List Line} → Begun ed ys → Stands ys x → (row_of_line ed x ≡ 2 → ⊥) → Joins ed ys x → Begun ed (ys ++ (x ∷ []))
    unfolding InPlace Each instances
    begun_next nothing s e f = first (record { row = s.place; bare = s.unladen (inl s.place); value = s.fits.begin s.place })
    begun_next (first h) s e f =
        within {ys = []} h (record { row = s.place; bare = s.unladen (inr (inl s.place)); value = s.fits.version s.place })
        (record { each = tt; once = λ row o. omega arith })
    begun_next (within {b = b} {v = v} {ys = ys} h g i) s e f =
        within h g (inner_next b v ys h g i (record {
          begin = s.place.0;
          version = s.place.1;
          end = e;
          value = s.fits.other s.place.0 e s.place.1;
        }) f)

    -- END
    pub begun_end : {ys : List Line} → Begun ed ys → Stands ys x → row_of_line ed x ≡ 2 → 1 ≤ lines_of ed 6 ys → (1 ≤ lines_of ed 24 ys → 1 ≤ group_lines ed ys)
        → CardLines ed (ys ++ (x ∷ []))
    unfolding InPlace
    begun_end nothing s e n m = absurd (omega (arith, s.place))
    begun_end (first h) s e n m = absurd (omega (arith, s.place))
    begun_end (within {b = b} {v = v} {ys = ys} h g i) s e n m =
        card h g (record {
          inner = i;
          named = rw (frame_rows 6 b v ys (λ e. omega arith) (λ e. omega arith) h g) at n;
          members = rw (frame_rows 24 b v ys (λ e. omega arith) (λ e. omega arith) h g, frame_groups b v ys h g) at m;
        }) (record { row = e; bare = s.unladen (inr (inr e)); value = s.fits.end e })
