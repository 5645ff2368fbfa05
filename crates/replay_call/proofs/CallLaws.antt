-- One call by the octet that names it: what it does to the desk, and its answer in the log. Assumes nothing.
use Prim.Native.Nat.{ℕ}
use mathlib.Core.Path.{◌≡◌, refl, sym, ap, ◌∙◌}
use mathlib.Core.Bool.{Bool, true, false}
use mathlib.Core.List.{List}
use lib.Dec.{eqb}
use lib.ListN.{get_or, take, drop}
use borrow.Author.Tests.{ne_eqb}
use Rattle.octets.specs.Pick.{pick}
use Rattle.desk.specs.Answer.{answer}
use Rattle.desk.specs.Steps.{Turned, turned, open_step, add_step, release_step, show_step, held_step, judge_step}
use Rattle.desk.specs.declared.Desk.{Desk}
use Rattle.desk.specs.declared.Turn.{Turn}
use Rattle.desk_ledger.specs.Ledger.{part, verdict, Out}
use Rattle.desk_ledger.specs.Ticks.{judging, showing, counting, Ticked}
use Rattle.desk_ledger.specs.Desks.{World, said, took, ask_step, desk_step}
use Rattle.replay_script.specs.Numerals.{two_at, four_at}
use Rattle.replay_script.specs.Scripts.{query_of, call_of}
use Rattle.replay_log.specs.Logs.{entry, Put}
use Rattle.replay_call.specs.Stepped.{world_of, Stepped}

-- ---- the call at the start of s, whose number is m

module _ (w : World) (t name : ℕ) where
  pub query_judge : name ≡ 3 → (ask_step w t (query_of name)).reply ≡ verdict (judge_step w.desk w.pool t)
  query_judge e = rw e

  pub query_show : name ≡ 4 → (ask_step w t (query_of name)).reply ≡ part (show_step w.desk w.pool t).octets
  query_show e = rw e

  pub query_held : (name ≡ 3 → ⊥) → (name ≡ 4 → ⊥) → (ask_step w t (query_of name)).reply ≡ said (held_step w.desk w.pool t)
  query_held n k = rw (ne_eqb name 3 n, ne_eqb name 4 k)

  pub query_keeps : (ask_step w t (query_of name)).then ≡ w
  query_keeps = go (eqb name 3) (eqb name 4)
    where
      go : (a b : Bool) → (ask_step w t (pick a judging (pick b showing counting))).then ≡ w
      go true b = refl
      go false true = refl
      go false false = refl

module _ (w : World) (s : List ℕ) (m : ℕ) (e : m ≡ four_at s 1) where
  step_open : (k : ℕ) → get_or s 0 0 ≡ 1 → k ≡ four_at s 5 → desk_step w (call_of s) ≡ took (open_step w.desk w.pool m k)
  unfolding call_of
  step_open k b g = rw (b, e, g)

  step_add : (q : List ℕ) (k : ℕ) → get_or s 0 0 ≡ 2 → q ≡ take (two_at s 9) (drop 11 s) → k ≡ four_at s 5 → desk_step w (call_of s) ≡ took (add_step w.desk w.pool m q k)
  unfolding call_of
  step_add q k b f g = rw (b, e, f, g)

  step_release : get_or s 0 0 ≡ 6 → desk_step w (call_of s) ≡ took (release_step w.desk w.pool m)
  unfolding call_of
  step_release b = rw (b, e)

  pub step_query : (get_or s 0 0 ≡ 1 → ⊥) → (get_or s 0 0 ≡ 2 → ⊥) → (get_or s 0 0 ≡ 6 → ⊥) → desk_step w (call_of s) ≡ ask_step w m (query_of (get_or s 0 0))
  unfolding call_of
  step_query n k l = rw (ne_eqb (get_or s 0 0) 1 n, ne_eqb (get_or s 0 0) 2 k, ne_eqb (get_or s 0 0) 6 l, e)

-- a call that hands a turn back, with the pool p
pub record Acts (w : World) (c : Ticked) (turn : Turn) (p : List ℕ) : Type 0 where
  pub reply : (desk_step w c).reply ≡ said (answer turn.answer)
  pub world : world_of turn.desk p ≡ (desk_step w c).then

acts : (w : World) (c : Ticked) (turn : Turn) (p : List ℕ) (x : Turned) → desk_step w c ≡ took x → turned turn p ≡ x → Acts w c turn p
acts w c turn p x e f =
    record {
      reply = ap (λ (o : Out World). o.reply) e ∙ ap (λ (y : Turned). said y.answer) (sym f);
      world = ap (λ (y : Turned). (took y).then) f ∙ sym (ap (λ (o : Out World). o.then) e);
    }

module _ (w : World) (s : List ℕ) (m : ℕ) (e : m ≡ four_at s 1) (turn : Turn) (p : List ℕ) where
  pub open_acts : (k : ℕ) → get_or s 0 0 ≡ 1 → k ≡ four_at s 5 → turned turn p ≡ open_step w.desk w.pool m k → Acts w (call_of s) turn p
  open_acts k b g f = acts w (call_of s) turn p (open_step w.desk w.pool m k) (step_open w s m e k b g) f

  pub add_acts : (q : List ℕ) (k : ℕ) → get_or s 0 0 ≡ 2 → q ≡ take (two_at s 9) (drop 11 s) → k ≡ four_at s 5 → turned turn p ≡ add_step w.desk w.pool m q k → Acts w (call_of s) turn p
  add_acts q k b r g f = acts w (call_of s) turn p (add_step w.desk w.pool m q k) (step_add w s m e q k b r g) f

  pub release_acts : get_or s 0 0 ≡ 6 → turned turn p ≡ release_step w.desk w.pool m → Acts w (call_of s) turn p
  release_acts b f = acts w (call_of s) turn p (release_step w.desk w.pool m) (step_release w s m e b) f

pub acts_steps : {w : World} {c : Ticked} {turn : Turn} {p : List ℕ} → Acts w c turn p → {d : Desk} {l l' : List ℕ} {n : ℕ} → d ≡ turn.desk
    → Put (entry (said (answer turn.answer))) l l' n → Stepped w c d p l l' n
acts_steps {w} {c} {turn} {p} a q h = record { world = ap (λ (y : Desk). world_of y p) q ∙ a.world; put = rw a.reply h }

-- a call that looks
pub query_steps : (w : World) (c : Ticked) (m name : ℕ) → desk_step w c ≡ ask_step w m (query_of name)
    → (l l' : List ℕ) (n : ℕ) → Put (entry (ask_step w m (query_of name)).reply) l l' n → Stepped w c w.desk w.pool l l' n
query_steps w c m name e l l' n h =
    record {
      world = sym (ap (λ (o : Out World). o.then) e ∙ query_keeps w m name);
      put = rw (ap (λ (o : Out World). o.reply) e) h;
    }
