-- Version 3 sets, by the laws of `version3_laws`. Assumes nothing.
use Prim.Native.Nat.{ℕ}
use mathlib.Core.Path.{◌≡◌, ap}
use mathlib.Core.List.{List}
use mathlib.Core.Logic.{◌↔◌}
use Rattle.octets.specs.Room.{Filled, refuse}
use Rattle.desk_ledger.specs.Answers.{refused, wrote}
use Rattle.version3_parameters.specs.declared.Way.TheVariants.{Inward}
use Rattle.version3.specs.Outcome.{take_outcome, give_outcome}
use Rattle.version3_laws.specs.Refusals.{RefusedIn, RefusedOut}
use Rattle.version3_laws.proofs.SettledLaws.{Settled, refused as is-refused, wrote as is-written, convert_settled, give_settled}
use Rattle.version3_laws.proofs.TakeLaws.{takes, refuses_in_lem}
use Rattle.version3_laws.proofs.GiveLaws.{gives, refuses_out}
use Rattle.version3_laws.proofs.AcceptLaws.{accepted}
use Rattle.version3_laws.proofs.KeptLaws.{kept, in_again, types_in, types_out}
use Rattle.version3_laws.proofs.MeaningLaws.{says_one}
use Rattle.version3_laws.proofs.ExampleLaws.{taken_example, given_example}
use Rattle.demands.specs.Demand1.{Filling}
use Rattle.demands.specs.Demand10.{Demand10}
use Rattle.demands.proofs.Refusing.{clash}

-- an answer that is a refusal is the whole outcome
whole : {room : List ℕ} {f : Filled} (n p : ℕ) → Settled room f → wrote f.answer ≡ refused n p → f ≡ refuse n p room
whole {room} n p (is-refused m q) e =
    let a : m ≡ n = cc in
    let b : q ≡ p = cc in
    rw (a, b)
whole n p (is-written m after) e = clash cc

exactly : (f : Filled) (room : List ℕ) (By : ℕ → ℕ → Type 0) → Settled room f → ((n p : ℕ) → (f ≡ refuse n p room) ↔ By n p) → Filling f room By
exactly f room By s h = record {
  only = λ n p e. (h n p).0 (whole n p s e);
  answers = λ n p b. ap (λ (g : Filled). wrote g.answer) ((h n p).1 b);
  unchanged = λ n p b. ap (λ (g : Filled). g.room) ((h n p).1 b);
}

pub demand10 : Demand10
demand10 =
    record {
      takes = takes;
      refuses_in = λ i room. exactly (take_outcome i room) room (RefusedIn i room) (convert_settled room Inward i) (refuses_in_lem i room);
      gives = gives;
      refuses_out = λ i room. exactly (give_outcome i room) room (RefusedOut i room) (give_settled room i) (refuses_out i room);
      accepted = accepted;
      kept = kept;
      one_meaning = says_one;
      in_again = in_again;
      types_in = types_in;
      types_out = types_out;
      taken_example = taken_example;
      given_example = given_example;
    }
