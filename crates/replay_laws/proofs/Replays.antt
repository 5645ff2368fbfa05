-- The claim about lists of calls, of a program that makes them, proved. Assumes nothing.
use Rattle.replay_laws.specs.Replays.{Replays}
use Rattle.replay_laws.proofs.Refinement.{replay_refines}
use Rattle.replay_laws.proofs.TellLaws.{tells}
use Rattle.replay_laws.proofs.EveryList.{every_list}

pub replays : Replays
replays = record { refines = replay_refines; tells = tells; every_list = every_list }
