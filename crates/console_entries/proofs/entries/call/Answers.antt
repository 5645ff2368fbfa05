-- `console_entries::entries::call` meets its contract. Assumes nothing.
use Rattle.console_entries.proofs.entries.call.Goals as goal

pub returns-in-Fold : goal.returns-in-Fold
returns-in-Fold c = rw c.in-Fold.is c.fold.ensures

pub returns-in-Escape : goal.returns-in-Escape
returns-in-Escape c = rw c.in-Escape.is c.escape.ensures

pub returns-in-Unescape : goal.returns-in-Unescape
returns-in-Unescape c = rw c.in-Unescape.is c.unescape.ensures

pub returns-in-Encode : goal.returns-in-Encode
returns-in-Encode c = rw c.in-Encode.is c.encode.ensures

pub returns-in-Decode : goal.returns-in-Decode
returns-in-Decode c = rw c.in-Decode.is c.decode.ensures

pub returns-in-FoldIn : goal.returns-in-FoldIn
returns-in-FoldIn c = rw c.in-FoldIn.is c.fold_styled.ensures

pub returns-in-TakeIn : goal.returns-in-TakeIn
returns-in-TakeIn c = rw c.in-TakeIn.is c.take_in.ensures

pub returns-in-GiveOut : goal.returns-in-GiveOut
returns-in-GiveOut c = rw c.in-GiveOut.is c.give_out.ensures
