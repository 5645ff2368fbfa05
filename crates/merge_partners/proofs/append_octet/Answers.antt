-- `merge_partners::append_octet` meets its contract. Assumes nothing.
use Rattle.merge_partners.specs.Heads.{with_octet}
use borrow.Author.Rules.{rules}
use Rattle.merge_partners.proofs.append_octet.Goals as goal

pub returns : goal.returns
unfolding with_octet
returns c = search rules
