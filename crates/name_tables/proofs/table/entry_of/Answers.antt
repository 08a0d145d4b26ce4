use Rattle.name_tables.proofs.Grouping.{first_of}
use Rattle.name_tables.proofs.table.entry_of.Goals as goal

pub returns : goal.returns
returns c = λ name is. record {
  labels = c.in_ok-labels.ensures name is;
  top = first_of c.args.clafers.now name c.args.named.now c.first_at_top-top.result is c.first_at_top-top.ensures;
}
