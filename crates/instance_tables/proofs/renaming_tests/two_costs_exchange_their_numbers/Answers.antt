use Rattle.std.proofs.Common.{sym, subst}
use Rattle.clf_tree.specs.Renaming.{IsRenaming}
use Rattle.instance_tables.proofs.Swapped.{exchanges}
use Rattle.instance_tables.proofs.renaming_tests.two_costs_exchange_their_numbers.Goals as goal

pub rename-requires-clause-renaming : goal.rename-requires-clause-renaming
rename-requires-clause-renaming g c = subst (IsRenaming _) (sym c.in_ok-exchange.ensures) (exchanges _ c.in_ok-from_slice.ensures)
