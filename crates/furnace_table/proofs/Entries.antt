-- The ten entries are all accepted, so the log that they make obeys the law of posting lists. Assumes nothing.
use Rattle.std.proofs.Common.{◌≡◌, [], refl, subst}
use Rattle.names.specs.Names.{is_name}
use Rattle.postings.specs.Lists.{Lawful}
use Rattle.shift_logbook.specs.Ledger.{ledger_lists, judge, entered}
use Rattle.shift_logbook.specs.History.{ledger_after}
use Rattle.furnace_table.specs.Table.{entries}
use Rattle.furnace_table.proofs.Ledgers.{ledgers_lawful}

pub entries_accepted : ledger_after [] entries ≡ entries
unfolding is_name judge entered
entries_accepted = refl

pub entries_lawful : Lawful (ledger_lists entries)
entries_lawful = subst (λ l. Lawful (ledger_lists l)) entries_accepted (ledgers_lawful entries)
