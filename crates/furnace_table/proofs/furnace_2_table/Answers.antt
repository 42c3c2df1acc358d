use Rattle.furnace_table.specs.Table.{rows}
use Rattle.furnace_table.proofs.Answering.{answered_all}
use Rattle.furnace_table.proofs.Entries.{entries_accepted}
use Rattle.furnace_table.proofs.Lines.{lines, countable}
use Rattle.furnace_table.proofs.furnace_2_table.Goals as goal

pub returns : goal.returns
returns c = record { accepted = entries_accepted; holds = lines; answered = answered_all rows lines countable }
