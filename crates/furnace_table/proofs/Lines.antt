-- Each line of the table, by computing. Assumes nothing.
use Rattle.std.proofs.Common.{◌≡◌, ℕ, [], get_or, None, codes, refl, subst}
use Rattle.std.specs.List.{AllByRecursion}
use Rattle.extents.specs.Extents.{first_start, first_end, last_end}
use Rattle.extents.specs.Regions.{Lists}
use Rattle.extents.specs.Windows.{windows_of}
use Rattle.containment.specs.Filter.{kept, walk_calls, ahead_calls}
use Rattle.combination.specs.BothOf.{both_of, both_first_start_calls}
use Rattle.combination.specs.OneOf.{one_of}
use Rattle.combination.specs.Followed.{followed, followed_first_start_calls}
use Rattle.query.specs.Expressions.{Expr}
use Rattle.query.specs.Grammar.{alone, joined, single, bracket}
use Rattle.query.specs.Outcomes.{Reads}
use Rattle.query.specs.Scanning.{scan}
use Rattle.search.specs.Law.{search_fault, query_calls}
use Rattle.search.specs.Meaning.{denotes, listed}
use Rattle.search.proofs.Sets.{meaning_listed}
use Rattle.furnace_table.specs.Table.{furnace_log, areas, Row, rows, Holds}
use Rattle.furnace_table.proofs.Answering.{Countable}
use Rattle.furnace_table.proofs.Entries.{entries_lawful}
use Rattle.furnace_table.proofs.Tokens.{reads_by}

line : (row : Row) {e : Expr} → Reads row.text e → search_fault furnace_log areas e ≡ None → listed furnace_log e ≡ row.extents → query_calls furnace_log e ≡ row.calls → Holds row
line row {e} reads unrefused listing count = record {
  expr = e;
  reads = reads;
  unrefused = unrefused;
  listing = listing;
  means = subst (Lists (denotes furnace_log e)) listing (meaning_listed furnace_log (record { lists = entries_lawful }) e);
  count = count;
}

-- the line at an index of the table
abbrev row : ℕ → Row
row i = get_or rows i (record { text = []; extents = []; calls = 0 })

line_0 : Holds (row 0)
unfolding scan followed first_start last_end followed_first_start_calls
line_0 = line (row 0) (reads_by 3 (codes "[rev ; rev]") (joined _ _ (alone (single _ _)) (single _ _)) refl tt) refl refl refl

line_1 : Holds (row 1)
unfolding scan followed first_start last_end followed_first_start_calls kept walk_calls ahead_calls
line_1 = line (row 1) (reads_by 5 (codes "[rev ; rev] > alarm") (joined _ _ (joined _ _ (alone (single _ _)) (single _ _)) (single _ _)) refl tt) refl refl refl

line_2 : Holds (row 2)
unfolding scan followed first_start last_end followed_first_start_calls kept walk_calls ahead_calls
line_2 = line (row 2) (reads_by 5 (codes "[rev ; rev] !> alarm") (joined _ _ (joined _ _ (alone (single _ _)) (single _ _)) (single _ _)) refl tt) refl refl refl

line_3 : Holds (row 3)
unfolding scan followed first_start last_end followed_first_start_calls first_end kept walk_calls ahead_calls
line_3 = line (row 3) (reads_by 7 (codes "alarm < ([rev ; rev])") (joined _ _ (alone (single _ _)) (bracket _ _ (joined _ _ (alone (single _ _)) (single _ _)))) refl tt) refl refl refl

line_4 : Holds (row 4)
unfolding scan followed first_start last_end followed_first_start_calls first_end kept walk_calls ahead_calls
line_4 = line (row 4) (reads_by 7 (codes "alarm !< ([rev ; rev])") (joined _ _ (alone (single _ _)) (bracket _ _ (joined _ _ (alone (single _ _)) (single _ _)))) refl tt) refl refl refl

line_5 : Holds (row 5)
unfolding scan both_of first_start last_end both_first_start_calls
line_5 = line (row 5) (reads_by 3 (codes "cut & alarm") (joined _ _ (alone (single _ _)) (single _ _)) refl tt) refl refl refl

line_6 : Holds (row 6)
unfolding scan one_of
line_6 = line (row 6) (reads_by 3 (codes "alarm | cut") (joined _ _ (alone (single _ _)) (single _ _)) refl tt) refl refl refl

line_7 : Holds (row 7)
unfolding scan followed first_start last_end followed_first_start_calls
line_7 = line (row 7) (reads_by 3 (codes "cut ; alarm") (joined _ _ (alone (single _ _)) (single _ _)) refl tt) refl refl refl

line_8 : Holds (row 8)
unfolding scan followed first_start last_end followed_first_start_calls
line_8 = line (row 8) (reads_by 3 (codes "alarm ; alarm") (joined _ _ (alone (single _ _)) (single _ _)) refl tt) refl refl refl

line_9 : Holds (row 9)
unfolding scan windows_of both_of first_start last_end both_first_start_calls kept walk_calls ahead_calls
line_9 = line (row 9) (reads_by 7 (codes "#5 > (alarm & cut)") (joined _ _ (alone (single _ _)) (bracket _ _ (joined _ _ (alone (single _ _)) (single _ _)))) refl tt) refl refl refl

line_10 : Holds (row 10)
unfolding scan
line_10 = line (row 10) (reads_by 1 (codes "stone") (alone (single _ _)) refl tt) refl refl refl

line_11 : Holds (row 11)
unfolding scan windows_of
line_11 = line (row 11) (reads_by 1 (codes "#19") (alone (single _ _)) refl tt) refl refl refl

line_12 : Holds (row 12)
unfolding scan windows_of
line_12 = line (row 12) (reads_by 1 (codes "#20") (alone (single _ _)) refl tt) refl refl refl

pub lines : AllByRecursion Holds rows
lines = (line_0, (line_1, (line_2, (line_3, (line_4, (line_5, (line_6, (line_7, (line_8, (line_9, (line_10, (line_11, (line_12, tt)))))))))))))

pub countable : AllByRecursion Countable rows
countable = (refl, (refl, (refl, (refl, (refl, (refl, (refl, (refl, (refl, (refl, (refl, (refl, (refl, tt)))))))))))))
