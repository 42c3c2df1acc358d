-- What a query and a report are answered, in bytes. Assumes nothing.
--
--   area_size     how many extents a work area holds
--   areas         the room of a search
--   fault_text    the bytes of a search's fault: its number and its place
--   query_text    the bytes that answer a query: those of the fault that the law gives, or of its list and its calls
--   Says          these bytes answer a text: as a query where it reads as one, and with its reading fault where it does not
--   report_text   the bytes of the report, or of its fault
use Rattle.std.specs.Prelude.{◌≡◌, ℕ, ◌⊎◌, List, ◌++◌}
use Rattle.refusals.specs.Refusals.{text_of}
use Rattle.postings.specs.Lists.{PostingLists}
use Rattle.query.specs.declared.fault.ReadFault.{ReadFault}
use Rattle.query.specs.Expressions.{Expr}
use Rattle.query.specs.Outcomes.{Reads, Refuses}
use Rattle.search.specs.declared.fault.SearchFault.{SearchFault}
use Rattle.search.specs.declared.fault.SearchFault.TheVariants.{Read}
use Rattle.search.specs.Faults.{refusal_of as search_refusal_of}
use Rattle.search.specs.Meaning.{Log, listed}
use Rattle.search.specs.Law.{Room, search_fault, query_calls}
use Rattle.report.specs.declared.fault.ReportFault.{ReportFault}
use Rattle.report.specs.Faults.{refusal_of as report_refusal_of}
use Rattle.report.specs.Quiet.{quiet_reversals}
use Rattle.report.specs.Law.{report_calls, report_fault}
use Rattle.console.specs.Cuts.{line_end}
use Rattle.answering.specs.Spelling.{answer_text}

abbrev pub area_size : ℕ
area_size = 8192

abbrev pub areas : Room
areas = record { stack = area_size; scratch = area_size }

abbrev pub fault_text : SearchFault → List ℕ
fault_text fault = text_of (search_refusal_of fault)

abbrev pub report_fault_text : ReportFault → List ℕ
report_fault_text fault = text_of (report_refusal_of fault)

abbrev pub query_text : Log → Room → Expr → List ℕ
query_text log room e = answer_text fault_text (search_fault log room e) (listed log e) (query_calls log e)

pub record Says (log : Log) (room : Room) (text said : List ℕ) : Type 0 where
  pub query : (e : Expr) → Reads text e → said ≡ query_text log room e
  pub misread : (f : ReadFault) → Refuses text f → said ≡ fault_text (Read f) ++ line_end
  pub either : ((e : Expr) × Reads text e) ⊎ ((f : ReadFault) × Refuses text f)

unfoldable pub report_text : PostingLists → Room → List ℕ
report_text p room = answer_text report_fault_text (report_fault p room) (quiet_reversals p) (report_calls p)
