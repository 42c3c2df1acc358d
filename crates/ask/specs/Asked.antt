-- What is answered over the bytes of an index: over the postings that they mean, or by why they are no index. Assumes nothing.
--
--   Said                these bytes answer an order, over postings
--   postings_then       the postings after an order: they are the same, since no order changes them
--   StandsFor           an opened index stands for the postings that its bytes mean
--   ReadingAnswers      over those, these bytes answer the order, and the index is the same after it
--   Asked               these bytes answer lines, one after the other
--   AskedRun            a run over postings read lines and wrote their answers
--   refused_text        what is told of bytes that are no index
--   RefusedRun          a run over bytes that are no index read nothing and told why, or a front of it where that fails
--   Answered, Answers   these bytes are the whole answer to lines over the bytes of a file
use Rattle.std.specs.Prelude.{◌≡◌, ℕ, List, [], ◌++◌, take, Option, Result, Ok, Err, OnOk}
use Rattle.std.specs.Io.KnownBytes.{Appends}
use Rattle.refusals.specs.Refusals.{text_of}
use Rattle.console.specs.Commands.{Order, enters, asks, reports, nothing}
use Rattle.console.specs.declared.stop.Stop.{Stop}
use Rattle.console.specs.Spoken.{Spoken, SpokenRun, Follows}
use Rattle.postings.specs.Lists.{PostingLists}
use Rattle.search.specs.Meaning.{over}
use Rattle.index.specs.Meaning.{meaning}
use Rattle.index.specs.Opened.{bytes_of}
use Rattle.index.specs.Refusals.{open_refusal_of}
use Rattle.index.specs.Verdict.{verdict}
use Rattle.index.specs.declared.refusal.OpenRefusal.{OpenRefusal}
use Rattle.console.specs.Cuts.{line_end}
use Rattle.answering.specs.Asking.{areas, Says, report_text}
use Rattle.ask.specs.declared.reading.Reading.{Reading}

abbrev pub Said : PostingLists → Order → List ℕ → Type 0
Said p (enters name slot) said = said ≡ []
Said p (asks text) said = Says (over p []) areas text said
Said p reports said = said ≡ report_text p areas
Said p nothing said = said ≡ []

abbrev pub postings_then : PostingLists → Order → PostingLists
postings_then p order = p

abbrev pub StandsFor : Reading → PostingLists → Type 0
StandsFor r p = meaning (bytes_of r.index) ≡ p

abbrev pub ReadingAnswers : Reading → Order → List ℕ → Reading → Type 0
ReadingAnswers = Follows StandsFor Said postings_then

abbrev pub Asked : PostingLists → List (List ℕ) → List ℕ → Type 0
Asked = Spoken Said postings_then

abbrev pub AskedRun : {A : Type 0} → PostingLists → Result A Stop → Option (List ℕ) → Option (List ℕ) → Option (List ℕ) → Option (List ℕ) → Type 0
AskedRun = SpokenRun Said postings_then

abbrev pub refused_text : OpenRefusal → List ℕ
refused_text why = text_of (open_refusal_of why) ++ line_end

pub record RefusedRun {A : Type 0} (why : OpenRefusal) (result : Result A Stop) (unread left before now : Option (List ℕ)) : Type 0 where
  pub unread_still : left ≡ unread
  pub whole : OnOk result (Appends before now (refused_text why))
  pub front : (n : ℕ) × Appends before now (take n (refused_text why))

abbrev pub Answered : Result (Unit {0}) OpenRefusal → PostingLists → List (List ℕ) → List ℕ → Type 0
Answered (Ok _) p lines written = Asked p lines written
Answered (Err why) p lines written = written ≡ refused_text why

abbrev pub Answers : List ℕ → List (List ℕ) → List ℕ → Type 0
Answers bytes = Answered (verdict bytes) (meaning bytes)
