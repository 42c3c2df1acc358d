-- What is asked has one answer. Assumes nothing.
use Rattle.std.proofs.Common.{◌≡◌, ℕ, List, [], Result, Ok, Err, sym, ◌∙◌}
use Rattle.console.specs.Commands.{Order, enters, asks, reports, nothing}
use Rattle.console.proofs.Spoken.{spoken_once}
use Rattle.postings.specs.Lists.{PostingLists}
use Rattle.search.specs.Meaning.{over}
use Rattle.index.specs.declared.refusal.OpenRefusal.{OpenRefusal}
use Rattle.answering.specs.Asking.{areas}
use Rattle.answering.proofs.Asked.{says_once}
use Rattle.ask.specs.Asked.{Said, postings_then, Answered}

said_once : (p : PostingLists) (o : Order) (a b : List ℕ) → Said p o a → Said p o b → a ≡ b
said_once p (enters name slot) a b h k = h ∙ sym k
said_once p (asks text) a b h k = says_once (over p []) areas text a b h k
said_once p reports a b h k = h ∙ sym k
said_once p nothing a b h k = h ∙ sym k

pub answered_once : (v : Result (Unit {0}) OpenRefusal) (p : PostingLists) (lines : List (List ℕ)) (a b : List ℕ) → Answered v p lines a → Answered v p lines b → a ≡ b
answered_once (Ok _) p lines a b h k = spoken_once Said postings_then said_once p lines a b h k
answered_once (Err why) p lines a b h k = h ∙ sym k
