-- A search and a report, answered in bytes. Assumes nothing.
use Rattle.std.proofs.Common.{◌≡◌, ℕ, ◌≤◌, List, ◌++◌, length, take, Some, None, Ok, Err, Option, Result, sym, ap, ◌∙◌, subst, ⊎_elim, arith, length-append}
use Rattle.std.specs.Result.{IfOk, MatchResult}
use Rattle.std.proofs.Math.Seq.{take-append_seam}
use Rattle.extents.specs.Counts.{capped}
use Rattle.extents.specs.declared.extent.Extent.{Extent}
use Rattle.operators.specs.declared.listing.Listing.{Listing}
use Rattle.query.specs.Expressions.{Expr}
use Rattle.query.specs.declared.fault.ReadFault.{ReadFault}
use Rattle.query.specs.Outcomes.{Reads, Refuses}
use Rattle.search.specs.declared.fault.SearchFault.{SearchFault}
use Rattle.search.specs.declared.fault.SearchFault.TheVariants.{Read}
use Rattle.search.specs.Meaning.{Log, listed}
use Rattle.search.specs.Law.{Room, Areas, search_fault, query_calls}
use Rattle.search.specs.Searches.{Answers, Refused, Searched}
use Rattle.console.specs.Cuts.{line_end}
use Rattle.answering.specs.Spelling.{found_text, answer_text}
use Rattle.answering.specs.Asking.{fault_text, Says}

-- the bytes of an answer, with the list at the front of an area
abbrev pub told_text : {F : Type 0} → (F → List ℕ) → Result Listing F → List Extent → List ℕ
told_text text (Ok l) area = found_text l.calls (take l.n area)
told_text text (Err why) area = text why ++ line_end

-- the front of an area is the list that was found
front_of : (xs area rest : List Extent) → area ≡ xs ++ rest → (length xs ≤ length area) × (take (length xs) area ≡ xs)
front_of xs area rest e = (omega (arith, ap length e ∙ length-append xs rest), ap (take (length xs)) e ∙ take-append_seam xs rest)

module _ {F : Type 0} (text : F → List ℕ) where
  pub put_is : (r : Result Listing F) (area : List Extent) (old new : List ℕ) → MatchResult r (λ l. new ≡ old ++ found_text l.calls (take l.n area)) (λ why. new ≡ old ++ (text why ++ line_end)) → new ≡ old ++ told_text text r area
  put_is (Ok l) area old new h = h
  put_is (Err why) area old new h = h

  module _ (room : Room) (left : Areas) where
    -- what is answered by the law fits, and is spelled so
    pub told_is : (xs : List Extent) (calls : ℕ) (o : Option F) (r : Result Listing F) → Answers xs calls room o r left → IfOk r (λ l. l.n ≤ length left.stack) × (told_text text r left.stack ≡ answer_text text o xs calls)
    told_is xs calls None (Ok a) h =
        let same : a ≡ record { n = length xs; calls = capped calls } = (let z = h.answer in cc) in
        let f = front_of xs left.stack _ h.stack_is in
        subst (λ (a : Listing). (a.n ≤ length left.stack) × (found_text a.calls (take a.n left.stack) ≡ answer_text text None xs calls)) (sym same)
        (f.0, ap (found_text (capped calls)) f.1)
    told_is xs calls None (Err e) h = absurd (let z = h.answer in cc)
    told_is xs calls (Some fault) (Ok a) h = absurd (let z = h.answer in cc)
    told_is xs calls (Some fault) (Err e) h = (tt, (let same : e ≡ fault = (let z = h.answer in cc) in ap (λ f. text f ++ line_end) same))

    pub refused_is : (fault : F) (r : Result Listing F) → Refused room fault r left → IfOk r (λ l. l.n ≤ length left.stack) × (told_text text r left.stack ≡ text fault ++ line_end)
    refused_is fault (Ok a) h = absurd (let z = h.answer in cc)
    refused_is fault (Err e) h = (tt, (let same : e ≡ fault = (let z = h.answer in cc) in ap (λ f. text f ++ line_end) same))

-- a search of a text fits, and says what the law says
pub says : (log : Log) (room : Room) (text : List ℕ) (r : Result Listing SearchFault) (left : Areas) → Searched log room text r left → IfOk r (λ l. l.n ≤ length left.stack) × Says log room text (told_text fault_text r left.stack)
says log room text r left h =
    let asked = λ (e : Expr) (q : Reads text e). told_is fault_text room left (listed log e) (query_calls log e) (search_fault log room e) r (h.query e q) in
    let misread = λ (f : ReadFault) (q : Refuses text f). refused_is fault_text room left (Read f) r (h.misread f q) in (
      ⊎_elim (λ (q : (e : Expr) × Reads text e). (asked q.0 q.1).0) (λ (q : (f : ReadFault) × Refuses text f). (misread q.0 q.1).0) h.either,
      record { query = λ e q. (asked e q).1; misread = λ f q. (misread f q).1; either = h.either },
    )

-- a text has one answer
pub says_once : (log : Log) (room : Room) (text a b : List ℕ) → Says log room text a → Says log room text b → a ≡ b
says_once log room text a b p q =
    ⊎_elim
    (λ (r : (e : Expr) × Reads text e). p.query r.0 r.1 ∙ sym (q.query r.0 r.1))
    (λ (r : (f : ReadFault) × Refuses text f). p.misread r.0 r.1 ∙ sym (q.misread r.0 r.1))
    p.either
