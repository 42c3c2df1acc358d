-- How a report ends. Assumes nothing.
use Rattle.std.proofs.Common.{◌≡◌, ℕ, ◌+◌, ◌<◌, ◌≤◌, cond, ltb, Bool, true, false, List, ◌++◌, length, take, drop, Some, None, Ok, Err, Result, is_ok, sym, refl, ap, ◌∙◌, subst, arith}
use Rattle.std.specs.Prelude.{nat_lt, if◌then◌else◌}
use Rattle.std.proofs.lemmas.List.{length-append, take_at}
use Rattle.std.proofs.lemmas.Bool.{lt-ltb, le-ltb}
use Rattle.postings.specs.Lists.{PostingLists}
use Rattle.extents.specs.declared.extent.Extent.{Extent}
use Rattle.extents.specs.Counts.{capped}
use Rattle.operators.specs.declared.listing.Listing.{Listing}
use Rattle.operators.specs.declared.listing.Overfull.{Overfull}
use Rattle.search.specs.Law.{Room, Areas}
use Rattle.report.specs.declared.fault.ReportFault.TheVariants.{ListingOver, StackOver}
use Rattle.report.specs.declared.fetched.Fetched.{Fetched}
use Rattle.report.specs.Quiet.{quiet_reversals}
use Rattle.report.specs.Law.{report_calls, report_fault, report_refusal, fetched_count}
use Rattle.report.specs.Stored.{IsFetched, ListsQuiet}
use Rattle.search.specs.Told.{Told}
use Rattle.search.specs.Searches.{Answers}
use Rattle.refusals.specs.Refusals.{plain, refusal_in}
use Rattle.report.specs.declared.fault.ReportFault.{ReportFault}
use Rattle.report.specs.Faults.{refusal_of}
use Rattle.report.specs.Reports.{Reported}
use Rattle.search.proofs.Steps.{listed}

module _ (p : PostingLists) (room : Room) where
  abbrev xs : List Extent
  xs = quiet_reversals p

  pub unrefused : fetched_count p ≤ room.stack → length xs ≤ room.scratch → report_fault p room ≡ None
  unrefused a b =
      ap (λ v. cond v (Some StackOver) (cond (ltb room.scratch (length xs)) (Some ListingOver) None)) (le-ltb room.stack (fetched_count p) a)
      ∙ ap (λ v. cond v (Some ListingOver) None) (le-ltb room.scratch (length xs) b)

  pub listing_over : fetched_count p ≤ room.stack → room.scratch < length xs → report_fault p room ≡ Some ListingOver
  listing_over a b =
      ap (λ v. cond v (Some StackOver) (cond (ltb room.scratch (length xs)) (Some ListingOver) None)) (le-ltb room.stack (fetched_count p) a)
      ∙ ap (λ v. cond v (Some ListingOver) None) (lt-ltb room.scratch (length xs) b)

  pub all_fits : (s : List Extent) (f : Fetched) → IsFetched p s f → length s ≡ room.stack → fetched_count p ≤ room.stack
  all_fits s f h e = omega (arith, h.fits, e)

  pub over : (was out : List Extent) (r : Result Listing Overfull) → ListsQuiet p was out r → is_ok r ≡ false → length was < length xs
  over was out (Ok l) t e = let z : ◌≡◌ {A = ℕ} 0 1 = cc in absurd (omega arith)
  over was out (Err o) t e = t.longer

  pub listed_many : (was out : List Extent) (r : Result Listing Overfull) (l : Listing) → ListsQuiet p was out r → r ≡ Ok l → l.n ≡ length xs
  listed_many was out r l t i = (listed xs _ was out r l t i).many

  -- the list, copied to the front of the stack area
  pub told : (s : List Extent) (f : Fetched) (was out part rest : List Extent) (r : Result Listing Overfull) (l : Listing) (calls : ℕ) → IsFetched p s f → length s ≡ room.stack → length was ≡ room.scratch → ListsQuiet p was out r → r ≡ Ok l → part ≡ take l.n out → calls ≡ capped (f.tally.calls + l.calls) → Told xs (report_calls p) (report_fault p room) (Ok (record { n = l.n; calls = calls })) (part ++ rest)
  told s f was out part rest r l calls h e m t i w c =
      let q = listed xs _ was out r l t i in
      let all : part ≡ xs = w ∙ ap (take l.n) q.written ∙ take_at xs (drop l.n was) l.n (sym q.many) in
      let k : calls ≡ capped (report_calls p) = omega (arith, h.counted, q.counted) in
      subst (λ v. Told xs (report_calls p) v (Ok (record { n = l.n; calls = calls })) (part ++ rest)) (sym (unrefused (all_fits s f h e) (omega (arith, q.fits)))) (
        ap (λ v. Ok (record { n = v; calls = calls })) q.many ∙ ap (λ v. Ok (record { n = length xs; calls = v })) k,
        omega (arith, length-append part rest, ap length all),
        ap (λ v. take (length xs) (v ++ rest)) all ∙ take_at xs rest (length xs) refl,
      )

  -- an answer by the law is told by the law's number
  pub told_law : (r : Result Listing ReportFault) (left : Areas) → Reported p room r left → refusal_in refusal_of r ≡ report_refusal p room
  told_law r left = go (nat_lt room.stack (fetched_count p)) (nat_lt room.scratch (length xs))
    where
      go : (a b : Bool) → Answers xs (report_calls p) room (if a then Some StackOver else if b then Some ListingOver else None) r left → refusal_in refusal_of r ≡ (if a then Some (plain 22) else if b then Some (plain 21) else None)
      go true b h = ap (refusal_in refusal_of) h.answer
      go false true h = ap (refusal_in refusal_of) h.answer
      go false false h = ap (refusal_in refusal_of) h.answer
