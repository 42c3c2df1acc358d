-- The worked example. Assumes nothing.
use Rattle.std.proofs.Common.{◌≡◌, ℕ, ◌+◌, ◌-◌, List, [], ◌∷◌, ◌++◌, map, length, replicate, None, Ok, Result, refl, ap, ◌∙◌, subst, arith}
use Rattle.postings.specs.Lists.{PostingLists}
use Rattle.containment.specs.Filter.{kept, walk_calls, ahead_calls}
use Rattle.combination.specs.Followed.{followed, followed_first_start_calls}
use Rattle.combination.specs.OneOf.{one_of}
use Rattle.extents.specs.declared.extent.Extent.{Extent}
use Rattle.extents.specs.Counts.{capped}
use Rattle.extents.specs.Extents.{first_start, last_end}
use Rattle.operators.specs.Listing.{list_calls}
use Rattle.operators.specs.declared.listing.Listing.{Listing}
use Rattle.search.specs.Law.{Room, Areas}
use Rattle.search.specs.Meaning.{point}
use Rattle.search.specs.Searches.{blank, Found, Answers}
use Rattle.report.specs.declared.fault.ReportFault.{ReportFault}
use Rattle.report.specs.Quiet.{rev_begin, rev_end, alarm, cut, quiet_of, quiet_reversals}
use Rattle.report.specs.Law.{quiet_calls, report_calls, report_fault, fetched_count}
use Rattle.report.specs.Reports.{Reported}
use Rattle.report.specs.Sample.{SampleLog, SampleHolds}
use Rattle.report.proofs.Outcomes.{unrefused}

abbrev begins : List Extent
begins = map point (2 ∷ 8 ∷ 14 ∷ [])

abbrev ends : List Extent
ends = map point (6 ∷ 11 ∷ 18 ∷ [])

abbrev alarms : List Extent
alarms = map point (4 ∷ 12 ∷ 18 ∷ [])

abbrev cuts : List Extent
cuts = map point (15 ∷ [])

abbrev one : List Extent
one = record { start = 8; end = 11 } ∷ []

sample_list : quiet_of begins ends alarms cuts ≡ one
unfolding kept followed one_of
sample_list = refl

-- the calls of a report over four lists
abbrev total : (begins ends alarms cuts : List Extent) → ℕ
total a b x y = (length a + 1) + (length b + 1) + (length x + 1) + (length y + 1) + list_calls (quiet_calls a b x y) 0 (quiet_of a b x y)

sample_calls : total begins ends alarms cuts ≡ 30
unfolding kept followed one_of walk_calls ahead_calls followed_first_start_calls first_start last_end
sample_calls = refl

module _ (p : PostingLists) (s : SampleLog p) where
  over_sample : {X : Type 0} (f : List ℕ → List ℕ → List ℕ → List ℕ → X) → f (p.slots rev_begin) (p.slots rev_end) (p.slots alarm) (p.slots cut) ≡ f (2 ∷ 8 ∷ 14 ∷ []) (6 ∷ 11 ∷ 18 ∷ []) (4 ∷ 12 ∷ 18 ∷ []) (15 ∷ [])
  over_sample f =
      ap (λ v. f v (p.slots rev_end) (p.slots alarm) (p.slots cut)) s.begins
      ∙ ap (λ v. f (2 ∷ 8 ∷ 14 ∷ []) v (p.slots alarm) (p.slots cut)) s.ends
      ∙ ap (λ v. f (2 ∷ 8 ∷ 14 ∷ []) (6 ∷ 11 ∷ 18 ∷ []) v (p.slots cut)) s.alarms
      ∙ ap (λ v. f (2 ∷ 8 ∷ 14 ∷ []) (6 ∷ 11 ∷ 18 ∷ []) (4 ∷ 12 ∷ 18 ∷ []) v) s.cuts

  quiet_is : quiet_reversals p ≡ one
  quiet_is = over_sample (λ a b x y. quiet_of (map point a) (map point b) (map point x) (map point y)) ∙ sample_list

  calls_are : report_calls p ≡ 30
  calls_are = over_sample (λ a b x y. total (map point a) (map point b) (map point x) (map point y)) ∙ sample_calls

  slots_are : fetched_count p ≡ 10
  slots_are = over_sample (λ a b x y. length (map point a) + length (map point b) + length (map point x) + length (map point y))

pub sample_holds : (p : PostingLists) (room : Room) (r : Result Listing ReportFault) (left : Areas) → Reported p room r left → SampleHolds p room r left.stack
sample_holds p room r left h s u v =
    let q : quiet_reversals p ≡ one = quiet_is p s in
    let none : report_fault p room ≡ None = unrefused p room (omega (arith, slots_are p s, u)) (omega (arith, ap length q, v)) in
    let found : Found (quiet_reversals p) (report_calls p) room r left = subst (λ o. Answers (quiet_reversals p) (report_calls p) room o r left) none h in (
      found.answer
          ∙ ap (λ w. Ok (record { n = length w; calls = capped (report_calls p) })) q
          ∙ ap (λ w. Ok (record { n = 1; calls = capped w })) (calls_are p s),
      found.stack_is ∙ ap (λ w. w ++ replicate (room.stack - length w) blank) q,
    )
