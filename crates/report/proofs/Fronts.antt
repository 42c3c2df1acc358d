-- Lists that stand one behind the other at the front of an area. Assumes nothing.
use Rattle.std.proofs.Common.{◌≡◌, ℕ, ◌+◌, ◌-◌, ◌≤◌, List, ◌++◌, length, take, drop, Ok, Result, sym, ap, ◌∙◌, arith}
use borrow.Rule.Slice.PartMut.{put_mid}
use Rattle.std.proofs.lemmas.List.{append_assoc, length-take, length-drop, take_at, drop_at}
use Rattle.extents.specs.declared.extent.Extent.{Extent}
use Rattle.extents.specs.Counts.{capped}
use Rattle.operators.specs.declared.listing.Listing.{Listing}
use Rattle.operators.specs.declared.listing.Overfull.{Overfull}
use Rattle.operators.specs.Listing.{ListsTo}
use Rattle.search.proofs.Bounds.{list_calls-one}
use Rattle.search.proofs.Steps.{listed}
use Rattle.report.specs.Stored.{IsBehind}

-- behind a whole front, what was written stands behind that front
pub stands_behind : (front rest was xs rest' area : List Extent) (used : ℕ) → length front ≡ used → was ≡ front ++ rest → area ≡ take used was ++ (xs ++ rest') → area ≡ (front ++ xs) ++ rest'
stands_behind front rest was xs rest' area used n w e =
    e
    ∙ ap (λ v. take used v ++ (xs ++ rest')) w
    ∙ ap (λ v. v ++ (xs ++ rest')) (take_at front rest used n)
    ∙ sym (append_assoc front xs rest')

-- an area that begins with a list, cut there
pub cut_front : (xs rest area : List Extent) (n : ℕ) → n ≡ length xs → area ≡ xs ++ rest → take n area ≡ xs
cut_front xs rest area n m e = ap (take n) e ∙ take_at xs rest n (sym m)

pub cut_rest : (xs rest area : List Extent) (n : ℕ) → n ≡ length xs → area ≡ xs ++ rest → drop n area ≡ rest
cut_rest xs rest area n m e = ap (drop n) e ∙ drop_at xs rest n (sym m)

module _ (was part xs : List Extent) (used : ℕ) (r : Result Listing Overfull) (fit : used ≤ length was) (told : ListsTo xs (λ j. 1) (take (length was - used) (drop used was)) part r) (l : Listing) (e : r ≡ Ok l) where
  -- a list that was written behind what the area began with
  pub behind : IsBehind xs used was (put_mid used (length was - used) was part) l.n
  behind =
      let q = listed xs (λ j. 1) (take (length was - used) (drop used was)) part r l told e in
      let room : length (take (length was - used) (drop used was)) ≡ length was - used = simp (length-take, length-drop) (omega arith) in
      record {
        many = q.many;
        fits = omega (arith, q.many, q.fits, room, fit);
        rest = _;
        stands = ap (λ v. take used was ++ (v ++ drop (length was - used) (drop used was))) q.written ∙ ap (λ v. take used was ++ v) (append_assoc xs _ _);
      }

  -- one next for each of its extents, and one more
  pub behind_calls : l.calls ≡ capped (length xs + 1)
  behind_calls =
      let q = listed xs (λ j. 1) (take (length was - used) (drop used was)) part r l told e in
      omega (arith, q.counted, list_calls-one xs 0)
