-- The four names' extents in the stack area. Assumes nothing.
use Rattle.std.proofs.Common.{◌≡◌, ℕ, ◌+◌, List, ◌++◌, length, take, drop, Result, sym, ◌∙◌, subst, arith}
use Rattle.std.proofs.lemmas.List.{append_assoc, length-append}
use Rattle.postings.specs.Lists.{PostingLists, Lawful}
use Rattle.extents.specs.declared.extent.Extent.{Extent}
use Rattle.extents.specs.Extents.{ExtentList}
use Rattle.extents.specs.Counts.{capped}
use Rattle.operators.specs.declared.listing.Overfull.{Overfull}
use Rattle.operators.specs.declared.listing.Listing.{Listing}
use Rattle.operators.specs.Listing.{ListsTo}
use Rattle.search.proofs.Points.{points_rise}
use Rattle.report.specs.declared.fetched.Fetched.{Fetched}
use Rattle.report.specs.Quiet.{rev_begin, rev_end, alarm, cut, points, quiet_of}
use Rattle.report.specs.Law.{quiet_calls, next_calls}
use Rattle.report.specs.Stored.{IsBehind, IsFetched, ListsQuiet}
use Rattle.report.proofs.Fronts.{stands_behind, cut_front, cut_rest}

module _ (p : PostingLists) where
  abbrev bs : List Extent
  bs = points p rev_begin

  abbrev es : List Extent
  es = points p rev_end

  abbrev xs : List Extent
  xs = points p alarm

  abbrev ys : List Extent
  ys = points p cut

  -- four lists that were written one behind the other
  pub fetched_all : (f : Fetched) (s₀ s₁ s₂ s₃ s₄ : List Extent) → IsBehind bs 0 s₀ s₁ f.begins → IsBehind es f.begins s₁ s₂ f.ends → IsBehind xs (f.begins + f.ends) s₂ s₃ f.alarms → IsBehind ys (f.begins + f.ends + f.alarms) s₃ s₄ f.cuts → length s₄ ≡ length s₃ → f.tally.calls ≡ capped (next_calls p rev_begin + next_calls p rev_end + next_calls p alarm + next_calls p cut) → IsFetched p s₄ f
  fetched_all f s₀ s₁ s₂ s₃ s₄ h₁ h₂ h₃ h₄ long counted =
      let f₁ : s₁ ≡ bs ++ h₁.rest = h₁.stands in
      let f₂ = stands_behind bs h₁.rest s₁ es h₂.rest s₂ f.begins (omega (arith, h₁.many)) f₁ h₂.stands in
      let f₃ = stands_behind (bs ++ es) h₂.rest s₂ xs h₃.rest s₃ (f.begins + f.ends) (omega (arith, h₁.many, h₂.many, length-append bs es)) f₂ h₃.stands in
      let f₄ = stands_behind ((bs ++ es) ++ xs) h₃.rest s₃ ys h₄.rest s₄ (f.begins + f.ends + f.alarms) (omega (arith, h₁.many, h₂.many, h₃.many, length-append bs es, length-append (bs ++ es) xs)) f₃ h₄.stands in
      record {
        begins = h₁.many;
        ends = h₂.many;
        alarms = h₃.many;
        cuts = h₄.many;
        fits = omega (arith, h₁.many, h₂.many, h₃.many, h₄.many, h₄.fits, long);
        rest = h₄.rest;
        stands = f₄ ∙ append_assoc ((bs ++ es) ++ xs) ys h₄.rest ∙ append_assoc (bs ++ es) xs (ys ++ h₄.rest) ∙ append_assoc bs es (xs ++ (ys ++ h₄.rest));
        counted = counted;
      }

-- a listing over four lists is the one over what they are
listed_as : {bs es xs ys bs' es' xs' ys' : List Extent} → bs ≡ bs' → es ≡ es' → xs ≡ xs' → ys ≡ ys' → (was out : List Extent) (r : Result Listing Overfull) → ListsTo (quiet_of bs es xs ys) (quiet_calls bs es xs ys) was out r → ListsTo (quiet_of bs' es' xs' ys') (quiet_calls bs' es' xs' ys') was out r
listed_as b e x y was out r t =
    let paths : ListsTo _ _ was out r ≡ ListsTo _ _ was out r = λ j. ListsTo (quiet_of (b j) (e j) (x j) (y j)) (quiet_calls (b j) (e j) (x j) (y j)) was out r in
    subst (λ T. T) paths t

module _ (p : PostingLists) (law : Lawful p) (s : List Extent) (f : Fetched) (h : IsFetched p s f) where
  -- a part of the area is a name's list, so it is taken as it is
  taken : {part list : List Extent} (n : List ℕ) → (ExtentList part → list ≡ part) → part ≡ points p n → list ≡ points p n
  taken n held e = held (subst ExtentList (sym e) (points_rise p law n)) ∙ e

  -- the listing over the four parts that the area is cut into, each taken as a list, is that of the quiet reversals
  pub quiet_listed_by : (s₁ s₂ s₃ pb pe px py b e x y : List Extent) → pb ≡ take f.begins s → s₁ ≡ drop f.begins s → pe ≡ take f.ends s₁ → s₂ ≡ drop f.ends s₁ → px ≡ take f.alarms s₂ → s₃ ≡ drop f.alarms s₂ → py ≡ take f.cuts s₃ → (ExtentList pb → b ≡ pb) → (ExtentList pe → e ≡ pe) → (ExtentList px → x ≡ px) → (ExtentList py → y ≡ py) → (was out : List Extent) (r : Result Listing Overfull) → ListsTo (quiet_of b e x y) (quiet_calls b e x y) was out r → ListsQuiet p was out r
  quiet_listed_by s₁ s₂ s₃ pb pe px py b e x y ib i₁ ie i₂ ix i₃ iy hb he hx hy =
      let r₁ = i₁ ∙ cut_rest (bs p) _ s f.begins h.begins h.stands in
      let r₂ = i₂ ∙ cut_rest (es p) _ s₁ f.ends h.ends r₁ in
      let r₃ = i₃ ∙ cut_rest (xs p) _ s₂ f.alarms h.alarms r₂ in
      listed_as
      (taken rev_begin hb (ib ∙ cut_front (bs p) _ s f.begins h.begins h.stands))
      (taken rev_end he (ie ∙ cut_front (es p) _ s₁ f.ends h.ends r₁))
      (taken alarm hx (ix ∙ cut_front (xs p) _ s₂ f.alarms h.alarms r₂))
      (taken cut hy (iy ∙ cut_front (ys p) _ s₃ f.cuts h.cuts r₃))
