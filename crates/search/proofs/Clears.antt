-- Areas that are cleared behind what was found. Assumes nothing.
use Rattle.std.proofs.Common.{◌≡◌, ℕ, ◌+◌, ◌-◌, ◌≤◌, List, ◌++◌, length, take, drop, replicate, Some, None, Err, Option, Result, [], min, max, subst, ⊎_elim, refl, sym, ap, ◌∙◌, arith}
use Rattle.std.proofs.lemmas.Bool.{cases_lt}
use borrow.Rule.Slice.PartMut.{put_mid}
use Rattle.std.specs.Vec.{with_items}
use Rattle.std.proofs.lemmas.List.{with_items_is, drop-drop, drop_all, take-append-drop, drop-replicate, replicate-append-replicate, length-append, length-replicate, drop_at}
use Rattle.std.specs.Option.{option_map}
use Rattle.refusals.specs.declared.Refusal.{Refusal}
use Rattle.refusals.specs.Refusals.{refusal_in}
use Rattle.extents.specs.declared.extent.Extent.{Extent}
use Rattle.operators.specs.declared.listing.Listing.{Listing}
use Rattle.query.specs.declared.fault.ReadFault.{ReadFault}
use Rattle.query.specs.Expressions.{Expr}
use Rattle.query.specs.Outcomes.{Reads, Refuses}
use Rattle.search.specs.declared.area.WorkAreas.{WorkAreas}
use Rattle.search.specs.declared.fault.SearchFault.{SearchFault}
use Rattle.search.specs.declared.fault.SearchFault.TheVariants.{Read}
use Rattle.search.specs.Meaning.{Log, listed}
use Rattle.search.specs.Law.{Room, Areas, areas, search_fault, query_calls}
use Rattle.search.specs.Searches.{blank, kept_of, IsBlankFrom, Refused, Answers, Searched}
use Rattle.search.specs.Told.{Told}

-- what is the same from a place on is so from a later one
pub same_later : (n m : ℕ) (xs ys : List Extent) → n ≤ m → drop n xs ≡ drop n ys → drop m xs ≡ drop m ys
same_later n m xs ys l e =
    let k : n + (m - n) ≡ m = omega arith in
    ap (λ v. drop v xs) (sym k) ∙ sym (drop-drop (m - n) n xs) ∙ ap (drop (m - n)) e ∙ drop-drop (m - n) n ys ∙ ap (λ v. drop v ys) k

-- an area is blank from a later place on, and from its end on
pub blank_later : (n m : ℕ) (xs : List Extent) → n ≤ m → IsBlankFrom n xs → IsBlankFrom m xs
blank_later n m xs l h =
    let k : n + (m - n) ≡ m = omega arith in
    let left : length xs - n - (m - n) ≡ length xs - m = omega arith in
    ap (λ v. drop v xs) (sym k) ∙ sym (drop-drop (m - n) n xs) ∙ ap (drop (m - n)) h ∙ drop-replicate (m - n) (length xs - n) blank ∙ ap (λ v. replicate v blank) left

pub blank_end : (n : ℕ) (xs : List Extent) → length xs ≤ n → IsBlankFrom n xs
blank_end n xs l = let z : length xs - n ≡ 0 = omega arith in drop_all n xs l ∙ ap (λ v. replicate v blank) (sym z)

-- a place past the end is no other than the end
pub blank_within : (n m : ℕ) (xs : List Extent) → m ≡ min n (length xs) → IsBlankFrom n xs → IsBlankFrom m xs
blank_within n m xs e h =
    ⊎_elim (λ l. subst (λ v. IsBlankFrom v xs) (let i : n ≡ m = omega arith in i) h) (λ l. blank_end m xs (omega arith)) (cases_lt n (length xs))

-- an area is blank from where neither what it held before nor what was written is otherwise
pub blank_after : (stored written m : ℕ) (was now : List Extent) → m ≡ max stored written → length now ≡ length was → drop written now ≡ drop written was → IsBlankFrom stored was → IsBlankFrom m now
blank_after stored written m was now e l same h =
    same_later written m now was (omega (arith, e)) same ∙ blank_later stored m was (omega (arith, e)) h ∙ ap (λ v. replicate (v - m) blank) (sym l)

-- a part that is filled, where the area is blank behind it
pub filled_part : (area : List Extent) (from to : ℕ) → from ≤ to → to ≤ length area → IsBlankFrom to area → put_mid from (to - from) area (replicate (to - from) blank) ≡ take from area ++ replicate (length area - from) blank
filled_part area from to l k h =
    let a : from + (to - from) ≡ to = omega arith in
    let b : to - from + (length area - to) ≡ length area - from = omega arith in
    let rest : drop (to - from) (drop from area) ≡ replicate (length area - to) blank = drop-drop (to - from) from area ∙ ap (λ v. drop v area) a ∙ h in
    ap (λ v. take from area ++ v) (ap (λ v. replicate (to - from) blank ++ v) rest ∙ replicate-append-replicate (to - from) (length area - to) blank ∙ ap (λ v. replicate v blank) b)

-- nothing is filled, where the area is blank already
pub filled_none : (area : List Extent) (from : ℕ) → IsBlankFrom from area → area ≡ take from area ++ replicate (length area - from) blank
filled_none area from h = sym (take-append-drop from area) ∙ ap (λ v. take from area ++ v) h

module _ {F : Type 0} (room : Room) (r : Result Listing F) (area left scratch : List Extent) (long : length area ≡ room.stack) (behind : left ≡ take (kept_of r) area ++ replicate (length area - kept_of r) blank) (clear : scratch ≡ replicate room.scratch blank) where
  abbrev front : ℕ → List Extent
  front k = take k area ++ replicate (length area - k) blank

  pub refused_clear : (f : F) → r ≡ Err f → Refused room f r (areas left scratch)
  refused_clear f t =
      let all : length area - 0 ≡ room.stack = omega arith in
      record { answer = t; stack_is = behind ∙ ap (λ v. front (kept_of v)) t ∙ ap (λ v. replicate v blank) all; scratch_is = clear }

  pub told_clear : (xs : List Extent) (calls : ℕ) (f : Option F) → Told xs calls f r area → Answers xs calls room f r (areas left scratch)
  told_clear xs calls (Some f) t = refused_clear f t
  told_clear xs calls None t = record {
    answer = t.0;
    stack_is = behind ∙ ap (λ v. front (kept_of v)) t.0 ∙ ap (λ v. v ++ replicate (length area - length xs) blank) t.2 ∙ ap (λ v. xs ++ replicate (v - length xs) blank) long;
    scratch_is = clear;
  }

-- an answer is told by the law's fault
pub answers_told : {F : Type 0} (tell : F → Refusal) (xs : List Extent) (calls : ℕ) (room : Room) (f : Option F) (r : Result Listing F) (left : Areas) → Answers xs calls room f r left → refusal_in tell r ≡ option_map tell f
answers_told tell xs calls room None r left h = ap (refusal_in tell) h.answer
answers_told tell xs calls room (Some f) r left h = ap (refusal_in tell) h.answer

-- behind what was found both areas are blank
blank_behind : (xs : List Extent) (k : ℕ) → IsBlankFrom (length xs) (xs ++ replicate k blank)
blank_behind xs k =
    let n : length (xs ++ replicate k blank) - length xs ≡ k = omega (arith, length-append xs (replicate k blank), length-replicate k blank) in
    drop_at xs (replicate k blank) (length xs) refl ∙ ap (λ v. replicate v blank) (sym n)

module _ {F : Type 0} (room : Room) (r : Result Listing F) (left : Areas) where
  abbrev pub BlankBehind : Type 0
  BlankBehind = IsBlankFrom (kept_of r) left.stack × IsBlankFrom 0 left.scratch

  refused_blank : (f : F) → Refused room f r left → BlankBehind
  refused_blank f h = (
    subst (λ v. IsBlankFrom (kept_of v) left.stack) (sym h.answer) (subst (IsBlankFrom 0) (sym h.stack_is) (blank_behind [] room.stack)),
    subst (IsBlankFrom 0) (sym h.scratch_is) (blank_behind [] room.scratch),
  )

  pub answers_blank : (xs : List Extent) (calls : ℕ) (f : Option F) → Answers xs calls room f r left → BlankBehind
  answers_blank xs calls None h = (
    subst (λ v. IsBlankFrom (kept_of v) left.stack) (sym h.answer) (subst (IsBlankFrom (length xs)) (sym h.stack_is) (blank_behind xs (room.stack - length xs))),
    subst (IsBlankFrom 0) (sym h.scratch_is) (blank_behind [] room.scratch),
  )
  answers_blank xs calls (Some f) h = refused_blank f h

pub searched_blank : {log : Log} {room : Room} {text : List ℕ} {r : Result Listing SearchFault} {left : Areas} → Searched log room text r left → BlankBehind room r left
searched_blank {log} {room} {text} {r} {left} h =
    ⊎_elim
    (λ (q : (e : Expr) × Reads text e). answers_blank room r left (listed log q.0) (query_calls log q.0) (search_fault log room q.0) (h.query q.0 q.1))
    (λ (q : (f : ReadFault) × Refuses text f). refused_blank room r left (Read q.0) (h.misread q.0 q.1))
    h.either

-- two areas that were lent and written
module _ (w : WorkAreas) (stack scratch : List Extent) (long : length stack ≡ w.stack.len) (long₂ : length scratch ≡ w.scratch.len) where
  pub written_blank : (n : ℕ) → IsBlankFrom n stack × IsBlankFrom 0 scratch → IsBlankFrom n (with_items w.stack stack).items × IsBlankFrom 0 (with_items w.scratch scratch).items
  written_blank n b = (
    subst (IsBlankFrom n) (sym (with_items_is w.stack stack long)) b.0,
    subst (IsBlankFrom 0) (sym (with_items_is w.scratch scratch long₂)) b.1,
  )

  pub written_areas : areas stack scratch ≡ areas (with_items w.stack stack).items (with_items w.scratch scratch).items
  written_areas j = areas (sym (with_items_is w.stack stack long) j) (sym (with_items_is w.scratch scratch long₂) j)
