-- A listing so far, and one more extent in its area. Assumes nothing.
use Rattle.std.proofs.Common.{◌≡◌, ℕ, ◌+◌, ◌^◌, ◌<◌, ◌≤◌, List, [], ◌∷◌, ◌++◌, length, take, drop, set, Some, None, refl, sym, ap, ◌∙◌, append_assoc, append-nil, add-one, arith, length-append, take-append-drop, length-set, length-take, drop-drop, take-suc-set, drop-set-lt}
use lib.Seq.{take-length, take-append_seam}
use Rattle.extents.specs.declared.extent.Extent.{Extent}
use Rattle.extents.specs.declared.extent.Found.{Found}
use Rattle.extents.specs.declared.tally.Tally.{Tally}
use Rattle.extents.specs.Counts.{capped}
use Rattle.extents.specs.Extents.{ExtentList, first_start}
use Rattle.extents.specs.Finds.{mem_proper}
use Rattle.extents.specs.Words.{first_start_is}
use Rattle.operators.specs.Listing.{IsListed, IsOverfull, list_calls}
use Rattle.operators.proofs.Bounds.{onward, onward_all, all_trivial, onward_some, onward_none}

-- n extents stand in the area and the key is at: the rest of the list is left from there on, and its calls are to come
pub record Progress (xs : List Extent) (f : ℕ → ℕ) (was area : List Extent) (n at : ℕ) (tally : Tally) : Type 0 where
  pub within : n ≤ length area
  pub same : length area ≡ length was
  pub behind : drop n area ≡ drop n was
  pub left : take n area ++ onward at xs ≡ xs
  pub counted : capped (tally.calls + list_calls f at (onward at xs)) ≡ capped (list_calls f 0 xs)

pub begun : (xs : List Extent) (f : ℕ → ℕ) (was : List Extent) (tally : Tally) → tally ≡ record { calls = 0 } → Progress xs f was was 0 0 tally
begun xs f was tally t =
    let all = onward_all xs 0 (all_trivial xs) in
    record {
      within = omega arith;
      same = refl;
      behind = refl;
      left = all;
      counted = omega (arith, ap (list_calls f 0) all, ap (λ v. v.calls) t);
    }

module _ {xs : List Extent} {f : ℕ → ℕ} {was area : List Extent} {n at : ℕ} {tally total : Tally} (h : ExtentList xs) (r : Found) (p : Progress xs f was area n at tally) (first : r.extent ≡ first_start xs at) (cost : r.calls ≡ f at) (t : total ≡ record { calls = capped (tally.calls + r.calls) }) where
  front_length : length (take n area) ≡ n
  front_length = let l = length-take n area in let w = p.within in omega arith

  module _ (x : Extent) (e : r.extent ≡ Some x) where
    is_first : first_start xs at ≡ Some x
    is_first = sym first ∙ e

    then_on : onward at xs ≡ x ∷ onward (x.start + 1) xs
    then_on = onward_some xs at x h is_first

    -- the next key is a number of 32 bits
    pub next_key : x.start + 1 < 2 ^ 32
    next_key = omega (arith, mem_proper xs x h (first_start_is xs at x h is_first).0)

    -- one more extent was given, and there is room for it
    pub one_more : n < length area → Progress xs f was (set area n x) (n + 1) (x.start + 1) total
    one_more l =
        record {
          within = omega (arith, length-set area n x);
          same = omega (arith, length-set area n x, p.same);
          behind = drop-set-lt (n + 1) area n x (omega arith) ∙ sym (drop-drop 1 n area) ∙ ap (drop 1) p.behind ∙ drop-drop 1 n was;
          left =
              ap (λ m. take m (set area n x) ++ onward (x.start + 1) xs) (add-one n)
              ∙ ap (λ l. l ++ onward (x.start + 1) xs) (take-suc-set area n x l)
              ∙ append_assoc (take n area) (x ∷ []) (onward (x.start + 1) xs)
              ∙ ap (λ l. take n area ++ l) (sym then_on)
              ∙ p.left;
          counted = omega (arith, ap (list_calls f at) then_on, ap (λ v. v.calls) t, p.counted, cost);
        }

    -- one more was given, and there is no room for it
    pub overfull : n ≡ length area → IsOverfull xs was area
    overfull z =
        record {
          longer = omega (arith, p.same, front_length, length-append (take n area) (onward at xs), ap length p.left, ap length then_on);
          written =
              sym (take-append_seam area (onward at xs))
              ∙ ap (λ l. take (length area) (l ++ onward at xs)) (sym (take-length area) ∙ ap (λ m. take m area) (sym z))
              ∙ ap (take (length area)) p.left
              ∙ ap (λ m. take m xs) p.same;
        }

  -- no more was given
  pub ended : r.extent ≡ None → IsListed xs f was area n total.calls
  ended e =
      let o = onward_none xs at (sym first ∙ e) in
      let w : take n area ≡ xs = sym (append-nil (take n area)) ∙ ap (λ l. take n area ++ l) (sym o) ∙ p.left in
      let many : n ≡ length xs = sym front_length ∙ ap length w in
      record {
        many = many;
        fits = omega (arith, many, p.within, p.same);
        written = sym (take-append-drop n area) ∙ ap (λ l. l ++ drop n area) w ∙ ap (λ l. xs ++ l) p.behind;
        counted = omega (arith, ap (list_calls f at) o, ap (λ v. v.calls) t, p.counted, cost);
      }
