-- What one step leaves of the operand stack and the stack area. Assumes nothing.
use Rattle.std.proofs.Common.{true, false, ◌≡◌, ℕ, ◌+◌, ◌-◌, ◌<◌, ◌≤◌, List, [], ◌∷◌, ◌++◌, map, length, take, drop, get_or, slice_get, Some, Ok, Err, Result, sym, refl, ap, ◌∙◌, subst, arith}
use borrow.Rule.Slice.PartMut.{put_mid}
use Rattle.std.proofs.lemmas.Bool.{le-ltb, lt-ltb}
use Rattle.std.proofs.lemmas.List.{append_assoc, append-nil, take_at, drop_at, take_all, drop_all, drop-drop, length_push, length-take-le, length-take, length-drop, length-append}
use Rattle.std.specs.List.{sum_by}
use Rattle.std.proofs.lemmas.List.Sums.{sum_by_push}
use Rattle.arrayvec.specs.ArrayVec.{array_vec_len}
use Rattle.std.proofs.lemmas.Option.{slice_get-get_or}
use Rattle.std.proofs.Math.Seq.{get_or-append_seam}
use Rattle.std.proofs.lemmas.Slice.{take-put_mid_below, drop-put_mid}
use Rattle.extents.specs.declared.extent.Extent.{Extent}
use Rattle.extents.specs.declared.access.Access.TheVariants.{FirstStart}
use Rattle.extents.specs.declared.operator.Operator.{Operator}
use Rattle.extents.specs.Extents.{ExtentList}
use Rattle.extents.specs.Counts.{capped}
use Rattle.operators.specs.declared.listing.Listing.{Listing}
use Rattle.operators.specs.declared.listing.Overfull.{Overfull}
use Rattle.operators.specs.Listing.{IsListed, ListsTo, list_calls}
use Rattle.operators.specs.Operators.{operator_list}
use Rattle.query.specs.Leaves.{name}
use Rattle.query.specs.Expressions.{take_leaf}
use Rattle.search.specs.declared.operand.Operand.{Operand}
use Rattle.search.specs.declared.operand.Operand.TheVariants.{Stored, Unstored}
use Rattle.search.specs.declared.operand.Side.{Side}
use Rattle.search.specs.declared.fault.SearchFault.{SearchFault}
use Rattle.search.specs.declared.fault.SearchFault.TheVariants.{StackOver}
use Rattle.search.specs.declared.stack.OperandStack.{OperandStack}
use Rattle.search.specs.Meaning.{Log, point}
use Rattle.search.specs.Law.{Room, Areas, areas, room_of, stacking, operator_listing, each_one}
use Rattle.search.specs.Run.{Pending, pending_of, size, stored_total, done, unless, store, operate_on, settle, step}
use Rattle.search.specs.Stacks.{Stacked, TakesOff, Gives, Does, Untouched, Stores}
use Rattle.search.proofs.Bounds.{list_calls-one}
use Rattle.search.proofs.Clears.{same_later}
use Rattle.search.proofs.Heaps.{stacked_push, depth_is}

-- a part that is written over
put_front : (a k : ℕ) (xs ys zs r : List Extent) → a ≤ length xs → ys ≡ zs ++ r → take (length zs) (drop a (put_mid a k xs ys)) ≡ zs
put_front a k xs ys zs r l e =
    let q = drop k (drop a xs) in
    ap (take (length zs)) (drop_at (take a xs) (ys ++ q) a (length-take-le a xs l) ∙ ap (λ v. v ++ q) e ∙ append_assoc zs r q)
    ∙ take_at zs (r ++ q) (length zs) refl

put_long : (a k : ℕ) (xs ys : List Extent) → a + k ≤ length xs → length ys ≡ k → length (put_mid a k xs ys) ≡ length xs
put_long a k xs ys l e = simp (length-append, length-take, length-drop) (omega arith)

-- behind a list that is written over the front, there stands what stood there
behind_front : (xs was : List Extent) (n : ℕ) → n ≡ length xs → drop n (xs ++ drop n was) ≡ drop n was
behind_front xs was n e = drop_at xs (drop n was) n (sym e)

-- the same where the front is that of a part that reaches to the end
behind_part : (a : ℕ) (area part xs : List Extent) (n : ℕ) → a ≤ length area → n ≡ length xs → part ≡ xs ++ drop n (take (length area - a) (drop a area)) → drop (a + n) (put_mid a (length area - a) area part) ≡ drop (a + n) area
behind_part a area part xs n l e w =
    let k = length area - a in
    let tail : List Extent = drop a area in
    let whole : take k tail ≡ tail = take_all k tail (simp (length-drop) (omega arith)) in
    let none : drop k tail ≡ [] = drop_all k tail (simp (length-drop) (omega arith)) in
    let put : drop a (put_mid a k area part) ≡ part = drop_at (take a area) (part ++ drop k tail) a (length-take-le a area l) ∙ ap (λ v. part ++ v) none ∙ append-nil part in
    sym (drop-drop n a (put_mid a k area part)) ∙ ap (drop n) (put ∙ w) ∙ behind_front xs (take k tail) n e ∙ ap (drop n) whole ∙ drop-drop n a area

-- how far the operand stack reaches once one more is stored
used_push : (waiting waiting' : OperandStack) (n : ℕ) → waiting'.operands.items ≡ waiting.operands.items ++ Stored n ∷ [] → waiting.used + n ≤ waiting'.stored
used_push waiting waiting' n i =
    omega (arith, waiting.counted, waiting'.counted, waiting'.within, ap (sum_by size) i, sum_by_push size waiting.operands.items (Stored n))

-- a list that is stored
store_done : (room : Room) (waiting waiting' : OperandStack) (area area' xs : List Extent) (at n k k' : ℕ) (ps : List Pending) (c : ℕ) → room.stack ≡ length area → Stacked waiting area ps c → waiting'.operands.items ≡ waiting.operands.items ++ Stored n ∷ [] → waiting'.calls ≡ capped (waiting.calls + k) → n ≡ length xs → k ≡ capped k' → length area' ≡ length area → take (stored_total ps) area' ≡ take (stored_total ps) area → take (length xs) (drop (stored_total ps) area') ≡ xs → ExtentList xs → stored_total ps + length xs ≤ length area → Gives (unless (stacking room (stored_total ps) (length xs) at) (done (record { extents = xs; stored = true } ∷ ps) (c + k'))) (Ok tt) waiting' area'
store_done room waiting waiting' area area' xs at n k k' ps c r h i j e f l t s x m =
    rw (le-ltb room.stack (stored_total ps + length xs) (omega arith))
    (refl, stacked_push waiting waiting' area area' ps c (record { extents = xs; stored = true }) (Stored n) k k' h i j e (ap (λ v. record { extents = v; stored = true }) (ap (λ v. take v (drop (stored_total ps) area')) e ∙ s)) f l t x m)

-- a listing that succeeded
pub listed : (xs : List Extent) (ask : ℕ → ℕ) (was area : List Extent) (r : Result Listing Overfull) (x : Listing) → ListsTo xs ask was area r → r ≡ Ok x → IsListed xs ask was area x.n x.calls
listed xs ask was area (Ok y) x h e = let i : y ≡ x = cc in subst (λ v. IsListed xs ask was area v.n v.calls) i h
listed xs ask was area (Err y) x h e = let z : ◌≡◌ {A = ℕ} 0 1 = cc in absurd (omega arith)

-- a name, which was written behind what is stored
module _ (xs : List Extent) (waiting waiting' : OperandStack) (area part : List Extent) (r : Result Listing Overfull) (x : Listing) (told : ListsTo xs (λ k. 1) (take (length area - waiting.used) (drop waiting.used area)) part r) (was : r ≡ Ok x) (top : waiting'.operands.items ≡ waiting.operands.items ++ Stored x.n ∷ []) where
  abbrev behind : List Extent
  behind = take (length area - waiting.used) (drop waiting.used area)

  abbrev after_name : List Extent
  after_name = put_mid waiting.used (length area - waiting.used) area part

  l : IsListed xs (λ k. 1) behind part x.n x.calls
  l = listed xs (λ k. 1) behind part r x told was

  pub name_done : (log : Log) (scratch : ℕ) (text : List ℕ) (at : ℕ) (ps : List Pending) (c : ℕ) → xs ≡ map point (log.lists.slots text) → Stacked waiting area ps c → ExtentList xs → length part ≡ length area - waiting.used → waiting'.calls ≡ capped (waiting.calls + x.calls) → Gives (step log (record { stack = length area; scratch = scratch }) (take_leaf (name text)) at ps c) (Ok tt) waiting' after_name
  name_done log scratch text at ps c is h rises m j =
      let room : Room = record { stack = length area; scratch = scratch } in
      let u = h.used in
      let f = h.fits in
      let few : length xs ≤ length area - waiting.used = let q = l.fits in omega (arith, length-take (length area - waiting.used) (drop waiting.used area)) in
      let long : length after_name ≡ length area = put_long waiting.used (length area - waiting.used) area part (omega arith) m in
      let below : take (stored_total ps) after_name ≡ take (stored_total ps) area = take-put_mid_below waiting.used (length area - waiting.used) area part (stored_total ps) (omega arith) (omega arith) in
      let front : take (length xs) (drop (stored_total ps) after_name) ≡ xs = ap (λ v. take (length xs) (drop v after_name)) (sym u) ∙ put_front waiting.used (length area - waiting.used) area part xs _ (omega arith) l.written in
      let k : x.calls ≡ capped (length xs + 1) = l.counted ∙ ap capped (list_calls-one xs 0) in
      subst (λ v. Gives (unless (stacking room (stored_total ps) (length v) at) (done (record { extents = v; stored = true } ∷ ps) (c + (length v + 1)))) (Ok tt) waiting' after_name) is
      (store_done room waiting waiting' area after_name xs at x.n x.calls (length xs + 1) ps c refl h top j l.many k long below front rises (omega arith))

  pub name_untouched : (scratch : List Extent) → waiting.used ≤ length area → waiting.stored ≤ waiting'.stored → waiting'.listed ≡ waiting.listed → Untouched waiting waiting' (areas area scratch) (areas after_name scratch)
  name_untouched scratch f more same = record {
    stored = more;
    listed = omega arith;
    stack_is = same_later (waiting.used + x.n) waiting'.stored after_name area (used_push waiting waiting' x.n top) (behind_part waiting.used area part xs x.n f l.many l.written);
    scratch_is = refl;
  }

-- a list that stands in the scratch area
module _ (xs : List Extent) (ask : ℕ → ℕ) (at : ℕ) (was scratch : List Extent) (waiting waiting' : OperandStack) (area : List Extent) (r : Result Listing Overfull) (told : ListsTo xs ask was scratch r) where
  -- it is stored behind what is
  pub list_stored : (part : List Extent) (x : Listing) → ExtentList xs → waiting.used ≤ length area → r ≡ Ok x → x.n ≤ length area - waiting.used → part ≡ take x.n scratch → waiting'.operands.items ≡ waiting.operands.items ++ Stored x.n ∷ [] → waiting'.calls ≡ capped (waiting.calls + x.calls) → waiting.stored ≤ waiting'.stored → waiting.listed ≤ waiting'.listed → x.n ≤ waiting'.listed → Stores xs ask at was scratch waiting area (Ok tt) waiting' (put_mid waiting.used (waiting.used + x.n - waiting.used) area part)
  list_stored part x rises f is room y i j more more' far =
      let l : IsListed xs ask was scratch x.n x.calls = listed xs ask was scratch r x told is in
      let all : part ≡ xs = y ∙ ap (take x.n) l.written ∙ take_at xs (drop x.n was) x.n (sym l.many) in
      let w = waiting.used + x.n - waiting.used in
      let area' = put_mid waiting.used w area part in
      let m : length part ≡ w = omega (arith, ap length all, l.many) in
      let long : length area' ≡ length area = put_long waiting.used w area part (omega arith) m in
      record {
        does = λ ps c h.
            let u = h.used in
            let below : take (stored_total ps) area' ≡ take (stored_total ps) area = take-put_mid_below waiting.used w area part (stored_total ps) (omega arith) f in
            let front : take (length xs) (drop (stored_total ps) area') ≡ xs = ap (λ v. take (length xs) (drop v area')) (sym u) ∙ put_front waiting.used w area part xs [] f (all ∙ sym (append-nil xs)) in
            rw (le-ltb (length was) (length xs) l.fits)
            (store_done (room_of (areas area was)) waiting waiting' area area' xs at x.n x.calls (list_calls ask 0 xs) ps c refl h i j l.many l.counted long below front rises (omega (arith, l.many)));
        untouched = record {
          stored = more;
          listed = more';
          stack_is = drop-put_mid waiting.used w area part waiting'.stored (omega (arith, used_push waiting waiting' x.n i)) f m;
          scratch_is = same_later x.n waiting'.listed scratch was far (ap (drop x.n) l.written ∙ behind_front xs was x.n l.many);
        };
      }

  -- the stack area has no room for it
  pub list_unstored : (x : Listing) → r ≡ Ok x → length area - waiting.used < x.n → waiting'.stored ≡ waiting.stored → waiting.listed ≤ waiting'.listed → x.n ≤ waiting'.listed → Stores xs ask at was scratch waiting area (Err (StackOver at)) waiting' area
  list_unstored x is over same more far =
      let l : IsListed xs ask was scratch x.n x.calls = listed xs ask was scratch r x told is in
      record {
        does = λ ps c h. rw (le-ltb (length was) (length xs) l.fits, lt-ltb (length area) (stored_total ps + length xs) (omega (arith, h.used, l.many))) refl;
        untouched = record {
          stored = omega arith;
          listed = more;
          stack_is = refl;
          scratch_is = same_later x.n waiting'.listed scratch was far (ap (drop x.n) l.written ∙ behind_front xs was x.n l.many);
        };
      }

-- the right operand is taken off, and then the left
both_off : {waiting middle last : OperandStack} {area ls rs : List Extent} (ps : List Pending) (c : ℕ) (Q : List Pending → Type 0) → 2 ≤ array_vec_len waiting.operands → Stacked waiting area ps c → TakesOff waiting area rs middle → TakesOff middle area ls last → ((a b : Pending) (qs : List Pending) → ls ≡ a.extents → rs ≡ b.extents → Stacked last area qs c → Q (b ∷ (a ∷ qs))) → Q ps
both_off [] c Q deep h right left f = absurd (omega (arith, depth_is h))
both_off (b ∷ []) c Q deep h right left f = absurd (omega (arith, depth_is h))
both_off (b ∷ (a ∷ qs)) c Q deep h right left f =
    let q = right b (a ∷ qs) c h in
    let t = left a qs c q.1 in
    f a b qs t.0 q.0 t.1

-- an operator over two that were taken off
pub operator_done : (room : Room) (op : Operator) (at : ℕ) {waiting middle last : OperandStack} (waiting' : OperandStack) {area : List Extent} (area' : List Extent) {ls rs : List Extent} (r : Result (Unit {0}) SearchFault) (ps : List Pending) (c : ℕ) → 2 ≤ array_vec_len waiting.operands → Stacked waiting area ps c → TakesOff waiting area rs middle → TakesOff middle area ls last → Does (store room at (operator_list op ls rs) (operator_listing op ls rs)) last area r waiting' area' → Gives (operate_on room op at ps c) r waiting' area'
operator_done room op at {waiting} {middle} {last} waiting' {area} area' {ls} {rs} r ps c deep h right left stored =
    both_off ps c (λ ps. Gives (operate_on room op at ps c) r waiting' area') deep h right left
    (λ a b qs la rb k.
    subst (λ v. Gives (store room at (operator_list op a.extents v) (operator_listing op a.extents v) qs c) r waiting' area') rb
    (subst (λ v. Gives (store room at (operator_list op v rs) (operator_listing op v rs) qs c) r waiting' area') la (stored qs c k)))

-- what is taken off touches nothing
pub off_untouched : {waiting middle last : OperandStack} {was now : Areas} → middle.stored ≡ waiting.stored → middle.listed ≡ waiting.listed → Untouched middle last was now → Untouched waiting last was now
off_untouched s l u = record { stored = omega (arith, u.stored); listed = omega (arith, u.listed); stack_is = u.stack_is; scratch_is = u.scratch_is }

-- the last of a list
last_of : (below : List Operand) (top : Operand) → slice_get (below ++ top ∷ []) (length (below ++ top ∷ []) - 1) ≡ Some top
last_of below top =
    let all = below ++ top ∷ [] in
    let n : length all - 1 ≡ length below = omega (arith, length_push below top) in
    slice_get-get_or all (length all - 1) top (omega (arith, length_push below top)) ∙ ap Some (ap (λ i. get_or all i top) n ∙ get_or-append_seam below top [] top)

-- a source that waits on top is stored
pub settle_done : (room : Room) (at : ℕ) (waiting middle waiting' : OperandStack) (area area' xs : List Extent) (side : Side) (r : Result (Unit {0}) SearchFault) (ps : List Pending) (c : ℕ) → slice_get waiting.operands.items (array_vec_len waiting.operands - 1) ≡ Some (Unstored side) → 1 ≤ array_vec_len waiting.operands → Stacked waiting area ps c → TakesOff waiting area xs middle → Does (store room at xs (list_calls (each_one FirstStart) 0 xs)) middle area r waiting' area' → Gives (settle room at ps c) r waiting' area'
settle_done room at waiting middle waiting' area area' xs side r [] c top some h off stored = absurd (omega (arith, depth_is h))
settle_done room at waiting middle waiting' area area' xs side r (p ∷ ps) c top some h off stored =
    let t = h.lies in
    let last : slice_get waiting.operands.items (array_vec_len waiting.operands - 1) ≡ Some t.top = ap (λ v. slice_get v (length v - 1)) t.items ∙ last_of t.below t.top in
    let is : t.top ≡ Unstored side = (let e : Some t.top ≡ Some (Unstored side) = sym last ∙ top in cc) in
    let un : p.stored ≡ false = sym (ap (λ q. q.stored) t.is) ∙ ap (λ o. (pending_of o (take (size t.top) (drop (stored_total ps) area))).stored) is in
    let o = off p ps c h in
    rw un
    (subst (λ n. Gives (store room at p.extents n ps c) r waiting' area') (list_calls-one p.extents 0)
    (subst (λ v. Gives (store room at v (list_calls (each_one FirstStart) 0 v) ps c) r waiting' area') o.0 (stored ps c o.1)))
