-- The operand stack and the stack area as one operand is put on or taken off. Assumes nothing.
use Rattle.std.proofs.Common.{◌≡◌, ℕ, ◌+◌, ◌-◌, ◌<◌, ◌≤◌, List, [], ◌∷◌, ◌++◌, length, take, drop, sym, ap, ◌∙◌, subst, arith}
use Rattle.std.specs.List.{sum_by}
use Rattle.std.proofs.lemmas.List.{drop-take, take-take, length_push, same_from_push}
use Rattle.std.proofs.lemmas.List.Sums.{sum_by_push}
use Rattle.arrayvec.specs.ArrayVec.{array_vec_len}
use Rattle.extents.specs.declared.extent.Extent.{Extent}
use Rattle.extents.specs.Extents.{ExtentList}
use Rattle.extents.specs.Counts.{capped}
use Rattle.search.specs.declared.operand.Operand.{Operand}
use Rattle.search.specs.declared.operand.Operand.TheVariants.{Stored, Unstored}
use Rattle.search.specs.declared.stack.OperandStack.{OperandStack}
use Rattle.search.specs.Run.{Pending, stored_part, pending_of, size, stored_total}
use Rattle.search.specs.Stacks.{Lies, Stacked}

lies_frame : (area area' : List Extent) (os : List Operand) (ps : List Pending) → take (stored_total ps) area' ≡ take (stored_total ps) area → Lies area os ps → Lies area' os ps
lies_frame area area' os [] e h = h
lies_frame area area' os (p ∷ ps) e h =
    let n = stored_total ps in
    let m = length (stored_part p) in
    let s : take m (drop n area') ≡ take m (drop n area) = sym (drop-take n m area') ∙ ap (drop n) e ∙ drop-take n m area in
    let t : take n area' ≡ take n area = sym (take-take n (n + m) area' (omega arith)) ∙ ap (take n) e ∙ take-take n (n + m) area (omega arith) in
    let part : take (size h.top) (drop n area') ≡ take (size h.top) (drop n area) = rw h.many s in
    record { below = h.below; top = h.top; items = h.items; many = h.many; is = ap (pending_of h.top) part ∙ h.is; rises = h.rises; rest = lies_frame area area' h.below ps t h.rest }

lies_length : (area : List Extent) (os : List Operand) (ps : List Pending) → Lies area os ps → length os ≡ length ps
lies_length area os [] h = ap length h
lies_length area os (p ∷ ps) h = omega (arith, ap length h.items, length_push h.below h.top, lies_length area h.below ps h.rest)

lies_total : (area : List Extent) (os : List Operand) (ps : List Pending) → Lies area os ps → sum_by size os ≡ stored_total ps
lies_total area os [] h = ap (sum_by size) h
lies_total area os (p ∷ ps) h = omega (arith, ap (sum_by size) h.items, sum_by_push size h.below h.top, h.many, lies_total area h.below ps h.rest)

pub depth_is : {waiting : OperandStack} {area : List Extent} {ps : List Pending} {c : ℕ} → Stacked waiting area ps c → array_vec_len waiting.operands ≡ length ps
depth_is {waiting} {area} {ps} h = lies_length area waiting.operands.items ps h.lies

pub used_is : (waiting : OperandStack) (area : List Extent) (ps : List Pending) → Lies area waiting.operands.items ps → waiting.used ≡ stored_total ps
used_is waiting area ps h = waiting.counted ∙ lies_total area waiting.operands.items ps h

pub stacked_push : (waiting waiting' : OperandStack) (area area' : List Extent) (ps : List Pending) (c : ℕ) (p : Pending) (o : Operand) (k k' : ℕ) → Stacked waiting area ps c → waiting'.operands.items ≡ waiting.operands.items ++ o ∷ [] → waiting'.calls ≡ capped (waiting.calls + k) → size o ≡ length (stored_part p) → pending_of o (take (size o) (drop (stored_total ps) area')) ≡ p → k ≡ capped k' → length area' ≡ length area → take (stored_total ps) area' ≡ take (stored_total ps) area → ExtentList p.extents → stored_total ps + length (stored_part p) ≤ length area → Stacked waiting' area' (p ∷ ps) (c + k')
stacked_push waiting waiting' area area' ps c p o k k' h i j many is f l t x m =
    let lies : Lies area' waiting'.operands.items (p ∷ ps) = record { below = waiting.operands.items; top = o; items = i; many = many; is = is; rises = x; rest = lies_frame area area' waiting.operands.items ps t h.lies } in
    record {
      used = used_is waiting' area' (p ∷ ps) lies;
      calls = omega (arith, h.calls);
      fits = omega arith;
      lies = lies;
    }

-- what waits where at least one does
pub at_top : (waiting : OperandStack) (area : List Extent) (ps : List Pending) (c : ℕ) {Q : Type 0} → 0 < array_vec_len waiting.operands → Stacked waiting area ps c → ((p : Pending) (qs : List Pending) → Stacked waiting area (p ∷ qs) c → Q) → Q
at_top waiting area [] c l h f = absurd (omega (arith, depth_is h))
at_top waiting area (p ∷ qs) c l h f = f p qs h

part_rises : (o : Operand) (xs : List Extent) (p : Pending) → pending_of o (take (size o) xs) ≡ p → ExtentList p.extents → ExtentList (take (size o) xs)
part_rises (Stored n) xs p e h = subst ExtentList (sym (ap (λ q. q.extents) e)) h
part_rises (Unstored side) xs p e h = tt

-- what the operand on top is, over the part that is stored of it
pub taken : (waiting waiting' : OperandStack) (area : List Extent) (o : Operand) (p : Pending) (ps : List Pending) (c : ℕ) → Stacked waiting area (p ∷ ps) c → waiting.operands.items ≡ waiting'.operands.items ++ o ∷ [] → waiting'.calls ≡ waiting.calls → (pending_of o (take (waiting.used - waiting'.used) (drop waiting'.used area)) ≡ p) × ExtentList (take (waiting.used - waiting'.used) (drop waiting'.used area)) × Stacked waiting' area ps c
taken waiting waiting' area o p ps c h i j =
    let t = h.lies in
    let s = same_from_push waiting'.operands.items t.below o t.top (sym i ∙ t.items) in
    let lies : Lies area waiting'.operands.items ps = subst (λ v. Lies area v ps) (sym s.0) t.rest in
    let h' : Stacked waiting' area ps c = record { used = used_is waiting' area ps lies; calls = j ∙ h.calls; fits = omega (arith, h.fits); lies = lies } in
    let part : List Extent = take (waiting.used - waiting'.used) (drop waiting'.used area) in
    let n : waiting.used - waiting'.used ≡ size t.top = omega (arith, h.used, h'.used, t.many) in
    let b : part ≡ take (size t.top) (drop (stored_total ps) area) = ap (λ v. take v (drop waiting'.used area)) n ∙ ap (λ v. take (size t.top) (drop v area)) h'.used in
    (ap (λ v. pending_of v part) s.1 ∙ ap (pending_of t.top) b ∙ t.is, subst ExtentList (sym b) (part_rises t.top (drop (stored_total ps) area) p t.is t.rises), h')
