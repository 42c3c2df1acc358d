-- The steps of a query come to what the law says. Assumes nothing.
use Rattle.std.proofs.Common.{Bool, true, false, if◌then◌else◌, ◌≡◌, ℕ, ◌+◌, List, [], ◌∷◌, ◌++◌, length, Some, None, Option, sym, refl, ap, ◌∙◌, append_assoc, append-nil, arith}
use Rattle.extents.specs.declared.extent.Extent.{Extent}
use Rattle.query.specs.Expressions.{Expr, leaf, apply, apply_to, Step, postfix}
use Rattle.search.specs.declared.fault.SearchFault.{SearchFault}
use Rattle.search.specs.Meaning.{Log, listed}
use Rattle.search.specs.Law.{Room, first_of, listing, is_kept, stored_size, operand_fault, operand_calls, operator_listing}
use Rattle.search.specs.Run.{Pending, stored_part, stored_total, Outcome, done, unless, after, operate, run, left_by}

length-if : (b : Bool) (xs : List Extent) → length (if b then xs else []) ≡ (if b then length xs else 0)
length-if true xs = refl
length-if false xs = refl

pub length-left_by : (log : Log) (e : Expr) → length (stored_part (left_by log e)) ≡ stored_size log e
length-left_by log e = length-if (is_kept e) (listed log e)

-- faults, one after the other
pub after_unless : (f : Option SearchFault) (o : Outcome) (g : List Pending → ℕ → Outcome) → after (unless f o) g ≡ unless f (after o g)
after_unless None o g = refl
after_unless (Some f) o g = refl

unless_first : (f g : Option SearchFault) (o : Outcome) → unless f (unless g o) ≡ unless (first_of f g) o
unless_first None g o = refl
unless_first (Some f) g o = refl

module _ (log : Log) (room : Room) where
  -- what an expression comes to over what waits
  abbrev pub comes : Expr → List Pending → ℕ → Outcome
  comes e ps c = unless (operand_fault log room (stored_total ps) e) (done (left_by log e ∷ ps) (c + operand_calls log e))

  run_then : (e : Expr) (rest : List Step) (ps : List Pending) (c : ℕ) → run log room (postfix e ++ rest) ps c ≡ after (comes e ps c) (run log room rest)
  unfolding run
  run_then (leaf l at) rest ps c = refl
  run_then (apply op at l r) rest ps c =
      let s : List Step = (apply_to op, at) ∷ [] in
      let go = run log room in
      let ll = left_by log l in
      let cl = c + operand_calls log l in
      let cr = cl + operand_calls log r in
      let xs = listed log (apply op at l r) in
      let k = operator_listing op (listed log l) (listed log r) in
      let fl = operand_fault log room (stored_total ps) l in
      let fr = operand_fault log room (stored_total ps + stored_size log l) r in
      let fo = listing room (stored_total ps) (length xs) at in
      let last : Outcome = done (left_by log (apply op at l r) ∷ ps) (cr + k) in
      let b : stored_total (ll ∷ ps) ≡ stored_total ps + stored_size log l = ap (λ v. stored_total ps + v) (length-left_by log l) in
      let e₁ : go (postfix (apply op at l r) ++ rest) ps c ≡ go (postfix l ++ (postfix r ++ ((apply_to op, at) ∷ rest))) ps c =
      ap (λ v. go v ps c) (append_assoc (postfix l) (postfix r ++ s) rest ∙ ap (λ v. postfix l ++ v) (append_assoc (postfix r) s rest)) in
      let e₂ : go (postfix l ++ (postfix r ++ ((apply_to op, at) ∷ rest))) ps c ≡ unless fl (go (postfix r ++ ((apply_to op, at) ∷ rest)) (ll ∷ ps) cl) =
      run_then l (postfix r ++ ((apply_to op, at) ∷ rest)) ps c ∙ after_unless fl (done (ll ∷ ps) cl) (go (postfix r ++ ((apply_to op, at) ∷ rest))) in
      let e₃ : go (postfix r ++ ((apply_to op, at) ∷ rest)) (ll ∷ ps) cl ≡ unless fr (after (operate room op at ll (left_by log r) ps cr) (go rest)) =
      run_then r ((apply_to op, at) ∷ rest) (ll ∷ ps) cl
      ∙ after_unless (operand_fault log room (stored_total (ll ∷ ps)) r) (done (left_by log r ∷ (ll ∷ ps)) cr) (go ((apply_to op, at) ∷ rest))
      ∙ ap (λ v. unless (operand_fault log room v r) (after (operate room op at ll (left_by log r) ps cr) (go rest))) b in
      let e₄ : after (operate room op at ll (left_by log r) ps cr) (go rest) ≡ unless fo (after last (go rest)) =
      after_unless fo last (go rest) in
      let sum : cr + k ≡ c + operand_calls log (apply op at l r) = omega arith in
      e₁ ∙ e₂ ∙ ap (unless fl) (e₃ ∙ ap (unless fr) e₄ ∙ unless_first fr fo (after last (go rest))) ∙ unless_first fl (first_of fr fo) (after last (go rest))
      ∙ sym (after_unless (first_of fl (first_of fr fo)) last (go rest))
      ∙ ap (λ v. after (unless (first_of fl (first_of fr fo)) (done (left_by log (apply op at l r) ∷ ps) v)) (go rest)) sum

  pub run_expr : (e : Expr) → run log room (postfix e) [] 0 ≡ comes e [] 0
  unfolding run
  run_expr e =
      ap (λ v. run log room v [] 0) (sym (append-nil (postfix e))) ∙ run_then e [] [] 0
      ∙ after_unless (operand_fault log room 0 e) (done (left_by log e ∷ []) (0 + operand_calls log e)) (run log room [])
