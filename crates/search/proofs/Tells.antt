-- From what was read and run to what is told. Assumes nothing.
use Rattle.std.proofs.Common.{take, drop, true≢false, Bool, true, false, if◌then◌else◌, ◌≡◌, ℕ, ◌+◌, ◌≤◌, List, [], ◌∷◌, length, Some, None, Ok, Err, Option, Result, sym, refl, ap, ◌∙◌, subst, inl, inr, arith}
use Rattle.std.proofs.lemmas.Bool.{le-ltb}
use Rattle.refusals.specs.Refusals.{refusal_in}
use Rattle.search.specs.Faults.{refusal_of}
use Rattle.extents.specs.declared.extent.Extent.{Extent}
use Rattle.extents.specs.Counts.{capped}
use Rattle.operators.specs.declared.listing.Listing.{Listing}
use Rattle.query.specs.declared.fault.ReadFault.{ReadFault}
use Rattle.query.specs.declared.query.Query.{Query}
use Rattle.query.specs.Answers.{Answered, Complete, Leftmost}
use Rattle.query.specs.Expressions.{Expr, leaf, apply, postfix}
use Rattle.query.specs.Outcomes.{Refuses}
use Rattle.query.specs.Queries.{steps, said}
use Rattle.query.proofs.Order.{says}
use Rattle.search.specs.declared.fault.SearchFault.{SearchFault}
use Rattle.search.specs.declared.fault.SearchFault.TheVariants.{Read}
use Rattle.search.specs.declared.operand.Operand.{Operand}
use Rattle.search.specs.declared.operand.Operand.TheVariants.{Stored, Unstored}
use Rattle.search.specs.declared.stack.OperandStack.{OperandStack}
use Rattle.search.specs.Meaning.{Log, IsLawful, leaf_list, listed}
use Rattle.search.specs.Law.{Room, Areas, is_stored, stacking, listing, operand_fault, query_fault, search_fault, operand_calls, query_calls}
use Rattle.search.specs.Run.{pending_of, size, run, Outcome, done, unless, after, settle, left_by, first_place}
use Rattle.search.specs.Stacks.{Gives}
use Rattle.search.specs.Told.{Told}
use Rattle.search.specs.Searches.{Refused, Queried, Searched}
use Rattle.search.proofs.Bounds.{query_few}
use Rattle.search.proofs.Sets.{meaning_listed}
use Rattle.search.proofs.Trees.{after_unless, run_expr}

module _ (log : Log) (law : IsLawful log) (room : Room) (text : List ℕ) (r : Result Listing SearchFault) (left : Areas) where
  pub misread_searched : (f : ReadFault) → Refuses text f → Complete text (Err f) → Leftmost text (Err f) → Refused room (Read f) r left → Searched log room text r left
  misread_searched f h complete leftmost k = record {
    query = λ e x. absurd (complete e x);
    misread = λ g x. let q = leftmost g x in let i : f ≡ g = cc in subst (λ v. Refused room (Read v) r left) i k;
    told_query = λ e x. absurd (complete e x);
    told_misread = λ g x. let q = leftmost g x in let i : f ≡ g = cc in ap (refusal_in refusal_of) k.answer ∙ ap (λ v. Some (refusal_of (Read v))) i;
    either = inr (f, h);
    sets = meaning_listed log law;
    few = query_few log law;
  }

  pub read_searched : (q : Query) → Answered text q → Complete text (Ok q) → Leftmost text (Ok q) → Queried log room (said q) r left → Searched log room text r left
  read_searched q a complete leftmost k = record {
    query = λ e h. (subst (λ v. Queried log room v r left) (says e (complete e h)) k).answer;
    misread = λ f h. let p = leftmost f h in let z : ◌≡◌ {A = ℕ} 0 1 = cc in absurd (omega arith);
    told_query = λ e h. (subst (λ v. Queried log room v r left) (says e (complete e h)) k).told_query;
    told_misread = λ f h. let p = leftmost f h in let z : ◌≡◌ {A = ℕ} 0 1 = cc in absurd (omega arith);
    either = inl (a.expr, a.reads);
    sets = k.sets;
    few = k.few;
  }

-- what the end of a query comes to: its list is stored, or there is a fault
abbrev ends : Log → Room → Expr → Outcome
ends log room e = unless (query_fault log room e) (done (record { extents = listed log e; stored = true } ∷ []) (0 + query_calls log e))

-- a leaf, where it is stored and where it is not
settle_leaf : (b : Bool) (room : Room) (at : ℕ) (xs : List Extent) → after (unless (if b then stacking room 0 (length xs) at else None) (done (record { extents = xs; stored = b } ∷ []) (0 + (if b then length xs + 1 else 0)))) (settle room at) ≡ unless (if b then stacking room 0 (length xs) at else listing room 0 (length xs) at) (done (record { extents = xs; stored = true } ∷ []) (0 + (length xs + 1)))
settle_leaf true room at xs = after_unless (stacking room 0 (length xs) at) (done (record { extents = xs; stored = true } ∷ []) (0 + (length xs + 1))) (settle room at)
settle_leaf false room at xs = refl

module _ (log : Log) (room : Room) where
  run_ends : (e : Expr) → after (run log room (postfix e) [] 0) (settle room (first_place (postfix e))) ≡ ends log room e
  run_ends (leaf l at) = ap (λ v. after v (settle room at)) (run_expr log room (leaf l at)) ∙ settle_leaf (is_stored l) room at (leaf_list log l)
  run_ends (apply op at l r) =
      let e = apply op at l r in
      ap (λ v. after v (settle room (first_place (postfix e)))) (run_expr log room e)
      ∙ after_unless (operand_fault log room 0 e) (done (left_by log e ∷ []) (0 + operand_calls log e)) (settle room (first_place (postfix e)))

-- a query is run and comes to its end
pub run_told : (log : Log) (room : Room) (q : Query) (r : Result (Unit {0}) SearchFault) (waiting : OperandStack) (area : List Extent) → Gives (after (run log room (steps q) [] 0) (settle room (first_place (steps q)))) r waiting area → Gives (ends log room (said q)) r waiting area
run_told log room q r waiting area g =
    subst (λ v. Gives v r waiting area) (run_ends log room (said q))
    (subst (λ v. Gives (after (run log room v [] 0) (settle room (first_place v))) r waiting area) q.order g)

-- what is stored on top is the front of the area
top_is : (o : Operand) (area xs : List Extent) → pending_of o (take (size o) (drop 0 area)) ≡ record { extents = xs; stored = true } → take (size o) area ≡ xs
top_is (Stored n) area xs e = ap (λ p. p.extents) e
top_is (Unstored side) area xs e = absurd (true≢false (sym (ap (λ p. p.stored) e)))

-- the answer where a run has come to its end
module _ (log : Log) (room : Room) (e : Expr) (waiting : OperandStack) (area : List Extent) where
  pub ended_ok : Gives (ends log room e) (Ok tt) waiting area → Told (listed log e) (query_calls log e) (query_fault log room e) (Ok (record { n = waiting.used; calls = waiting.calls })) area
  ended_ok g = told (query_fault log room e) g
    where
      told : (f : Option SearchFault) → Gives (unless f (done (record { extents = listed log e; stored = true } ∷ []) (0 + query_calls log e))) (Ok tt) waiting area → Told (listed log e) (query_calls log e) f (Ok (record { n = waiting.used; calls = waiting.calls })) area
      told None g =
          let s = g.1 in
          let t = s.lies in
          let many : waiting.used ≡ length (listed log e) = omega (arith, s.used) in
          let count : waiting.calls ≡ capped (query_calls log e) = s.calls ∙ ap capped (let z : 0 + query_calls log e ≡ query_calls log e = omega arith in z) in (
            (λ j. Ok (record { n = many j; calls = count j })),
            omega (arith, s.fits),
            ap (λ v. take v area) (sym t.many) ∙ top_is t.top area (listed log e) t.is,
          )
      told (Some f) g = let z : ◌≡◌ {A = ℕ} 0 1 = cc in absurd (omega arith)

  pub ended_err : (x : SearchFault) → Gives (ends log room e) (Err x) waiting area → Told (listed log e) (query_calls log e) (query_fault log room e) (Err x) area
  ended_err x g = told (query_fault log room e) g
    where
      told : (f : Option SearchFault) → Gives (unless f (done (record { extents = listed log e; stored = true } ∷ []) (0 + query_calls log e))) (Err x) waiting area → Told (listed log e) (query_calls log e) f (Err x) area
      told None g = let y = g.0 in let z : ◌≡◌ {A = ℕ} 0 1 = cc in absurd (omega arith)
      told (Some f) g = let i : x ≡ f = cc in (λ j. Err (i j))

-- a trace that is no longer than the log
module _ (log : Log) (room : Room) (e : Expr) (area : List Extent) where
  pub trace_fits : length log.trace ≤ log.lists.span → search_fault log room e ≡ query_fault log room e
  trace_fits l = rw (le-ltb log.lists.span (length log.trace) l) refl
