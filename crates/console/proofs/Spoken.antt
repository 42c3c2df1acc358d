-- What a session's run says of the state that the session stands for. Assumes nothing.
use Rattle.std.proofs.Common.{◌≡◌, ℕ, List, [], ◌∷◌, ◌++◌, Option, Result, Err, sym, refl, ap, ◌∙◌, subst, inl}
use Rattle.std.proofs.KnownBytes.{Appends-nil, Consumes-nil}
use Rattle.std.specs.declared.io.Error.{Error}
use Rattle.console.specs.Commands.{Order}
use Rattle.console.specs.declared.stop.Stop.{Stop}
use Rattle.console.specs.declared.stop.Stop.TheVariants.{Output}
use Rattle.console.specs.Replies.{order_in, Replies, RepliesOn}
use Rattle.console.specs.Runs.{Ran, SessionRan}
use Rattle.console.specs.Spoken.{Spoken, SpokenRun, Reaches, Follows}
use Rattle.console.proofs.Laws.{begins_all}
use Rattle.console.proofs.Ran.{run_of, ran_as}

module _ {L : Type 0} (says : L → Order → List ℕ → Type 0) (then' : L → Order → L) where
  -- where an order has one answer, so have lines
  pub spoken_once : ((l : L) (o : Order) (a b : List ℕ) → says l o a → says l o b → a ≡ b) → (l : L) (lines : List (List ℕ)) (a b : List ℕ) → Spoken says then' l lines a → Spoken says then' l lines b → a ≡ b
  spoken_once once l [] a b p q = p ∙ sym q
  spoken_once once l (line ∷ lines) a b p q =
      p.4
      ∙ ap (λ x. x ++ p.1) (once l (order_in line) p.0 q.0 p.2 q.2)
      ∙ ap (λ x. q.0 ++ x) (spoken_once once (then' l (order_in line)) lines p.1 q.1 p.3 q.3)
      ∙ sym q.4

  run_of_ran : {A : Type 0} (l : L) (result : Result A Stop) (unread left before now : Option (List ℕ)) → Ran (Spoken says then' l) (Spoken says then' l) (Spoken says then' l) result unread left before now → SpokenRun says then' l result unread left before now
  run_of_ran l result unread left before now r = run_of (Spoken says then' l) (Spoken says then' l) (Spoken says then' l) before now (begins_all (Spoken says then' l)) (begins_all (Spoken says then' l)) result unread left r

  -- nothing is read, and nothing is written, for want of memory
  pub spoken_unrun : {A : Type 0} (l : L) (why : Error) (unread before : Option (List ℕ)) → (let failed : Result A Stop = Err (Output why) in SpokenRun says then' l failed unread unread before before)
  spoken_unrun {A} l why unread before =
      let failed : Result A Stop = Err (Output why) in
      run_of_ran l failed unread unread before before
      (record { read = []; consumed = Consumes-nil unread; ends = inl ([], Appends-nil before, begins_all (Spoken says then' l) [] [] refl) })

  module _ {S : Type 0} (means : S → L → Type 0) where
    spoken : (s t : S) (l : L) (lines : List (List ℕ)) (bytes : List ℕ) → means s l → Replies (Follows means says then') s t lines bytes → Reaches means says then' l t lines bytes
    spoken s t l [] bytes m r = (r.0, subst (λ (x : S). means x l) (sym r.1) m)
    spoken s t l (line ∷ lines) bytes m r =
        let a = r.3 l m in
        let more = spoken r.2 t (then' l (order_in line)) lines r.1 a.1 r.4 in
        ((r.0, r.1, a.0, more.0, r.5), more.1)

    module _ (s t : S) (l : L) (m : means s l) (unread left before now : Option (List ℕ)) (result : Result (Unit {0}) Stop) (r : SessionRan (Follows means says then') s t result unread left before now) where
      -- the session then stands for the state after the lines
      pub reached_ran : Ran (Reaches means says then' l t) (Reaches means says then' l t) (Spoken says then' l) result unread left before now
      reached_ran =
          ran_as (Replies (Follows means says then') s t) (Replies (Follows means says then') s t) (RepliesOn (Follows means says then') s)
          (Reaches means says then' l t) (Reaches means says then' l t) (Spoken says then' l) unread left before now result
          (λ lines bytes. spoken s t l lines bytes m) (λ lines bytes. spoken s t l lines bytes m) (λ lines bytes k. (spoken s k.0 l lines bytes m k.1).0)
          r

      pub spoken_run : SpokenRun says then' l result unread left before now
      spoken_run =
          run_of_ran l result unread left before now
          (ran_as (Reaches means says then' l t) (Reaches means says then' l t) (Spoken says then' l) (Spoken says then' l) (Spoken says then' l) (Spoken says then' l) unread left before now result
          (λ lines bytes k. k.0) (λ lines bytes k. k.0) (λ lines bytes k. k)
          reached_ran)
