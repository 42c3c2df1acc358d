-- What a run that ended says of its whole input. Assumes nothing.
use Rattle.std.proofs.Common.{◌≡◌, ℕ, List, [], ◌++◌, Option, Some, None, Result, Ok, Err, take, sym, ap, ◌∙◌, subst, append-nil, inl, inr, ⊎_elim}
use Rattle.std.specs.Result.{OnOk}
use Rattle.std.specs.Io.KnownBytes.{Appends, IsAtEnd}
use Rattle.std.proofs.KnownBytes.{Appends-trans}
use Rattle.std.specs.declared.io.Error.{Error}
use Rattle.console.specs.declared.stop.Stop.{Stop}
use Rattle.console.specs.declared.stop.Stop.TheVariants.{Input, Output}
use Rattle.console.specs.Cuts.{cut, lines_of}
use Rattle.console.specs.Runs.{Begins, Writes, WritesFor, Ends, Ran, Run}
use Rattle.console.proofs.Laws.{whole_in, begins_more, begins_some}

-- at the end, what was read is the whole input
all_read : (read ys : List ℕ) → ys ≡ [] → lines_of read ≡ lines_of (read ++ ys)
all_read read ys e = ap lines_of (sym (append-nil read) ∙ ap (λ zs. read ++ zs) (sym e))

module _ (ended stopped begun : List (List ℕ) → List ℕ → Type 0) where
  module _ {A : Type 0} (before now : Option (List ℕ)) where
    ran_whole : (result : Result A Stop) (unread left : Option (List ℕ)) → Ran ended stopped begun result unread left before now → OnOk result (WritesFor ended unread before now)
    ran_whole (Err e) unread left r = tt
    ran_whole (Ok x) None left r = tt
    ran_whole (Ok x) (Some input) None r = absurd r.consumed
    ran_whole (Ok x) (Some input) (Some ys) r =
        subst (Writes ended before now) (all_read r.read ys r.ends.0 ∙ ap lines_of (sym r.consumed)) r.ends.1

    module _ (from_ended : (lines : List (List ℕ)) (bytes : List ℕ) → ended lines bytes → Begins begun lines bytes) (from_stopped : (lines : List (List ℕ)) (bytes : List ℕ) → stopped lines bytes → Begins begun lines bytes) where
      ends_front : (result : Result A Stop) (ys read : List ℕ) → Ends ended stopped begun result (Some ys) before now read → Writes (Begins begun) before now (lines_of (read ++ ys))
      ends_front (Ok _) ys read t =
          subst (Writes (Begins begun) before now) (all_read read ys t.0) (t.1.0, t.1.1, from_ended (lines_of read) t.1.0 t.1.2)
      ends_front (Err (Input _)) ys read t =
          (t.0, t.1, begins_more begun (cut read).whole (lines_of (read ++ ys)) t.0 (whole_in read ys) (from_stopped (cut read).whole t.0 t.2))
      ends_front (Err (Output _)) ys read t =
          ⊎_elim
          (λ (k : Writes (Begins begun) before now (cut read).whole). (k.0, k.1, begins_more begun (cut read).whole (lines_of (read ++ ys)) k.0 (whole_in read ys) k.2))
          (λ (k : (ys ≡ []) × Writes (Begins begun) before now (lines_of read)). subst (Writes (Begins begun) before now) (all_read read ys k.0) k.1)
          t

      ran_front : (result : Result A Stop) (unread left : Option (List ℕ)) → Ran ended stopped begun result unread left before now → WritesFor (Begins begun) unread before now
      ran_front result None left r = tt
      ran_front result (Some input) None r = absurd r.consumed
      ran_front result (Some input) (Some ys) r = subst (λ (zs : List ℕ). Writes (Begins begun) before now (lines_of zs)) (sym r.consumed) (ends_front result ys r.read r.ends)

      pub run_of : (result : Result A Stop) (unread left : Option (List ℕ)) → Ran ended stopped begun result unread left before now → Run ended stopped begun result unread left before now
      run_of result unread left r =
          record { ran = r; whole = ran_whole result unread left r; front = ran_front result unread left r }

  module _ (ended' stopped' begun' : List (List ℕ) → List ℕ → Type 0) {A B : Type 0} (unread left before : Option (List ℕ)) where
    -- a run that failed, by what its relations say of others
    pub ran_failed : (now : Option (List ℕ)) (why : Stop) → ((lines : List (List ℕ)) (bytes : List ℕ) → stopped lines bytes → stopped' lines bytes) → ((lines : List (List ℕ)) (bytes : List ℕ) → Begins begun lines bytes → Begins begun' lines bytes) → Ran {A = A} ended stopped begun (Err why) unread left before now → Ran {A = B} ended' stopped' begun' (Err why) unread left before now
    ran_failed now (Input why) f g r = record { read = r.read; consumed = r.consumed; ends = (r.ends.0, r.ends.1, f (cut r.read).whole r.ends.0 r.ends.2) }
    ran_failed now (Output why) f g r = record {
      read = r.read;
      consumed = r.consumed;
      ends =
          ⊎_elim
          (λ (k : Writes (Begins begun) before now (cut r.read).whole). inl (k.0, k.1, g (cut r.read).whole k.0 k.2))
          (λ (k : IsAtEnd left × Writes (Begins begun) before now (lines_of r.read)). inr (k.0, (k.1.0, k.1.1, g (lines_of r.read) k.1.0 k.1.2)))
          r.ends;
    }

    -- a run that ended well, and then wrote more
    module _ (mid now : Option (List ℕ)) (more : List ℕ) (x : A) (r : Ran ended stopped begun (Ok x) unread left before mid) where
      pub ran_more : (y : B) → Appends mid now more → (ended (lines_of r.read) r.ends.1.0 → ended' (lines_of r.read) (r.ends.1.0 ++ more)) → Ran ended' stopped' begun' (Ok y) unread left before now
      ran_more y h f =
          record { read = r.read; consumed = r.consumed; ends = (r.ends.0, (r.ends.1.0 ++ more, Appends-trans before mid now r.ends.1.0 more r.ends.1.1 h, f r.ends.1.2)) }

      -- the same, but only some of it
      pub ran_more_broken : (why : Error) (n : ℕ) → Appends mid now (take n more) → (ended (lines_of r.read) r.ends.1.0 → begun' (lines_of r.read) (r.ends.1.0 ++ more)) → (let failed : Result B Stop = Err (Output why) in Ran ended' stopped' begun' failed unread left before now)
      ran_more_broken why n h f = record {
        read = r.read;
        consumed = r.consumed;
        ends =
            inr (
              r.ends.0,
              (
                r.ends.1.0 ++ take n more,
                Appends-trans before mid now r.ends.1.0 (take n more) r.ends.1.1 h,
                begins_some begun' (lines_of r.read) (lines_of r.read) r.ends.1.0 more n ([], append-nil (lines_of r.read)) (f r.ends.1.2),
              ),
            );
      }

    -- a run that ended well
    pub ran_done : (now : Option (List ℕ)) (x : A) (y : B) → ((lines : List (List ℕ)) (bytes : List ℕ) → ended lines bytes → ended' lines bytes) → Ran ended stopped begun (Ok x) unread left before now → Ran ended' stopped' begun' (Ok y) unread left before now
    ran_done now x y f r = record { read = r.read; consumed = r.consumed; ends = (r.ends.0, (r.ends.1.0, r.ends.1.1, f (lines_of r.read) r.ends.1.0 r.ends.1.2)) }

-- what answers some lines in one way does so in another
pub begins_as : (answer answer' : List (List ℕ) → List ℕ → Type 0) → ((lines : List (List ℕ)) (bytes : List ℕ) → answer lines bytes → answer' lines bytes) → (lines : List (List ℕ)) (written : List ℕ) → Begins answer lines written → Begins answer' lines written
begins_as answer answer' f lines written k =
    record { answered = k.answered; bytes = k.bytes; first_lines = k.first_lines; answers = f k.answered k.bytes k.answers; front = k.front }

-- what answers lines in one way does so in another
pub ran_as : (ended stopped begun ended' stopped' begun' : List (List ℕ) → List ℕ → Type 0) {A : Type 0} (unread left before now : Option (List ℕ)) (result : Result A Stop) → ((lines : List (List ℕ)) (bytes : List ℕ) → ended lines bytes → ended' lines bytes) → ((lines : List (List ℕ)) (bytes : List ℕ) → stopped lines bytes → stopped' lines bytes) → ((lines : List (List ℕ)) (bytes : List ℕ) → begun lines bytes → begun' lines bytes) → Ran ended stopped begun result unread left before now → Ran ended' stopped' begun' result unread left before now
ran_as ended stopped begun ended' stopped' begun' unread left before now (Ok x) e s b r = ran_done ended stopped begun ended' stopped' begun' unread left before now x x e r
ran_as ended stopped begun ended' stopped' begun' unread left before now (Err why) e s b r = ran_failed ended stopped begun ended' stopped' begun' unread left before now why s (begins_as begun begun' b) r
