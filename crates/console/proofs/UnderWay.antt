-- A run, one step further on. Assumes nothing.
use Rattle.std.proofs.Common.{◌≡◌, ℕ, ◌+◌, ◌<◌, ◌≤◌, false, List, [], ◌∷◌, ◌++◌, ◌==◌, inl, inr, length, get_or, take, drop, Option, Result, Ok, Err, string_bytes, sym, refl, ap, ◌∙◌, subst, append_assoc, append-nil}
use Rattle.std.specs.Result.{OnOk, OnErr}
use Rattle.std.proofs.lemmas.List.{take_more, take-append-drop, take_all}
use Rattle.std.proofs.KnownBytes.{Appends-trans, Appends-nil, Consumes-nil, Consumes-trans}
use Rattle.std.specs.Io.KnownBytes.{Appends, Consumes, IsAtEnd}
use Rattle.std.specs.declared.io.Error.{Error}
use Rattle.console.specs.Commands.{Order}
use Rattle.console.specs.Lines.{Gathers}
use Rattle.console.specs.declared.transit.Transit.{Transit}
use Rattle.console.specs.declared.stop.Stop.TheVariants.{Input, Output}
use Rattle.console.specs.Cuts.{Cut, cut, lines_of}
use Rattle.console.specs.Replies.{Replies, RepliesOn}
use Rattle.console.specs.Runs.{Begins, Writes, SessionRan}
use Rattle.console.specs.UnderWay.{Answered, SoFar, Further, Breaks, UnderWay}
use Rattle.console.proofs.Laws.{cut_line, cut_byte, whole_more, replies_more, begins_some, begins_more}

pub on_err : {T E P : Type 0} (r : Result T E) → P → OnErr r P
on_err (Ok x) p = tt
on_err (Err e) p = p

pub both : {T E : Type 0} (P Q : Type 0) (r : Result T E) → OnOk r P → OnOk r Q → OnOk r (P × Q)
both P Q (Ok x) p q = (p, q)
both P Q (Err e) p q = tt

-- the part up to a byte and the byte, and the part up to all of it
up_to : (part : List ℕ) (i : ℕ) → i < length part → take i part ++ get_or part i 0 ∷ [] ≡ take (i + 1) part
up_to part i h = sym (take_more part i 0 h)

module _ {S : Type 0} (answers : S → Order → List ℕ → S → Type 0) where
  module _ (s : S) (p : Transit) (a : Option (List ℕ)) where
    -- a byte of a line
    pub further_byte : (q : Transit) (b : ℕ) → (b == 10) ≡ false → string_bytes q.out ≡ string_bytes p.out → ((line : List ℕ) → Gathers p.line line → Gathers q.line (line ++ b ∷ [])) → Further answers s p a s q a (b ∷ [])
    further_byte q b e o f first before read k =
        let c = sym (cut_byte read b e) in
        record {
          written = k.written;
          appended = k.appended;
          replies = subst (λ (c : Cut). Replies answers first s c.whole (k.written ++ string_bytes q.out)) c (subst (λ out. Replies answers first s (cut read).whole (k.written ++ out)) (sym o) k.replies);
          gathers = subst (λ (c : Cut). Gathers q.line c.rest) c (f (cut read).rest k.gathers);
        }

    -- every line is answered, once the gathered one is
    all_lines : (t : S) (q : Transit) → Answered answers s p t q → (first : S) (before : Option (List ℕ)) (read : List ℕ) (k : SoFar answers first s p before a read) → Replies answers first t (lines_of read) (k.written ++ string_bytes q.out)
    all_lines t q f first before read k =
        let more = f (cut read).rest k.gathers in
        subst (Replies answers first t (lines_of read)) (append_assoc k.written (string_bytes p.out) more.0 ∙ ap (λ o. k.written ++ o) (sym more.1))
        (replies_more answers first s t (cut read).whole (cut read).rest (k.written ++ string_bytes p.out) more.0 k.replies more.2)

    -- a newline
    pub further_line : (t : S) (q : Transit) (b : ℕ) → b ≡ 10 → Answered answers s p t q → Gathers q.line [] → Further answers s p a t q a (b ∷ [])
    further_line t q b e f g first before read k =
        let c = sym (cut_line read b e) in
        record {
          written = k.written;
          appended = k.appended;
          replies = subst (λ (c : Cut). Replies answers first t c.whole (k.written ++ string_bytes q.out)) c (all_lines t q f first before read k);
          gathers = subst (λ (c : Cut). Gathers q.line c.rest) c g;
        }

    module _ (b : Option (List ℕ)) where
      -- what waits is written
      pub further_written : (q : Transit) → q.line ≡ p.line → string_bytes q.out ≡ [] → Appends a b (string_bytes p.out) → Further answers s p a s q b []
      further_written q line none h first before read k =
          let wrote : List ℕ = k.written ++ string_bytes p.out in
          subst (SoFar answers first s q before b) (sym (append-nil read)) (record {
            written = wrote;
            appended = Appends-trans before a b k.written (string_bytes p.out) k.appended h;
            replies = subst (Replies answers first s (cut read).whole) (sym (ap (λ o. wrote ++ o) none ∙ append-nil wrote)) k.replies;
            gathers = rw line k.gathers;
          })

      -- some front of what waits is written
      pub breaks_written : (n : ℕ) (bytes : List ℕ) → Appends a b (take n (string_bytes p.out)) → Breaks answers s p a b bytes
      breaks_written n bytes h first before read k = (
        k.written ++ take n (string_bytes p.out),
        Appends-trans before a b k.written (take n (string_bytes p.out)) k.appended h,
        begins_some (RepliesOn answers first) (cut read).whole (cut (read ++ bytes)).whole k.written (string_bytes p.out) n (whole_more read bytes) (s, k.replies),
      )

      module _ (t : S) (q : Transit) (f : Answered answers s p t q) where
        -- the last line is answered, and all that waits is written
        pub ended_written : Appends a b (string_bytes q.out) → (first : S) (before : Option (List ℕ)) (read : List ℕ) → SoFar answers first s p before a read → Writes (Replies answers first t) before b (lines_of read)
        ended_written h first before read k =
            (k.written ++ string_bytes q.out, Appends-trans before a b k.written (string_bytes q.out) k.appended h, all_lines t q f first before read k)

        -- the same, but only some of it
        pub ended_partly : (n : ℕ) → Appends a b (take n (string_bytes q.out)) → (first : S) (before : Option (List ℕ)) (read : List ℕ) → SoFar answers first s p before a read → Writes (Begins (RepliesOn answers first)) before b (lines_of read)
        ended_partly n h first before read k = (
          k.written ++ take n (string_bytes q.out),
          Appends-trans before a b k.written (take n (string_bytes q.out)) k.appended h,
          begins_some (RepliesOn answers first) (lines_of read) (lines_of read) k.written (string_bytes q.out) n ([], append-nil (lines_of read)) (t, all_lines t q f first before read k),
        )

    -- nothing more is written
    pub breaks_none : (bytes : List ℕ) → Breaks answers s p a a bytes
    breaks_none bytes = breaks_written a 0 bytes (Appends-nil a)

    module _ (t : S) (q : Transit) (b : Option (List ℕ)) (xs : List ℕ) (f : Further answers s p a t q b xs) where
      pub further_then : (u : S) (r : Transit) (c : Option (List ℕ)) (ys : List ℕ) → Further answers t q b u r c ys → Further answers s p a u r c (xs ++ ys)
      further_then u r c ys g first before read k = subst (SoFar answers first u r before c) (append_assoc read xs ys) (g first before (read ++ xs) (f first before read k))

      pub breaks_then : (c : Option (List ℕ)) (ys : List ℕ) → Breaks answers t q b c ys → Breaks answers s p a c (xs ++ ys)
      breaks_then c ys g first before read k =
          subst (λ bytes. Writes (Begins (RepliesOn answers first)) before c (cut bytes).whole) (append_assoc read xs ys) (g first before (read ++ xs) (f first before read k))

    breaks_more : (c : Option (List ℕ)) (xs ys : List ℕ) → Breaks answers s p a c xs → Breaks answers s p a c (xs ++ ys)
    breaks_more c xs ys f first before read k =
        let w = f first before read k in (
          w.0,
          w.1,
          subst (λ bytes. Begins (RepliesOn answers first) (cut bytes).whole w.0) (append_assoc read xs ys) (begins_more (RepliesOn answers first) (cut (read ++ xs)).whole (cut ((read ++ xs) ++ ys)).whole w.0 (whole_more (read ++ xs) ys) w.2),
        )

    module _ (part : List ℕ) (i : ℕ) (t : S) (q : Transit) (b : Option (List ℕ)) (f : Further answers s p a t q b (take i part)) where
      -- one byte more of a part
      pub further_in : i < length part → (u : S) (r : Transit) (c : Option (List ℕ)) → Further answers t q b u r c (get_or part i 0 ∷ []) → Further answers s p a u r c (take (i + 1) part)
      further_in h u r c g = subst (Further answers s p a u r c) (up_to part i h) (further_then t q b (take i part) f u r c (get_or part i 0 ∷ []) g)

      pub breaks_in : i < length part → (c : Option (List ℕ)) → Breaks answers t q b c (get_or part i 0 ∷ []) → Breaks answers s p a c part
      breaks_in h c g =
          subst (Breaks answers s p a c) (take-append-drop (i + 1) part)
          (breaks_more c (take (i + 1) part) (drop (i + 1) part) (subst (Breaks answers s p a c) (up_to part i h) (breaks_then t q b (take i part) f c (get_or part i 0 ∷ []) g)))

      -- all of a part
      pub further_all : length part ≤ i → (u : S) (r : Transit) (c : Option (List ℕ)) → Further answers t q b u r c [] → Further answers s p a u r c part
      further_all h u r c g = subst (Further answers s p a u r c) (append-nil (take i part) ∙ take_all i part h) (further_then t q b (take i part) f u r c [] g)

      pub breaks_all : length part ≤ i → (c : Option (List ℕ)) → Breaks answers t q b c [] → Breaks answers s p a c part
      breaks_all h c g = subst (Breaks answers s p a c) (append-nil (take i part) ∙ take_all i part h) (breaks_then t q b (take i part) f c [] g)

  -- a run begins
  pub under_way_new : (s : S) (p : Transit) (unread before : Option (List ℕ)) → Gathers p.line [] → string_bytes p.out ≡ [] → UnderWay answers s s p unread unread before before
  under_way_new s p unread before g none = record {
    read = [];
    consumed = Consumes-nil unread;
    so_far = record { written = []; appended = Appends-nil before; replies = (none, refl); gathers = g };
    empty = none;
  }

  module _ (first s : S) (p : Transit) (unread left before now : Option (List ℕ)) (run : UnderWay answers first s p unread left before now) where
    module _ (bytes : List ℕ) (left' now' : Option (List ℕ)) (taken : Consumes left left' bytes) where
      -- these bytes more are read and answered
      pub under_way_on : (t : S) (q : Transit) → Further answers s p now t q now' bytes → string_bytes q.out ≡ [] → UnderWay answers first t q unread left' before now'
      under_way_on t q f none = record {
        read = run.read ++ bytes;
        consumed = Consumes-trans unread left left' run.read bytes run.consumed taken;
        so_far = f first before run.read run.so_far;
        empty = none;
      }

      -- these bytes more are read, and an answer to them fails
      pub ran_broken : (t : S) (why : Error) → Breaks answers s p now now' bytes → SessionRan answers first t (Err (Output why)) unread left' before now'
      ran_broken t why f = record {
        read = run.read ++ bytes;
        consumed = Consumes-trans unread left left' run.read bytes run.consumed taken;
        ends = inl (f first before run.read run.so_far);
      }

    -- the input fails
    pub ran_stopped : (why : Error) → SessionRan answers first s (Err (Input why)) unread left before now
    ran_stopped why = record {
      read = run.read;
      consumed = run.consumed;
      ends = (run.so_far.written, run.so_far.appended, subst (Replies answers first s (cut run.read).whole) (ap (λ o. run.so_far.written ++ o) run.empty ∙ append-nil run.so_far.written) run.so_far.replies);
    }

    module _ (t : S) (now' : Option (List ℕ)) (ended : IsAtEnd left) where
      -- the input is at its end, and its last line is answered
      pub ran_all : ((first : S) (before : Option (List ℕ)) (read : List ℕ) → SoFar answers first s p before now read → Writes (Replies answers first t) before now' (lines_of read)) → SessionRan answers first t (Ok tt) unread left before now'
      ran_all f = record { read = run.read; consumed = run.consumed; ends = (ended, f first before run.read run.so_far) }

      -- the same, but the last answer fails
      pub ran_last_broken : (why : Error) → ((first : S) (before : Option (List ℕ)) (read : List ℕ) → SoFar answers first s p before now read → Writes (Begins (RepliesOn answers first)) before now' (lines_of read)) → SessionRan answers first t (Err (Output why)) unread left before now'
      ran_last_broken why f = record { read = run.read; consumed = run.consumed; ends = inr (ended, f first before run.read run.so_far) }
