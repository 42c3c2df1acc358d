-- The index of a shift, and what is told of it. Assumes nothing.
use Rattle.std.proofs.Common.{◌≡◌, ℕ, List, [], ◌++◌, inl, inr, take, drop, Option, Result, Ok, Err, sym, refl, ◌∙◌, subst, ap, append_assoc, append-nil}
use Rattle.std.proofs.lemmas.List.{take-append-drop}
use Rattle.std.specs.Io.KnownBytes.{Appends, Keeps}
use Rattle.std.specs.declared.io.Error.{Error}
use Rattle.std.proofs.KnownBytes.{Appends-nil}
use Rattle.console.specs.Commands.{Order, enters, asks, reports, nothing}
use Rattle.console.specs.declared.stop.Stop.{Stop}
use Rattle.console.specs.declared.stop.Stop.TheVariants.{Input, Output}
use Rattle.console.specs.Runs.{Begins, Ran, SessionRan}
use Rattle.console.specs.Spoken.{Reaches}
use Rattle.console.proofs.Laws.{begins_all}
use Rattle.console.proofs.Ran.{run_of, ran_done, ran_more, ran_more_broken, ran_failed, begins_as}
use Rattle.console.proofs.Spoken.{reached_ran, spoken_run, spoken_once}
use Rattle.postings.specs.Lists.{PostingLists}
use Rattle.shift_logbook.specs.Books.{lists_of}
use Rattle.shift_logbook.specs.Ledger.{Entry}
use Rattle.entering.specs.Entries.{ledger_then, Entering}
use Rattle.index.specs.Sealing.{Bytes}
use Rattle.seal.specs.declared.shift.Shift.{Shift}
use Rattle.seal.specs.Shifts.{StandsFor, ShiftAnswers, Messages, IsIndexOf, sealed_text, Holds, Sealed, Untold, Ended, Begun, SealedRun, Stays}

told_once : (l : List Entry) (o : Order) (a b : List ℕ) → Entering l o a → Entering l o b → a ≡ b
told_once l (enters name slot) a b p q = p ∙ sym q
told_once l (asks text) a b p q = p ∙ sym q
told_once l reports a b p q = p ∙ sym q
told_once l nothing a b p q = p ∙ sym q

pub messages_once : (lines : List (List ℕ)) (a b : List ℕ) → Messages lines a → Messages lines b → a ≡ b
messages_once lines a b = spoken_once Entering ledger_then told_once [] lines a b

pub sealed_once : (p q : Option (List ℕ)) (lines : List (List ℕ)) (a b : List ℕ) → Sealed p lines a → Sealed q lines b → a ≡ b
sealed_once p q lines a b s t =
    s.told
    ∙ ap (λ m. m ++ sealed_text s.index) (messages_once lines s.messages t.messages s.answered t.answered)
    ∙ ap (λ x. t.messages ++ sealed_text x) (t.is_index.alone s.index s.is_index.bytes s.is_index.obeys s.is_index.means)
    ∙ sym t.told

-- what a call says of bytes holds of the slice that shows them
pub shown_index : (p : PostingLists) (index shown : List ℕ) → shown ≡ index → (Bytes index → IsIndexOf p index) → Bytes shown → IsIndexOf p shown
shown_index p index shown same is_index bytes = subst (IsIndexOf p) (sym same) (is_index (subst Bytes same bytes))

module _ (place : Option (List ℕ)) where
  begun : (lines : List (List ℕ)) (bytes : List ℕ) → Messages lines bytes → Begins (Begun place) lines bytes
  begun lines bytes m = begins_all (Begun place) lines bytes (inl m)

  ended_begun : (result : Result (Result (Unit {0}) Error) Stop) (lines : List (List ℕ)) (bytes : List ℕ) → Ended result place lines bytes → Begins (Begun place) lines bytes
  ended_begun (Ok (Ok _)) lines bytes e = begins_all (Begun place) lines bytes (inr e)
  ended_begun (Ok (Err _)) lines bytes e = begun lines bytes e
  ended_begun (Err _) lines bytes e = begun lines bytes e

  run_of_ran : (result : Result (Result (Unit {0}) Error) Stop) (unread left before now : Option (List ℕ)) → Ran (Ended result place) Messages (Begun place) result unread left before now → SealedRun place result unread left before now
  run_of_ran result unread left before now r = run_of (Ended result place) Messages (Begun place) before now (ended_begun result) begun result unread left r

  module _ (first : Shift) (new : StandsFor first []) (c : Shift) (unread left before mid : Option (List ℕ)) where
    -- these bytes answer lines, and the shift then stands for their entries
    abbrev Reached : List (List ℕ) → List ℕ → Type 0
    Reached = Reaches StandsFor Entering ledger_then [] c

    reached : (result : Result (Unit {0}) Stop) → SessionRan ShiftAnswers first c result unread left before mid → Ran Reached Reached Messages result unread left before mid
    reached result r = reached_ran Entering ledger_then StandsFor first c [] new unread left before mid result r

    pub run_failed : (why : Stop) → SessionRan ShiftAnswers first c (Err why) unread left before mid → SealedRun place (Err why) unread left before mid
    run_failed why r =
        run_of_ran (Err why) unread left before mid
        (ran_failed Reached Reached Messages (Ended (Err why) place) Messages (Begun place) unread left before mid why (λ lines bytes k. k.0) (begins_as Messages (Begun place) (λ lines bytes m. inl m)) (reached (Err why) r))

    -- the place is not touched
    pub stays_failed : (old : Option (List ℕ)) (why : Stop) → Keeps old place → SessionRan ShiftAnswers first c (Err why) unread left before mid → Stays (Err why) old place unread left before mid
    stays_failed old (Input why) keeps r = keeps
    stays_failed old (Output why) keeps r =
        inl (keeps, spoken_run Entering ledger_then StandsFor first c [] new unread left before mid (Err (Output why)) r)

    module _ (r : SessionRan ShiftAnswers first c (Ok tt) unread left before mid) where
      -- there is no memory for the index
      pub not_sealed : (why : Error) → SealedRun place (Err (Output why)) unread left before mid
      not_sealed why =
          run_of_ran (Err (Output why)) unread left before mid
          (ran_more_broken Reached Reached Messages (Ended (Err (Output why)) place) Messages (Begun place) unread left before mid mid [] (tt {0}) (reached (Ok tt) r) why 0 (Appends-nil mid)
          (λ k. inl (subst (Messages _) (sym (append-nil _)) k.0)))

      pub stays_unsealed : (old : Option (List ℕ)) (why : Error) → Keeps old place → Stays (Err (Output why)) old place unread left before mid
      stays_unsealed old why keeps =
          let answer = Messages in
          inl (
            keeps,
            run_of answer answer answer before mid (begins_all answer) (begins_all answer) (Err (Output why)) unread left
                (ran_more_broken Reached Reached Messages Messages Messages Messages unread left before mid mid [] (tt {0}) (reached (Ok tt) r) why 0 (Appends-nil mid)
                (λ k. subst (Messages _) (sym (append-nil _)) k.0)),
          )

      -- the place does not take it
      pub not_put : (why : Error) → SealedRun place (Ok (Err why)) unread left before mid
      not_put why =
          run_of_ran (Ok (Err why)) unread left before mid
          (ran_done Reached Reached Messages (Ended (Ok (Err why)) place) Messages (Begun place) unread left before mid (tt {0}) (Err why) (λ lines bytes k. k.0) (reached (Ok tt) r))

      module _ (index : List ℕ) (is_index : IsIndexOf (lists_of c.book) index) (holds : Holds place index) where
        sealed : (lines : List (List ℕ)) (messages : List ℕ) → Reached lines messages → Sealed place lines (messages ++ sealed_text index)
        sealed lines messages k =
            record { messages = messages; index = index; answered = k.0; is_index = subst (λ (p : PostingLists). IsIndexOf p index) k.1.lists is_index; holds = holds; told = refl }

        pub sealed_all : (now : Option (List ℕ)) → Appends mid now (sealed_text index) → SealedRun place (Ok (Ok tt)) unread left before now
        sealed_all now h =
            run_of_ran (Ok (Ok tt)) unread left before now
            (ran_more Reached Reached Messages (Ended (Ok (Ok tt)) place) Messages (Begun place) unread left before mid now (sealed_text index) (tt {0}) (reached (Ok tt) r) (Ok tt) h (sealed _ _))

        -- the last message fails
        pub sealed_some : (now : Option (List ℕ)) (why : Error) (n : ℕ) → Appends mid now (take n (sealed_text index)) → SealedRun place (Err (Output why)) unread left before now
        sealed_some now why n h =
            run_of_ran (Err (Output why)) unread left before now
            (ran_more_broken Reached Reached Messages (Ended (Err (Output why)) place) Messages (Begun place) unread left before mid now (sealed_text index) (tt {0}) (reached (Ok tt) r) why n h (λ k. inr (sealed _ _ k)))

        untold : (lines : List (List ℕ)) (messages : List ℕ) (n : ℕ) → Reached lines messages → Untold place lines (messages ++ take n (sealed_text index))
        unfolding sealed
        untold lines messages n k =
            let last = sealed_text index in
            record {
              whole = messages ++ last;
              sealed = sealed lines messages k;
              answered = (take n last, refl);
              front = (drop n last, append_assoc messages (take n last) (drop n last) ∙ ap (λ o. messages ++ o) (take-append-drop n last));
            }

        pub stays_untold : (old now : Option (List ℕ)) (why : Error) (n : ℕ) → Appends mid now (take n (sealed_text index)) → Stays (Err (Output why)) old place unread left before now
        stays_untold old now why n h =
            let answer = Untold place in
            inr (
            run_of answer answer answer before now (begins_all answer) (begins_all answer) (Ok tt) unread left
            (ran_more Reached Reached Messages answer answer answer unread left before mid now (take n (sealed_text index)) (tt {0}) (reached (Ok tt) r) (tt {0}) h (untold _ _ n))
            )
