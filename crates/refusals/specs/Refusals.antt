-- The text of a refusal, and what a call's answer is told as. Assumes nothing.
--
--   refused n      the text of the refusal with the number n
--   refused_at n p that of one of the token at the place p
--   text_of r      the text of a refusal, with its place if it has one
--   plain n, at_place n p  the refusal with the number n, and that of the token at p
--   refusal_in f r  what a call that answers r is told as, where f tells its refusals: nothing where it did what it was asked
use Rattle.std.specs.Prelude.{ℕ, List, ◌++◌, Option, Some, None, Result, Ok, Err, codes, decimal}
use Rattle.refusals.specs.declared.Refusal.{Refusal}

abbrev pub refused : ℕ → List ℕ
refused n = codes "refused " ++ decimal n

abbrev pub refused_at : ℕ → ℕ → List ℕ
refused_at n p = codes "refused " ++ decimal n ++ codes " at " ++ decimal p

abbrev pub text_with : ℕ → Option ℕ → List ℕ
text_with n None = refused n
text_with n (Some p) = refused_at n p

abbrev pub text_of : Refusal → List ℕ
text_of r = text_with r.number r.place

abbrev pub plain : ℕ → Refusal
plain n = record { number = n; place = None }

abbrev pub at_place : ℕ → ℕ → Refusal
at_place n p = record { number = n; place = Some p }

abbrev pub refusal_in : {A E : Type 0} → (E → Refusal) → Result A E → Option Refusal
refusal_in f (Ok a) = None
refusal_in f (Err e) = Some (f e)
