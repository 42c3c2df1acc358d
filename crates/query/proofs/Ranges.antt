-- Each leaf of a query that is read is in range. Assumes nothing.
use Rattle.std.proofs.Common.{◌≡◌, ℕ, ◌+◌, Bool, true, cond, eqb, leb, List, [], ◌∷◌, length, drop, Option, Result, slice_index, sym, refl, ap, ◌∙◌, arith}
use Rattle.std.specs.List.{list_all, prefix_len}
use Rattle.std.specs.Str.Parse.{digits_value}
use Rattle.std.specs.Cmp.Derive.{both_true}
use Rattle.std.proofs.Math.Bool.{and-true}
use Rattle.std.proofs.lemmas.Bool.{cond_both, le-leb}
use Rattle.std.proofs.lemmas.List.Folds.{length-prefix_len, list_all-append}
use Rattle.names.specs.Names.{name_byte, is_name}
use Rattle.extents.specs.declared.operator.Operator.{Operator}
use Rattle.query.specs.declared.fault.TokenFault.{TokenFault}
use Rattle.query.specs.Limits.{name_max, windows_max, runs_max}
use Rattle.query.specs.Leaves.{Leaf, windows, runs, in_range}
use Rattle.query.specs.Terminals.{Terminal, operand, operator, opens, closes, ends, Placed}
use Rattle.query.specs.Expressions.{Expr, all_in_range}
use Rattle.query.specs.Grammar.{Question, alone, joined, Term, single, bracket}
use Rattle.query.specs.Scanning.{Scan, token, fault, digit, digits_of, name_at, amount_at, amount_scan, negation, negation_scan, scan_at, scan, past_spaces, Lexes, none, more}
use Rattle.query.specs.Outcomes.{Reads}
use Rattle.query.proofs.Runs.{run_all}

-- a token, and what is scanned, with its leaf in range where it is one
abbrev fits : Terminal → Bool
fits (operand l) = in_range l
fits (operator o) = true
fits (opens b) = true
fits closes = true
fits ends = true

abbrev fit : Placed → Bool
fit t = fits t.0

abbrev scan_fits : Scan → Bool
scan_fits (token w at after) = fits w
scan_fits (fault f) = true

-- a test for what begins with a byte
either : (b : Bool) (x y : Scan) → (b ≡ true → scan_fits x ≡ true) → scan_fits y ≡ true → scan_fits (cond b x y) ≡ true
either b x y f g = cond_both b x y (λ s. scan_fits s ≡ true) f (λ h. g)

-- each kind of token, by what it begins with

name_fits : (b : ℕ) (bs : List ℕ) (at : ℕ) → name_byte b ≡ true → scan_fits (name_at (b ∷ bs) at) ≡ true
unfolding is_name
name_fits b bs at is =
    let run = prefix_len name_byte (b ∷ bs) in
    let some : leb 1 run ≡ true = rw is (le-leb 1 (1 + prefix_len name_byte bs) (omega arith)) in
    either (leb run name_max) _ _ (λ h. rw (length-prefix_len name_byte (b ∷ bs)) (both_true some (both_true h (run_all name_byte (b ∷ bs))))) refl

amount_fits : (w : ℕ → Leaf) (limit : ℕ) → ((n : ℕ) → leb n limit ≡ true → in_range (w n) ≡ true) → (bs : List ℕ) (at : ℕ) → scan_fits (amount_scan w at (amount_at limit bs at)) ≡ true
amount_fits w limit within bs at =
    let Fine : Result (ℕ × ℕ) TokenFault → Type 0 = λ r. scan_fits (amount_scan w at r) ≡ true in
    cond_both (eqb (prefix_len digit (drop 1 bs)) 0) _ _ Fine (λ h. refl) (λ h. cond_both (leb (digits_value 10 (digits_of bs)) limit) _ _ Fine (λ k. within _ k) (λ k. refl))

negation_fits : (bs : List ℕ) (at : ℕ) → scan_fits (negation_scan at (negation bs)) ≡ true
negation_fits bs at =
    let Fine : Option Operator → Type 0 = λ o. scan_fits (negation_scan at o) ≡ true in
    cond_both (eqb (slice_index bs 1) 60) _ _ Fine (λ h. refl) (λ h. cond_both (eqb (slice_index bs 1) 62) _ _ Fine (λ k. refl) (λ k. refl))

at_fits : (bs : List ℕ) (at : ℕ) → scan_fits (scan_at bs at) ≡ true
at_fits [] at = refl
at_fits (b ∷ bs) at =
    let one : (c : ℕ) (x y : Scan) → scan_fits x ≡ true → scan_fits y ≡ true → scan_fits (cond (eqb b c) x y) ≡ true = λ c x y f. either (eqb b c) x y (λ h. f) in
    either (eqb (length (b ∷ bs)) 0) _ _ (λ h. refl) (one 40 _ _ refl (one 41 _ _ refl (one 60 _ _ refl (one 62 _ _ refl (one 38 _ _ refl (one 124 _ _ refl (one 59 _ _ refl
    (one 33 _ _ (negation_fits (b ∷ bs) at)
    (one 35 _ _ (amount_fits windows windows_max (λ n h. h) (b ∷ bs) at)
    (one 64 _ _ (amount_fits runs runs_max (λ n h. h) (b ∷ bs) at)
    (either (name_byte b) _ _ (name_fits b bs at) refl)))))))))))

lexes_fit : {bs : List ℕ} {p q : ℕ} {ts : List Placed} → Lexes bs p ts q → list_all fit ts ≡ true
unfolding scan
lexes_fit none = refl
lexes_fit {bs} (more {p = p} w at met l) =
    both_true (ap scan_fits (sym met) ∙ at_fits (drop (past_spaces bs p) bs) (past_spaces bs p)) (lexes_fit l)

-- a question's leaves are those among its tokens
mutual
  question_fits : {ts : List Placed} {e : Expr} → Question ts e → list_all fit ts ≡ all_in_range e
  question_fits (alone t) = term_fits t
  question_fits (joined {ts = ts} {us = us} o at q t) = rw (list_all-append fit ts ((operator o, at) ∷ us), question_fits q, term_fits t) refl

  term_fits : {ts : List Placed} {e : Expr} → Term ts e → list_all fit ts ≡ all_in_range e
  term_fits (single l at) = and-true (in_range l)
  term_fits (bracket {ts = ts} a b q) = list_all-append fit ts ((closes, b) ∷ []) ∙ and-true (list_all fit ts) ∙ question_fits q

pub reads_ranged : {bs : List ℕ} {e : Expr} → Reads bs e → all_in_range e ≡ true
reads_ranged x = sym (question_fits x.parsed) ∙ lexes_fit x.lexed
