-- A text's tokens, computed, and its reading from a derivation over them. Assumes nothing.
--
--   on_from rest p s   the token of the scan s at the place p, and then the rest
--   tokens n bs p      the n tokens of bs from the place p on, fewer where one is at fault, and the place after them
use Rattle.std.proofs.Common.{◌≡◌, ℕ, zero, suc, ◌+◌, ◌<◌, ◌≤◌, T, leb, List, [], ◌∷◌, length, refl, arith, leb→le}
use Rattle.query.specs.Expressions.{Expr}
use Rattle.query.specs.Grammar.{Question}
use Rattle.query.specs.Limits.{open_max}
use Rattle.query.specs.Outcomes.{Reads, weigh, count, close_one, open_by, Enters, Shallow}
use Rattle.query.specs.Scanning.{Scan, token, fault, scan, Lexes, none, more}
use Rattle.query.specs.Terminals.{Bracket, Terminal, operand, operator, opens, closes, ends, Placed}

abbrev pub on_from : (ℕ → List Placed × ℕ) → ℕ → Scan → List Placed × ℕ
on_from rest p (token w at after) = ((w, at) ∷ (rest after).0, (rest after).1)
on_from rest p (fault f) = ([], p)

abbrev pub tokens : ℕ → List ℕ → ℕ → List Placed × ℕ
tokens zero bs p = ([], p)
tokens (suc n) bs p = on_from (tokens n bs) p (scan bs p)

lexes_on : (bs : List ℕ) (rest : ℕ → List Placed × ℕ) → ((q : ℕ) → Lexes bs q (rest q).0 (rest q).1) → (p : ℕ) (s : Scan) → scan bs p ≡ s → Lexes bs p (on_from rest p s).0 (on_from rest p s).1
lexes_on bs rest lexed p (token w at after) is = more w at is (lexed after)
lexes_on bs rest lexed p (fault f) is = none

lexes : (n : ℕ) (bs : List ℕ) (p : ℕ) → Lexes bs p (tokens n bs p).0 (tokens n bs p).1
lexes zero bs p = none
lexes (suc n) bs p = lexes_on bs (tokens n bs) (lexes n bs) p (scan bs p) refl

-- a token adds one leaf and one open bracket at most
close_short : (os : List Bracket) → length (close_one os) ≤ length os + 1
close_short [] = omega arith
close_short (b ∷ os) = omega arith

light : (w : Terminal) (os : List Bracket) → length os < open_max → (weigh w ≤ 1) × (length (open_by w os) ≤ length os + 1) × Enters w os
light (operand l) os h = (omega arith, omega arith, tt)
light (operator o) os h = (omega arith, omega arith, tt)
light (opens b) os h = (omega arith, omega arith, h)
light closes os h = (omega arith, close_short os, tt)
light ends os h = (omega arith, omega arith, tt)

-- so a few tokens keep the limits
few_leaves : (ts : List Placed) → count ts ≤ length ts
few_leaves [] = omega arith
few_leaves (t ∷ ts) = omega (arith, (light t.0 [] (omega arith)).0, few_leaves ts)

few_open : (ts : List Placed) (os : List Bracket) → length os + length ts ≤ open_max → Shallow ts os
few_open [] os h = tt
few_open (t ∷ ts) os h =
    let l = light t.0 os (omega arith) in
    (l.2, few_open ts (open_by t.0 os) (omega (arith, l.1)))

-- where the first n tokens are the whole text, and a question that says e
pub reads_by : (n : ℕ) (bs : List ℕ) {e : Expr} → Question (tokens n bs 0).0 e → scan bs (tokens n bs 0).1 ≡ token ends (length bs) (length bs) → T (leb (length (tokens n bs 0).0) open_max) → Reads bs e
reads_by n bs parsed ended few =
    let h : length (tokens n bs 0).0 ≤ open_max = leb→le _ _ few in
    record {
      tokens = _;
      stop = _;
      at = _;
      after = _;
      lexed = lexes n bs 0;
      ended = ended;
      parsed = parsed;
      few = omega (arith, h, few_leaves (tokens n bs 0).0);
      shallow = few_open (tokens n bs 0).0 [] (omega (arith, h));
    }
