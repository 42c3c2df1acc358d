-- Lines and replies, one byte or one line further on. Assumes nothing.
use Rattle.std.proofs.Common.{◌≡◌, ℕ, Bool, true, false, cond, List, [], ◌∷◌, ◌++◌, ◌==◌, take, drop, sym, refl, ap, ◌∙◌, subst, append_assoc, append-nil}
use Rattle.std.proofs.lemmas.List.{take-append-drop}
use Rattle.console.specs.Commands.{Order}
use Rattle.console.specs.Cuts.{Cut, cut_in_line, cut_after, cut, lines_of}
use Rattle.console.specs.Replies.{order_in, Replies, IsFrontOf}
use Rattle.console.specs.Runs.{Begins}

pub front_same : {A : Type 0} (xs ys : List A) → xs ≡ ys → IsFrontOf xs ys
front_same xs ys e = ([], append-nil xs ∙ e)

pub front_trans : {A : Type 0} (xs ys zs : List A) → IsFrontOf xs ys → IsFrontOf ys zs → IsFrontOf xs zs
front_trans xs ys zs p q = (p.0 ++ q.0, sym (append_assoc xs p.0 q.0) ∙ ap (λ t. t ++ q.0) p.1 ∙ q.1)

-- one byte more, at the end
abbrev pub after : ℕ → Cut → Cut
after b c = cond (b == 10) (record { whole = c.whole ++ c.rest ∷ []; rest = [] }) (record { whole = c.whole; rest = c.rest ++ b ∷ [] })

-- the front and the end of a cut do not meet
apart : (p q : Bool) (a b : ℕ) (lines : List (List ℕ)) (rest : List ℕ) →
    (let front : Cut → Cut = λ c. cond p (record { whole = [] ∷ c.whole; rest = c.rest }) (cut_in_line a c.whole c.rest) in
    let back : Cut → Cut = λ c. cond q (record { whole = c.whole ++ c.rest ∷ []; rest = [] }) (record { whole = c.whole; rest = c.rest ++ b ∷ [] }) in
    front (back (record { whole = lines; rest = rest })) ≡ back (front (record { whole = lines; rest = rest })))
apart true true a b lines rest = refl
apart true false a b lines rest = refl
apart false true a b [] rest = refl
apart false true a b (line ∷ lines) rest = refl
apart false false a b [] rest = refl
apart false false a b (line ∷ lines) rest = refl

pub cut_more : (bytes : List ℕ) (b : ℕ) → cut (bytes ++ b ∷ []) ≡ after b (cut bytes)
cut_more [] b = go (b == 10)
  where
    go : (p : Bool) → cond p (record { whole = [] ∷ []; rest = [] }) (cut_in_line b [] []) ≡ cond p (record { whole = [] ∷ []; rest = [] }) (record { whole = []; rest = b ∷ [] })
    go true = refl
    go false = refl
cut_more (a ∷ bytes) b = ap (cut_after a) (cut_more bytes b) ∙ apart (a == 10) (b == 10) a b (cut bytes).whole (cut bytes).rest

pub cut_line : (bytes : List ℕ) (b : ℕ) → b ≡ 10 → cut (bytes ++ b ∷ []) ≡ record { whole = lines_of bytes; rest = [] }
cut_line bytes b e = cut_more bytes b ∙ ap (λ n. cond (n == 10) (record { whole = lines_of bytes; rest = [] }) (record { whole = (cut bytes).whole; rest = (cut bytes).rest ++ b ∷ [] })) e

pub cut_byte : (bytes : List ℕ) (b : ℕ) → (b == 10) ≡ false → cut (bytes ++ b ∷ []) ≡ record { whole = (cut bytes).whole; rest = (cut bytes).rest ++ b ∷ [] }
cut_byte bytes b e = cut_more bytes b ∙ ap (λ p. cond p (record { whole = lines_of bytes; rest = [] }) (record { whole = (cut bytes).whole; rest = (cut bytes).rest ++ b ∷ [] })) e

-- the whole lines of more bytes begin with those of fewer
pub whole_lines : (xs : List ℕ) → IsFrontOf (cut xs).whole (lines_of xs)
whole_lines xs = ((cut xs).rest ∷ [], refl)

pub whole_byte : (xs : List ℕ) (b : ℕ) → IsFrontOf (cut xs).whole (cut (xs ++ b ∷ [])).whole
whole_byte xs b = subst (λ (c : Cut). IsFrontOf (cut xs).whole c.whole) (sym (cut_more xs b)) (go (b == 10))
  where
    go : (p : Bool) → IsFrontOf (cut xs).whole (let c : Cut = cond p (record { whole = lines_of xs; rest = [] }) (record { whole = (cut xs).whole; rest = (cut xs).rest ++ b ∷ [] }) in c.whole)
    go true = whole_lines xs
    go false = front_same (cut xs).whole (cut xs).whole refl

pub whole_more : (xs ys : List ℕ) → IsFrontOf (cut xs).whole (cut (xs ++ ys)).whole
whole_more xs [] = front_same (cut xs).whole (cut (xs ++ [])).whole (ap (λ zs. (cut zs).whole) (sym (append-nil xs)))
whole_more xs (b ∷ ys) =
    front_trans (cut xs).whole (cut (xs ++ b ∷ [])).whole (cut (xs ++ b ∷ ys)).whole (whole_byte xs b)
    (subst (λ (zs : List ℕ). IsFrontOf (cut (xs ++ b ∷ [])).whole (cut zs).whole) (append_assoc xs (b ∷ []) ys) (whole_more (xs ++ b ∷ []) ys))

pub whole_in : (xs ys : List ℕ) → IsFrontOf (cut xs).whole (lines_of (xs ++ ys))
whole_in xs ys = front_trans (cut xs).whole (cut (xs ++ ys)).whole (lines_of (xs ++ ys)) (whole_more xs ys) (whole_lines (xs ++ ys))

module _ (answer : List (List ℕ) → List ℕ → Type 0) where
  -- more lines than those that were answered
  pub begins_more : (xs ys : List (List ℕ)) (written : List ℕ) → IsFrontOf xs ys → Begins answer xs written → Begins answer ys written
  begins_more xs ys written f k =
      record { answered = k.answered; bytes = k.bytes; first_lines = front_trans k.answered xs ys k.first_lines f; answers = k.answers; front = k.front }

  -- what answers lines, up to some byte
  pub begins_some : (xs ys : List (List ℕ)) (written out : List ℕ) (n : ℕ) → IsFrontOf xs ys → answer xs (written ++ out) → Begins answer ys (written ++ take n out)
  begins_some xs ys written out n f a = record {
    answered = xs;
    bytes = written ++ out;
    first_lines = f;
    answers = a;
    front = (drop n out, append_assoc written (take n out) (drop n out) ∙ ap (λ o. written ++ o) (take-append-drop n out));
  }

  pub begins_all : (xs : List (List ℕ)) (bytes : List ℕ) → answer xs bytes → Begins answer xs bytes
  begins_all xs bytes a = record { answered = xs; bytes = bytes; first_lines = ([], append-nil xs); answers = a; front = ([], append-nil bytes) }

module _ {S : Type 0} (answers : S → Order → List ℕ → S → Type 0) where
  -- one line more is answered
  pub replies_more : (s t u : S) (lines : List (List ℕ)) (line bytes text : List ℕ) → Replies answers s t lines bytes → answers t (order_in line) text u → Replies answers s u (lines ++ line ∷ []) (bytes ++ text)
  replies_more s t u [] line bytes text h a =
      (text, [], u, subst (λ (x : S). answers x (order_in line) text u) h.1 a, (refl, refl), ap (λ b. b ++ text) h.0 ∙ sym (append-nil text))
  replies_more s t u (l ∷ lines) line bytes text h a =
      (h.0, h.1 ++ text, h.2, h.3, replies_more h.2 t u lines line h.1 text h.4 a, ap (λ b. b ++ text) h.5 ∙ append_assoc h.0 h.1 text)
