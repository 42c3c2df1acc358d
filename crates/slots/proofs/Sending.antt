-- What is told, written part by part. Assumes nothing.
use Rattle.std.proofs.Common.{◌≡◌, ℕ, List, [], ◌++◌, length, take, drop, Option, sym, ap, ◌∙◌, subst, append_assoc}
use Rattle.std.proofs.lemmas.List.{take-append-drop}
use Rattle.std.proofs.Math.Seq.{take-append_seam}
use Rattle.std.proofs.KnownBytes.{Appends-trans, Appends-nil}
use Rattle.std.specs.Io.KnownBytes.{Appends}
use Rattle.slots.specs.Checks.{Sends}

module _ (a b : Option (List ℕ)) (waits text : List ℕ) (s : Sends a b waits text) where
  -- more is spelled
  pub sends_spelled : (now more : List ℕ) → now ≡ waits ++ more → Sends a b now (text ++ more)
  sends_spelled now more e = (s.0, s.1, ap (λ t. s.0 ++ t) e ∙ sym (append_assoc s.0 waits more) ∙ ap (λ t. t ++ more) s.2)

  module _ (c : Option (List ℕ)) where
    -- some of what waits is written
    pub sends_on : (later : List ℕ) → Sends b c later waits → Sends a c later text
    sends_on later u = (s.0 ++ u.0, Appends-trans a b c s.0 u.0 s.1 u.1, append_assoc s.0 u.0 later ∙ ap (λ t. s.0 ++ t) u.2 ∙ s.2)

    -- all of it is written
    pub sends_all : Appends b c waits → Appends a c text
    sends_all h = subst (Appends a c) s.2 (Appends-trans a b c s.0 waits s.1 h)

    -- a front of it is written, and this is a front of the whole
    pub sends_front : (n : ℕ) → Appends b c (take n waits) → (rest whole : List ℕ) → text ++ rest ≡ whole → (m : ℕ) × Appends a c (take m whole)
    sends_front n h rest whole e =
        let first : List ℕ = s.0 ++ take n waits in
        let more : List ℕ = drop n waits ++ rest in
        let parts : first ++ more ≡ whole =
        append_assoc s.0 (take n waits) more
        ∙ ap (λ t. s.0 ++ t) (sym (append_assoc (take n waits) (drop n waits) rest) ∙ ap (λ t. t ++ rest) (take-append-drop n waits))
        ∙ sym (append_assoc s.0 waits rest)
        ∙ ap (λ t. t ++ rest) s.2
        ∙ e in
        let front : first ≡ take (length first) whole = sym (take-append_seam first more) ∙ ap (take (length first)) parts in
        (length first, subst (Appends a c) front (Appends-trans a b c s.0 (take n waits) s.1 h))

  -- what was written is a front of the whole
  pub sends_begun : (rest whole : List ℕ) → text ++ rest ≡ whole → (m : ℕ) × Appends a b (take m whole)
  sends_begun rest whole e = sends_front b 0 (Appends-nil b) rest whole e
