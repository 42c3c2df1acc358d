-- How the parts of a reading join. Assumes nothing.
use Rattle.std.proofs.Common.{◌≡◌, ℕ, ◌+◌, ◌*◌, ◌<◌, ◌≤◌, List, [], ◌∷◌, ◌++◌, length, sym, refl, ap, ◌∙◌, subst, append_assoc, append-nil, arith}
use Rattle.std.proofs.lemmas.Bool.{cond-true, cond-false, lt-ltb, le-ltb}
use Rattle.extents.specs.declared.operator.Operator.{Operator}
use Rattle.query.specs.declared.fault.TokenFault.{TokenFault}
use Rattle.query.specs.declared.fault.ReadFault.{ReadFault}
use Rattle.query.specs.declared.fault.ReadFault.TheVariants.{Token, Unexpected, TooDeep, TooMany}
use Rattle.query.specs.declared.token.Located.{Located}
use Rattle.query.specs.declared.token.Token.{Token as Token·}
use Rattle.query.specs.declared.token.Token.TheVariants as code
use Rattle.query.specs.declared.reader.Reader.{Reader}
use Rattle.query.specs.Limits.{open_max, leaf_max}
use Rattle.query.specs.Leaves.{Leaf}
use Rattle.query.specs.Terminals.{Bracket, plain, Terminal, operand, operator, opens, closes, Placed}
use Rattle.query.specs.Expressions.{Expr, leaf, apply, take_leaf, apply_to, Step, postfix}
use Rattle.query.specs.Grammar.{Question, alone, joined, single, bracket}
use Rattle.query.specs.Scanning.{scan, token, fault}
use Rattle.query.specs.Queries.{steps_so_far}
use Rattle.query.specs.Machine.{State, before_term, after_term, on, stops, meet, turn, turn_by, Walks, here, step, Fails}
use Rattle.query.specs.Reading.{bytes, step_count, terminal, IsNoOperator, IsNoOperand, Stopped, ReadTerm, ReadQuestion, Taken}

pub walks_append : {bs : List ℕ} {p q e : ℕ} {s t u : State} {ts us : List Placed} → Walks bs p s ts q t → Walks bs q t us e u → Walks bs p s (ts ++ us) e u
walks_append here v = v
walks_append (step w at met way r) v = step w at met way (walks_append r v)

pub fails_after : {bs : List ℕ} {p q : ℕ} {s t : State} {ts : List Placed} {f : ReadFault} → Walks bs p s ts q t → Fails bs q t f → Fails bs p s f
fails_after w f = record { tokens = _; stop = f.stop; state = f.state; walked = walks_append w f.walked; halted = f.halted }

-- where the machine stops at once
fails_here : {bs : List ℕ} {p : ℕ} {s : State} {e : ReadFault} → turn bs p s ≡ stops e → Fails bs p s e
fails_here {p = p} {s = s} stop = record { tokens = []; stop = p; state = s; walked = here; halted = stop }

-- a token fault, where one is met
pub fails_token : {bs : List ℕ} {p : ℕ} {s : State} {e : ReadFault} {d : TokenFault} → e ≡ Token d → scan bs p ≡ fault d → Fails bs p s e
fails_token {s = s} is met = fails_here (ap (λ l. turn_by l s) met ∙ ap stops (sym is))

-- a token that is refused
pub fails_at : {bs : List ℕ} {p : ℕ} {s : State} {e : ReadFault} {w : Terminal} {at after : ℕ} → scan bs p ≡ token w at after → meet s w at after ≡ stops e → Fails bs p s e
fails_at {s = s} met no_way = fails_here (ap (λ l. turn_by l s) met ∙ no_way)

-- a token that is taken
pub walks_one : {bs : List ℕ} {p at after : ℕ} {s t : State} {w : Terminal} → scan bs p ≡ token w at after → meet s w at after ≡ on w at after t → Walks bs p s ((w, at) ∷ []) after t
walks_one met way = step _ _ met way here

taken_long : {r r' : Reader} {f : Located} → Taken r r' f → step_count r' ≡ step_count r
taken_long t = ap (λ q. q.len) t.steps

-- what is said of the reader after a token, said of the reader before it
pub at_taken : {r r' : Reader} {f : Located} (P : List ℕ → ℕ → ℕ → Type 0) → Taken r r' f → P (bytes r') r'.at r'.terms → P (bytes r) f.after r.terms
at_taken {r} {r'} {f} P t x =
    subst (λ b. P b f.after r.terms) t.same (subst (λ n. P (bytes r') f.after n) t.terms (subst (λ p. P (bytes r') p r'.terms) t.moved x))

-- a taken token, met
pub taken_is : {r r' : Reader} {f : Located} {w : Terminal} → Taken r r' f → terminal f.token ≡ w → scan (bytes r) r.at ≡ token w f.place f.after
taken_is {f = f} t e = t.is ∙ ap (λ w. token w f.place f.after) e

-- from r₀, after a term, by operators and terms to r: any question that ends at r₀ goes on to one that ends at r
pub record SoFar (r₀ r : Reader) (depth : ℕ) : Type 0 where
  pub same : bytes r ≡ bytes r₀
  pub within : r.at ≤ length (bytes r₀)
  pub further : r₀.at ≤ r.at
  pub few : r.terms ≤ leaf_max
  pub long : step_count r + 2 * r₀.terms ≡ step_count r₀ + 2 * r.terms
  pub tokens : List Placed
  pub suffix : List Step
  pub grow : Expr → Expr
  pub walked : (os : List Bracket) → length os ≡ depth → Walks (bytes r₀) r₀.at (after_term os r₀.terms) tokens r.at (after_term os r.terms)
  pub tail : (ts : List Placed) (e : Expr) → Question ts e → Question (ts ++ tokens) (grow e)
  pub post : (e : Expr) → postfix (grow e) ≡ postfix e ++ suffix
  pub adds : steps_so_far r.steps ≡ steps_so_far r₀.steps ++ suffix

pub sofar_none : (r : Reader) (depth : ℕ) → r.at ≤ length (bytes r) → r.terms ≤ leaf_max → SoFar r r depth
sofar_none r depth h k = record {
  same = refl;
  within = h;
  further = omega arith;
  few = k;
  long = refl;
  tokens = [];
  suffix = [];
  grow = λ e. e;
  walked = λ os is. here;
  tail = λ ts e q. rw append-nil q;
  post = λ e. sym (append-nil (postfix e));
  adds = sym (append-nil _);
}

-- in `question`: from `self` by a term to r₀, and by operators and terms to r
module _ {self r₀ r : Reader} {depth : ℕ} (first : ReadTerm self r₀ depth) (so : SoFar r₀ r depth) where
  so_walks : (os : List Bracket) → length os ≡ depth → Walks (bytes self) self.at (before_term os self.terms) (first.tokens ++ so.tokens) r.at (after_term os r.terms)
  so_walks os is = walks_append (first.walked os is) (subst (λ b. Walks b r₀.at (after_term os r₀.terms) so.tokens r.at (after_term os r.terms)) first.onward.same (so.walked os is))

  so_same : bytes r ≡ bytes self
  so_same = so.same ∙ first.onward.same

  pub so_fails : {e : ReadFault} → ((os : List Bracket) → length os ≡ depth → Fails (bytes r) r.at (after_term os r.terms) e) → Stopped self depth e
  so_fails {e} f os is = fails_after (so_walks os is) (subst (λ b. Fails b r.at (after_term os r.terms) e) so_same (f os is))

  module _ {r' : Reader} {found : Located} (t : Taken r r' found) where
    -- the question ends
    pub so_ends : IsNoOperator (terminal found.token) → ReadQuestion self r' depth found
    so_ends other = record {
      onward = record {
        same = t.same ∙ so_same;
        within = omega (arith, t.moved, t.within, ap length so_same);
        further = omega (arith, t.moved, t.further, so.further, first.onward.further);
        few = omega (arith, t.terms, so.few);
        long = omega (arith, t.terms, taken_long t, so.long, first.onward.long);
      };
      tokens = first.tokens ++ so.tokens;
      expr = so.grow first.expr;
      to = r.at;
      walked = λ os is. subst (λ n. Walks (bytes self) self.at (before_term os self.terms) (first.tokens ++ so.tokens) r.at (after_term os n)) (sym t.terms) (so_walks os is);
      parsed = so.tail _ _ (alone first.parsed);
      adds = ap steps_so_far t.steps ∙ so.adds ∙ ap (λ l. l ++ so.suffix) first.adds ∙ append_assoc (steps_so_far self.steps) (postfix first.expr) so.suffix ∙ ap (λ l. steps_so_far self.steps ++ l) (sym (so.post first.expr));
      next = ap (λ b. scan b r.at) (sym so_same) ∙ t.is;
      other = other;
      moved = t.moved;
    }

    module _ {op : Operator} (is : found.token ≡ code.Operator op) where
      met : scan (bytes r) r.at ≡ token (operator op) found.place found.after
      met = taken_is t (ap terminal is)

      pub so_fails_term : {e : ReadFault} → Stopped r' depth e → Stopped self depth e
      so_fails_term {e} f = so_fails (λ os is. fails_after (walks_one met refl) (at_taken (λ b p n. Fails b p (before_term os n) e) t (f os is)))

      -- one more operator and term
      pub so_more : (r'' r''' : Reader) → ReadTerm r' r'' depth → bytes r''' ≡ bytes r'' → r'''.at ≡ r''.at → r'''.terms ≡ r''.terms → step_count r''' ≡ step_count r'' + 1 → steps_so_far r'''.steps ≡ steps_so_far r''.steps ++ (apply_to op, found.place) ∷ [] → SoFar r₀ r''' depth
      so_more r'' r''' term same at terms long adds =
          let sign : Placed = (operator op, found.place) in
          let act : Step = (apply_to op, found.place) in
          let more : List Step = postfix term.expr ++ act ∷ [] in
          let goes : (os : List Bracket) → length os ≡ depth → Walks (bytes r₀) r₀.at (after_term os r₀.terms) (so.tokens ++ sign ∷ term.tokens) r''.at (after_term os r''.terms) =
          λ os is.
          let after = at_taken (λ b p n. Walks b p (before_term os n) term.tokens r''.at (after_term os r''.terms)) t (term.walked os is) in
          walks_append (so.walked os is) (subst (λ b. Walks b r.at (after_term os r.terms) (sign ∷ term.tokens) r''.at (after_term os r''.terms)) so.same (walks_append (walks_one met refl) after)) in
          let order : ((steps_so_far r₀.steps ++ so.suffix) ++ postfix term.expr) ++ act ∷ [] ≡ steps_so_far r₀.steps ++ (so.suffix ++ more) = simp append_assoc in
          record {
            same = same ∙ term.onward.same ∙ t.same ∙ so.same;
            within = omega (arith, at, term.onward.within, ap length t.same, ap length so.same);
            further = omega (arith, at, term.onward.further, t.moved, t.further, so.further);
            few = omega (arith, terms, term.onward.few);
            long = omega (arith, terms, long, term.onward.long, t.terms, taken_long t, so.long);
            tokens = so.tokens ++ sign ∷ term.tokens;
            suffix = so.suffix ++ more;
            grow = λ e. apply op found.place (so.grow e) term.expr;
            walked = λ os is. subst (λ p. Walks (bytes r₀) r₀.at (after_term os r₀.terms) (so.tokens ++ sign ∷ term.tokens) p (after_term os r'''.terms)) (sym at) (subst (λ n. Walks (bytes r₀) r₀.at (after_term os r₀.terms) (so.tokens ++ sign ∷ term.tokens) r''.at (after_term os n)) (sym terms) (goes os is));
            tail = λ ts e q. rw (append_assoc ts so.tokens (sign ∷ term.tokens)) at (joined op found.place (so.tail ts e q) term.parsed);
            post = λ e. ap (λ l. l ++ more) (so.post e) ∙ append_assoc (postfix e) so.suffix more;
            adds = adds ∙ ap (λ l. l ++ act ∷ []) (term.adds ∙ ap (λ l. l ++ postfix term.expr) (ap steps_so_far t.steps ∙ so.adds)) ∙ order;
          }

-- in `term`: a token is taken
module _ (depth : ℕ) {self r' : Reader} {found : Located} (t : Taken self r' found) where
  module _ (is : found.token ≡ code.Open) where
    bracketed : scan (bytes self) self.at ≡ token (opens plain) found.place found.after
    bracketed = taken_is t (ap terminal is)

    pub too_deep : open_max ≤ depth → Stopped self depth (TooDeep found.place)
    too_deep h os is = fails_at bracketed (cond-false _ _ _ (le-ltb (length os) open_max (omega arith)))

    goes_in : (os : List Bracket) → length os ≡ depth → depth < open_max → Walks (bytes self) self.at (before_term os self.terms) ((opens plain, found.place) ∷ []) found.after (before_term (plain ∷ os) self.terms)
    goes_in os is h = walks_one bracketed (cond-true _ _ _ (lt-ltb (length os) open_max (omega arith)))

    one_more : (os : List Bracket) → length os ≡ depth → length (plain ∷ os) ≡ depth + 1
    one_more os is = omega arith

    pub inner_fails : {e : ReadFault} → depth < open_max → Stopped r' (depth + 1) e → Stopped self depth e
    inner_fails {e} h f os is = fails_after (goes_in os is h) (at_taken (λ b p n. Fails b p (before_term (plain ∷ os) n) e) t (f (plain ∷ os) (one_more os is)))

    module _ {r'' : Reader} {last : Located} (h : depth < open_max) (q : ReadQuestion r' r'' (depth + 1) last) where
      inner : (os : List Bracket) → length os ≡ depth → Walks (bytes self) self.at (before_term os self.terms) ((opens plain, found.place) ∷ q.tokens) q.to (after_term (plain ∷ os) r''.terms)
      inner os is = walks_append (goes_in os is h) (at_taken (λ b p n. Walks b p (before_term (plain ∷ os) n) q.tokens q.to (after_term (plain ∷ os) r''.terms)) t (q.walked (plain ∷ os) (one_more os is)))

      last_is : {w : Terminal} → terminal last.token ≡ w → scan (bytes self) q.to ≡ token w last.place last.after
      last_is e = ap (λ b. scan b q.to) (sym t.same) ∙ q.next ∙ ap (λ w. token w last.place last.after) e

      pub not_closed : ((os : List Bracket) → meet (after_term (plain ∷ os) r''.terms) (terminal last.token) last.place last.after ≡ stops (Unexpected last.place)) → Stopped self depth (Unexpected last.place)
      not_closed no_way os is = fails_after (inner os is) (fails_at (last_is refl) (no_way os))

      pub closed : last.token ≡ code.Close → ReadTerm self r'' depth
      closed e =
          record {
            onward = record {
              same = q.onward.same ∙ t.same;
              within = omega (arith, q.onward.within, ap length t.same);
              further = omega (arith, q.onward.further, t.moved, t.further);
              few = q.onward.few;
              long = omega (arith, q.onward.long, t.terms, taken_long t);
            };
            tokens = (opens plain, found.place) ∷ (q.tokens ++ (closes, last.place) ∷ []);
            expr = q.expr;
            walked = λ os is. subst (λ p. Walks (bytes self) self.at (before_term os self.terms) ((opens plain, found.place) ∷ (q.tokens ++ (closes, last.place) ∷ [])) p (after_term os r''.terms)) (sym q.moved) (walks_append (inner os is) (walks_one (last_is (ap terminal e)) refl));
            parsed = bracket found.place last.place q.parsed;
            adds = q.adds ∙ ap (λ l. l ++ postfix q.expr) (ap steps_so_far t.steps);
          }

  pub unexpected : ((os : List Bracket) → meet (before_term os self.terms) (terminal found.token) found.place found.after ≡ stops (Unexpected found.place)) → Stopped self depth (Unexpected found.place)
  unexpected no_way os is = fails_at t.is (no_way os)

  pub too_many : (l : Leaf) → terminal found.token ≡ operand l → leaf_max ≤ self.terms → Stopped self depth (TooMany found.place)
  too_many l is h os same = fails_at (taken_is t is) (cond-false _ _ _ (le-ltb self.terms leaf_max h))

  pub one_term : (r'' : Reader) (l : Leaf) → terminal found.token ≡ operand l → self.terms < leaf_max → bytes r'' ≡ bytes self → r''.at ≡ found.after → r''.terms ≡ self.terms + 1 → step_count r'' ≡ step_count self + 1 → steps_so_far r''.steps ≡ steps_so_far self.steps ++ (take_leaf l, found.place) ∷ [] → ReadTerm self r'' depth
  one_term r'' l is h same at terms long adds =
      let word : Placed = (operand l, found.place) in
      let walk : (os : List Bracket) → Walks (bytes self) self.at (before_term os self.terms) (word ∷ []) found.after (after_term os (self.terms + 1)) = λ os. walks_one (taken_is t is) (cond-true _ _ _ (lt-ltb self.terms leaf_max h)) in
      record {
        onward = record {
          same = same;
          within = omega (arith, at, t.within);
          further = omega (arith, at, t.further);
          few = omega arith;
          long = omega arith;
        };
        tokens = word ∷ [];
        expr = leaf l found.place;
        walked = λ os so. subst (λ p. Walks (bytes self) self.at (before_term os self.terms) (word ∷ []) p (after_term os r''.terms)) (sym at) (subst (λ n. Walks (bytes self) self.at (before_term os self.terms) (word ∷ []) found.after (after_term os n)) (sym terms) (walk os));
        parsed = single l found.place;
        adds = adds;
      }

pub not_operator : (t : Token·) → ((o : Operator) → t ≡ code.Operator o → ⊥) → IsNoOperator (terminal t)
not_operator (code.Operator o) other = absurd (other o refl)
not_operator t other = tt

pub unexpected_after : (b : Bracket) (os : List Bracket) (n at after : ℕ) (t : Token·) → IsNoOperator (terminal t) → (t ≡ code.Close → ⊥) → meet (after_term (b ∷ os) n) (terminal t) at after ≡ stops (Unexpected at)
unexpected_after b os n at after (code.Operator o) other unclosed = absurd other
unexpected_after b os n at after code.Close other unclosed = absurd (unclosed refl)
unexpected_after b os n at after t other unclosed = refl

pub unexpected_last : (n at after : ℕ) (t : Token·) → IsNoOperator (terminal t) → (t ≡ code.End → ⊥) → meet (after_term [] n) (terminal t) at after ≡ stops (Unexpected at)
unexpected_last n at after (code.Operator o) other open_ended = absurd other
unexpected_last n at after code.End other open_ended = absurd (open_ended refl)
unexpected_last n at after t other open_ended = refl

pub unexpected_before : (os : List Bracket) (n at after : ℕ) (t : Token·) → IsNoOperand (terminal t) → (t ≡ code.Open → ⊥) → meet (before_term os n) (terminal t) at after ≡ stops (Unexpected at)
unexpected_before os n at after (code.Operator o) other shut = refl
unexpected_before os n at after code.Open other shut = absurd (shut refl)
unexpected_before os n at after code.Close other shut = refl
unexpected_before os n at after code.End other shut = refl
unexpected_before os n at after t other shut = absurd other

-- in brackets, a token that goes on with no operator closes them or is misplaced
pub unclosed : (depth : ℕ) (self r' r'' : Reader) (found last : Located) (os : List Bracket) → Taken self r' found → found.token ≡ code.Open → depth < open_max → ReadQuestion r' r'' (depth + 1) last → (last.token ≡ code.Close → ⊥) → length os ≡ depth → Fails (bytes self) self.at (before_term os self.terms) (Unexpected last.place)
unclosed depth self r' r'' found last os t is h q unshut n = not_closed depth t is h q (λ us. unexpected_after plain us r''.terms last.place last.after last.token q.other unshut) os n
