-- How long the operators' lists are, and what it costs to list them. Assumes nothing.
use Rattle.std.proofs.Common.{◌≡◌, ℕ, ◌+◌, ◌-◌, ◌*◌, ◌≤◌, max, Bool, true, false, nat_le, ◌⊎◌, List, [], ◌∷◌, ◌++◌, length, Some, None, filter, Option, sym, refl, ap, ◌∙◌, subst, inl, inr, ⊎_elim, arith, length-append}
use Rattle.std.specs.List.{AllByRecursion}
use Rattle.std.proofs.lemmas.Bool.{both_ways, leb-true, le-leb, lt-leb, cases_lt}
use Rattle.std.proofs.ByRecursion.{All-weaker}
use Rattle.extents.specs.declared.extent.Extent.{Extent}
use Rattle.containment.specs.declared.verdict.Key.{Key}
use Rattle.containment.specs.declared.verdict.Key.TheVariants.{Start, End}
use Rattle.containment.specs.declared.verdict.Verdict.{Verdict}
use Rattle.containment.specs.declared.verdict.Verdict.TheVariants.{Keep, Stop, GoOn}
use Rattle.extents.specs.declared.access.Access.{Access}
use Rattle.extents.specs.declared.access.Access.TheVariants.{FirstStart, FirstEnd, LastEnd}
use Rattle.combination.specs.BothOf.{both_of, hulls, pair_calls, both_first_start_calls}
use Rattle.extents.specs.Extents.{Mem, Before, ExtentList, find_first, first_start}
use Rattle.extents.specs.Finds.{by_test, none_some, all_mem, find_passes, find_mem, find_same, mem_append, append_mem_left, append_mem_right, mem_kept, kept_mem}
use Rattle.combination.specs.Followed.{followed, then_calls, followed_first_start_calls}
use Rattle.combination.specs.Followeds.{followed_rising, followed_least}
use Rattle.containment.specs.Soundness.{kept_rising}
use Rattle.combination.specs.Leasts.{mem_least}
use Rattle.combination.specs.Hulls.{mem_hulls, both_rising}
use Rattle.operators.specs.Listing.{list_calls, Cheap}
use Rattle.combination.specs.OneOf.{one_of, one_first_start_calls}
use Rattle.combination.specs.OneOfs.{one_rising}
use Rattle.containment.specs.Filter.{Judgement, kept, ahead, JudgesAhead, Sound, calls_on, walk_calls, ask_ahead, ahead_calls}
use Rattle.containment.proofs.Filters.{reached, ahead_monotone}

-- Lengths: different starts, each found among some numbers, are no more than those.
abbrev Has : ℕ → List ℕ → Type 0
Has n [] = ⊥
Has n (m ∷ ms) = (n ≡ m) ⊎ Has n ms

without : (n : ℕ) (ms : List ℕ) → Has n ms → (rest : List ℕ) × (length ms ≡ length rest + 1) × ((k : ℕ) → Has k ms → (k ≡ n → ⊥) → Has k rest)
without n [] h = absurd h
without n (m ∷ ms) h =
    ⊎_elim
    (λ e. (ms, omega arith, λ k q ne. ⊎_elim (λ i. absurd (ne (i ∙ sym e))) (λ r. r) q))
    (λ r. let d = without n ms r in (m ∷ d.0, omega (arith, d.1), λ k q ne. ⊎_elim (λ i. inl i) (λ s. inr (d.2 k s ne)) q))
    h

few : (xs : List Extent) (ms : List ℕ) → ExtentList xs → ((x : Extent) → Mem x xs → Has x.start ms) → length xs ≤ length ms
few [] ms h f = omega arith
few (x ∷ xs) ms h f =
    let d = without x.start ms (f x (inl refl)) in
    let i = few xs d.0 h.2 (λ y m. d.2 y.start (f y (inr m)) (λ e. let b = all_mem (Before x) xs y h.1 m in omega arith)) in
    omega (arith, d.1, i)

abbrev starts : List Extent → List ℕ
starts [] = []
starts (x ∷ xs) = x.start ∷ starts xs

length_starts : (xs : List Extent) → length (starts xs) ≡ length xs
length_starts [] = refl
length_starts (x ∷ xs) = let i = length_starts xs in omega arith

has_start : (xs : List Extent) (x : Extent) → Mem x xs → Has x.start (starts xs)
has_start [] x m = absurd m
has_start (y ∷ ys) x m = ⊎_elim (λ e. inl (ap (λ v. v.start) e)) (λ n. inr (has_start ys x n)) m

abbrev Starts : List Extent → List Extent → Extent → Type 0
Starts ls rs e = (a : Extent) × (Mem a ls ⊎ Mem a rs) × (e.start ≡ a.start)

no_more : (xs ls rs : List Extent) → ExtentList xs → ((e : Extent) → Mem e xs → Starts ls rs e) → length xs ≤ length ls + length rs
no_more xs ls rs h f =
    let i =
    few xs (starts (ls ++ rs)) h
    (λ x m.
    let s = f x m in
    subst (λ n. Has n (starts (ls ++ rs))) (sym s.2) (has_start (ls ++ rs) s.0 (⊎_elim (λ a. append_mem_left ls rs s.0 a) (λ b. append_mem_right ls rs s.0 b) s.1)))
    in
    omega (arith, i, length_starts (ls ++ rs), length-append ls rs)

pub kept_length : (keep : Extent → Bool) (ls rs : List Extent) → ExtentList ls → length (kept keep ls) ≤ length ls + length rs
unfolding kept
kept_length keep ls rs hl = no_more (filter keep ls) ls rs (kept_rising keep ls hl) (λ e m. (e, inl (mem_kept keep ls e m).0, refl))

module _ (ls rs : List Extent) (hl : ExtentList ls) (hr : ExtentList rs) where
  pub one_length : length (one_of ls rs) ≤ length ls + length rs
  unfolding one_of
  one_length = no_more (one_of ls rs) ls rs (one_rising ls rs hl hr) (λ e m. (e, mem_append ls rs e (mem_least e (ls ++ rs) m), refl))

  pub followed_length : length (followed ls rs) ≤ length ls + length rs
  followed_length =
      no_more (followed ls rs) ls rs (followed_rising ls rs hl hr) (λ e m. let v = ((followed_least ls rs hl hr e).0 m).0 in (v.0, inl v.2, v.5))

  pub both_length : length (both_of ls rs) ≤ length ls + length rs
  unfolding both_of
  both_length =
      no_more (both_of ls rs) ls rs (both_rising ls rs hl hr)
      (λ e m.
      let v = mem_hulls e ls rs (mem_least e (hulls ls rs) m) in
      let s = ap (λ v. v.start) v.4 in
      ⊎_elim
      (λ l. (v.0, inl v.2, omega arith))
      (λ l. (v.1, inr v.3, omega arith))
      (cases_lt v.0.start v.1.start))

-- Calls: a few for each extent that is listed.
each_four : (f : ℕ → ℕ) → ((k : ℕ) → f k ≤ 4) → (es : List Extent) (k : ℕ) → list_calls f k es ≤ 4 * (length es + 1)
each_four f h [] k = omega (arith, h k)
each_four f h (e ∷ es) k = let i = each_four f h es (e.start + 1) in omega (arith, h k, i)

pair_few : (o p : Option Extent) (m n : ℕ) (f : Extent → Extent → ℕ) → m ≤ 1 → n ≤ 1 → ((x y : Extent) → f x y ≤ 2) → pair_calls o p m n f ≤ 4
pair_few None p m n f a b c = omega arith
pair_few (Some x) None m n f a b c = omega arith
pair_few (Some x) (Some y) m n f a b c = omega (arith, c x y)

then_few : (o : Option Extent) (n w : ℕ) (f : Extent → ℕ) → n ≤ 1 → ((x : Extent) → f x ≤ w) → then_calls o n f ≤ w + 1
then_few None n w f a b = omega arith
then_few (Some x) n w f a b = omega (arith, b x)

module _ (ls rs : List Extent) (hl : ExtentList ls) (hr : ExtentList rs) (cl cr : Access → ℕ → ℕ) (p : Cheap cl) (q : Cheap cr) where
  pub both_listing : list_calls (both_first_start_calls ls cl rs cr) 0 (both_of ls rs) ≤ 4 * (length ls + length rs + 1)
  unfolding both_first_start_calls
  both_listing =
      let i =
      each_four (both_first_start_calls ls cl rs cr)
      (λ k.
      let r = pair_few (first_start ls k) (first_start rs k) (cl FirstStart k) (cr FirstStart k) (λ x y. cl LastEnd (max x.end y.end) + cr LastEnd (max x.end y.end)) (p FirstStart k) (q FirstStart k)
      (λ x y. omega (arith, p LastEnd (max x.end y.end), q LastEnd (max x.end y.end)))
      in
      omega (arith, r))
      (both_of ls rs) 0
      in
      omega (arith, i, both_length ls rs hl hr)

  pub one_listing : list_calls (one_first_start_calls cl cr) 0 (one_of ls rs) ≤ 4 * (length ls + length rs + 1)
  one_listing =
      let i = each_four (one_first_start_calls cl cr) (λ k. omega (arith, p FirstStart k, q FirstStart k)) (one_of ls rs) 0 in
      omega (arith, i, one_length ls rs hl hr)

  pub followed_listing : list_calls (followed_first_start_calls ls cl rs cr) 0 (followed ls rs) ≤ 4 * (length ls + length rs + 1)
  unfolding followed_first_start_calls
  followed_listing =
      let i =
      each_four (followed_first_start_calls ls cl rs cr)
      (λ k.
      let r =
      then_few (first_start ls k) (cl FirstStart k) 2 (λ x. then_calls (first_start rs (x.end + 1)) (cr FirstStart (x.end + 1)) (λ y. cl LastEnd (y.start - 1))) (p FirstStart k)
      (λ x. then_few (first_start rs (x.end + 1)) (cr FirstStart (x.end + 1)) 1 (λ y. cl LastEnd (y.start - 1)) (q FirstStart (x.end + 1)) (λ y. p LastEnd (y.start - 1)))
      in
      omega (arith, r))
      (followed ls rs) 0
      in
      omega (arith, i, followed_length ls rs hl hr)

-- The walks: each candidate is asked for once, and judged once.
reached_all : (n : Key) (x : Extent) (xs : List Extent) → AllByRecursion (Before x) xs → ahead n x ≡ true → reached (ahead n) xs ≡ length xs
reached_all n x [] h t = refl
reached_all n x (y ∷ ys) h t = let i = reached_all n x ys h.1 t in rw (ahead_monotone n x y h.0 t) (omega arith)

reached_most : (p : Extent → Bool) (xs : List Extent) → reached p xs ≤ length xs
reached_most p [] = omega arith
reached_most p (x ∷ xs) = let i = reached_most p xs in by_test (p x) (λ t. rw t (omega arith)) (λ t. rw t (omega arith))

module _ (keep : Extent → Bool) (cl : Access → ℕ → ℕ) (judge : Extent → Judgement) (sound : JudgesAhead keep judge) (p : Cheap cl) (c : (x : Extent) → (judge x).cost ≤ 1) where
  ask_one : (n : Key) → ask_ahead cl n ≤ 1
  ask_one (Start k) = p FirstStart k
  ask_one (End k) = p FirstEnd k

  -- what a verdict leaves to be asked among the candidates after it
  few_on : (xs : List Extent) → ((m : Key) → walk_calls ahead (ask_ahead cl) judge xs m ≤ 2 * reached (ahead m) xs + 1) → (v : Verdict) → calls_on (λ m. walk_calls ahead (ask_ahead cl) judge xs m) v ≤ 2 * length xs + 1
  few_on xs few Keep = omega arith
  few_on xs few Stop = omega arith
  few_on xs few (GoOn m) = omega (arith, few m, reached_most (ahead m) xs)

  walk_calls_few : (xs : List Extent) (n : Key) → ExtentList xs → walk_calls ahead (ask_ahead cl) judge xs n ≤ 2 * reached (ahead n) xs + 1
  unfolding walk_calls
  walk_calls_few [] n h = omega (arith, ask_one n)
  walk_calls_few (x ∷ xs) n h =
      by_test (ahead n x)
      (λ t.
      let o = few_on xs (λ m. walk_calls_few xs m h.2) (judge x).verdict in
      rw t (omega (arith, o, ask_one n, c x, reached_all n x xs h.1 t)))
      (λ t. rw t (walk_calls_few xs n h.2))

  -- what is found among those after x starts after x
  later : (x : Extent) (xs : List Extent) (n : Key) (e : Extent) → AllByRecursion (Before x) xs → find_first (ahead n) (filter keep xs) ≡ Some e → nat_le (e.start + 1) x.start ≡ false
  later x xs n e h g =
      let b = all_mem (Before x) xs e h (mem_kept keep xs e (find_mem (ahead n) (filter keep xs) e g)).0 in
      lt-leb (e.start + 1) x.start (omega arith)

  found_on : (x : Extent) (xs : List Extent) (n : Key) (e : Extent) → AllByRecursion (Before x) xs → ahead n x ≡ true → find_first (ahead n) (filter keep (x ∷ xs)) ≡ Some e → ((m : Key) → find_first (ahead m) (filter keep xs) ≡ Some e → walk_calls ahead (ask_ahead cl) judge xs m + 2 * reached (ahead (Start (e.start + 1))) xs ≤ 2 * reached (ahead m) xs) → (v : Verdict) → Sound Before ahead keep x v → calls_on (λ m. walk_calls ahead (ask_ahead cl) judge xs m) v + 2 * reached (ahead (Start (e.start + 1))) (x ∷ xs) ≤ 2 * length xs
  found_on x xs n e h t f found Keep s =
      let g : Some x ≡ Some e = rw (s, t) at f in
      let i : x ≡ e = cc in
      let is = ap (λ v. v.start) i in
      let o : nat_le (e.start + 1) x.start ≡ false = lt-leb (e.start + 1) x.start (omega arith) in
      rw o (omega (arith, reached_most (ahead (Start (e.start + 1))) xs))
  found_on x xs n e h t f found Stop s =
      let m = mem_kept keep (x ∷ xs) e (find_mem (ahead n) (filter keep (x ∷ xs)) e f) in
      absurd (s e (⊎_elim (λ i. inl i) (λ r. inr (all_mem (Before x) xs e h r)) m.0) m.1)
  found_on x xs n e h t f found (GoOn m) s =
      let k : keep x ≡ false = by_test (keep x) (λ v. absurd (both_ways (ahead m x) s.0 (s.1 x (inl refl) v))) (λ v. v) in
      let g : find_first (ahead n) (filter keep xs) ≡ Some e = rw k at f in
      let same : find_first (ahead m) (filter keep xs) ≡ find_first (ahead n) (filter keep xs) =
      find_same (ahead m) (ahead n) (filter keep xs)
      (λ y r.
      let w = mem_kept keep xs y r in
      let b = all_mem (Before x) xs y h w.0 in
      s.1 y (inr b) w.1 ∙ sym (ahead_monotone n x y b t))
      in
      rw (later x xs n e h g) (omega (arith, found m (same ∙ g), reached_most (ahead m) xs))

  -- a walk that ends at e has passed only candidates up to e
  walk_calls_found : (xs : List Extent) (n : Key) (e : Extent) → ExtentList xs → find_first (ahead n) (filter keep xs) ≡ Some e → walk_calls ahead (ask_ahead cl) judge xs n + 2 * reached (ahead (Start (e.start + 1))) xs ≤ 2 * reached (ahead n) xs
  unfolding walk_calls
  walk_calls_found [] n e h f = absurd (none_some f)
  walk_calls_found (x ∷ xs) n e h f =
      by_test (ahead n x)
      (λ t.
      let o = found_on x xs n e h.1 t f (λ m g. walk_calls_found xs m e h.2 g) (judge x).verdict (sound x) in
      rw t (omega (arith, o, ask_one n, c x, reached_all n x xs h.1 t)))
      (λ t.
      let g : find_first (ahead n) (filter keep xs) ≡ Some e =
      by_test (keep x) (λ k. let r : find_first (ahead n) (x ∷ filter keep xs) ≡ Some e = rw k at f in rw t at r) (λ k. rw k at f)
      in
      rw (t, later x xs n e h.1 g) (walk_calls_found xs n e h.2 g))

-- from a key on
abbrev pub onward : ℕ → List Extent → List Extent
onward k ys = filter (ahead (Start k)) ys

onward_first : (ys : List Extent) (k : ℕ) (e : Extent) (es : List Extent) → onward k ys ≡ e ∷ es → find_first (ahead (Start k)) ys ≡ Some e
onward_first [] k e es q = let z : ◌≡◌ {A = ℕ} 0 1 = cc in absurd (omega arith)
onward_first (y ∷ ys) k e es q =
    by_test (nat_le k y.start)
    (λ t. let r : y ∷ onward k ys ≡ e ∷ es = rw t at q in let i : y ≡ e = cc in rw t (ap Some i))
    (λ t. rw t (onward_first ys k e es (rw t at q)))

pub onward_all : (ys : List Extent) (k : ℕ) → AllByRecursion (λ y. k ≤ y.start) ys → onward k ys ≡ ys
onward_all [] k h = refl
onward_all (y ∷ ys) k h = rw (le-leb k y.start h.0) (ap (λ l. y ∷ l) (onward_all ys k h.1))

onward_rest : (ys : List Extent) (k : ℕ) (e : Extent) (es : List Extent) → ExtentList ys → onward k ys ≡ e ∷ es → onward (e.start + 1) ys ≡ es
onward_rest [] k e es h q = let z : ◌≡◌ {A = ℕ} 0 1 = cc in absurd (omega arith)
onward_rest (y ∷ ys) k e es h q =
    by_test (nat_le k y.start)
    (λ t.
    let l = leb-true k y.start t in
    let r : y ∷ onward k ys ≡ e ∷ es = rw t at q in
    let i : y ≡ e = cc in
    let is = ap (λ v. v.start) i in
    let j : onward k ys ≡ es = cc in
    let o : nat_le (e.start + 1) y.start ≡ false = lt-leb (e.start + 1) y.start (omega arith) in
    let u = onward_all ys (e.start + 1) (All-weaker (Before y) (λ z. e.start + 1 ≤ z.start) (λ z b. omega arith) ys h.1) in
    let v = onward_all ys k (All-weaker (Before y) (λ z. k ≤ z.start) (λ z b. omega arith) ys h.1) in
    rw o (u ∙ sym v ∙ j))
    (λ t.
    let r : onward k ys ≡ e ∷ es = rw t at q in
    let b = all_mem (Before y) ys e h.1 (find_mem (ahead (Start k)) ys e (onward_first ys k e es r)) in
    let o : nat_le (e.start + 1) y.start ≡ false = lt-leb (e.start + 1) y.start (omega arith) in
    rw o (onward_rest ys k e es h.2 r))

pub all_trivial : (xs : List Extent) → AllByRecursion (λ y. 0 ≤ y.start) xs
all_trivial [] = tt
all_trivial (x ∷ xs) = (omega arith, all_trivial xs)

module _ (keep : Extent → Bool) (ls : List Extent) (hl : ExtentList ls) (cl : Access → ℕ → ℕ) (judge : Extent → Judgement) (sound : JudgesAhead keep judge) (p : Cheap cl) (c : (x : Extent) → (judge x).cost ≤ 1) where
  from_key : (es : List Extent) (k : ℕ) → onward k (kept keep ls) ≡ es → list_calls (ahead_calls ls cl judge) k es ≤ 2 * reached (ahead (Start k)) ls + 1
  unfolding kept ahead_calls
  from_key [] k q = omega (arith, walk_calls_few keep cl judge sound p c ls (Start k) hl)
  from_key (e ∷ es) k q =
      let f = walk_calls_found keep cl judge sound p c ls (Start k) e hl (onward_first (filter keep ls) k e es q) in
      let i = from_key es (e.start + 1) (onward_rest (filter keep ls) k e es (kept_rising keep ls hl) q) in
      omega (arith, f, i)

  -- to list what is kept takes two calls for each candidate, and one more
  pub kept_listing : list_calls (ahead_calls ls cl judge) 0 (kept keep ls) ≤ 2 * length ls + 1
  kept_listing =
      let i = from_key (kept keep ls) 0 (onward_all (kept keep ls) 0 (all_trivial (kept keep ls))) in
      omega (arith, i, reached_most (ahead (Start 0)) ls)

-- what an access finds stands first in what is left
pub onward_some : (xs : List Extent) (k : ℕ) (x : Extent) → ExtentList xs → first_start xs k ≡ Some x → onward k xs ≡ x ∷ onward (x.start + 1) xs
unfolding first_start
onward_some xs k x h e = go (onward k xs) refl
  where
    go : (es : List Extent) → onward k xs ≡ es → onward k xs ≡ x ∷ onward (x.start + 1) xs
    go [] q =
        let m = kept_mem (ahead (Start k)) xs x (find_mem (ahead (Start k)) xs x e) (find_passes (ahead (Start k)) xs x e) in
        absurd (subst (Mem x) q m)
    go (y ∷ ys) q =
        let i : Some y ≡ Some x = sym (onward_first xs k y ys q) ∙ e in
        let j : y ≡ x = cc in
        let r = onward_rest xs k y ys h q in
        q ∙ ap (λ l. y ∷ l) (sym r) ∙ ap (λ v. v ∷ onward (v.start + 1) xs) j

pub onward_none : (xs : List Extent) (k : ℕ) → first_start xs k ≡ None → onward k xs ≡ []
unfolding first_start
onward_none xs k e = go (onward k xs) refl
  where
    go : (es : List Extent) → onward k xs ≡ es → onward k xs ≡ []
    go [] q = q
    go (y ∷ ys) q = absurd (none_some (sym e ∙ onward_first xs k y ys q))
