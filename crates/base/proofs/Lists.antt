-- Laws of lists.
use Prim.Native.Nat.{ℕ, zero, suc, ◌+◌, ◌≤◌, ◌<◌}
use mathlib.Core.Path.{◌≡◌, refl, ap, sym, ◌∙◌, subst}
use mathlib.Core.Bool.{Bool, true, false, cond}
use mathlib.Core.List.{List, [], ◌∷◌, ◌++◌, map, reverse_aux}
use mathlib.Core.Option.{none, some}
use mathlib.Core.Logic.{◌⊎◌, inl, inr, ⊎_elim}
use native.Mathlib.Omega.{arith}
use native.Mathlib.Nat.{add-zero, add-suc, suc-add}
use lib.Dec.{eqb}
use lib.ListN.{length, take, drop, get_or, get_elem?, length-map}
use borrow.Author.Tests.{eqb-true, eq-eqb, ne_eqb}
use Rattle.base.specs.Lists.{Each, Is, every, member, word_at, span, words_at}
use Rattle.base.proofs.Bools.{and-inv, and-inv-false, and_both, cond-or}

module _ {A : Type 0} where
  pub some_is : {a b : A} → some a ≡ some b → a ≡ b
  some_is e = cc

  pub each_append : (P : A → Type 0) (xs ys : List A) → Each P xs → Each P ys → Each P (xs ++ ys)
  each_append P [] ys h k = k
  each_append P (x ∷ xs) ys (p, h) k = (p, each_append P xs ys h k)

  pub each_take : (P : A → Type 0) (n : ℕ) (xs : List A) → Each P xs → Each P (take n xs)
  each_take P zero xs h = tt
  each_take P (suc n) [] h = tt
  each_take P (suc n) (x ∷ xs) (p, h) = (p, each_take P n xs h)

  pub each-drop : (P : A → Type 0) (n : ℕ) (xs : List A) → Each P xs → Each P (drop n xs)
  each-drop P zero xs h = h
  each-drop P (suc n) [] h = tt
  each-drop P (suc n) (x ∷ xs) (p, h) = each-drop P n xs h

  pub each_in : (P : A → Type 0) (xs : List A) → Each P xs → (x : A) → Is x xs → P x
  each_in P [] h x i = absurd i
  each_in P (y ∷ ys) (p, h) x (inl e) = subst P (sym e) p
  each_in P (y ∷ ys) (p, h) x (inr i) = each_in P ys h x i

  pub each_on : (P Q : A → Type 0) → ((x : A) → P x → Q x) → (xs : List A) → Each P xs → Each Q xs
  each_on P Q f [] h = tt
  each_on P Q f (x ∷ xs) (p, h) = (f x p, each_on P Q f xs h)

  pub each_both : (P Q R : A → Type 0) → ((x : A) → P x → Q x → R x) → (xs : List A) → Each P xs → Each Q xs → Each R xs
  each_both P Q R f [] h k = tt
  each_both P Q R f (x ∷ xs) (p, h) (q, k) = (f x p q, each_both P Q R f xs h k)

  -- past the end stands nothing
  pub past_end : (xs : List A) (i : ℕ) → get_elem? xs i ≡ none → length xs ≤ i
  past_end [] i e = omega arith
  past_end (x ∷ xs) zero e = let z : ◌≡◌ {A = ℕ} 0 1 = cc in absurd (omega arith)
  past_end (x ∷ xs) (suc i) e = let l = past_end xs i e in omega arith

  pub end-past : (xs : List A) (i : ℕ) → length xs ≤ i → get_elem? xs i ≡ none
  end-past [] i l = refl
  end-past (x ∷ xs) zero l = absurd (omega arith)
  end-past (x ∷ xs) (suc i) l = end-past xs i (omega arith)

  -- what stands in a list turned round
  pub reversed : (x : A) (xs ys : List A) → Is x (reverse_aux xs ys) → Is x xs ⊎ Is x ys
  reversed x [] ys h = inr h
  reversed x (y ∷ xs) ys h = ⊎_elim (λ a. inl (inr a)) (λ b. ⊎_elim (λ e. inl (inl e)) (λ c. inr c) b) (reversed x xs (y ∷ ys) h)

  pub reversed-back : (x : A) (xs ys : List A) → Is x xs ⊎ Is x ys → Is x (reverse_aux xs ys)
  reversed-back x [] ys (inl h) = absurd h
  reversed-back x [] ys (inr h) = h
  reversed-back x (y ∷ xs) ys (inl (inl e)) = reversed-back x xs (y ∷ ys) (inr (inl e))
  reversed-back x (y ∷ xs) ys (inl (inr h)) = reversed-back x xs (y ∷ ys) (inl h)
  reversed-back x (y ∷ xs) ys (inr h) = reversed-back x xs (y ∷ ys) (inr (inr h))

pub each_map : (P : ℕ → Type 0) (g : ℕ → ℕ) (xs : List ℕ) → ((a : ℕ) → Is a xs → P (g a)) → Each P (map g xs)
each_map P g [] h = tt
each_map P g (x ∷ xs) h = (h x (inl refl), each_map P g xs (λ a i. h a (inr i)))

pub each-less : (xs : List ℕ) (m n : ℕ) → m ≤ n → Each (λ a. a < m) xs → Each (λ a. a < n) xs
each-less [] m n h e = tt
each-less (x ∷ xs) m n h e = let p : x < m = e.0 in (omega arith, each-less xs m n h e.1)

-- ---- tests of every element

pub every-each : (pass : ℕ → Bool) (ws : List ℕ) → every pass ws ≡ true → Each (λ w. pass w ≡ true) ws
every-each pass [] e = tt
every-each pass (w ∷ ws) e = let (a, b) = and-inv (pass w) (every pass ws) e in (a, every-each pass ws b)

pub each-every : (pass : ℕ → Bool) (ws : List ℕ) → Each (λ w. pass w ≡ true) ws → every pass ws ≡ true
each-every pass [] h = refl
each-every pass (w ∷ ws) (a, h) = and_both (pass w) (every pass ws) a (each-every pass ws h)

-- one that does not pass the test, where not all do
pub not-every : (pass : ℕ → Bool) (ws : List ℕ) → every pass ws ≡ false → (w : ℕ) × Is w ws × (pass w ≡ false)
not-every pass [] e = let z : ◌≡◌ {A = ℕ} 0 1 = cc in absurd (omega arith)
not-every pass (w ∷ ws) e =
    ⊎_elim (λ a. (w, inl refl, a)) (λ b. let (x, i, q) = not-every pass ws b in (x, inr i, q)) (and-inv-false (pass w) (every pass ws) e)

pub every-apart : (pass : ℕ → Bool) (ws : List ℕ) → every pass ws ≡ true → (w : ℕ) × Is w ws × (pass w ≡ false) → ⊥
every-apart pass [] e (w, i, q) = i
every-apart pass (x ∷ xs) e (w, inl i, q) =
    let (a, b) = and-inv (pass x) (every pass xs) e in
    let c : pass x ≡ false = subst (λ (y : ℕ). pass y ≡ false) i q in
    let z : ◌≡◌ {A = ℕ} 0 1 = cc in
    omega arith
every-apart pass (x ∷ xs) e (w, inr i, q) = every-apart pass xs (and-inv (pass x) (every pass xs) e).1 (w, i, q)

-- ---- members

pub member-first : (v : ℕ) (is : List ℕ) → member v (v ∷ is) ≡ true
member-first v is = ap (λ (b : Bool). cond b true (member v is)) (eq-eqb v v refl)

-- v is f, or one of the others
pub member-inv : (v f : ℕ) (is : List ℕ) → member v (f ∷ is) ≡ true → (f ≡ v) ⊎ (member v is ≡ true)
member-inv v f is e = pick_one (eqb f v) refl e
  where
    pick_one : (b : Bool) → eqb f v ≡ b → cond b true (member v is) ≡ true → (f ≡ v) ⊎ (member v is ≡ true)
    pick_one true q h = inl (eqb-true f v q)
    pick_one false q h = inr h

pub member-later : (v f : ℕ) (is : List ℕ) → member v is ≡ true → member v (f ∷ is) ≡ true
member-later v f is e = cond-or (eqb f v) (member v is) e

-- f is another, and v none of the others
pub member-not : (v f : ℕ) (is : List ℕ) → (f ≡ v → ⊥) → member v is ≡ false → member v (f ∷ is) ≡ false
member-not v f is d e = ap (λ (b : Bool). cond b true (member v is)) (ne_eqb f v d) ∙ e

pub member-left : (v : ℕ) (is os : List ℕ) → member v is ≡ true → member v (is ++ os) ≡ true
member-left v [] os e = let z : ◌≡◌ {A = ℕ} 0 1 = cc in absurd (omega arith)
member-left v (f ∷ is) os e = pick_one (eqb f v) e (λ h. member-left v is os h)
  where
    pick_one : (b : Bool) → cond b true (member v is) ≡ true → (member v is ≡ true → member v (is ++ os) ≡ true) → cond b true (member v (is ++ os)) ≡ true
    pick_one true h ih = refl
    pick_one false h ih = ih h

pub member_right : (v : ℕ) (is os : List ℕ) → member v os ≡ true → member v (is ++ os) ≡ true
member_right v [] os e = e
member_right v (f ∷ is) os e = member-later v f (is ++ os) (member_right v is os e)

pub member-either : (v : ℕ) (is os : List ℕ) → member v (is ++ os) ≡ true → (member v is ≡ true) ⊎ (member v os ≡ true)
member-either v [] os e = inr e
member-either v (f ∷ is) os e = pick_one (eqb f v) e (λ h. member-either v is os h)
  where
    pick_one : (b : Bool) → cond b true (member v (is ++ os)) ≡ true → (member v (is ++ os) ≡ true → (member v is ≡ true) ⊎ (member v os ≡ true))
        → (cond b true (member v is) ≡ true) ⊎ (member v os ≡ true)
    pick_one true h ih = inl refl
    pick_one false h ih = ih h

-- ---- numbers in a row

pub span-length : (a n : ℕ) → length (span a n) ≡ n
span-length a zero = refl
span-length a (suc n) = ap suc (span-length (suc a) n)

pub span_below : (n a hi : ℕ) → a + n ≤ hi → Each (λ x. x < hi) (span a n)
span_below zero a hi h = tt
span_below (suc n) a hi h = (omega arith, span_below n (suc a) hi (omega arith))

pub span-each : (P : ℕ → Type 0) (n a : ℕ) → ((j : ℕ) → j < n → P (a + j)) → Each P (span a n)
span-each P zero a h = tt
span-each P (suc n) a h = (
  subst P (add-zero a) (h 0 (omega arith)),
  span-each P n (suc a) (λ j l. subst P (add-suc a j ∙ sym (suc-add a j)) (h (suc j) (omega arith))),
)

pub made_at : (A : Type 0) (d : A) (g : ℕ → A) (n a j : ℕ) → j < n → get_or (map g (span a n)) j d ≡ g (a + j)
made_at A d g zero a j h = absurd (omega arith)
made_at A d g (suc n) a zero h = ap g (sym (add-zero a))
made_at A d g (suc n) a (suc j) h = made_at A d g n (suc a) j (omega arith) ∙ ap g (suc-add a j ∙ sym (add-suc a j))

pub made-length : (A : Type 0) (g : ℕ → A) (n a : ℕ) → length (map g (span a n)) ≡ n
made-length A g n a = length-map (span a n) g ∙ span-length a n

-- ---- the words of a list are the list

below : (w : ℕ) (ws : List ℕ) (at n : ℕ) → words_at (w ∷ ws) (suc at) n ≡ words_at ws at n
below w ws at zero = refl
below w ws at (suc n) = ap {B = List ℕ} (λ r. word_at ws at ∷ r) (below w ws (suc at) n)

pub whole : (ws : List ℕ) → words_at ws 0 (length ws) ≡ ws
whole [] = refl
whole (w ∷ ws) = ap {B = List ℕ} (λ r. w ∷ r) (below w ws 0 (length ws) ∙ whole ws)
