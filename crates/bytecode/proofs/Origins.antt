-- Two lists whose instructions read words of the same origins give the same outputs.
use Prim.Native.Nat.{ℕ, zero, suc, ◌+◌, ◌-◌, ◌≤◌, ◌<◌}
use mathlib.Core.Path.{◌≡◌, refl, ap, ap₂, sym, ◌∙◌, subst}
use mathlib.Core.Bool.{Bool, true, false, ◌&&◌, ◌||◌, cond}
use mathlib.Core.List.{List, [], ◌∷◌, ◌++◌, map, map-append}
use mathlib.Core.Option.{some}
use mathlib.Core.Logic.{⊎_elim}
use native.Mathlib.Omega.{arith}
use native.Mathlib.Nat.{add-zero, add-suc, suc-add}
use lib.Dec.{eqb, ltb}
use lib.ListN.{length, get_or, get_elem?, replicate, take, drop, length-append, length-replicate, get_or-append}
use lib.Seq.{sets, length-sets, take_at, drop_at, get_or-append-add}
use borrow.Author.Tests.{eqb-true, ne_eqb, ltb-true, ltb-false}
use Rattle.value.specs.declared.Value.{Value}
use Rattle.ports.specs.Kinds.{Kind, kind_of}
use Rattle.ports.specs.Ports.{width, is_type, ports_of, own, types, takes, gives, form_of, has_type, executable, type_fits}
use Rattle.ports.proofs.Table.{every-kind}
use Rattle.value.specs.Values.{all_words, value_of, values_of}
use Rattle.base.specs.Lists.{word_at, span, words_at, Each}
use Rattle.value.specs.Typed.{TypeCode}
use Rattle.value.specs.Results.{results}
use Rattle.value.proofs.Laws as Laws
use Rattle.value.proofs.Laws.{values-typed, typed-widths, results-typed}
use Rattle.base.proofs.Bools.{and-inv, or-inv}
use Rattle.base.proofs.Numbers.{between}
use Rattle.base.proofs.Lists.{made_at, made-length}
use Rattle.base.proofs.Stores.{stored-below, stored-above, stored-in}
use Rattle.bytecode.specs.Run.{Instruction, BoardList, values_at, given, execute, execute_all, run, spans}
use Rattle.bytecode.specs.Origin.{Origin, unwritten, argument, result, Known, origin_at, operand_places, result_width, made, origins, after, start, Reading, readings, final, Numbered, final_of, Carries, Roomy}

-- ---- what an instruction gives hangs on the words that it reads

abbrev pub from_words : Instruction → List ℕ → List Value
from_words i ws = results (kind_of i.kind) i.constants (values_of (takes (kind_of i.kind) i.type) ws)

values-cut : (m ts at : List ℕ) → length at ≡ length ts → values_at m ts at ≡ values_of ts (map (word_at m) (spans ts at))
values-cut m [] at l = refl
values-cut m (t ∷ ts) [] l = absurd (omega arith)
values-cut m (t ∷ ts) (a ∷ at) l =
    let front = words_at m a (width t) in
    let back = map (word_at m) (spans ts at) in
    let size : length front ≡ width t = made-length ℕ (word_at m) (width t) a in
    let e : map (word_at m) (span a (width t) ++ spans ts at) ≡ front ++ back = map-append (word_at m) (span a (width t)) (spans ts at) in
    let p : take (width t) (front ++ back) ≡ front = take_at front back (width t) size in
    let q : drop (width t) (front ++ back) ≡ back = drop_at front back (width t) size in
    let ih : values_at m ts at ≡ values_of ts back = values-cut m ts at (omega arith) in
    ap₂ (λ (x : Value) (y : List Value). x ∷ y) (Laws.value-at m t a ∙ ap (value_of t) (sym p)) (ih ∙ ap (values_of ts) (sym q)) ∙ ap (values_of (t ∷ ts)) (sym e)

pub given-words : (i : Instruction) (m : List ℕ) → length i.operands ≡ length (takes (kind_of i.kind) i.type)
    → given i m ≡ from_words i (map (word_at m) (operand_places i))
given-words i m l = ap (results (kind_of i.kind) i.constants) (values-cut m (takes (kind_of i.kind) i.type) i.operands l)

-- ---- how many words an instruction gives

-- the types of a kind's operands: T, T, .. where it has T, and types otherwise
abbrev operand_types : Bool → ℕ → ℕ → ℕ → Bool
operand_types true n p q = eqb p 0 && eqb q 0
operand_types false n p q = eqb n 0 || (is_type p && is_type q)

each-type : (n a b : ℕ) → TypeCode a → TypeCode b → Each TypeCode (types n a b)
each-type zero a b p q = tt
each-type (suc n) a b p q = (p, each_same n)
  where
    each_same : (n : ℕ) → Each TypeCode (replicate n b)
    each_same zero = tt
    each_same (suc n) = (q, each_same n)

own-type : (t p : ℕ) → is_type p ≡ true → TypeCode (own t p)
own-type t p e =
    let c = between p 3 e in
    let some : p ≡ 0 → ⊥ = λ q. omega arith in
    rw (ne_eqb p 0 some) c

codes-by : (b : Bool) (n p q t : ℕ) → operand_types b n p q ≡ true → cond b (is_type t) (eqb t 0) ≡ true → Each TypeCode (types n (own t p) (own t q))
codes-by true n p q t e h =
    let (x, y) = and-inv (eqb p 0) (eqb q 0) e in
    rw (eqb-true p 0 x, eqb-true q 0 y) (each-type n t t (between t 3 h) (between t 3 h))
codes-by false n p q t e h = ⊎_elim
    (λ z. rw (eqb-true n 0 z) tt)
    (λ z. let (x, y) = and-inv (is_type p) (is_type q) z in each-type n (own t p) (own t q) (own-type t p x) (own-type t q y))
    (or-inv (eqb n 0) (is_type p && is_type q) e)

pub takes-codes : (k : Kind) (t : ℕ) → type_fits (ports_of k) t ≡ true → Each TypeCode (takes k t)
takes-codes k t e =
    let r = ports_of k in
    codes-by (has_type r) r.operands r.first r.rest t (every-kind (λ k. let r = ports_of k in operand_types (has_type r) r.operands r.first r.rest) refl k) e

pub given-width : (words : ℕ) (i : Instruction) (ws : List ℕ) → Roomy words i → length (all_words (from_words i ws)) ≡ result_width i
given-width words i ws r =
    let k = kind_of i.kind in
    let (a, b) = and-inv (executable (form_of k)) (type_fits (ports_of k) i.type) r.legal in
    let codes : Each TypeCode (takes k i.type) = takes-codes k i.type b in
    typed-widths (gives k i.type) _ (results-typed k i.type i.constants _ (values-typed (takes k i.type) ws codes))

-- ---- a memory that agrees with the origins, under what each origin is worth

abbrev Agrees : (Origin → ℕ) → List Origin → List ℕ → Type 0
Agrees v o m = (a : ℕ) → Known (origin_at o a) → word_at m a ≡ v (origin_at o a)

read-worth : (v : Origin → ℕ) (o : List Origin) (m : List ℕ) → Agrees v o m → (at : List ℕ) → Each Known (map (origin_at o) at)
    → map (word_at m) at ≡ map v (map (origin_at o) at)
read-worth v o m g [] h = refl
read-worth v o m g (a ∷ at) (k, h) =
    let x : word_at m a ≡ v (origin_at o a) = g a k in
    let y : map (word_at m) at ≡ map v (map (origin_at o) at) = read-worth v o m g at h in
    cc

agrees-store : (v : Origin → ℕ) (o : List Origin) (m : List ℕ) (k at n : ℕ) (ws : List ℕ) → Agrees v o m → length ws ≡ n → at + n ≤ length o
    → at + n ≤ length m → ((j : ℕ) → j < n → v (result k j) ≡ word_at ws j) → Agrees v (sets o at (made k n)) (sets m at ws)
agrees-store v o m k at n ws g l ro rm w a = pick_one (ltb a at) (ltb a (at + n)) refl refl
  where
    size : length (made k n) ≡ n
    size = made-length Origin (result k) n 0

    outside : origin_at (sets o at (made k n)) a ≡ origin_at o a → word_at (sets m at ws) a ≡ word_at m a → Known (origin_at (sets o at (made k n)) a)
        → word_at (sets m at ws) a ≡ v (origin_at (sets o at (made k n)) a)
    outside p q h = q ∙ g a (subst Known p h) ∙ ap v (sym p)

    inside : (j : ℕ) → a ≡ at + j → j < n → word_at (sets m at ws) a ≡ v (origin_at (sets o at (made k n)) a)
    inside j e h =
        let p : origin_at (sets o at (made k n)) (at + j) ≡ result k j =
        stored-in unwritten (made k n) o at j (omega (arith, size)) (omega (arith, size)) ∙ made_at Origin unwritten (result k) n 0 j h ∙ ap (result k) (omega arith) in
        let q : word_at (sets m at ws) (at + j) ≡ word_at ws j = stored-in 0 ws m at j (omega arith) (omega arith) in
        subst (λ (b : ℕ). word_at (sets m at ws) b ≡ v (origin_at (sets o at (made k n)) b)) (sym e) (q ∙ sym (w j h) ∙ ap v (sym p))

    pick_one :
        (x y : Bool) → ltb a at ≡ x → ltb a (at + n) ≡ y → Known (origin_at (sets o at (made k n)) a)
        → word_at (sets m at ws) a ≡ v (origin_at (sets o at (made k n)) a)
    pick_one true y p q h =
        let lt : a < at = ltb-true a at p in
        outside (stored-below unwritten (made k n) o at a lt) (stored-below 0 ws m at a lt) h
    pick_one false true p q h =
        let ge : at ≤ a = ltb-false a at p in
        let lt : a < at + n = ltb-true a (at + n) q in
        inside (a - at) (omega arith) (omega arith)
    pick_one false false p q h =
        let ge : at + n ≤ a = ltb-false a (at + n) q in
        outside (stored-above unwritten (made k n) o at a (omega (arith, size))) (stored-above 0 ws m at a (omega arith)) h

-- what the instruction numbered k is worth is what it gives on the worth of what it reads
abbrev Fact : (Origin → ℕ) → ℕ → Reading → Type 0
Fact v k r = (j : ℕ) → v (result k j) ≡ word_at (all_words (from_words r.instruction (map v r.reads))) j

pub execute-length : (i : Instruction) (m : List ℕ) → length (execute i m) ≡ length m
unfolding execute
execute-length i m = length-sets m i.result (all_words (given i m))

module _ (words : ℕ) where
  -- one instruction, whose result is worth what it gives
  agrees-execute : (v : Origin → ℕ) (o : List Origin) (m : List ℕ) (k : ℕ) (i : Instruction) → Agrees v o m → Roomy words i → length o ≡ words → words ≤ length m
      → Each Known (origins i o) → ((j : ℕ) → v (result k j) ≡ word_at (all_words (from_words i (map v (origins i o)))) j)
      → Agrees v (after k i o) (execute i m)
  unfolding execute
  agrees-execute v o m k i g r lo lm known fact =
      let e : given i m ≡ from_words i (map v (origins i o)) = given-words i m r.count ∙ ap (from_words i) (read-worth v o m g (operand_places i) known) in
      let ws = all_words (from_words i (map v (origins i o))) in
      let size : length ws ≡ result_width i = given-width words i (map v (origins i o)) r in
      let room : i.result + result_width i ≤ words = r.room in
      subst (λ (us : List Value). Agrees v (after k i o) (sets m i.result (all_words us))) (sym e)
      (agrees-store v o m k i.result (result_width i) ws g size (omega arith) (omega arith) (λ j h. fact j))

  after-length : (k : ℕ) (i : Instruction) (o : List Origin) → length (after k i o) ≡ length o
  after-length k i o = length-sets o i.result (made k (result_width i))

  -- a list that carries out instructions whose worth is known
  agrees-carried :
      (v : Origin → ℕ) (rs : List Reading) → ((k : ℕ) (r : Reading) → get_elem? rs k ≡ some r → Each Known r.reads × Fact v k r) → (xs : List Numbered) (o : List Origin) (m : List ℕ)
      → Agrees v o m → length o ≡ words → words ≤ length m → Each (λ x. Roomy words x.instruction) xs → Carries rs o xs
      → Agrees v (final_of xs o) (execute_all (map (λ x. x.instruction) xs) m)
  agrees-carried v rs facts [] o m g lo lm rooms carries = g
  agrees-carried v rs facts (x ∷ xs) o m g lo lm (room, rooms) (c, carries) =
      let i = x.instruction in
      let k = x.number in
      let (known, fact) = facts k c.reading c.at in
      let alike : (ws : List ℕ) → from_words c.reading.instruction ws ≡ from_words i ws =
      λ ws. like c.reading.instruction i ws (sym c.kind) (sym c.type) (sym c.constants) in
      let g' : Agrees v (after k i o) (execute i m) =
      agrees-execute v o m k i g room lo lm (subst (Each Known) (sym c.same) known)
      (λ j.
      fact j
      ∙ ap (λ (us : List Value). word_at (all_words us) j) (alike (map v c.reading.reads))
      ∙ ap (λ (os : List Origin). word_at (all_words (from_words i (map v os))) j) (sym c.same)) in
      let lo' = after-length k i o in
      let lm' = execute-length i m in
      agrees-carried v rs facts xs (after k i o) (execute i m) g' (omega arith) (omega arith) rooms carries
    where
      like : (a b : Instruction) (ws : List ℕ) → a.kind ≡ b.kind → a.type ≡ b.type → a.constants ≡ b.constants → from_words a ws ≡ from_words b ws
      like a b ws p q r =
          ap (λ (k : ℕ). results (kind_of k) a.constants (values_of (takes (kind_of k) a.type) ws)) p
          ∙ ap (λ (t : ℕ). results (kind_of b.kind) a.constants (values_of (takes (kind_of b.kind) t) ws)) q
          ∙ ap (λ (cs : List ℕ). results (kind_of b.kind) cs (values_of (takes (kind_of b.kind) b.type) ws)) r

-- ---- the worth of origins: what a run of the first list gives

abbrev products : List Instruction → List ℕ → List (List ℕ)
products [] m = []
products (i ∷ is) m = all_words (given i m) ∷ products is (execute i m)

abbrev worth : List ℕ → List (List ℕ) → Origin → ℕ
worth args ps unwritten = 0
worth args ps (argument i) = word_at args i
worth args ps (result k j) = word_at (get_or ps k []) j

module _ (words : ℕ) (v : Origin → ℕ) where
  -- the first list's own run
  record Owned (k : ℕ) (is : List Instruction) (o : List Origin) (m : List ℕ) : Type 0 where
    agrees : Agrees v (final k is o) (execute_all is m)
    facts : (j : ℕ) (r : Reading) → get_elem? (readings k is o) j ≡ some r → Each Known r.reads × Fact v (k + j) r

  own-run :
      (is : List Instruction) (k : ℕ) (o : List Origin) (m : List ℕ) → Agrees v o m → length o ≡ words → words ≤ length m → Each (Roomy words) is
      → Each (λ r. Each Known r.reads) (readings k is o) → ((j l : ℕ) → v (result (k + j) l) ≡ word_at (get_or (products is m) j []) l)
      → Owned k is o m
  own-run [] k o m g lo lm rooms known w = record { agrees = g; facts = λ j r e. let z : ◌≡◌ {A = ℕ} 0 1 = cc in absurd (omega arith) }
  own-run (i ∷ is) k o m g lo lm (room, rooms) (kn, known) w =
      let e : given i m ≡ from_words i (map v (origins i o)) = given-words i m room.count ∙ ap (from_words i) (read-worth v o m g (operand_places i) kn) in
      let here : (l : ℕ) → v (result k l) ≡ word_at (all_words (from_words i (map v (origins i o)))) l =
      λ l. ap (λ (n : ℕ). v (result n l)) (sym (add-zero k)) ∙ w 0 l ∙ ap (λ (us : List Value). word_at (all_words us) l) e in
      let g' : Agrees v (after k i o) (execute i m) = agrees-execute words v o m k i g room lo lm kn here in
      let lo' = after-length words k i o in
      let lm' = execute-length i m in
      let later : (j l : ℕ) → v (result (suc k + j) l) ≡ word_at (get_or (products is (execute i m)) j []) l =
      λ j l. ap (λ (n : ℕ). v (result n l)) (suc-add k j ∙ sym (add-suc k j)) ∙ w (suc j) l in
      let h = own-run is (suc k) (after k i o) (execute i m) g' (omega arith) (omega arith) rooms known later in
      record { agrees = h.agrees; facts = all here h.facts }
    where
      all :
          ((l : ℕ) → v (result k l) ≡ word_at (all_words (from_words i (map v (origins i o)))) l)
          → ((j : ℕ) (r : Reading) → get_elem? (readings (suc k) is (after k i o)) j ≡ some r → Each Known r.reads × Fact v (suc k + j) r) → (j : ℕ) (r : Reading)
          → get_elem? (record { instruction = i; reads = origins i o } ∷ readings (suc k) is (after k i o)) j ≡ some r → Each Known r.reads × Fact v (k + j) r
      all here rest zero r q =
          let first : Reading = record { instruction = i; reads = origins i o } in
          let p : first ≡ r = cc in
          subst (λ (x : Reading). Each Known x.reads × Fact v (k + 0) x) p (kn, λ l. ap (λ (n : ℕ). v (result n l)) (add-zero k) ∙ here l)
      all here rest (suc j) r q = let (a, f) = rest j r q in (a, λ l. ap (λ (n : ℕ). v (result n l)) (add-suc k j ∙ sym (suc-add k j)) ∙ f l)

-- ---- the start

pub start-argument : (n w a : ℕ) → a < n → origin_at (start n w) a ≡ argument a
start-argument n w a h =
    let l : length (map argument (span 0 n)) ≡ n = made-length Origin argument n 0 in
    get_or-append (map argument (span 0 n)) _ unwritten a (omega arith) ∙ made_at Origin unwritten argument n 0 a h ∙ ap argument (omega arith)

none-there : (n j : ℕ) → get_or (replicate n unwritten) j unwritten ≡ unwritten
none-there zero j = refl
none-there (suc n) zero = refl
none-there (suc n) (suc j) = none-there n j

start-other : (n w a : ℕ) → n ≤ a → origin_at (start n w) a ≡ unwritten
start-other n w a h =
    let front = map argument (span 0 n) in
    let l : length front ≡ n = made-length Origin argument n 0 in
    let e : a ≡ length front + (a - n) = omega arith in
    ap (origin_at (start n w)) e ∙ get_or-append-add front (replicate (w - n) unwritten) (a - n) unwritten ∙ none-there (w - n) (a - n)

pub start-length : (n w : ℕ) → n ≤ w → length (start n w) ≡ w
start-length n w h =
    let l : length (map argument (span 0 n)) ≡ n = made-length Origin argument n 0 in
    let k : length (replicate (w - n) unwritten) ≡ w - n = length-replicate (w - n) unwritten in
    length-append (map argument (span 0 n)) (replicate (w - n) unwritten) ∙ omega arith

agrees_start : (n w : ℕ) (args m : List ℕ) (ps : List (List ℕ)) → length args ≡ n → n ≤ length m → Agrees (worth args ps) (start n w) (sets m 0 args)
agrees_start n w args m ps l r a h = pick_one (ltb a n) refl
  where
    pick_one : (b : Bool) → ltb a n ≡ b → word_at (sets m 0 args) a ≡ worth args ps (origin_at (start n w) a)
    pick_one true q =
        let lt : a < n = ltb-true a n q in
        let z : 0 + a ≡ a = omega arith in
        ap (word_at (sets m 0 args)) (sym z) ∙ stored-in 0 args m 0 a (omega arith) (omega arith) ∙ ap (worth args ps) (sym (start-argument n w a lt))
    pick_one false q = absurd (subst Known (start-other n w a (ltb-false a n q)) h)

-- ---- the whole

-- b' carries out instructions of b, by these numbers, on words of the same origins, and its outputs are of the same origins
pub record Follows (b b' : BoardList) (xs : List Numbered) : Type 0 where
  pub arguments : b'.arguments ≡ b.arguments
  pub within : b.arguments ≤ b.words
  pub within' : b.arguments ≤ b'.words
  pub rooms : Each (Roomy b.words) b.instructions
  pub known : Each (λ r. Each Known r.reads) (readings 0 b.instructions (start b.arguments b.words))
  pub listed : b'.instructions ≡ map (λ x. x.instruction) xs
  pub rooms' : Each (λ x. Roomy b'.words x.instruction) xs
  pub carries : Carries (readings 0 b.instructions (start b.arguments b.words)) (start b.arguments b'.words) xs
  pub out-known : Each Known (map (origin_at (final 0 b.instructions (start b.arguments b.words))) b.outputs)
  pub outputs :
      map (origin_at (final 0 b.instructions (start b.arguments b.words))) b.outputs
      ≡ map (origin_at (final_of xs (start b.arguments b'.words))) b'.outputs

pub same-outputs : (b b' : BoardList) (xs : List Numbered) → Follows b b' xs → (args m m' : List ℕ) → length args ≡ b.arguments → b.words ≤ length m
    → b'.words ≤ length m' → (run b' args m').outputs ≡ (run b args m).outputs
same-outputs b b' xs f args m m' l r r' =
    let n = b.arguments in
    let o = start n b.words in
    let o' = start n b'.words in
    let w1 = f.within in
    let w2 = f.within' in
    let first = sets m 0 args in
    let first' = sets m' 0 args in
    let lm : length first ≡ length m = length-sets m 0 args in
    let lm' : length first' ≡ length m' = length-sets m' 0 args in
    let ps = products b.instructions first in
    let v = worth args ps in
    let zero-add : (j : ℕ) → 0 + j ≡ j = λ j. omega arith in
    let own =
    own-run b.words v b.instructions 0 o first (agrees_start n b.words args m ps l (omega arith)) (start-length n b.words w1) (omega arith) f.rooms
    f.known (λ j k. ap (λ (i : ℕ). v (result i k)) (zero-add j)) in
    let facts : (k : ℕ) (x : Reading) → get_elem? (readings 0 b.instructions o) k ≡ some x → Each Known x.reads × Fact v k x =
    λ k x e. subst (λ (i : ℕ). Each Known x.reads × Fact v i x) (zero-add k) (own.facts k x e) in
    let other =
    agrees-carried b'.words v (readings 0 b.instructions o) facts xs o' first' (agrees_start n b'.words args m' ps l (omega arith))
    (start-length n b'.words w2) (omega arith) f.rooms' f.carries in
    let end = final 0 b.instructions o in
    let end' = final_of xs o' in
    let after' = execute_all (map (λ x. x.instruction) xs) first' in
    ap (λ (is : List Instruction). map (word_at (execute_all is first')) b'.outputs) f.listed
    ∙ read-worth v end' after' other b'.outputs (subst (Each Known) f.outputs f.out-known)
    ∙ ap (map v) (sym f.outputs)
    ∙ sym (read-worth v end (execute_all b.instructions first) own.agrees b.outputs f.out-known)
