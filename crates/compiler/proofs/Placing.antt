-- From names to places. A list by names and the same list by words come by the same values in the same order, so what a survey stores by the
-- numbers of names is what the placement asks of the list by words: the width of each value, and the instruction before which it is no longer
-- held. With the places that it then gives, the names' words are the words of the placed list.
use Prim.Native.Nat.{ℕ, zero, suc, ◌+◌, ◌-◌, ◌/◌, ◌%◌, ◌≤◌, ◌<◌}
use mathlib.Core.Path.{◌≡◌, refl, sym, ap, ap₂, ◌∙◌, subst}
use mathlib.Core.List.{List, [], ◌∷◌, ◌++◌, map, append-nil, append_assoc, map-append}
use mathlib.Core.Logic.{⊎_elim}
use native.Mathlib.Omega.{arith}
use native.Mathlib.Nat.{add-zero}
use lib.ListN.{length, get_or, set, replicate, length-append, length-map, length-set, get_or-append}
use lib.Seq.{get_or-set_same, get_or-set_other}
use Rattle.base.specs.Limits.{placed_limit, word_limit, address_limit}
use Rattle.base.specs.Lists.{span}
use Rattle.base.proofs.Numbers.{lt-or-eq}
use Rattle.ports.specs.Kinds.{kind_of}
use Rattle.ports.specs.Ports.{width, widths, takes, gives}
use Rattle.bytecode.specs.Run.{Instruction, BoardList, spans}
use Rattle.bytecode.specs.Origin.{result_width}
use Rattle.bytecode.specs.Ranges.{Range, result_value}
use Rattle.std.specs.Prelude.{Option}
use Rattle.placement.specs.Live.{input_values}
use Rattle.placement.specs.Place.{Placed, places_of, rename, renamed, reusing}
use Rattle.placement.specs.OneValue.{Placeable}
use Rattle.placement.specs.Balance.{blank, instruction_at}
use Rattle.placement.specs.Arrays.{nothing, values_of, value_at, Widths, Named, Noted, Lasting, Stored}
use Rattle.placement.specs.Record.{Placement}
use Rattle.placement.proofs.Values.{values_length}
use Rattle.placement.proofs.Notes.{stored-none, stored_one, noted-start, noted_step, noted-end}
use Rattle.placement.proofs.Carried.{some_word}
use Rattle.placement.proofs.Words.{all-wide, word-is, placed_below}
use Rattle.lowering.specs.Naming.{name_step, Names, AllNames, Renames, AllRename}
use Rattle.lowering.proofs.Naming.{inputs-length}
use Rattle.compiler.specs.Emit.{relocate, relocated, noted, notes, measures}

-- ---- lists

middle : {A : Type 0} (d x : A) (xs ys : List A) → get_or (xs ++ x ∷ ys) (length xs) d ≡ x
middle d x [] ys = refl
middle d x (y ∷ xs) ys = middle d x xs ys

one_more : {A : Type 0} (x : A) (xs ys : List A) → (xs ++ (x ∷ [])) ++ ys ≡ xs ++ x ∷ ys
one_more x xs ys = append_assoc xs (x ∷ []) ys

instruction-same : {k k' t t' r r' : ℕ} {xs xs' cs cs' : List ℕ} → k ≡ k' → t ≡ t' → xs ≡ xs' → cs ≡ cs' → r ≡ r'
    → ◌≡◌ {A = Instruction} (record { kind = k; type = t; operands = xs; constants = cs; result = r }) (record { kind = k'; type = t'; operands = xs'; constants = cs'; result = r' })
instruction-same a b c d e = rw (a, b, c, d, e) refl

-- ---- widths

measures-length : (wide : List ℕ) (is : List Instruction) → length (measures wide is) ≡ length wide
measures-length wide [] = refl
measures-length wide (i ∷ is) = measures-length (set wide (i.result / name_step) (result_width i)) is ∙ length-set wide (i.result / name_step) (result_width i)

-- these are the widths of these values
abbrev pub Wides : List ℕ → List Range → Type 0
Wides wide values = (v : ℕ) → v < length values → (get_or values v nothing).width ≡ get_or wide v 0

same_width : {values : List Range} {i j : Instruction} → Renames values i j → result_width i ≡ result_width j
same_width {values} {i} {j} r = ap₂ (λ (k t : ℕ). widths (gives (kind_of k) t)) r.kind r.type

wides-next : (wide : List ℕ) (values : List Range) (i j : Instruction) → Renames values i j → length values < length wide → Wides wide values
    → Wides (set wide (i.result / name_step) (result_width i)) (values ++ (result_value j ∷ []))
wides-next wide values i j r l h v lv = ⊎_elim below here (lt-or-eq v (length values) (let e = length-append values (result_value j ∷ []) in omega arith))
  where
    at : i.result / name_step ≡ length values
    at = let e = r.result in omega arith

    below : v < length values → (get_or (values ++ (result_value j ∷ [])) v nothing).width ≡ get_or (set wide (i.result / name_step) (result_width i)) v 0
    below lt =
        ap (λ (x : Range). x.width) (get_or-append values (result_value j ∷ []) nothing v lt)
        ∙ h v lt
        ∙ sym (get_or-set_other wide (i.result / name_step) v (result_width i) 0 (let e = at in omega arith))

    here : v ≡ length values → (get_or (values ++ (result_value j ∷ [])) v nothing).width ≡ get_or (set wide (i.result / name_step) (result_width i)) v 0
    here e =
        ap (λ (n : ℕ). (get_or (values ++ (result_value j ∷ [])) n nothing).width) e
        ∙ ap (λ (x : Range). x.width) (middle nothing (result_value j) values [])
        ∙ sym (same_width r)
        ∙ sym (get_or-set_same wide (i.result / name_step) (result_width i) 0 (let x = at in omega arith))
        ∙ ap (λ (n : ℕ). get_or (set wide (i.result / name_step) (result_width i)) n 0) (at ∙ sym e)

wides-all : (is js : List Instruction) (wide : List ℕ) (values : List Range) → AllRename values is js → length values + length js ≤ length wide → Wides wide values
    → Wides (measures wide is) (values ++ map result_value js)
wides-all [] [] wide values r l h = subst (Wides wide) (sym (append-nil values)) h
wides-all [] (j ∷ js) wide values r l h = absurd r
wides-all (i ∷ is) [] wide values r l h = absurd r
wides-all (i ∷ is) (j ∷ js) wide values (a, r) l h =
    let values' = values ++ (result_value j ∷ []) in
    let e : length values' ≡ length values + 1 = length-append values (result_value j ∷ []) in
    let s : length (set wide (i.result / name_step) (result_width i)) ≡ length wide = length-set wide (i.result / name_step) (result_width i) in
    subst (Wides (measures wide (i ∷ is))) (one_more (result_value j) values (map result_value js))
    (wides-all is js (set wide (i.result / name_step) (result_width i)) values' r (omega arith) (wides-next wide values i j a (omega arith) h))

-- ---- notes

pub noted-length : (last : List ℕ) (x : ℕ) (names : List ℕ) → length (noted last x names) ≡ length last
noted-length last x [] = refl
noted-length last x (a ∷ names) = noted-length (set last (a / name_step) x) x names ∙ length-set last (a / name_step) x

pub notes-length : (m : ℕ) (last : List ℕ) (is : List Instruction) → length (notes m last is) ≡ length last
notes-length m last [] = refl
notes-length m last (i ∷ is) = notes-length m (noted last (suc (i.result / name_step) - m) i.operands) is ∙ noted-length last (suc (i.result / name_step) - m) i.operands

-- the numbers of the values of names
abbrev numbers : List ℕ → List ℕ
numbers = map (λ a. a / name_step)

-- all of them are known
abbrev AllLow : ℕ → List ℕ → Type 0
AllLow n [] = Unit {0}
AllLow n (a ∷ names) = (a / name_step < n) × AllLow n names

noted-stored : (before : List ℕ) (x : ℕ) (names last vs : List ℕ) → AllLow (length before) names → length last ≡ length before → Stored before last vs x
    → Stored before (noted last x names) (vs ++ numbers names) x
noted-stored before x [] last vs low size h = subst (λ (us : List ℕ). Stored before last us x) (sym (append-nil vs)) h
noted-stored before x (a ∷ names) last vs (l, low) size h =
    subst (λ (us : List ℕ). Stored before (noted last x (a ∷ names)) us x) (one_more (a / name_step) vs (numbers names))
    (noted-stored before x names (set last (a / name_step) x) (vs ++ (a / name_step ∷ [])) low (length-set last (a / name_step) x ∙ size) (stored_one before last vs x (a / name_step) h l size))

-- all values of a list, of which these are the first
module _ (inputs : List ℕ) (b : BoardList) (values rest : List Range) (e : values_of inputs b ≡ values ++ rest) where
  value-is : (v : ℕ) → v < length values → value_at inputs b v ≡ get_or values v nothing
  value-is v l = ap (λ (rs : List Range). get_or rs v nothing) e ∙ get_or-append values rest nothing v l

  few-values : length values ≤ length inputs + length b.instructions
  few-values = let a = values_length inputs b in let c = ap length e ∙ length-append values rest in omega arith

  all_named : (ts names xs : List ℕ) → AllNames values ts names xs → Named (value_at inputs b) (length inputs + length b.instructions) (numbers names) ts xs
  all_named [] [] [] h = tt
  all_named [] [] (x ∷ xs) h = absurd h
  all_named [] (a ∷ names) xs h = absurd h
  all_named (t ∷ ts) [] xs h = absurd h
  all_named (t ∷ ts) (a ∷ names) [] h = absurd h
  all_named (t ∷ ts) (a ∷ names) (x ∷ xs) (n, h) =
      let v = a / name_step in
      let q : value_at inputs b v ≡ get_or values v nothing = value-is v n.known in
      let f : (value_at inputs b v).first ≡ (get_or values v nothing).first = ap (λ (r : Range). r.first) q in
      let w : (value_at inputs b v).width ≡ (get_or values v nothing).width = ap (λ (r : Range). r.width) q in
      let k = n.known in
      let y = n.word in
      let z = n.inside in
      let c = few-values in
      (omega arith, omega arith, omega arith, all_named ts names xs h)

  all-low : (limit : ℕ) → length values ≤ limit → (ts names xs : List ℕ) → AllNames values ts names xs → AllLow limit names
  all-low limit l [] [] [] h = tt
  all-low limit l [] [] (x ∷ xs) h = absurd h
  all-low limit l [] (a ∷ names) xs h = absurd h
  all-low limit l (t ∷ ts) [] xs h = absurd h
  all-low limit l (t ∷ ts) (a ∷ names) [] h = absurd h
  all-low limit l (t ∷ ts) (a ∷ names) (x ∷ xs) (n, h) = let k = n.known in (omega arith, all-low limit l ts names xs h)

module _ (inputs : List ℕ) (b : BoardList) (p : Placeable inputs b) (few : length inputs + length b.instructions ≤ placed_limit) where
  abbrev m : ℕ
  m = length inputs

  abbrev values_by : List Instruction → List Range
  values_by done = input_values 0 inputs ++ map result_value done

  values-count : (done : List Instruction) → length (values_by done) ≡ m + length done
  values-count done =
      length-append (input_values 0 inputs) (map result_value done) ∙ ap₂ (λ (x y : ℕ). x + y) (inputs-length 0 inputs) (length-map done result_value)

  values-split : (done js : List Instruction) → b.instructions ≡ done ++ js → values_of inputs b ≡ values_by done ++ map result_value js
  values-split done js e =
      ap (λ (is : List Instruction). input_values 0 inputs ++ map result_value is) e
      ∙ ap (λ (rs : List Range). input_values 0 inputs ++ rs) (map-append result_value done js)
      ∙ sym (append_assoc (input_values 0 inputs) (map result_value done) (map result_value js))

  values-more : (done : List Instruction) (j : Instruction) → values_by done ++ (result_value j ∷ []) ≡ values_by (done ++ (j ∷ []))
  values-more done j =
      append_assoc (input_values 0 inputs) (map result_value done) (result_value j ∷ [])
      ∙ ap (λ (rs : List Range). input_values 0 inputs ++ rs) (sym (map-append result_value done (j ∷ [])))

  notes-all : (is js done : List Instruction) (last : List ℕ) → AllRename (values_by done) is js → b.instructions ≡ done ++ js → length last ≡ placed_limit
      → Noted last m inputs b (length done) → Noted (notes m last is) m inputs b (length b.instructions)
  notes-all [] [] done last r e size h = subst (λ (n : ℕ). Noted last m inputs b n) (ap length (sym (append-nil done)) ∙ ap length (sym e)) h
  notes-all [] (j ∷ js) done last r e size h = absurd r
  notes-all (i ∷ is) [] done last r e size h = absurd r
  notes-all (i ∷ is) (j ∷ js) done last (a, r) e size h =
      let k = length done in
      let x = suc (i.result / name_step) - m in
      let values = values_by done in
      let count : length values ≡ m + k = values-count done in
      let all : length b.instructions ≡ k + suc (length js) = ap length e ∙ length-append done (j ∷ js) in
      let here : instruction_at b k ≡ j = ap (λ (is : List Instruction). get_or is k blank) e ∙ middle blank j done js in
      let split = values-split done (j ∷ js) e in
      let named = all_named inputs b values (map result_value (j ∷ js)) split (takes (kind_of j.kind) j.type) i.operands j.operands a.operands in
      let low = all-low inputs b values (map result_value (j ∷ js)) split (length last) (omega arith) (takes (kind_of j.kind) j.type) i.operands j.operands a.operands in
      let number : x ≡ k + 1 = let q = a.result in omega arith in
      let stored : Stored last (noted last x i.operands) (numbers i.operands) (k + 1) =
      subst (Stored last (noted last x i.operands) (numbers i.operands)) number (noted-stored last x i.operands last [] low refl (stored-none last x)) in
      let step : Noted (noted last x i.operands) m inputs b (k + 1) =
      noted_step m inputs b p refl few last (noted last x i.operands) (numbers i.operands) size k (omega arith) h
      (subst (λ (y : Instruction). Named (value_at inputs b) (m + length b.instructions) (numbers i.operands) (takes (kind_of y.kind) y.type) y.operands) (sym here) named) stored in
      notes-all is js (done ++ (j ∷ [])) (noted last x i.operands) (subst (λ (vs : List Range). AllRename vs is js) (values-more done j) r) (e ∙ sym (one_more j done js))
      (noted-length last x i.operands ∙ size) (subst (λ (n : ℕ). Noted (noted last x i.operands) m inputs b n) (sym (length-append done (j ∷ []))) step)

  -- ---- after the survey

  module _ (is : List Instruction) (named : AllRename (input_values 0 inputs) is b.instructions) where
    start : AllRename (values_by []) is b.instructions
    start = subst (λ (vs : List Range). AllRename vs is b.instructions) (sym (append-nil (input_values 0 inputs))) named

    pub widths-surveyed : (wide : List ℕ) → length wide ≡ placed_limit → Wides wide (input_values 0 inputs) → Widths (measures wide is) m inputs b
    widths-surveyed wide size h =
        let c = inputs-length 0 inputs in
        record {
          before = refl;
          wide = λ v l. wides-all is b.instructions wide (input_values 0 inputs) named (omega arith) h v (let n = values_length inputs b in omega arith);
        }

    pub lasting-surveyed : (ts names xs : List ℕ) → b.outputs ≡ spans ts xs → AllNames (values_of inputs b) ts names xs → {x : ℕ} → x ≡ length b.instructions + 1
        → Lasting (noted (notes m (replicate placed_limit 0) is) x names) m inputs b
    lasting-surveyed ts names xs outs ports {x} ex =
        let zeros : List ℕ = replicate placed_limit 0 in
        let last = notes m zeros is in
        let size : length last ≡ placed_limit = notes-length m zeros is in
        let whole : values_of inputs b ≡ values_of inputs b ++ [] = sym (append-nil (values_of inputs b)) in
        let all = values_length inputs b in
        let low = all-low inputs b (values_of inputs b) [] whole (length last) (omega arith) ts names xs ports in
        let h = notes-all is b.instructions [] zeros start refl refl (noted-start placed_limit m inputs b) in
        noted-end m inputs b p refl few last (noted last x names) (numbers names) size (length b.instructions) ts xs refl h outs
        (all_named inputs b (values_of inputs b) [] whole ts names xs ports)
        (subst (Stored last (noted last x names) (numbers names)) ex (noted-stored last x names last [] low refl (stored-none last x)))

  -- ---- with the places

  module _ (place until wide : List ℕ) (r : Option ℕ) (w : Widths wide m inputs b) (pl : Placement m (length b.instructions) place until r inputs b) (fits : (reusing inputs b).words ≤ word_limit) where
    abbrev ps : List Placed
    ps = places_of inputs b

    -- the word x of the value numbered v
    word_at : (v x d : ℕ) → v < m + length b.instructions → x ≡ (value_at inputs b v).first + d → d < (value_at inputs b v).width → rename ps x ≡ get_or place v 0 + d
    word_at v x d l e lt =
        word-is inputs b m (length b.instructions) place until r refl pl p fits v x l (omega arith) (omega arith) ∙ ap (λ (n : ℕ). get_or place v 0 + n) (let z = e in omega arith)

    word_low : (v x d : ℕ) → v < m + length b.instructions → x ≡ (value_at inputs b v).first + d → d < (value_at inputs b v).width → rename ps x < word_limit
    word_low v x d l e lt = let a = placed_below inputs b m (length b.instructions) place until r refl pl p fits v x l (omega arith) (omega arith) in omega arith

    relocate-at : (a x : ℕ) → a / name_step < m + length b.instructions → x ≡ (value_at inputs b (a / name_step)).first + a % name_step → a % name_step < (value_at inputs b (a / name_step)).width
        → relocate place a ≡ rename ps x
    relocate-at a x l e lt =
        let h = word_at (a / name_step) x (a % name_step) l e lt in
        let k = word_low (a / name_step) x (a % name_step) l e lt in
        let z : (get_or place (a / name_step) 0 + a % name_step) % address_limit ≡ get_or place (a / name_step) 0 + a % name_step = omega arith in
        z ∙ sym h

    module _ (values rest : List Range) (split : values_of inputs b ≡ values ++ rest) where
      one_name : (t a x : ℕ) → Names values t a x → relocate place a ≡ rename ps x
      one_name t a x n =
          let q : value_at inputs b (a / name_step) ≡ get_or values (a / name_step) nothing = value-is inputs b values rest split (a / name_step) n.known in
          let f = ap (λ (r : Range). r.first) q in
          let g = ap (λ (r : Range). r.width) q in
          let k = n.known in
          let y = n.word in
          let z = n.inside in
          let c = few-values inputs b values rest split in
          let one = some_word t in
          relocate-at a x (omega arith) (omega arith) (omega arith)

      all-relocated : (ts names xs : List ℕ) → AllNames values ts names xs → map (relocate place) names ≡ map (rename ps) xs
      all-relocated [] [] [] h = refl
      all-relocated [] [] (x ∷ xs) h = absurd h
      all-relocated [] (a ∷ names) xs h = absurd h
      all-relocated (t ∷ ts) [] xs h = absurd h
      all-relocated (t ∷ ts) (a ∷ names) [] h = absurd h
      all-relocated (t ∷ ts) (a ∷ names) (x ∷ xs) (n, h) = ap₂ (λ (y : ℕ) (ys : List ℕ). y ∷ ys) (one_name t a x n) (all-relocated ts names xs h)

      -- the words of a value one after another
      span-relocated : (t a x : ℕ) → Names values t a x → (c d : ℕ) → d + c ≤ width t → span (relocate place a + d) c ≡ map (rename ps) (span (x + d) c)
      span-relocated t a x n zero d l = refl
      span-relocated t a x n (suc c) d l =
          let v = a / name_step in
          let q : value_at inputs b v ≡ get_or values v nothing = value-is inputs b values rest split v n.known in
          let f = ap (λ (r : Range). r.first) q in
          let g = ap (λ (r : Range). r.width) q in
          let k = n.known in
          let y = n.word in
          let z = n.inside in
          let e = few-values inputs b values rest split in
          let one = some_word t in
          let here : relocate place a ≡ rename ps x = one_name t a x n in
          let first : rename ps x ≡ get_or place v 0 + a % name_step = word_at v x (a % name_step) (omega arith) (omega arith) (omega arith) in
          let this : rename ps (x + d) ≡ get_or place v 0 + (a % name_step + d) = word_at v (x + d) (a % name_step + d) (omega arith) (omega arith) (omega arith) in
          let u : relocate place a + d ≡ rename ps (x + d) = omega (arith, here, first, this) in
          let s1 : suc (relocate place a + d) ≡ relocate place a + suc d = omega arith in
          let s2 : suc (x + d) ≡ x + suc d = omega arith in
          ap₂ (λ (y : ℕ) (ys : List ℕ). y ∷ ys) u
          (ap (λ (n : ℕ). span n c) s1 ∙ span-relocated t a x n c (suc d) (omega arith) ∙ ap (λ (n : ℕ). map (rename ps) (span n c)) (sym s2))

      pub spans-relocated : (ts names xs : List ℕ) → AllNames values ts names xs → spans ts (map (relocate place) names) ≡ map (rename ps) (spans ts xs)
      spans-relocated [] [] [] h = refl
      spans-relocated [] [] (x ∷ xs) h = absurd h
      spans-relocated [] (a ∷ names) xs h = absurd h
      spans-relocated (t ∷ ts) [] xs h = absurd h
      spans-relocated (t ∷ ts) (a ∷ names) [] h = absurd h
      spans-relocated (t ∷ ts) (a ∷ names) (x ∷ xs) (n, h) =
          let z : relocate place a + 0 ≡ relocate place a = add-zero (relocate place a) in
          let y : x + 0 ≡ x = add-zero x in
          ap₂ (λ (us vs : List ℕ). us ++ vs)
          (ap (λ (n : ℕ). span n (width t)) (sym z) ∙ span-relocated t a x n (width t) 0 (omega arith) ∙ ap (λ (n : ℕ). map (rename ps) (span n (width t))) y) (spans-relocated ts names xs h)
          ∙ sym (map-append (rename ps) (span x (width t)) (spans ts xs))

    instruction-relocated : (i j : Instruction) (done js : List Instruction) → Renames (values_by done) i j → b.instructions ≡ done ++ j ∷ js → relocated place i ≡ renamed ps j
    instruction-relocated i j done js a e =
        let k = length done in
        let values = values_by done in
        let split = values-split done (j ∷ js) e in
        let operands : map (relocate place) i.operands ≡ map (rename ps) j.operands =
        all-relocated values (map result_value (j ∷ js)) split (takes (kind_of j.kind) j.type) i.operands j.operands a.operands in
        let count : length values ≡ m + k = values-count done in
        let all : length b.instructions ≡ k + suc (length js) = ap length e ∙ length-append done (j ∷ js) in
        let v = i.result / name_step in
        let at : v ≡ length values = let q = a.result in omega arith in
        let zero_word : i.result % name_step ≡ 0 = let q = a.result in omega arith in
        let own : value_at inputs b v ≡ result_value j =
        ap (value_at inputs b) at ∙ ap (λ (rs : List Range). get_or rs (length values) nothing) split ∙ middle nothing (result_value j) values (map result_value js) in
        let f = ap (λ (r : Range). r.first) own in
        let g = ap (λ (r : Range). r.width) own in
        let wide-v = w.wide v (omega arith) in
        let one = (all-wide wide m inputs b p w v (omega arith)).0 in
        let result : relocate place i.result ≡ rename ps j.result = relocate-at i.result j.result (omega arith) (omega arith) (omega arith) in
        instruction-same a.kind a.type operands a.constants result

    pub all-relocated-code : (is js done : List Instruction) → AllRename (values_by done) is js → b.instructions ≡ done ++ js → map (relocated place) is ≡ map (renamed ps) js
    all-relocated-code [] [] done r e = refl
    all-relocated-code [] (j ∷ js) done r e = absurd r
    all-relocated-code (i ∷ is) [] done r e = absurd r
    all-relocated-code (i ∷ is) (j ∷ js) done (a, r) e =
        ap₂ (λ (y : Instruction) (ys : List Instruction). y ∷ ys) (instruction-relocated i j done js a e)
        (all-relocated-code is js (done ++ (j ∷ [])) (subst (λ (vs : List Range). AllRename vs is js) (values-more done j) r) (e ∙ sym (one_more j done js)))
