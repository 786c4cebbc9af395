-- A node with an instruction of its own: the stores of its bytes, and what is written of a node as read.
use Prim.Native.Nat.{ℕ, zero, suc, ◌+◌, ◌-◌, ◌*◌, ◌/◌, ◌≤◌}
use mathlib.Core.Path.{◌≡◌, refl, sym, ap, ◌∙◌, subst}
use mathlib.Core.List.{List, [], ◌∷◌, ◌++◌, map, append-nil}
use native.Mathlib.Omega.{arith}
use native.Mathlib.Numerals.{add-one, add-two}
use lib.ListN.{length, set, length-set, length-append, length-map, take, drop}
use lib.Seq.{sets}
use Rattle.base.specs.Bytes.{Bytes, bytes_of, all_bytes}
use Rattle.base.specs.Lists.{Each}
use Rattle.base.proofs.Stands.{all_append}
use Rattle.base.proofs.Stores.{sets-append, then-four}
use Rattle.ports.specs.declared.Ports.{Ports}
use Rattle.ports.specs.Kinds.{kind_of}
use Rattle.ports.specs.Ports.{widths, gives, ports_of, result_words}
use Rattle.ports.proofs.Laws.{words-given}
use Rattle.value.specs.declared.Mat4.{Mat4}
use Rattle.value.specs.declared.Value.{Value}
use Rattle.value.specs.declared.Value.TheVariants.{Matrix}
use Rattle.value.specs.Values.{row_words, words_of}
use Rattle.value.specs.Typed.{Finite}
use Rattle.graph.specs.Graph.{Payload, consts, refs}
use Rattle.graph.specs.Look.{reads_of, reads}
use Rattle.reader.specs.declared.Node.{Node}
use Rattle.reader.specs.declared.Payload as Payloads
use Rattle.reader.specs.declared.Reads.{Reads}
use Rattle.reader.specs.Layout.{node_at}
use Rattle.reader.specs.Records.{node_of}
use Rattle.reader.specs.Find.{ReadsNode}
use Rattle.lowering.specs.Compile.{Inlined, single, inlined}
use Rattle.sums.specs.Position.{before}
use Rattle.sums.proofs.CodeSizes.{single-length}
use Rattle.compiler.specs.declared.Reached.{Reached}
use Rattle.compiler.specs.Emit.{address_of, addresses_in, inline_with, node_inlined, naming_of, relocate, bytes_by, noted, CodeRoom, Walks}
use Rattle.compiler.proofs.Filling.{addresses-part}
use Rattle.compiler.proofs.References.{constant-is, references-are}
use Rattle.bytecode.specs.declared.Version.{Version}
use Rattle.bytecode.specs.declared.Version.TheVariants.{V1, V2}
use Rattle.bytecode.specs.Run.{Instruction}
use Rattle.bytecode.specs.Code.{instruction_code}
use Rattle.bytecode.proofs.Back.{instruction-length}
use Rattle.lowering.specs.Naming.{name_step, sizing}
use Rattle.compiler.specs.declared.Pass.{Pass}
use Rattle.compiler.specs.declared.Pass.TheVariants.{Survey, Sequential, Addressed}
use Rattle.compiler.specs.Units.{unit_bound}

pub addresses-length : (locations ins : List ℕ) (first c n : ℕ) → length (addresses_in locations ins first c n) ≡ n
unfolding addresses_in
addresses-length locations ins first c zero = refl
addresses-length locations ins first c (suc n) = ap suc (addresses-length locations ins first (c + 1) n)

-- ---- the stores of an instruction

pub head-length : (code : List ℕ) (at k t : ℕ) → length (set (set code at k) (at + 1) t) ≡ length code
head-length code at k t = length-set (set code at k) (at + 1) t ∙ length-set code at k

-- w are the words of its results, by the row of its kind
module _ (kind ty : ℕ) (xs ws : List ℕ) {row : Ports} {w : ℕ} (er : row ≡ ports_of (kind_of kind)) (ew : w ≡ result_words row ty) where
  words_are : w ≡ widths (gives (kind_of kind) ty)
  words_are = ew ∙ ap (λ (r : Ports). result_words r ty) er ∙ words-given (kind_of kind) ty

  -- the room for its bytes, and for the words of its results
  pub single-fits : {code place : List ℕ} {at next : ℕ} → CodeRoom Sequential code place at next (single (sizing V1) kind ty xs ws next)
      → (at + 2 + 2 * length xs + 8 * length ws ≤ length code) × (next + w ≤ unit_bound)
  single-fits {next = next} h =
      let a = single-length (sizing V1) kind ty xs ws next in
      let b = words_are in
      let c = h.room in
      let d = h.end in
      (omega arith, omega arith)

  pub emitted : {code code' : List ℕ} {at next end cell m : ℕ} {place wide : List ℕ} → code' ≡ sets (set (set code at kind) (at + 1) ty) (at + 2) (all_bytes 2 xs ++ all_bytes 8 ws)
      → end ≡ at + 2 + 2 * length xs + 8 * length ws
      → Walks Sequential m code place wide code' place wide at (single (sizing V1) kind ty xs ws next) (record { at = end; next = next + w; cell = cell })
  emitted {code} {at = at} {next = next} e l =
      let a = single-length (sizing V1) kind ty xs ws next in
      record {
        written = e ∙ rw (add-one, add-two) (ap (λ (ys : List ℕ). sets code at (kind ∷ ty ∷ ys)) (sym (append-nil (all_bytes 2 xs ++ all_bytes 8 ws))));
        noted = refl;
        measured = refl;
        end = omega arith;
        next = ap (λ (x : ℕ). next + x) words_are;
      }

  -- a survey writes nothing
  pub surveyed : {code place place' wide wide' : List ℕ} {at next cell m x : ℕ} → x ≡ suc (next / name_step) - m → place' ≡ noted place x xs → wide' ≡ set wide (next / name_step) w
      → Walks Survey m code place wide code place' wide' at (single (sizing V2) kind ty xs ws next) (record { at = at; next = next + name_step; cell = cell })
  surveyed {place = place} {wide = wide} {next = next} ex ep ew' =
      record {
        written = refl;
        noted = ep ∙ ap (λ (y : ℕ). noted place y xs) ex;
        measured = ew' ∙ ap (λ (y : ℕ). set wide (next / name_step) y) words_are;
        end = omega arith;
        next = refl;
      }

-- in version 2
module _ (place : List ℕ) (kind ty : ℕ) (xs ws : List ℕ) (next : ℕ) where
  placed-length : length (bytes_by Addressed place (single (sizing V2) kind ty xs ws next).code) ≡ 4 + 2 * length xs + 8 * length ws
  placed-length =
      let i : Instruction = record { kind = kind; type = ty; operands = map (relocate place) xs; constants = ws; result = relocate place next } in
      let a : length (instruction_code V2 i ++ []) ≡ length (instruction_code V2 i) + 0 = length-append (instruction_code V2 i) [] in
      let b : length (instruction_code V2 i) ≡ 2 + 2 + 2 * length (map (relocate place) xs) + 8 * length ws = instruction-length V2 i in
      let c : length (map (relocate place) xs) ≡ length xs = length-map xs (relocate place) in
      omega arith

  pub placed-fits : {code : List ℕ} {at : ℕ} → CodeRoom Addressed code place at next (single (sizing V2) kind ty xs ws next)
      → (at + 4 + 2 * length xs + 8 * length ws ≤ length code) × (next + name_step ≤ unit_bound)
  placed-fits h = let a = placed-length in let c = h.room in let d = h.end in (omega arith, omega arith)

  pub placed : {code code₁ code' wide : List ℕ} {at from end cell m x : ℕ} → x ≡ relocate place next → code₁ ≡ sets code at (kind ∷ ty ∷ bytes_of 2 x) → from ≡ at + 4
      → code' ≡ sets code₁ from (all_bytes 2 (map (relocate place) xs) ++ all_bytes 8 ws) → end ≡ from + 2 * length xs + 8 * length ws
      → Walks Addressed m code place wide code' place wide at (single (sizing V2) kind ty xs ws next) (record { at = end; next = next + name_step; cell = cell })
  placed {code} {code₁} {at = at} ex e₁ ef e l =
      let a = placed-length in
      let head = kind ∷ ty ∷ bytes_of 2 (relocate place next) in
      let body = all_bytes 2 (map (relocate place) xs) ++ all_bytes 8 ws in
      record {
        written =
            e ∙ ap (λ (q : ℕ). sets code₁ q body) ef
            ∙ ap (λ (ys : List ℕ). sets ys (at + 4) body) (e₁ ∙ ap (λ (y : ℕ). sets code at (kind ∷ ty ∷ bytes_of 2 y)) ex)
            ∙ sym (sets-append head body code at)
            ∙ ap (λ (ys : List ℕ). sets code at (head ++ ys)) (sym (append-nil body));
        noted = refl;
        measured = refl;
        end = omega arith;
        next = refl;
      }

-- the words of four lists, one after another
pub all-stored : (l : List ℕ) {m n o k : List ℕ} (at : ℕ) (ws xs ys zs : List ℕ) → m ≡ sets l at (all_bytes 8 ws) → n ≡ sets m (at + length (all_bytes 8 ws)) (all_bytes 8 xs)
    → o ≡ sets n (at + length (all_bytes 8 ws ++ all_bytes 8 xs)) (all_bytes 8 ys) → k ≡ sets o (at + length (all_bytes 8 ws ++ all_bytes 8 xs ++ all_bytes 8 ys)) (all_bytes 8 zs)
    → k ≡ sets l at (all_bytes 8 (ws ++ xs ++ ys ++ zs))
all-stored l at ws xs ys zs e f g h =
    then-four l at (all_bytes 8 ws) (all_bytes 8 xs) (all_bytes 8 ys) (all_bytes 8 zs) e f g h
    ∙ ap (sets l at)
    (sym
    (all_append 8 (ws ++ xs ++ ys) zs
    ∙ ap (λ (bs : List ℕ). bs ++ all_bytes 8 zs) (all_append 8 (ws ++ xs) ys ∙ ap (λ (bs : List ℕ). bs ++ all_bytes 8 ys) (all_append 8 ws xs))))

-- the rows of a matrix of finite words
pub rows-finite : (m : Mat4) → Each Finite (words_of (Matrix m))
    → Each Finite (row_words m.r0) × Each Finite (row_words m.r1) × Each Finite (row_words m.r2) × Each Finite (row_words m.r3)
rows-finite m (a, (b, (c, (d, (e, (f, (g, (h, (i, (j, (k, (l, (n, (o, (p, (q, t)))))))))))))))) =
    ((a, (b, (c, (d, tt)))), (e, (f, (g, (h, tt)))), (i, (j, (k, (l, tt)))), (n, (o, (p, (q, tt)))))

-- ---- by the pass

-- a survey has room for the name
pub survey-near : {code place : List ℕ} {at next : ℕ} (kind ty : ℕ) (xs ws : List ℕ) → CodeRoom Survey code place at next (single (sizing V2) kind ty xs ws next) → next ≤ unit_bound
survey-near kind ty xs ws h = let d = h.end in omega arith

-- version 1 goes by no places
pub no-places : {code place : List ℕ} {at next : ℕ} {o : Inlined} → CodeRoom Sequential code place at next o → CodeRoom Sequential code [] at next o
no-places h = record { room = h.room; end = h.end; own = h.own }

module _ {pass pass' : Pass} (e : pass ≡ pass') {code place : List ℕ} {at next : ℕ} (kind ty : ℕ) (xs ws : List ℕ) where
  pub room_in : CodeRoom pass code place at next (single (sizing (naming_of pass)) kind ty xs ws next) → CodeRoom pass' code place at next (single (sizing (naming_of pass')) kind ty xs ws next)
  room_in h = subst (λ (p : Pass). CodeRoom p code place at next (single (sizing (naming_of p)) kind ty xs ws next)) e h

  pub walks-in : {m : ℕ} {wide code' place' wide' : List ℕ} {r : Reached} → Walks pass' m code place wide code' place' wide' at (single (sizing (naming_of pass')) kind ty xs ws next) r
      → Walks pass m code place wide code' place' wide' at (single (sizing (naming_of pass)) kind ty xs ws next) r
  walks-in {m} {wide} {code'} {place'} {wide'} {r} h =
      subst (λ (p : Pass). Walks p m code place wide code' place' wide' at (single (sizing (naming_of p)) kind ty xs ws next) r) (sym e) h

-- ---- what is walked over, by another name

module _ {pass : Pass} {code place : List ℕ} {at : ℕ} {o o' : Inlined} (e : o ≡ o') where
  pub same-room : {next : ℕ} → CodeRoom pass code place at next o → CodeRoom pass code place at next o'
  same-room {next} h = subst (λ (x : Inlined). CodeRoom pass code place at next x) e h

  pub same_walks : {m : ℕ} {wide code' place' wide' : List ℕ} {r : Reached} → Walks pass m code place wide code' place' wide' at o' r → Walks pass m code place wide code' place' wide' at o r
  same_walks {m} {wide} {code'} {place'} {wide'} {r} h = subst (λ (x : Inlined). Walks pass m code place wide code' place' wide' at x r) (sym e) h

-- ---- the node as read

module _ (ver : Version) (s locations : List ℕ) (k p c : ℕ) (ins : List ℕ) (first next : ℕ) (n : Node) (e : n ≡ node_of (node_at s p)) where
  by-payload : (y : Payload) → (node_at s p).payload ≡ y
      → (node_inlined ver s locations k p c ins first next ≡ inline_with ver (inlined (sizing ver) (before s k)) (addresses_in locations ins first c (length (reads_of y))) next (node_at s p) y)
      × (length (reads (node_at s p)) ≡ length (reads_of y))
  unfolding node_inlined
  by-payload y q = (
    ap (λ (z : Payload). inline_with ver (inlined (sizing ver) (before s k)) (addresses_in locations ins first c (length (reads_of z))) next (node_at s p) z) q,
    ap (λ (z : Payload). length (reads_of z)) q,
  )

  -- an instruction with the node's own kind and type bytes
  own-bytes : (xs ws : List ℕ) → single (sizing ver) (node_at s p).kind (node_at s p).type xs ws next ≡ single (sizing ver) n.kind n.ty xs ws next
  own-bytes xs ws = ap (λ (m : Node). single (sizing ver) m.kind m.ty xs ws next) (sym e)

  pub constant-inlined : Bytes s → ReadsNode s p → (v : Value) → n.payload ≡ Payloads.Payload.Constant v
      → (node_inlined ver s locations k p c ins first next ≡ single (sizing ver) n.kind n.ty [] (words_of v) next) × (length (reads (node_at s p)) ≡ 0)
      × Each Finite (words_of v)
  constant-inlined small r v q =
      let (c, finite) = constant-is s p n e small r v q in
      let (a, b) = by-payload (consts (words_of v)) c in
      (a ∙ own-bytes [] (words_of v), b, finite)

  pub operation-inlined : (r : Reads) → n.payload ≡ Payloads.Payload.References r
      → (node_inlined ver s locations k p c ins first next ≡ single (sizing ver) n.kind n.ty (addresses_in locations ins first c r.count) [] next)
      × (length (reads (node_at s p)) ≡ r.count)
  operation-inlined r q =
      let (rs, x, l) = references-are s p n e r q in
      let (a, b) = by-payload (refs rs) x in (
        a ∙ ap (λ (m : ℕ). single (sizing ver) (node_at s p).kind (node_at s p).type (addresses_in locations ins first c m) [] next) l
            ∙ own-bytes (addresses_in locations ins first c r.count) [],
        b ∙ l,
      )

  -- what it reads, as a part of all locations
  pub operation-part : (r : Reads) → n.payload ≡ Payloads.Payload.References r → (length (reads (node_at s p)) ≡ r.count)
      × (c + r.count ≤ length locations → (m : ℕ) → m ≡ r.count → node_inlined ver s locations k p c ins first next ≡ single (sizing ver) n.kind n.ty (map (address_of ins first) (take m (drop c locations))) [] next)
  operation-part r q =
      let (o, l) = operation-inlined r q in
      (l, λ fits m em. o ∙ ap (λ (xs : List ℕ). single (sizing ver) n.kind n.ty xs [] next) (addresses-part locations ins first r.count c fits em))
