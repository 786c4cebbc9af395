-- The faults 1 to 8: the header's checks, then the records in one reading from front to back.
use Rattle.std.specs.Prelude.{ℕ, zero, suc, ◌+◌, ◌*◌, ◌≤◌, ◌<◌, ◌≡◌, true, false, List, [], ◌∷◌, ◌≢◌, ◌⊎◌, length}
use Rattle.ports.specs.declared.Form.{Form}
use Rattle.ports.specs.declared.Form.TheVariants.{Absent, Constant, References, Call}
use Rattle.ports.specs.Kinds.{Kind, kind_of}
use Rattle.ports.specs.Ports.{arity, constant_words, form_of, legal}
use Rattle.value.specs.Values.{constant_word}
use Rattle.base.specs.Lists.{every, Is}
use Rattle.value.specs.Typed.{TypeCode}
use Rattle.base.specs.Outcome.{Outcome, fault}
use Rattle.base.specs.Bytes.{byte, u16, constants}
use Rattle.graph.specs.Format.{Format}
use Rattle.graph.specs.Checks.{Check, check, All, First, Says}
use Rattle.base.specs.Limits.{function_limit, port_limit}

abbrev pub NoTypeCode : ℕ → Type 0
NoTypeCode t = (t ≡ 0) ⊎ (3 < t)

-- 1 to 4 in this order, and the function count
abbrev pub header_checks : Format → List ℕ → List Check
header_checks format s =
    check 1 0 (8 ≤ length s) (length s < 8)
    ∷ check 2 0 ((byte s 0 ≡ 0x49) × (byte s 1 ≡ 0x46) × (byte s 2 ≡ 0x47)) ((byte s 0 ≢ 0x49) ⊎ ((byte s 1 ≢ 0x46) ⊎ (byte s 2 ≢ 0x47)))
    ∷ check 3 3 (u16 s 3 ≡ format.version) (u16 s 3 ≢ format.version)
    ∷ check 4 6 (format.size s ≡ length s) (format.size s ≢ length s)
    ∷ check 6 5 ((1 ≤ byte s 5) × (byte s 5 ≤ function_limit)) ((byte s 5 ≡ 0) ⊎ (function_limit < byte s 5))
    ∷ []

-- ---- records

pub data Shape : Type 0 where
  head input output node : Shape
  -- of a kind, by its form; for a call the first 3 bytes
  payload : Form → Kind → Shape
  -- a call's references together
  arguments : ℕ → Shape

abbrev pub size : Shape → ℕ
size head = 6
size input = 1
size output = 4
size node = 4
size (payload Absent k) = 0
size (payload Constant k) = 8 * constant_words k
size (payload References k) = 3 * arity k
size (payload Call k) = 3
size (arguments n) = 3 * n

-- n records of a shape, and then others
abbrev pub times : ℕ → Shape → List Shape → List Shape
times zero h hs = hs
times (suc n) h hs = h ∷ times n h hs

-- ---- the fields of a function's head

-- id, input count, output count and node count are in their ranges
abbrev pub HeadRight : ℕ → ℕ → ℕ → ℕ → ℕ → Type 0
HeadRight limit id input_count output_count count = (1 ≤ id) × (input_count ≤ port_limit) × (1 ≤ output_count) × (output_count ≤ port_limit) × (count ≤ limit)

-- or one of them is not
abbrev pub HeadWrong : ℕ → ℕ → ℕ → ℕ → ℕ → Type 0
HeadWrong limit id input_count output_count count = (id ≡ 0) ⊎ ((port_limit < input_count) ⊎ ((output_count ≡ 0) ⊎ ((port_limit < output_count) ⊎ (limit < count))))

-- ---- the reading

module _ (limit : ℕ) (s : List ℕ) where
  -- what is asked of the fields of the record at a place
  abbrev pub fields : Shape → ℕ → List Check
  fields head at =
      let id = u16 s at in
      let input_count = byte s (at + 2) in
      let output_count = byte s (at + 3) in
      let count = u16 s (at + 4) in
      check 6 at (HeadRight limit id input_count output_count count) (HeadWrong limit id input_count output_count count) ∷ []
  fields input at = check 6 at (TypeCode (byte s at)) (NoTypeCode (byte s at)) ∷ []
  fields output at = check 6 at (TypeCode (byte s at)) (NoTypeCode (byte s at)) ∷ []
  fields node at =
      let k = kind_of (byte s (at + 2)) in
      check 6 at ((1 ≤ u16 s at) × (legal k (byte s (at + 3)) ≡ true)) ((u16 s at ≡ 0) ⊎ (legal k (byte s (at + 3)) ≡ false)) ∷ []
  fields (payload Absent k) at = []
  fields (payload Constant k) at =
      let ws = constants (constant_words k) s at in
      check 7 at (every constant_word ws ≡ true) ((w : ℕ) × Is w ws × (constant_word w ≡ false)) ∷ []
  fields (payload References k) at = []
  fields (payload Call k) at = check 6 at (byte s (at + 2) ≤ port_limit) (port_limit < byte s (at + 2)) ∷ []
  fields (arguments n) at = []

  -- a record must fit before its fields are judged
  abbrev pub record_checks : Shape → ℕ → List Check
  record_checks h at = check 5 at (at + size h ≤ length s) (length s < at + size h) ∷ fields h at

  -- no bytes after the last function
  abbrev pub end_checks : ℕ → List Check
  end_checks at = check 8 at (at ≡ length s) (at ≢ length s) ∷ []

  -- the records behind the one at a place: those that it announces, and then those that were to come
  abbrev pub next : Shape → ℕ → List Shape → List Shape
  next head at hs = times (byte s (at + 2)) input (times (byte s (at + 3)) output (times (u16 s (at + 4)) node hs))
  next input at hs = hs
  next output at hs = hs
  next node at hs = let k = kind_of (byte s (at + 2)) in payload (form_of k) k ∷ hs
  next (payload Absent k) at hs = hs
  next (payload Constant k) at hs = hs
  next (payload References k) at hs = hs
  next (payload Call k) at hs = arguments (byte s (at + 2)) ∷ hs
  next (arguments n) at hs = hs

  -- what the reading of these records from a place on gives: it goes on only with a record that fitted and whose fields are right
  pub data Reading : List Shape → ℕ → Outcome (Unit {0}) → Type 0 where
    end : {at : ℕ} {o : Outcome (Unit {0})} → Says (end_checks at) o → Reading [] at o
    stop : {h : Shape} {hs : List Shape} {at n p : ℕ} → First (record_checks h at) n p → Reading (h ∷ hs) at (fault n p)
    on : {h : Shape} {hs : List Shape} {at : ℕ} {o : Outcome (Unit {0})} → All (record_checks h at) → Reading (next h at hs) (at + size h) o
        → Reading (h ∷ hs) at o

-- of a table: as many functions as its header says
abbrev pub ReadingOf : Format → List ℕ → Outcome (Unit {0}) → Type 0
ReadingOf format s = Reading format.node_limit s (times (byte s 5) head []) format.header
