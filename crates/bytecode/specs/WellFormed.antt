-- Board lists that have a code in a version: what `decode` asks, as statements.
use Rattle.std.specs.Prelude.{ℕ, ◌≤◌, ◌<◌, ◌≡◌, true, List, [], ◌∷◌, length}
use Rattle.ports.specs.Kinds.{kind_of}
use Rattle.ports.specs.Ports.{takes, constant_words, legal_instruction}
use Rattle.base.specs.Lists.{every, Word, Each}
use Rattle.base.specs.Limits.{operation_limit, word_limit, port_word_limit, address_limit}
use Rattle.value.specs.Values.{constant_word}
use Rattle.bytecode.specs.Run.{Instruction, BoardList}
use Rattle.bytecode.specs.Origin.{operand_places}
use Rattle.bytecode.specs.Ranges.{Range, behind, result_value}
use Rattle.bytecode.specs.declared.Version.{Version}
use Rattle.bytecode.specs.declared.Version.TheVariants.{V1, V2}
use Rattle.bytecode.specs.Code.{readable, argument_words, encode}

-- the words that are written after these instructions
abbrev pub written_by : List Range → List Instruction → List Range
written_by written [] = written
written_by written (i ∷ is) = written_by (result_value i ∷ written) is

-- the result takes the next words, or those at the address that the instruction carries
abbrev pub ResultAt : Version → List Range → ℕ → Type 0
ResultAt V1 written a = a ≡ behind written
ResultAt V2 written a = a < address_limit

pub record Formed (v : Version) (written : List Range) (i : Instruction) : Type 0 where
  pub legal : legal_instruction (kind_of i.kind) i.type ≡ true
  pub arity : length i.operands ≡ length (takes (kind_of i.kind) i.type)
  pub small : Each (λ a. a < address_limit) i.operands
  pub reads : Each (λ a. readable v written a ≡ true) (operand_places i)
  pub count : length i.constants ≡ constant_words (kind_of i.kind)
  pub words : Each Word i.constants
  pub constants : every constant_word i.constants ≡ true
  pub result : ResultAt v written i.result

abbrev pub AllFormed : Version → List Range → List Instruction → Type 0
AllFormed v written [] = Unit {0}
AllFormed v written (i ∷ is) = Formed v written i × AllFormed v (result_value i ∷ written) is

pub record FormedList (v : Version) (b : BoardList) : Type 0 where
  pub arguments : b.arguments ≤ port_word_limit
  pub some-output : 1 ≤ length b.outputs
  pub outputs : length b.outputs ≤ port_word_limit
  pub count : length b.instructions ≤ operation_limit
  pub words : b.words ≤ word_limit
  pub instructions : AllFormed v (argument_words b.arguments) b.instructions
  pub highest : behind (written_by (argument_words b.arguments) b.instructions) ≡ b.words
  pub small : Each (λ a. a < address_limit) b.outputs
  pub reads : Each (λ a. readable v (written_by (argument_words b.arguments) b.instructions) a ≡ true) b.outputs

-- well formed: the bytes are the code of such a list
pub record Codes (v : Version) (s : List ℕ) (b : BoardList) : Type 0 where
  pub formed : FormedList v b
  pub bytes : s ≡ encode v b
